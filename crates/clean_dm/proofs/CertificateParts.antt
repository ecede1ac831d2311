-- A certificate, by what holds of each row.
use Rattle.std.proofs.Common.{◌≡◌, ◌∙◌, ◌+◌, ◌<◌, ℕ, suc, List, [], ◌∷◌, ◌++◌, Option, Some, None, length, take, drop, refl, sym, ap, subst, arith}
use Rattle.std.specs.Prelude.{slice_get}
use Rattle.std.proofs.lemmas.List.{take_all}
use Rattle.members_dm.proofs.ElementsLemmas.{item_at_index, some_from_item}
use Rattle.schema_dm.specs.Schemas.{table_at}
use Rattle.schema_dm.specs.declared.table.ForeignKey.{ForeignKey}
use Rattle.table_csv.specs.Databases.{Data, rows_at}
use Rattle.keys_dm.specs.KeyCells.{row_at}
use Rattle.keys_dm.specs.Violations.{place_of}
use Rattle.keys_dm.specs.declared.violation.ViolationKind.{ViolationKind}
use Rattle.keys_dm.specs.declared.violation.ViolationKind.TheVariants.{NullKey, RepeatedKey, RepeatedUnique, Dangling}
use Rattle.clean_dm.specs.Checking.{HaveReasons, MayBreak, StayUnique, TablesAgree}
use Rattle.clean_dm.specs.Parts.{BreaksIn, DanglesIn, IsRow}
use Rattle.clean_dm.specs.Removing.{IsCertificate, IsLeft, IsOf, turn_of}
use Rattle.clean_dm.specs.Turns.{AreTurns, row_turn}
use Rattle.clean_dm.specs.declared.removal.Removal.{Removal}
use Rattle.clean_dm.specs.declared.turns.Turns.{Turns}
use Rattle.clean_dm.proofs.Largest.{removal_of, same_number}
use Rattle.clean_dm.proofs.RepeatedSteps.{own_breaks}
use Rattle.clean_dm.proofs.TurnLemmas.{left_until, left_without, split_at}

item_behind : {X : Type 0} (before after : List X) (x : X) → slice_get (before ++ x ∷ after) (length before) ≡ Some x
item_behind [] after x = refl
item_behind (y ∷ before) after x = item_behind before after x

front_of : {X : Type 0} (before after : List X) (x : X) → take (length before) (before ++ x ∷ after) ≡ before
front_of [] after x = refl
front_of (y ∷ before) after x = ap (λ ys. y ∷ ys) (front_of before after x)

may_break : (D : Data) (IsInPart : ℕ → ℕ → Type 0) (t i : ℕ) (kind : ViolationKind) → BreaksIn IsInPart D t i kind → MayBreak D t i kind
may_break D IsInPart t i NullKey h = h
may_break D IsInPart t i RepeatedKey h = h
may_break D IsInPart t i (RepeatedUnique number) h = h
may_break D IsInPart t i (Dangling number) h = (h.0, h.1)

module _ (D : Data) (removals : List Removal) (turns : Turns) (exact : AreTurns removals turns) where
  no_turn_left : (t i : ℕ) (turn : Option ℕ) → row_turn turns t i ≡ turn → IsLeft removals t i → turn ≡ None
  no_turn_left t i None e left = refl
  no_turn_left t i (Some k) e left = absurd (let at = (exact t i k).0 e in left (some_from_item (IsOf t i) at.0 removals (item_at_index at.0 removals k at.1) at.2))

  left_at_end : (t i : ℕ) → row_turn turns t i ≡ None → IsLeft removals t i
  left_at_end t i none =
      let all : take (length removals) removals ≡ removals = take_all (length removals) removals (omega arith) in
      subst (λ (made : List Removal). IsLeft made t i) all (left_without removals turns exact t i (length removals) none)

  -- ---- the parts give a certificate

  module _ (reasons : HaveReasons D removals) (unique : StayUnique D turns) (agree : TablesAgree D removals turns) (within : (t i : ℕ) → IsRow D t i → t < length D.tables) where
    breaks_at : (k : ℕ) (removal : Removal) (read : slice_get removals k ≡ Some removal) (t i : ℕ) → t < length D.tables → IsRow D t i → row_turn turns t i ≡ Some k → (kind : ViolationKind) → removal.kind ≡ kind → MayBreak D t i kind
        → BreaksIn (IsLeft (take k removals)) D t i kind
    breaks_at k removal read t i in_table is_row turn NullKey e h = h
    breaks_at k removal read t i in_table is_row turn RepeatedKey e h = h
    breaks_at k removal read t i in_table is_row turn (RepeatedUnique number) e h = h
    breaks_at k removal read t i in_table is_row turn (Dangling number) e h =
        (h.0, h.1, (agree t in_table h.1.0 h.0 h.1.2 i is_row).goes k removal turn read (e ∙ ap (λ n. Dangling n) h.1.1))

    stays_whole : (t i : ℕ) → t < length D.tables → IsRow D t i → row_turn turns t i ≡ None → (kind : ViolationKind) → ¬ BreaksIn (IsLeft removals) D t i kind
    stays_whole t i in_table is_row none NullKey h = unique t i NullKey in_table is_row none refl h
    stays_whole t i in_table is_row none RepeatedKey h = unique t i RepeatedKey in_table is_row none refl h
    stays_whole t i in_table is_row none (RepeatedUnique number) h = unique t i (RepeatedUnique number) in_table is_row none refl h
    stays_whole t i in_table is_row none (Dangling number) h = (agree t in_table h.1.0 h.0 h.1.2 i is_row).stays none h.2

    pub certificate_from : IsCertificate D removals
    certificate_from = record {
      chain = λ before after removal e.
          let k = length before in
          let read : slice_get removals k ≡ Some removal = subst (λ (rs : List Removal). slice_get rs k ≡ Some removal) (sym e) (item_behind before after removal) in
          let front : take k removals ≡ before = subst (λ (rs : List Removal). take k rs ≡ before) (sym e) (front_of before after removal) in
          let reason = reasons k removal read in
          let turn = (exact reason.t reason.i k).1 (removal, read, reason.of_row) in
          let left = left_until removals turns exact reason.t reason.i k k turn (omega arith) in
          let breaks = breaks_at k removal read reason.t reason.i reason.in_table reason.is_row turn removal.kind refl reason.reason in (
            turn_of removal.kind ∷ reason.t ∷ reason.i ∷ place_of removal.kind,
            record {
              t = reason.t;
              i = reason.i;
              of_row = reason.of_row;
              is_row = reason.is_row;
              left = subst (λ (made : List Removal). IsLeft made reason.t reason.i) front left;
              breaks = subst (λ (made : List Removal). BreaksIn (IsLeft made) D reason.t reason.i removal.kind) front breaks;
              stands = refl;
            },
          );
      done = λ place removal due.
          let none = no_turn_left due.t due.i (row_turn turns due.t due.i) refl due.left in
          stays_whole due.t due.i (within due.t due.i due.is_row) due.is_row none removal.kind due.breaks;
    }

  -- ---- and it gives them

  module _ (h : IsCertificate D removals) where
    pub reasons_from : ((t i : ℕ) → IsRow D t i → t < length D.tables) → HaveReasons D removals
    reasons_from within k removal read =
        let due = (h.chain (take k removals) (drop (suc k) removals) removal (split_at removals k removal read)).1 in
        record {
          t = due.t;
          i = due.i;
          of_row = due.of_row;
          in_table = within due.t due.i due.is_row;
          is_row = due.is_row;
          reason = may_break D (IsLeft (take k removals)) due.t due.i removal.kind due.breaks;
        }

    not_due : (t i : ℕ) (kind : ViolationKind) → IsRow D t i → row_turn turns t i ≡ None → ¬ BreaksIn (IsLeft removals) D t i kind
    not_due t i kind is_row none breaks = h.done (turn_of kind ∷ t ∷ i ∷ place_of kind) (removal_of t i kind) (record {
      t = t;
      i = i;
      of_row = (refl, refl);
      is_row = is_row;
      left = left_at_end t i none;
      breaks = breaks;
      stands = refl;
    })

    pub unique_from : StayUnique D turns
    unique_from t i kind in_table is_row none own violates = not_due t i kind is_row none (own_breaks D (IsLeft removals) t i kind own violates)

    dangles_at : (t i k place : ℕ) (key : ForeignKey) (removal : Removal) → slice_get (table_at D.tables t).foreign place ≡ Some key → row_turn turns t i ≡ Some k → slice_get removals k ≡ Some removal → removal.kind ≡ Dangling (place + 1)
        → DanglesIn (IsLeft (take k removals) key.target) (rows_at D.rows key.target) key (row_at (rows_at D.rows t) i)
    dangles_at t i k place key removal there turn read kind =
        let due = (h.chain (take k removals) (drop (suc k) removals) removal (split_at removals k removal read)).1 in
        let at = (exact t i k).0 turn in
        let one : Some at.0 ≡ Some removal = sym at.1 ∙ read in
        let same : at.0 ≡ removal = cc in
        let of_row : IsOf t i removal = subst (IsOf t i) same at.2 in
        let table : due.t ≡ t = same_number due.t t removal.table due.of_row.0 of_row.0 in
        let row : due.i ≡ i = same_number due.i i removal.row due.of_row.1 of_row.1 in
        let of_kind : BreaksIn (IsLeft (take k removals)) D due.t due.i (Dangling (place + 1)) = subst (BreaksIn (IsLeft (take k removals)) D due.t due.i) kind due.breaks in
        let here : BreaksIn (IsLeft (take k removals)) D t i (Dangling (place + 1)) =
        subst {A = ℕ × ℕ} (λ (q : ℕ × ℕ). BreaksIn (IsLeft (take k removals)) D q.0 q.1 (Dangling (place + 1))) (λ z. (table z, row z)) of_kind in
        let number : place + 1 ≡ here.1.0 + 1 = here.1.1 in
        let its_place : here.1.0 ≡ place = omega arith in
        let keys : Some here.0 ≡ Some key = sym here.1.2 ∙ ap (slice_get (table_at D.tables t).foreign) its_place ∙ there in
        let same_key : here.0 ≡ key = cc in
        subst (λ (f : ForeignKey). DanglesIn (IsLeft (take k removals) f.target) (rows_at D.rows f.target) f (row_at (rows_at D.rows t) i)) same_key here.2

    pub agree_from : TablesAgree D removals turns
    agree_from t in_table place key there i is_row = record {
      stays = λ none dangles. not_due t i (Dangling (place + 1)) is_row none (key, (place, refl, there), dangles);
      goes = λ k removal turn read kind. dangles_at t i k place key removal there turn read kind;
    }
