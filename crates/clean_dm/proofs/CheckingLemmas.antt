-- From which turn on something holds of rows, and what is told of rows, keys and tables one after another.
use Rattle.std.proofs.Common.{◌≡◌, ◌∙◌, ◌+◌, ◌-◌, ◌<◌, ◌≤◌, ◌≢◌, ℕ, get_or, set, zero, suc, List, [], ◌∷◌, ◌++◌, Option, Some, None, true, false, length, take, refl, sym, ap, subst, inl, inr, arith}
use Rattle.std.specs.Prelude.{◌↔◌, IfSome, slice_get}
use Rattle.std.specs.List.{AllZip}
use Rattle.std.proofs.Math.Dec.{ltb}
use Rattle.std.proofs.lemmas.Bool.{cases_lt, lt-ltb}
use Rattle.std.proofs.lemmas.Bool.Decides.{eqb_tells}
use Rattle.std.proofs.lemmas.List.{get_or-set_other, get_or-set_same, length-set, map-append, take_all}
use Rattle.std.proofs.lemmas.Option.{get_or_from_slice_get, slice_get_read, slice_get_within}
use Rattle.table_csv.proofs.Zips.{one_read}
use Rattle.keys_dm.specs.Indexes.{IsIndexOf}
use Rattle.keys_dm.specs.declared.index.KeyIndex.{KeyIndex}
use Rattle.members_dm.specs.Membership.{IsIn}
use Rattle.members_dm.specs.Places.{Place, IsListing}
use Rattle.members_dm.proofs.MembershipLemmas.{IsIn-append, IsIn-back, IsIn-front, IsIn-map, map-IsIn}
use Rattle.schema_dm.specs.declared.table.ForeignKey.{ForeignKey}
use Rattle.table_csv.specs.Cells.{Cell, Row, cells_at}
use Rattle.table_csv.specs.Databases.{Data, rows_at}
use Rattle.keys_dm.specs.Entries.{positions_of}
use Rattle.keys_dm.specs.KeyCells.{AreRowsWith, IsRowWith, row_at}
use Rattle.keys_dm.specs.Violations.{HasNumber, Violates, ViolatesAt, place_of}
use Rattle.keys_dm.specs.declared.index.Entry.{Entry}
use Rattle.keys_dm.specs.declared.violation.Violation.{Violation}
use Rattle.keys_dm.specs.declared.violation.ViolationKind.{ViolationKind}
use Rattle.clean_dm.specs.Checking.{AgreesAt, HoldsFrom, KnowsGroups, NoneLeftWith, RowAgrees, StaysWrongly, StayUnique}
use Rattle.clean_dm.specs.Parts.{DanglesIn, IsRow}
use Rattle.clean_dm.specs.Removing.{IsLeft}
use Rattle.clean_dm.specs.Turns.{AreTurns, row_turn}
use Rattle.clean_dm.specs.declared.removal.Removal.{Removal}
use Rattle.clean_dm.specs.declared.turns.Turns.{Turns}
use Rattle.clean_dm.proofs.Largest.{same_number}
use Rattle.clean_dm.proofs.TurnLemmas.{gone_after, left_until, left_without}

-- ---- from which turn on

module _ (removals : List Removal) where
  pub from_both : (A B : List Removal → Type 0) (m n r : ℕ) → HoldsFrom removals A m → HoldsFrom removals B n → ((k : ℕ) → (r ≤ k) ↔ ((m ≤ k) × (n ≤ k))) → HoldsFrom removals (λ made. A made × B made) r
  from_both A B m n r a b both k within = (
    (λ h. let p = (both k).0 h in ((a k within).0 p.0, (b k within).0 p.1)),
    (λ h. (both k).1 ((a k within).1 h.0, (b k within).1 h.1)),
  )

  pub from_same : (A B : List Removal → Type 0) (m : ℕ) → ((made : List Removal) → A made ↔ B made) → HoldsFrom removals A m → HoldsFrom removals B m
  from_same A B m same a k within = ((λ h. (same (take k removals)).0 ((a k within).0 h)), (λ h. (a k within).1 ((same (take k removals)).1 h)))

  pub from_first : (A : List Removal → Type 0) → ((made : List Removal) → A made) → HoldsFrom removals A 0
  from_first A always k within = ((λ h. always (take k removals)), (λ h. omega arith))

  pub from_never : (A : List Removal → Type 0) → ((made : List Removal) → ¬ A made) → HoldsFrom removals A (length removals + 1)
  from_never A never k within = ((λ h. absurd (omega (arith, h, within))), (λ h. absurd (never (take k removals) h)))

module _ (removals : List Removal) (turns : Turns) (exact : AreTurns removals turns) where
  pub gone_never : (t i : ℕ) → row_turn turns t i ≡ None → HoldsFrom removals (λ made. ¬ IsLeft made t i) (length removals + 1)
  gone_never t i none k within = ((λ h. absurd (omega (arith, h, within))), (λ gone. absurd (gone (left_without removals turns exact t i k none))))

  pub gone_behind : (t i turn : ℕ) → row_turn turns t i ≡ Some turn → HoldsFrom removals (λ made. ¬ IsLeft made t i) (turn + 1)
  gone_behind t i turn has k within = (
    (λ h. gone_after removals turns exact t i k turn has (omega (arith, h))),
    (λ gone. elim (cases_lt turn k) [
      | inl less ↦ omega (arith, less)
      | inr more ↦ absurd (gone (left_until removals turns exact t i k turn has more))
    ]),
  )

-- ---- rows of entries

-- none of the entries' rows is left
abbrev pub AllGone : ℕ → List Entry → List Removal → Type 0
AllGone t entries made = (j : ℕ) → IsIn j (positions_of entries) → ¬ IsLeft made t j

pub gone_none : (removals : List Removal) (t : ℕ) → HoldsFrom removals (AllGone t []) 0
gone_none removals t = from_first removals (AllGone t []) (λ made j i. absurd i)

one_more_gone : (t : ℕ) (entries : List Entry) (entry : Entry) (made : List Removal) → (AllGone t entries made × (¬ IsLeft made t entry.row)) ↔ AllGone t (entries ++ entry ∷ []) made
one_more_gone t entries entry made = (
  (λ h j i. elim (IsIn-append j (positions_of entries) (entry.row ∷ []) (subst (IsIn j) (map-append (λ (e : Entry). e.row) entries (entry ∷ [])) i)) [
    | inl front ↦ h.0 j front
    | inr (inl e) ↦ subst (λ (p : ℕ). ¬ IsLeft made t p) e h.1
    | inr (inr none) ↦ absurd none
  ]),
  (λ h. (
    (λ j i. h j (subst (IsIn j) (sym (map-append (λ (e : Entry). e.row) entries (entry ∷ []))) (IsIn-front j (positions_of entries) (entry.row ∷ []) i))),
    h entry.row (subst (IsIn entry.row) (sym (map-append (λ (e : Entry). e.row) entries (entry ∷ []))) (IsIn-back entry.row (positions_of entries) (entry.row ∷ []) (inl refl))),
  )),
)

pub gone_more : (removals : List Removal) (t m n r : ℕ) (entries : List Entry) (entry : Entry) → HoldsFrom removals (AllGone t entries) m → HoldsFrom removals (λ made. ¬ IsLeft made t entry.row) n
    → ((k : ℕ) → (r ≤ k) ↔ ((m ≤ k) × (n ≤ k))) → HoldsFrom removals (AllGone t (entries ++ entry ∷ [])) r
gone_more removals t m n r entries entry a b both =
    from_same removals (λ made. AllGone t entries made × (¬ IsLeft made t entry.row)) (AllGone t (entries ++ entry ∷ [])) r (one_more_gone t entries entry)
    (from_both removals (AllGone t entries) (λ made. ¬ IsLeft made t entry.row) m n r a b both)

-- ---- rows with the same cells

pub group_gone : (D : Data) (key : ForeignKey) (cells : List Cell) (entries : List Entry) → AreRowsWith (rows_at D.rows key.target) key.target_columns cells (positions_of entries) →
    (made : List Removal) → AllGone key.target entries made ↔ NoneLeftWith D key cells made
group_gone D key cells entries are made = (
  (λ h j left with. h j ((are.exact j).1 with) left),
  (λ h j i left. h j left ((are.exact j).0 i)),
)

-- the noted turns, with one more
pub knows_more : (D : Data) (removals : List Removal) (key : ForeignKey) (known : List (Option ℕ)) (first turn : ℕ) → KnowsGroups D removals key known → first < length known →
    HoldsFrom removals (NoneLeftWith D key (cells_at key.target_columns (row_at (rows_at D.rows key.target) first))) turn → KnowsGroups D removals key (set known first (Some turn))
knows_more D removals key known first turn knows inside from p m is =
    let within : p < length (set known first (Some turn)) = slice_get_within (set known first (Some turn)) p (Some m) is in
    let long : length (set known first (Some turn)) ≡ length known = length-set known first (Some turn) in
    let read : get_or (set known first (Some turn)) p None ≡ Some m = get_or_from_slice_get (set known first (Some turn)) p (Some m) None is in
    elim (eqb_tells p first) [
      | inl e ↦
          (let same : p ≡ first = e.1 in
          let put : get_or (set known first (Some turn)) first None ≡ Some turn = get_or-set_same known first (Some turn) None inside in
          let one : Some turn ≡ Some m = sym put ∙ ap (λ (q : ℕ). get_or (set known first (Some turn)) q None) (sym same) ∙ read in
          let turns : turn ≡ m = cc in
          subst (λ (n : ℕ). HoldsFrom removals (NoneLeftWith D key (cells_at key.target_columns (row_at (rows_at D.rows key.target) p))) n) turns
          (subst (λ (q : ℕ). HoldsFrom removals (NoneLeftWith D key (cells_at key.target_columns (row_at (rows_at D.rows key.target) q))) turn) (sym same) from))
      | inr e ↦
          (let apart : p ≢ first = e.1 in
          let kept : get_or (set known first (Some turn)) p None ≡ get_or known p None = get_or-set_other known first p (Some turn) None apart in
          let there : slice_get known p ≡ Some (get_or known p None) = slice_get_read known (length known) p (get_or known p None) refl (omega (arith, within, long)) (one_read known p None (get_or known p None) (omega (arith, within, long))) in
          knows p m (there ∙ ap Some (sym kept ∙ read)))
    ]

-- ---- a row and a key

-- the row's cells are in the referenced columns of the first of these rows
pub first_cells : (rows : List Row) (columns : List ℕ) (cells : List Cell) (first : Entry) (entries : List Entry) → AreRowsWith rows columns cells (positions_of (first ∷ entries)) → IsRowWith rows columns cells first.row
first_cells rows columns cells first entries are = (are.exact first.row).0 (inl refl)

module _ (D : Data) (removals : List Removal) (key : ForeignKey) (row : Row) where
  abbrev Dangling_in : List Removal → Type 0
  Dangling_in made = DanglesIn (IsLeft made key.target) (rows_at D.rows key.target) key row

  pub null_never : IsIn None (cells_at key.columns row) → HoldsFrom removals Dangling_in (length removals + 1)
  null_never null = from_never removals Dangling_in (λ made h. h.0 null)

  pub lone_always : ¬ IsIn None (cells_at key.columns row) → AreRowsWith (rows_at D.rows key.target) key.target_columns (cells_at key.columns row) [] → HoldsFrom removals Dangling_in 0
  lone_always whole are = from_first removals Dangling_in (λ made. (whole, λ j left with. (are.exact j).1 with))

  pub dangles_with : (cells : List Cell) (m : ℕ) → ¬ IsIn None (cells_at key.columns row) → cells ≡ cells_at key.columns row → HoldsFrom removals (NoneLeftWith D key cells) m → HoldsFrom removals Dangling_in m
  dangles_with cells m whole same from =
      from_same removals (NoneLeftWith D key cells) Dangling_in m
      (λ made. (
        (λ h. (whole, λ j left. subst (λ (cs : List Cell). ¬ IsRowWith (rows_at D.rows key.target) key.target_columns cs j) same (h j left))),
        (λ h j left. subst (λ (cs : List Cell). ¬ IsRowWith (rows_at D.rows key.target) key.target_columns cs j) (sym same) (h.1 j left)),
      ))
      from

-- what is told of a row by its turn and that from which on it dangles
pub row_agrees : (D : Data) (removals : List Removal) (turns : Turns) (t i number from : ℕ) (key : ForeignKey) →
    HoldsFrom removals (λ made. DanglesIn (IsLeft made key.target) (rows_at D.rows key.target) key (row_at (rows_at D.rows t) i)) from → AreTurns removals turns →
    AgreesAt removals (row_turn turns t i) number from ↔ RowAgrees D removals turns t i number key
row_agrees D removals turns t i number from key holds exact = (
  (λ h. record {
    stays = λ none dangles.
        let late = h.stays none in
        let early : from ≤ length removals = (holds (length removals) (omega arith)).1 (subst (λ (made : List Removal). DanglesIn (IsLeft made key.target) (rows_at D.rows key.target) key (row_at (rows_at D.rows t) i)) (sym whole) dangles) in
        omega (arith, late, early);
    goes = λ k removal turn read kind. (holds k (below k turn)).0 (h.goes k removal turn read kind);
  }),
  (λ h. record {
    stays = λ none. elim (cases_lt (length removals) from) [
      | inl late ↦ late
      | inr early ↦ absurd (h.stays none (subst (λ (made : List Removal). DanglesIn (IsLeft made key.target) (rows_at D.rows key.target) key (row_at (rows_at D.rows t) i)) whole ((holds (length removals) (omega arith)).0 early)))
    ];
    goes = λ k removal turn read kind. (holds k (below k turn)).1 (h.goes k removal turn read kind);
  }),
)
  where
    whole : take (length removals) removals ≡ removals
    whole = take_all (length removals) removals (omega arith)

    below : (k : ℕ) → row_turn turns t i ≡ Some k → k ≤ length removals
    below k turn = let at = (exact t i k).0 turn in let less = slice_get_within removals k at.0 at.1 in omega (arith, less)

-- the first of some rows with these cells
pub first_with : (rows : List Row) (columns : List ℕ) (cells : List Cell) (entries : List Entry) (d : Entry) → 1 ≤ length entries → AreRowsWith rows columns cells (positions_of entries) → IsRowWith rows columns cells (get_or entries 0 d).row
first_with rows columns cells [] d some are = absurd (omega arith)
first_with rows columns cells (entry ∷ entries) d some are = (are.exact entry.row).0 (inl refl)

pub lone_with : (D : Data) (removals : List Removal) (key : ForeignKey) (row : Row) (entries : List Entry) → length entries < 1 → ¬ IsIn None (cells_at key.columns row) →
    AreRowsWith (rows_at D.rows key.target) key.target_columns (cells_at key.columns row) (positions_of entries) →
    HoldsFrom removals (λ made. DanglesIn (IsLeft made key.target) (rows_at D.rows key.target) key row) 0
lone_with D removals key row [] none whole are = lone_always D removals key row whole are
lone_with D removals key row (entry ∷ entries) none whole are = absurd (omega arith)

-- a turn that is noted is one
pub turn_below : (removals : List Removal) (turns : Turns) (exact : AreTurns removals turns) (t i : ℕ) (turn : Option ℕ) → turn ≡ row_turn turns t i → IfSome turn (λ k. k < length removals)
turn_below removals turns exact t i None e = tt
turn_below removals turns exact t i (Some k) e = let at = (exact t i k).0 (sym e) in slice_get_within removals k at.0 at.1

-- ---- keys by their numbers

pub item_read : {X : Type 0} (xs : List X) (n : ℕ) (d : X) → n < length xs → slice_get xs n ≡ Some (get_or xs n d)
item_read xs n d below = slice_get_read xs (length xs) n (get_or xs n d) refl below (one_read xs n d (get_or xs n d) below)

pub has_number : (keys : List ForeignKey) (number : ℕ) → 0 < number → (number ≤ length keys) ↔ ((key : ForeignKey) × HasNumber keys number key)
has_number keys number some = (there keys number some, back)
  where
    back : ((key : ForeignKey) × HasNumber keys number key) → number ≤ length keys
    back h = let less = slice_get_within keys h.1.0 h.0 h.1.2 in let e = h.1.1 in omega arith

    there : (ks : List ForeignKey) (n : ℕ) → 0 < n → n ≤ length ks → (key : ForeignKey) × HasNumber ks n key
    there [] n positive within = absurd (omega arith)
    there (k ∷ ks) n positive within =
        let below : n - 1 < length (k ∷ ks) = omega arith in
        (get_or (k ∷ ks) (n - 1) k, (n - 1, omega arith, item_read (k ∷ ks) (n - 1) k below))

-- beyond the keys there is no number
pub no_number : (keys : List (List ℕ)) (number : ℕ) (places : List ℕ) → false ≡ ltb (number - 1) (length keys) → ¬ HasNumber keys number places
no_number keys number places none h =
    let less = slice_get_within keys h.0 places h.2 in
    let number_is = h.1 in
    let yes : ltb (number - 1) (length keys) ≡ true = lt-ltb (number - 1) (length keys) (omega arith) in
    let no : false ≡ true = none ∙ yes in
    cc

-- a number is that of one key
pub one_number : (keys : List (List ℕ)) (number : ℕ) (places other : List ℕ) → HasNumber keys number places → slice_get keys (number - 1) ≡ Some other → places ≡ other
one_number keys number places other h got =
    let number_is = h.1 in
    let at : h.0 ≡ number - 1 = omega arith in
    let same : Some places ≡ Some other = sym h.2 ∙ ap (slice_get keys) at ∙ got in
    cc

pub unique_index : (rows : List Row) (keys : List (List ℕ)) (indexes : List KeyIndex) (k : ℕ) (places : List ℕ) (index : KeyIndex) → AllZip (IsIndexOf rows) keys indexes → slice_get keys k ≡ Some places → slice_get indexes k ≡ Some index → IsIndexOf rows places index
unique_index rows [] [] k places index h e f = absurd cc
unique_index rows [] (i ∷ indexes) k places index h e f = absurd h
unique_index rows (p ∷ keys) [] k places index h e f = absurd h
unique_index rows (p ∷ keys) (i ∷ indexes) zero places index h e f =
    let same : p ≡ places = cc in
    let one : i ≡ index = cc in
    subst (λ (q : List ℕ). IsIndexOf rows q index) same (subst (IsIndexOf rows p) one h.0)
unique_index rows (p ∷ keys) (i ∷ indexes) (suc k) places index h e f = unique_index rows keys indexes k places index h.1 e f

-- ---- what holds of all rows before a position

pub below_one_more : (P : ℕ → Type 0) (n : ℕ) → ((i : ℕ) → i < n → P i) → P n → (i : ℕ) → i < n + 1 → P i
below_one_more P n before here i less = elim (eqb_tells i n) [
  | inl e ↦ subst P (sym e.1) here
  | inr e ↦ (let apart : i ≡ n → ⊥ = e.1 in before i (omega arith))
]

-- ---- violations of primary and unique keys

-- a violation that is listed is one
listed_violates : (D : Data) (found : List Violation) → IsListing (ViolatesAt D) found → (violation : Violation) → IsIn violation found → (place : Place) × ViolatesAt D place violation
listed_violates D found listed violation i =
    let there : (a : Place × Violation) × IsIn {X = Place × Violation} a listed.placed × (a.1 ≡ violation) = IsIn-map (λ (a : Place × Violation). a.1) violation listed.placed (subst (IsIn violation) listed.items i) in
    (there.0.0, subst (ViolatesAt D there.0.0) there.2 ((listed.exact there.0.0 there.0.1).0 there.1))

-- and each violation is listed
violates_listed : (D : Data) (found : List Violation) → IsListing (ViolatesAt D) found → (t i : ℕ) (kind : ViolationKind) → t < length D.tables → IsRow D t i → Violates D t i kind →
    IsIn (record { table = t + 1; row = i + 1; kind = kind }) found
violates_listed D found listed t i kind in_table is_row violates =
    let violation : Violation = record { table = t + 1; row = i + 1; kind = kind } in
    let place : Place = t ∷ i ∷ place_of kind in
    let at : ViolatesAt D place violation = record {
      t = t;
      i = i;
      rest = place_of kind;
      in_table = in_table;
      in_row = is_row;
      stands = refl;
      violates = record { broken = violates; table = refl; row = refl; stands = refl };
    } in
    subst (IsIn violation) (sym listed.items) (map-IsIn (λ (a : Place × Violation). a.1) (place, violation) listed.placed ((listed.exact place violation).1 at))

module _ (D : Data) (turns : Turns) (found : List Violation) (listed : IsListing (ViolatesAt D) found) where
  -- one that stays wrongly is one that stays
  pub wrong_stays : (violation : Violation) → IsIn violation found → StaysWrongly D turns violation → ¬ StayUnique D turns
  wrong_stays violation i wrong unique =
      let at = (listed_violates D found listed violation i).1 in
      let table : at.t ≡ wrong.t = same_number at.t wrong.t violation.table at.violates.table wrong.table in
      let row : at.i ≡ wrong.i = same_number at.i wrong.i violation.row at.violates.row wrong.row in
      let violates : Violates D wrong.t wrong.i violation.kind = subst {A = ℕ × ℕ} (λ (q : ℕ × ℕ). Violates D q.0 q.1 violation.kind) (λ z. (table z, row z)) at.violates.broken in
      unique wrong.t wrong.i violation.kind wrong.in_table wrong.is_row wrong.none wrong.own violates

  pub none_wrong : ((violation : Violation) → IsIn violation found → ¬ StaysWrongly D turns violation) → StayUnique D turns
  none_wrong none t i kind in_table is_row turn own violates =
      none (record { table = t + 1; row = i + 1; kind = kind }) (violates_listed D found listed t i kind in_table is_row violates)
      (record { own = own; t = t; i = i; table = refl; row = refl; in_table = in_table; is_row = is_row; none = turn })
