-- Lawful drafts stand for a schema.
use Rattle.std.proofs.Common.{◌≡◌, ◌∙◌, ◌⊎◌, ℕ, zero, suc, ◌+◌, ◌<◌, ◌≤◌, List, [], ◌∷◌, ◌++◌, map, length, take, get_or, Option, Some, None, Bool, true, false, cond, not, All, Any, refl, sym, ap, subst, inl, inr, arith, codes}
use Rattle.std.specs.Prelude.{slice_get}
use Rattle.std.specs.Option.{option_map}
use Rattle.std.specs.List.{position_or_len}
use Rattle.std.specs.Cmp.Lexicographic.{bytes_decides}
use Rattle.std.specs.List.Sorted.{IsPermutation}
use Rattle.std.proofs.lemmas.Bool.{cases_eq, cases_lt}
use Rattle.std.proofs.lemmas.List.{length-map, get_or_default}
use Rattle.std.proofs.lemmas.Option.{slice_get_read}
use Rattle.std.proofs.lemmas.List.Sorted.{IsPermutation-map, Contains-permutation}
use Rattle.members_dm.specs.Membership.{IsIn, NoRepeats}
use Rattle.members_dm.specs.Elements.{Repeats}
use Rattle.members_dm.proofs.MembershipLemmas.{map-IsIn, IsIn-map}
use Rattle.members_dm.proofs.ElementsLemmas.{index_of_item, item_at_index, item_within, NoRepeats-from_not, NoRepeats-map}
use Rattle.members_dm.proofs.ElementsTests.{IsIn-decides, stable_by_test}
use Rattle.value_dm.specs.declared.kind.Kind.{Kind}
use Rattle.schema_dm.specs.declared.draft.Column.{Column}
use Rattle.schema_dm.specs.declared.draft.ForeignDraft.{ForeignDraft}
use Rattle.schema_dm.specs.declared.draft.TableDraft.{TableDraft}
use Rattle.schema_dm.specs.declared.table.Table.{Table}
use Rattle.schema_dm.specs.declared.table.ForeignKey.{ForeignKey}
use Rattle.schema_dm.specs.declared.refusal.SchemaCause.TheVariants.{BadName, NoColumn, TooManyColumns, DuplicateTable, DuplicateColumn, UnknownColumn, UnknownTable, TwoPrimaryKeys, NotAKey, KindMismatch, SameColumnsTwice, NameClash}
use Rattle.schema_dm.specs.Naming.{Name, same_name, IsBadName, Declares, column_names, column_place, kind_at}
use Rattle.schema_dm.specs.Drafts.{AnyUniqueList, AnyOwnList, DeclaresTable, table_place, target_of, referenced_columns, AreNoKey, ReferencesNoKey, kind_of_name, AnyKindsDiffer, KindsOfKeyDiffer, ReferencesOtherKinds, ClashesWith, IsSound, AreLawful}
use Rattle.schema_dm.specs.Schemas.{places_of, places_if_given, target_places, foreign_key_of, table_of, schema_of, no_table, table_at, AreColumns, IsUniqueKey, IsForeignKey, IsTable, IsSchema}
use Rattle.members_dm.proofs.AnyLemmas.{Any-cons, Any-head, Any-tail, Any-nil, key_IsIn, IsIn_key, any_from_item, item_from_any}
use Rattle.schema_dm.proofs.Reordered.{reordered_stable}
use Rattle.schema_dm.proofs.SameKinds.{same_kinds}

-- ---- lists

map_map : {X Y Z : Type 0} (f : Y → Z) (g : X → Y) (xs : List X) → map f (map g xs) ≡ map (λ x. f (g x)) xs
map_map f g [] = refl
map_map f g (x ∷ xs) = ap (λ rest. f (g x) ∷ rest) (map_map f g xs)

mapped_at : {X Y : Type 0} (f : X → Y) (d : Y) (xs : List X) (k : ℕ) (x : X) → slice_get xs k ≡ Some x → get_or (map f xs) k d ≡ f x
mapped_at f d [] k x e = absurd (cc)
mapped_at f d (y ∷ ys) zero x e = ap f (let h : Some y ≡ Some x = e in cc)
mapped_at f d (y ∷ ys) (suc k) x e = mapped_at f d ys k x e

the_only : {X : Type 0} (x : X) (xs : List X) → ¬ (1 < length xs) → IsIn x xs → slice_get xs 0 ≡ Some x
the_only x [] one h = absurd h
the_only x (y ∷ []) one (inl is) = ap (λ z. Some z) is
the_only x (y ∷ []) one (inr h) = absurd h
the_only x (y ∷ z ∷ ys) one h = absurd (one (omega arith))

permuted_item : {X : Type 0} (x : X) (xs ys : List X) → IsPermutation xs ys → IsIn x xs → IsIn x ys
permuted_item x xs ys moved h =
    let at : (k : ℕ) × (k < length xs) × (slice_get xs k ≡ Some x) = index_of_item x xs h in
    let r : (k : ℕ) × (k < length ys) × (get_or ys k x ≡ x) = Contains-permutation xs ys x moved (at.0, at.1, read xs at.0 at.2) in
    subst (λ y. IsIn y ys) r.2 (item_within ys r.0 x r.1)
  where
    read : (zs : List _) (k : ℕ) → slice_get zs k ≡ Some x → get_or zs k x ≡ x
    read [] k e = refl
    read (z ∷ zs) zero e = (let f : Some z ≡ Some x = e in cc)
    read (z ∷ zs) (suc k) e = read zs k e

-- ---- the first place of a name

-- an item of the name stands at the place
abbrev StandsAt : {X : Type 0} → (X → Name) → Name → List X → ℕ → Type 0
StandsAt {X} f name xs k = (x : X) × (slice_get xs k ≡ Some x) × (f x ≡ name) × (k < length xs)

abbrev first_place : {X : Type 0} → (X → Name) → Name → List X → ℕ
first_place f name xs = position_or_len (λ x. same_name (f x) name) xs

stands_at_place : {X : Type 0} (f : X → Name) (name : Name) (xs : List X) → Any (λ x. f x ≡ name) xs → StandsAt f name xs (first_place f name xs)
stands_at_place f name [] h = absurd (Any-nil (λ x. f x ≡ name) h)
stands_at_place {X} f name (x ∷ xs) h = at (λ k. stands_at_place f name xs k) (same_name (f x) name) refl
  where
    at : (Any (λ y. f y ≡ name) xs → StandsAt f name xs (first_place f name xs)) → (b : Bool) → same_name (f x) name ≡ b → StandsAt f name (x ∷ xs) (cond (not b) (1 + first_place f name xs) 0)
    at later true e = (x, refl, (bytes_decides (f x) name).0 e, omega arith)
    at later false e =
        let no : ¬ (f x ≡ name) = λ is. (let t : true ≡ false = sym ((bytes_decides (f x) name).1 is) ∙ e in cc) in
        let r : StandsAt f name xs (first_place f name xs) = elim (Any-cons (λ y. f y ≡ name) x xs h) [ inl is ↦ absurd (no is) | inr k ↦ later k ] in
        let next : suc (first_place f name xs) ≡ 1 + first_place f name xs = omega arith in
        (r.0, subst (λ n. slice_get (x ∷ xs) n ≡ Some r.0) next r.1, r.2, omega arith)

declared_stable : {X : Type 0} (f : X → Name) (name : Name) (xs : List X) → ¬ (¬ Any (λ x. f x ≡ name) xs) → Any (λ x. f x ≡ name) xs
declared_stable f name xs h = IsIn_key f name xs (stable_by_test _ (IsIn-decides same_name bytes_decides name (map f xs)) (λ n. h (λ a. n (key_IsIn f name xs a))))

column_at_place : (columns : List Column) (name : Name) → Declares columns name → StandsAt (λ column. column.name) name columns (column_place columns name)
column_at_place columns name h = stands_at_place (λ column. column.name) name columns h

place_injective : (columns : List Column) (x y : Name) → Declares columns x → Declares columns y → column_place columns x ≡ column_place columns y → x ≡ y
place_injective columns x y h k e =
    let a = column_at_place columns x h in
    let b = column_at_place columns y k in
    let same : Some a.0 ≡ Some b.0 = sym a.1 ∙ ap (slice_get columns) e ∙ b.1 in
    let one : a.0 ≡ b.0 = cc in
    sym a.2 ∙ ap (λ column. column.name) one ∙ b.2

places_injective : (columns : List Column) (xs ys : List Name) → ((x : Name) → IsIn x xs → Declares columns x) → ((y : Name) → IsIn y ys → Declares columns y) → places_of columns xs ≡ places_of columns ys → xs ≡ ys
places_injective columns [] [] h k e = refl
places_injective columns [] (y ∷ ys) h k e = absurd (cc)
places_injective columns (x ∷ xs) [] h k e = absurd (cc)
places_injective columns (x ∷ xs) (y ∷ ys) h k e =
    let heads : column_place columns x ≡ column_place columns y = cc in
    let tails : places_of columns xs ≡ places_of columns ys = cc in
    let first : x ≡ y = place_injective columns x y (h x (inl refl)) (k y (inl refl)) heads in
    let rest : xs ≡ ys = places_injective columns xs ys (λ z i. h z (inr i)) (λ z i. k z (inr i)) tails in
    ap (λ z. z ∷ xs) first ∙ ap (λ zs. y ∷ zs) rest

kind_of_declared : (columns : List Column) (name : Name) → Declares columns name → (kind : Kind) × (kind_of_name columns name ≡ Some kind)
kind_of_declared columns name h = let a = column_at_place columns name h in (a.0.kind, ap (option_map (λ column. column.kind)) a.1)

equal_kinds : (columns : List Column) (names : List Name) (others : List Column) (targets : List Name) → length targets ≡ length names
    → ((x : Name) → IsIn x names → Declares columns x) → ((y : Name) → IsIn y targets → Declares others y) → ¬ AnyKindsDiffer columns names others targets
    → map (kind_at columns) (places_of columns names) ≡ map (kind_at others) (places_of others targets)
equal_kinds columns [] others [] long h k none = refl
equal_kinds columns [] others (y ∷ ys) long h k none = absurd (omega arith)
equal_kinds columns (x ∷ xs) others [] long h k none = absurd (omega arith)
equal_kinds columns (x ∷ xs) others (y ∷ ys) long h k none =
    let a = kind_of_declared columns x (h x (inl refl)) in
    let b = kind_of_declared others y (k y (inl refl)) in
    let first : kind_of_name columns x ≡ kind_of_name others y = same_kinds (kind_of_name columns x) (kind_of_name others y) a.0 b.0 a.1 b.1 (λ differ. none (inl differ)) in
    let shorter : length ys ≡ length xs = omega arith in
    let rest : map (kind_at columns) (places_of columns xs) ≡ map (kind_at others) (places_of others ys) =
    equal_kinds columns xs others ys shorter (λ z i. h z (inr i)) (λ z i. k z (inr i)) (λ later. none (inr later)) in
    ap (λ z. z ∷ map (kind_at columns) (places_of columns xs)) first ∙ ap (λ zs. kind_of_name others y ∷ zs) rest

-- ---- one sound draft

-- one of the draft's own lists
abbrev IsOwnList : TableDraft → List Name → Type 0
IsOwnList draft names = (IsIn names draft.primaries ⊎ IsIn names draft.uniques) ⊎ ((key : ForeignDraft) × IsIn key draft.foreign × (key.columns ≡ names))

own_lacks : (P : List Name → Type 0) (draft : TableDraft) (names : List Name) → IsOwnList draft names → ¬ AnyOwnList P draft → ¬ P names
own_lacks P draft names (inl (inl h)) none p = none (inl (inl (any_from_item P names draft.primaries h p)))
own_lacks P draft names (inl (inr h)) none p = none (inl (inr (any_from_item P names draft.uniques h p)))
own_lacks P draft names (inr (key, h, is)) none p = none (inr (any_from_item (λ k. P k.columns) key draft.foreign h (subst P (sym is) p)))

module _ (drafts : List TableDraft) (place : ℕ) (draft : TableDraft) (sound : IsSound drafts place draft) where
  own_declared : (names : List Name) → IsOwnList draft names → (x : Name) → IsIn x names → Declares draft.columns x
  own_declared names own x h =
      declared_stable (λ column. column.name) x draft.columns
      (λ unknown. own_lacks (Any (λ name. ¬ Declares draft.columns name)) draft names own (sound UnknownColumn) (any_from_item (λ name. ¬ Declares draft.columns name) x names h unknown))

  own_distinct : (names : List Name) → IsOwnList draft names → NoRepeats names
  own_distinct names own = NoRepeats-from_not names (own_lacks Repeats draft names own (λ h. sound DuplicateColumn (inr h)))

  own_some : (names : List Name) → IsOwnList draft names → 0 < length names
  own_some names own = positive (length names) (own_lacks (λ list. length list ≡ 0) draft names own (λ h. sound NoColumn (inr h)))
    where
      positive : (n : ℕ) → ¬ (n ≡ 0) → 0 < n
      positive zero h = absurd (h refl)
      positive (suc n) h = omega arith

  own_columns : (table : Table) → table.columns ≡ draft.columns → (names : List Name) → IsOwnList draft names → AreColumns table (places_of draft.columns names)
  own_columns table same names own = record {
    some = (let long : length (places_of draft.columns names) ≡ length names = length-map names (column_place draft.columns) in let some : 0 < length names = own_some names own in omega arith);
    within = λ p h. (let r : (x : Name) × IsIn x names × (column_place draft.columns x ≡ p) = IsIn-map (column_place draft.columns) p names h in
        let at = column_at_place draft.columns r.0 (own_declared names own r.0 r.1) in
        let long : length table.columns ≡ length draft.columns = ap length same in
        let below : column_place draft.columns r.0 < length draft.columns = at.3 in
        let is : column_place draft.columns r.0 ≡ p = r.2 in
        omega arith);
    once = NoRepeats-map (column_place draft.columns) names (λ x y h k e. place_injective draft.columns x y (own_declared names own x h) (own_declared names own y k) e) (own_distinct names own);
  }

  columns_apart : NoRepeats (map (λ key. key.columns) (map (foreign_key_of drafts draft.columns) draft.foreign))
  columns_apart =
      let lists : List (List Name) = map (λ key. key.columns) draft.foreign in
      let declared : (names : List Name) → IsIn names (map (λ key. key.columns) draft.foreign) → (x : Name) → IsIn x names → Declares draft.columns x =
      λ names h. own_declared names (inr (IsIn-map (λ key. key.columns) names draft.foreign h)) in
      let once : NoRepeats (map (places_of draft.columns) (map (λ key. key.columns) draft.foreign)) =
      NoRepeats-map (places_of draft.columns) (map (λ key. key.columns) draft.foreign) (λ xs ys h k e. places_injective draft.columns xs ys (declared xs h) (declared ys k) e)
      (NoRepeats-from_not (map (λ key. key.columns) draft.foreign) (sound SameColumnsTwice)) in
      subst NoRepeats (map_map (places_of draft.columns) (λ key. key.columns) draft.foreign ∙ sym (map_map (λ key. key.columns) (foreign_key_of drafts draft.columns) draft.foreign)) once

  apart_from_references : (key : ForeignKey) (p : ℕ) (column : Column) → IsIn key (map (foreign_key_of drafts draft.columns) draft.foreign) → key.columns ≡ p ∷ []
      → slice_get draft.columns p ≡ Some column → ¬ Declares draft.columns (codes "ref-" ++ column.name)
  apart_from_references key p column h alone stands clash =
      let r : (k : ForeignDraft) × IsIn k draft.foreign × (foreign_key_of drafts draft.columns k ≡ key) = IsIn-map (foreign_key_of drafts draft.columns) key draft.foreign h in
      let places : places_of draft.columns r.0.columns ≡ p ∷ [] = ap (λ k. k.columns) r.2 ∙ alone in
      sound NameClash (any_from_item (λ k. ClashesWith draft.columns k.columns) r.0 draft.foreign r.1 (at r.0.columns (own_declared r.0.columns (inr (r.0, r.1, refl))) places))
    where
      at : (names : List Name) → ((x : Name) → IsIn x names → Declares draft.columns x) → places_of draft.columns names ≡ p ∷ [] → ClashesWith draft.columns names
      at [] declared e = absurd (cc)
      at (x ∷ []) declared e =
          let is : column_place draft.columns x ≡ p = cc in
          let a = column_at_place draft.columns x (declared x (inl refl)) in
          let same : Some a.0 ≡ Some column = sym a.1 ∙ ap (slice_get draft.columns) is ∙ stands in
          let one : a.0 ≡ column = cc in
          subst (λ name. Declares draft.columns (codes "ref-" ++ name)) (sym (ap (λ c. c.name) one) ∙ a.2) clash
      at (x ∷ y ∷ names) declared e = absurd (cc)

-- ---- a foreign key of a sound draft

module _ (drafts : List TableDraft) (lawful : AreLawful drafts) (place : ℕ) (draft : TableDraft) (sound : IsSound drafts place draft) (key : ForeignDraft) (own : IsIn key draft.foreign) where
  target_found : StandsAt (λ other. other.name) key.target drafts (table_place drafts key.target)
  target_found =
      stands_at_place (λ other. other.name) key.target drafts
      (declared_stable (λ other. other.name) key.target drafts (λ unknown. sound UnknownTable (any_from_item (λ k. ¬ DeclaresTable drafts k.target) key draft.foreign own unknown)))

  target_sound : (target : TableDraft) → target_of drafts key ≡ Some target → IsSound drafts (table_place drafts key.target) target
  target_sound target e = lawful.sound (table_place drafts key.target) target e

  target_table : (target : TableDraft) → target_of drafts key ≡ Some target → table_at (schema_of drafts) (table_place drafts key.target) ≡ table_of drafts target
  target_table target e = mapped_at (table_of drafts) no_table drafts (table_place drafts key.target) target e

  -- the referenced columns are a unique list of the target
  unique_found : (target : TableDraft) → target_of drafts key ≡ Some target → (names : List Name) → AnyUniqueList (IsPermutation names) target
      → (list : List Name) × (IsIn list target.primaries ⊎ IsIn list target.uniques) × IsPermutation names list × IsUniqueKey (table_of drafts target) (places_of target.columns list)
  unique_found target e names (inl h) =
      let r = item_from_any (IsPermutation names) target.primaries h in
      (r.0, inl r.1, r.2, inl (ap (option_map (places_of target.columns)) (the_only r.0 target.primaries (target_sound target e TwoPrimaryKeys) r.1)))
  unique_found target e names (inr h) =
      let r = item_from_any (IsPermutation names) target.uniques h in
      (r.0, inr r.1, r.2, inr (map-IsIn (places_of target.columns) r.0 target.uniques r.1))

  keyed : (target : TableDraft) → target_of drafts key ≡ Some target → (names : Option (List Name)) → referenced_columns key target ≡ names
      → IsForeignKey (schema_of drafts) (table_of drafts draft) (foreign_key_of drafts draft.columns key)
  keyed target e None given =
      absurd (sound NotAKey (any_from_item (λ k. ReferencesNoKey k (target_of drafts k)) key draft.foreign own
      (subst (ReferencesNoKey key) (sym e) (subst (AreNoKey key.columns target) (sym given) tt))))
  keyed target e (Some names) given =
      let is_key : ¬ AreNoKey key.columns target (Some names) = λ h. sound NotAKey (any_from_item (λ k. ReferencesNoKey k (target_of drafts k)) key draft.foreign own
      (subst (ReferencesNoKey key) (sym e) (subst (AreNoKey key.columns target) (sym given) h))) in
      let long : length names ≡ length key.columns = elim (cases_eq (length names) (length key.columns)) [ inl same ↦ same | inr differ ↦ absurd (is_key (inl differ)) ] in
      let found = unique_found target e names (reordered_stable names target (λ none. is_key (inr none))) in
      let listed : IsOwnList target found.0 = inl found.1 in
      let mine : IsOwnList draft key.columns = inr (key, own, refl) in
      let declared : (y : Name) → IsIn y names → Declares target.columns y =
      λ y h. own_declared drafts (table_place drafts key.target) target (target_sound target e) found.0 listed y (permuted_item y names found.0 found.2 h) in
      let columns : target_places key (target_of drafts key) ≡ places_of target.columns names = ap (target_places key) e ∙ ap (places_if_given target.columns) given in
      let same_kind : ¬ AnyKindsDiffer draft.columns key.columns target.columns names =
      λ h. sound KindMismatch (any_from_item (λ k. ReferencesOtherKinds draft.columns k (target_of drafts k)) key draft.foreign own
      (subst (ReferencesOtherKinds draft.columns key) (sym e) (subst (KindsOfKeyDiffer draft.columns key.columns target.columns) (sym given) h))) in
      let at : table_at (schema_of drafts) (table_place drafts key.target) ≡ table_of drafts target = target_table target e in
      let moved : IsPermutation (places_of target.columns names) (places_of target.columns found.0) = IsPermutation-map (column_place target.columns) names found.0 found.2 in
      let kinds : map (kind_at draft.columns) (places_of draft.columns key.columns) ≡ map (kind_at target.columns) (places_of target.columns names) =
      equal_kinds draft.columns key.columns target.columns names long (own_declared drafts place draft sound key.columns mine) declared same_kind in
      record {
        columns = own_columns drafts place draft sound (table_of drafts draft) refl key.columns mine;
        target = (let all : length (schema_of drafts) ≡ length drafts = length-map drafts (table_of drafts) in let below : table_place drafts key.target < length drafts = target_found.3 in omega arith);
        unique = (
          places_of target.columns found.0,
          subst (λ table. IsUniqueKey table (places_of target.columns found.0)) (sym at) found.3,
          subst (λ places. IsPermutation places (places_of target.columns found.0)) (sym columns) moved,
        );
        as_many = ap length columns ∙ length-map names (column_place target.columns) ∙ long ∙ sym (length-map key.columns (column_place draft.columns));
        kinds = kinds ∙ ap (map (kind_at target.columns)) (sym columns) ∙ ap (λ table. map (kind_at table.columns) (target_places key (target_of drafts key))) (sym at);
      }

  keyed_foreign : IsForeignKey (schema_of drafts) (table_of drafts draft) (foreign_key_of drafts draft.columns key)
  keyed_foreign = keyed target_found.0 target_found.1 (referenced_columns key target_found.0) refl

-- ---- tables and schemas

module _ (drafts : List TableDraft) (lawful : AreLawful drafts) where
  lawful_table : (place : ℕ) (draft : TableDraft) → IsSound drafts place draft → IsTable (schema_of drafts) (table_of drafts draft)
  lawful_table place draft sound = record {
    name = λ bad. sound BadName (inl bad);
    some_column = (positive (length draft.columns) (λ none. sound NoColumn (inl none)));
    few_columns = (at_most (length draft.columns) (sound TooManyColumns));
    column_names = λ column h bad. sound BadName (inr (any_from_item (λ c. IsBadName c.name) column draft.columns h bad));
    distinct = NoRepeats-from_not (column_names draft.columns) (λ h. sound DuplicateColumn (inl h));
    primary = λ places e. primary_columns places (slice_get draft.primaries 0) refl e;
    uniques = λ places h. (let r : (list : List Name) × IsIn list draft.uniques × (places_of draft.columns list ≡ places) = IsIn-map (places_of draft.columns) places draft.uniques h in
        subst (AreColumns (table_of drafts draft)) r.2 (own_columns drafts place draft sound (table_of drafts draft) refl r.0 (inl (inr r.1))));
    foreign = λ key h. (let r : (k : ForeignDraft) × IsIn k draft.foreign × (foreign_key_of drafts draft.columns k ≡ key) = IsIn-map (foreign_key_of drafts draft.columns) key draft.foreign h in
        subst (IsForeignKey (schema_of drafts) (table_of drafts draft)) r.2 (keyed_foreign drafts lawful place draft sound r.0 r.1));
    apart = columns_apart drafts place draft sound;
    no_clash = apart_from_references drafts place draft sound;
  }
    where
      positive : (n : ℕ) → ¬ (n ≡ 0) → 0 < n
      positive zero h = absurd (h refl)
      positive (suc n) h = omega arith

      at_most : (n : ℕ) → ¬ (256 < n) → n ≤ 256
      at_most n h = elim (cases_lt 256 n) [ inl more ↦ absurd (h more) | inr most ↦ most ]

      primary_columns : (places : List ℕ) (first : Option (List Name)) → slice_get draft.primaries 0 ≡ first → option_map (places_of draft.columns) first ≡ Some places → AreColumns (table_of drafts draft) places
      primary_columns places None e h = absurd (cc)
      primary_columns places (Some list) e h =
          let is : Some (places_of draft.columns list) ≡ Some places = h in
          let same : places_of draft.columns list ≡ places = cc in
          subst (AreColumns (table_of drafts draft)) same (own_columns drafts place draft sound (table_of drafts draft) refl list (inl (inl (item_at_index list draft.primaries 0 e))))

  distinct_from_fronts : (xs : List TableDraft) → ((k : ℕ) (x : TableDraft) → slice_get xs k ≡ Some x → ¬ DeclaresTable (take k xs) x.name) → NoRepeats (map (λ draft. draft.name) xs)
  distinct_from_fronts [] h = tt
  distinct_from_fronts (x ∷ xs) h = (
    (λ again. let r : (y : TableDraft) × IsIn y xs × (y.name ≡ x.name) = IsIn-map (λ draft. draft.name) x.name xs again in
        let at : (k : ℕ) × (k < length xs) × (slice_get xs k ≡ Some r.0) = index_of_item r.0 xs r.1 in
        h (suc at.0) r.0 at.2 (Any-head (λ other. other.name ≡ r.0.name) x (take at.0 xs) (sym r.2))),
    distinct_from_fronts xs (λ k y e earlier. h (suc k) y e (Any-tail (λ other. other.name ≡ y.name) x (take k xs) earlier)),
  )

  pub lawful_schema : IsSchema (schema_of drafts)
  lawful_schema = record {
    some = (let all : length (schema_of drafts) ≡ length drafts = length-map drafts (table_of drafts) in let some : 0 < length drafts = lawful.some in omega arith);
    few = (let all : length (schema_of drafts) ≡ length drafts = length-map drafts (table_of drafts) in let few : length drafts ≤ 4096 = lawful.few in omega arith);
    names = subst NoRepeats (sym (map_map (λ table. table.name) (table_of drafts) drafts)) (distinct_from_fronts drafts (λ k x e. lawful.sound k x e DuplicateTable));
    each = λ table h. (let r : (draft : TableDraft) × IsIn draft drafts × (table_of drafts draft ≡ table) = IsIn-map (table_of drafts) table drafts h in
        let at : (k : ℕ) × (k < length drafts) × (slice_get drafts k ≡ Some r.0) = index_of_item r.0 drafts r.1 in
        subst (IsTable (schema_of drafts)) r.2 (lawful_table at.0 r.0 (lawful.sound at.0 r.0 at.2)));
  }

-- each of the drafts has few columns
pub few_columns : (drafts : List TableDraft) → AreLawful drafts → All (λ draft. length draft.columns ≤ 256) drafts
few_columns drafts lawful k d below =
    let at : slice_get drafts k ≡ Some (get_or drafts k d) = slice_get_read drafts (length drafts) k (get_or drafts k d) refl below (get_or_default drafts k d (get_or drafts k d) below) in
    elim (cases_lt 256 (length (get_or drafts k d).columns)) [ inl more ↦ absurd (lawful.sound k (get_or drafts k d) at TooManyColumns more) | inr most ↦ most ]
