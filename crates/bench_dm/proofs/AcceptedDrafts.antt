-- No cause of refusal holds of the four drafts.
use Rattle.std.proofs.Common.{◌≡◌, ◌∙◌, ℕ, zero, suc, Bool, true, false, not, List, [], ◌∷◌, ◌++◌, Option, Some, None, map, length, take, refl, sym, ap, subst, inl, inr, arith, lit<, lit≤, Any}
use Rattle.std.specs.Prelude.{◌&&◌, ◌||◌, ◌==◌, nat_le, nat_lt, slice_get, codes}
use Rattle.std.specs.List.{list_all, list_any}
use Rattle.std.specs.Str.{all_scalars}
use Rattle.std.specs.Cmp.Lexicographic.{bytes_decides, pointwise}
use Rattle.std.proofs.lemmas.Bool.{and_parts, eqb-true, eq-eqb, leb-true, ltb-true, true≢false}
use Rattle.std.specs.List.Sorted.{IsPermutation}
use Rattle.std.proofs.lemmas.List.Sorted.{IsPermutation-refl}
use Rattle.members_dm.specs.Elements.{Repeats}
use Rattle.members_dm.proofs.AnyLemmas.{Any-cons, Any-head, Any-nil, Any-tail}
use Rattle.members_dm.proofs.ElementsTests.{repeats, repeats-decides}
use Rattle.value_dm.specs.Equality.{lists_decide}
use Rattle.value_dm.specs.declared.kind.Kind.{Kind}
use Rattle.value_dm.specs.declared.kind.Kind.TheVariants.{Integer}
use Rattle.schema_dm.specs.Naming.{Name, same_name, IsBadName, Declares, column_names}
use Rattle.schema_dm.specs.declared.draft.Column.{Column}
use Rattle.schema_dm.specs.declared.draft.ForeignDraft.{ForeignDraft}
use Rattle.schema_dm.specs.declared.draft.TableDraft.{TableDraft}
use Rattle.schema_dm.specs.declared.refusal.SchemaCause.TheVariants.{NoTable, TooManyTables, BadName, NoColumn, TooManyColumns, DuplicateTable, DuplicateColumn, UnknownColumn, UnknownTable, TwoPrimaryKeys, NotAKey, KindMismatch, SameColumnsTwice, NameClash}
use Rattle.schema_dm.specs.Drafts.{AnyKindsDiffer, AnyOwnList, AreLawful, AreNoKey, ClashesWith, DeclaresTable, IsSound, KindsDiffer, KindsOfKeyDiffer, ReferencesNoKey, ReferencesOtherKinds, kind_of_name, referenced_columns, target_of}
use Rattle.schema_dm.specs.Schemas.{IsSchema, schema_of}
use Rattle.schema_dm.proofs.Lawful.{lawful_schema}
use Rattle.bench_dm.specs.Tables.{dept, drafts, member, note, person}

-- ---- tests that refute

-- no item has the property, where each passes a test that refutes it
no_any : {X : Type 0} (p : X → Bool) (P : X → Type 0) → ((x : X) → p x ≡ true → ¬ P x) → (xs : List X) → list_all p xs ≡ true → ¬ Any P xs
no_any p P refutes [] h = Any-nil P
no_any p P refutes (x ∷ xs) h = λ some.
    let both = and_parts (p x) (list_all p xs) h in
    elim (Any-cons P x xs some) [ inl here ↦ refutes x both.0 here | inr later ↦ no_any p P refutes xs both.1 later ]

some_any : {X : Type 0} (p : X → Bool) (P : X → Type 0) → ((x : X) → p x ≡ true → P x) → (xs : List X) → list_any p xs ≡ true → Any P xs
some_any {X} p P shows [] h = absurd (true≢false (sym h))
some_any {X} p P shows (x ∷ xs) h = at (λ k. some_any p P shows xs k) (p x) refl
  where
    at : (list_any p xs ≡ true → Any P xs) → (b : Bool) → p x ≡ b → Any P (x ∷ xs)
    at later true e = Any-head P x xs (shows x e)
    at later false e = Any-tail P x xs (later (sym (ap (λ b. b || list_any p xs) e) ∙ h))

named_so : (x y : Name) → same_name x y ≡ true → x ≡ y
named_so x y h = (bytes_decides x y).0 h

differ : (x y : Name) → not (same_name x y) ≡ true → ¬ (x ≡ y)
differ x y h e = true≢false (sym h ∙ ap not ((bytes_decides x y).1 e))

abbrev begins_well : Name → Bool
begins_well [] = false
begins_well (c ∷ cs) = not (c == 65279)

abbrev good : Name → Bool
good name = all_scalars name && begins_well name

good_name : (name : Name) → good name ≡ true → ¬ IsBadName name
good_name [] h = absurd (true≢false (sym h))
good_name (c ∷ cs) h = λ bad.
    let both = and_parts (all_scalars (c ∷ cs)) (not (c == 65279)) h in
    elim bad [ inl none ↦ none both.0 | inr is ↦ true≢false (sym both.1 ∙ ap not (eq-eqb c 65279 is)) ]

abbrev once : List Name → Bool
once names = not (repeats same_name names)

no_repeats : (names : List Name) → once names ≡ true → ¬ Repeats names
no_repeats names h = λ r. true≢false (sym h ∙ ap not ((repeats-decides same_name bytes_decides names).1 r))

-- ---- a draft's lists

abbrev own : (List Name → Bool) → TableDraft → Bool
own p draft = list_all p draft.primaries && (list_all p draft.uniques && list_all (λ key. p key.columns) draft.foreign)

no_own : (p : List Name → Bool) (P : List Name → Type 0) → ((names : List Name) → p names ≡ true → ¬ P names) → (draft : TableDraft) → own p draft ≡ true → ¬ AnyOwnList P draft
no_own p P refutes draft h = λ some.
    let first = and_parts (list_all p draft.primaries) (list_all p draft.uniques && list_all (λ key. p key.columns) draft.foreign) h in
    let rest = and_parts (list_all p draft.uniques) (list_all (λ key. p key.columns) draft.foreign) first.1 in
    elim some [
      | inl unique ↦ elim unique [ inl here ↦ no_any p P refutes draft.primaries first.0 here | inr here ↦ no_any p P refutes draft.uniques rest.0 here ]
      | inr here ↦ no_any (λ (key : ForeignDraft). p key.columns) (λ key. P key.columns) (λ key e. refutes key.columns e) draft.foreign rest.1 here
    ]

abbrev declares : List Column → Name → Bool
declares columns name = list_any (λ column. same_name column.name name) columns

known : (columns : List Column) (names : List Name) → list_all (declares columns) names ≡ true → ¬ Any (λ name. ¬ Declares columns name) names
known columns names h =
    no_any (declares columns) (λ name. ¬ Declares columns name)
    (λ name e no. no (some_any (λ (column : Column). same_name column.name name) (λ column. column.name ≡ name) (λ column is. named_so column.name name is) columns e)) names h

-- ---- foreign keys

abbrev names_key : List Name → TableDraft → Option (List Name) → Bool
names_key columns target None = false
names_key columns target (Some names) = (length names == length columns) && list_any (pointwise same_name names) target.primaries

no_lack : (columns : List Name) (target : TableDraft) (given : Option (List Name)) → names_key columns target given ≡ true → ¬ AreNoKey columns target given
no_lack columns target None h = absurd (true≢false (sym h))
no_lack columns target (Some names) h = λ lacks.
    let both = and_parts (length names == length columns) (list_any (pointwise same_name names) target.primaries) h in
    elim lacks [
      | inl other ↦ other (eqb-true (length names) (length columns) both.0)
      | inr none ↦ none (inl (some_any (pointwise same_name names) (IsPermutation names)
          (λ list e. subst (IsPermutation names) ((lists_decide bytes_decides names list).0 e) (IsPermutation-refl names)) target.primaries both.1))
    ]

abbrev has_key : ForeignDraft → Option TableDraft → Bool
has_key key None = false
has_key key (Some target) = names_key key.columns target (referenced_columns key target)

no_key_lacks : (key : ForeignDraft) (target : Option TableDraft) → has_key key target ≡ true → ¬ ReferencesNoKey key target
no_key_lacks key None h = λ lacks. lacks
no_key_lacks key (Some target) h = no_lack key.columns target (referenced_columns key target) h

abbrev is_integer : Kind → Bool
is_integer Integer = true
is_integer _ = false

integer_so : (kind : Kind) → is_integer kind ≡ true → kind ≡ Integer
integer_so Integer h = refl
integer_so _ h = absurd (true≢false (sym h))

abbrev both_integers : Option Kind → Option Kind → Bool
both_integers (Some kind) (Some other) = is_integer kind && is_integer other
both_integers _ _ = false

one_kind : (kind other : Option Kind) → both_integers kind other ≡ true → ¬ KindsDiffer kind other
one_kind (Some kind) (Some other) h = λ apart. let both = and_parts (is_integer kind) (is_integer other) h in apart (integer_so kind both.0 ∙ sym (integer_so other both.1))
one_kind (Some kind) None h = λ apart. apart
one_kind None other h = λ apart. apart

abbrev all_integers : List Column → List Name → List Column → List Name → Bool
all_integers columns (name ∷ names) others (target ∷ targets) = both_integers (kind_of_name columns name) (kind_of_name others target) && all_integers columns names others targets
all_integers columns _ others _ = true

one_kind_each : (columns : List Column) (names : List Name) (others : List Column) (targets : List Name) → all_integers columns names others targets ≡ true → ¬ AnyKindsDiffer columns names others targets
one_kind_each columns [] others targets h = λ some. some
one_kind_each columns (name ∷ names) others [] h = λ some. some
one_kind_each columns (name ∷ names) others (target ∷ targets) h = λ some.
    let both = and_parts (both_integers (kind_of_name columns name) (kind_of_name others target)) (all_integers columns names others targets) h in
    elim some [ inl here ↦ one_kind (kind_of_name columns name) (kind_of_name others target) both.0 here | inr later ↦ one_kind_each columns names others targets both.1 later ]

abbrev given_integers : List Column → List Name → List Column → Option (List Name) → Bool
given_integers columns names others None = true
given_integers columns names others (Some targets) = all_integers columns names others targets

one_kind_given : (columns : List Column) (names : List Name) (others : List Column) (targets : Option (List Name)) → given_integers columns names others targets ≡ true → ¬ KindsOfKeyDiffer columns names others targets
one_kind_given columns names others None h = λ some. some
one_kind_given columns names others (Some targets) h = one_kind_each columns names others targets h

abbrev has_kinds : List Column → ForeignDraft → Option TableDraft → Bool
has_kinds columns key None = true
has_kinds columns key (Some target) = given_integers columns key.columns target.columns (referenced_columns key target)

no_other_kinds : (columns : List Column) (key : ForeignDraft) (target : Option TableDraft) → has_kinds columns key target ≡ true → ¬ ReferencesOtherKinds columns key target
no_other_kinds columns key None h = λ some. some
no_other_kinds columns key (Some target) h = one_kind_given columns key.columns target.columns (referenced_columns key target) h

abbrev no_clash : List Column → List Name → Bool
no_clash columns (x ∷ []) = list_all (λ column. not (same_name column.name (codes "ref-" ++ x))) columns
no_clash columns _ = true

clashes_not : (columns : List Column) (names : List Name) → no_clash columns names ≡ true → ¬ ClashesWith columns names
clashes_not columns [] h = λ some. some
clashes_not columns (x ∷ []) h =
    no_any (λ (column : Column). not (same_name column.name (codes "ref-" ++ x))) (λ column. column.name ≡ codes "ref-" ++ x) (λ column e. differ column.name (codes "ref-" ++ x) e) columns h
clashes_not columns (x ∷ y ∷ names) h = λ some. some

-- ---- a sound draft

record Passes (drafts : List TableDraft) (place : ℕ) (draft : TableDraft) : Type 0 where
  names : (good draft.name && list_all (λ column. good column.name) draft.columns) ≡ true
  some : (nat_lt 0 (length draft.columns) && own (λ names. nat_lt 0 (length names)) draft) ≡ true
  few : nat_le (length draft.columns) 256 ≡ true
  other_tables : list_all (λ other. not (same_name other.name draft.name)) (take place drafts) ≡ true
  columns_once : (once (column_names draft.columns) && own once draft) ≡ true
  known_columns : own (list_all (declares draft.columns)) draft ≡ true
  known_tables : list_all (λ key. list_any (λ other. same_name other.name key.target) drafts) draft.foreign ≡ true
  one_primary : nat_le (length draft.primaries) 1 ≡ true
  keys : list_all (λ key. has_key key (target_of drafts key)) draft.foreign ≡ true
  kinds : list_all (λ key. has_kinds draft.columns key (target_of drafts key)) draft.foreign ≡ true
  apart : not (repeats (pointwise same_name) (map (λ key. key.columns) draft.foreign)) ≡ true
  no_clashes : list_all (λ key. no_clash draft.columns key.columns) draft.foreign ≡ true

positive_not : (n : ℕ) → nat_lt 0 n ≡ true → ¬ (n ≡ 0)
positive_not n h is = let above = ltb-true 0 n h in absurd (omega arith)

sound_by : (drafts : List TableDraft) (place : ℕ) (draft : TableDraft) → Passes drafts place draft → IsSound drafts place draft
sound_by drafts place draft h NoTable = λ holds. holds
sound_by drafts place draft h TooManyTables = λ holds. holds
sound_by drafts place draft h BadName = λ holds.
    let both = and_parts (good draft.name) (list_all (λ column. good column.name) draft.columns) h.names in
    elim holds [
      | inl bad ↦ good_name draft.name both.0 bad
      | inr bad ↦ no_any (λ (column : Column). good column.name) (λ column. IsBadName column.name) (λ column e. good_name column.name e) draft.columns both.1 bad
    ]
sound_by drafts place draft h NoColumn = λ holds.
    let both = and_parts (nat_lt 0 (length draft.columns)) (own (λ names. nat_lt 0 (length names)) draft) h.some in
    elim holds [
      | inl none ↦ positive_not (length draft.columns) both.0 none
      | inr none ↦ no_own (λ names. nat_lt 0 (length names)) (λ names. length names ≡ 0) (λ names e. positive_not (length names) e) draft both.1 none
    ]
sound_by drafts place draft h TooManyColumns = λ holds. let most = leb-true (length draft.columns) 256 h.few in absurd (omega arith)
sound_by drafts place draft h DuplicateTable =
    no_any (λ (other : TableDraft). not (same_name other.name draft.name)) (λ other. other.name ≡ draft.name) (λ other e. differ other.name draft.name e) (take place drafts) h.other_tables
sound_by drafts place draft h DuplicateColumn = λ holds.
    let both = and_parts (once (column_names draft.columns)) (own once draft) h.columns_once in
    elim holds [ inl twice ↦ no_repeats (column_names draft.columns) both.0 twice | inr twice ↦ no_own once Repeats no_repeats draft both.1 twice ]
sound_by drafts place draft h UnknownColumn =
    no_own (list_all (declares draft.columns)) (Any (λ name. ¬ Declares draft.columns name)) (λ names e. known draft.columns names e) draft h.known_columns
sound_by drafts place draft h UnknownTable =
    no_any (λ (key : ForeignDraft). list_any (λ (other : TableDraft). same_name other.name key.target) drafts) (λ key. ¬ DeclaresTable drafts key.target)
    (λ key e no. no (some_any (λ (other : TableDraft). same_name other.name key.target) (λ other. other.name ≡ key.target) (λ other is. named_so other.name key.target is) drafts e)) draft.foreign h.known_tables
sound_by drafts place draft h TwoPrimaryKeys = λ holds. let most = leb-true (length draft.primaries) 1 h.one_primary in absurd (omega arith)
sound_by drafts place draft h NotAKey =
    no_any (λ (key : ForeignDraft). has_key key (target_of drafts key)) (λ key. ReferencesNoKey key (target_of drafts key)) (λ key e. no_key_lacks key (target_of drafts key) e) draft.foreign h.keys
sound_by drafts place draft h KindMismatch =
    no_any (λ (key : ForeignDraft). has_kinds draft.columns key (target_of drafts key)) (λ key. ReferencesOtherKinds draft.columns key (target_of drafts key))
    (λ key e. no_other_kinds draft.columns key (target_of drafts key) e) draft.foreign h.kinds
sound_by drafts place draft h SameColumnsTwice = λ holds.
    true≢false (sym h.apart ∙ ap not ((repeats-decides (pointwise same_name) (lists_decide bytes_decides) (map (λ key. key.columns) draft.foreign)).1 holds))
sound_by drafts place draft h NameClash =
    no_any (λ (key : ForeignDraft). no_clash draft.columns key.columns) (λ key. ClashesWith draft.columns key.columns) (λ key e. clashes_not draft.columns key.columns e) draft.foreign h.no_clashes

-- ---- the four drafts

dept_passes : Passes drafts 0 dept
dept_passes = record {
  names = refl;
  some = refl;
  few = refl;
  other_tables = refl;
  columns_once = refl;
  known_columns = refl;
  known_tables = refl;
  one_primary = refl;
  keys = refl;
  kinds = refl;
  apart = refl;
  no_clashes = refl;
}

person_passes : Passes drafts 1 person
person_passes = record {
  names = refl;
  some = refl;
  few = refl;
  other_tables = refl;
  columns_once = refl;
  known_columns = refl;
  known_tables = refl;
  one_primary = refl;
  keys = refl;
  kinds = refl;
  apart = refl;
  no_clashes = refl;
}

member_passes : Passes drafts 2 member
member_passes = record {
  names = refl;
  some = refl;
  few = refl;
  other_tables = refl;
  columns_once = refl;
  known_columns = refl;
  known_tables = refl;
  one_primary = refl;
  keys = refl;
  kinds = refl;
  apart = refl;
  no_clashes = refl;
}

note_passes : Passes drafts 3 note
note_passes = record {
  names = refl;
  some = refl;
  few = refl;
  other_tables = refl;
  columns_once = refl;
  known_columns = refl;
  known_tables = refl;
  one_primary = refl;
  keys = refl;
  kinds = refl;
  apart = refl;
  no_clashes = refl;
}

abbrev the : TableDraft → Option TableDraft → TableDraft
the other None = other
the other (Some draft) = draft

each_sound : (place : ℕ) (draft : TableDraft) → slice_get drafts place ≡ Some draft → IsSound drafts place draft
each_sound zero draft e = subst (IsSound drafts 0) (ap (the dept) e) (sound_by drafts 0 dept dept_passes)
each_sound (suc zero) draft e = subst (IsSound drafts 1) (ap (the dept) e) (sound_by drafts 1 person person_passes)
each_sound (suc (suc zero)) draft e = subst (IsSound drafts 2) (ap (the dept) e) (sound_by drafts 2 member member_passes)
each_sound (suc (suc (suc zero))) draft e = subst (IsSound drafts 3) (ap (the dept) e) (sound_by drafts 3 note note_passes)
each_sound (suc (suc (suc (suc place)))) draft e = absurd (cc)

pub are_lawful : AreLawful drafts
are_lawful = record { some = lit< tt; few = lit≤ tt; sound = each_sound }

pub are_schema : IsSchema (schema_of drafts)
are_schema = lawful_schema drafts are_lawful
