-- A header names each column once exactly where it gives an order of the columns.
use Rattle.std.proofs.Common.{◌≡◌, ◌≢◌, ◌+◌, ◌<◌, ◌≤◌, ◌∙◌, ℕ, suc, List, [], ◌∷◌, ◌++◌, Bool, length, take, drop, get_or, refl, ap, sym, subst, arith, inl, inr, ◌⊎◌, add-one, append-nil}
use Rattle.std.specs.Prelude.{nat_eq}
use Rattle.std.specs.Bool.{Decides}
use Rattle.std.specs.List.{list_any}
use Rattle.std.specs.Cmp.Lexicographic.{pointwise, bytes_decides}
use Rattle.std.proofs.lemmas.Bool.{cases_Bool, false≢true}
use Rattle.std.proofs.lemmas.Bool.Decides.{Decides-eqb}
use Rattle.std.proofs.lemmas.List.{map-append, length-map, get_or-map, take_more, take_all}
use Rattle.members_dm.specs.Membership.{IsIn, NoRepeats}
use Rattle.members_dm.proofs.MembershipLemmas.{IsIn-append, IsIn-map, map-IsIn}
use Rattle.members_dm.proofs.ElementsLemmas.{item_within, NoRepeats-map}
use Rattle.members_dm.proofs.ElementsTests.{IsIn-decides, stable_by_test}
use Rattle.std.specs.Prelude.{encode_utf8_all}
use Rattle.std.proofs.lemmas.Str.{encodes_same}
use Rattle.schema_dm.specs.Naming.{column_names}
use Rattle.schema_dm.specs.declared.draft.Column.{Column}
use Rattle.table_csv.specs.TableFiles.{IsBadHeader, IsHeader, Record, name_field, name_fields}
use Rattle.table_csv.specs.Headers.{IsOrder, header_of, field_at}
use Rattle.table_csv.proofs.Distinct.{no_longer, no_repeats_more, one_place}

-- whether a field stands in a list
abbrev stands : List ℕ → Record → Bool
stands field fields = list_any (λ other. pointwise nat_eq other field) fields

stands-decides : (field : List ℕ) (fields : Record) → Decides (stands field fields) (IsIn field fields)
stands-decides field fields = IsIn-decides (pointwise nat_eq) bytes_decides field fields

-- a list without repeats that has no other items than another one has them all, where it is as long
pub has_all : (fields others : Record) → NoRepeats fields → ((x : List ℕ) → IsIn x fields → IsIn x others) → length others ≤ length fields → (x : List ℕ) → IsIn x others → IsIn x fields
has_all fields others once each long x there = stable_by_test (stands x fields) (stands-decides x fields) (λ other.
    let more = no_longer (x ∷ fields) others (other, once) (λ y m. elim m [ inl same ↦ let P : List ℕ → Type 0 = λ z. IsIn z others in subst P same there | inr m' ↦ each y m' ]) in
    absurd (omega arith))

-- some column's name is missing, or none
abbrev Misses : List Column → Record → Type 0
Misses columns fields = (column : Column) × IsIn column columns × (¬ IsIn (name_field column) fields)

misses_or_not : (columns : List Column) (fields : Record) → Misses columns fields ⊎ ((x : List ℕ) → IsIn x (name_fields columns) → IsIn x fields)
misses_or_not [] fields = inr (λ x m. absurd m)
misses_or_not (c ∷ cs) fields = elim (cases_Bool (stands (name_field c) fields)) [
  | inl there ↦ elim (misses_or_not cs fields) [
    | inl (column, m, other) ↦ inl (column, inr m, other)
    | inr each ↦ inr (λ x m. elim m [ inl same ↦ (let P : List ℕ → Type 0 = λ z. IsIn z fields in subst P same ((stands-decides (name_field c) fields).0 there)) | inr m' ↦ each x m' ])
  ]
  | inr missing ↦ inl (c, inl refl, λ m. false≢true (sym missing ∙ (stands-decides (name_field c) fields).1 m))
]

pub misses : (columns : List Column) (fields : Record) → NoRepeats (name_fields columns) → length fields < length columns → Misses columns fields
misses columns fields distinct short = elim (misses_or_not columns fields) [
  | inl missing ↦ missing
  | inr each ↦ absurd (let h = no_longer (name_fields columns) fields distinct each in let size : length (name_fields columns) ≡ length columns = length-map columns name_field in omega arith)
]

pub name_in : (columns : List Column) (place : ℕ) → place < length columns → IsIn (field_at columns place) (name_fields columns)
name_in columns place lt = item_within (name_fields columns) place [] (let size : length (name_fields columns) ≡ length columns = length-map columns name_field in omega arith)

pub one_column : (columns : List Column) (i j : ℕ) → NoRepeats (name_fields columns) → i < length columns → j < length columns → field_at columns i ≡ field_at columns j → i ≡ j
one_column columns i j distinct li lj e =
    let size : length (name_fields columns) ≡ length columns = length-map columns name_field in
    one_place (name_fields columns) i j [] distinct (omega arith) (omega arith) e

-- the fields up to a place name the columns at these places
pub record NamesSoFar (columns : List Column) (fields : Record) (at : ℕ) (order : List ℕ) : Type 0 where
  pub names : take at fields ≡ header_of columns order
  pub within : (place : ℕ) → IsIn place order → place < length columns
  pub once : NoRepeats order

pub names_none : (columns : List Column) (fields : Record) → NamesSoFar columns fields 0 []
names_none columns fields = record { names = refl; within = λ place m. absurd m; once = tt }

pub names_more : (columns : List Column) (fields : Record) (at place : ℕ) (order : List ℕ) (field : List ℕ) → NamesSoFar columns fields at order → take (suc at) fields ≡ take at fields ++ field ∷ []
    → place < length columns → field_at columns place ≡ field → ¬ IsIn place order → NamesSoFar columns fields (at + 1) (order ++ place ∷ [])
names_more columns fields at place order field h next lt name other = record {
  names = rw (add-one, next, h.names, map-append (field_at columns) order (place ∷ []), ← name) refl;
  within = λ p m. elim (IsIn-append p order (place ∷ []) m) [
    | inl there ↦ h.within p there
    | inr (inl same) ↦ omega (arith, same)
    | inr (inr none) ↦ absurd none
  ];
  once = no_repeats_more order place h.once other;
}

-- these fields are names of columns, and none stands twice
are_names : (columns : List Column) (order : List ℕ) → ((place : ℕ) → IsIn place order → place < length columns) → (field : List ℕ) → IsIn field (header_of columns order) → IsIn field (name_fields columns)
are_names columns order within field m =
    let (place, there, e) = IsIn-map (field_at columns) field order m in
    let P : List ℕ → Type 0 = λ z. IsIn z (name_fields columns) in
    subst P e (name_in columns place (within place there))

names_once : (columns : List Column) (order : List ℕ) → NoRepeats (name_fields columns) → ((place : ℕ) → IsIn place order → place < length columns) → NoRepeats order → NoRepeats (header_of columns order)
names_once columns order distinct within once =
    NoRepeats-map (field_at columns) order (λ i j mi mj e. one_column columns i j distinct (within i mi) (within j mj) e) once

front_names : (columns : List Column) (fields : Record) (at : ℕ) (order : List ℕ) → NamesSoFar columns fields at order → (field : List ℕ) → IsIn field (take at fields) → IsIn field (name_fields columns)
front_names columns fields at order h field m = are_names columns order h.within field (rw h.names at m)

front_once : (columns : List Column) (fields : Record) (at : ℕ) (order : List ℕ) → NoRepeats (name_fields columns) → NamesSoFar columns fields at order → NoRepeats (take at fields)
front_once columns fields at order distinct h = rw h.names (names_once columns order distinct h.within h.once)

front_length : (columns : List Column) (fields : Record) (at : ℕ) (order : List ℕ) → NamesSoFar columns fields at order → length (take at fields) ≡ length order
front_length columns fields at order h = ap length h.names ∙ length-map order (field_at columns)

-- the field at the place is at fault
pub bad_field : (columns : List Column) (fields : Record) (at : ℕ) (order : List ℕ) (field : List ℕ) → NoRepeats (name_fields columns) → NamesSoFar columns fields at order
    → fields ≡ take at fields ++ field ∷ drop (suc at) fields → ((¬ IsIn field (name_fields columns)) ⊎ IsIn field (take at fields)) → IsBadHeader columns fields (length order + 1)
bad_field columns fields at order field distinct h parts bad = record {
  before = take at fields;
  after = field ∷ drop (suc at) fields;
  parts = parts;
  is_place = ap (λ n. n + 1) (sym (front_length columns fields at order h));
  names = front_names columns fields at order h;
  once = front_once columns fields at order distinct h;
  bad = bad;
}

-- a place that is in the order already is that of an earlier field
pub repeated_field : (columns : List Column) (fields : Record) (at place : ℕ) (order : List ℕ) (field : List ℕ) → NamesSoFar columns fields at order → IsIn place order → field_at columns place ≡ field
    → IsIn field (take at fields)
repeated_field columns fields at place order field h there name =
    rw h.names (let P : List ℕ → Type 0 = λ z. IsIn z (header_of columns order) in subst P name (map-IsIn (field_at columns) place order there))

pub missing_field : (columns : List Column) (fields : Record) (at : ℕ) (order : List ℕ) → NoRepeats (name_fields columns) → NamesSoFar columns fields at order → take at fields ≡ fields
    → length order < length columns → IsBadHeader columns fields (length order + 1)
missing_field columns fields at order distinct h whole short =
    let size = front_length columns fields at order h in
    record {
      before = take at fields;
      after = [];
      parts = sym (append-nil (take at fields) ∙ whole);
      is_place = ap (λ n. n + 1) (sym size);
      names = front_names columns fields at order h;
      once = front_once columns fields at order distinct h;
      bad = misses columns (take at fields) distinct (omega arith);
    }

pub order_whole : (columns : List Column) (fields : Record) (at : ℕ) (order : List ℕ) → NoRepeats (name_fields columns) → NamesSoFar columns fields at order → take at fields ≡ fields
    → length columns ≤ length order → IsOrder columns order × (fields ≡ header_of columns order)
order_whole columns fields at order distinct h whole long =
    let header : fields ≡ header_of columns order = sym whole ∙ h.names in
    let count : length (header_of columns order) ≤ length (name_fields columns) = no_longer (header_of columns order) (name_fields columns) (names_once columns order distinct h.within h.once) (are_names columns order h.within) in
    let size : length (name_fields columns) ≡ length columns = length-map columns name_field in
    let sizes : length (header_of columns order) ≡ length order = length-map order (field_at columns) in
    (record { within = h.within; once = h.once; each = omega arith; distinct = distinct }, header)

-- the header of an order is a good one
pub order_header : (columns : List Column) (order : List ℕ) → IsOrder columns order → IsHeader columns (header_of columns order)
order_header columns order h =
    let once = names_once columns order h.distinct h.within h.once in
    let each = are_names columns order h.within in
    let size : length (name_fields columns) ≡ length columns = length-map columns name_field in
    let sizes : length (header_of columns order) ≡ length order = length-map order (field_at columns) in
    let count = h.each in
    record {
      once = once;
      names = λ field. (each field, has_all (header_of columns order) (name_fields columns) once each (omega arith) field);
    }

-- ---- the place of a name

-- the column at one more place has another name
pub other_name : (columns : List Column) (i : ℕ) (column : Column) (field : List ℕ) → i < length columns → column ≡ get_or columns i column → name_field column ≢ field
    → ¬ IsIn field (name_fields (take i columns)) → ¬ IsIn field (name_fields (take (i + 1) columns))
other_name columns i column field lt is other none m =
    let more : name_fields (take (i + 1) columns) ≡ name_fields (take i columns) ++ name_field column ∷ [] = rw (take_more columns i column lt, ← is, map-append name_field (take i columns) (column ∷ [])) refl in
    elim (IsIn-append field (name_fields (take i columns)) (name_field column ∷ []) (rw more at m)) [
      | inl there ↦ none there
      | inr (inl same) ↦ other same
      | inr (inr absent) ↦ absent
    ]

pub no_name : (columns : List Column) (i : ℕ) (field : List ℕ) → length columns ≤ i → ¬ IsIn field (name_fields (take i columns)) → ¬ IsIn field (name_fields columns)
no_name columns i field long none =
    let whole = take_all i columns long in
    let P : List Column → Type 0 = λ cs. ¬ IsIn field (name_fields cs) in
    subst P whole none

pub name_read : (columns : List Column) (i : ℕ) (column : Column) → i < length columns → column ≡ get_or columns i column → field_at columns i ≡ name_field column
name_read columns i column lt is = get_or-map name_field columns i column [] lt ∙ ap name_field (sym is)

-- whether a place is in the order
pub contained : (order : List ℕ) (place : ℕ) → Decides (list_any (λ other. nat_eq other place) order) (IsIn place order)
contained order place = IsIn-decides nat_eq Decides-eqb place order

-- names that differ have fields that differ
name_among : (columns : List Column) (name : List ℕ) → IsIn (encode_utf8_all name) (name_fields columns) → IsIn name (column_names columns)
name_among [] name m = m
name_among (c ∷ cs) name (inl e) = inl (encodes_same c.name name e)
name_among (c ∷ cs) name (inr m) = inr (name_among cs name m)

pub fields_differ : (columns : List Column) → NoRepeats (column_names columns) → NoRepeats (name_fields columns)
fields_differ [] h = tt
fields_differ (c ∷ cs) h = ((λ m. h.0 (name_among cs c.name m)), fields_differ cs h.1)
