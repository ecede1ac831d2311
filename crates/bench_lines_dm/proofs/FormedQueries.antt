-- The two queries are well-formed over the benchmark's tables.
use Rattle.std.proofs.Common.{◌≡◌, ◌≢◌, ◌∙◌, ◌⊎◌, ◌≤◌, List, [], ◌∷◌, Bool, true, false, not, refl, sym, ap, subst, arith, inl, inr, length, is_lt, Less, Equal, Greater, codes, lit≤}
use denote.Hole.Carrier.{hidden}
use Rattle.std.specs.Prelude.{◌&&◌, ◌||◌, ◌↔◌, encode_utf8_all, pos}
use Rattle.std.specs.Cmp.Lexicographic.{bytes_decides, slice_cmp}
use Rattle.std.specs.List.{list_all, list_any}
use Rattle.std.specs.Ordering.{nat_cmp}
use Rattle.std.specs.declared.cmp.Ordering.{Ordering}
use Rattle.std.proofs.lemmas.Bool.{and_parts, true≢false}
use Rattle.members_dm.specs.Elements.{Repeats}
use Rattle.members_dm.specs.Membership.{IsIn, IsRising}
use Rattle.members_dm.proofs.ElementsLemmas.{one_by_key}
use Rattle.members_dm.proofs.ElementsTests.{IsIn-decides, repeats, repeats-decides}
use Rattle.value_dm.specs.declared.value.Value.TheVariants.{Integer}
use Rattle.schema_dm.specs.Naming.{Name, column_names, same_name}
use Rattle.schema_dm.specs.Schemas.{schema_of, table_of}
use Rattle.schema_dm.specs.Shapes.{IsBefore}
use Rattle.schema_dm.specs.declared.table.Table.{Table as SchemaTable}
use Rattle.algebra_dm.specs.Attributes.{AreAttributes, HasAttribute}
use Rattle.algebra_dm.specs.Causes.{HasNoCause, IsTooWide}
use Rattle.algebra_dm.specs.Nodes.{IsWellFormed}
use Rattle.algebra_dm.specs.declared.query.Query.{Query}
use Rattle.algebra_dm.specs.declared.query.Query.TheVariants.{Table, Project, Ne, Rename, Join}
use Rattle.algebra_dm.specs.declared.query.Query.TheBlock.{shape-the_row-Query-0, hidden-the_row-Query-0}
use Rattle.algebra_dm.proofs.RisingLemmas.{lists_unique}
use Rattle.bench_dm.specs.Tables.{drafts, member, note, person}
use Rattle.bench_dm.proofs.AcceptedDrafts.{are_schema}
use Rattle.bench_lines_dm.specs.Bench.{answer_query, joined_query}

-- ---- tests of names

abbrev has : List Name → Name → Bool
has names name = list_any (λ other. same_name other name) names

has_so : (names : List Name) (name : Name) → has names name ≡ true → IsIn name names
has_so names name h = (IsIn-decides same_name bytes_decides name names).0 h

differ_so : (x y : Name) → not (same_name x y) ≡ true → x ≢ y
differ_so x y h e = true≢false (sym h ∙ ap not ((bytes_decides x y).1 e))

all_so : (p : Name → Bool) (names : List Name) → list_all p names ≡ true → (name : Name) → IsIn name names → p name ≡ true
all_so p [] h name m = absurd m
all_so p (x ∷ names) h name (inl is) = subst (λ (y : Name). p y ≡ true) is (and_parts (p x) (list_all p names) h).0
all_so p (x ∷ names) h name (inr m) = all_so p names (and_parts (p x) (list_all p names) h).1 name m

either : (a b : Bool) → (a || b) ≡ true → (a ≡ true) ⊎ (b ≡ true)
either true b h = inl refl
either false b h = inr h

abbrev is_some : Name → Bool
is_some [] = false
is_some (c ∷ cs) = true

some_so : (names : List Name) → list_all is_some names ≡ true → ¬ IsIn [] names
some_so names h m = true≢false (sym (all_so is_some names h [] m))

once_so : (names : List Name) → not (repeats same_name names) ≡ true → ¬ Repeats names
once_so names h twice = true≢false (sym h ∙ ap not ((repeats-decides same_name bytes_decides names).1 twice))

abbrev is_before : Name → Name → Bool
is_before x y = is_lt (slice_cmp nat_cmp (encode_utf8_all x) (encode_utf8_all y))

less_so : (r : Ordering) → is_lt r ≡ true → r ≡ Less
less_so Less h = refl
less_so Equal h = absurd (cc h)
less_so Greater h = absurd (cc h)

before_so : (x y : Name) → is_before x y ≡ true → IsBefore x y
unfolding IsBefore
before_so x y h = less_so (slice_cmp nat_cmp (encode_utf8_all x) (encode_utf8_all y)) h

abbrev rises : List Name → Bool
rises [] = true
rises (x ∷ names) = list_all (is_before x) names && rises names

rises_so : (names : List Name) → rises names ≡ true → IsRising IsBefore names
rises_so [] h = tt
rises_so (x ∷ names) h =
    let both = and_parts (list_all (is_before x) names) (rises names) h in
    ((λ y m. before_so x y (all_so (is_before x) names both.0 y m)), rises_so names both.1)

-- ---- attributes

abbrev tables : List SchemaTable
tables = schema_of drafts

-- the attributes of a table are its columns
table_attributes : (t : SchemaTable) (names : List Name) → IsIn t tables → rises names ≡ true → (list_all (has (column_names t.columns)) names && list_all (has names) (column_names t.columns)) ≡ true
    → AreAttributes tables (Table t.name) names
table_attributes t names here rise same =
    let both = and_parts (list_all (has (column_names t.columns)) names) (list_all (has names) (column_names t.columns)) same in
    record {
      rising = rises_so names rise;
      exact = λ a. (
        (λ m. (t, (here, refl), has_so (column_names t.columns) a (all_so (has (column_names t.columns)) names both.0 a m))),
        (λ h.
            let one = one_by_key (λ (u : SchemaTable). u.name) tables are_schema.names h.0 t h.1.0 here h.1.1 in
            has_so names a (all_so (has names) (column_names t.columns) both.1 a (subst (λ (u : SchemaTable). IsIn a (column_names u.columns)) one h.2))),
      );
    }

-- those of a renaming are the new name and the others
rename_attributes : (q : Query) (from to : Name) (part names : List Name) → AreAttributes tables q part → rises names ≡ true
    → (list_all (λ a. same_name to a || (has part a && not (same_name from a))) names && (has names to && list_all (λ a. same_name from a || has names a) part)) ≡ true
    → AreAttributes tables (Rename q from to) names
unfolding shape-the_row-Query-0 hidden-the_row-Query-0 hidden
rename_attributes q from to part names are rise same =
    let new : Name → Bool = λ a. same_name to a || (has part a && not (same_name from a)) in
    let first = and_parts (list_all new names) (has names to && list_all (λ a. same_name from a || has names a) part) same in
    let second = and_parts (has names to) (list_all (λ a. same_name from a || has names a) part) first.1 in
    record {
      rising = rises_so names rise;
      exact = λ a. (
        (λ m. elim (either (same_name to a) (has part a && not (same_name from a)) (all_so new names first.0 a m)) [
          | inl is ↦ inl ((bytes_decides to a).0 is)
          | inr kept ↦ (let k = and_parts (has part a) (not (same_name from a)) kept in inr ((are.exact a).0 (has_so part a k.0), differ_so from a k.1))
        ]),
        (λ h. elim h [
          | inl is ↦ subst (λ (b : Name). IsIn b names) is (has_so names to second.0)
          | inr k ↦ elim (either (same_name from a) (has names a) (all_so (λ b. same_name from b || has names b) part second.1 a ((are.exact a).1 k.0))) [
            | inl is ↦ absurd (k.1 ((bytes_decides from a).0 is))
            | inr there ↦ has_so names a there
          ]
        ]),
      );
    }

-- those of a join are the attributes of both parts
join_attributes : (p q : Query) (left right names : List Name) → AreAttributes tables p left → AreAttributes tables q right → rises names ≡ true
    → (list_all (λ a. has left a || has right a) names && (list_all (has names) left && list_all (has names) right)) ≡ true → AreAttributes tables (Join p q) names
unfolding shape-the_row-Query-0 hidden-the_row-Query-0 hidden
join_attributes p q left right names are also rise same =
    let first = and_parts (list_all (λ a. has left a || has right a) names) (list_all (has names) left && list_all (has names) right) same in
    let second = and_parts (list_all (has names) left) (list_all (has names) right) first.1 in
    record {
      rising = rises_so names rise;
      exact = λ a. (
        (λ m. elim (either (has left a) (has right a) (all_so (λ b. has left b || has right b) names first.0 a m)) [
          | inl there ↦ inl ((are.exact a).0 (has_so left a there))
          | inr there ↦ inr ((also.exact a).0 (has_so right a there))
        ]),
        (λ h. elim h [
          | inl k ↦ has_so names a (all_so (has names) left second.0 a ((are.exact a).1 k))
          | inr k ↦ has_so names a (all_so (has names) right second.1 a ((also.exact a).1 k))
        ]),
      );
    }

narrow : (q : Query) (names : List Name) → AreAttributes tables q names → length names ≤ 1024 → ¬ IsTooWide tables q
narrow q names are few wide =
    let same : length names ≡ length wide.0 = ap (λ (xs : List Name). length xs) (lists_unique (HasAttribute tables q) names wide.0 are wide.1) in
    let above = wide.2 in
    omega arith

-- ---- nodes

table_fine : (t : SchemaTable) (names : List Name) → IsIn t tables → AreAttributes tables (Table t.name) names → length names ≤ 1024 → HasNoCause tables (Table t.name)
table_fine t names here are few = ((λ none. none (t, (here, refl))), ((λ h. h), ((λ h. h), ((λ h. h), ((λ h. h), (narrow (Table t.name) names are few, tt))))))

abbrev notes : SchemaTable
notes = table_of drafts note

abbrev persons : SchemaTable
persons = table_of drafts person

abbrev members : SchemaTable
members = table_of drafts member

notes_here : IsIn notes tables
notes_here = inr (inr (inr (inl refl)))

persons_here : IsIn persons tables
persons_here = inr (inl refl)

members_here : IsIn members tables
members_here = inr (inr (inl refl))

abbrev note_names : List Name
note_names = codes "size" ∷ codes "text" ∷ []

note_attributes : AreAttributes tables (Table notes.name) note_names
unfolding lib.Utf8.encode
note_attributes = table_attributes notes note_names notes_here refl refl

abbrev all_notes : Query
all_notes = Project (Table (codes "Note")) (codes "text" ∷ codes "size" ∷ [])

project_attributes : AreAttributes tables all_notes note_names
unfolding shape-the_row-Query-0 hidden-the_row-Query-0 hidden
project_attributes = record {
  rising = note_attributes.rising;
  exact = λ a. (
    (λ m. elim m [ inl e ↦ inr (inl e) | inr k ↦ elim k [ inl e ↦ inl e | inr h ↦ absurd h ] ]),
    (λ m. elim m [ inl e ↦ inr (inl e) | inr k ↦ elim k [ inl e ↦ inl e | inr h ↦ absurd h ] ]),
  );
}

abbrev ones : Query
ones = Ne (Table (codes "Note")) (codes "size") (Integer (pos 1))

ones_attributes : AreAttributes tables ones note_names
unfolding shape-the_row-Query-0 hidden-the_row-Query-0 hidden
ones_attributes = record { rising = note_attributes.rising; exact = note_attributes.exact }

answer_attributes : AreAttributes tables answer_query note_names
unfolding shape-the_row-Query-0 hidden-the_row-Query-0 hidden
answer_attributes = record { rising = project_attributes.rising; exact = project_attributes.exact }

abbrev person_names : List Name
person_names = codes "boss" ∷ codes "dept" ∷ codes "id" ∷ codes "name" ∷ []

person_attributes : AreAttributes tables (Table persons.name) person_names
unfolding lib.Utf8.encode
person_attributes = table_attributes persons person_names persons_here refl refl

abbrev member_names : List Name
member_names = codes "dept" ∷ codes "person" ∷ []

member_attributes : AreAttributes tables (Table members.name) member_names
unfolding lib.Utf8.encode
member_attributes = table_attributes members member_names members_here refl refl

abbrev renamed : Query
renamed = Rename (Table (codes "Person")) (codes "id") (codes "person")

abbrev joined_names : List Name
joined_names = codes "boss" ∷ codes "dept" ∷ codes "name" ∷ codes "person" ∷ []

renamed_attributes : AreAttributes tables renamed joined_names
unfolding lib.Utf8.encode
renamed_attributes = rename_attributes (Table (codes "Person")) (codes "id") (codes "person") person_names joined_names person_attributes refl refl

joined_attributes : AreAttributes tables joined_query joined_names
unfolding lib.Utf8.encode
joined_attributes = join_attributes renamed (Table (codes "Member")) joined_names member_names joined_names renamed_attributes member_attributes refl refl

-- ---- well-formed queries

project_fine : HasNoCause tables all_notes
unfolding shape-the_row-Query-0 hidden-the_row-Query-0 hidden
project_fine = (
  (λ h. h),
  (
    (λ none. cc none),
    (
      (λ lacks. elim lacks [ inl n ↦ n (notes, (notes_here, refl), inl refl) | inr k ↦ elim k [ inl n ↦ n (notes, (notes_here, refl), inr (inl refl)) | inr h ↦ h ] ]),
      (once_so (codes "text" ∷ codes "size" ∷ []) refl, ((λ h. h), (narrow all_notes note_names project_attributes (lit≤ tt), tt))),
    ),
  ),
)

ones_fine : HasNoCause tables ones
unfolding shape-the_row-Query-0 hidden-the_row-Query-0 hidden
ones_fine = ((λ h. h), ((λ h. h), ((λ lacks. lacks (notes, (notes_here, refl), inr (inl refl))), ((λ h. h), ((λ h. h), (narrow ones note_names ones_attributes (lit≤ tt), tt))))))

same_parts : (a : Name) → HasAttribute tables all_notes a ↔ HasAttribute tables ones a
same_parts a = ((λ h. (ones_attributes.exact a).0 ((project_attributes.exact a).1 h)), (λ h. (project_attributes.exact a).0 ((ones_attributes.exact a).1 h)))

difference_fine : HasNoCause tables answer_query
unfolding shape-the_row-Query-0 hidden-the_row-Query-0 hidden
difference_fine = ((λ h. h), ((λ h. h), ((λ h. h), ((λ h. h), ((λ unlike. unlike same_parts), (narrow answer_query note_names answer_attributes (lit≤ tt), tt))))))

note_fine : HasNoCause tables (Table notes.name)
note_fine = table_fine notes note_names notes_here note_attributes (lit≤ tt)

pub answer_formed : IsWellFormed tables answer_query
unfolding shape-the_row-Query-0 hidden-the_row-Query-0 hidden
answer_formed = record {
  faultless = (note_fine, (project_fine, (note_fine, (ones_fine, (difference_fine, tt)))));
  names = (
    some_so (codes "Note" ∷ []) refl,
    (some_so (codes "text" ∷ codes "size" ∷ []) refl, (some_so (codes "Note" ∷ []) refl, (some_so (codes "size" ∷ []) refl, (some_so [] refl, tt)))),
  );
}

renaming_fine : HasNoCause tables renamed
unfolding shape-the_row-Query-0 hidden-the_row-Query-0 hidden
renaming_fine = (
  (λ h. h),
  (
    (λ h. h),
    (
      (λ lacks. lacks (persons, (persons_here, refl), inl refl)),
      ((λ taken. differ_person (has_person taken)), ((λ h. h), (narrow renamed joined_names renamed_attributes (lit≤ tt), tt))),
    ),
  ),
)
  where
    has_person : HasAttribute tables (Table (codes "Person")) (codes "person") → IsIn (codes "person") person_names
    has_person h = (person_attributes.exact (codes "person")).1 h

    differ_person : ¬ IsIn (codes "person") person_names
    differ_person m = true≢false (sym ((IsIn-decides same_name bytes_decides (codes "person") person_names).1 m))

person_fine : HasNoCause tables (Table persons.name)
person_fine = table_fine persons person_names persons_here person_attributes (lit≤ tt)

member_fine : HasNoCause tables (Table members.name)
member_fine = table_fine members member_names members_here member_attributes (lit≤ tt)

join_fine : HasNoCause tables joined_query
unfolding shape-the_row-Query-0 hidden-the_row-Query-0 hidden
join_fine = ((λ h. h), ((λ h. h), ((λ h. h), ((λ h. h), ((λ h. h), (narrow joined_query joined_names joined_attributes (lit≤ tt), tt))))))

pub joined_formed : IsWellFormed tables joined_query
unfolding shape-the_row-Query-0 hidden-the_row-Query-0 hidden
joined_formed = record {
  faultless = (person_fine, (renaming_fine, (member_fine, (join_fine, tt))));
  names = (
    some_so (codes "Person" ∷ []) refl,
    (some_so (codes "id" ∷ codes "person" ∷ []) refl, (some_so (codes "Member" ∷ []) refl, (some_so [] refl, tt))),
  );
}
