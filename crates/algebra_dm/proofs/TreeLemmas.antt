-- The answer of a query by those of its parts.
use Rattle.std.proofs.Common.{◌≡◌, ◌∙◌, ◌⊎◌, List, [], ◌∷◌, ◌++◌, Result, Ok, Err, refl, sym, ap, subst, inl, inr, ⊎_elim}
use denote.Hole.Carrier.{hidden}
use Rattle.value_dm.specs.declared.value.Value.{Value}
use Rattle.schema_dm.specs.Naming.{Name}
use Rattle.schema_dm.specs.declared.table.Table.{Table as SchemaTable}
use Rattle.members_dm.specs.Elements.{Each}
use Rattle.algebra_dm.specs.Causes.{HasNoCause}
use Rattle.algebra_dm.specs.Checking.{IsAnswer, IsKnown, IsNodeAnswer}
use Rattle.algebra_dm.specs.Nodes.{IsFaultless, IsFirstFault, nodes}
use Rattle.algebra_dm.specs.declared.error.QueryError.{QueryError}
use Rattle.algebra_dm.specs.declared.known.Known.{Known}
use Rattle.algebra_dm.specs.declared.query.Mode.{Mode}
use Rattle.algebra_dm.specs.declared.query.Query.{Query}
use Rattle.algebra_dm.specs.declared.query.Query.TheVariants.{Table, Null, Eq, Ne, IsNull, NotNull, Project, Rename, Join, Union, Diff}
use Rattle.algebra_dm.specs.declared.query.Query.TheBlock.{shape-the_row-Query-0, hidden-the_row-Query-0}
use Rattle.algebra_dm.proofs.FirstLemmas.{Each-append, fault_back, fault_front}

-- the query has one part, or two
abbrev pub OnePart : Query → Query → Type 0
OnePart q p = nodes q ≡ nodes p ++ q ∷ []

abbrev pub TwoParts : Query → Query → Query → Type 0
TwoParts q left right = nodes q ≡ nodes left ++ nodes right ++ q ∷ []

one_at : (q p n : Query) → q ≡ n → nodes n ≡ nodes p ++ n ∷ [] → OnePart q p
one_at q p n e h = subst (λ z. nodes z ≡ nodes p ++ z ∷ []) (sym e) h

two_at : (q p s n : Query) → q ≡ n → nodes n ≡ nodes p ++ nodes s ++ n ∷ [] → TwoParts q p s
two_at q p s n e h = subst (λ z. nodes z ≡ nodes p ++ nodes s ++ z ∷ []) (sym e) h

pub eq_part : (q p : Query) (n : Name) (v : Value) → q ≡ Eq p n v → OnePart q p
unfolding shape-the_row-Query-0 hidden-the_row-Query-0 hidden
eq_part q p n v e = one_at q p (Eq p n v) e refl

pub ne_part : (q p : Query) (n : Name) (v : Value) → q ≡ Ne p n v → OnePart q p
unfolding shape-the_row-Query-0 hidden-the_row-Query-0 hidden
ne_part q p n v e = one_at q p (Ne p n v) e refl

pub is_null_part : (q p : Query) (n : Name) → q ≡ IsNull p n → OnePart q p
unfolding shape-the_row-Query-0 hidden-the_row-Query-0 hidden
is_null_part q p n e = one_at q p (IsNull p n) e refl

pub not_null_part : (q p : Query) (n : Name) → q ≡ NotNull p n → OnePart q p
unfolding shape-the_row-Query-0 hidden-the_row-Query-0 hidden
not_null_part q p n e = one_at q p (NotNull p n) e refl

pub project_part : (q p : Query) (names : List Name) → q ≡ Project p names → OnePart q p
unfolding shape-the_row-Query-0 hidden-the_row-Query-0 hidden
project_part q p names e = one_at q p (Project p names) e refl

pub rename_part : (q p : Query) (from to : Name) → q ≡ Rename p from to → OnePart q p
unfolding shape-the_row-Query-0 hidden-the_row-Query-0 hidden
rename_part q p from to e = one_at q p (Rename p from to) e refl

pub join_parts : (q left right : Query) → q ≡ Join left right → TwoParts q left right
unfolding shape-the_row-Query-0 hidden-the_row-Query-0 hidden
join_parts q left right e = two_at q left right (Join left right) e refl

pub union_parts : (q left right : Query) → q ≡ Union left right → TwoParts q left right
unfolding shape-the_row-Query-0 hidden-the_row-Query-0 hidden
union_parts q left right e = two_at q left right (Union left right) e refl

pub diff_parts : (q left right : Query) → q ≡ Diff left right → TwoParts q left right
unfolding shape-the_row-Query-0 hidden-the_row-Query-0 hidden
diff_parts q left right e = two_at q left right (Diff left right) e refl

module _ (mode : Mode) (tables : List SchemaTable) (q : Query) where
  -- the nodes before the outermost have no cause
  behind : (ps : List Query) → nodes q ≡ ps ++ q ∷ [] → Each (HasNoCause tables) ps → (r : Result Known QueryError) → IsNodeAnswer mode tables q r → IsAnswer mode tables q r
  behind ps e each (Ok known) h = (subst (Each (HasNoCause tables)) (sym e) (Each-append (HasNoCause tables) ps (q ∷ []) each (h.0, tt)), h.1)
  behind ps e each (Err error) (inl memory) = inl memory
  behind ps e each (Err error) (inr h) = inr (subst (λ qs. IsFirstFault tables qs error) (sym e) (fault_back tables ps (q ∷ []) error each (inl h)))

  fails_in : (ps qs : List Query) (error : QueryError) → nodes q ≡ ps ++ qs → IsFirstFault tables ps error → IsFirstFault tables (nodes q) error
  fails_in ps qs error e h = subst (λ xs. IsFirstFault tables xs error) (sym e) (fault_front tables ps qs error h)

  pub leaf_answer : nodes q ≡ q ∷ [] → (r : Result Known QueryError) → IsNodeAnswer mode tables q r → IsAnswer mode tables q r
  leaf_answer e r h = behind [] e tt r h

  module _ (p read : Query) (one : OnePart q p) (same : read ≡ p) where
    pub part_fails : (error : QueryError) → IsAnswer mode tables read (Err error) → IsAnswer mode tables q (Err error)
    part_fails error (inl memory) = inl memory
    part_fails error (inr h) = inr (fails_in (nodes p) (q ∷ []) error one (subst (λ z. IsFirstFault tables (nodes z) error) same h))

    pub part_holds : (part : Known) → IsAnswer mode tables read (Ok part) → (r : Result Known QueryError) → (IsKnown mode tables p part → IsNodeAnswer mode tables q r) → IsAnswer mode tables q r
    part_holds part h r next =
        let here : IsAnswer mode tables p (Ok part) = subst (λ z. IsAnswer mode tables z (Ok part)) same h in
        behind (nodes p) one here.0 r (next here.1)

  module _ (left right read : Query) (two : TwoParts q left right) (same : read ≡ left) where
    pub left_fails : (error : QueryError) → IsAnswer mode tables read (Err error) → IsAnswer mode tables q (Err error)
    left_fails error (inl memory) = inl memory
    left_fails error (inr h) = inr (fails_in (nodes left ++ nodes right) (q ∷ []) error two (fault_front tables (nodes left) (nodes right) error (subst (λ z. IsFirstFault tables (nodes z) error) same h)))

  module _ (left right read also_read : Query) (two : TwoParts q left right) (same : read ≡ left) (same_right : also_read ≡ right) where
    module _ (part : Known) (holds : IsAnswer mode tables read (Ok part)) where
      pub right_fails : (error : QueryError) → IsAnswer mode tables also_read (Err error) → IsAnswer mode tables q (Err error)
      right_fails error (inl memory) = inl memory
      right_fails error (inr h) =
          let here : IsAnswer mode tables left (Ok part) = subst (λ z. IsAnswer mode tables z (Ok part)) same holds in
          inr (fails_in (nodes left ++ nodes right) (q ∷ []) error two (fault_back tables (nodes left) (nodes right) error here.0 (subst (λ z. IsFirstFault tables (nodes z) error) same_right h)))

      pub parts_hold : (other : Known) → IsAnswer mode tables also_read (Ok other) → (r : Result Known QueryError)
          → (IsKnown mode tables left part → IsKnown mode tables right other → IsNodeAnswer mode tables q r) → IsAnswer mode tables q r
      parts_hold other also r next =
          let here : IsAnswer mode tables left (Ok part) = subst (λ z. IsAnswer mode tables z (Ok part)) same holds in
          let there : IsAnswer mode tables right (Ok other) = subst (λ z. IsAnswer mode tables z (Ok other)) same_right also in
          behind (nodes left ++ nodes right) two (Each-append (HasNoCause tables) (nodes left) (nodes right) here.0 there.0) r (next here.1 there.1)

pub table_leaf : (mode : Mode) (tables : List SchemaTable) (name : Name) (r : Result Known QueryError) → IsNodeAnswer mode tables (Table name) r → IsAnswer mode tables (Table name) r
table_leaf mode tables name r h = leaf_answer mode tables (Table name) refl r h

pub null_leaf : (mode : Mode) (tables : List SchemaTable) (name : Name) (r : Result Known QueryError) → IsNodeAnswer mode tables (Null name) r → IsAnswer mode tables (Null name) r
null_leaf mode tables name r h = leaf_answer mode tables (Null name) refl r h
