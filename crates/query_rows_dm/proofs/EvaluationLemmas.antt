-- The relation of a query by those of its parts.
use Rattle.std.proofs.Common.{◌≡◌, ◌≢◌, ◌∙◌, ◌<◌, ◌⊎◌, ◌↔◌, ℕ, List, [], ◌∷◌, ◌++◌, Option, Some, None, get_or, refl, sym, ap, subst, arith, inl, inr, ⊎_elim, length, map}
use denote.Hole.Carrier.{hidden}
use Rattle.std.specs.Prelude.{slice_get}
use Rattle.std.specs.Option.{IsSome, option_map}
use Rattle.std.proofs.lemmas.List.{length-map}
use Rattle.std.proofs.lemmas.Option.{slice_get-get_or, slice_get-map, slice_get_within}
use Rattle.members_dm.specs.Elements.{Each}
use Rattle.members_dm.specs.Membership.{IsIn, NoRepeats}
use Rattle.members_dm.proofs.ElementsLemmas.{each_lacks, index_of_item, item_at_index, item_from_each, NoRepeats-from_not, one_by_key, one_index}
use Rattle.members_dm.proofs.MembershipLemmas.{map-IsIn, IsIn-map}
use Rattle.value_dm.specs.declared.value.Value.{Value}
use Rattle.schema_dm.specs.Naming.{Name, BeginsBadly, column_names}
use Rattle.schema_dm.specs.Schemas.{IsSchema, IsTable, no_table, table_at}
use Rattle.members_dm.specs.InOrder.{IsFirstPlace}
use Rattle.schema_dm.specs.declared.draft.Column.{Column}
use Rattle.schema_dm.specs.declared.table.Table.{Table as SchemaTable}
use Rattle.table_csv.specs.Cells.{Row}
use Rattle.table_csv.specs.Databases.{Data, rows_at}
use Rattle.names_dm.specs.Variables.{variable_of}
use Rattle.algebra_dm.specs.Attributes.{HasAttribute, HasTable}
use Rattle.algebra_dm.specs.Causes.{HasNoCause, HaveSame}
use Rattle.algebra_dm.specs.Nodes.{IsWellFormed, names_at, nodes}
use Rattle.algebra_dm.specs.Tuples.{Tuple, IsTuple, IsRowOfTable, IsUnder}
use Rattle.algebra_dm.specs.declared.query.Query.{Query, end_of-Query, more_of-Query}
use Rattle.algebra_dm.specs.declared.query.Query.TheVariants.{Table, Null, Eq, Ne, IsNull, NotNull, Project, Rename, Join, Union, Diff, Eq', Ne', IsNull', NotNull', Project', Rename', Join', Union', Diff'}
use Rattle.algebra_dm.specs.declared.query.Query.TheBlock.{shape-the_row-Query-0, hidden-the_row-Query-0}
use Rattle.algebra_dm.proofs.TreeLemmas.{OnePart, TwoParts}
use Rattle.algebra_dm.proofs.FirstLemmas.{Each-front}
use Rattle.query_rows_dm.specs.Evaluation.{IsEvaluated}
use Rattle.query_rows_dm.specs.Numbers.{AreOneToOne, IsNumber, IsSought, cell_of}
use Rattle.query_rows_dm.specs.Operators.{IsNullRow, AreKept, AreMoved, AreRenamed, renamed, AreJoined, AreUnited, AreSubtracted}
use Rattle.query_rows_dm.specs.Relations.{Numbers, Reads, OwnsVariable, AreNumbers, IsRelation}
use Rattle.query_rows_dm.specs.Tables.{IsRowOf, IsTableRelation}
use Rattle.query_rows_dm.specs.declared.relation.Relation.{Relation}
use Rattle.query_rows_dm.proofs.NumberLemmas.{grown_not, grown_twice, null_is, value_there}
use Rattle.query_rows_dm.proofs.OperatorLemmas.{kept_relation, projected_relation, renamed_once, renamed_relation, joined_relation, united_relation, subtracted_relation, null_relation}
use Rattle.query_rows_dm.proofs.RowLemmas.{in_or_not, relation_grown}

-- ---- what is known at a node, and at its parts

pub Each-back : {X : Type 0} (P : X → Type 0) (xs ys : List X) → Each P (xs ++ ys) → Each P ys
Each-back P [] ys h = h
Each-back P (x ∷ xs) ys h = Each-back P xs ys h.1

-- a node without a cause, none of whose names is empty
pub record IsFine (tables : List SchemaTable) (q : Query) : Type 0 where
  pub causes : HasNoCause tables q
  pub names : ¬ IsIn [] (names_at q)

module _ (tables : List SchemaTable) (q : Query) (h : IsWellFormed tables q) where
  pub leaf_fine : nodes q ≡ q ∷ [] → IsFine tables q
  leaf_fine e = record { causes = (subst (Each (HasNoCause tables)) e h.faultless).0; names = (subst (Each (λ n. ¬ IsIn [] (names_at n))) e h.names).0 }

  module _ (p : Query) (one : OnePart q p) where
    pub part_formed : IsWellFormed tables p
    part_formed = record {
      faultless = Each-front (HasNoCause tables) (nodes p) (q ∷ []) (subst (Each (HasNoCause tables)) one h.faultless);
      names = Each-front (λ n. ¬ IsIn [] (names_at n)) (nodes p) (q ∷ []) (subst (Each (λ n. ¬ IsIn [] (names_at n))) one h.names);
    }

    pub part_fine : IsFine tables q
    part_fine = record {
      causes = (Each-back (HasNoCause tables) (nodes p) (q ∷ []) (subst (Each (HasNoCause tables)) one h.faultless)).0;
      names = (Each-back (λ n. ¬ IsIn [] (names_at n)) (nodes p) (q ∷ []) (subst (Each (λ n. ¬ IsIn [] (names_at n))) one h.names)).0;
    }

  module _ (p s : Query) (two : TwoParts q p s) where
    before : (P : Query → Type 0) → Each P (nodes q) → Each P (nodes p ++ nodes s)
    before P each = Each-front P (nodes p ++ nodes s) (q ∷ []) (subst (Each P) two each)

    last : (P : Query → Type 0) → Each P (nodes q) → P q
    last P each = (Each-back P (nodes p ++ nodes s) (q ∷ []) (subst (Each P) two each)).0

    pub left_formed : IsWellFormed tables p
    left_formed = record {
      faultless = Each-front (HasNoCause tables) (nodes p) (nodes s) (before (HasNoCause tables) h.faultless);
      names = Each-front (λ n. ¬ IsIn [] (names_at n)) (nodes p) (nodes s) (before (λ n. ¬ IsIn [] (names_at n)) h.names);
    }

    pub right_formed : IsWellFormed tables s
    right_formed = record {
      faultless = Each-back (HasNoCause tables) (nodes p) (nodes s) (before (HasNoCause tables) h.faultless);
      names = Each-back (λ n. ¬ IsIn [] (names_at n)) (nodes p) (nodes s) (before (λ n. ¬ IsIn [] (names_at n)) h.names);
    }

    pub parts_fine : IsFine tables q
    parts_fine = record { causes = last (HasNoCause tables) h.faultless; names = last (λ n. ¬ IsIn [] (names_at n)) h.names }

pub no_empty : (tables : List SchemaTable) → IsSchema tables → (q : Query) → Each (λ node. ¬ IsIn [] (names_at node)) (nodes q) → ¬ HasAttribute tables q []
no_empty tables schema (Table t) n h =
    let c = IsIn-map (λ (c : Column). c.name) [] h.0.columns h.2 in
    (schema.each h.0 h.1.0).column_names c.0 c.1 (inr (subst BeginsBadly (sym c.2) tt))
no_empty tables schema (Null m) n h = n.0 (inl h)
no_empty tables schema (Eq' s (more_of-Query p end_of-Query) m v) n h = no_empty tables schema p (Each-front (λ node. ¬ IsIn [] (names_at node)) (nodes p) _ n) h
no_empty tables schema (Ne' s (more_of-Query p end_of-Query) m v) n h = no_empty tables schema p (Each-front (λ node. ¬ IsIn [] (names_at node)) (nodes p) _ n) h
no_empty tables schema (IsNull' s (more_of-Query p end_of-Query) m) n h = no_empty tables schema p (Each-front (λ node. ¬ IsIn [] (names_at node)) (nodes p) _ n) h
no_empty tables schema (NotNull' s (more_of-Query p end_of-Query) m) n h = no_empty tables schema p (Each-front (λ node. ¬ IsIn [] (names_at node)) (nodes p) _ n) h
no_empty tables schema (Project' s (more_of-Query p end_of-Query) names) n h = (Each-back (λ node. ¬ IsIn [] (names_at node)) (nodes p) _ n).0 h
no_empty tables schema (Rename' s (more_of-Query p end_of-Query) from to) n (inl e) = (Each-back (λ node. ¬ IsIn [] (names_at node)) (nodes p) _ n).0 (inr (inl e))
no_empty tables schema (Rename' s (more_of-Query p end_of-Query) from to) n (inr h) = no_empty tables schema p (Each-front (λ node. ¬ IsIn [] (names_at node)) (nodes p) _ n) h.0
no_empty tables schema (Join' s (more_of-Query p end_of-Query) s' (more_of-Query q end_of-Query)) n (inl h) = no_empty tables schema p (Each-front (λ node. ¬ IsIn [] (names_at node)) (nodes p) (nodes q) (Each-front (λ node. ¬ IsIn [] (names_at node)) (nodes p ++ nodes q) _ n)) h
no_empty tables schema (Join' s (more_of-Query p end_of-Query) s' (more_of-Query q end_of-Query)) n (inr h) = no_empty tables schema q (Each-back (λ node. ¬ IsIn [] (names_at node)) (nodes p) (nodes q) (Each-front (λ node. ¬ IsIn [] (names_at node)) (nodes p ++ nodes q) _ n)) h
no_empty tables schema (Union' s (more_of-Query p end_of-Query) s' (more_of-Query q end_of-Query)) n h = no_empty tables schema p (Each-front (λ node. ¬ IsIn [] (names_at node)) (nodes p) (nodes q) (Each-front (λ node. ¬ IsIn [] (names_at node)) (nodes p ++ nodes q) _ n)) h
no_empty tables schema (Diff' s (more_of-Query p end_of-Query) s' (more_of-Query q end_of-Query)) n h = no_empty tables schema p (Each-front (λ node. ¬ IsIn [] (names_at node)) (nodes p) (nodes q) (Each-front (λ node. ¬ IsIn [] (names_at node)) (nodes p ++ nodes q) _ n)) h

pub first_named : (a : Name) (names : List Name) → ¬ IsIn [] (a ∷ names) → a ≢ []
first_named a names n e = n (inl e)

pub second_named : (a b : Name) → ¬ IsIn [] (a ∷ b ∷ []) → b ≢ []
second_named a b n e = n (inr (inl e))

-- an attribute of a relation, unless it is none
module _ (values : List Value) (A : Name → Type 0) (P : Tuple → Type 0) (part : Relation) (h : IsRelation values A P part) where
  attribute_or_not : (a : Name) → A a ⊎ (¬ A a)
  attribute_or_not a = ⊎_elim
      (λ here. let b = (h.attributes (variable_of a)).0 here in inl (subst A (sym (h.owned b.0 b.1 a (sym b.2))) b.1))
      (λ out. inr (λ k. out ((h.attributes (variable_of a)).1 (a, k, refl))))
      (in_or_not (variable_of a) part.attributes)

  attribute_there : (a : Name) → (¬ A a → ⊥) → A a
  attribute_there a n = ⊎_elim (λ k. k) (λ k. absurd (n k)) (attribute_or_not a)

-- ---- one part

module _ (D : Data) (old new : List Value) (p : Query) (part r : Relation) (h : IsEvaluated old new D p part) where
  module _ (q : Query) (n : Name) (Q : Numbers → Type 0) (R : Tuple → Type 0) (k : AreKept Q part r)
      (same : (m : Numbers) (w : Tuple) → AreNumbers new part.attributes m → Reads new m w → Q m ↔ R w)
      (attributes : HasAttribute D.tables q ≡ HasAttribute D.tables p) (tuples : IsTuple D q ≡ (λ w. IsTuple D p w × R w)) where
    kept_evaluated : IsEvaluated old new D q r
    kept_evaluated = record {
      grown = h.grown;
      relation = subst (λ (A : Name → Type 0). IsRelation new A (IsTuple D q) r) (sym attributes)
          (subst (λ (P : Tuple → Type 0). IsRelation new (HasAttribute D.tables p) P r) (sym tuples)
          (kept_relation new (HasAttribute D.tables p) (IsTuple D p) R Q part r h.relation k same));
    }

  module _ (n : Name) (there : HasAttribute D.tables p n) where
    number_here : (m : Numbers) → AreNumbers new part.attributes m → IsNumber new (m (variable_of n))
    number_here m nums = nums.bound (variable_of n) ((h.relation.attributes (variable_of n)).1 (n, there, refl))

    equal_same : (v : Value) (id : ℕ) → IsSought new v id → (m : Numbers) (w : Tuple) → AreNumbers new part.attributes m → Reads new m w → (m (variable_of n) ≡ id) ↔ (w n ≡ Some v)
    equal_same v id sought m w nums reads = let s = sought (m (variable_of n)) (number_here m nums) in ((λ e. reads n ∙ s.0 e), (λ e. s.1 (sym (reads n) ∙ e)))

    other_same : (v : Value) (id : ℕ) → IsSought new v id → (m : Numbers) (w : Tuple) → AreNumbers new part.attributes m → Reads new m w →
        ((m (variable_of n) ≢ 1) × (m (variable_of n) ≢ id)) ↔ ((x : Value) × (w n ≡ Some x) × (x ≢ v))
    other_same v id sought m w nums reads =
        let s = sought (m (variable_of n)) (number_here m nums) in (
          (λ k. let x = value_there new (m (variable_of n)) (number_here m nums) k.0 in (x.0, reads n ∙ x.1, λ e. k.1 (s.1 (x.1 ∙ ap (λ (y : Value). Some y) e)))),
          (λ k. ((λ e. none_some k.0 (sym (ap (cell_of new) e) ∙ sym (reads n) ∙ k.1)), (λ e. k.2 (the_same k.0 v (sym k.1 ∙ reads n ∙ s.0 e))))),
        )
      where
        none_some : (x : Value) → None ≡ Some x → ⊥
        none_some x e = cc e

        the_same : (x y : Value) → Some x ≡ Some y → x ≡ y
        the_same x y e = cc e

    null_same : (m : Numbers) (w : Tuple) → AreNumbers new part.attributes m → Reads new m w → (m (variable_of n) ≡ 1) ↔ (w n ≡ None)
    null_same m w nums reads = let s = null_is new (m (variable_of n)) (number_here m nums) in ((λ e. reads n ∙ s.0 e), (λ e. s.1 (sym (reads n) ∙ e)))

    not_null_same : (m : Numbers) (w : Tuple) → AreNumbers new part.attributes m → Reads new m w → (m (variable_of n) ≢ 1) ↔ (w n ≢ None)
    not_null_same m w nums reads = let s = null_same m w nums reads in ((λ k e. k (s.1 e)), (λ k e. k (s.0 e)))

  here_from : (n : Name) → (¬ HasAttribute D.tables p n → ⊥) → HasAttribute D.tables p n
  here_from n k = attribute_there new (HasAttribute D.tables p) (IsTuple D p) part h.relation n k

  pub eq_evaluated : (n : Name) (v : Value) (id : ℕ) → IsFine D.tables (Eq p n v) → IsSought new v id → AreKept (λ m. m (variable_of n) ≡ id) part r → IsEvaluated old new D (Eq p n v) r
  unfolding shape-the_row-Query-0 hidden-the_row-Query-0 hidden
  eq_evaluated n v id fine sought k = kept_evaluated (Eq p n v) n (λ m. m (variable_of n) ≡ id) (λ w. w n ≡ Some v) k (equal_same n (here_from n fine.causes.1.1.0) v id sought) refl refl

  pub ne_evaluated : (n : Name) (v : Value) (id : ℕ) → IsFine D.tables (Ne p n v) → IsSought new v id → AreKept (λ m. (m (variable_of n) ≢ 1) × (m (variable_of n) ≢ id)) part r → IsEvaluated old new D (Ne p n v) r
  unfolding shape-the_row-Query-0 hidden-the_row-Query-0 hidden
  ne_evaluated n v id fine sought k = kept_evaluated (Ne p n v) n (λ m. (m (variable_of n) ≢ 1) × (m (variable_of n) ≢ id)) (λ w. (x : Value) × (w n ≡ Some x) × (x ≢ v)) k (other_same n (here_from n fine.causes.1.1.0) v id sought) refl refl

  pub is_null_evaluated : (n : Name) → IsFine D.tables (IsNull p n) → AreKept (λ m. m (variable_of n) ≡ 1) part r → IsEvaluated old new D (IsNull p n) r
  unfolding shape-the_row-Query-0 hidden-the_row-Query-0 hidden
  is_null_evaluated n fine k = kept_evaluated (IsNull p n) n (λ m. m (variable_of n) ≡ 1) (λ w. w n ≡ None) k (null_same n (here_from n fine.causes.1.1.0)) refl refl

  pub not_null_evaluated : (n : Name) → IsFine D.tables (NotNull p n) → AreKept (λ m. m (variable_of n) ≢ 1) part r → IsEvaluated old new D (NotNull p n) r
  unfolding shape-the_row-Query-0 hidden-the_row-Query-0 hidden
  not_null_evaluated n fine k = kept_evaluated (NotNull p n) n (λ m. m (variable_of n) ≢ 1) (λ w. w n ≢ None) k (not_null_same n (here_from n fine.causes.1.1.0)) refl refl

  pub project_once : (names : List Name) → IsFine D.tables (Project p names) → NoRepeats names
  unfolding shape-the_row-Query-0 hidden-the_row-Query-0 hidden
  project_once names fine = NoRepeats-from_not names fine.causes.1.1.1.0

  some_name : (names : List Name) → (names ≡ [] → ⊥) → (a : Name) × IsIn a names
  some_name [] n = absurd (n refl)
  some_name (a ∷ names) n = (a, inl refl)

  pub project_evaluated : (names : List Name) → IsFine D.tables (Project p names) → AreMoved (map variable_of names) (λ x. x) part r → IsEvaluated old new D (Project p names) r
  unfolding shape-the_row-Query-0 hidden-the_row-Query-0 hidden
  project_evaluated names fine k = record {
    grown = h.grown;
    relation = projected_relation new (HasAttribute D.tables p) (IsTuple D p) names part r h.relation
        (λ a here. here_from a (item_from_each (λ b. ¬ ¬ HasAttribute D.tables p b) names (each_lacks (λ b. ¬ HasAttribute D.tables p b) names fine.causes.1.1.0) a here))
        (some_name names fine.causes.1.0) (NoRepeats-from_not names fine.causes.1.1.1.0) k;
  }

  pub rename_once : (from to : Name) → IsFine D.tables (Rename p from to) → NoRepeats (map (renamed (variable_of from) (variable_of to)) part.attributes)
  unfolding shape-the_row-Query-0 hidden-the_row-Query-0 hidden
  rename_once from to fine = renamed_once new (HasAttribute D.tables p) (IsTuple D p) from to part h.relation (here_from from fine.causes.1.1.0) fine.causes.1.1.1.0

  pub rename_evaluated : (from to : Name) → IsFine D.tables (Rename p from to) → AreRenamed from to part r → IsEvaluated old new D (Rename p from to) r
  unfolding shape-the_row-Query-0 hidden-the_row-Query-0 hidden
  rename_evaluated from to fine k = record {
    grown = h.grown;
    relation = renamed_relation new (HasAttribute D.tables p) (IsTuple D p) from to part h.relation (here_from from fine.causes.1.1.0) fine.causes.1.1.1.0 r k.owned k.moved;
  }

-- ---- two parts

module _ (D : Data) (old mid new : List Value) (p q : Query) (left right r : Relation) (h : IsEvaluated old mid D p left) (k : IsEvaluated mid new D q right) (one : AreOneToOne old) where
  now : AreOneToOne new
  now = k.grown.apart (h.grown.apart one)

  left_now : IsRelation new (HasAttribute D.tables p) (IsTuple D p) left
  left_now = relation_grown mid new k.grown (HasAttribute D.tables p) (IsTuple D p) left h.relation

  pub join_evaluated : AreJoined left right r → IsEvaluated old new D (Join p q) r
  unfolding shape-the_row-Query-0 hidden-the_row-Query-0 hidden
  join_evaluated j = record {
    grown = grown_twice old mid new h.grown k.grown;
    relation = joined_relation new now (HasAttribute D.tables p) (HasAttribute D.tables q) (IsTuple D p) (IsTuple D q) left right r left_now k.relation j;
  }

  -- parts that can't but have the same attributes
  same_from : (¬ HaveSame D.tables p q → ⊥) → HaveSame D.tables p q
  same_from n a = (
    (λ x. ⊎_elim (λ y. y) (λ y. absurd (n (λ same. y ((same a).0 x)))) (attribute_or_not new (HasAttribute D.tables q) (IsTuple D q) right k.relation a)),
    (λ x. ⊎_elim (λ y. y) (λ y. absurd (n (λ same. y ((same a).1 x)))) (attribute_or_not new (HasAttribute D.tables p) (IsTuple D p) left left_now a)),
  )

  pub union_evaluated : IsFine D.tables (Union p q) → AreUnited left right r → IsEvaluated old new D (Union p q) r
  unfolding shape-the_row-Query-0 hidden-the_row-Query-0 hidden
  union_evaluated fine j = record {
    grown = grown_twice old mid new h.grown k.grown;
    relation = united_relation new now (HasAttribute D.tables p) (HasAttribute D.tables q) (IsTuple D p) (IsTuple D q) left right r left_now k.relation (same_from fine.causes.1.1.1.1.0) j;
  }

  pub diff_evaluated : IsFine D.tables (Diff p q) → AreSubtracted left right r → IsEvaluated old new D (Diff p q) r
  unfolding shape-the_row-Query-0 hidden-the_row-Query-0 hidden
  diff_evaluated fine j = record {
    grown = grown_twice old mid new h.grown k.grown;
    relation = subtracted_relation new now (HasAttribute D.tables p) (HasAttribute D.tables q) (IsTuple D p) (IsTuple D q) left right r left_now k.relation (same_from fine.causes.1.1.1.1.0) j;
  }

-- ---- leaves

pub null_evaluated : (D : Data) (values : List Value) (name : Name) (r : Relation) → IsNullRow name r → IsEvaluated values values D (Null name) r
null_evaluated D values name r k = record { grown = grown_not values; relation = null_relation values name r k }

pub table_there : (tables : List SchemaTable) (name : Name) → IsFine tables (Table name) → HasTable tables name
table_there tables name fine = ⊎_elim
    (λ here. let t = IsIn-map (λ (t : SchemaTable). t.name) name tables here in (t.0, (t.1, t.2)))
    (λ out. absurd (fine.causes.0 (λ t. out (subst (λ n. IsIn n (map (λ (t : SchemaTable). t.name) tables)) t.1.1 (map-IsIn (λ (t : SchemaTable). t.name) t.0 tables t.1.0)))))
    (in_or_not name (map (λ (t : SchemaTable). t.name) tables))

-- ---- the table of a name

pub place_there : (names : List Name) (name : Name) (o : Option ℕ) → IsIn name names → IsFirstPlace names name o → IsSome o
place_there names name None here h = let k = index_of_item name names here in absurd (h k.0 k.2)
place_there names name (Some k) here h = refl

pub place_read : (names : List Name) (name : Name) (o : Option ℕ) (k : ℕ) → o ≡ Some k → IsFirstPlace names name o → slice_get names k ≡ Some name
place_read names name o k e h = (subst (IsFirstPlace names name) e h).0

pub table_read : (found tables : List SchemaTable) (place : ℕ) (t : SchemaTable) → found ≡ tables → place < length tables → t ≡ get_or found place t → t ≡ table_at tables place
table_read found tables place t same l e =
    let here : t ≡ get_or tables place t = e ∙ ap (λ ts. get_or ts place t) same in
    here ∙ the_same (sym (slice_get-get_or tables place t l) ∙ slice_get-get_or tables place no_table l)
  where
    the_same : {a b : SchemaTable} → Some a ≡ Some b → a ≡ b
    the_same e = cc e

pub name_in : (tables : List SchemaTable) (names : List Name) (name : Name) → names ≡ map (λ (t : SchemaTable). t.name) tables → HasTable tables name → IsIn name names
name_in tables names name e h = subst (λ ns. IsIn name ns) (sym e) (subst (λ n. IsIn n (map (λ (t : SchemaTable). t.name) tables)) h.1.1 (map-IsIn (λ (t : SchemaTable). t.name) h.0 tables h.1.0))

module _ (tables : List SchemaTable) (schema : IsSchema tables) (place : ℕ) (l : place < length tables) where
  at_place : slice_get tables place ≡ Some (table_at tables place)
  at_place = slice_get-get_or tables place no_table l

  of_schema : IsTable tables (table_at tables place)
  of_schema = schema.each (table_at tables place) (item_at_index (table_at tables place) tables place at_place)

  pub names_good : ¬ IsIn [] (column_names (table_at tables place).columns)
  names_good here =
      let c = IsIn-map (λ (c : Column). c.name) [] (table_at tables place).columns here in
      of_schema.column_names c.0 c.1 (inr (subst BeginsBadly (sym c.2) tt))

  pub names_once : NoRepeats (column_names (table_at tables place).columns)
  names_once = of_schema.distinct

  pub place_small : place < 4096
  place_small = omega (arith, l, schema.few)

pub below : (names : List Name) (tables : List SchemaTable) (place : ℕ) (name : Name) → names ≡ map (λ (t : SchemaTable). t.name) tables → slice_get names place ≡ Some name → place < length tables
below names tables place name e at = omega (arith, slice_get_within names place name at, ap length e, length-map tables (λ (t : SchemaTable). t.name))

module _ (D : Data) (old new : List Value) (name : Name) (t : ℕ) (table : SchemaTable) (r : Relation) (once : NoRepeats (map (λ (t : SchemaTable). t.name) D.tables))
    (at : slice_get D.tables t ≡ Some table) (is : table.name ≡ name) (some : (a : Name) × IsIn a (column_names table.columns))
    (h : IsTableRelation old new (column_names table.columns) (rows_at D.rows t) r) where
  abbrev names : List Name
  names = column_names table.columns

  abbrev xs : List (List ℕ)
  xs = map variable_of names

  own : (a : Name) → IsIn a names → OwnsVariable a
  own a here = item_from_each OwnsVariable names h.owned a here

  A_from : (a : Name) → IsIn a names → HasAttribute D.tables (Table name) a
  A_from a here = (table, (item_at_index table D.tables t at, is), here)

  A_to : (a : Name) → HasAttribute D.tables (Table name) a → IsIn a names
  A_to a k =
      let same : k.0 ≡ table = one_by_key (λ (t : SchemaTable). t.name) D.tables once k.0 table k.1.0 (item_at_index table D.tables t at) (k.1.1 ∙ sym is) in
      subst (λ (u : SchemaTable). IsIn a (column_names u.columns)) same k.2

  at_name : (place : ℕ) (a : Name) → slice_get names place ≡ Some a → slice_get xs place ≡ Some (variable_of a)
  at_name place a e = slice_get-map variable_of names place ∙ ap (option_map variable_of) e

  not_in : (a : Name) → ¬ IsIn a names → ¬ IsIn (variable_of a) xs
  not_in a n here = let b = IsIn-map variable_of (variable_of a) names here in n (subst (λ z. IsIn z names) (sym (own b.0 b.1 a (sym b.2))) b.1)

  row_numbers : (row : Row) (m : Numbers) → IsRowOf new xs row m → AreNumbers new xs m
  row_numbers row m k = record {
    bound = λ x here. (let i = index_of_item x xs here in (k.cells i.0 x i.2).number);
    others = λ x n. ⊎_elim (λ here. here) (λ out. absurd (n (k.others x out))) (in_or_not x xs);
  }

  -- the tuple of a row is under the columns' names
  under : (row : Row) (m : Numbers) (w : Tuple) → IsRowOf new xs row m → Reads new m w → IsUnder names row w
  under row m w k reads = record {
    named = λ place a e. reads a ∙ (k.cells place (variable_of a) (at_name place a e)).cell;
    others = λ a n. reads a ∙ ap (cell_of new) (k.others (variable_of a) (not_in a n));
  }

  reads_under : (row : Row) (m : Numbers) (w : Tuple) → IsRowOf new xs row m → IsUnder names row w → Reads new m w
  reads_under row m w k u a = ⊎_elim
      (λ here. let i = index_of_item a names here in u.named i.0 a i.2 ∙ sym (k.cells i.0 (variable_of a) (at_name i.0 a i.2)).cell)
      (λ n. u.others a n ∙ sym (ap (cell_of new) (k.others (variable_of a) (not_in a n))))
      (in_or_not a names)

  -- a row of a table of the name is one of this table
  of_this : (w : Tuple) → IsRowOfTable D name w → (row : Row) × IsIn row (rows_at D.rows t) × IsUnder names row w
  of_this w k =
      let key : (s : ℕ) (u : SchemaTable) → slice_get D.tables s ≡ Some u → slice_get (map (λ (t : SchemaTable). t.name) D.tables) s ≡ Some u.name =
      λ s u e. slice_get-map (λ (t : SchemaTable). t.name) D.tables s ∙ ap (option_map (λ (t : SchemaTable). t.name)) e in
      let place : k.0 ≡ t = one_index (map (λ (t : SchemaTable). t.name) D.tables) name k.0 t once (key k.0 k.1 k.3 ∙ ap (λ (n : Name). Some n) k.4) (key t table at ∙ ap (λ (n : Name). Some n) is) in
      let same : k.1 ≡ table = one_by_key (λ (t : SchemaTable). t.name) D.tables once k.1 table (item_at_index k.1 D.tables k.0 k.3) (item_at_index table D.tables t at) (k.4 ∙ sym is) in
      (k.2, subst (λ s. IsIn k.2 (rows_at D.rows s)) place k.5, subst (λ (u : SchemaTable). IsUnder (column_names u.columns) k.2 w) same k.6)

  pub table_evaluated : IsEvaluated old new D (Table name) r
  table_evaluated = record {
    grown = h.grown;
    relation = record {
      some = (some.0, A_from some.0 some.1);
      owned = λ a k. own a (A_to a k);
      attributes = λ x. subst (λ zs. IsIn x zs ↔ ((a : Name) × HasAttribute D.tables (Table name) a × (variable_of a ≡ x))) (sym h.attributes) (
        (λ here. let a = IsIn-map variable_of x names here in (a.0, A_from a.0 a.1, a.2)),
        (λ a. subst (λ z. IsIn z xs) a.2 (map-IsIn variable_of a.0 names (A_to a.0 a.1))),
      );
      once = subst NoRepeats (sym h.attributes) h.once;
      numbers = λ m row. (let k = (h.rows m).0 row in subst (λ zs. AreNumbers new zs m) (sym h.attributes) (row_numbers k.0 m k.2));
      exact = λ w. (
        (λ u. let k = (h.rows u.0).0 u.1 in (t, table, k.0, at, is, k.1, under k.0 u.0 w k.2 u.2)),
        (λ k. let row = of_this w k in
            let m = h.each row.0 row.1 in
            (m.0, (h.rows m.0).1 (row.0, row.1, m.1), reads_under row.0 m.0 w m.1 row.2)),
      );
    };
  }

module _ (D : Data) (old new : List Value) (names : List Name) (name : Name) (place : ℕ) (r : Relation) (schema : IsSchema D.tables) (e : names ≡ map (λ (t : SchemaTable). t.name) D.tables)
    (at : slice_get names place ≡ Some name) where
  pub table_of_name : IsTableRelation old new (column_names (table_at D.tables place).columns) (rows_at D.rows place) r → IsEvaluated old new D (Table name) r
  table_of_name h =
      let l = below names D.tables place name e at in
      let table = table_at D.tables place in
      let here : slice_get D.tables place ≡ Some table = at_place D.tables schema place l in
      let named : slice_get names place ≡ Some table.name = ap (λ ns. slice_get ns place) e ∙ slice_get-map (λ (t : SchemaTable). t.name) D.tables place ∙ ap (option_map (λ (t : SchemaTable). t.name)) here in
      table_evaluated D old new name place table r schema.names here (the_same (sym named ∙ at)) (some_column table.columns (of_schema D.tables schema place l).some_column) h
    where
      the_same : {a b : Name} → Some a ≡ Some b → a ≡ b
      the_same e = cc e

      some_column : (columns : List Column) → 0 < length columns → (a : Name) × IsIn a (column_names columns)
      some_column [] l = absurd (omega (arith, l))
      some_column (c ∷ cs) l = (c.name, inl refl)
