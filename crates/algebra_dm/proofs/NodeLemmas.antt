-- What is told of each operator is the answer at its node.
use Rattle.std.proofs.Common.{◌≡◌, ◌≢◌, ◌∙◌, ◌⊎◌, ◌↔◌, ℕ, ◌<◌, ◌≤◌, List, [], ◌∷◌, Result, Ok, Err, refl, sym, ap, subst, inl, inr, arith, length, map}
use Rattle.std.specs.Prelude.{Any}
use denote.Hole.Carrier.{hidden}
use Rattle.members_dm.specs.Elements.{HasSome, Repeats}
use Rattle.members_dm.specs.Membership.{IsIn, NoRepeats}
use Rattle.members_dm.proofs.AnyLemmas.{any_from_some, some_from_any}
use Rattle.members_dm.proofs.ElementsLemmas.{HasSome-weaker, one_by_key}
use Rattle.value_dm.specs.declared.value.Value.{Value}
use Rattle.schema_dm.specs.Naming.{Name, column_names}
use Rattle.schema_dm.specs.declared.table.Table.{Table as SchemaTable}
use Rattle.algebra_dm.specs.Attributes.{AreAttributes, HasAttribute, HasTable, IsNamed, Lists}
use Rattle.algebra_dm.specs.Causes.{NamesNoTable, ProjectsNothing, LacksAttribute, TakesName, HasUnlikeParts, HaveSame, IsTooWide}
use Rattle.algebra_dm.specs.Certain.{IsCertain, IsCertainColumn}
use Rattle.algebra_dm.specs.Checking.{IsKnown, IsNodeAnswer, IsTold, HasNone}
use Rattle.algebra_dm.specs.declared.error.QueryError.{QueryError}
use Rattle.algebra_dm.specs.declared.error.QueryError.TheVariants.{BadQuery, TooDeep, NoSuchTable, NoSuchColumn, NameTaken, NotSameColumns, EmptyProject, TooWide, Memory}
use Rattle.algebra_dm.specs.declared.known.Known.{Known}
use Rattle.algebra_dm.specs.declared.query.Mode.{Mode}
use Rattle.algebra_dm.specs.declared.query.Query.{Query}
use Rattle.algebra_dm.specs.declared.query.Query.TheVariants.{Table, Null, Eq, Ne, IsNull, NotNull, Project, Rename, Join, Union, Diff}
use Rattle.algebra_dm.specs.declared.query.Query.TheBlock.{shape-the_row-Query-0, hidden-the_row-Query-0}
use Rattle.algebra_dm.proofs.RisingLemmas.{lists_along, lists_unique, name_cases}

never_both : ⊥ ↔ ⊥
never_both = ((λ h. h), (λ h. h))

not_iff : (P Q : Type 0) → P ↔ Q → (¬ P) ↔ (¬ Q)
not_iff P Q e = ((λ n q. n (e.1 q)), (λ n p. n (e.0 p)))

swapped : (P P' R : Type 0) → P ↔ P' → (P ⊎ R) ↔ (R ⊎ P')
swapped P P' R e = (
  (λ h. elim h [ inl p ↦ inr (e.0 p) | inr r ↦ inl r ]),
  (λ h. elim h [ inl r ↦ inr r | inr p ↦ inl (e.1 p) ]),
)

module _ (mode : Mode) (tables : List SchemaTable) (q : Query) (N L T U : Type 0) (A C : Name → Type 0)
    (table : ¬ NamesNoTable tables q) (nothing : N ↔ ProjectsNothing q) (lacks : L ↔ LacksAttribute tables q) (takes : T ↔ TakesName tables q) (unlike : U ↔ HasUnlikeParts tables q)
    (attributes : (a : Name) → A a ↔ HasAttribute tables q a) (certain : (a : Name) → C a ↔ IsCertain mode tables q a) where
  narrow : (names : List Name) → AreAttributes tables q names → length names ≤ 1024 → ¬ IsTooWide tables q
  narrow names are few wide = (let one = ap (λ (xs : List Name). length xs) (lists_unique (HasAttribute tables q) wide.0 names wide.1 are) in omega (arith, one, few, wide.2))

  pub node_from_told : (r : Result Known QueryError) → IsTold N L T U A C r → IsNodeAnswer mode tables q r
  node_from_told (Ok known) h =
      let are : AreAttributes tables q known.attributes = lists_along A (HasAttribute tables q) attributes known.attributes h.1 in (
        (table, ((λ x. h.0.nothing (nothing.1 x)), ((λ x. h.0.lacks (lacks.1 x)), ((λ x. h.0.takes (takes.1 x)), ((λ x. h.0.unlike (unlike.1 x)), (narrow known.attributes are h.3, tt)))))),
        record { attributes = are; certain = lists_along C (IsCertain mode tables q) certain known.certain h.2 },
      )
  node_from_told (Err EmptyProject) h = inr (inr (table, inl (refl, nothing.0 h)))
  node_from_told (Err NoSuchColumn) h = inr (inr (table, inr ((λ x. h.1 (nothing.1 x)), inl (refl, lacks.0 h.0))))
  node_from_told (Err NameTaken) h = inr (inr (table, inr ((λ x. h.1 (nothing.1 x)), inr ((λ x. h.2 (lacks.1 x)), inl (refl, takes.0 h.0)))))
  node_from_told (Err NotSameColumns) h =
      inr (inr (table, inr ((λ x. h.1 (nothing.1 x)), inr ((λ x. h.2 (lacks.1 x)), inr ((λ x. h.3 (takes.1 x)), inl (refl, unlike.0 h.0))))))
  node_from_told (Err TooWide) h =
      let wide : IsTooWide tables q = (h.0.0, lists_along A (HasAttribute tables q) attributes h.0.0 h.0.1, h.0.2) in
      inr (inr (table, inr ((λ x. h.1.nothing (nothing.1 x)), inr ((λ x. h.1.lacks (lacks.1 x)), inr ((λ x. h.1.takes (takes.1 x)), inr ((λ x. h.1.unlike (unlike.1 x)), inl (refl, wide)))))))
  node_from_told (Err Memory) h = inl refl
  node_from_told (Err NoSuchTable) h = absurd h
  node_from_told (Err (BadQuery place)) h = absurd h
  node_from_told (Err (TooDeep place)) h = absurd h

pub table_node : (mode : Mode) (tables : List SchemaTable) (name : Name) (found : SchemaTable) (r : Result Known QueryError) → NoRepeats (map (λ (t : SchemaTable). t.name) tables) → IsNamed tables name found
    → IsTold ⊥ ⊥ ⊥ ⊥ (λ a. IsIn a (column_names found.columns)) (IsCertainColumn mode found) r → IsNodeAnswer mode tables (Table name) r
table_node mode tables name found r once named told =
    let one : (other : SchemaTable) → IsNamed tables name other → other ≡ found = λ other is. one_by_key (λ (t : SchemaTable). t.name) tables once other found is.0 named.0 (is.1 ∙ sym named.1) in
    node_from_told mode tables (Table name) ⊥ ⊥ ⊥ ⊥ (λ a. IsIn a (column_names found.columns)) (IsCertainColumn mode found)
    (λ n. n (found, named)) never_both never_both never_both never_both
    (λ a. ((λ h. (found, named, h)), (λ h. subst (λ (t : SchemaTable). IsIn a (column_names t.columns)) (one h.0 h.1) h.2)))
    (λ a. ((λ h. (found, named, h)), (λ h. subst (λ (t : SchemaTable). IsCertainColumn mode t a) (one h.0 h.1) h.2)))
    r told

pub no_table_node : (mode : Mode) (tables : List SchemaTable) (name : Name) → ¬ HasTable tables name → IsNodeAnswer mode tables (Table name) (Err NoSuchTable)
no_table_node mode tables name h = inr (inl (refl, h))

pub null_node : (mode : Mode) (tables : List SchemaTable) (n : Name) (r : Result Known QueryError) → IsTold ⊥ ⊥ ⊥ ⊥ (λ a. n ≡ a) (λ a. ⊥) r → IsNodeAnswer mode tables (Null n) r
null_node mode tables n r told =
    node_from_told mode tables (Null n) ⊥ ⊥ ⊥ ⊥ (λ a. n ≡ a) (λ a. ⊥) (λ h. h) never_both never_both never_both never_both (λ a. ((λ h. h), (λ h. h))) (λ a. never_both) r told

module _ (mode : Mode) (tables : List SchemaTable) (p : Query) (part : Known) (known : IsKnown mode tables p part) where
  abbrev Compared : Name → Result Known QueryError → Type 0
  Compared n r = IsTold ⊥ (¬ IsIn n part.attributes) ⊥ ⊥ (λ a. IsIn a part.attributes) (λ a. IsIn a part.certain ⊎ (n ≡ a)) r

  pub eq_node : (n : Name) (v : Value) (r : Result Known QueryError) → Compared n r → IsNodeAnswer mode tables (Eq p n v) r
  unfolding shape-the_row-Query-0 hidden-the_row-Query-0 hidden
  eq_node n v r told =
      node_from_told mode tables (Eq p n v) ⊥ (¬ IsIn n part.attributes) ⊥ ⊥ (λ a. IsIn a part.attributes) (λ a. IsIn a part.certain ⊎ (n ≡ a))
      (λ h. h) never_both (not_iff (IsIn n part.attributes) (HasAttribute tables p n) (known.attributes.exact n)) never_both never_both
      known.attributes.exact (λ a. swapped (IsIn a part.certain) (IsCertain mode tables p a) (n ≡ a) (known.certain.exact a)) r told

  pub ne_node : (n : Name) (v : Value) (r : Result Known QueryError) → Compared n r → IsNodeAnswer mode tables (Ne p n v) r
  unfolding shape-the_row-Query-0 hidden-the_row-Query-0 hidden
  ne_node n v r told =
      node_from_told mode tables (Ne p n v) ⊥ (¬ IsIn n part.attributes) ⊥ ⊥ (λ a. IsIn a part.attributes) (λ a. IsIn a part.certain ⊎ (n ≡ a))
      (λ h. h) never_both (not_iff (IsIn n part.attributes) (HasAttribute tables p n) (known.attributes.exact n)) never_both never_both
      known.attributes.exact (λ a. swapped (IsIn a part.certain) (IsCertain mode tables p a) (n ≡ a) (known.certain.exact a)) r told

  pub not_null_node : (n : Name) (r : Result Known QueryError) → Compared n r → IsNodeAnswer mode tables (NotNull p n) r
  unfolding shape-the_row-Query-0 hidden-the_row-Query-0 hidden
  not_null_node n r told =
      node_from_told mode tables (NotNull p n) ⊥ (¬ IsIn n part.attributes) ⊥ ⊥ (λ a. IsIn a part.attributes) (λ a. IsIn a part.certain ⊎ (n ≡ a))
      (λ h. h) never_both (not_iff (IsIn n part.attributes) (HasAttribute tables p n) (known.attributes.exact n)) never_both never_both
      known.attributes.exact (λ a. swapped (IsIn a part.certain) (IsCertain mode tables p a) (n ≡ a) (known.certain.exact a)) r told

  pub is_null_node : (n : Name) (r : Result Known QueryError) → IsTold ⊥ (¬ IsIn n part.attributes) ⊥ ⊥ (λ a. IsIn a part.attributes) (λ a. IsIn a part.certain) r → IsNodeAnswer mode tables (IsNull p n) r
  unfolding shape-the_row-Query-0 hidden-the_row-Query-0 hidden
  is_null_node n r told =
      node_from_told mode tables (IsNull p n) ⊥ (¬ IsIn n part.attributes) ⊥ ⊥ (λ a. IsIn a part.attributes) (λ a. IsIn a part.certain)
      (λ h. h) never_both (not_iff (IsIn n part.attributes) (HasAttribute tables p n) (known.attributes.exact n)) never_both never_both
      known.attributes.exact known.certain.exact r told

  pub project_node : (names : List Name) (r : Result Known QueryError)
      → IsTold (names ≡ []) (Any (λ a. ¬ IsIn a part.attributes) names) (Repeats names) ⊥ (λ a. IsIn a names) (λ a. IsIn a part.certain × IsIn a names) r → IsNodeAnswer mode tables (Project p names) r
  unfolding shape-the_row-Query-0 hidden-the_row-Query-0 hidden
  project_node names r told =
      node_from_told mode tables (Project p names) (names ≡ []) (Any (λ a. ¬ IsIn a part.attributes) names) (Repeats names) ⊥ (λ a. IsIn a names) (λ a. IsIn a part.certain × IsIn a names)
      (λ h. h) ((λ h. h), (λ h. h)) (
        (λ h. HasSome-weaker (λ a. ¬ IsIn a part.attributes) (λ a. ¬ HasAttribute tables p a) names (λ a n k. n ((known.attributes.exact a).1 k)) (some_from_any (λ a. ¬ IsIn a part.attributes) names h)),
        (λ h. any_from_some (λ a. ¬ IsIn a part.attributes) names (HasSome-weaker (λ a. ¬ HasAttribute tables p a) (λ a. ¬ IsIn a part.attributes) names (λ a n k. n ((known.attributes.exact a).0 k)) h)),
      ) ((λ h. h), (λ h. h)) never_both
      (λ a. ((λ h. h), (λ h. h))) (λ a. ((λ h. ((known.certain.exact a).0 h.0, h.1)), (λ h. ((known.certain.exact a).1 h.0, h.1)))) r told

  pub rename_node : (from to : Name) (r : Result Known QueryError)
      → IsTold ⊥ (¬ IsIn from part.attributes) (IsIn to part.attributes) ⊥ (λ a. (to ≡ a) ⊎ (IsIn a part.attributes × (from ≢ a) × (to ≢ a)))
      (λ a. ((to ≡ a) × IsIn from part.certain) ⊎ (IsIn a part.certain × (from ≢ a) × (to ≢ a))) r → IsNodeAnswer mode tables (Rename p from to) r
  unfolding shape-the_row-Query-0 hidden-the_row-Query-0 hidden
  rename_node from to r told =
      node_from_told mode tables (Rename p from to) ⊥ (¬ IsIn from part.attributes) (IsIn to part.attributes) ⊥ (λ a. (to ≡ a) ⊎ (IsIn a part.attributes × (from ≢ a) × (to ≢ a)))
      (λ a. ((to ≡ a) × IsIn from part.certain) ⊎ (IsIn a part.certain × (from ≢ a) × (to ≢ a)))
      (λ h. h) never_both (not_iff (IsIn from part.attributes) (HasAttribute tables p from) (known.attributes.exact from)) (known.attributes.exact to) never_both
      (λ a. (
        (λ h. elim h [ inl e ↦ inl e | inr k ↦ inr ((known.attributes.exact a).0 k.0, k.1) ]),
        (λ h. elim h [ inl e ↦ inl e | inr k ↦ elim (name_cases to a) [ inl e ↦ inl e | inr n ↦ inr ((known.attributes.exact a).1 k.0, k.1, n) ] ]),
      ))
      (λ a. (
        (λ h. elim h [ inl k ↦ inl (k.0, (known.certain.exact from).0 k.1) | inr k ↦ inr ((known.certain.exact a).0 k.0, k.1, k.2) ]),
        (λ h. elim h [ inl k ↦ inl (k.0, (known.certain.exact from).1 k.1) | inr k ↦ inr ((known.certain.exact a).1 k.0, k.1, k.2) ]),
      ))
      r told

  module _ (q : Query) (other : Known) (also : IsKnown mode tables q other) where
    pub join_node : (r : Result Known QueryError) → IsTold ⊥ ⊥ ⊥ ⊥ (λ a. IsIn a part.attributes ⊎ IsIn a other.attributes)
        (λ a. (IsIn a part.certain ⊎ IsIn a other.certain) ⊎ (IsIn a part.attributes × IsIn a other.attributes)) r → IsNodeAnswer mode tables (Join p q) r
    unfolding shape-the_row-Query-0 hidden-the_row-Query-0 hidden
    join_node r told =
        node_from_told mode tables (Join p q) ⊥ ⊥ ⊥ ⊥ (λ a. IsIn a part.attributes ⊎ IsIn a other.attributes)
        (λ a. (IsIn a part.certain ⊎ IsIn a other.certain) ⊎ (IsIn a part.attributes × IsIn a other.attributes))
        (λ h. h) never_both never_both never_both never_both
        (λ a. (
          (λ h. elim h [ inl k ↦ inl ((known.attributes.exact a).0 k) | inr k ↦ inr ((also.attributes.exact a).0 k) ]),
          (λ h. elim h [ inl k ↦ inl ((known.attributes.exact a).1 k) | inr k ↦ inr ((also.attributes.exact a).1 k) ]),
        ))
        (λ a. (
          (λ h. elim h [
            | inl k ↦ elim k [ inl i ↦ inl ((known.certain.exact a).0 i) | inr i ↦ inr (inl ((also.certain.exact a).0 i)) ]
            | inr k ↦ inr (inr ((known.attributes.exact a).0 k.0, (also.attributes.exact a).0 k.1))
          ]),
          (λ h. elim h [
            | inl k ↦ inl (inl ((known.certain.exact a).1 k))
            | inr m ↦ elim m [ inl k ↦ inl (inr ((also.certain.exact a).1 k)) | inr k ↦ inr ((known.attributes.exact a).1 k.0, (also.attributes.exact a).1 k.1) ]
          ]),
        ))
        r told

    alike : (part.attributes ≡ other.attributes) ↔ HaveSame tables p q
    alike = (
      (λ e a. (
        (λ h. (also.attributes.exact a).0 (subst (λ xs. IsIn a xs) e ((known.attributes.exact a).1 h))),
        (λ h. (known.attributes.exact a).0 (subst (λ xs. IsIn a xs) (sym e) ((also.attributes.exact a).1 h))),
      )),
      (λ same. lists_unique (HasAttribute tables p) part.attributes other.attributes known.attributes
          (lists_along (HasAttribute tables q) (HasAttribute tables p) (λ a. ((same a).1, (same a).0)) other.attributes also.attributes)),
    )

    pub union_node : (r : Result Known QueryError) → IsTold ⊥ ⊥ ⊥ (part.attributes ≢ other.attributes) (λ a. IsIn a part.attributes) (λ a. IsIn a part.certain × IsIn a other.certain) r
        → IsNodeAnswer mode tables (Union p q) r
    unfolding shape-the_row-Query-0 hidden-the_row-Query-0 hidden
    union_node r told =
        node_from_told mode tables (Union p q) ⊥ ⊥ ⊥ (part.attributes ≢ other.attributes) (λ a. IsIn a part.attributes) (λ a. IsIn a part.certain × IsIn a other.certain)
        (λ h. h) never_both never_both never_both (not_iff (part.attributes ≡ other.attributes) (HaveSame tables p q) alike)
        known.attributes.exact
        (λ a. ((λ h. ((known.certain.exact a).0 h.0, (also.certain.exact a).0 h.1)), (λ h. ((known.certain.exact a).1 h.0, (also.certain.exact a).1 h.1)))) r told

    pub diff_node : (r : Result Known QueryError) → IsTold ⊥ ⊥ ⊥ (part.attributes ≢ other.attributes) (λ a. IsIn a part.attributes) (λ a. IsIn a part.certain) r → IsNodeAnswer mode tables (Diff p q) r
    unfolding shape-the_row-Query-0 hidden-the_row-Query-0 hidden
    diff_node r told =
        node_from_told mode tables (Diff p q) ⊥ ⊥ ⊥ (part.attributes ≢ other.attributes) (λ a. IsIn a part.attributes) (λ a. IsIn a part.certain)
        (λ h. h) never_both never_both never_both (not_iff (part.attributes ≡ other.attributes) (HaveSame tables p q) alike)
        known.attributes.exact known.certain.exact r told
