-- The levels of the ontology are exactly its facts in order.
use Rattle.std.proofs.Common.{◌≡◌, ◌<◌, ℕ, suc, zero, List, [], ◌∷◌, length, Option, Some, None, refl, sym, ap, subst, inl, arith}
use Rattle.std.specs.Prelude.{slice_get}
use Rattle.std.proofs.lemmas.Option.{slice_get_within}
use Rattle.members_dm.specs.Membership.{IsIn, IsRising}
use Rattle.members_dm.specs.Places.{Place, StandsEarlier}
use Rattle.members_dm.proofs.PlacesLemmas.{IsIn-levels, IsIn-one, levels-IsIn, rising-levels, rising-one}
use Rattle.schema_dm.specs.Schemas.{table_at}
use Rattle.schema_dm.specs.declared.draft.Column.{Column}
use Rattle.schema_dm.specs.declared.table.Binary.{Binary}
use Rattle.schema_dm.specs.declared.table.ForeignKey.{ForeignKey}
use Rattle.schema_dm.specs.declared.table.Table.{Table}
use Rattle.facts_dm.specs.Facts.{Fact, a_class}
use Rattle.graphs_dm.specs.Levels.{class_group, class_level, column_level, ontology_table, property_level, reference_level, relation_level, three_facts}
use Rattle.graphs_dm.specs.Ontology.{ColumnStandsAt, OntologyStandsAt, ReferenceStandsAt, RelationStandsAt, column_property, column_domain, column_range, of_class, of_column, of_reference, of_relation, reference_property, reference_domain, reference_range, relation_property, relation_domain, relation_range}
use Rattle.graphs_dm.specs.Plans.{IsChoice}
use Rattle.graphs_dm.specs.Relations.{CountsAsClass, CountsAsRelation}
use Rattle.graphs_dm.specs.declared.graph_name.GraphName.{GraphName}

-- ---- properties

module _ (x y z : Fact) where
  rising-three : (k : ℕ) → IsRising {X = Place × Fact} StandsEarlier (three_facts x y z k)
  rising-three zero = rising-one x
  rising-three (suc zero) = rising-one y
  rising-three (suc (suc n)) = rising-one z

  rising-property : IsRising {X = Place × Fact} StandsEarlier (property_level x y z)
  rising-property = rising-levels 3 (three_facts x y z) rising-three

  IsIn-property : (Stands : Place → Fact → Type 0) → Stands (0 ∷ []) x → Stands (1 ∷ []) y → Stands (2 ∷ []) z → (p : Place) (w : Fact) → IsIn {X = Place × Fact} (p, w) (property_level x y z) → Stands p w
  IsIn-property Stands first second third p w h = (let from = IsIn-levels 3 (three_facts x y z) p w h in subst (λ (q : Place). Stands q w) (sym from.2.1) (one from.0 from.1 from.2.0 from.2.2))
    where
      one : (k : ℕ) → k < 3 → (q : Place) → IsIn {X = Place × Fact} (q, w) (three_facts x y z k) → Stands (k ∷ q) w
      one zero below q h = (let at = IsIn-one w x q h in subst (λ (a : Place × Fact). Stands (0 ∷ a.0) a.1) (λ s. (sym at.0 s, sym at.1 s)) first)
      one (suc zero) below q h = (let at = IsIn-one w y q h in subst (λ (a : Place × Fact). Stands (1 ∷ a.0) a.1) (λ s. (sym at.0 s, sym at.1 s)) second)
      one (suc (suc zero)) below q h = (let at = IsIn-one w z q h in subst (λ (a : Place × Fact). Stands (2 ∷ a.0) a.1) (λ s. (sym at.0 s, sym at.1 s)) third)
      one (suc (suc (suc n))) below q h = absurd (omega arith)

  first-IsIn : (p : Place) (w : Fact) → p ≡ 0 ∷ [] → w ≡ x → IsIn {X = Place × Fact} (p, w) (property_level x y z)
  first-IsIn p w at is = subst (λ (a : Place × Fact). IsIn a (property_level x y z)) (λ s. (sym at s, sym is s)) (levels-IsIn 3 (three_facts x y z) 0 [] x (omega arith) (inl refl))

  second-IsIn : (p : Place) (w : Fact) → p ≡ 1 ∷ [] → w ≡ y → IsIn {X = Place × Fact} (p, w) (property_level x y z)
  second-IsIn p w at is = subst (λ (a : Place × Fact). IsIn a (property_level x y z)) (λ s. (sym at s, sym is s)) (levels-IsIn 3 (three_facts x y z) 1 [] y (omega arith) (inl refl))

  third-IsIn : (p : Place) (w : Fact) → p ≡ 2 ∷ [] → w ≡ z → IsIn {X = Place × Fact} (p, w) (property_level x y z)
  third-IsIn p w at is = subst (λ (a : Place × Fact). IsIn a (property_level x y z)) (λ s. (sym at s, sym is s)) (levels-IsIn 3 (three_facts x y z) 2 [] z (omega arith) (inl refl))

-- ---- columns and references

module _ (base : List ℕ) (tables : List Table) (table : Table) where
  rising-column : (column : Option Column) → IsRising {X = Place × Fact} StandsEarlier (column_level base table column)
  rising-column None = tt
  rising-column (Some column) = rising-property _ _ _

  IsIn-column : (found : Option Column) (p : Place) (x : Fact) → IsIn {X = Place × Fact} (p, x) (column_level base table found) → (column : Column) × (found ≡ Some column) × ColumnStandsAt base table column p x
  IsIn-column None p x h = absurd h
  IsIn-column (Some column) p x h = (column, refl, IsIn-property _ _ _ (ColumnStandsAt base table column) (column_property refl refl) (column_domain refl refl) (column_range refl refl) p x h)

  stands-column : (column : Column) (p : Place) (x : Fact) → ColumnStandsAt base table column p x → IsIn {X = Place × Fact} (p, x) (column_level base table (Some column))
  stands-column column p x (column_property at is) = first-IsIn _ _ _ p x at is
  stands-column column p x (column_domain at is) = second-IsIn _ _ _ p x at is
  stands-column column p x (column_range at is) = third-IsIn _ _ _ p x at is

  rising-reference : (key : Option ForeignKey) → IsRising {X = Place × Fact} StandsEarlier (reference_level base tables table key)
  rising-reference None = tt
  rising-reference (Some key) = rising-property _ _ _

  IsIn-reference : (found : Option ForeignKey) (p : Place) (x : Fact) → IsIn {X = Place × Fact} (p, x) (reference_level base tables table found) → (key : ForeignKey) × (found ≡ Some key) × ReferenceStandsAt base tables table key p x
  IsIn-reference None p x h = absurd h
  IsIn-reference (Some key) p x h = (key, refl, IsIn-property _ _ _ (ReferenceStandsAt base tables table key) (reference_property refl refl) (reference_domain refl refl) (reference_range refl refl) p x h)

  stands-reference : (key : ForeignKey) (p : Place) (x : Fact) → ReferenceStandsAt base tables table key p x → IsIn {X = Place × Fact} (p, x) (reference_level base tables table (Some key))
  stands-reference key p x (reference_property at is) = first-IsIn _ _ _ p x at is
  stands-reference key p x (reference_domain at is) = second-IsIn _ _ _ p x at is
  stands-reference key p x (reference_range at is) = third-IsIn _ _ _ p x at is

  rising-class : (k : ℕ) → IsRising {X = Place × Fact} StandsEarlier (class_group base tables table k)
  rising-class zero = rising-one (a_class table.name)
  rising-class (suc zero) = rising-levels (length table.columns) (λ k. column_level base table (slice_get table.columns k)) (λ k. rising-column (slice_get table.columns k))
  rising-class (suc (suc n)) = rising-levels (length table.foreign) (λ k. reference_level base tables table (slice_get table.foreign k)) (λ k. rising-reference (slice_get table.foreign k))

-- ---- a table

module _ (name : GraphName) (base : List ℕ) (tables : List Table) (t : ℕ) where
  pub rising-ontology : (choice : Option Binary) → IsRising {X = Place × Fact} StandsEarlier (ontology_table base tables t choice)
  rising-ontology None = rising-levels 3 (class_group base tables (table_at tables t)) (rising-class base tables (table_at tables t))
  rising-ontology (Some sides) = rising-property _ _ _

  pub IsIn-ontology : (choice : Option Binary) → IsChoice name tables t choice → (p : Place) (x : Fact) → IsIn {X = Place × Fact} (p, x) (ontology_table base tables t choice) → OntologyStandsAt name base tables t p x
  IsIn-ontology (Some sides) counts p x h =
      of_relation sides counts (IsIn-property _ _ _ (RelationStandsAt base tables t sides) (relation_property refl refl) (relation_domain refl refl) (relation_range refl refl) p x h)
  IsIn-ontology None counts p x h =
      let from = IsIn-levels 3 (class_group base tables (table_at tables t)) p x h in
      subst (λ (q : Place). OntologyStandsAt name base tables t q x) (sym from.2.1) (one from.0 from.1 from.2.0 from.2.2)
    where
      one : (k : ℕ) → k < 3 → (q : Place) → IsIn {X = Place × Fact} (q, x) (class_group base tables (table_at tables t) k) → OntologyStandsAt name base tables t (k ∷ q) x
      one zero below q h = (let at = IsIn-one x (a_class (table_at tables t).name) q h in of_class counts (ap (λ r. 0 ∷ r) at.0) at.1)
      one (suc zero) below q h =
          let from = IsIn-levels (length (table_at tables t).columns) (λ k. column_level base (table_at tables t) (slice_get (table_at tables t).columns k)) q x h in
          let at = IsIn-column base tables (table_at tables t) (slice_get (table_at tables t).columns from.0) from.2.0 x from.2.2 in
          of_column counts from.0 at.0 from.2.0 at.1 (ap (λ r. 1 ∷ r) from.2.1) at.2
      one (suc (suc zero)) below q h =
          let from = IsIn-levels (length (table_at tables t).foreign) (λ k. reference_level base tables (table_at tables t) (slice_get (table_at tables t).foreign k)) q x h in
          let at = IsIn-reference base tables (table_at tables t) (slice_get (table_at tables t).foreign from.0) from.2.0 x from.2.2 in
          of_reference counts from.0 at.0 from.2.0 at.1 (ap (λ r. 2 ∷ r) from.2.1) at.2
      one (suc (suc (suc n))) below q h = absurd (omega arith)

  class-IsIn : CountsAsClass name tables t → (p : Place) (x : Fact) → OntologyStandsAt name base tables t p x → IsIn {X = Place × Fact} (p, x) (class_level base tables (table_at tables t))
  class-IsIn class p x (of_class counts at is) =
      subst (λ (a : Place × Fact). IsIn a (class_level base tables (table_at tables t))) (λ s. (sym at s, sym is s))
      (levels-IsIn 3 (class_group base tables (table_at tables t)) 0 [] (a_class (table_at tables t).name) (omega arith) (inl refl))
  class-IsIn class p x (of_column counts k column rest found at stands) =
      subst (λ (q : Place). IsIn {X = Place × Fact} (q, x) (class_level base tables (table_at tables t))) (sym at)
      (levels-IsIn 3 (class_group base tables (table_at tables t)) 1 (k ∷ rest) x (omega arith)
      (levels-IsIn (length (table_at tables t).columns) (λ n. column_level base (table_at tables t) (slice_get (table_at tables t).columns n)) k rest x (slice_get_within (table_at tables t).columns k column found)
      (subst (λ (o : Option Column). IsIn {X = Place × Fact} (rest, x) (column_level base (table_at tables t) o)) (sym found) (stands-column base tables (table_at tables t) column rest x stands))))
  class-IsIn class p x (of_reference counts k key rest found at stands) =
      subst (λ (q : Place). IsIn {X = Place × Fact} (q, x) (class_level base tables (table_at tables t))) (sym at)
      (levels-IsIn 3 (class_group base tables (table_at tables t)) 2 (k ∷ rest) x (omega arith)
      (levels-IsIn (length (table_at tables t).foreign) (λ n. reference_level base tables (table_at tables t) (slice_get (table_at tables t).foreign n)) k rest x (slice_get_within (table_at tables t).foreign k key found)
      (subst (λ (o : Option ForeignKey). IsIn {X = Place × Fact} (rest, x) (reference_level base tables (table_at tables t) o)) (sym found) (stands-reference base tables (table_at tables t) key rest x stands))))
  class-IsIn class p x (of_relation sides counts stands) = absurd (class sides counts)

  relation-IsIn : (sides : Binary) (p : Place) (x : Fact) → RelationStandsAt base tables t sides p x → IsIn {X = Place × Fact} (p, x) (relation_level base tables t sides)
  relation-IsIn sides p x (relation_property at is) = first-IsIn _ _ _ p x at is
  relation-IsIn sides p x (relation_domain at is) = second-IsIn _ _ _ p x at is
  relation-IsIn sides p x (relation_range at is) = third-IsIn _ _ _ p x at is

  pub ontology-IsIn : (choice : Option Binary) → IsChoice name tables t choice → ((sides : Binary) → CountsAsRelation name tables t sides → choice ≡ Some sides) → (p : Place) (x : Fact)
      → OntologyStandsAt name base tables t p x → IsIn {X = Place × Fact} (p, x) (ontology_table base tables t choice)
  ontology-IsIn None is same p x stands = class-IsIn is p x stands
  ontology-IsIn (Some sides) is same p x (of_relation other counts stands) =
      subst (λ (o : Option Binary). IsIn {X = Place × Fact} (p, x) (ontology_table base tables t o)) (sym (same other counts)) (relation-IsIn other p x stands)
  ontology-IsIn (Some sides) is same p x (of_class class at fact) = absurd (class sides is)
  ontology-IsIn (Some sides) is same p x (of_column class k column rest found at stands) = absurd (class sides is)
  ontology-IsIn (Some sides) is same p x (of_reference class k key rest found at stands) = absurd (class sides is)
