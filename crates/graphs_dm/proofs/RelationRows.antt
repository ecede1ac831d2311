-- The level of a row of a relation has exactly its link.
use Rattle.std.proofs.Common.{◌≡◌, ◌∙◌, ◌<◌, ◌≤◌, ℕ, true, false, List, [], ◌∷◌, length, get_or, Option, Some, None, refl, sym, ap, subst, inl, inr, arith}
use Rattle.std.specs.Prelude.{slice_get}
use Rattle.std.proofs.lemmas.Bool.{cases_Bool}
use Rattle.std.proofs.lemmas.Option.{slice_get_within}
use Rattle.members_dm.specs.Membership.{IsIn, IsRising}
use Rattle.members_dm.specs.Places.{Place, StandsEarlier, one_item}
use Rattle.members_dm.proofs.ElementsLemmas.{item_within}
use Rattle.members_dm.proofs.PlacesLemmas.{IsIn-one, IsIn-under, rising-one, rising-under, under-IsIn}
use Rattle.schema_dm.specs.Relations.{IsBinaryRelation}
use Rattle.schema_dm.specs.Schemas.{table_at}
use Rattle.schema_dm.specs.declared.table.Binary.{Binary}
use Rattle.schema_dm.specs.declared.table.ForeignKey.{ForeignKey}
use Rattle.facts_dm.specs.Facts.{Fact, a_link}
use Rattle.table_csv.specs.Cells.{Row, cells_at}
use Rattle.table_csv.specs.Databases.{Data, rows_at}
use Rattle.keys_dm.specs.Entries.{positions_of}
use Rattle.keys_dm.specs.KeyCells.{AreRowsWith, row_at}
use Rattle.keys_dm.specs.declared.index.Entry.{Entry}
use Rattle.keys_dm.specs.Kept.{HasMatches, HasOneMatch}
use Rattle.graphs_dm.specs.Levels.{pair_level, referenced}
use Rattle.graphs_dm.specs.Nodes.{has_null, row_node}
use Rattle.graphs_dm.specs.OwnNodes.{HasRow}
use Rattle.graphs_dm.specs.Relations.{left_key, no_key, relation_of, right_key}
use Rattle.graphs_dm.specs.RowFacts.{References}
use Rattle.graphs_dm.proofs.KeyRows.{in_null, not_null, rows_with_are, rows_with_is}

-- ---- referenced rows

first_in : (xs : List ℕ) (j : ℕ) → slice_get xs 0 ≡ Some j → IsIn j xs
first_in [] j e = cc e
first_in (x ∷ xs) j e = (let same : x ≡ j = cc in inl same)

in_first : (xs : List ℕ) (j : ℕ) → IsIn j xs → ((k : ℕ) → IsIn k xs → k ≡ j) → slice_get xs 0 ≡ Some j
in_first [] j h one = absurd h
in_first (x ∷ xs) j h one = ap Some (one x (inl refl))

module _ (D : Data) (t i : ℕ) (key : ForeignKey) where
  referenced_has : (j : ℕ) → IsIn j (referenced D key (row_at (rows_at D.rows t) i)) → References D t i key j
  unfolding referenced
  referenced_has j h = elim (cases_Bool (has_null (cells_at key.columns (row_at (rows_at D.rows t) i)))) [
    | inl null ↦ absurd (rw null at h)
    | inr whole ↦ (
      (λ n. let both : true ≡ false = sym (in_null (cells_at key.columns (row_at (rows_at D.rows t) i)) n) ∙ whole in cc both),
      ((rows_with_are (rows_at D.rows key.target) key.target_columns (cells_at key.columns (row_at (rows_at D.rows t) i))).exact j).0 (rw whole at h),
    )
  ]

  has_referenced : (j : ℕ) → References D t i key j → IsIn j (referenced D key (row_at (rows_at D.rows t) i))
  unfolding referenced
  has_referenced j h = rw (not_null (cells_at key.columns (row_at (rows_at D.rows t) i)) h.0) (((rows_with_are (rows_at D.rows key.target) key.target_columns (cells_at key.columns (row_at (rows_at D.rows t) i))).exact j).1 h.1)

  pub first_references : (j : ℕ) → slice_get (referenced D key (row_at (rows_at D.rows t) i)) 0 ≡ Some j → References D t i key j
  first_references j e = referenced_has j (first_in (referenced D key (row_at (rows_at D.rows t) i)) j e)

  -- where keys are kept the first is the only one
  pub references_first : HasMatches D → HasRow D t i → IsIn key (table_at D.tables t).foreign → (j : ℕ) → References D t i key j → slice_get (referenced D key (row_at (rows_at D.rows t) i)) 0 ≡ Some j
  references_first matches has among j h =
      let one : HasOneMatch (rows_at D.rows key.target) key (row_at (rows_at D.rows t) i) = matches t i key has.table has.row among h.0 in
      in_first (referenced D key (row_at (rows_at D.rows t) i)) j (has_referenced j h) (λ k m. one.alone k (referenced_has k m).1 ∙ sym (one.alone j h.1))

-- ---- the first entry

pub none_first : (entries : List Entry) → length entries ≤ 0 → None ≡ slice_get (positions_of entries) 0
none_first [] few = refl
none_first (x ∷ entries) few = absurd (omega arith)

pub some_first : (entries : List Entry) (x : Entry) → 0 < length entries → x ≡ get_or entries 0 x → Some x.row ≡ slice_get (positions_of entries) 0
some_first [] x more is = absurd (omega arith)
some_first (y ∷ entries) x more is = ap (λ (z : Entry). Some z.row) is

pub referenced_null : (D : Data) (key : ForeignKey) (row : Row) → IsIn None (cells_at key.columns row) → None ≡ slice_get (referenced D key row) 0
unfolding referenced
referenced_null D key row null = rw (in_null (cells_at key.columns row) null) refl

pub referenced_entries : (D : Data) (key : ForeignKey) (row : Row) (entries : List Entry) → ¬ IsIn None (cells_at key.columns row)
    → AreRowsWith (rows_at D.rows key.target) key.target_columns (cells_at key.columns row) (positions_of entries) → positions_of entries ≡ referenced D key row
unfolding referenced
referenced_entries D key row entries whole are = rw (not_null (cells_at key.columns row) whole) (rows_with_is (rows_at D.rows key.target) key.target_columns (cells_at key.columns row) (positions_of entries) are)

-- ---- the sides of a relation

module _ (D : Data) (t : ℕ) (sides : Binary) (relation : IsBinaryRelation D.tables t sides) where
  pub left_within : sides.left < length (table_at D.tables t).foreign
  left_within = slice_get_within (table_at D.tables t).foreign sides.left relation.left.0 relation.left.1

  pub right_within : sides.right < length (table_at D.tables t).foreign
  right_within = slice_get_within (table_at D.tables t).foreign sides.right relation.right.0 relation.right.1

  pub left_among : IsIn (left_key D.tables t sides) (table_at D.tables t).foreign
  left_among = item_within (table_at D.tables t).foreign sides.left no_key left_within

  pub right_among : IsIn (right_key D.tables t sides) (table_at D.tables t).foreign
  right_among = item_within (table_at D.tables t).foreign sides.right no_key right_within

-- ---- the link

module _ (base : List ℕ) (D : Data) (t : ℕ) (sides : Binary) where
  abbrev pub link_fact : ℕ → ℕ → Fact
  link_fact j l = a_link (row_node base D (left_key D.tables t sides).target j) (relation_of D.tables t sides) (row_node base D (right_key D.tables t sides).target l)

  pub rising-pair : (first second : Option ℕ) → IsRising {X = Place × Fact} StandsEarlier (pair_level base D t sides first second)
  rising-pair (Some j) (Some l) = rising-under 0 (one_item (link_fact j l)) (rising-one (link_fact j l))
  rising-pair (Some j) None = tt
  rising-pair None second = tt

  pub IsIn-pair : (first second : Option ℕ) (p : Place) (x : Fact) → IsIn {X = Place × Fact} (p, x) (pair_level base D t sides first second) →
      (j : ℕ) × (l : ℕ) × (first ≡ Some j) × (second ≡ Some l) × (p ≡ 0 ∷ []) × (x ≡ link_fact j l)
  IsIn-pair (Some j) (Some l) p x h =
      let from = IsIn-under 0 (one_item (link_fact j l)) p x h in
      let at = IsIn-one x (link_fact j l) from.0 from.2 in
      (j, l, refl, refl, from.1 ∙ ap (λ q. 0 ∷ q) at.0, at.1)
  IsIn-pair (Some j) None p x h = absurd h
  IsIn-pair None second p x h = absurd h

  pub pair-IsIn : (first second : Option ℕ) (j l : ℕ) → first ≡ Some j → second ≡ Some l → IsIn {X = Place × Fact} (0 ∷ [], link_fact j l) (pair_level base D t sides first second)
  pair-IsIn first second j l is_first is_second =
      subst (λ (o : Option ℕ). IsIn {X = Place × Fact} (0 ∷ [], link_fact j l) (pair_level base D t sides o second)) (sym is_first)
      (subst (λ (o : Option ℕ). IsIn {X = Place × Fact} (0 ∷ [], link_fact j l) (pair_level base D t sides (Some j) o)) (sym is_second) (under-IsIn 0 (one_item (link_fact j l)) [] (link_fact j l) (inl refl)))
