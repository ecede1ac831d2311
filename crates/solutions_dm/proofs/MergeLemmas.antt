-- The merged columns are those of the pairs.
use denote.Ref.{Bor}
use Rattle.std.proofs.Common.{◌≡◌, ◌<◌, ℕ, List, Option, Some, None, All, length, map, refl, sym, ap, ◌∙◌, subst, option_map}
use Rattle.std.proofs.lemmas.List.{length-map}
use Rattle.std.specs.Prelude.{slice_index}
use Rattle.std.proofs.lemmas.Option.{slice_get-map, get_or_from_slice_get}
use Rattle.solutions_dm.specs.declared.row_pair.RowPair.{RowPair}
use Rattle.solutions_dm.specs.Columns.{number_at, AreApart}
use Rattle.solutions_dm.specs.Table.{Table, IsTable, IsColumn}
use Rattle.solutions_dm.specs.Merge.{first_bound, IsMerge, merged, number_in, HasPlace}
use Rattle.solutions_dm.specs.Joint.{joint, built}
use Rattle.solutions_dm.proofs.ColumnLemmas.{number_at_none}
use Rattle.solutions_dm.proofs.JointLemmas.{row_is, joint_apart, joint_filled}

pub number_in_is : (t : Table) (x : List ℕ) (column : Option (Bor (List ℕ))) → IsColumn t x column → (i : ℕ) → number_in column i ≡ number_at t.columns i x
number_in_is t x None h i = sym (number_at_none t.columns i x h)
number_in_is t x (Some numbers) h i = sym (h.2 i)

pub has_place : (t : Table) (x : List ℕ) (column : Option (Bor (List ℕ))) → IsColumn t x column → (i : ℕ) → i < t.rows → HasPlace column i
has_place t x None h i l = tt
has_place t x (Some numbers) h i l = subst (λ n. i < n) (sym h.1) l

module _ (left right : Table) (ps : List RowPair) where
  abbrev f : List ℕ → List ℕ
  f = merged left right ps

  union_of : List ℕ → RowPair → ℕ
  union_of x p = first_bound (number_at left.columns p.left x) (number_at right.columns p.right x)

  pub merge_is : IsMerge left right ps (record { columns = built f (joint left.columns right.columns); rows = length ps })
  unfolding union_of
  merge_is = record {
    rows = refl;
    each = λ k p e x. row_is f left.columns right.columns x k (union_of x p)
        (get_or_from_slice_get (f x) k _ 0 (slice_get-map (union_of x) ps k ∙ ap (option_map (union_of x)) e))
        (λ a b. ap (λ n. first_bound n (number_at right.columns p.right x)) (number_at_none left.columns p.left x a) ∙ number_at_none right.columns p.right x b);
  }

  pub merge_table : AreApart left.columns → AreApart right.columns → IsTable (record { columns = built f (joint left.columns right.columns); rows = length ps })
  unfolding union_of
  merge_table al ar = record {
    filled = joint_filled f left.columns right.columns (length ps) (λ x. length-map ps (union_of x));
    apart = joint_apart f left.columns right.columns al ar;
  }
