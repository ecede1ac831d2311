-- Whether a table is a binary relation can be told.
use Rattle.std.proofs.Common.{◌≡◌, ◌⊎◌, ℕ, List, [], ◌∷◌, length, refl, ap, inl, inr, Some, None, Option}
use Rattle.std.specs.Prelude.{slice_get}
use Rattle.std.specs.List.{Any}
use Rattle.std.proofs.lemmas.Bool.Decides.{eqb_tells}
use Rattle.members_dm.proofs.AnyLemmas.{Any-nil, Any-head, Any-tail, Any-cons}
use Rattle.schema_dm.specs.Relations.{IsBinaryRelation, IsPairKey, IsSide, IsTarget}
use Rattle.schema_dm.specs.Schemas.{table_at}
use Rattle.schema_dm.specs.declared.table.Binary.{Binary}
use Rattle.schema_dm.specs.declared.table.ForeignKey.{ForeignKey}
use Rattle.schema_dm.specs.declared.table.Table.{Table}
use Rattle.graphs_dm.specs.Relations.{CountsAsRelation}
use Rattle.graphs_dm.specs.declared.graph_name.GraphName.{GraphName}
use Rattle.graphs_dm.specs.declared.graph_name.GraphName.TheVariants.{Direct, Map, MapKeys}
use Rattle.graphs_dm.proofs.Decisions.{Told, told_both, told_item, told_not}

told_same : (a b : ℕ) → Told (a ≡ b)
told_same a b = elim (eqb_tells a b) [ inl e ↦ inl e.1 | inr e ↦ inr e.1 ]

told_lists : (a b : List ℕ) → Told (a ≡ b)
told_lists [] [] = inl refl
told_lists [] (y ∷ ys) = inr (λ e. cc)
told_lists (x ∷ xs) [] = inr (λ e. cc)
told_lists (x ∷ xs) (y ∷ ys) = elim (told_same x y) [
  | inl e ↦ elim (told_lists xs ys) [ inl f ↦ inl (λ i. e i ∷ f i) | inr n ↦ inr (λ g. n (cc)) ]
  | inr n ↦ inr (λ g. n (cc))
]

told_options : (a b : Option (List ℕ)) → Told (a ≡ b)
told_options None None = inl refl
told_options None (Some y) = inr (λ e. cc)
told_options (Some x) None = inr (λ e. cc)
told_options (Some x) (Some y) = elim (told_lists x y) [ inl e ↦ inl (ap Some e) | inr n ↦ inr (λ g. n (cc)) ]

told_either : {P Q : Type 0} → Told P → Told Q → Told (P ⊎ Q)
told_either (inl p) q = inl (inl p)
told_either (inr n) (inl q) = inl (inr q)
told_either (inr n) (inr m) = inr (λ h. elim h [ inl p ↦ n p | inr q ↦ m q ])

told_any : {X : Type 0} (P : X → Type 0) → ((x : X) → Told (P x)) → (xs : List X) → Told (Any P xs)
told_any P told [] = inr (Any-nil P)
told_any P told (x ∷ xs) = elim (told x) [
  | inl p ↦ inl (Any-head P x xs p)
  | inr n ↦ elim (told_any P told xs) [ inl h ↦ inl (Any-tail P x xs h) | inr m ↦ inr (λ h. elim (Any-cons P x xs h) [ inl p ↦ n p | inr q ↦ m q ]) ]
]

told_side : (tables : List Table) (keys : List ForeignKey) (place : ℕ) → Told ((number : ℕ) × (key : ForeignKey) × (slice_get keys number ≡ Some key) × IsSide tables key place)
told_side tables keys place =
    told_item keys (λ key. IsSide tables key place) (λ key. told_both (told_lists key.columns (place ∷ [])) (told_options (table_at tables key.target).primary (Some key.target_columns)))

told_pair : (table : Table) → Told (IsPairKey table)
told_pair table = told_either (told_options table.primary (Some (0 ∷ 1 ∷ []))) (told_options table.primary (Some (1 ∷ 0 ∷ [])))

told_target : (tables : List Table) (t : ℕ) → Told (IsTarget tables t)
told_target tables t = told_any (λ other. Any (λ key. key.target ≡ t) other.foreign) (λ other. told_any (λ key. key.target ≡ t) (λ key. told_same key.target t) other.foreign) tables

pub told_relation : (tables : List Table) (t : ℕ) → Told ((sides : Binary) × IsBinaryRelation tables t sides)
told_relation tables t = elim (told_both (told_same (length (table_at tables t).columns) 2) (told_both (told_pair (table_at tables t)) (told_both (told_same (length (table_at tables t).foreign) 2) (told_not (told_target tables t))))) [
  | inr n ↦ inr (λ h. n (h.1.two_columns, (h.1.pair_key, (h.1.two_keys, h.1.no_target))))
  | inl p ↦ elim (told_both (told_side tables (table_at tables t).foreign 0) (told_side tables (table_at tables t).foreign 1)) [
    | inr n ↦ inr (λ h. n ((h.0.left, h.1.left.0, h.1.left.1, h.1.left.2), (h.0.right, h.1.right.0, h.1.right.1, h.1.right.2)))
    | inl s ↦ inl (record { left = s.0.0; right = s.1.0 }, record { two_columns = p.0; pair_key = p.1.0; two_keys = p.1.1.0; left = (s.0.1, s.0.2, s.0.3); right = (s.1.1, s.1.2, s.1.3); no_target = p.1.1.1 })
  ]
]

pub told_counts : (name : GraphName) (tables : List Table) (t : ℕ) → Told ((sides : Binary) × CountsAsRelation name tables t sides)
told_counts Map tables t = told_relation tables t
told_counts Direct tables t = inr (λ h. h.1)
told_counts MapKeys tables t = inr (λ h. h.1)
