-- The loop over the pairs of a column and its referenced column.
use Rattle.std.proofs.Common.{◌≡◌, ◌∙◌, ℕ, zero, suc, ◌+◌, ◌<◌, ◌≤◌, List, [], ◌∷◌, length, drop, get_or, sym, ap, subst, inl, inr}
use Rattle.std.proofs.lemmas.List.{drop_more, drop_all}
use Rattle.schema_dm.specs.Naming.{Name}
use Rattle.schema_dm.specs.Drafts.{AnyKindsDiffer, KindsDiffer, kind_of_name}
use Rattle.schema_dm.specs.declared.draft.Column.{Column}

module _ (columns : List Column) (names : List Name) (others : List Column) (targets : List Name) (i : ℕ) where
  pub no_pair_left : length targets ≤ i → (AnyKindsDiffer columns names others targets → AnyKindsDiffer columns (drop i names) others (drop i targets)) → ¬ AnyKindsDiffer columns names others targets
  no_pair_left past so_far h = none (drop i names) (subst (λ rest. AnyKindsDiffer columns (drop i names) others rest) (drop_all i targets past) (so_far h))
    where
      none : (rest : List Name) → ¬ AnyKindsDiffer columns rest others []
      none [] h = h
      none (x ∷ rest) h = h

  pair_of_rest : (ns ts : List Name) (k : ℕ) → AnyKindsDiffer columns (drop k ns) others (drop k ts) → AnyKindsDiffer columns ns others ts
  pair_of_rest ns ts zero h = h
  pair_of_rest [] [] (suc k) h = h
  pair_of_rest [] (t ∷ ts) (suc k) h = none (drop k ts) h
    where
      none : (rest : List Name) → AnyKindsDiffer columns [] others rest → ⊥
      none [] h = h
      none (x ∷ rest) h = h
  pair_of_rest (n ∷ ns) [] (suc k) h = none (drop k ns) h
    where
      none : (rest : List Name) → AnyKindsDiffer columns rest others [] → ⊥
      none [] h = h
      none (x ∷ rest) h = h
  pair_of_rest (n ∷ ns) (t ∷ ts) (suc k) h = inr (pair_of_rest ns ts k h)

  module _ (name target : Name) (below : i < length names) (within : i < length targets) (is_name : name ≡ get_or names i name) (is_target : target ≡ get_or targets i target) where
    names_left : drop i names ≡ name ∷ drop (i + 1) names
    names_left = drop_more names i name below ∙ ap (λ x. x ∷ drop (i + 1) names) (sym is_name)

    targets_left : drop i targets ≡ target ∷ drop (i + 1) targets
    targets_left = drop_more targets i target within ∙ ap (λ x. x ∷ drop (i + 1) targets) (sym is_target)

    pub pair_passes : ¬ KindsDiffer (kind_of_name columns name) (kind_of_name others target)
        → (AnyKindsDiffer columns names others targets → AnyKindsDiffer columns (drop i names) others (drop i targets))
        → AnyKindsDiffer columns names others targets → AnyKindsDiffer columns (drop (i + 1) names) others (drop (i + 1) targets)
    pair_passes same so_far h = elim (rw (names_left, targets_left) at (so_far h)) [ inl differ ↦ absurd (same differ) | inr later ↦ later ]

    pub pair_found : KindsDiffer (kind_of_name columns name) (kind_of_name others target) → AnyKindsDiffer columns names others targets
    pair_found differ = pair_of_rest names targets i (rw (names_left, targets_left) (inl differ))
