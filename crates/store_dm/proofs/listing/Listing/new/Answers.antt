use Rattle.std.proofs.Common.{Contains, ◌↔◌, subst, sym, ◌∙◌, List}
use Rattle.std.proofs.lemmas.List.Filters.{dedup_is}
use Rattle.std.proofs.lemmas.List.Sorted.{Contains-permutation, IsPermutation-sym}
use Rattle.store_dm.specs.declared.listing.Triad.{Triad}
use Rattle.store_dm.specs.Triads.{IsRising}
use Rattle.store_dm.specs.Starts.{AreStarts}
use Rattle.store_dm.proofs.TriadLemmas.{rising_from_sort, dedup_keeps, dedup_adds_none}
use Rattle.store_dm.proofs.listing.Listing.new.Goals as goal

pub starts_of-requires : goal.starts_of-requires
starts_of-requires c = subst IsRising (sym (c.as_slice.ensures.value ∙ dedup_is _ _ _ c.dedup.ensures.filtered)) (rising_from_sort c.sort_unstable.new.self.items c.sort_unstable.ensures.sorted)

pub invariant_of-result : goal.invariant_of-result
invariant_of-result c = record {
  rising = subst IsRising (sym (dedup_is _ _ _ c.dedup.ensures.filtered)) (rising_from_sort c.sort_unstable.new.self.items c.sort_unstable.ensures.sorted);
  begun = subst (AreStarts c.in_ok-starts.starts.items) c.as_slice.ensures.value c.in_ok-starts.ensures;
}

pub returns : goal.returns
returns c = λ x.
    let is = dedup_is _ _ _ c.dedup.ensures.filtered in
    let moved = c.sort_unstable.ensures.permutation in
    let xs = c.args.items.items in
    let ys = c.sort_unstable.new.self.items in
    subst (λ (zs : List Triad). Contains zs x ↔ Contains xs x) (sym is) (
      (λ h. Contains-permutation ys xs x (IsPermutation-sym xs ys moved) (dedup_adds_none ys x h)),
      (λ h. dedup_keeps ys x (Contains-permutation xs ys x moved h)),
    )
