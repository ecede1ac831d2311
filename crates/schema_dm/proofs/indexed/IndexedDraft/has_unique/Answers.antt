use Rattle.std.proofs.Common.{◌≡◌, ◌↔◌, IsPermutation, inl, refl, subst, true}
use Rattle.schema_dm.specs.Drafts.{AnyUniqueList}
use Rattle.schema_dm.specs.declared.draft.TableDraft.{TableDraft}
use Rattle.schema_dm.proofs.SortedLists.{either_list}
use Rattle.schema_dm.proofs.indexed.IndexedDraft.has_unique.Goals as goal

pub returns-then-has_reordered : goal.returns-then-has_reordered
returns-then-has_reordered c = (
  (λ _. subst (λ (draft : TableDraft). AnyUniqueList (IsPermutation c.args.names.now) draft) c.self.view_is
      (inl ((c.has_reordered.ensures c.args.names.now c.self.inside.draft.primaries c.in_ok-sorted.ensures c.self.invariant.1).0 c.if-has_reordered.true))),
  (λ _. refl),
)

pub returns : goal.returns
returns c =
    subst (λ (draft : TableDraft). (c.has_reordered-2.result ≡ true) ↔ AnyUniqueList (IsPermutation c.args.names.now) draft) c.self.view_is
    (either_list _ _ _ _ (c.has_reordered.ensures c.args.names.now c.self.inside.draft.primaries c.in_ok-sorted.ensures c.self.invariant.1)
    (c.has_reordered-2.ensures c.args.names.now c.self.inside.draft.uniques c.in_ok-sorted.ensures c.self.invariant.2) c.if-has_reordered.false)
