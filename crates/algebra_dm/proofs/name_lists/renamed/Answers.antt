use Rattle.std.proofs.Common.{◌≡◌, ◌≢◌, ◌∙◌, ◌⊎◌, ◌↔◌, List, subst, sym}
use Rattle.std.proofs.lemmas.Bool.{false≢true}
use Rattle.members_dm.specs.Membership.{IsIn}
use Rattle.schema_dm.specs.Naming.{Name}
use Rattle.algebra_dm.specs.Checking.{AreThose}
use Rattle.algebra_dm.proofs.RisingLemmas.{lists_items, renamed_absent, renamed_there}
use Rattle.algebra_dm.proofs.name_lists.renamed.Goals as goal
use Rattle.algebra_dm.proofs.name_lists.renamed.Goals.{then-has+in_ok-copy+in_ok-push, else-has}

pub returns : goal.returns
returns c =
    let names = c.args.names.now in
    let from = c.args.from.now in
    let to = c.args.to.now in
    let those : AreThose (λ a. (from ≢ a) × (to ≢ a)) names c.in_ok-all.all.items =
    subst (λ (xs : List Name). AreThose (λ a. (from ≢ a) × (to ≢ a)) xs c.in_ok-all.all.items) c.as_slice.ensures c.in_ok-all.ensures in
    let same : (a : Name) → IsIn a c.if-has.all.items ↔ (((to ≡ a) × IsIn from names) ⊎ (IsIn a names × (from ≢ a) × (to ≢ a))) =
    elim c.if-has.branch [
      | then-has+in_ok-copy+in_ok-push w ↦ rw (w.all-is, w.in_ok-push.ensures.items, w.in_ok-copy.ensures) (renamed_there from to names c.in_ok-all.all.items those (c.has.ensures.0 w.if-has.true))
      | else-has w ↦ rw w.all-is (renamed_absent from to names c.in_ok-all.all.items those (λ i. false≢true (sym w.if-has.false ∙ c.has.ensures.1 i)))
    ] in
    lists_items (λ a. ((to ≡ a) × IsIn from names) ⊎ (IsIn a names × (from ≢ a) × (to ≢ a))) c.if-has.all.items c.rising.result same c.rising.ensures
