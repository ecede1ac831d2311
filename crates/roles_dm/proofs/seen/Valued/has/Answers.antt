use Rattle.std.proofs.Common.{◌≡◌, ◌∙◌, false, refl, sym, true}
use Rattle.roles_dm.proofs.ColumnLemmas.{fails}
use Rattle.roles_dm.proofs.seen.Valued.has.Goals as goal

pub returns-then-contains : goal.returns-then-contains
returns-then-contains c valued = (((λ _. valued c.args.subject c.args.property (sym c.contains.ensures ∙ c.if-contains.true)), (λ _. refl)), valued)

pub returns-then-not-told : goal.returns-then-not-told
returns-then-not-told c valued = (
  ((λ e. absurd (let f : false ≡ true = e in cc)), (λ h. absurd (fails c.in_ok-told.told c.in_ok-told.ensures c.if-not-told.true h))),
  valued,
)

pub returns : goal.returns
returns c valued =
    let counted = c.in_ok-told.ensures.0 c.if-not-told.false in
    (((λ _. counted), (λ _. refl)), c.in_ok-note.ensures c.args.graph.now c.args.roles.now valued counted)
