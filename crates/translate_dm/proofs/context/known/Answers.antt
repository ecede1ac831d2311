use Rattle.std.proofs.Common.{◌∙◌, List, ap, map, subst, sym}
use Rattle.std.proofs.lemmas.Result.{IfOk-weaker}
use Rattle.members_dm.specs.Membership.{NoRepeats}
use Rattle.schema_dm.specs.declared.table.Table.{Table}
use Rattle.algebra_dm.specs.Checking.{IsKnown}
use Rattle.algebra_dm.specs.Nodes.{IsFaultless}
use Rattle.algebra_dm.specs.declared.known.Known.{Known}
use Rattle.translate_dm.proofs.context.known.Goals as goal

pub known_of-requires-clause-named : goal.known_of-requires-clause-named
known_of-requires-clause-named c = c.requires.ready.named ∙ ap (map (λ (t : Table). t.name)) (sym c.tables-tables.ensures.value)

pub known_of-requires-clause-once : goal.known_of-requires-clause-once
known_of-requires-clause-once c = subst (λ (ts : List Table). NoRepeats (map (λ (t : Table). t.name) ts)) (sym c.tables-tables.ensures.value) c.requires.ready.schema.names

pub known_of-requires-clause-faultless : goal.known_of-requires-clause-faultless
known_of-requires-clause-faultless c = subst (λ (ts : List Table). IsFaultless ts c.args.query.now) (sym c.tables-tables.ensures.value) c.requires.formed.faultless

pub returns : goal.returns
returns c =
    let mode = c.args.context.now.mode in
    let query = c.args.query.now in
    IfOk-weaker c.known_of.result (λ (k : Known). IsKnown mode c.tables-tables.result.now query k) (λ (k : Known). IsKnown mode c.args.context.now.schema.now query k)
    (λ k h. subst (λ (ts : List Table). IsKnown mode ts query k) c.tables-tables.ensures.value h) c.known_of.ensures
