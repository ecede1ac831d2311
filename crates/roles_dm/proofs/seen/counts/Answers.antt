use Rattle.std.proofs.Common.{◌↔◌, Bool, IsTrue, sym}
use Rattle.std.proofs.lemmas.Result.{IfOk-weaker}
use Rattle.roles_dm.specs.Canonical.{IsCanonicalOf}
use Rattle.roles_dm.specs.Seen.{Counts}
use Rattle.roles_dm.proofs.SeenLemmas.{counts_class, counts_none, counts_value}
use Rattle.roles_dm.proofs.seen.counts.Goals as goal

pub returns-in_default : goal.returns-in_default
returns-in_default c = counts_none c.args.graph.now c.args.roles.now c.args.property c.args.object (sym c.in_default.ensures)

pub returns-in-Some-column_kind : goal.returns-in-Some-column_kind
returns-in-Some-column_kind c = IfOk-weaker c.is_canonical.result
    (λ (told : Bool). IsTrue told ↔ IsCanonicalOf c.in-Some-column_kind.kind c.term_of.result.now)
    (λ (told : Bool). IsTrue told ↔ Counts c.args.graph.now c.args.roles.now c.args.property c.args.object)
    (λ told test. counts_value c.args.graph.now c.args.roles.now c.args.property c.args.object c.in-Some.role.now c.in-Some-column_kind.kind c.term_of.result.now told (sym c.in-Some.ensures) (sym c.in-Some-column_kind.ensures) c.term_of.ensures test)
    c.is_canonical.ensures

pub returns-in-None : goal.returns-in-None
returns-in-None c = counts_class c.args.graph.now c.args.roles.now c.args.property c.args.object c.in-Some.role.now c.is_class.result (sym c.in-Some.ensures) (sym c.in-None.ensures) c.is_class.ensures
