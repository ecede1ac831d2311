use Rattle.std.proofs.Common.{◌≢◌}
use Rattle.std.proofs.lemmas.Result.{IfOk-weaker}
use Rattle.names_dm.specs.Variables.{variable_of}
use Rattle.query_rows_dm.specs.Operators.{AreKept}
use Rattle.query_rows_dm.specs.Relations.{Numbers}
use Rattle.query_rows_dm.specs.declared.relation.Relation.{Relation}
use Rattle.query_rows_dm.proofs.StepLemmas.{kept_twice}
use Rattle.query_rows_dm.proofs.operators.other_value.Goals as goal

pub returns : goal.returns
returns c =
    let part = c.args.part in
    let there = c.in_ok-there.there in
    let Q : Numbers → Type 0 = λ m. m (variable_of c.args.name.now) ≢ 1 in
    let R : Numbers → Type 0 = λ m. m (variable_of c.args.name.now) ≢ c.args.id in
    IfOk-weaker c.unequal-2.result (λ (r : Relation). AreKept R there r) (λ (r : Relation). AreKept (λ m. Q m × R m) part r)
    (λ r h. kept_twice Q R part there r c.in_ok-there.ensures h) c.unequal-2.ensures
