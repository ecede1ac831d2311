use Rattle.std.proofs.Common.{◌≡◌, ◌∙◌, List, [], ap, map, subst}
use Rattle.std.proofs.lemmas.Result.{IfOk-weaker}
use Rattle.members_dm.specs.Membership.{IsIn}
use Rattle.names_dm.specs.Variables.{variable_of}
use Rattle.schema_dm.specs.Naming.{Name}
use Rattle.query_rows_dm.proofs.EvaluationLemmas.{no_empty}
use Rattle.cmd_dm.specs.Answered.{AreVariablesOf}
use Rattle.cmd_dm.proofs.Answered.{some_variables}
use Rattle.cmd_dm.proofs.ask.variables.Goals as goal

pub attributes-requires : goal.attributes-requires
attributes-requires c = c.requires.faultless

pub header-requires : goal.header-requires
header-requires c =
    let tables = c.args.schema.now in
    let q = c.args.query.now in
    let names = c.in_ok-names.names in
    λ here. no_empty tables c.tables-tables.ensures.valid q c.requires.names ((c.in_ok-names.ensures.exact []).0 (subst (λ (ns : List Name). IsIn [] ns) c.as_slice.ensures here))

pub returns-clause-are : goal.returns-clause-are
returns-clause-are c =
    IfOk-weaker c.header.result (λ vars. vars ≡ map variable_of c.as_slice.result.now) (AreVariablesOf c.args.schema.now c.args.query.now)
    (λ vars is. record { names = c.in_ok-names.names; attributes = c.in_ok-names.ensures; are = is ∙ ap (map variable_of) c.as_slice.ensures }) c.header.ensures

pub returns-clause-some : goal.returns-clause-some
returns-clause-some c =
    IfOk-weaker c.header.result (λ vars. vars ≡ map variable_of c.as_slice.result.now) (λ vars. ¬ (vars ≡ []))
    (λ vars is. some_variables c.args.schema.now c.tables-tables.ensures.valid c.args.query.now c.requires.faultless c.in_ok-names.names c.in_ok-names.ensures vars (is ∙ ap (map variable_of) c.as_slice.ensures)) c.header.ensures
