use Rattle.std.proofs.Common.{◌≡◌, ◌∙◌, List, ap}
use Rattle.std.proofs.lemmas.Result.{IfOk-weaker}
use Rattle.schema_dm.specs.Naming.{Name}
use Rattle.algebra_dm.specs.Attributes.{HasAttribute}
use Rattle.pattern_dm.specs.declared.pattern.Pattern.{Pattern}
use Rattle.pattern_dm.specs.declared.pattern.Pattern.TheVariants as patterns
use Rattle.keeping_dm.specs.Guards.{new_names}
use Rattle.translate_dm.specs.Steps.{IsRenamed}
use Rattle.translate_dm.proofs.CertainLemmas.{attribute_named, listed_named}
use Rattle.translate_dm.proofs.operators.renamed.Goals as goal

pub renamed-requires-clause-named : goal.renamed-requires-clause-named
renamed-requires-clause-named c =
    let tables = c.args.context.now.schema.now in
    let query = c.args.query.now in
    rw c.as_slice-names.ensures (listed_named (HasAttribute tables query) c.in_ok-known.known.attributes c.in_ok-known.ensures.attributes (attribute_named tables c.requires.ready.schema query c.requires.formed))

pub returns : goal.returns
returns c =
    let from = c.args.from.now in
    let to = c.args.to.now in
    let part = c.args.part in
    IfOk-weaker c.renamed.result (λ (p : Pattern). p ≡ patterns.Select part (new_names from to c.as_slice-names.result.now)) (IsRenamed c.args.context.now.schema.now c.args.query.now from to part)
    (λ p e. (c.in_ok-known.known.attributes, c.in_ok-known.ensures.attributes, e ∙ ap (λ (ns : List Name). patterns.Select part (new_names from to ns)) c.as_slice-names.ensures)) c.renamed.ensures
