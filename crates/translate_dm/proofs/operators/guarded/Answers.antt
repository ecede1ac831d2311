use Rattle.std.proofs.Common.{◌≡◌, ◌∙◌, List, ap}
use Rattle.std.proofs.lemmas.Result.{IfOk-weaker}
use Rattle.schema_dm.specs.Naming.{Name}
use Rattle.algebra_dm.specs.Attributes.{HasAttribute}
use Rattle.pattern_dm.specs.declared.pattern.Pattern.{Pattern}
use Rattle.keeping_dm.specs.Guards.{guarded}
use Rattle.translate_dm.specs.Steps.{IsGuarded}
use Rattle.translate_dm.proofs.CertainLemmas.{attribute_named, listed_named}
use Rattle.translate_dm.proofs.operators.guarded.Goals as goal

pub guarded-requires : goal.guarded-requires
guarded-requires c =
    let tables = c.args.context.now.schema.now in
    let query = c.args.query.now in
    rw c.as_slice-names.ensures (listed_named (HasAttribute tables query) c.in_ok-known.known.attributes c.in_ok-known.ensures.attributes (attribute_named tables c.requires.ready.schema query c.requires.formed))

pub returns : goal.returns
returns c =
    let class = c.args.context.now.class.now in
    let left = c.args.left in
    let right = c.args.right in
    IfOk-weaker c.guarded.result (λ (p : Pattern). p ≡ guarded c.as_slice-names.result.now class left right) (IsGuarded c.args.context.now.schema.now c.args.query.now class left right)
    (λ p e. (c.in_ok-known.known.attributes, c.in_ok-known.ensures.attributes, e ∙ ap (λ (ns : List Name). guarded ns class left right) c.as_slice-names.ensures)) c.guarded.ensures
