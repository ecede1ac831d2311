use Rattle.std.proofs.Common.{◌≡◌, ◌∙◌, List, ap, subst}
use Rattle.std.proofs.lemmas.Result.{IfOk-weaker}
use Rattle.members_dm.specs.Membership.{IsIn}
use Rattle.schema_dm.specs.Naming.{Name}
use Rattle.algebra_dm.specs.Attributes.{Lists}
use Rattle.pattern_dm.specs.declared.pattern.Pattern.{Pattern}
use Rattle.pattern_dm.specs.declared.pattern.Pattern.TheVariants as patterns
use Rattle.keeping_dm.specs.Guards.{same_names}
use Rattle.translate_dm.specs.Steps.{IsProjected}
use Rattle.translate_dm.proofs.CertainLemmas.{listed_named}
use Rattle.translate_dm.proofs.operators.projected.Goals as goal

pub projected-requires : goal.projected-requires
projected-requires c =
    let names = c.args.names.now in
    let are : Lists (λ a. IsIn a names) c.rising-sorted.result = subst (λ (xs : List Name). Lists (λ a. IsIn a xs) c.rising-sorted.result) (c.into_vec.ensures ∙ c.in_ok-copy.ensures) c.rising-sorted.ensures in
    rw c.as_slice.ensures (listed_named (λ a. IsIn a names) c.rising-sorted.result are c.requires)

pub returns : goal.returns
returns c =
    let names = c.args.names.now in
    let part = c.args.part in
    let are : Lists (λ a. IsIn a names) c.rising-sorted.result = subst (λ (xs : List Name). Lists (λ a. IsIn a xs) c.rising-sorted.result) (c.into_vec.ensures ∙ c.in_ok-copy.ensures) c.rising-sorted.ensures in
    IfOk-weaker c.projected.result (λ (p : Pattern). p ≡ patterns.Select part (same_names c.as_slice.result.now)) (IsProjected names part)
    (λ p e. (c.rising-sorted.result, are, e ∙ ap (λ (ns : List Name). patterns.Select part (same_names ns)) c.as_slice.ensures)) c.projected.ensures
