use Rattle.std.proofs.Common.{◌∙◌, chars, ap}
use Rattle.names_dm.proofs.SafeForms.{is_iri-base}
use Rattle.names_dm.proofs.spelling.Spelling.new.Goals as goal

pub invariant_of-result : goal.invariant_of-result
invariant_of-result c =
    rw (ap chars c.in_ok-from_str.ensures.ok ∙ c.as_str.ensures.chars) (is_iri-base c.args.base.now c.as_str.ensures.grammar)
