use Rattle.std.proofs.Common.{chars, string_bytes}
use Rattle.names_dm.specs.IriSafe.{safe_form}
use Rattle.names_dm.proofs.SafeForms.{is_iri-append, is_iri-safe_form}
use Rattle.names_dm.proofs.spelling.Spelling.with_safe.Goals as goal

pub invariant_of-result : goal.invariant_of-result
invariant_of-result c =
    let name = chars c.args.name.now in
    rw c.in_ok-push_safe.ensures.chars (is_iri-append (chars (string_bytes c.self.inside.string)) (safe_form name) c.self.invariant (is_iri-safe_form name))
