use Rattle.std.proofs.Common.{◌∙◌, ap, eqb}
use Rattle.std.specs.List.{starts_with}
use Rattle.std.proofs.lemmas.Str.Pattern.{starts_text}
use Rattle.names_dm.proofs.Ascii.{begins_by_bytes}
use Rattle.consistency_dm.proofs.range.begins_with.Goals as goal

pub returns : goal.returns
returns c =
    starts_text _ _ _ c.starts_with.ensures.cases ∙ ap (λ bytes. starts_with eqb bytes c.args.namespace.now) c.as_str.ensures.bytes
    ∙ begins_by_bytes c.args.iri.now c.args.namespace.now c.requires
