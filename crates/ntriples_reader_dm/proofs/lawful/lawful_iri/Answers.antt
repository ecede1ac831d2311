use Rattle.std.proofs.Common.{List, ℕ, subst}
use Rattle.std.proofs.lemmas.Str.{scalars-chars}
use Rattle.value_dm.specs.Texts.{IsText}
use Rattle.ntriples_reader_dm.proofs.lawful.lawful_iri.Goals as goal

pub returns : goal.returns
returns c = (c.as_str-characters.ensures.grammar, subst (λ (cs : List ℕ). IsText cs) c.as_str-characters.ensures.chars (scalars-chars c.as_str-characters.result.now c.as_str-characters.utf8))
