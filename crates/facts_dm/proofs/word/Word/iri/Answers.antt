use Rattle.std.proofs.Common.{◌∙◌, ap, chars}
use Rattle.names_dm.specs.Terminals.{is_iri}
use Rattle.facts_dm.proofs.Words.{word_chars, word_is_iri}
use Rattle.facts_dm.proofs.word.Word.iri.Goals as goal

pub of_grammar-requires : goal.of_grammar-requires
of_grammar-requires c =
    let text = c.in_ok-text.ensures.chars ∙ ap chars c.as_str.ensures ∙ word_chars c.args.self in
    ap is_iri text ∙ word_is_iri c.args.self

pub returns : goal.returns
returns c = c.of_grammar.ensures ∙ c.in_ok-text.ensures.chars ∙ ap chars c.as_str.ensures ∙ word_chars c.args.self
