use Rattle.std.proofs.Common.{List, sym, subst, ℕ}
use Rattle.std.specs.Prelude.{IsUtf8}
use Rattle.query_tokens_dm.specs.Tokens.{IsTextOf}
use Rattle.query_tokens_dm.proofs.Fronts.{no_word_text, word_text}
use Rattle.query_tokens_dm.proofs.lexer.word_token.Goals as goal

pub returns-in-Some-clause-found : goal.returns-in-Some-clause-found
returns-in-Some-clause-found c = λ ts e.
    word_text c.args.bytes.items ts c.args.rest.now c.in-Some.name e (subst (λ (bs : List ℕ). IsTextOf bs c.in-Some.name) c.as_slice.ensures.value (rw c.in-Some.is at c.in_ok-name.ensures))

pub returns-clause-found : goal.returns-clause-found
returns-clause-found c = λ ts e.
    no_word_text c.args.bytes.items ts c.args.rest.now e (subst (λ (bs : List ℕ). ¬ IsUtf8 bs) c.as_slice.ensures.value (rw c.in-None.is at c.in_ok-name.ensures))
