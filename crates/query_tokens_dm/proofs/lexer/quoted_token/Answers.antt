use Rattle.std.proofs.Common.{List, sym, subst, ℕ}
use Rattle.std.specs.Prelude.{IsUtf8}
use Rattle.query_tokens_dm.specs.Tokens.{IsTextOf}
use Rattle.query_tokens_dm.proofs.Fronts.{no_quoted_text, quoted_text}
use Rattle.query_tokens_dm.proofs.lexer.quoted_token.Goals as goal

pub returns-in-Some-clause-found : goal.returns-in-Some-clause-found
returns-in-Some-clause-found c = λ ts e.
    quoted_text c.args.bytes.items ts c.args.rest.now c.in-Some.text e (subst (λ (bs : List ℕ). IsTextOf bs c.in-Some.text) c.as_slice.ensures.value (rw c.in-Some.is at c.in_ok-text.ensures))

pub returns-clause-found : goal.returns-clause-found
returns-clause-found c = λ ts e.
    no_quoted_text c.args.bytes.items ts c.args.rest.now e (subst (λ (bs : List ℕ). ¬ IsUtf8 bs) c.as_slice.ensures.value (rw c.in-None.is at c.in_ok-text.ensures))
