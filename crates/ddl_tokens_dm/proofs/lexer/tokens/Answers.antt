use Rattle.std.proofs.Common.{◌≡◌, ℕ, List, Option, length, sym, ap, subst, ◌∙◌, chars}
use Rattle.ddl_tokens_dm.specs.declared.token.Placed.{Placed}
use Rattle.ddl_tokens_dm.specs.Tokens.{AreTokensOf, AreTokens, unmarked}
use Rattle.ddl_tokens_dm.proofs.Unique.{only_tokens}
use Rattle.ddl_tokens_dm.proofs.lexer.tokens.Goals as goal

pub returns-in_ok-lex-in-Ok : goal.returns-in_ok-lex-in-Ok
returns-in_ok-lex-in-Ok c =
    let text : chars c.unmarked.result.now ≡ unmarked (chars c.args.bytes.now) = c.unmarked.ensures.seen ∙ ap (λ bs. unmarked (chars bs)) c.in-Ok.ensures.cases.0 in
    let are : AreTokens c.args.bytes.now c.in_ok-lex-in-Ok.field-0.0 c.in_ok-lex-in-Ok.field-0.1
    = subst (λ (us : List ℕ). AreTokensOf (length c.args.bytes.now) us c.in_ok-lex-in-Ok.field-0.0 c.in_ok-lex-in-Ok.field-0.1) text c.in_ok-lex-in-Ok.ensures in
    (c.in-Ok.ensures.cases.1, are, λ found stop h. only_tokens c.args.bytes.now c.in_ok-lex-in-Ok.field-0 are found stop h)
