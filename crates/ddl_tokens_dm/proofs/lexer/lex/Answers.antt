use Rattle.std.proofs.Common.{◌≡◌, ◌≢◌, ◌≤◌, ◌+◌, ◌-◌, ◌∷◌, ℕ, List, [], length, ap, ◌∙◌, sym, subst, arith, chars}
use Rattle.ddl_tokens_dm.specs.declared.lexer.Lexed.{Lexed}
use Rattle.ddl_tokens_dm.specs.Scanning.{lexeme}
use Rattle.ddl_tokens_dm.specs.Tokens.{Consists}
use Rattle.ddl_tokens_dm.specs.Views.{lexeme_seen, IsText, IsShort}
use Rattle.ddl_tokens_dm.proofs.Scans.{bad_is}
use Rattle.ddl_tokens_dm.proofs.Lexing.{read_between, read_token, read_ends}
use Rattle.ddl_tokens_dm.proofs.lexer.lex.Goals as goal

not_empty : (ts us : List ℕ) (c : ℕ) → ts ≡ c ∷ us → ts ≢ []
not_empty ts us c e k = absurd cc

pub lex-preserved-in-Between : goal.lex-preserved-in-Between
lex-preserved-in-Between c = (
  read_between c.args.total (chars c.args.text.now) (chars c.lex.rest.now) (chars c.in-Between.after.now) c.lex.found c.lex.invariant.0
      (ap lexeme c.in-Some.ensures.chars ∙ sym c.in_ok-after.ensures.seen ∙ ap lexeme_seen c.in-Between.is),
  subst (λ (l : Lexed). IsText l) c.in-Between.is c.in_ok-after.ensures.utf8,
  (let short : length c.in-Between.after.now ≤ length c.in-Some.behind.now = subst (λ (l : Lexed). IsShort l (length c.in-Some.behind.now)) c.in-Between.is c.in_ok-after.ensures.shorter in
      omega (arith, short, c.in-Some.ensures.shorter, c.lex.invariant.2)),
)

pub lex-preserved : goal.lex-preserved
lex-preserved c = (
  read_token c.args.total (c.args.total - c.byte_len.result + 1) (chars c.args.text.now) (chars c.lex.rest.now) (chars c.in-Token.after.now) c.lex.found c.push.new.self c.in-Token.token c.lex.invariant.0
      (ap lexeme c.in-Some.ensures.chars ∙ sym c.in_ok-after.ensures.seen ∙ ap lexeme_seen c.in-Token.is)
      (ap (λ n. c.args.total - n + 1) c.byte_len.ensures.bytes)
      c.in_ok-push-in-Token.ensures.ok,
  subst (λ (l : Lexed). IsText l) c.in-Token.is c.in_ok-after.ensures.utf8,
  (let short : length c.in-Token.after.now ≤ length c.in-Some.behind.now = subst (λ (l : Lexed). IsShort l (length c.in-Some.behind.now)) c.in-Token.is c.in_ok-after.ensures.shorter in
      omega (arith, short, c.in-Some.ensures.shorter, c.lex.invariant.2)),
)

pub returns-in-Bad : goal.returns-in-Bad
returns-in-Bad c = (
  chars c.lex.rest.now,
  read_ends c.args.total (chars c.args.text.now) (chars c.lex.rest.now) c.lex.found c.lex.invariant.0,
  bad_is (chars c.lex.rest.now) (ap lexeme c.in-Some.ensures.chars ∙ sym c.in_ok-after.ensures.seen ∙ ap lexeme_seen c.in-Bad.is),
  not_empty (chars c.lex.rest.now) (chars c.in-Some.behind.now) c.in-Some.first c.in-Some.ensures.chars,
  ap (λ n. c.args.total - n + 1) c.byte_len.ensures.bytes,
)

pub returns : goal.returns
returns c =
    subst (λ (us : List ℕ). Consists c.args.total (chars c.args.text.now) c.lex.found us) c.in_default.ensures.chars
    (read_ends c.args.total (chars c.args.text.now) (chars c.lex.rest.now) c.lex.found c.lex.invariant.0)
