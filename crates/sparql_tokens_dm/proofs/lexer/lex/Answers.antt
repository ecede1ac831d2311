use Rattle.std.proofs.Common.{◌≡◌, ◌≢◌, ◌+◌, ◌-◌, ◌∷◌, ℕ, List, [], length, ap, ◌∙◌, sym, subst, arith, chars}
use Rattle.ntriples_reader_dm.proofs.Behind.{rest_fits}
use Rattle.ntriples_reader_dm.proofs.Fronts.{ends_all}
use Rattle.sparql_tokens_dm.specs.declared.lexer.Lexed.{Lexed}
use Rattle.sparql_tokens_dm.specs.Scanning.{lexeme}
use Rattle.sparql_tokens_dm.specs.Tokens.{Consists}
use Rattle.sparql_tokens_dm.specs.Views.{IsText, lexeme_seen}
use Rattle.sparql_tokens_dm.proofs.Scans.{bad_is, behind_ends, behind_shorter, space_behind, space_is, token_behind, token_is}
use Rattle.sparql_tokens_dm.proofs.Lexing.{read_begins, read_between, read_ends, read_token}
use Rattle.sparql_tokens_dm.proofs.lexer.lex.Goals as goal

not_empty : (ts us : List ℕ) (c : ℕ) → ts ≡ c ∷ us → ts ≢ []
not_empty ts us c e k = absurd cc

pub lex-init : goal.lex-init
lex-init c = (read_begins (length c.args.text.now) (chars c.args.text.now) c.new-found.result c.new-found.ensures, c.utf8.text, ends_all (chars c.args.text.now))

pub lex-preserved-in-Between : goal.lex-preserved-in-Between
lex-preserved-in-Between c =
    let is = ap lexeme c.in-Some.ensures.chars ∙ sym c.in_ok-after.ensures.seen ∙ ap lexeme_seen c.in-Between.is in (
      read_between (length c.args.text.now) (chars c.args.text.now) (chars c.lex.rest.now) (chars c.in-Between.after.now) c.lex.found c.lex.invariant.0 is,
      subst (λ (l : Lexed). IsText l) c.in-Between.is c.in_ok-after.ensures.utf8,
      behind_ends (chars c.args.text.now) (chars c.lex.rest.now) (chars c.in-Between.after.now) c.lex.invariant.2 (space_behind (chars c.lex.rest.now) (chars c.in-Between.after.now) (space_is (chars c.lex.rest.now) (chars c.in-Between.after.now) is)),
    )

pub lex-preserved : goal.lex-preserved
lex-preserved c =
    let is = ap lexeme c.in-Some.ensures.chars ∙ sym c.in_ok-after.ensures.seen ∙ ap lexeme_seen c.in-Token.is in (
      read_token (length c.args.text.now) (c.byte_len.result - c.byte_len-in-Some.result + 1) (chars c.args.text.now) (chars c.lex.rest.now) (chars c.in-Token.after.now) c.lex.found c.push.new.self c.in-Token.token c.lex.invariant.0
          is
          (ap (λ n. n - c.byte_len-in-Some.result + 1) c.byte_len.ensures.len ∙ ap (λ n. length c.args.text.now - n + 1) c.byte_len-in-Some.ensures.bytes)
          c.in_ok-push-in-Token.ensures.ok,
      subst (λ (l : Lexed). IsText l) c.in-Token.is c.in_ok-after.ensures.utf8,
      behind_ends (chars c.args.text.now) (chars c.lex.rest.now) (chars c.in-Token.after.now) c.lex.invariant.2 (token_behind c.in-Token.token (chars c.lex.rest.now) (chars c.in-Token.after.now) (token_is (chars c.lex.rest.now) (chars c.in-Token.after.now) c.in-Token.token is)),
    )

pub returns-in-Bad : goal.returns-in-Bad
returns-in-Bad c = (
  chars c.lex.rest.now,
  read_ends (length c.args.text.now) (chars c.args.text.now) (chars c.lex.rest.now) c.lex.found c.lex.invariant.0,
  bad_is (chars c.lex.rest.now) (ap lexeme c.in-Some.ensures.chars ∙ sym c.in_ok-after.ensures.seen ∙ ap lexeme_seen c.in-Bad.is),
  not_empty (chars c.lex.rest.now) (chars c.in-Some.behind.now) c.in-Some.first c.in-Some.ensures.chars,
  ap (λ n. n - c.byte_len-in-Some.result + 1) c.byte_len.ensures.len ∙ ap (λ n. length c.args.text.now - n + 1) c.byte_len-in-Some.ensures.bytes,
)

pub returns : goal.returns
returns c =
    subst (λ (us : List ℕ). Consists (length c.args.text.now) (chars c.args.text.now) c.lex.found us) c.in_default.ensures.chars
    (read_ends (length c.args.text.now) (chars c.args.text.now) (chars c.lex.rest.now) c.lex.found c.lex.invariant.0)

pub overflow_sub-place : goal.overflow_sub-place
overflow_sub-place c =
    let le = rest_fits c.args.text.now c.lex.rest.now c.utf8.text c.lex.invariant.1 c.lex.invariant.2 in
    omega (arith, le, c.byte_len.ensures.len, c.byte_len-in-Some.ensures.len)

pub lex-smaller-in-Between : goal.lex-smaller-in-Between
lex-smaller-in-Between c =
    behind_shorter (chars c.lex.rest.now) (chars c.in-Between.after.now)
    (space_behind (chars c.lex.rest.now) (chars c.in-Between.after.now) (space_is (chars c.lex.rest.now) (chars c.in-Between.after.now) (ap lexeme c.in-Some.ensures.chars ∙ sym c.in_ok-after.ensures.seen ∙ ap lexeme_seen c.in-Between.is)))

pub lex-smaller : goal.lex-smaller
lex-smaller c =
    behind_shorter (chars c.lex.rest.now) (chars c.in-Token.after.now)
    (token_behind c.in-Token.token (chars c.lex.rest.now) (chars c.in-Token.after.now)
    (token_is (chars c.lex.rest.now) (chars c.in-Token.after.now) c.in-Token.token (ap lexeme c.in-Some.ensures.chars ∙ sym c.in_ok-after.ensures.seen ∙ ap lexeme_seen c.in-Token.is)))
