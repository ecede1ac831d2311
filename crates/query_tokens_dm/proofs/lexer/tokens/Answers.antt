use Rattle.std.proofs.Common.{◌≡◌, ◌≢◌, ◌≤◌, ◌∷◌, List, None, Option, Some, [], ap, arith, length, refl, subst, sym, ◌∙◌, ℕ}
use Rattle.value_dm.specs.declared.kind.Kind.{Kind}
use Rattle.query_tokens_dm.specs.declared.lexer.Lexed.{Lexed}
use Rattle.query_tokens_dm.specs.Tokens.{Consists, IsNoToken, IsSpace, StandsToken}
use Rattle.query_tokens_dm.specs.Views.{IsFound, IsShort}
use Rattle.query_tokens_dm.proofs.Lexing.{Read, only_tokens, read_between, read_ends, read_token}
use Rattle.query_tokens_dm.proofs.lexer.tokens.Goals as goal

not_empty : (ts us : List ℕ) (c : ℕ) → ts ≡ c ∷ us → ts ≢ []
not_empty ts us c e k = absurd cc

nil_of : (ts : List ℕ) → length ts ≡ 0 → ts ≡ []
nil_of [] e = refl
nil_of (c ∷ ts) e = absurd (omega (arith, e))

pub tokens-preserved-in-Between : goal.tokens-preserved-in-Between
tokens-preserved-in-Between c = (
  read_between c.args.bytes.now c.tokens.rest.now c.in-Between.after.now c.tokens.found c.tokens.before c.tokens.invariant.0
      (subst (λ (us : List ℕ). IsSpace us c.in-Between.after.now) (sym c.in-Some.ensures.cases.0) (subst (λ (l : Lexed). IsFound (c.in-Some.first.now ∷ c.in-Some.behind.now) l) c.in-Between.is c.in_ok-after.ensures.found)),
  (let short : length c.in-Between.after.now ≤ length c.in-Some.behind.now = subst (λ (l : Lexed). IsShort l (length c.in-Some.behind.now)) c.in-Between.is c.in_ok-after.ensures.shorter in
      omega (arith, short, c.in-Some.ensures.cases.1, c.tokens.invariant.1)),
)

pub tokens-preserved : goal.tokens-preserved
tokens-preserved c = (
  subst (λ (k : Option Kind). Read c.args.bytes.now c.push.new.self k c.in-Token.after.now) (sym c.kind_word-before.ensures)
      (read_token c.args.bytes.now c.tokens.rest.now c.in-Token.after.now c.tokens.found c.push.new.self c.tokens.before c.in-Token.token c.in_ok-value-in-Token.value _ c.tokens.invariant.0
      (subst (λ (us : List ℕ). StandsToken c.in-Token.token us c.in-Token.after.now) (sym c.in-Some.ensures.cases.0) (subst (λ (l : Lexed). IsFound (c.in-Some.first.now ∷ c.in-Some.behind.now) l) c.in-Token.is c.in_ok-after.ensures.found))
      c.in_ok-value-in-Token.ensures refl c.in_ok-push-in-Token.ensures.ok),
  (let short : length c.in-Token.after.now ≤ length c.in-Some.behind.now = subst (λ (l : Lexed). IsShort l (length c.in-Some.behind.now)) c.in-Token.is c.in_ok-after.ensures.shorter in
      omega (arith, short, c.in-Some.ensures.cases.1, c.tokens.invariant.1)),
)

pub returns-in-Bad : goal.returns-in-Bad
returns-in-Bad c =
    only_tokens c.args.bytes.now c.tokens.found (Some _) (
      c.tokens.rest.now,
      read_ends c.args.bytes.now c.tokens.rest.now c.tokens.found c.tokens.before c.tokens.invariant.0,
      subst (λ (us : List ℕ). IsNoToken us) (sym c.in-Some.ensures.cases.0) (subst (λ (l : Lexed). IsFound (c.in-Some.first.now ∷ c.in-Some.behind.now) l) c.in-Bad.is c.in_ok-after.ensures.found),
      not_empty c.tokens.rest.now c.in-Some.behind.now c.in-Some.first.now c.in-Some.ensures.cases.0,
      refl,
    )

pub returns : goal.returns
returns c =
    only_tokens c.args.bytes.now c.tokens.found None
    (subst (λ (us : List ℕ). Consists (length c.args.bytes.now) None c.args.bytes.now c.tokens.found us) (nil_of c.tokens.rest.now c.in_default.ensures.cases)
    (read_ends c.args.bytes.now c.tokens.rest.now c.tokens.found c.tokens.before c.tokens.invariant.0))
