-- Where reading stops.
use Rattle.std.proofs.Common.{◌≡◌, ◌∙◌, ◌-◌, ℕ, zero, suc, List, Result, Ok, Bool, true, false, ap, arith, refl, sub-one, subst, sym}
use Rattle.grammar_dm.specs.declared.read_error.ReadError.{ReadError}
use Rattle.grammar_dm.specs.declared.read_error.ReadError.TheVariants as errors
use Rattle.grammar_dm.specs.Exits.{Fails, Gives}
use Rattle.grammar_dm.specs.Reading.{◌>>=◌, Answer, fault_at, starts}
use Rattle.grammar_dm.specs.Verdict.{Fault}
use Rattle.sparql_tokens_dm.specs.declared.token.Placed.{Placed}
use Rattle.sparql_tokens_dm.specs.declared.token.Keyword.TheVariants.{Bound, SameTerm}
use Rattle.sparql_tokens_dm.specs.declared.token.Sign.TheVariants.{OpenBrace, CloseBrace}
use Rattle.pattern_dm.specs.declared.pattern.Condition.{Condition}
use Rattle.pattern_dm.specs.declared.pattern.Pattern.{Pattern}
use Rattle.sparql_text_dm.specs.Following.{Found, closed_at}
use Rattle.sparql_text_dm.specs.Words.{Mark, is_word}
use Rattle.sparql_text_dm.specs.Reading.{Read, bound_at, content_at, grouped_at, pattern_at, proper_at, same_term_at, sign_at, true_or_at}

pub fails_first : {A B : Type 0} (e : ReadError Placed) (read : Result A (Fault Placed)) (f : A → Result B (Fault Placed)) → Fails e read → Fails e (read >>= f)
fails_first errors.Memory read f h = tt
fails_first {A} {B} (errors.At rest marked) read f h = ap (λ (r : Result A (Fault Placed)). r >>= f) h

pub no_pattern : (n : ℕ) (ts : List Placed) → n ≡ 0 → pattern_at n ts ≡ fault_at ts
unfolding pattern_at
no_pattern zero ts e = refl
no_pattern (suc n) ts e = absurd (omega (arith, e))

abbrev pub one_pattern_at : ℕ → Read Pattern
one_pattern_at n ts = sign_at OpenBrace ts >>= λ a. content_at (pattern_at n) a.1 >>= λ p. sign_at CloseBrace p.1 >>= λ b. Ok (p.0, b.1)

pub one_pattern : (n : ℕ) (ts : List Placed) → ¬ (n ≡ 0) → pattern_at n ts ≡ one_pattern_at (n - 1) ts
unfolding pattern_at
one_pattern zero ts h = absurd (h refl)
one_pattern (suc n) ts h = rw (sub-one) refl

pub no_condition : (n : ℕ) (ts : List Placed) → n ≡ 0 → proper_at n ts ≡ fault_at ts
unfolding proper_at
no_condition zero ts e = refl
no_condition (suc n) ts e = absurd (omega (arith, e))

abbrev pub one_condition_at : ℕ → Read Condition
one_condition_at n ts = elim (starts (is_word Bound) ts) [
  | true ↦ bound_at ts
  | false ↦ elim (starts (is_word SameTerm) ts) [
    | true ↦ same_term_at ts
    | false ↦ grouped_at (true_or_at (proper_at n)) ts
  ]
]

pub one_condition : (n : ℕ) (ts : List Placed) → ¬ (n ≡ 0) → proper_at n ts ≡ one_condition_at (n - 1) ts
unfolding proper_at
one_condition zero ts h = absurd (h refl)
one_condition (suc n) ts h = rw (sub-one) refl

abbrev condition_by : ℕ → List Placed → Bool → Bool → Answer Placed Condition
condition_by n ts b s = elim b [ true ↦ bound_at ts | false ↦ elim s [ true ↦ same_term_at ts | false ↦ grouped_at (true_or_at (proper_at n)) ts ] ]

pub bound_is : (n : ℕ) (ts : List Placed) → ¬ (n ≡ 0) → starts (is_word Bound) ts ≡ true → proper_at n ts ≡ bound_at ts
bound_is n ts h b = one_condition n ts h ∙ ap (λ x. condition_by (n - 1) ts x (starts (is_word SameTerm) ts)) b

pub same_term_is : (n : ℕ) (ts : List Placed) → ¬ (n ≡ 0) → starts (is_word Bound) ts ≡ false → starts (is_word SameTerm) ts ≡ true → proper_at n ts ≡ same_term_at ts
same_term_is n ts h b s = one_condition n ts h ∙ ap (λ x. condition_by (n - 1) ts x (starts (is_word SameTerm) ts)) b ∙ ap (condition_by (n - 1) ts false) s

pub grouped_is : (n : ℕ) (ts : List Placed) → ¬ (n ≡ 0) → starts (is_word Bound) ts ≡ false → starts (is_word SameTerm) ts ≡ false → proper_at n ts ≡ grouped_at (true_or_at (proper_at (n - 1))) ts
grouped_is n ts h b s = one_condition n ts h ∙ ap (λ x. condition_by (n - 1) ts x (starts (is_word SameTerm) ts)) b ∙ ap (condition_by (n - 1) ts false) s

pub pattern_is : (n : ℕ) (ts rest : List Placed) → ¬ (n ≡ 0) → sign_at OpenBrace ts ≡ Ok (tt, rest) → pattern_at n ts ≡ (content_at (pattern_at (n - 1)) rest >>= closed_at CloseBrace)
pattern_is n ts rest h e = one_pattern n ts h ∙ ap (λ (a : Answer Placed Mark). a >>= λ x. content_at (pattern_at (n - 1)) x.1 >>= closed_at CloseBrace) e

pub pattern_fails : (n : ℕ) (ts : List Placed) (e : ReadError Placed) → ¬ (n ≡ 0) → Fails e (sign_at OpenBrace ts) → Fails e (pattern_at n ts)
pattern_fails n ts e h f =
    subst (λ (a : Answer Placed Pattern). Fails e a) (sym (one_pattern n ts h)) (fails_first e (sign_at OpenBrace ts) (λ x. content_at (pattern_at (n - 1)) x.1 >>= closed_at CloseBrace) f)

-- what is given is given of the same answer
pub gives_as : {V : Type 0} (r : Found V) (a b : Answer Placed V) → b ≡ a → Gives (λ x. (x.0, x.1.now)) r a → Gives (λ x. (x.0, x.1.now)) r b
gives_as {V} r a b e h = subst (λ (x : Answer Placed V). Gives (λ y. (y.0, y.1.now)) r x) (sym e) h
