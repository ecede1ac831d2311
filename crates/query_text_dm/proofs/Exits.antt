-- Where reading a query stops.
use Rattle.std.proofs.Common.{◌≡◌, ◌-◌, ℕ, zero, suc, List, Result, ap, arith, refl, sub-one}
use Rattle.grammar_dm.specs.declared.read_error.ReadError.{ReadError}
use Rattle.grammar_dm.specs.declared.read_error.ReadError.TheVariants as errors
use Rattle.grammar_dm.specs.Exits.{Fails}
use Rattle.grammar_dm.specs.Reading.{◌>>=◌, fault_at}
use Rattle.grammar_dm.specs.Verdict.{Fault}
use Rattle.query_tokens_dm.specs.declared.token.Placed.{Placed}
use Rattle.query_text_dm.specs.Reading.{inside_at, open_at, query_at}

pub fails_first : {A B : Type 0} (e : ReadError Placed) (read : Result A (Fault Placed)) (f : A → Result B (Fault Placed)) → Fails e read → Fails e (read >>= f)
fails_first errors.Memory read f h = tt
fails_first {A} {B} (errors.At rest marked) read f h = ap (λ (r : Result A (Fault Placed)). r >>= f) h

pub no_level : (n : ℕ) (ts : List Placed) → n ≡ 0 → query_at n ts ≡ fault_at ts
unfolding query_at
no_level zero ts e = refl
no_level (suc n) ts e = absurd (omega (arith, e))

pub one_level : (n : ℕ) (ts : List Placed) → ¬ (n ≡ 0) → query_at n ts ≡ (open_at ts >>= λ o. inside_at (query_at (n - 1)) o.1)
unfolding query_at
one_level zero ts h = absurd (h refl)
one_level (suc n) ts h = rw (sub-one) refl
