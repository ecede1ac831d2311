-- What is made of a part that was read, where reading goes on behind it.
use Rattle.std.specs.Prelude.{List, Result, Ok}
use Rattle.std.specs.Borrow.{Bor}
use Rattle.grammar_dm.specs.declared.read_error.ReadError.{ReadError}
use Rattle.grammar_dm.specs.Exits.{Gives}
use Rattle.grammar_dm.specs.Reading.{◌>>=◌, Answer}
use Rattle.sparql_tokens_dm.specs.declared.token.Placed.{Placed}
use Rattle.sparql_tokens_dm.specs.declared.token.Sign.{Sign}
use Rattle.pattern_dm.specs.declared.pattern.Pattern.{Pattern}
use Rattle.pattern_dm.specs.declared.pattern.Pattern.TheVariants as patterns
use Rattle.sparql_text_dm.specs.Reading.{Read, sign_at}

-- a value and the tokens behind it
abbrev pub Found : Type 0 → Type 0
Found V = Result (V × Bor (List Placed)) (ReadError Placed)

-- Whatever reading the part gives, the result is what reading goes on to.
abbrev pub GoesOn : {V W : Type 0} → Found V → (V × List Placed → Answer Placed W) → Found W → Type 0
GoesOn {V} part next result = (read : Answer Placed V) → Gives (λ x. (x.0, x.1.now)) part read → Gives (λ x. (x.0, x.1.now)) result (read >>= next)

-- what was read, where the mark stands behind it
abbrev pub closed_at : {V : Type 0} → Sign → V × List Placed → Answer Placed V
closed_at s x = sign_at s x.1 >>= λ b. Ok (x.0, b.1)

-- the empty pattern takes no token
abbrev pub empty_at : Read Pattern
empty_at ts = Ok (patterns.Empty, ts)
