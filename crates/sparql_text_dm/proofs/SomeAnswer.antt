-- Each text has a right answer, besides want of memory.
use Rattle.std.proofs.Common.{◌≡◌, ◌+◌, ℕ, List, [], ◌∷◌, length, Option, Some, None, Result, Ok, Err, Bool, true, false, refl}
use Rattle.std.specs.Prelude.{◌≢◌, ◌&&◌, nat_le, take}
use Rattle.grammar_dm.specs.Reading.{all_of}
use Rattle.grammar_dm.specs.Verdict.{Fault, Judges}
use Rattle.grammar_dm.proofs.Laws.{judges, no}
use Rattle.sparql_tokens_dm.specs.declared.token.Placed.{Placed}
use Rattle.sparql_tokens_dm.proofs.SomeTokens.{tokens_some}
use Rattle.sparql_text_dm.specs.declared.answer.End.{End}
use Rattle.sparql_text_dm.specs.declared.answer.End.TheVariants as end
use Rattle.sparql_text_dm.specs.declared.error.SparqlError.{SparqlError}
use Rattle.sparql_text_dm.specs.declared.error.SparqlError.TheVariants.{Memory}
use Rattle.sparql_text_dm.specs.declared.parsed.Parsed.{Parsed}
use Rattle.sparql_text_dm.specs.Answer.{HasSomeAnswer}
use Rattle.sparql_text_dm.specs.Depth.{IsCut, opens, past}
use Rattle.sparql_text_dm.specs.Grammar.{Query, query}
use Rattle.sparql_text_dm.specs.Reading.{query_at}
use Rattle.sparql_text_dm.specs.Telling.{IsTold, end_of, fault_told, refusal, seen, whole_told}
use Rattle.sparql_text_dm.proofs.Depths.{Passed, passed_all, passed_begins, passed_cut, passed_on}
use Rattle.sparql_text_dm.proofs.PatternReaders.{query_read}
use Rattle.sparql_text_dm.proofs.Telling.{fault_is_told, is_answer, whole_is_told}

-- ---- the tokens before the first opening that is too deep

record Cut (tokens : List Placed) : Type 0 where
  pub kept : List Placed
  pub deep : Option ℕ
  pub is : IsCut tokens kept deep

cut_from : (tokens : List Placed) (kept count : ℕ) (rest : List Placed) → Passed tokens kept count rest → Cut tokens
cut_from tokens kept count [] p = record { kept = tokens; deep = None; is = passed_all tokens kept count [] p refl }
cut_from tokens kept count (t ∷ rest) p =
    by_depth (nat_le 2048 count && opens t) refl
    (λ e. cut_from tokens (kept + 1) (past t count) rest (passed_on tokens kept (kept + 1) count (past t count) (t ∷ rest) rest t p refl e refl refl))
  where
    by_depth : (deep : Bool) → (nat_le 2048 count && opens t) ≡ deep → ((nat_le 2048 count && opens t) ≡ false → Cut tokens) → Cut tokens
    by_depth true e further = record { kept = take kept tokens; deep = Some t.place; is = passed_cut tokens kept count (t ∷ rest) rest (take kept tokens) t p refl e refl }
    by_depth false e further = further e

cut_of : (tokens : List Placed) → Cut tokens
cut_of tokens = cut_from tokens 0 0 tokens (passed_begins tokens)

-- ---- what they are answered

abbrev Answer : Type 0
Answer = Result Parsed SparqlError

-- the answer isn't want of memory
abbrev IsSaid : Answer → Type 0
IsSaid answer = answer ≢ Err Memory

refusal_said : (e : End) → IsSaid (Err (refusal e))
refusal_said (end.TooNested place) h = absurd cc
refusal_said (end.NoToken place) h = absurd cc
refusal_said (end.Nothing place) h = absurd cc

fault_said : (rest : List Placed) (e : End) → IsSaid (Err (fault_told rest e))
fault_said [] e h = refusal_said e h
fault_said (t ∷ rest) e h = absurd cc

whole_said : (x : Parsed) (e : End) → IsSaid (whole_told x e)
whole_said x (end.TooNested place) h = absurd cc
whole_said x (end.NoToken place) h = absurd cc
whole_said x (end.Nothing place) h = absurd cc

record Told (kept : List Placed) (e : End) : Type 0 where
  pub answer : Answer
  pub said : IsSaid answer
  pub is : IsTold kept e answer

told_by : (kept : List Placed) (e : End) (judged : Result Query (Fault Placed)) → Judges query kept judged → Told kept e
told_by kept e (Ok q) j =
    let x : Parsed = record { header = q.0; pattern = q.1 } in
    record { answer = whole_told x e; said = whole_said x e; is = whole_is_told kept e x j }
told_by kept e (Err fault) j = record { answer = Err (fault_told fault.rest e); said = fault_said fault.rest e; is = fault_is_told kept fault.rest e j.0 }

told_of : (kept : List Placed) (e : End) → Told kept e
told_of kept e = told_by kept e (all_of (query_at kept)) (judges query no kept (query_at kept) (query_read kept))

pub some_answer : (bytes : List ℕ) → HasSomeAnswer bytes
some_answer bytes none =
    tokens_some bytes (λ found stop are.
    let cut = cut_of found in
    let told = told_of cut.kept (end_of cut.deep stop (length bytes)) in
    none told.answer told.said (is_answer bytes found cut.kept stop cut.deep told.answer are cut.is told.is))
