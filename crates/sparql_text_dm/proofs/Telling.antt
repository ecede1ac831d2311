-- What is told of the tokens before an end is the answer.
use Rattle.std.proofs.Common.{◌≡◌, ◌⊎◌, ℕ, List, [], ◌∷◌, length, Option, Some, None, Result, Ok, Err, inl, inr, refl, subst, sym}
use Rattle.grammar_dm.specs.Part.{Begins, Spells}
use Rattle.grammar_dm.specs.Verdict.{IsFirstFault, Judges}
use Rattle.grammar_dm.specs.Verdict.Suffix.{all_left}
use Rattle.grammar_dm.proofs.Fronts.{whole_begins}
use Rattle.sparql_tokens_dm.specs.declared.token.Placed.{Placed}
use Rattle.sparql_tokens_dm.specs.Tokens.{AreTokens}
use Rattle.sparql_text_dm.specs.declared.error.SparqlError.{SparqlError}
use Rattle.sparql_text_dm.specs.declared.error.SparqlError.TheVariants.{BadPattern, TooNested, Memory}
use Rattle.sparql_text_dm.specs.declared.parsed.Parsed.{Parsed}
use Rattle.sparql_text_dm.specs.declared.answer.End.{End}
use Rattle.sparql_text_dm.specs.declared.answer.End.TheVariants as end
use Rattle.sparql_text_dm.specs.Answer.{AreKept, IsAnswer, IsTextOf, IsTokenFault}
use Rattle.sparql_text_dm.specs.Depth.{IsCut}
use Rattle.sparql_text_dm.specs.Grammar.{query}
use Rattle.sparql_text_dm.specs.Telling.{IsAtEnd, IsTold, end_of, fault_told, refusal, seen, whole_told}

-- ---- what is told of a fault, and of a whole query

all_begin : (kept : List Placed) → IsFirstFault query kept [] → Begins query kept []
all_begin kept fault = fault.begins [] fault.is_rest all_left

end_is_told : (kept : List Placed) (e : End) → IsFirstFault query kept [] → IsTold kept e (Err (refusal e))
end_is_told kept (end.TooNested place) fault = inr (all_begin kept fault, refl)
end_is_told kept (end.NoToken place) fault = inr (all_begin kept fault, refl)
end_is_told kept (end.Nothing place) fault = inr (fault, refl)

pub fault_is_told : (kept rest : List Placed) (e : End) → IsFirstFault query kept rest → IsTold kept e (Err (fault_told rest e))
fault_is_told kept [] e fault = end_is_told kept e fault
fault_is_told kept (t ∷ rest) e fault = inl (t.place, refl, (t, rest, fault, refl))

pub whole_is_told : (kept : List Placed) (e : End) (q : Parsed) → Judges query kept (Ok (seen q)) → IsTold kept e (whole_told q e)
whole_is_told kept (end.TooNested place) q judged = inr (whole_begins query kept [] (seen q) judged.0, refl)
whole_is_told kept (end.NoToken place) q judged = inr (whole_begins query kept [] (seen q) judged.0, refl)
whole_is_told kept (end.Nothing place) q judged = ((place, refl), judged)

-- ---- which is the answer to the text

module _ (bytes : List ℕ) (found kept : List Placed) where
  kept_of : (stop deep : Option ℕ) → AreTokens bytes found stop → IsCut found kept deep → AreKept bytes stop kept deep
  kept_of stop deep are cut = record { tokens = found; are = are; cut = cut }

  whole_text : (stop deep : Option ℕ) (q : Parsed) → AreTokens bytes found stop → IsCut found kept deep → IsTold kept (end_of deep stop (length bytes)) (Ok q) → IsTextOf bytes q
  whole_text None None q are cut told = (found, are, (refl, cut.1), subst (λ (ts : List Placed). Spells query ts [] (seen q)) cut.0 told.1.0)
  whole_text (Some place) None q are cut told = absurd (let e = told.0.1 in cc e)
  whole_text stop (Some place) q are cut told = absurd (let e = told.0.1 in cc e)

  end_fault : (stop deep : Option ℕ) (error : SparqlError) → AreTokens bytes found stop → IsCut found kept deep → IsAtEnd kept (end_of deep stop (length bytes)) error → IsAnswer bytes (Err error)
  end_fault stop (Some place) error are cut h = subst (λ (x : SparqlError). IsAnswer bytes (Err x)) (sym h.1) (stop, kept, kept_of stop (Some place) are cut, h.0)
  end_fault (Some place) None error are cut h = subst (λ (x : SparqlError). IsAnswer bytes (Err x)) (sym h.1) (Some place, kept, None, kept_of (Some place) None are cut, inr (refl, (h.0, refl)))
  end_fault None None error are cut h = subst (λ (x : SparqlError). IsAnswer bytes (Err x)) (sym h.1) (None, kept, None, kept_of None None are cut, inr (refl, (h.0, refl)))

  token_fault : (stop deep : Option ℕ) (error : SparqlError) (place : ℕ) → AreTokens bytes found stop → IsCut found kept deep → error ≡ BadPattern place → IsTokenFault kept place → IsAnswer bytes (Err error)
  token_fault stop deep error place are cut is h = subst (λ (x : SparqlError). IsAnswer bytes (Err x)) (sym is) (stop, kept, deep, kept_of stop deep are cut, inl h)

  told_fault : (stop deep : Option ℕ) (error : SparqlError) → AreTokens bytes found stop → IsCut found kept deep
      → ((place : ℕ) × (error ≡ BadPattern place) × IsTokenFault kept place) ⊎ IsAtEnd kept (end_of deep stop (length bytes)) error → IsAnswer bytes (Err error)
  told_fault stop deep error are cut told = elim told [
    | inl h ↦ token_fault stop deep error h.0 are cut h.1 h.2
    | inr h ↦ end_fault stop deep error are cut h
  ]

  pub is_answer : (stop deep : Option ℕ) (result : Result Parsed SparqlError) → AreTokens bytes found stop → IsCut found kept deep → IsTold kept (end_of deep stop (length bytes)) result → IsAnswer bytes result
  is_answer stop deep (Ok q) are cut told = whole_text stop deep q are cut told
  is_answer stop deep (Err Memory) are cut told = tt
  is_answer stop deep (Err (BadPattern place)) are cut told = told_fault stop deep (BadPattern place) are cut told
  is_answer stop deep (Err (TooNested place)) are cut told = told_fault stop deep (TooNested place) are cut told
