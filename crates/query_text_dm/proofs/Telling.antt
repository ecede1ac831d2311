-- What is told of the tokens before an end is the answer.
use Rattle.std.proofs.Common.{◌≡◌, ◌⊎◌, ℕ, List, [], ◌∷◌, length, Option, Some, None, Result, Ok, Err, inl, inr, refl, subst, sym}
use Rattle.grammar_dm.specs.Part.{Begins, Spells}
use Rattle.grammar_dm.specs.Verdict.{IsFirstFault, Judges}
use Rattle.grammar_dm.specs.Verdict.Suffix.{all_left}
use Rattle.grammar_dm.proofs.Fronts.{whole_begins}
use Rattle.query_tokens_dm.specs.declared.token.Placed.{Placed}
use Rattle.query_tokens_dm.specs.Tokens.{AreTokens}
use Rattle.schema_dm.specs.declared.table.Table.{Table}
use Rattle.algebra_dm.specs.declared.error.QueryError.{QueryError}
use Rattle.algebra_dm.specs.declared.error.QueryError.TheVariants.{BadQuery, TooDeep, NoSuchTable, NoSuchColumn, NameTaken, NotSameColumns, EmptyProject, TooWide, Memory}
use Rattle.algebra_dm.specs.declared.query.Query.{Query}
use Rattle.algebra_dm.specs.Nodes.{IsFirstFault as IsNodeFault, nodes}
use Rattle.query_text_dm.specs.declared.answer.End.{End}
use Rattle.query_text_dm.specs.declared.answer.End.TheVariants as end
use Rattle.query_text_dm.specs.Answer.{AreKept, IsAnswer, IsSyntaxAnswer, IsTextOfQuery, IsTokenFault}
use Rattle.query_text_dm.specs.Depth.{IsCut}
use Rattle.query_text_dm.specs.Grammar.{query}
use Rattle.query_text_dm.specs.Telling.{IsAtEnd, IsTold, end_of, fault_told, refusal, whole_told}

-- ---- what is told of a fault, and of a whole query

all_begin : (kept : List Placed) → IsFirstFault query kept [] → Begins query kept []
all_begin kept fault = fault.begins [] fault.is_rest all_left

end_is_told : (kept : List Placed) (e : End) → IsFirstFault query kept [] → IsTold kept e (Err (refusal e))
end_is_told kept (end.TooDeep place) fault = inr (all_begin kept fault, refl)
end_is_told kept (end.NoToken place) fault = inr (all_begin kept fault, refl)
end_is_told kept (end.Nothing place) fault = inr (fault, refl)

pub fault_is_told : (kept rest : List Placed) (e : End) → IsFirstFault query kept rest → IsTold kept e (Err (fault_told rest e))
fault_is_told kept [] e fault = end_is_told kept e fault
fault_is_told kept (t ∷ rest) e fault = inl (t.place, refl, (t, rest, fault, refl))

pub whole_is_told : (kept : List Placed) (e : End) (q : Query) → Judges query kept (Ok q) → IsTold kept e (whole_told q e)
whole_is_told kept (end.TooDeep place) q judged = inr (whole_begins query kept [] q judged.0, refl)
whole_is_told kept (end.NoToken place) q judged = inr (whole_begins query kept [] q judged.0, refl)
whole_is_told kept (end.Nothing place) q judged = ((place, refl), judged)

-- ---- which is the answer to the text

module _ (bytes : List ℕ) (found kept : List Placed) where
  kept_of : (stop deep : Option ℕ) → AreTokens bytes found stop → IsCut found kept deep → AreKept bytes stop kept deep
  kept_of stop deep are cut = record { tokens = found; are = are; cut = cut }

  whole_text : (stop deep : Option ℕ) (q : Query) → AreTokens bytes found stop → IsCut found kept deep → IsTold kept (end_of deep stop (length bytes)) (Ok q) → IsTextOfQuery bytes q
  whole_text None None q are cut told = (found, are, (refl, cut.1), subst (λ (ts : List Placed). Spells query ts [] q) cut.0 told.1.0)
  whole_text (Some place) None q are cut told = absurd (let e = told.0.1 in cc e)
  whole_text stop (Some place) q are cut told = absurd (let e = told.0.1 in cc e)

  end_fault : (stop deep : Option ℕ) (error : QueryError) → AreTokens bytes found stop → IsCut found kept deep → IsAtEnd kept (end_of deep stop (length bytes)) error → IsSyntaxAnswer bytes (Err error)
  end_fault stop (Some place) error are cut h = subst (λ (x : QueryError). IsSyntaxAnswer bytes (Err x)) (sym h.1) (stop, kept, kept_of stop (Some place) are cut, h.0)
  end_fault (Some place) None error are cut h = subst (λ (x : QueryError). IsSyntaxAnswer bytes (Err x)) (sym h.1) (Some place, kept, None, kept_of (Some place) None are cut, inr (refl, (h.0, refl)))
  end_fault None None error are cut h = subst (λ (x : QueryError). IsSyntaxAnswer bytes (Err x)) (sym h.1) (None, kept, None, kept_of None None are cut, inr (refl, (h.0, refl)))

  token_fault : (stop deep : Option ℕ) (error : QueryError) (place : ℕ) → AreTokens bytes found stop → IsCut found kept deep → error ≡ BadQuery place → IsTokenFault kept place → IsSyntaxAnswer bytes (Err error)
  token_fault stop deep error place are cut is h = subst (λ (x : QueryError). IsSyntaxAnswer bytes (Err x)) (sym is) (stop, kept, deep, kept_of stop deep are cut, inl h)

  told_fault : (stop deep : Option ℕ) (error : QueryError) → AreTokens bytes found stop → IsCut found kept deep
      → ((place : ℕ) × (error ≡ BadQuery place) × IsTokenFault kept place) ⊎ IsAtEnd kept (end_of deep stop (length bytes)) error → IsSyntaxAnswer bytes (Err error)
  told_fault stop deep error are cut told = elim told [
    | inl h ↦ token_fault stop deep error h.0 are cut h.1 h.2
    | inr h ↦ end_fault stop deep error are cut h
  ]

  pub is_syntax_answer : (stop deep : Option ℕ) (result : Result Query QueryError) → AreTokens bytes found stop → IsCut found kept deep → IsTold kept (end_of deep stop (length bytes)) result → IsSyntaxAnswer bytes result
  is_syntax_answer stop deep (Ok q) are cut told = whole_text stop deep q are cut told
  is_syntax_answer stop deep (Err Memory) are cut told = tt
  is_syntax_answer stop deep (Err (BadQuery place)) are cut told = told_fault stop deep (BadQuery place) are cut told
  is_syntax_answer stop deep (Err (TooDeep place)) are cut told = told_fault stop deep (TooDeep place) are cut told
  is_syntax_answer stop deep (Err NoSuchTable) are cut told = told_fault stop deep NoSuchTable are cut told
  is_syntax_answer stop deep (Err NoSuchColumn) are cut told = told_fault stop deep NoSuchColumn are cut told
  is_syntax_answer stop deep (Err NameTaken) are cut told = told_fault stop deep NameTaken are cut told
  is_syntax_answer stop deep (Err NotSameColumns) are cut told = told_fault stop deep NotSameColumns are cut told
  is_syntax_answer stop deep (Err EmptyProject) are cut told = told_fault stop deep EmptyProject are cut told
  is_syntax_answer stop deep (Err TooWide) are cut told = told_fault stop deep TooWide are cut told

-- ---- and to the text and the schema

pub text_answer : (tables : List Table) (bytes : List ℕ) (error : QueryError) → IsSyntaxAnswer bytes (Err error) → IsAnswer tables bytes (Err error)
text_answer tables bytes (BadQuery place) h = h
text_answer tables bytes (TooDeep place) h = h
text_answer tables bytes Memory h = tt
text_answer tables bytes NoSuchTable h = absurd h
text_answer tables bytes NoSuchColumn h = absurd h
text_answer tables bytes NameTaken h = absurd h
text_answer tables bytes NotSameColumns h = absurd h
text_answer tables bytes EmptyProject h = absurd h
text_answer tables bytes TooWide h = absurd h

-- no node has a fault of a text
no_bad_node : (tables : List Table) (qs : List Query) (place : ℕ) → ¬ IsNodeFault tables qs (BadQuery place)
no_bad_node tables [] place h = h
no_bad_node tables (q ∷ qs) place (inr h) = no_bad_node tables qs place h.1
no_bad_node tables (q ∷ qs) place (inl (inl h)) = absurd (let e = h.0 in cc e)
no_bad_node tables (q ∷ qs) place (inl (inr (_, inl h))) = absurd (let e = h.0 in cc e)
no_bad_node tables (q ∷ qs) place (inl (inr (_, inr (_, inl h)))) = absurd (let e = h.0 in cc e)
no_bad_node tables (q ∷ qs) place (inl (inr (_, inr (_, inr (_, inl h))))) = absurd (let e = h.0 in cc e)
no_bad_node tables (q ∷ qs) place (inl (inr (_, inr (_, inr (_, inr (_, inl h)))))) = absurd (let e = h.0 in cc e)
no_bad_node tables (q ∷ qs) place (inl (inr (_, inr (_, inr (_, inr (_, inr (_, inl h))))))) = absurd (let e = h.0 in cc e)
no_bad_node tables (q ∷ qs) place (inl (inr (_, inr (_, inr (_, inr (_, inr (_, inr h))))))) = absurd h.1

no_deep_node : (tables : List Table) (qs : List Query) (place : ℕ) → ¬ IsNodeFault tables qs (TooDeep place)
no_deep_node tables [] place h = h
no_deep_node tables (q ∷ qs) place (inr h) = no_deep_node tables qs place h.1
no_deep_node tables (q ∷ qs) place (inl (inl h)) = absurd (let e = h.0 in cc e)
no_deep_node tables (q ∷ qs) place (inl (inr (_, inl h))) = absurd (let e = h.0 in cc e)
no_deep_node tables (q ∷ qs) place (inl (inr (_, inr (_, inl h)))) = absurd (let e = h.0 in cc e)
no_deep_node tables (q ∷ qs) place (inl (inr (_, inr (_, inr (_, inl h))))) = absurd (let e = h.0 in cc e)
no_deep_node tables (q ∷ qs) place (inl (inr (_, inr (_, inr (_, inr (_, inl h)))))) = absurd (let e = h.0 in cc e)
no_deep_node tables (q ∷ qs) place (inl (inr (_, inr (_, inr (_, inr (_, inr (_, inl h))))))) = absurd (let e = h.0 in cc e)
no_deep_node tables (q ∷ qs) place (inl (inr (_, inr (_, inr (_, inr (_, inr (_, inr h))))))) = absurd h.1

pub node_answer : (tables : List Table) (bytes : List ℕ) (q : Query) (error : QueryError) → IsTextOfQuery bytes q → (error ≡ Memory) ⊎ IsNodeFault tables (nodes q) error → IsAnswer tables bytes (Err error)
node_answer tables bytes q error text (inl is) = subst (λ (x : QueryError). IsAnswer tables bytes (Err x)) (sym is) tt
node_answer tables bytes q (BadQuery place) text (inr h) = absurd (no_bad_node tables (nodes q) place h)
node_answer tables bytes q (TooDeep place) text (inr h) = absurd (no_deep_node tables (nodes q) place h)
node_answer tables bytes q Memory text (inr h) = tt
node_answer tables bytes q NoSuchTable text (inr h) = (q, text, h)
node_answer tables bytes q NoSuchColumn text (inr h) = (q, text, h)
node_answer tables bytes q NameTaken text (inr h) = (q, text, h)
node_answer tables bytes q NotSameColumns text (inr h) = (q, text, h)
node_answer tables bytes q EmptyProject text (inr h) = (q, text, h)
node_answer tables bytes q TooWide text (inr h) = (q, text, h)
