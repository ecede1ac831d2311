-- Each text has a right answer, besides want of memory.
use Rattle.std.proofs.Common.{◌≡◌, ◌+◌, ◌⊎◌, ℕ, List, [], ◌∷◌, length, Option, Some, None, Result, Ok, Err, Bool, true, false, refl, inl, inr}
use Rattle.std.specs.Prelude.{◌≢◌, ◌&&◌, is_some, nat_le, take}
use Rattle.grammar_dm.specs.Reading.{all_of}
use Rattle.grammar_dm.specs.Verdict.{Fault, Judges}
use Rattle.grammar_dm.proofs.Laws.{judges, no}
use Rattle.members_dm.specs.Elements.{Each}
use Rattle.query_tokens_dm.specs.declared.token.Placed.{Placed}
use Rattle.schema_dm.specs.declared.table.Table.{Table}
use Rattle.algebra_dm.specs.Causes.{HasNoCause, IsCause, IsFirst, causes}
use Rattle.algebra_dm.specs.declared.error.QueryError.{QueryError}
use Rattle.algebra_dm.specs.declared.error.QueryError.TheVariants.{BadQuery, TooDeep, NoSuchTable, NoSuchColumn, NameTaken, NotSameColumns, EmptyProject, TooWide, Memory}
use Rattle.algebra_dm.specs.declared.query.Query.{Query}
use Rattle.algebra_dm.specs.Nodes.{IsFirstFault, IsWellFormed, nodes}
use Rattle.query_text_dm.specs.Answer.{IsAnswer, IsSyntaxAnswer}
use Rattle.query_text_dm.specs.Depth.{IsCut, past}
use Rattle.query_text_dm.specs.Grammar.{query}
use Rattle.query_text_dm.specs.Reading.{query_at}
use Rattle.query_text_dm.specs.Telling.{IsTold, end_of, fault_told, refusal, whole_told}
use Rattle.query_text_dm.specs.Words.{open_of}
use Rattle.query_text_dm.proofs.Depths.{Passed, passed_all, passed_begins, passed_cut, passed_on}
use Rattle.query_text_dm.proofs.Named.{read_named}
use Rattle.query_text_dm.proofs.Readers.{query_read}
use Rattle.query_text_dm.proofs.Telling.{fault_is_told, is_syntax_answer, node_answer, text_answer, whole_is_told}
use Rattle.query_lines_dm.proofs.SomeTokens.{tokens_some}

-- ---- the tokens before the first parenthesis that is too deep

record Cut (tokens : List Placed) : Type 0 where
  pub kept : List Placed
  pub deep : Option ℕ
  pub is : IsCut tokens kept deep

cut_from : (tokens : List Placed) (kept count : ℕ) (rest : List Placed) → Passed tokens kept count rest → Cut tokens
cut_from tokens kept count [] p = record { kept = tokens; deep = None; is = passed_all tokens kept count [] p refl }
cut_from tokens kept count (t ∷ rest) p =
    by_depth (nat_le 64 count && is_some (open_of t.token)) refl
    (λ e. cut_from tokens (kept + 1) (past t.token count) rest (passed_on tokens kept (kept + 1) count (past t.token count) (t ∷ rest) rest t p refl e refl refl))
  where
    by_depth : (deep : Bool) → (nat_le 64 count && is_some (open_of t.token)) ≡ deep → ((nat_le 64 count && is_some (open_of t.token)) ≡ false → Cut tokens) → Cut tokens
    by_depth true e further = record { kept = take kept tokens; deep = Some t.place; is = passed_cut tokens kept count (t ∷ rest) rest (take kept tokens) t p refl e refl }
    by_depth false e further = further e

cut_of : (tokens : List Placed) → Cut tokens
cut_of tokens = cut_from tokens 0 0 tokens (passed_begins tokens)

-- ---- what they are answered

abbrev Answer : Type 0
Answer = Result Query QueryError

-- no answer is want of memory
abbrev IsSaid : Answer → Type 0
IsSaid answer = answer ≢ Err Memory

module _ (deep stop : Option ℕ) (len : ℕ) where
  refusal_said : IsSaid (Err (refusal (end_of deep stop len)))
  refusal_said = by_both deep stop
    where
      by_both : (deep stop : Option ℕ) → IsSaid (Err (refusal (end_of deep stop len)))
      by_both (Some place) stop h = absurd cc
      by_both None (Some place) h = absurd cc
      by_both None None h = absurd cc

  fault_said : (rest : List Placed) → IsSaid (Err (fault_told rest (end_of deep stop len)))
  fault_said [] h = refusal_said h
  fault_said (t ∷ rest) h = absurd cc

  whole_said : (q : Query) → IsSaid (whole_told q (end_of deep stop len))
  whole_said q = by_both deep stop
    where
      by_both : (deep stop : Option ℕ) → IsSaid (whole_told q (end_of deep stop len))
      by_both (Some place) stop h = absurd cc
      by_both None (Some place) h = absurd cc
      by_both None None h = absurd cc

  module _ (kept : List Placed) where
    record Told : Type 0 where
      pub answer : Answer
      pub said : IsSaid answer
      pub is : IsTold kept (end_of deep stop len) answer

    told_by : (judged : Result Query (Fault Placed)) → Judges query kept judged → Told
    told_by (Ok q) j = record { answer = whole_told q (end_of deep stop len); said = whole_said q; is = whole_is_told kept (end_of deep stop len) q j }
    told_by (Err fault) j = record { answer = Err (fault_told fault.rest (end_of deep stop len)); said = fault_said fault.rest; is = fault_is_told kept fault.rest (end_of deep stop len) j.0 }

    told_of : Told
    told_of = let read = query_at (length kept) kept in told_by (all_of read) (judges query no kept read (query_read kept))

syntax_some : (bytes : List ℕ) → ¬ ((answer : Answer) → IsSaid answer → ¬ IsSyntaxAnswer bytes answer)
syntax_some bytes none =
    tokens_some bytes (λ found stop are.
    let cut = cut_of found in
    let told = told_of cut.deep stop (length bytes) cut.kept in
    none told.answer told.said (is_syntax_answer bytes found cut.kept stop cut.deep told.answer are cut.is told.is))

-- ---- the first node with a cause

module _ (tables : List Table) where
  first_some : (q : Query) (errors : List QueryError) → ¬ (¬ (Each (λ cause. ¬ IsCause tables q cause) errors ⊎ ((error : QueryError) × IsFirst (IsCause tables q) errors error)))
  first_some q [] none = none (inl tt)
  first_some q (e ∷ errors) none =
      first_some q errors (λ rest.
      let no : ¬ IsCause tables q e = λ h. none (inr (e, inl (refl, h))) in
      elim rest [
        | inl each ↦ none (inl (no, each))
        | inr first ↦ none (inr (first.0, inr (no, first.1)))
      ])

  node_some : (qs : List Query) → ¬ (¬ (Each (HasNoCause tables) qs ⊎ ((error : QueryError) × IsFirstFault tables qs error)))
  node_some [] none = none (inl tt)
  node_some (q ∷ qs) none =
      first_some q causes (λ here.
      elim here [
        | inl each ↦ node_some qs (λ rest. elim rest [
          | inl others ↦ none (inl (each, others))
          | inr first ↦ none (inr (first.0, inr (each, first.1)))
        ])
        | inr first ↦ none (inr (first.0, inl first.1))
      ])

  memory_no_cause : (q : Query) (errors : List QueryError) → ¬ IsFirst (IsCause tables q) errors Memory
  memory_no_cause q [] h = h
  memory_no_cause q (e ∷ errors) (inl h) = no_cause e h.0 h.1
    where
      no_cause : (e : QueryError) → e ≡ Memory → ¬ IsCause tables q e
      no_cause Memory is h = h
      no_cause (BadQuery place) is h = h
      no_cause (TooDeep place) is h = h
      no_cause NoSuchTable is h = absurd cc
      no_cause NoSuchColumn is h = absurd cc
      no_cause NameTaken is h = absurd cc
      no_cause NotSameColumns is h = absurd cc
      no_cause EmptyProject is h = absurd cc
      no_cause TooWide is h = absurd cc
  memory_no_cause q (e ∷ errors) (inr h) = memory_no_cause q errors h.1

  memory_no_fault : (qs : List Query) → ¬ IsFirstFault tables qs Memory
  memory_no_fault [] h = h
  memory_no_fault (q ∷ qs) (inl h) = memory_no_cause q causes h
  memory_no_fault (q ∷ qs) (inr h) = memory_no_fault qs h.1

  node_said : (q : Query) (error : QueryError) → IsFirstFault tables (nodes q) error → IsSaid (Err error)
  node_said q Memory h e = memory_no_fault (nodes q) h
  node_said q (BadQuery place) h e = absurd cc
  node_said q (TooDeep place) h e = absurd cc
  node_said q NoSuchTable h e = absurd cc
  node_said q NoSuchColumn h e = absurd cc
  node_said q NameTaken h e = absurd cc
  node_said q NotSameColumns h e = absurd cc
  node_said q EmptyProject h e = absurd cc
  node_said q TooWide h e = absurd cc

  -- some answer is right
  pub query_some : (bytes : List ℕ) → ¬ ((answer : Result Query QueryError) → answer ≢ Err Memory → ¬ IsAnswer tables bytes answer)
  query_some bytes none = syntax_some bytes by_syntax
    where
      no_memory : (q : Query) → IsSaid (Ok q)
      no_memory q e = absurd cc

      by_syntax : (answer : Answer) → IsSaid answer → ¬ IsSyntaxAnswer bytes answer
      by_syntax (Ok q) said text =
          node_some (nodes q) (λ looked. elim looked [
            | inl faultless ↦ none (Ok q) (no_memory q) (text, faultless)
            | inr first ↦ none (Err first.0) (node_said q first.0 first.1) (node_answer tables bytes q first.0 text (inr first.1))
          ])
      by_syntax (Err error) said text = none (Err error) said (text_answer tables bytes error text)

  -- a query that was read is well-formed
  pub read_formed : (bytes : List ℕ) (q : Query) → IsAnswer tables bytes (Ok q) → IsWellFormed tables q
  read_formed bytes q h = record { faultless = h.1; names = read_named h.0.0 q h.0.3 }
