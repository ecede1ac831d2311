-- A text has one answer.
use Rattle.std.proofs.Common.{◌≡◌, ◌≢◌, ◌∙◌, ◌⊎◌, ℕ, List, [], ◌∷◌, Option, Some, None, Result, Ok, Err, ap, inl, inr, refl, subst, sym}
use Rattle.grammar_dm.specs.Part.{Begins, Spells}
use Rattle.grammar_dm.specs.Exits.{Gives}
use Rattle.grammar_dm.specs.Reading.{all_of}
use Rattle.grammar_dm.specs.declared.read_error.ReadError.{ReadError}
use Rattle.grammar_dm.specs.declared.read_error.ReadError.TheVariants as errors
use Rattle.grammar_dm.specs.Verdict.{Fault, Judges, Suffix}
use Rattle.grammar_dm.specs.Verdict.Suffix.{all_left, less_left}
use Rattle.grammar_dm.proofs.Fronts.{less_begins, one_fault, suffix_trans, whole_begins}
use Rattle.grammar_dm.proofs.Laws.{judges, no}
use Rattle.sparql_tokens_dm.specs.declared.token.Placed.{Placed}
use Rattle.sparql_tokens_dm.proofs.Unique.{only_tokens}
use Rattle.sparql_text_dm.specs.declared.error.SparqlError.{SparqlError}
use Rattle.sparql_text_dm.specs.declared.error.SparqlError.TheVariants.{BadPattern, TooNested, Memory}
use Rattle.sparql_text_dm.specs.declared.parsed.Parsed.{Parsed}
use Rattle.sparql_text_dm.specs.Answer.{AreKept, HasOneAnswer, IsAnswer, IsBadPattern, IsEndFault, IsTextOf, IsTokenFault, IsTooNestedAt}
use Rattle.sparql_text_dm.specs.Depth.{IsCut}
use Rattle.sparql_text_dm.specs.Grammar.{Query, query}
use Rattle.sparql_text_dm.specs.Reading.{query_at}
use Rattle.sparql_text_dm.specs.Telling.{IsParsed, seen}
use Rattle.sparql_text_dm.proofs.Depths.{one_cut}
use Rattle.sparql_text_dm.proofs.PatternReaders.{query_read}

-- ---- of tokens

one_judged : (kept : List Placed) (r : Result Query (Fault Placed)) → Judges query kept r → (p q : Query) → Spells query kept [] p → Spells query kept [] q → p ≡ q
one_judged kept (Ok v) j p q h k = j.1 p h ∙ sym (j.1 q k)
one_judged kept (Err fault) j p q h k = absurd (j.1 p h)

one_query : (kept : List Placed) (p q : Query) → Spells query kept [] p → Spells query kept [] q → p ≡ q
one_query kept p q h k = one_judged kept (all_of (query_at kept)) (judges query no kept (query_at kept) (query_read kept)) p q h k

one_less : (t : Placed) (rest : List Placed) → Suffix (t ∷ rest) rest
one_less t rest = less_left all_left

-- what begins a query as a whole has no first fault at a token
no_token_fault : (kept : List Placed) (place : ℕ) → Begins query kept [] → IsTokenFault kept place → ⊥
no_token_fault kept place begun fault =
    let t = fault.0 in
    let rest = fault.1 in
    let at = fault.2.is_rest in
    fault.2.stops (less_begins query kept rest [] begun (suffix_trans at (one_less t rest)) (to_end rest))
  where
    to_end : (ts : List Placed) → Suffix ts []
    to_end [] = all_left
    to_end (u ∷ us) = less_left (to_end us)

two_tokens : (kept : List Placed) (p q : ℕ) → IsTokenFault kept p → IsTokenFault kept q → p ≡ q
two_tokens kept p q h k = h.3 ∙ ap (λ (t : Placed). t.place) (first_same h.0 k.0 h.1 k.1 (one_fault query kept (h.0 ∷ h.1) (k.0 ∷ k.1) h.2 k.2)) ∙ sym k.3
  where
    first_same : (t u : Placed) (ts us : List Placed) → t ∷ ts ≡ u ∷ us → t ≡ u
    first_same t u ts us e = cc

abbrev parsed_of : Query → Parsed
parsed_of x = record { header = x.0; pattern = x.1 }

seen_same : (p q : Parsed) → seen p ≡ seen q → p ≡ q
seen_same p q e = ap (λ (x : Query). parsed_of x) e

-- ---- of what is kept

record SameKept (stop end : Option ℕ) (a b : List Placed) (deep low : Option ℕ) : Type 0 where
  stops : stop ≡ end
  kept : a ≡ b
  deeps : deep ≡ low

module _ (bytes : List ℕ) where
  one_kept : (stop end : Option ℕ) (a b : List Placed) (deep low : Option ℕ) → AreKept bytes stop a deep → AreKept bytes end b low → SameKept stop end a b deep low
  one_kept stop end a b deep low h k =
      let tokens = (only_tokens bytes h.tokens stop h.are).only k.tokens end k.are in
      let cuts = one_cut h.tokens a b deep low h.cut (subst (λ (ts : List Placed). IsCut ts b low) tokens.0 k.cut) in
      record { stops = sym tokens.1; kept = cuts.0; deeps = cuts.1 }

  text_kept : (q : Parsed) (text : IsTextOf bytes q) → AreKept bytes None text.0 None
  text_kept q text = record { tokens = text.0; are = text.1; cut = text.2 }

  one_text : (p q : Parsed) → IsTextOf bytes p → IsTextOf bytes q → p ≡ q
  one_text p q h k =
      let same = one_kept None None h.0 k.0 None None (text_kept p h) (text_kept q k) in
      seen_same p q (one_query h.0 (seen p) (seen q) h.3 (subst (λ (ts : List Placed). Spells query ts [] (seen q)) (sym same.kept) k.3))

  -- the text of a query has no fault
  text_not_bad : (q : Parsed) (place : ℕ) → IsTextOf bytes q → IsBadPattern bytes place → ⊥
  text_not_bad q place text bad = against bad.0 bad.1 bad.2 bad.3 (one_kept None bad.0 text.0 bad.1 None bad.2 (text_kept q text) bad.3) bad.4
    where
      against : (stop : Option ℕ) (kept : List Placed) (deep : Option ℕ) → AreKept bytes stop kept deep → SameKept None stop text.0 kept None deep → IsTokenFault kept place ⊎ ((deep ≡ None) × IsEndFault bytes kept stop place) → ⊥
      against stop kept deep are same (inl fault) = no_token_fault kept place (whole_begins query kept [] (seen q) (subst (λ (ts : List Placed). Spells query ts [] (seen q)) same.kept text.3)) fault
      against None kept deep are same (inr h) = h.1.0.stops (seen q) (subst (λ (ts : List Placed). Spells query ts [] (seen q)) same.kept text.3)
      against (Some far) kept deep are same (inr h) = absurd (let e = same.stops in cc e)

  text_not_deep : (q : Parsed) (place : ℕ) → IsTextOf bytes q → IsTooNestedAt bytes place → ⊥
  text_not_deep q place text deep = absurd (let e = (one_kept None deep.0 text.0 deep.1 None (Some place) (text_kept q text) deep.2).deeps in cc e)

  -- ---- of faults

  bad_not_deep : (p q : ℕ) → IsBadPattern bytes p → IsTooNestedAt bytes q → ⊥
  bad_not_deep p q bad deep = against bad.0 bad.1 bad.2 (one_kept bad.0 deep.0 bad.1 deep.1 bad.2 (Some q) bad.3 deep.2) bad.4
    where
      against : (stop : Option ℕ) (kept : List Placed) (low : Option ℕ) → SameKept stop deep.0 kept deep.1 low (Some q) → IsTokenFault kept p ⊎ ((low ≡ None) × IsEndFault bytes kept stop p) → ⊥
      against stop kept low same (inl fault) = no_token_fault kept p (subst (λ (ts : List Placed). Begins query ts []) (sym same.kept) deep.3) fault
      against stop kept low same (inr h) = absurd (let e = sym h.0 ∙ same.deeps in cc e)

  one_deep : (p q : ℕ) → IsTooNestedAt bytes p → IsTooNestedAt bytes q → p ≡ q
  one_deep p q h k = some_same p q (one_kept h.0 k.0 h.1 k.1 (Some p) (Some q) h.2 k.2).deeps
    where
      some_same : (a b : ℕ) → ◌≡◌ {A = Option ℕ} (Some a) (Some b) → a ≡ b
      some_same a b e = cc

  end_begins : (kept : List Placed) (stop : Option ℕ) (place : ℕ) → IsEndFault bytes kept stop place → Begins query kept []
  end_begins kept (Some far) place h = h.0
  end_begins kept None place h = h.0.begins [] h.0.is_rest all_left

  one_end : (kept : List Placed) (stop : Option ℕ) (p q : ℕ) → IsEndFault bytes kept stop p → IsEndFault bytes kept stop q → p ≡ q
  one_end kept (Some far) p q h k = h.1 ∙ sym k.1
  one_end kept None p q h k = h.1 ∙ sym k.1

  one_bad : (p q : ℕ) → IsBadPattern bytes p → IsBadPattern bytes q → p ≡ q
  one_bad p q h k = both h.0 k.0 h.1 k.1 h.2 k.2 (one_kept h.0 k.0 h.1 k.1 h.2 k.2 h.3 k.3) h.4 k.4
    where
      both : (stop end : Option ℕ) (a b : List Placed) (deep low : Option ℕ) → SameKept stop end a b deep low → IsTokenFault a p ⊎ ((deep ≡ None) × IsEndFault bytes a stop p)
          → IsTokenFault b q ⊎ ((low ≡ None) × IsEndFault bytes b end q) → p ≡ q
      both stop end a b deep low same (inl f) (inl g) = two_tokens a p q f (subst (λ (ts : List Placed). IsTokenFault ts q) (sym same.kept) g)
      both stop end a b deep low same (inl f) (inr g) = absurd (no_token_fault a p (subst (λ (ts : List Placed). Begins query ts []) (sym same.kept) (end_begins b end q g.1)) f)
      both stop end a b deep low same (inr f) (inl g) = absurd (no_token_fault b q (subst (λ (ts : List Placed). Begins query ts []) same.kept (end_begins a stop p f.1)) g)
      both stop end a b deep low same (inr f) (inr g) =
          one_end a stop p q f.1 (subst (λ (s : Option ℕ). IsEndFault bytes a s q) (sym same.stops) (subst (λ (ts : List Placed). IsEndFault bytes ts end q) (sym same.kept) g.1))

  -- ---- of answers

  abbrev Told : Result Parsed SparqlError → Type 0
  Told r =
      ((place : ℕ) × (r ≡ Err (BadPattern place)) × IsBadPattern bytes place)
      ⊎ (((place : ℕ) × (r ≡ Err (TooNested place)) × IsTooNestedAt bytes place) ⊎ ((x : Parsed) × (r ≡ Ok x) × IsTextOf bytes x))

  told : (r : Result Parsed SparqlError) → r ≢ Err Memory → IsAnswer bytes r → Told r
  told (Ok x) n h = inr (inr (x, refl, h))
  told (Err (BadPattern place)) n h = inl (place, refl, h)
  told (Err (TooNested place)) n h = inr (inl (place, refl, h))
  told (Err Memory) n h = absurd (n refl)

  abbrev an_error : SparqlError → Result Parsed SparqlError
  an_error e = Err e

  abbrev a_text : Parsed → Result Parsed SparqlError
  a_text x = Ok x

  one_told : (a b : Result Parsed SparqlError) → Told a → Told b → a ≡ b
  one_told a b (inl h) (inl k) = h.1 ∙ ap (λ (n : ℕ). an_error (BadPattern n)) (one_bad h.0 k.0 h.2 k.2) ∙ sym k.1
  one_told a b (inl h) (inr (inl k)) = absurd (bad_not_deep h.0 k.0 h.2 k.2)
  one_told a b (inl h) (inr (inr k)) = absurd (text_not_bad k.0 h.0 k.2 h.2)
  one_told a b (inr (inl h)) (inl k) = absurd (bad_not_deep k.0 h.0 k.2 h.2)
  one_told a b (inr (inl h)) (inr (inl k)) = h.1 ∙ ap (λ (n : ℕ). an_error (TooNested n)) (one_deep h.0 k.0 h.2 k.2) ∙ sym k.1
  one_told a b (inr (inl h)) (inr (inr k)) = absurd (text_not_deep k.0 h.0 k.2 h.2)
  one_told a b (inr (inr h)) (inl k) = absurd (text_not_bad h.0 k.0 h.2 k.2)
  one_told a b (inr (inr h)) (inr (inl k)) = absurd (text_not_deep h.0 k.0 h.2 k.2)
  one_told a b (inr (inr h)) (inr (inr k)) = h.1 ∙ ap (λ (x : Parsed). a_text x) (one_text h.0 k.0 h.2 k.2) ∙ sym k.1

pub one_answer : (bytes : List ℕ) → HasOneAnswer bytes
one_answer bytes first second n m h k = one_told bytes first second (told bytes first n h) (told bytes second m k)

-- what was read of all tokens is the verdict
pub is_parsed : (ts : List Placed) (result : Result Parsed (ReadError Placed)) → Gives seen result (all_of (query_at ts)) → IsParsed ts result
is_parsed ts (Ok x) e = subst (λ (r : Result Query (Fault Placed)). Judges query ts r) e (judges query no ts (query_at ts) (query_read ts))
is_parsed ts (Err errors.Memory) e = tt
is_parsed ts (Err (errors.At rest marked)) e = subst (λ (r : Result Query (Fault Placed)). Judges query ts r) e (judges query no ts (query_at ts) (query_read ts))
