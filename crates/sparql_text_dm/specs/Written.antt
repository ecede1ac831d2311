-- Texts of queries, which are read back.
use Rattle.std.specs.Prelude.{◌≡◌, ◌≢◌, ◌≤◌, ◌↔◌, ℕ, suc, max, List, [], ◌∷◌, map, None, Result, Ok, Err, true}
use Rattle.names_dm.specs.Terminals.{is_variable}
use Rattle.names_dm.specs.declared.term.Term.TheVariants as terms
use Rattle.ntriples_reader_dm.specs.Lawful.{IsLawfulTerm}
use Rattle.solutions_dm.specs.declared.selects.Rename.{Rename}
use Rattle.pattern_dm.specs.declared.pattern.Operand.{Operand}
use Rattle.pattern_dm.specs.declared.pattern.Operand.TheVariants as operands
use Rattle.pattern_dm.specs.declared.pattern.Condition.{Condition, end_of-Condition, more_of-Condition}
use Rattle.pattern_dm.specs.declared.pattern.Condition.TheVariants as conditions
use Rattle.pattern_dm.specs.declared.pattern.Pattern.{Pattern, end_of-Pattern, more_of-Pattern}
use Rattle.pattern_dm.specs.declared.pattern.Pattern.TheVariants as patterns
use Rattle.pattern_dm.specs.Formed.{IsWellFormed}
use Rattle.pattern_dm.specs.Texts.{query_text}
use Rattle.sparql_tokens_dm.specs.declared.token.Placed.{Placed}
use Rattle.sparql_tokens_dm.specs.Tokens.{AreTokens}
use Rattle.sparql_text_dm.specs.declared.error.SparqlError.{SparqlError}
use Rattle.sparql_text_dm.specs.declared.error.SparqlError.TheVariants.{BadPattern, TooNested, Memory}
use Rattle.sparql_text_dm.specs.declared.parsed.Parsed.{Parsed}
use Rattle.sparql_text_dm.specs.Answer.{IsAnswer}

-- ---- names and terms as their types hold them

abbrev pub IsName : List ℕ → Type 0
IsName x = is_variable x ≡ true

abbrev pub AreNames : List (List ℕ) → Type 0
AreNames [] = Unit {0}
AreNames (x ∷ xs) = IsName x × AreNames xs

abbrev pub IsLawfulOperand : Operand → Type 0
IsLawfulOperand (operands.Var x) = IsName x
IsLawfulOperand (operands.Iri i) = IsLawfulTerm (terms.Iri i)
IsLawfulOperand (operands.Literal l) = IsLawfulTerm (terms.Literal l)

abbrev pub IsLawfulCondition : Condition → Type 0
IsLawfulCondition conditions.True = Unit {0}
IsLawfulCondition (conditions.Bound x) = IsName x
IsLawfulCondition (conditions.SameTerm p q) = IsLawfulOperand p × IsLawfulOperand q
IsLawfulCondition (conditions.Not' a (more_of-Condition f end_of-Condition)) = IsLawfulCondition f
IsLawfulCondition (conditions.And' a (more_of-Condition f end_of-Condition) b (more_of-Condition g end_of-Condition)) = IsLawfulCondition f × IsLawfulCondition g
IsLawfulCondition (conditions.Or' a (more_of-Condition f end_of-Condition) b (more_of-Condition g end_of-Condition)) = IsLawfulCondition f × IsLawfulCondition g

abbrev pub AreLawfulRenames : List Rename → Type 0
AreLawfulRenames [] = Unit {0}
AreLawfulRenames (r ∷ rs) = IsName r.from × IsName r.to × AreLawfulRenames rs

abbrev pub IsLawfulPattern : Pattern → Type 0
IsLawfulPattern patterns.Empty = Unit {0}
IsLawfulPattern (patterns.Triple s p o) = IsLawfulOperand s × IsLawfulOperand p × IsLawfulOperand o
IsLawfulPattern (patterns.And' a (more_of-Pattern p end_of-Pattern) b (more_of-Pattern q end_of-Pattern)) = IsLawfulPattern p × IsLawfulPattern q
IsLawfulPattern (patterns.LeftJoin' a (more_of-Pattern p end_of-Pattern) b (more_of-Pattern q end_of-Pattern) f) = IsLawfulPattern p × IsLawfulPattern q × IsLawfulCondition f
IsLawfulPattern (patterns.Union' a (more_of-Pattern p end_of-Pattern) b (more_of-Pattern q end_of-Pattern)) = IsLawfulPattern p × IsLawfulPattern q
IsLawfulPattern (patterns.Minus' a (more_of-Pattern p end_of-Pattern) b (more_of-Pattern q end_of-Pattern)) = IsLawfulPattern p × IsLawfulPattern q
IsLawfulPattern (patterns.Filter' a (more_of-Pattern p end_of-Pattern) f) = IsLawfulPattern p × IsLawfulCondition f
IsLawfulPattern (patterns.Select' a (more_of-Pattern p end_of-Pattern) rs) = IsLawfulPattern p × AreLawfulRenames rs

-- ---- how many braces and parentheses are open at once, at most, in the text of a condition and of a pattern

abbrev pub condition_nesting : Condition → ℕ
condition_nesting conditions.True = 0
condition_nesting (conditions.Bound x) = 1
condition_nesting (conditions.SameTerm p q) = 1
condition_nesting (conditions.Not' a (more_of-Condition f end_of-Condition)) = suc (condition_nesting f)
condition_nesting (conditions.And' a (more_of-Condition f end_of-Condition) b (more_of-Condition g end_of-Condition)) = suc (max (condition_nesting f) (condition_nesting g))
condition_nesting (conditions.Or' a (more_of-Condition f end_of-Condition) b (more_of-Condition g end_of-Condition)) = suc (max (condition_nesting f) (condition_nesting g))

abbrev pub filter_nesting : Condition → ℕ
filter_nesting f = suc (condition_nesting f)

-- a left join with True has no filter
abbrev pub join_nesting : Condition → ℕ
join_nesting conditions.True = 0
join_nesting f = filter_nesting f

abbrev pub nesting : Pattern → ℕ
nesting patterns.Empty = 1
nesting (patterns.Triple s p o) = 1
nesting (patterns.And' a (more_of-Pattern p end_of-Pattern) b (more_of-Pattern q end_of-Pattern)) = suc (max (nesting p) (nesting q))
nesting (patterns.LeftJoin' a (more_of-Pattern p end_of-Pattern) b (more_of-Pattern q end_of-Pattern) f) = suc (max (nesting p) (suc (max (nesting q) (join_nesting f))))
nesting (patterns.Union' a (more_of-Pattern p end_of-Pattern) b (more_of-Pattern q end_of-Pattern)) = suc (max (nesting p) (nesting q))
nesting (patterns.Minus' a (more_of-Pattern p end_of-Pattern) b (more_of-Pattern q end_of-Pattern)) = suc (max (nesting p) (nesting q))
nesting (patterns.Filter' a (more_of-Pattern p end_of-Pattern) f) = suc (max (nesting p) (filter_nesting f))
nesting (patterns.Select' a (more_of-Pattern p end_of-Pattern) rs) = suc (nesting p)

-- ---- what is read back

-- a header of one variable at least and a well-formed pattern whose text nests no more than 2,048 braces and parentheses
pub record IsQuery (header : List (List ℕ)) (p : Pattern) : Type 0 where
  pub some : header ≢ []
  pub names : AreNames header
  pub formed : IsWellFormed p
  pub lawful : IsLawfulPattern p
  pub nested : nesting p ≤ 2048

-- the tokens of the bytes are those of the query's text, at any places
abbrev pub IsSpelling : List ℕ → List (List ℕ) → Pattern → Type 0
IsSpelling bytes header p =
    (ts us : List Placed) × AreTokens bytes ts None × AreTokens (query_text header p) us None × (map (λ (t : Placed). t.token) ts ≡ map (λ (u : Placed). u.token) us)

-- the bytes spell this query
abbrev pub SpellsQuery : List ℕ → Parsed → Type 0
SpellsQuery bytes x = IsQuery x.header x.pattern × IsSpelling bytes x.header x.pattern

-- the bytes are accepted as this query exactly where they spell it
abbrev pub AcceptsSpellings : List ℕ → Type 0
AcceptsSpellings bytes = (x : Parsed) → IsAnswer bytes (Ok x) ↔ SpellsQuery bytes x

-- this query, or want of memory
abbrev pub GivesBack : List (List ℕ) → Pattern → Result Parsed SparqlError → Type 0
GivesBack header p (Ok x) = (x.header ≡ header) × (x.pattern ≡ p)
GivesBack header p (Err Memory) = Unit {0}
GivesBack header p (Err (BadPattern place)) = ⊥
GivesBack header p (Err (TooNested place)) = ⊥

-- the text of every query is read back
abbrev pub TextsReadBack : Type 0
TextsReadBack = (header : List (List ℕ)) (p : Pattern) (r : Result Parsed SparqlError) → IsQuery header p → IsAnswer (query_text header p) r → GivesBack header p r
