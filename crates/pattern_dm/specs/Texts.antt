-- Patterns as text (SPARQL 1.1 Query Language, section 19), in bytes.
use Prim.Native.Char.{code}
use Rattle.std.specs.Prelude.{ℕ, zero, suc, List, ◌++◌, codes, encode_utf8_all, bytes_eq, map, if◌then◌else◌}
use Rattle.std.specs.List.{join_with_byte}
use Rattle.names_dm.specs.declared.term.Term.TheVariants as terms
use Rattle.ntriples_dm.specs.Written.{term_text}
use Rattle.solutions_dm.specs.declared.selects.Rename.{Rename}
use Rattle.pattern_dm.specs.declared.operands.Side.{Side}
use Rattle.pattern_dm.specs.declared.operands.Side.TheVariants as sides
use Rattle.pattern_dm.specs.declared.pattern.Operand.{Operand}
use Rattle.pattern_dm.specs.declared.pattern.Operand.TheVariants as operands
use Rattle.pattern_dm.specs.declared.pattern.Condition.{Condition, end_of-Condition, more_of-Condition}
use Rattle.pattern_dm.specs.declared.pattern.Condition.TheVariants as conditions
use Rattle.pattern_dm.specs.declared.pattern.Pattern.{Pattern, end_of-Pattern, more_of-Pattern}
use Rattle.pattern_dm.specs.declared.pattern.Pattern.TheVariants as patterns

abbrev pub variable_text : List ℕ → List ℕ
variable_text x = codes "?" ++ encode_utf8_all x

-- a term is written as in N-Triples
abbrev pub operand_text : Operand → List ℕ
operand_text (operands.Var x) = variable_text x
operand_text (operands.Iri i) = term_text (terms.Iri i)
operand_text (operands.Literal l) = term_text (terms.Literal l)

-- the same of an operand as a variable or a term
abbrev pub side_text : Side → List ℕ
side_text (sides.Var x) = variable_text x
side_text (sides.Term t) = term_text t

abbrev pub condition_text : Condition → List ℕ
condition_text conditions.True = codes "true"
condition_text (conditions.Bound x) = codes "bound(" ++ variable_text x ++ codes ")"
condition_text (conditions.SameTerm p q) = codes "sameTerm(" ++ operand_text p ++ codes ", " ++ operand_text q ++ codes ")"
condition_text (conditions.Not' a (more_of-Condition f end_of-Condition)) = codes "( ! " ++ condition_text f ++ codes " )"
condition_text (conditions.And' a (more_of-Condition f end_of-Condition) b (more_of-Condition g end_of-Condition)) = codes "( " ++ condition_text f ++ codes " && " ++ condition_text g ++ codes " )"
condition_text (conditions.Or' a (more_of-Condition f end_of-Condition) b (more_of-Condition g end_of-Condition)) = codes "( " ++ condition_text f ++ codes " || " ++ condition_text g ++ codes " )"

abbrev pub filter_text : Condition → List ℕ
filter_text f = codes " FILTER ( " ++ condition_text f ++ codes " )"

-- a left join with True has no filter
abbrev pub filter_unless_true : Condition → List ℕ
filter_unless_true conditions.True = codes ""
filter_unless_true f = filter_text f

abbrev pub rename_text : Rename → List ℕ
rename_text r = if bytes_eq r.from r.to then variable_text r.to else codes "(" ++ variable_text r.from ++ codes " AS " ++ variable_text r.to ++ codes ")"

-- texts with a space between each two
abbrev pub spaced : List (List ℕ) → List ℕ
spaced texts = join_with_byte (code " ") texts

-- the space before a text that isn't the first
abbrev pub gap : ℕ → List ℕ
gap zero = codes ""
gap (suc place) = codes " "

abbrev pub pattern_text : Pattern → List ℕ
pattern_text patterns.Empty = codes "{ }"
pattern_text (patterns.Triple s p o) = codes "{ " ++ operand_text s ++ codes " " ++ operand_text p ++ codes " " ++ operand_text o ++ codes " . }"
pattern_text (patterns.And' a (more_of-Pattern p end_of-Pattern) b (more_of-Pattern q end_of-Pattern)) = codes "{ " ++ pattern_text p ++ codes " " ++ pattern_text q ++ codes " }"
pattern_text (patterns.LeftJoin' a (more_of-Pattern p end_of-Pattern) b (more_of-Pattern q end_of-Pattern) f) = codes "{ " ++ pattern_text p ++ codes " OPTIONAL { " ++ pattern_text q ++ filter_unless_true f ++ codes " } }"
pattern_text (patterns.Union' a (more_of-Pattern p end_of-Pattern) b (more_of-Pattern q end_of-Pattern)) = codes "{ " ++ pattern_text p ++ codes " UNION " ++ pattern_text q ++ codes " }"
pattern_text (patterns.Minus' a (more_of-Pattern p end_of-Pattern) b (more_of-Pattern q end_of-Pattern)) = codes "{ " ++ pattern_text p ++ codes " MINUS " ++ pattern_text q ++ codes " }"
pattern_text (patterns.Filter' a (more_of-Pattern p end_of-Pattern) f) = codes "{ " ++ pattern_text p ++ filter_text f ++ codes " }"
pattern_text (patterns.Select' a (more_of-Pattern p end_of-Pattern) rs) = codes "{ SELECT " ++ spaced (map rename_text rs) ++ codes " WHERE " ++ pattern_text p ++ codes " }"

-- the query for the variables of a header
abbrev pub query_text : List (List ℕ) → Pattern → List ℕ
query_text header p = codes "SELECT DISTINCT " ++ spaced (map variable_text header) ++ codes " WHERE " ++ pattern_text p
