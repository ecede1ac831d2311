-- What the patterns of queries are made of: renames for lists of attributes, and conditions on them. A condition of several
-- leans to the left. Reserved variables are no attribute's.
use Rattle.std.specs.Prelude.{ℕ, List, [], ◌∷◌, ◌++◌, bytes_eq, codes, if◌then◌else◌, map}
use Rattle.value_dm.specs.Kinds.{kind_of}
use Rattle.value_dm.specs.Lexical.{lexical_form}
use Rattle.value_dm.specs.declared.value.Value.{Value}
use Rattle.names_dm.specs.Literals.{LiteralValue, literal_of}
use Rattle.names_dm.specs.Variables.{variable_of}
use Rattle.facts_dm.specs.Vocabulary.{literal_type, word_iri}
use Rattle.facts_dm.specs.declared.word.Word.TheVariants.{RdfType}
use Rattle.schema_dm.specs.Naming.{Name}
use Rattle.solutions_dm.specs.declared.selects.Rename.{Rename}
use Rattle.pattern_dm.specs.declared.pattern.Condition.{Condition}
use Rattle.pattern_dm.specs.declared.pattern.Condition.TheVariants as conditions
use Rattle.pattern_dm.specs.declared.pattern.Operand.TheVariants as operands
use Rattle.pattern_dm.specs.declared.pattern.Pattern.{Pattern}
use Rattle.pattern_dm.specs.declared.pattern.Pattern.TheVariants as patterns

-- the natural literal of a value (R2RML, section 10.2)
abbrev pub value_literal : Value → LiteralValue
value_literal x = literal_of (lexical_form x) (literal_type (kind_of x))

-- ---- renames

abbrev pub rename_to : Name → Name → Rename
rename_to from to = record { from = variable_of from; to = variable_of to }

-- each attribute to itself
abbrev pub same_names : List Name → List Rename
same_names names = map (λ a. rename_to a a) names

-- what an attribute was called before `from` became `to`
abbrev pub old_name : Name → Name → Name → Name
old_name from to a = if bytes_eq to a then from else a

-- each of the new attributes from what it was called before
abbrev pub new_names : Name → Name → List Name → List Rename
new_names from to names = map (λ a. rename_to (old_name from to a) a) names

-- ---- conditions on one attribute

abbrev pub is_bound : Name → Condition
is_bound a = conditions.Bound (variable_of a)

abbrev pub is_unbound : Name → Condition
is_unbound a = conditions.Not (is_bound a)

abbrev pub is_value : Name → Value → Condition
is_value a x = conditions.SameTerm (operands.Var (variable_of a)) (operands.Literal (value_literal x))

abbrev pub is_other_value : Name → Value → Condition
is_other_value a x = conditions.Not (is_value a x)

-- ---- joins

-- and each of these attributes is bound
abbrev pub and_bound : Condition → List Name → Condition
and_bound f [] = f
and_bound f (a ∷ names) = and_bound (conditions.And f (is_bound a)) names

-- the pattern, and where there are names, only the solutions that bind them all
abbrev pub where_bound : List Name → Pattern → Pattern
where_bound [] p = p
where_bound (a ∷ names) p = patterns.Filter p (and_bound (is_bound a) names)

-- common: the attributes that both parts have
abbrev pub joined : List Name → Pattern → Pattern → Pattern
joined common p q = patterns.And (where_bound common p) (where_bound common q)

-- ---- differences where an attribute may be NULL

-- the variable of an attribute of the right part
abbrev pub right_variable : Name → List ℕ
right_variable a = codes "_q" ++ variable_of a

abbrev pub marker : List ℕ
marker = codes "_m"

-- each attribute to its variable in the right part
abbrev pub right_names : List Name → List Rename
right_names names = map (λ a. record { from = variable_of a; to = right_variable a }) names

-- the parts have one value in the attribute, or both none
abbrev pub is_same_cell : Name → Condition
is_same_cell a =
    conditions.Or (conditions.SameTerm (operands.Var (variable_of a)) (operands.Var (right_variable a)))
    (conditions.And (is_unbound a) (conditions.Not (conditions.Bound (right_variable a))))

-- and the same cell in each of these attributes
abbrev pub and_same_cells : Condition → List Name → Condition
and_same_cells f [] = f
and_same_cells f (a ∷ names) = and_same_cells (conditions.And f (is_same_cell a)) names

abbrev pub are_same_cells : List Name → Condition
are_same_cells [] = conditions.True
are_same_cells (a ∷ names) = and_same_cells (is_same_cell a) names

-- it binds the marker to the type of the class, so that a solution shows whether it was joined
abbrev pub marker_triple : List ℕ → Pattern
marker_triple class = patterns.Triple (operands.Iri class) (operands.Iri (word_iri RdfType)) (operands.Var marker)

-- the solutions of the left part that have the same cells as no solution of the right one
abbrev pub guarded : List Name → List ℕ → Pattern → Pattern → Pattern
guarded names class p q =
    patterns.Select
    (patterns.Filter (patterns.LeftJoin p (patterns.And (patterns.Select q (right_names names)) (marker_triple class)) (are_same_cells names))
    (conditions.Not (conditions.Bound marker)))
    (same_names names)
