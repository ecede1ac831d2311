-- What `translate` and `ask` write.
use Rattle.std.specs.Prelude.{◌≡◌, ◌++◌, ℕ, List, codes, map}
use Rattle.names_dm.specs.Statements.{Statement}
use Rattle.names_dm.specs.Variables.{variable_of}
use Rattle.schema_dm.specs.Naming.{Name}
use Rattle.schema_dm.specs.declared.table.Table.{Table}
use Rattle.algebra_dm.specs.Attributes.{AreAttributes}
use Rattle.algebra_dm.specs.declared.query.Mode.{Mode}
use Rattle.algebra_dm.specs.declared.query.Query.{Query}
use Rattle.pattern_dm.specs.Texts.{query_text}
use Rattle.pattern_dm.specs.declared.pattern.Pattern.{Pattern}
use Rattle.pattern_lines_dm.specs.Lines.{AreSolutionLines}
use Rattle.translate_dm.specs.Translation.{Translates}

-- the variables of the query's attributes, in the order of the attributes' bytes
pub record AreVariablesOf (tables : List Table) (q : Query) (vars : List (List ℕ)) : Type 0 where
  pub names : List Name
  pub attributes : AreAttributes tables q names
  pub are : vars ≡ map variable_of names

-- the text is SPARQL for the query's pattern and the variables of its attributes, in the order of their bytes (SPARQL 1.1 Query
-- Language, section 19.8), and a line feed
pub record IsPatternText (mode : Mode) (base : List ℕ) (tables : List Table) (q : Query) (text : List ℕ) : Type 0 where
  pub pattern : Pattern
  pub translates : Translates mode base tables q pattern
  pub names : List Name
  pub attributes : AreAttributes tables q names
  pub is : text ≡ query_text (map variable_of names) pattern ++ codes "\n"

-- the text has the variables of the query's attributes, in the order of their bytes, and then the solutions of the query's pattern
-- over the triples (SPARQL 1.1 Query Language, section 18)
pub record AreAnswersIn (mode : Mode) (base : List ℕ) (tables : List Table) (q : Query) (triples : List Statement) (text : List ℕ) : Type 0 where
  pub pattern : Pattern
  pub translates : Translates mode base tables q pattern
  pub names : List Name
  pub attributes : AreAttributes tables q names
  pub lines : AreSolutionLines triples pattern (map variable_of names) text
