-- Which relations' IRIs a graph says to be properties with nodes, by the tables that they are named with.
use Rattle.std.specs.Prelude.{◌≡◌, ◌≢◌, ◌<◌, ℕ, zero, suc, List, MatchOption, None, Option, Some, cond, length, nat_eq}
use Rattle.std.specs.Cmp.Lexicographic.{pointwise}
use Rattle.std.specs.HashMap.{get}
use Rattle.names_dm.specs.declared.names.RelName.{RelName}
use Rattle.names_dm.specs.Statements.{Statement}
use Rattle.facts_dm.specs.Facts.{an_object, rel_link}
use Rattle.store_dm.specs.Graphs.{GraphValue}
use Rattle.store_dm.specs.Terms.{term_at}
use Rattle.layouts_dm.specs.Layouts.{IsGoodLink}
use Rattle.layouts_dm.specs.Rules.{Says}
use Rattle.schema_dm.specs.Naming.{Name}
use Rattle.roles_dm.specs.Naming.{link_term}
use Rattle.roles_dm.specs.declared.relations.Relations.{Relations}

-- the number is that of the IRI of a relation of the table, and the graph says that the IRI is a property with nodes
pub record IsStated (base : List ℕ) (g : GraphValue) (G : List Statement) (table : Name) (n : ℕ) : Type 0 where
  pub name : RelName
  pub good : IsGoodLink (rel_link name)
  pub of_table : name.table ≡ table
  pub at : term_at g.terms n ≡ Some (link_term base (rel_link name))
  pub says : Says base G (an_object (rel_link name))

-- the table that the number is such a one of, if there is one
abbrev pub TellsStated : List ℕ → GraphValue → List Statement → ℕ → Option Name → Type 0
TellsStated base g G n found = MatchOption found ((table : Name) → ¬ IsStated base g G table n) (λ table. IsStated base g G table n)

-- no other number is one of the table's
abbrev pub IsAlone : List ℕ → GraphValue → List Statement → Name → ℕ → Type 0
IsAlone base g G table number = (n : ℕ) → IsStated base g G table n → n ≡ number

-- of the numbers below the bound: none is one of the table's, or several are, or this one alone
abbrev pub TellsOne : List ℕ → GraphValue → List Statement → ℕ → Name → Option ℕ → Type 0
TellsOne base g G bound table None = (n : ℕ) → n < bound → ¬ IsStated base g G table n
TellsOne base g G bound table (Some zero) = (m : ℕ) × (n : ℕ) × (m ≢ n) × IsStated base g G table m × IsStated base g G table n
TellsOne base g G bound table (Some (suc k)) = (suc k < bound) × IsStated base g G table (suc k) × ((n : ℕ) → n < bound → IsStated base g G table n → n ≡ suc k)

abbrev pub noted : Relations → Name → Option ℕ
noted relations table = get (pointwise nat_eq) relations.numbers table

abbrev pub AreRelationsBelow : List ℕ → GraphValue → List Statement → ℕ → Relations → Type 0
AreRelationsBelow base g G bound relations = (table : Name) → TellsOne base g G bound table (noted relations table)

abbrev pub AreRelations : List ℕ → GraphValue → List Statement → Relations → Type 0
AreRelations base g G relations = AreRelationsBelow base g G (suc (length g.terms)) relations

-- one more number of a table, where one or several were noted or none
abbrev pub one_more : Option ℕ → ℕ → ℕ
one_more None number = number
one_more (Some k) number = 0

abbrev pub NotesOneMore : Relations → Relations → Name → ℕ → Type 0
NotesOneMore old new table number = (t : Name) → noted new t ≡ cond (pointwise nat_eq table t) (Some (one_more (noted old table) number)) (noted old t)
