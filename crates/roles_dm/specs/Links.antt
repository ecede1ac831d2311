-- What look-ups tell of the references and relations of a graph.
use Rattle.std.specs.Prelude.{◌≡◌, ◌≢◌, ℕ, List, MatchOption, Option}
use Rattle.members_dm.specs.Membership.{IsIn, NoRepeats}
use Rattle.value_dm.specs.declared.kind.Kind.{Kind}
use Rattle.schema_dm.specs.Naming.{Name}
use Rattle.names_dm.specs.declared.names.RefName.{RefName}
use Rattle.names_dm.specs.declared.names.RelName.{RelName}
use Rattle.names_dm.specs.declared.term.Term.{Term}
use Rattle.names_dm.specs.declared.term.Term.TheVariants as term
use Rattle.names_dm.specs.Statements.{Statement}
use Rattle.facts_dm.specs.Facts.{Link, ref_link, rel_link, table_term}
use Rattle.store_dm.specs.Graphs.{GraphValue}
use Rattle.layouts_dm.specs.Layouts.{column_named}
use Rattle.layouts_dm.specs.Rules.{IsClass, IsColumn, IsLink}
use Rattle.roles_dm.specs.Naming.{column_term, link_term}
use Rattle.roles_dm.specs.Numbers.{IsNumberOf}
use Rattle.roles_dm.specs.Relations.{IsAlone}
use Rattle.roles_dm.specs.Roles.{IsLinkRole}
use Rattle.roles_dm.specs.declared.role.LinkName.TheVariants.{Relation}
use Rattle.roles_dm.specs.declared.role.LinkRole.{LinkRole}

-- the class is the one object that the IRI i has with the predicate p
pub record IsOnlyClass (base : List ℕ) (G : List Statement) (i p : List ℕ) (t : Name) : Type 0 where
  pub class : IsClass base G t
  pub says : IsIn (record { subject = term.Iri i; predicate = p; object = table_term base t }) G
  pub one : (x : Statement) → IsIn x G → x.subject ≡ term.Iri i → x.predicate ≡ p → x.object ≡ table_term base t

-- that class and its number, if there is one
abbrev pub TellsOnlyClass : List ℕ → GraphValue → List Statement → List ℕ → List ℕ → Option (ℕ × Name) → Type 0
TellsOnlyClass base g G i p found =
    MatchOption found ((t : Name) → ¬ IsOnlyClass base G i p t) (λ class. IsNumberOf g (table_term base class.1) class.0 × IsOnlyClass base G i p class.1)

abbrev pub HasKind : List ℕ → List Statement → Name → Name → Type 0
HasKind base G t c = (k : Kind) × IsColumn base G t c k

-- the number of the column's IRI, if it is a column
abbrev pub TellsColumnNumber : List ℕ → GraphValue → List Statement → Name → Name → Option ℕ → Type 0
TellsColumnNumber base g G t c found = MatchOption found (¬ HasKind base G t c) (λ n. IsNumberOf g (column_term base (column_named t c)) n × HasKind base G t c)

-- they are columns of the table, and none stands twice
abbrev pub AreColumns : List ℕ → List Statement → RefName → Type 0
AreColumns base G r = NoRepeats r.columns × ((c : Name) → IsIn c r.columns → HasKind base G r.table c)

-- its two columns are different, its table is no class, and no other relation's IRI of the table is said to be a property with nodes
pub record IsSole (base : List ℕ) (g : GraphValue) (G : List Statement) (q : RelName) (n : ℕ) : Type 0 where
  pub two : q.left ≢ q.right
  pub alone : IsAlone base g G q.table n
  pub no_class : ¬ IsClass base G q.table

-- the columns that a relation is named with are columns of the two classes
abbrev pub HaveEnds : List ℕ → List Statement → RelName → Name → Name → Type 0
HaveEnds base G q t u = HasKind base G t q.left_target × HasKind base G u q.right_target

-- the relation from the one class to the other, if they have these columns
pub record IsEnded (base : List ℕ) (g : GraphValue) (G : List Statement) (q : RelName) (from to : ℕ × Name) (role : LinkRole) : Type 0 where
  pub name : role.name ≡ Relation q
  pub from_is : role.from ≡ from.0
  pub to_is : role.to ≡ to.0
  pub left : IsNumberOf g (column_term base (column_named from.1 q.left_target)) role.left
  pub right : IsNumberOf g (column_term base (column_named to.1 q.right_target)) role.right
  pub ends : HaveEnds base G q from.1 to.1

abbrev pub TellsEnds : List ℕ → GraphValue → List Statement → RelName → ℕ × Name → ℕ × Name → Option LinkRole → Type 0
TellsEnds base g G q from to found = MatchOption found (¬ HaveEnds base G q from.1 to.1) (IsEnded base g G q from to)

-- the reference whose IRI the term is, if there is one
abbrev pub TellsReference : List ℕ → GraphValue → List Statement → Term → Option LinkRole → Type 0
TellsReference base g G x found = MatchOption found ((r : RefName) (t u : Name) → x ≡ link_term base (ref_link r) → ¬ IsLink base G (ref_link r) t u) (IsLinkRole base g G x)

-- the relation whose IRI the term is, if there is one
abbrev pub TellsRelation : List ℕ → GraphValue → List Statement → Term → Option LinkRole → Type 0
TellsRelation base g G x found = MatchOption found ((q : RelName) (t u : Name) → x ≡ link_term base (rel_link q) → ¬ IsLink base G (rel_link q) t u) (IsLinkRole base g G x)

-- either of them
abbrev pub TellsLink : List ℕ → GraphValue → List Statement → Term → Option LinkRole → Type 0
TellsLink base g G x found = MatchOption found ((l : Link) (t u : Name) → x ≡ link_term base l → ¬ IsLink base G l t u) (IsLinkRole base g G x)
