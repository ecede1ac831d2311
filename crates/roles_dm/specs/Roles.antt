-- What a graph says of a term: that it is a class, a column, a reference or relation, or nothing.
use Rattle.std.specs.Prelude.{◌≡◌, ℕ, zero, suc, List, MatchOption, None, Option, Some, length, slice_get}
use Rattle.value_dm.specs.declared.kind.Kind.{Kind}
use Rattle.schema_dm.specs.Naming.{Name}
use Rattle.names_dm.specs.declared.names.ColumnName.{ColumnName}
use Rattle.names_dm.specs.declared.term.Term.{Term}
use Rattle.names_dm.specs.declared.term.Term.TheVariants as term
use Rattle.names_dm.specs.Statements.{Statement}
use Rattle.members_dm.specs.Membership.{IsIn}
use Rattle.facts_dm.specs.Facts.{Link, a_class, a_domain, a_property, ref_link, rel_link, table_term, word_term}
use Rattle.facts_dm.specs.Vocabulary.{word_iri}
use Rattle.facts_dm.specs.declared.word.Word.TheVariants.{Datatype, RdfsRange}
use Rattle.store_dm.specs.Graphs.{GraphValue}
use Rattle.store_dm.specs.Terms.{term_at}
use Rattle.layouts_dm.specs.Layouts.{column_named}
use Rattle.layouts_dm.specs.Rules.{IsClass, IsColumn, IsLink, OneRange, Says}
use Rattle.names_dm.specs.Names.{column_iri}
use Rattle.roles_dm.specs.Naming.{IsGoodColumn, column_term, link_term}
use Rattle.roles_dm.specs.Meanings.{Means, means_nothing}
use Rattle.roles_dm.specs.Numbers.{AreWords, IsGraphOf, IsNumberOf}
use Rattle.roles_dm.specs.declared.role.ColumnRole.{ColumnRole}
use Rattle.roles_dm.specs.declared.role.LinkName.{LinkName}
use Rattle.roles_dm.specs.declared.role.LinkName.TheVariants.{Reference, Relation}
use Rattle.roles_dm.specs.declared.role.LinkRole.{LinkRole}
use Rattle.roles_dm.specs.declared.role.Role.{Role}
use Rattle.roles_dm.specs.declared.role.Role.TheVariants.{Class, Column, Link as ALink, Nothing}
use Rattle.roles_dm.specs.declared.words.Words.{Words}

-- the class whose IRI the term is, if there is one
abbrev pub TellsClass : List ℕ → List Statement → Term → Option Name → Type 0
TellsClass base G x found = MatchOption found ((t : Name) → x ≡ table_term base t → ¬ IsClass base G t) (λ t. (x ≡ table_term base t) × IsClass base G t)

-- the number of the table's IRI, if the graph says that it is a class
abbrev pub TellsClassNumber : List ℕ → GraphValue → List Statement → Name → Option ℕ → Type 0
TellsClassNumber base g G t found = MatchOption found (¬ Says base G (a_class t)) (λ n. IsNumberOf g (table_term base t) n × Says base G (a_class t))

-- the one rdfs:range of the IRI is the datatype of the kind
abbrev pub IsOneKind : List ℕ → List Statement → List ℕ → Kind → Type 0
IsOneKind base G i k = IsIn (record { subject = term.Iri i; predicate = word_iri RdfsRange; object = word_term (Datatype k) }) G × OneRange base G i (word_iri (Datatype k))

-- the kind whose datatype is its one rdfs:range, if there is one
abbrev pub TellsOneKind : List ℕ → List Statement → List ℕ → Option Kind → Type 0
TellsOneKind base G i found = MatchOption found ((k : Kind) → ¬ IsOneKind base G i k) (IsOneKind base G i)

-- the term is the column's IRI, and the class has this number
pub record IsColumnRole (base : List ℕ) (g : GraphValue) (G : List Statement) (x : Term) (role : ColumnRole) : Type 0 where
  pub term : x ≡ column_term base role.name
  pub column : IsColumn base G role.name.table role.name.column role.kind
  pub class : IsNumberOf g (table_term base role.name.table) role.class

-- the column whose IRI the term is, if there is one
abbrev pub TellsColumn : List ℕ → GraphValue → List Statement → Term → Option ColumnRole → Type 0
TellsColumn base g G x found =
    MatchOption found ((c : ColumnName) (k : Kind) → x ≡ column_term base c → ¬ IsColumn base G c.table c.column k) (IsColumnRole base g G x)

-- the graph says that the column's table is a class, and that it is the column's domain
abbrev pub HasDomain : List ℕ → List Statement → ColumnName → Type 0
HasDomain base G c = Says base G (a_class c.table) × Says base G (a_domain (column_iri base c) c.table)

-- the number of the column's class, if the graph says both
abbrev pub TellsDomain : List ℕ → GraphValue → List Statement → ColumnName → Option ℕ → Type 0
TellsDomain base g G c found = MatchOption found (¬ HasDomain base G c) (λ n. IsNumberOf g (table_term base c.table) n × HasDomain base G c)

-- the column whose IRI the term is, if there is one and the graph says that it is a property with literals
abbrev pub TellsProperty : List ℕ → List Statement → Term → Option ColumnName → Type 0
TellsProperty base G x found =
    MatchOption found ((c : ColumnName) → IsGoodColumn c → x ≡ column_term base c → ¬ Says base G (a_property c)) (λ c. IsGoodColumn c × (x ≡ column_term base c) × Says base G (a_property c))

-- ---- references and relations

abbrev pub link_named : LinkName → Link
link_named (Reference r) = ref_link r
link_named (Relation q) = rel_link q

-- the numbers of the columns of the classes t and u that a relation is named with; a reference has none
abbrev pub AreEnds : List ℕ → GraphValue → Name → Name → LinkName → ℕ → ℕ → Type 0
AreEnds base g t u (Reference r) left right = (left ≡ 0) × (right ≡ 0)
AreEnds base g t u (Relation q) left right = IsNumberOf g (column_term base (column_named t q.left_target)) left × IsNumberOf g (column_term base (column_named u q.right_target)) right

-- the term is the link's IRI, and these are the numbers of its classes and columns
pub record IsLinkRole (base : List ℕ) (g : GraphValue) (G : List Statement) (x : Term) (role : LinkRole) : Type 0 where
  pub source : Name
  pub target : Name
  pub term : x ≡ link_term base (link_named role.name)
  pub link : IsLink base G (link_named role.name) source target
  pub from : IsNumberOf g (table_term base source) role.from
  pub to : IsNumberOf g (table_term base target) role.to
  pub ends : AreEnds base g source target role.name role.left role.right

-- ---- the role of each term

abbrev pub IsRole : List ℕ → GraphValue → List Statement → Term → Role → Type 0
IsRole base g G x (Class t) = (x ≡ table_term base t) × IsClass base G t
IsRole base g G x (Column role) = IsColumnRole base g G x role
IsRole base g G x (ALink role) = IsLinkRole base g G x role
IsRole base g G x Nothing = Means base G x means_nothing

-- the role of a number, where 0 has none
abbrev pub role_at : List Role → ℕ → Option Role
role_at roles zero = None
role_at roles (suc k) = slice_get roles k

-- each role is that of the term of its number
abbrev pub HaveRoles : List ℕ → GraphValue → List Statement → List Role → Type 0
HaveRoles base g G roles = (n : ℕ) (x : Term) (role : Role) → term_at g.terms n ≡ Some x → role_at roles n ≡ Some role → IsRole base g G x role

-- each term of the graph has its role, at its number
pub record AreRoles (base : List ℕ) (g : GraphValue) (G : List Statement) (roles : List Role) : Type 0 where
  pub count : length roles ≡ length g.terms
  pub each : HaveRoles base g G roles

-- the graph is that of the list, and words and roles are the graph's
pub record IsRead (base : List ℕ) (g : GraphValue) (w : Words) (rs : List Role) (G : List Statement) : Type 0 where
  pub graph : IsGraphOf g G
  pub words : AreWords g w
  pub roles : AreRoles base g G rs
