-- What a triple of a graph is found to say.
use Rattle.std.specs.Prelude.{◌≡◌, ◌≢◌, ℕ, List}
use Rattle.members_dm.specs.Membership.{IsIn}
use Rattle.schema_dm.specs.Naming.{Name}
use Rattle.names_dm.specs.declared.names.ColumnName.{ColumnName}
use Rattle.names_dm.specs.declared.names.RelName.{RelName}
use Rattle.names_dm.specs.Statements.{Statement}
use Rattle.facts_dm.specs.Facts.{Fact, KindText, Node, a_cell, a_class, a_domain, a_link, a_link_range, a_mark, a_node, a_property, a_range, an_object, node_term, ref_link, rel_link, triple_of}
use Rattle.facts_dm.specs.Meanings.{NamingLaws}
use Rattle.facts_dm.specs.Vocabulary.{word_iri}
use Rattle.facts_dm.specs.declared.word.Word.TheVariants.{OwlDifferentFrom, RdfType, RdfsDomain, RdfsRange}
use Rattle.store_dm.specs.Graphs.{GraphValue}
use Rattle.layouts_dm.specs.Layouts.{column_named}
use Rattle.layouts_dm.specs.Rules.{Explained, Explains, IsLink}
use Rattle.roles_dm.specs.Naming.{column_term}
use Rattle.roles_dm.specs.Numbered.{AreNumbersOf}
use Rattle.roles_dm.specs.Numbers.{IsNumberOf}
use Rattle.roles_dm.specs.Roles.{IsRead}
use Rattle.roles_dm.specs.declared.finding.Finding.{Finding}
use Rattle.roles_dm.specs.declared.finding.Finding.TheVariants as finding
use Rattle.roles_dm.specs.declared.numbered.Numbered.{Numbered}
use Rattle.roles_dm.specs.declared.role.Role.{Role}
use Rattle.roles_dm.specs.declared.words.Words.{Words}

-- no class of a node, no value and no pair of a relation: no other triple makes such a fact bad
abbrev pub IsFree : Fact → Type 0
IsFree (a_class t) = Unit {0}
IsFree (a_property c) = Unit {0}
IsFree (an_object l) = Unit {0}
IsFree (a_domain i t) = Unit {0}
IsFree (a_range c k) = Unit {0}
IsFree (a_link_range l u) = Unit {0}
IsFree (a_node n t) = ⊥
IsFree (a_cell n c v) = ⊥
IsFree (a_link n (ref_link r) m) = Unit {0}
IsFree (a_link n (rel_link q) m) = ⊥
IsFree (a_mark n) = Unit {0}

-- the triple says the fact, which is explained
abbrev pub IsExplainedBy : List ℕ → List Statement → Statement → Fact → Type 0
IsExplainedBy base G x f = (x ≡ triple_of base f) × Explains base G f

-- an explained pair of a relation, and the numbers of the columns that the relation is named with
pub record IsPair (base : List ℕ) (g : GraphValue) (G : List Statement) (x : Statement) (l r : ℕ) : Type 0 where
  pub relation : RelName
  pub from : Name
  pub to : Name
  pub node : Node
  pub other : Node
  pub link : IsLink base G (rel_link relation) from to
  pub explained : IsExplainedBy base G x (a_link node (rel_link relation) other)
  pub left : IsNumberOf g (column_term base (column_named from relation.left_target)) l
  pub right : IsNumberOf g (column_term base (column_named to relation.right_target)) r

-- what the triple says
abbrev pub Finds : List ℕ → GraphValue → List Statement → Statement → Finding → Type 0
Finds base g G x finding.Unexplained = ¬ Explained base G x
Finds base g G x finding.Free = (f : Fact) × IsFree f × IsExplainedBy base G x f
Finds base g G x finding.Class = (n : Node) × (t : Name) × IsExplainedBy base G x (a_node n t)
Finds base g G x finding.Value = (n : Node) × (c : ColumnName) × (v : KindText) × IsExplainedBy base G x (a_cell n c v)
Finds base g G x (finding.Pair left right) = IsPair base g G x left right
Finds base g G x finding.Mark = (n : Node) × (x ≡ triple_of base (a_mark n))

-- a triple of a graph that was read, and the numbers of its terms; its subject is no literal
pub record IsTripleOf (base : List ℕ) (g : GraphValue) (w : Words) (rs : List Role) (G : List Statement) (x : Statement) (n : Numbered) : Type 0 where
  pub laws : NamingLaws base
  pub read : IsRead base g w rs G
  pub there : IsIn x G
  pub numbers : AreNumbersOf g x n
  pub node : (m : Node) × (x.subject ≡ node_term m)

-- the predicate is no word that properties are told by
pub record IsPlainProperty (x : Statement) : Type 0 where
  pub type : x.predicate ≢ word_iri RdfType
  pub domain : x.predicate ≢ word_iri RdfsDomain
  pub range : x.predicate ≢ word_iri RdfsRange
  pub different : x.predicate ≢ word_iri OwlDifferentFrom
