-- What earlier triples of a graph said, and what was looked up for them.
use Rattle.std.specs.Prelude.{◌≡◌, ◌↔◌, ◌<◌, ◌&&◌, ℕ, Bool, IsTrue, List, MatchOption, None, Option, Some, cond, nat_eq, slice_get, suc}
use Rattle.std.specs.HashMap.{get}
use Rattle.std.specs.HashSet.{contains}
use Rattle.value_dm.specs.declared.kind.Kind.{Kind}
use Rattle.schema_dm.specs.Naming.{Name}
use Rattle.names_dm.specs.declared.term.Term.{Term}
use Rattle.names_dm.specs.Statements.{Statement}
use Rattle.facts_dm.specs.Facts.{Fact, a_cell, a_class, a_domain, a_link, a_link_range, a_mark, a_node, a_property, a_range, an_object, triple_of}
use Rattle.store_dm.specs.Graphs.{GraphValue}
use Rattle.store_dm.specs.Terms.{term_at}
use Rattle.layouts_dm.specs.Outcomes.{Applies, Passes}
use Rattle.roles_dm.specs.Bad.{cause_of}
use Rattle.roles_dm.specs.Canonical.{IsCanonicalOf}
use Rattle.roles_dm.specs.Numbered.{AreNumbersOf}
use Rattle.roles_dm.specs.Numbers.{HasNumbers}
use Rattle.roles_dm.specs.Roles.{role_at}
use Rattle.roles_dm.specs.declared.cause.Cause.{Cause}
use Rattle.roles_dm.specs.declared.numbered.Numbered.{Numbered}
use Rattle.roles_dm.specs.declared.role.Role.{Role}
use Rattle.roles_dm.specs.declared.role.Role.TheVariants.{Class, Column, Link, Nothing}
use Rattle.roles_dm.specs.declared.seen.Firsts.{Firsts}
use Rattle.roles_dm.specs.declared.seen.Valued.{Valued}

abbrev pub same_pair : ℕ × ℕ → ℕ × ℕ → Bool
same_pair a b = nat_eq a.0 b.0 && nat_eq a.1 b.1

-- ---- the first objects

abbrev pub first_object : Firsts → ℕ → ℕ → Option ℕ
first_object firsts s p = get same_pair firsts.objects (s, p)

-- the object is noted where none was, and else it is told whether the first one is the same
abbrev pub NotesObject : Firsts → Firsts → Numbered → Bool → Type 0
NotesObject old new n told =
    MatchOption (first_object old n.subject n.predicate)
    (IsTrue told × ((s p : ℕ) → first_object new s p ≡ cond (same_pair (n.subject, n.predicate) (s, p)) (Some n.object) (first_object old s p)))
    (λ first. (IsTrue told ↔ (first ≡ n.object)) × ((s p : ℕ) → first_object new s p ≡ first_object old s p))

-- a node has one class, and one value in a column
abbrev pub IsSingle : Fact → Type 0
IsSingle (a_class t) = ⊥
IsSingle (a_property c) = ⊥
IsSingle (an_object l) = ⊥
IsSingle (a_domain i t) = ⊥
IsSingle (a_range c k) = ⊥
IsSingle (a_link_range l u) = ⊥
IsSingle (a_node n t) = Unit {0}
IsSingle (a_cell n c v) = Unit {0}
IsSingle (a_link n l m) = ⊥
IsSingle (a_mark n) = ⊥

abbrev pub SaysSingle : List ℕ → Statement → Type 0
SaysSingle base x = (f : Fact) × IsSingle f × (x ≡ triple_of base f)

-- of the triples before the place i that say a class of a node or a value
pub record AreFirsts (base : List ℕ) (g : GraphValue) (G : List Statement) (i : ℕ) (firsts : Firsts) : Type 0 where
  pub told : (n : Numbered) → first_object firsts n.subject n.predicate ≡ Some n.object
      → (j : ℕ) × (y : Statement) × (j < i) × (slice_get G j ≡ Some y) × AreNumbersOf g y n × SaysSingle base y
  pub kept : (j : ℕ) (y : Statement) (n : Numbered) → j < i → slice_get G j ≡ Some y → AreNumbersOf g y n → SaysSingle base y → first_object firsts n.subject n.predicate ≡ Some n.object

-- ---- what was looked up

abbrev pub column_kind : Role → Option Kind
column_kind (Column column) = Some column.kind
column_kind (Class t) = None
column_kind (Link link) = None
column_kind Nothing = None

-- of a column a literal of its kind in the canonical form, of any other property a class
abbrev pub CountsFor : GraphValue → List Role → Option Kind → ℕ → Type 0
CountsFor g roles (Some k) o = (x : Term) × (term_at g.terms o ≡ Some x) × IsCanonicalOf k x
CountsFor g roles None o = (t : Name) × (role_at roles o ≡ Some (Class t))

abbrev pub Counts : GraphValue → List Role → ℕ → ℕ → Type 0
Counts g roles p o = (role : Role) × (role_at roles p ≡ Some role) × CountsFor g roles (column_kind role) o

-- the property gives the subject such an object
abbrev pub HasCounted : GraphValue → List Role → ℕ → ℕ → Type 0
HasCounted g roles s p = (o : ℕ) × HasNumbers g s p o × Counts g roles p o

abbrev pub AreValued : GraphValue → List Role → Valued → Type 0
AreValued g roles valued = (s p : ℕ) → IsTrue (contains same_pair valued.pairs (s, p)) → HasCounted g roles s p

-- ---- whether a triple passes

-- it does, and what it said is noted, or the cause applies to it
abbrev pub Judges : List ℕ → GraphValue → List Role → List Statement → ℕ → Firsts → Valued → Option Cause → Type 0
Judges base g roles G i firsts valued found =
    MatchOption found (Passes base G i × AreFirsts base g G (suc i) firsts × AreValued g roles valued) (λ cause. Applies base G i (cause_of cause))
