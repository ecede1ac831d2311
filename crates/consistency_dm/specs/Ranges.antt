-- The stated ranges as they are looked up: in the order of their properties, and under a property in the order of what they ask.
use Rattle.std.specs.Prelude.{ℕ, ◌≡◌, ◌≤◌, ◌<◌, ◌++◌, Bool, true, false, List, [], ◌∷◌, Option, if◌then◌else◌, length, map, nat_eq, option_to_list, slice_index_or}
use Rattle.std.specs.declared.option.Option.TheVariants.{None, Some}
use Rattle.std.specs.declared.cmp.Ordering.{Ordering}
use Rattle.std.specs.Cmp.Lexicographic.{pointwise}
use Rattle.std.specs.Option.{option_cmp}
use Rattle.std.specs.Ordering.{is_lt, ordering_then}
use Rattle.members_dm.specs.Membership.{IsIn}
use Rattle.value_dm.specs.Order.{byte_cmp}
use Rattle.names_dm.specs.Literals.{xsd_string}
use Rattle.names_dm.specs.Statements.{Statement}
use Rattle.names_dm.specs.declared.literal.LiteralType.{LiteralType}
use Rattle.names_dm.specs.declared.literal.LiteralType.TheVariants.{Plain, Typed, Tagged}
use Rattle.names_dm.specs.declared.term.Term.{Term}
use Rattle.names_dm.specs.declared.term.Term.TheVariants as term
use Rattle.facts_dm.specs.Vocabulary.{word_iri}
use Rattle.facts_dm.specs.declared.word.Word.TheVariants.{RdfsRange}
use Rattle.consistency_dm.specs.Interpretations.{RangeForm, anything, literals_of, members_of, range_form}
use Rattle.consistency_dm.specs.Conflicts.{IsSameNode}
use Rattle.consistency_dm.specs.declared.verdict.ConflictKind.{ConflictKind}
use Rattle.consistency_dm.specs.declared.verdict.ConflictKind.TheVariants.{SameNode, Range}
use Rattle.consistency_dm.specs.declared.range.Demand.{Demand}
use Rattle.consistency_dm.specs.declared.range.Demand.TheVariants.{Individual, LiteralOf}
use Rattle.consistency_dm.specs.declared.range.StatedRange.{StatedRange}

-- what is asked of the objects of a property: literals of a datatype, or None where it is individuals
pub record Asks : Type 0 where
  pub property : List ℕ
  pub datatype : Option (List ℕ)

abbrev pub datatype_of : Demand → Option (List ℕ)
datatype_of Individual = None
datatype_of (LiteralOf datatype) = Some datatype.now

abbrev pub datatype_in : Option Demand → Option (Option (List ℕ))
datatype_in None = None
datatype_in (Some demand) = Some (datatype_of demand)

abbrev pub asks_of : StatedRange → Asks
asks_of range = record { property = range.property.now; datatype = datatype_of range.demand }

abbrev pub asks_in : Option StatedRange → Option Asks
asks_in None = None
asks_in (Some range) = Some (asks_of range)

-- what a range asks, if anything
abbrev pub form_asks : RangeForm → Option (Option (List ℕ))
form_asks (literals_of datatype) = Some (Some datatype)
form_asks anything = None
form_asks (members_of c) = Some None

abbrev pub subject_asks : Term → Option (Option (List ℕ)) → Option Asks
subject_asks (term.Iri property) (Some datatype) = Some (record { property = property; datatype = datatype })
subject_asks (term.Iri property) None = None
subject_asks (term.Blank label) asked = None
subject_asks (term.Literal value) asked = None

-- what the triple asks of the objects of a property, if anything
abbrev pub stated : Statement → Option Asks
stated x = if pointwise nat_eq x.predicate (word_iri RdfsRange) then subject_asks x.subject (form_asks (range_form x.object)) else None

-- what all triples ask, in their order
abbrev pub all_stated : List Statement → List Asks
all_stated [] = []
all_stated (x ∷ triples) = option_to_list (stated x) ++ all_stated triples

-- ---- their order

abbrev pub asks_cmp : Asks → Asks → Ordering
asks_cmp a b = ordering_then (byte_cmp a.property b.property) (option_cmp byte_cmp a.datatype b.datatype)

abbrev pub AreRising : List StatedRange → Type 0
AreRising ranges = (i j : ℕ) (d : StatedRange) → i ≤ j → j < length ranges → is_lt (asks_cmp (asks_of (slice_index_or ranges j d)) (asks_of (slice_index_or ranges i d))) ≡ false

-- exactly what the triples ask, in rising order
pub record AreRangesOf (triples : List Statement) (ranges : List StatedRange) : Type 0 where
  pub exact : (a : Asks) → IsIn a (map asks_of ranges) → IsIn a (all_stated triples)
  pub all : (a : Asks) → IsIn a (all_stated triples) → IsIn a (map asks_of ranges)
  pub rising : AreRising ranges

-- ---- objects

abbrev pub has_datatype : LiteralType → List ℕ → Bool
has_datatype Plain datatype = pointwise nat_eq datatype xsd_string
has_datatype (Typed own) datatype = pointwise nat_eq datatype own
has_datatype (Tagged tag) datatype = false

-- the object is let in
abbrev pub is_let_in : Option (List ℕ) → Term → Bool
is_let_in None (term.Iri text) = true
is_let_in None (term.Blank label) = true
is_let_in None (term.Literal value) = false
is_let_in (Some datatype) (term.Iri text) = false
is_let_in (Some datatype) (term.Blank label) = false
is_let_in (Some datatype) (term.Literal value) = has_datatype value.kind datatype

-- something is asked of the objects of the triple's predicate that doesn't let its object in
abbrev pub IsKeptOut : List Statement → Statement → Type 0
IsKeptOut triples x = (a : Asks) × IsIn a (all_stated triples) × (a.property ≡ x.predicate) × (is_let_in a.datatype x.object ≡ false)

-- the kind of conflict that the triple is told as, if any
abbrev pub IsToldAs : List Statement → Statement → Option ConflictKind → Type 0
IsToldAs triples x None = (¬ IsSameNode x) × (¬ IsKeptOut triples x)
IsToldAs triples x (Some SameNode) = IsSameNode x
IsToldAs triples x (Some Range) = IsKeptOut triples x × (¬ IsSameNode x)
