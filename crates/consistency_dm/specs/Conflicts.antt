-- Triples that contradict a list of triples, and the verdict on the list.
use Rattle.std.specs.Prelude.{ℕ, ◌≡◌, ◌<◌, ◌+◌, ◌⊎◌, List, slice_get}
use Rattle.std.specs.declared.option.Option.TheVariants.{Some}
use Rattle.members_dm.specs.Membership.{IsIn}
use Rattle.names_dm.specs.Statements.{Statement}
use Rattle.names_dm.specs.declared.term.Term.TheVariants as term
use Rattle.facts_dm.specs.Vocabulary.{word_iri}
use Rattle.facts_dm.specs.declared.word.Word.TheVariants.{RdfsRange, OwlDifferentFrom}
use Rattle.consistency_dm.specs.Interpretations.{HasInterpretation, Interpretation, IsInterpretationOf, LetsIn, meaning, range_form}
use Rattle.consistency_dm.specs.declared.verdict.ConflictKind.{ConflictKind}
use Rattle.consistency_dm.specs.declared.verdict.ConflictKind.TheVariants.{SameNode, Range}
use Rattle.consistency_dm.specs.declared.verdict.Verdict.{Verdict}
use Rattle.consistency_dm.specs.declared.verdict.Verdict.TheVariants.{Yes, Conflict}

-- a node is said to differ from itself
abbrev pub IsSameNode : Statement → Type 0
IsSameNode x = (x.predicate ≡ word_iri OwlDifferentFrom) × (x.subject ≡ x.object)

-- a triple of the list, before it, behind it or itself, states a range of its predicate, and no interpretation lets its object
-- into that range
abbrev pub IsOutOfRange : List Statement → Statement → Type 0
IsOutOfRange triples x = (r : Statement) × IsIn r triples × (r.predicate ≡ word_iri RdfsRange) × (r.subject ≡ term.Iri x.predicate)
    × ((J : Interpretation) → IsInterpretationOf triples J → ¬ LetsIn J (range_form r.object) (meaning J x.object))

abbrev pub IsConflict : List Statement → Statement → Type 0
IsConflict triples x = IsSameNode x ⊎ IsOutOfRange triples x

-- a triple that is a conflict of both kinds is told as the first
abbrev pub HasKind : List Statement → Statement → ConflictKind → Type 0
HasKind triples x SameNode = IsSameNode x
HasKind triples x Range = IsOutOfRange triples x × (¬ IsSameNode x)

-- the triple of this number, counted from 1, is a conflict of the kind, and none before it is a conflict
pub record IsFirstConflict (triples : List Statement) (number : ℕ) (kind : ConflictKind) : Type 0 where
  pub place : ℕ
  pub triple : Statement
  pub counted : number ≡ place + 1
  pub stands : slice_get triples place ≡ Some triple
  pub is_conflict : HasKind triples triple kind
  pub none_before : (earlier : ℕ) (x : Statement) → earlier < place → slice_get triples earlier ≡ Some x → ¬ IsConflict triples x

-- the verdict on the list
abbrev pub IsVerdict : List Statement → Verdict → Type 0
IsVerdict triples Yes = HasInterpretation triples
IsVerdict triples (Conflict number kind) = IsFirstConflict triples number kind
