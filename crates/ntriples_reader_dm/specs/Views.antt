-- What the functions that read return, against what reading gives.
use Rattle.std.specs.Prelude.{◌≡◌, ℕ, ◌||◌, if◌then◌else◌, List, ◌∷◌, ◌++◌, Option, Some, None, Bool, true, not, Result, Ok, Err}
use Rattle.std.specs.List.{list_all}
use Rattle.names_dm.specs.Statements.{Statement}
use Rattle.names_dm.specs.Terminals.{is_forbidden}
use Rattle.ntriples_dm.specs.Written.{is_escaped}
use Rattle.lanes_dm.specs.ByteSet.{has_byte}
use Rattle.ntriples_reader_dm.specs.declared.fault.LineFault.{LineFault}
use Rattle.ntriples_reader_dm.specs.declared.fault.LineFault.TheVariants.{Memory, Bad}
use Rattle.ntriples_reader_dm.specs.declared.classes.Kind.{Kind}
use Rattle.ntriples_reader_dm.specs.declared.classes.Classes.{Classes}
use Rattle.ntriples_reader_dm.specs.declared.classes.Kind.TheVariants as kinds
use Rattle.ntriples_reader_dm.specs.Characters.{escape_value}
use Rattle.ntriples_reader_dm.specs.Grammar.{IsLine}
use Rattle.ntriples_reader_dm.specs.Reading.{Read, begins, only, valued_at, number_behind, iri_one, text_one, through}

-- reading gives nothing; or memory ran out
abbrev pub Fails : {Y : Type 0} → LineFault → Option Y → Type 0
Fails Memory read = Unit {0}
Fails Bad read = read ≡ None

-- the value that reading gives, seen by the view; or else it fails
abbrev pub Gives : {X Y : Type 0} → (X → Y) → Result X LineFault → Option Y → Type 0
Gives view (Ok x) read = read ≡ Some (view x)
Gives view (Err e) read = Fails e read

-- what can't stand for itself
abbrev pub special : Kind → ℕ → Bool
special kinds.Iri c = is_forbidden c
special kinds.Quoted c = is_escaped c

abbrev pub close_of : Kind → ℕ
close_of kinds.Iri = 62
close_of kinds.Quoted = 34

abbrev pub one_of : Kind → List ℕ → Read ℕ
one_of kinds.Iri ts = iri_one ts
one_of kinds.Quoted ts = text_one ts

-- behind a backslash
abbrev pub escape_of : Kind → List ℕ → Read ℕ
escape_of kinds.Iri ts = only (λ c. not (is_forbidden c)) (number_behind ts)
escape_of kinds.Quoted ts = if begins 117 ts || begins 85 ts then number_behind ts else valued_at escape_value ts

-- behind characters that were read before
abbrev pub before : List ℕ → Read (List ℕ) → Read (List ℕ)
before front read = through (λ cs. front ++ cs) read

-- no character is of the class
abbrev pub NoneIn : List Bool → List ℕ → Type 0
NoneIn class cs = list_all (λ c. not (has_byte class c)) cs ≡ true

-- the first character of the class
pub record FindsFirst (class : List Bool) (cs front : List ℕ) (c : ℕ) (rest : List ℕ) : Type 0 where
  pub whole : cs ≡ front ++ c ∷ rest
  pub before : NoneIn class front
  pub here : has_byte class c ≡ true

-- the line is in the grammar, and this is what it says; or it isn't
abbrev pub IsLineAnswer : List ℕ → Result (Option Statement) LineFault → Type 0
IsLineAnswer bytes (Ok x) = IsLine bytes x
IsLineAnswer bytes (Err Memory) = Unit {0}
IsLineAnswer bytes (Err Bad) = (x : Option Statement) → IsLine bytes x → ⊥

-- the sets are those of the two kinds
pub record AreClasses (classes : Classes) : Type 0 where
  pub iri : (x : ℕ) → has_byte classes.iri x ≡ special kinds.Iri x
  pub quoted : (x : ℕ) → has_byte classes.quoted x ≡ special kinds.Quoted x

-- the characters are some, and then these
pub record EndsWith (text rest : List ℕ) : Type 0 where
  pub front : List ℕ
  pub whole : text ≡ front ++ rest
