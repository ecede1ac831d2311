-- The answer to a document: its triples, or why it has none.
use Rattle.std.specs.Prelude.{◌≡◌, ◌≢◌, ◌≤◌, ◌<◌, ◌+◌, ℕ, List, ◌∷◌, ◌++◌, Option, Result, Ok, Err, length}
use Rattle.names_dm.specs.Statements.{Statement}
use Rattle.ntriples_reader_dm.specs.Document.{AreTriples, IsDocument, limit}
use Rattle.ntriples_reader_dm.specs.Grammar.{IsLine}
use Rattle.ntriples_reader_dm.specs.Lines.{lines}
use Rattle.ntriples_reader_dm.specs.declared.fault.GraphError.{GraphError}
use Rattle.ntriples_reader_dm.specs.declared.fault.GraphError.TheVariants.{BadLine, TooManyTriples, Memory}

-- the lines in front say triples, no more than the limit, and the line behind them, with this number, is in no rule of the grammar
pub record IsFirstBadLine (bytes : List ℕ) (number : ℕ) : Type 0 where
  pub front : List (List ℕ)
  pub bad : List ℕ
  pub rest : List (List ℕ)
  pub triples : List Statement
  pub whole : lines bytes ≡ front ++ bad ∷ rest
  pub says : AreTriples front triples
  pub within : length triples ≤ limit
  pub never : (x : Option Statement) → IsLine bad x → ⊥
  pub counted : number ≡ length front + 1

-- lines in front say more triples than the limit
pub record HasTooManyTriples (bytes : List ℕ) : Type 0 where
  pub front : List (List ℕ)
  pub rest : List (List ℕ)
  pub triples : List Statement
  pub whole : lines bytes ≡ front ++ rest
  pub says : AreTriples front triples
  pub above : limit < length triples

abbrev pub IsAnswer : List ℕ → Result (List Statement) GraphError → Type 0
IsAnswer bytes (Ok triples) = IsDocument bytes triples × (length triples ≤ limit)
IsAnswer bytes (Err (BadLine number)) = IsFirstBadLine bytes number
IsAnswer bytes (Err TooManyTriples) = HasTooManyTriples bytes
IsAnswer bytes (Err Memory) = Unit {0}

-- there is one answer alone but for want of memory
abbrev pub HasOneAnswer : List ℕ → Type 0
HasOneAnswer bytes = (first second : Result (List Statement) GraphError) → IsAnswer bytes first → IsAnswer bytes second → first ≢ Err Memory → second ≢ Err Memory → first ≡ second

-- these triples, or want of memory
abbrev pub GivesBack : List Statement → Result (List Statement) GraphError → Type 0
GivesBack triples (Ok read) = read ≡ triples
GivesBack triples (Err Memory) = Unit {0}
GivesBack triples (Err _) = ⊥
