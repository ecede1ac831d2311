-- A document: its lines, each in the grammar, and their triples in order.
use Rattle.std.specs.Prelude.{◌≡◌, ℕ, List, [], ◌∷◌, ◌++◌, Option, option_to_list}
use Rattle.names_dm.specs.Statements.{Statement}
use Rattle.ntriples_reader_dm.specs.Grammar.{IsLine}
use Rattle.ntriples_reader_dm.specs.Lines.{lines}

-- each line is in the grammar, and these are their triples in order
abbrev pub AreTriples : List (List ℕ) → List Statement → Type 0
AreTriples [] triples = triples ≡ []
AreTriples (line ∷ ls) triples =
    (x : Option Statement) × (others : List Statement) × IsLine line x × AreTriples ls others × (triples ≡ option_to_list x ++ others)

abbrev pub IsDocument : List ℕ → List Statement → Type 0
IsDocument bytes triples = AreTriples (lines bytes) triples

abbrev pub limit : ℕ
limit = 16777216
