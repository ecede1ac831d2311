-- The texts of cells, in bytes (after SPARQL 1.1 Query Results CSV and TSV Formats, section 4).
use Rattle.std.specs.Prelude.{ℕ, List, [], ◌∷◌, ◌==◌, Option, Some, None, codes, encode_utf8_all, if◌then◌else◌}
use Rattle.std.specs.List.{flat_map}
use Rattle.names_dm.specs.declared.term.Term.{Term}
use Rattle.ntriples_dm.specs.Written.{term_text}

-- a tab is written `\t`, and every other byte as it is
abbrev pub tabbed : ℕ → List ℕ
tabbed byte = if byte == 9 then codes "\\t" else byte ∷ []

-- the written form of the term, where there is one
abbrev pub cell_text : Option Term → List ℕ
cell_text None = []
cell_text (Some term) = flat_map tabbed (term_text term)

-- a question mark and the variable's name
abbrev pub name_cell : List ℕ → List ℕ
name_cell name = 63 ∷ encode_utf8_all name
