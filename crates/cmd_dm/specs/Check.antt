-- `check FOLDER`: the violated keys of the folder's database, a line each, and then their count.
use Rattle.std.specs.Prelude.{ℕ, ◌-◌, List, ◌++◌, length, codes, decimal, encode_utf8_all}
use Rattle.std.specs.List.{flat_map}
use Rattle.value_dm.specs.declared.mode.NullMode.{NullMode}
use Rattle.names_dm.specs.IriSafe.{safe_form}
use Rattle.schema_dm.specs.Schemas.{table_at}
use Rattle.schema_dm.specs.declared.table.Table.{Table}
use Rattle.keys_dm.specs.declared.violation.Violation.{Violation}
use Rattle.keys_dm.specs.declared.violation.ViolationKind.{ViolationKind}
use Rattle.keys_dm.specs.declared.violation.ViolationKind.TheVariants.{NullKey, RepeatedKey, RepeatedUnique, Dangling}
use Rattle.cmd_dm.specs.Questions.{violations_of}
use Rattle.cmd_dm.specs.Script.{Script, ask, write, text_work}
use Rattle.cmd_dm.specs.Steps.{database_step}

-- the word of the kind, and the number of the key where a table can have several
abbrev pub kind_text : ViolationKind → List ℕ
kind_text NullKey = codes "null-key"
kind_text RepeatedKey = codes "repeated-key"
kind_text (RepeatedUnique key) = codes "repeated-unique " ++ decimal key
kind_text (Dangling key) = codes "dangling " ++ decimal key

-- the table's name in its IRI-safe form, the number of the row, and the kind
unfoldable pub violation_line : List Table → Violation → List ℕ
violation_line tables violation =
    encode_utf8_all (safe_form (table_at tables (violation.table - 1)).name) ++ codes " " ++ decimal violation.row ++ codes " " ++ kind_text violation.kind ++ codes "\n"

-- a line for each violation, and one for their count
unfoldable pub check_text : List Table → List Violation → List ℕ
check_text tables found = flat_map (violation_line tables) found ++ codes "violations " ++ decimal (length found) ++ codes "\n"

-- its steps: schema, tables
abbrev pub check_script : List ℕ → NullMode → Script
check_script folder mode = database_step folder mode (λ D. ask (violations_of D) (λ found. write (text_work (check_text D.tables found))))
