-- `clean FOLDER OUT`: the largest part of the folder's database that keeps its keys, stored as a folder, and then a line for each
-- row that was removed, and their count.
use Rattle.std.specs.Prelude.{ℕ, List, ◌∷◌, ◌++◌, length, map, codes, decimal}
use Rattle.std.specs.List.{flat_map}
use Rattle.outside_dm.specs.Storing.{Batch}
use Rattle.value_dm.specs.declared.mode.NullMode.{NullMode}
use Rattle.schema_dm.specs.declared.table.Table.{Table}
use Rattle.clean_dm.specs.declared.removal.Removal.{Removal}
use Rattle.cmd_dm.specs.Check.{violation_line}
use Rattle.cmd_dm.specs.Folder.{schema_file, shape_of}
use Rattle.cmd_dm.specs.Questions.{files_of, left_of, removals_of}
use Rattle.cmd_dm.specs.Script.{Script, Work, ask, write}
use Rattle.cmd_dm.specs.Steps.{folder_step}
use Rattle.cmd_dm.specs.declared.steps.LoadedFolder.{LoadedFolder}

-- the line that `check` has for the violation for which the row goes
abbrev pub removal_line : List Table → Removal → List ℕ
removal_line tables removal = violation_line tables (record { table = removal.table; row = removal.row; kind = removal.kind })

-- a line for each removal, and one for their count
unfoldable pub clean_text : List Table → List Removal → List ℕ
clean_text tables removals = flat_map (removal_line tables) removals ++ codes "removed " ++ decimal (length removals) ++ codes "\n"

-- the schema's file with the bytes that were loaded, then the tables' files, and then the lines
abbrev pub clean_work : List ℕ → LoadedFolder → List Removal → Batch → Work
clean_work out loaded removals files = record {
  files = (schema_file out, loaded.schema) ∷ files;
  text = clean_text loaded.database.tables removals;
}

-- its steps: schema, tables
abbrev pub clean_script : List ℕ → List ℕ → NullMode → Script
clean_script folder out mode =
    folder_step folder mode (λ loaded.
    ask (removals_of loaded.database) (λ removals.
    ask (left_of loaded.database removals) (λ rows.
    ask (files_of out (map shape_of loaded.database.tables) rows) (λ files.
    write (clean_work out loaded removals files)))))
