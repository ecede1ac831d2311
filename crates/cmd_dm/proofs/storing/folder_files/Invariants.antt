use Rattle.cmd_dm.specs.Folder.{schema_file}
use Rattle.cmd_dm.proofs.FileLemmas.{FilesSoFar}
use Rattle.cmd_dm.proofs.storing.folder_files.Given as goal

-- the files are those of the schema and of the first tables
abbrev pub invariant-loop-place : goal.invariant-loop-place
invariant-loop-place l = FilesSoFar l.folder (schema_file l.folder, l.fn.schema) l.tables l.rows l.place l.files
