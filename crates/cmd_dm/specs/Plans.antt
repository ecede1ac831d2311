-- The commands: each as a script, with the devices that it writes to.
use Rattle.std.specs.Prelude.{◌≡◌, ◌≤◌, ℕ, List, Option, Some, None, IfSome, encode_utf8_all}
use Rattle.outside_dm.specs.Shelves.{Files}
use Rattle.graphs_dm.specs.declared.graph_name.GraphName.TheVariants as graph
use Rattle.cmd_dm.specs.Append.{append_script}
use Rattle.cmd_dm.specs.Ask.{ask_script, translate_script}
use Rattle.cmd_dm.specs.Bench.{bench_script}
use Rattle.cmd_dm.specs.Check.{check_script}
use Rattle.cmd_dm.specs.Consistent.{consistent_script}
use Rattle.cmd_dm.specs.Clean.{clean_script}
use Rattle.cmd_dm.specs.GraphScript.{graph_script}
use Rattle.cmd_dm.specs.Folder.{schema_file}
use Rattle.cmd_dm.specs.Ending.{Target, to_both, to_output, to_shelf}
use Rattle.cmd_dm.specs.Invert.{invert_script}
use Rattle.cmd_dm.specs.Rows.{rows_script}
use Rattle.cmd_dm.specs.Show.{show_script}
use Rattle.cmd_dm.specs.Sparql.{sparql_script}
use Rattle.cmd_dm.specs.Script.{Script, Outcome, usage, Comes}
use Rattle.cmd_dm.specs.declared.status.File.{File}
use Rattle.cmd_dm.specs.declared.status.File.TheVariants.{Schema, Query, Graph, Pattern}
use Rattle.cmd_dm.specs.declared.command.Command.{Command}
use Rattle.cmd_dm.specs.declared.command.Command.TheVariants.{Direct, Map, MapKeys, Check, Show, Consistent, Clean, Append, Invert, Rows, Translate, Ask, Sparql, Bench}

pub record Plan : Type 0 where
  pub target : Target
  pub script : Script

abbrev pub plan_of : Command → Plan
plan_of (Direct base folder nulls) = record { target = to_output; script = graph_script graph.Direct base folder nulls }
plan_of (Map base folder nulls) = record { target = to_output; script = graph_script graph.Map base folder nulls }
plan_of (MapKeys base folder nulls) = record { target = to_output; script = graph_script graph.MapKeys base folder nulls }
plan_of (Check folder nulls) = record { target = to_output; script = check_script folder nulls }
plan_of (Clean folder out nulls) = record { target = to_both; script = clean_script folder out nulls }
plan_of (Append base folder more nulls) = record { target = to_output; script = append_script base folder more nulls }
plan_of (Invert base name out) = record { target = to_shelf; script = invert_script base name out }
plan_of (Rows folder name nulls) = record { target = to_output; script = rows_script folder name nulls }
plan_of (Translate mode base folder name) = record { target = to_output; script = translate_script mode base folder name }
plan_of (Ask mode base folder document name) = record { target = to_output; script = ask_script mode base folder document name }
plan_of (Sparql document name) = record { target = to_output; script = sparql_script document name }
plan_of (Show name) = record { target = to_output; script = show_script name }
plan_of (Consistent name) = record { target = to_output; script = consistent_script name }
plan_of (Bench n) = record { target = to_output; script = bench_script n }

-- the number of the benchmark is one that words give
abbrev pub IsWithin : Command → Type 0
IsWithin (Bench n) = n ≤ 50000
IsWithin _ = Unit {0}

-- the schema's file, where it is the file
abbrev pub folder_file : List ℕ → File → Option (List ℕ)
folder_file folder Schema = Some (schema_file folder)
folder_file folder _ = None

-- the graph's file, where it is the file
abbrev pub graph_file : List ℕ → File → Option (List ℕ)
graph_file name Graph = Some (encode_utf8_all name)
graph_file name _ = None

-- the schema's file or the query's, where it is the file
abbrev pub rows_file : List ℕ → List ℕ → File → Option (List ℕ)
rows_file folder name Schema = Some (schema_file folder)
rows_file folder name Query = Some (encode_utf8_all name)
rows_file folder name _ = None

-- the file of the schema, the query or the graph, where it is the file
abbrev pub ask_file : List ℕ → List ℕ → List ℕ → File → Option (List ℕ)
ask_file folder document name Graph = Some (encode_utf8_all document)
ask_file folder document name file = rows_file folder name file

-- the file of the graph or the pattern, where it is the file
abbrev pub sparql_file : List ℕ → List ℕ → File → Option (List ℕ)
sparql_file document name Pattern = Some (encode_utf8_all name)
sparql_file document name file = graph_file document file

-- the names of the files that the words alone name
abbrev pub file_of : Command → File → Option (List ℕ)
file_of (Direct base folder nulls) file = folder_file folder file
file_of (Map base folder nulls) file = folder_file folder file
file_of (MapKeys base folder nulls) file = folder_file folder file
file_of (Check folder nulls) file = folder_file folder file
file_of (Clean folder out nulls) file = folder_file folder file
file_of (Append base folder more nulls) file = folder_file folder file
file_of (Invert base name out) file = graph_file name file
file_of (Rows folder name nulls) file = rows_file folder name file
file_of (Translate mode base folder name) file = rows_file folder name file
file_of (Ask mode base folder document name) file = ask_file folder document name file
file_of (Sparql document name) file = sparql_file document name file
file_of (Show name) file = graph_file name file
file_of (Consistent name) file = graph_file name file
file_of (Bench n) file = None

-- this is the name of the file, where the words alone name it
abbrev pub NamesFile : Command → File → List ℕ → Type 0
NamesFile command file name = IfSome (file_of command file) (λ named. name ≡ named)

-- this comes of words, over these files
abbrev pub IsOutcome : Files → Option Command → Outcome → Type 0
IsOutcome files None outcome = outcome ≡ usage
IsOutcome files (Some command) outcome = Comes files (plan_of command).script outcome
