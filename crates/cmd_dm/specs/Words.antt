-- The words of each command.
use Rattle.std.specs.Prelude.{ℕ, ◌&&◌, nat_le, List, [], ◌∷◌, Option, Some, None, chars, codes, if◌then◌else◌}
use Rattle.std.specs.Option.{option_map}
use Rattle.std.specs.Str.{all_ascii_digits, bytes_eq}
use Rattle.std.specs.Str.Parse.{digits_value}
use Rattle.value_dm.specs.declared.mode.NullMode.{NullMode}
use Rattle.value_dm.specs.declared.mode.NullMode.TheVariants.{Plain, EmptyNull}
use Rattle.algebra_dm.specs.declared.query.Mode.{Mode}
use Rattle.algebra_dm.specs.declared.query.Mode.TheVariants as modes
use Rattle.graphs_dm.specs.declared.graph_name.GraphName.{GraphName}
use Rattle.graphs_dm.specs.declared.graph_name.GraphName.TheVariants as graph
use Rattle.cmd_dm.specs.declared.command.Command.{Command}
use Rattle.cmd_dm.specs.declared.command.Command.TheVariants.{Direct, Map, MapKeys, Check, Show, Consistent, Clean, Append, Invert, Rows, Translate, Ask, Sparql, Bench}

-- [empty-null]
abbrev pub nulls_of : List (List ℕ) → Option NullMode
nulls_of [] = Some Plain
nulls_of (word ∷ []) = if bytes_eq word (codes "empty-null") then Some EmptyNull else None
nulls_of words = None

-- the command that writes the graph of this name
abbrev pub graph_command : GraphName → List ℕ → List ℕ → NullMode → Command
graph_command graph.Direct base folder nulls = Direct base folder nulls
graph_command graph.Map base folder nulls = Map base folder nulls
graph_command graph.MapKeys base folder nulls = MapKeys base folder nulls

-- BASE FOLDER [empty-null]
abbrev pub graph_words : GraphName → List (List ℕ) → Option Command
graph_words name (base ∷ folder ∷ last) = option_map (λ nulls. graph_command name (chars base) (chars folder) nulls) (nulls_of last)
graph_words name words = None

-- FOLDER [empty-null]
abbrev pub check_of : List (List ℕ) → Option Command
check_of (folder ∷ last) = option_map (λ nulls. Check (chars folder) nulls) (nulls_of last)
check_of words = None

-- FOLDER OUT [empty-null]
abbrev pub clean_of : List (List ℕ) → Option Command
clean_of (folder ∷ out ∷ last) = option_map (λ nulls. Clean (chars folder) (chars out) nulls) (nulls_of last)
clean_of words = None

-- BASE FOLDER MORE [empty-null]
abbrev pub append_of : List (List ℕ) → Option Command
append_of (base ∷ folder ∷ more ∷ last) = option_map (λ nulls. Append (chars base) (chars folder) (chars more) nulls) (nulls_of last)
append_of words = None

-- GRAPH
abbrev pub show_of : List (List ℕ) → Option Command
show_of (name ∷ []) = Some (Show (chars name))
show_of words = None

-- GRAPH
abbrev pub consistent_of : List (List ℕ) → Option Command
consistent_of (name ∷ []) = Some (Consistent (chars name))
consistent_of words = None

-- BASE GRAPH OUT
abbrev pub invert_of : List (List ℕ) → Option Command
invert_of (base ∷ name ∷ out ∷ []) = Some (Invert (chars base) (chars name) (chars out))
invert_of words = None

-- FOLDER QUERY [empty-null]
abbrev pub rows_of : List (List ℕ) → Option Command
rows_of (folder ∷ query ∷ last) = option_map (λ nulls. Rows (chars folder) (chars query) nulls) (nulls_of last)
rows_of words = None

-- map or map-keys
abbrev pub mode_of : List ℕ → Option Mode
mode_of word = if bytes_eq word (codes "map") then Some modes.Map else if bytes_eq word (codes "map-keys") then Some modes.MapKeys else None

-- MODE BASE FOLDER QUERY
abbrev pub translate_of : List (List ℕ) → Option Command
translate_of (word ∷ base ∷ folder ∷ query ∷ []) = option_map (λ mode. Translate mode (chars base) (chars folder) (chars query)) (mode_of word)
translate_of words = None

-- MODE BASE FOLDER GRAPH QUERY
abbrev pub ask_of : List (List ℕ) → Option Command
ask_of (word ∷ base ∷ folder ∷ name ∷ query ∷ []) = option_map (λ mode. Ask mode (chars base) (chars folder) (chars name) (chars query)) (mode_of word)
ask_of words = None

-- GRAPH PATTERN
abbrev pub sparql_of : List (List ℕ) → Option Command
sparql_of (name ∷ pattern ∷ []) = Some (Sparql (chars name) (chars pattern))
sparql_of words = None

-- N: a decimal digit other than 0 and then digits, a number up to 50,000
abbrev pub number_of : List ℕ → Option ℕ
number_of [] = None
number_of (digit ∷ digits) =
    let number = digits_value 10 (digit ∷ digits) in
    if nat_le 49 digit && (all_ascii_digits (digit ∷ digits) && nat_le number 50000) then Some number else None

abbrev pub bench_of : List (List ℕ) → Option Command
bench_of (word ∷ []) = option_map (λ n. Bench n) (number_of word)
bench_of words = None

-- the command that words stand for: its name, and then exactly its words
abbrev pub command_of : List (List ℕ) → Option Command
command_of [] = None
command_of (name ∷ words) =
    if bytes_eq name (codes "direct") then graph_words graph.Direct words else
    if bytes_eq name (codes "map") then graph_words graph.Map words else
    if bytes_eq name (codes "map-keys") then graph_words graph.MapKeys words else
    if bytes_eq name (codes "check") then check_of words else
    if bytes_eq name (codes "clean") then clean_of words else
    if bytes_eq name (codes "append") then append_of words else
    if bytes_eq name (codes "invert") then invert_of words else
    if bytes_eq name (codes "rows") then rows_of words else
    if bytes_eq name (codes "translate") then translate_of words else
    if bytes_eq name (codes "ask") then ask_of words else
    if bytes_eq name (codes "sparql") then sparql_of words else
    if bytes_eq name (codes "show") then show_of words else
    if bytes_eq name (codes "consistent") then consistent_of words else
    if bytes_eq name (codes "bench") then bench_of words else None
