-- The number that words give `bench` is at most 50,000.
use Rattle.std.proofs.Common.{◌≤◌, ℕ, List, [], ◌∷◌, Option, Some, None, Bool, true, false, chars, codes}
use Rattle.std.specs.Prelude.{IfSome, if◌then◌else◌}
use Rattle.std.specs.Option.{option_map}
use Rattle.std.specs.Str.{bytes_eq}
use Rattle.members_dm.specs.Elements.{Each}
use Rattle.value_dm.specs.declared.mode.NullMode.{NullMode}
use Rattle.graphs_dm.specs.declared.graph_name.GraphName.{GraphName}
use Rattle.graphs_dm.specs.declared.graph_name.GraphName.TheVariants as graph
use Rattle.cmd_dm.specs.Plans.{IsWithin}
use Rattle.cmd_dm.specs.Words.{append_of, ask_of, bench_of, check_of, clean_of, command_of, consistent_of, graph_command, graph_words, invert_of, mode_of, nulls_of, number_of, rows_of, show_of, sparql_of, translate_of}
use Rattle.cmd_dm.specs.declared.command.Command.{Command}
use Rattle.cmd_dm.specs.declared.command.Command.TheVariants.{Check, Clean, Append, Rows, Translate, Ask, Bench}
use Rattle.cmd_dm.proofs.Numbers.{few_persons}

mapped : {A : Type 0} (f : A → Command) → ((a : A) → IsWithin (f a)) → (o : Option A) → IfSome (option_map f o) IsWithin
mapped f each None = tt
mapped f each (Some a) = each a

-- the command behind the first of these names that is this one
abbrev first_named : List ℕ → List (List ℕ × Option Command) → Option Command
first_named name [] = None
first_named name (named ∷ others) = if bytes_eq name named.0 then named.1 else first_named name others

chosen : (b : Bool) (x y : Option Command) → IfSome x IsWithin → IfSome y IsWithin → IfSome (if b then x else y) IsWithin
chosen true x y h k = h
chosen false x y h k = k

named_within : (name : List ℕ) (commands : List (List ℕ × Option Command)) → Each (λ (named : List ℕ × Option Command). IfSome named.1 IsWithin) commands → IfSome (first_named name commands) IsWithin
named_within name [] h = tt
named_within name (named ∷ others) h = chosen (bytes_eq name named.0) named.1 (first_named name others) h.0 (named_within name others h.1)

graph_named : (name : GraphName) (base folder : List ℕ) (nulls : NullMode) → IsWithin (graph_command name base folder nulls)
graph_named graph.Direct base folder nulls = tt
graph_named graph.Map base folder nulls = tt
graph_named graph.MapKeys base folder nulls = tt

graph_within : (name : GraphName) (words : List (List ℕ)) → IfSome (graph_words name words) IsWithin
graph_within name [] = tt
graph_within name (base ∷ []) = tt
graph_within name (base ∷ folder ∷ last) = mapped (λ nulls. graph_command name (chars base) (chars folder) nulls) (graph_named name (chars base) (chars folder)) (nulls_of last)

check_within : (words : List (List ℕ)) → IfSome (check_of words) IsWithin
check_within [] = tt
check_within (folder ∷ last) = mapped (λ nulls. Check (chars folder) nulls) (λ nulls. tt) (nulls_of last)

clean_within : (words : List (List ℕ)) → IfSome (clean_of words) IsWithin
clean_within [] = tt
clean_within (folder ∷ []) = tt
clean_within (folder ∷ out ∷ last) = mapped (λ nulls. Clean (chars folder) (chars out) nulls) (λ nulls. tt) (nulls_of last)

append_within : (words : List (List ℕ)) → IfSome (append_of words) IsWithin
append_within [] = tt
append_within (base ∷ []) = tt
append_within (base ∷ folder ∷ []) = tt
append_within (base ∷ folder ∷ more ∷ last) = mapped (λ nulls. Append (chars base) (chars folder) (chars more) nulls) (λ nulls. tt) (nulls_of last)

invert_within : (words : List (List ℕ)) → IfSome (invert_of words) IsWithin
invert_within [] = tt
invert_within (base ∷ []) = tt
invert_within (base ∷ name ∷ []) = tt
invert_within (base ∷ name ∷ out ∷ []) = tt
invert_within (base ∷ name ∷ out ∷ word ∷ words) = tt

rows_within : (words : List (List ℕ)) → IfSome (rows_of words) IsWithin
rows_within [] = tt
rows_within (folder ∷ []) = tt
rows_within (folder ∷ query ∷ last) = mapped (λ nulls. Rows (chars folder) (chars query) nulls) (λ nulls. tt) (nulls_of last)

translate_within : (words : List (List ℕ)) → IfSome (translate_of words) IsWithin
translate_within [] = tt
translate_within (mode ∷ []) = tt
translate_within (mode ∷ base ∷ []) = tt
translate_within (mode ∷ base ∷ folder ∷ []) = tt
translate_within (word ∷ base ∷ folder ∷ query ∷ []) = mapped (λ mode. Translate mode (chars base) (chars folder) (chars query)) (λ mode. tt) (mode_of word)
translate_within (mode ∷ base ∷ folder ∷ query ∷ word ∷ words) = tt

ask_within : (words : List (List ℕ)) → IfSome (ask_of words) IsWithin
ask_within [] = tt
ask_within (mode ∷ []) = tt
ask_within (mode ∷ base ∷ []) = tt
ask_within (mode ∷ base ∷ folder ∷ []) = tt
ask_within (mode ∷ base ∷ folder ∷ name ∷ []) = tt
ask_within (word ∷ base ∷ folder ∷ name ∷ query ∷ []) = mapped (λ mode. Ask mode (chars base) (chars folder) (chars name) (chars query)) (λ mode. tt) (mode_of word)
ask_within (mode ∷ base ∷ folder ∷ name ∷ query ∷ word ∷ words) = tt

sparql_within : (words : List (List ℕ)) → IfSome (sparql_of words) IsWithin
sparql_within [] = tt
sparql_within (name ∷ []) = tt
sparql_within (name ∷ pattern ∷ []) = tt
sparql_within (name ∷ pattern ∷ word ∷ words) = tt

show_within : (words : List (List ℕ)) → IfSome (show_of words) IsWithin
show_within [] = tt
show_within (name ∷ []) = tt
show_within (name ∷ word ∷ words) = tt

consistent_within : (words : List (List ℕ)) → IfSome (consistent_of words) IsWithin
consistent_within [] = tt
consistent_within (name ∷ []) = tt
consistent_within (name ∷ word ∷ words) = tt

counted : (o : Option ℕ) → IfSome o (λ n. n ≤ 50000) → IfSome (option_map (λ n. Bench n) o) IsWithin
counted None few = tt
counted (Some n) few = few

bench_within : (words : List (List ℕ)) → IfSome (bench_of words) IsWithin
bench_within [] = tt
bench_within (word ∷ []) = counted (number_of word) (few_persons word)
bench_within (number ∷ word ∷ words) = tt

pub within_words : (words : List (List ℕ)) → IfSome (command_of words) IsWithin
within_words [] = tt
within_words (name ∷ words) =
    named_within name (
    (codes "direct", graph_words graph.Direct words) ∷ (codes "map", graph_words graph.Map words) ∷ (codes "map-keys", graph_words graph.MapKeys words) ∷ (codes "check", check_of words) ∷ (codes "clean", clean_of words) ∷ (codes "append", append_of words) ∷ (codes "invert", invert_of words) ∷ (codes "rows", rows_of words) ∷ (codes "translate", translate_of words) ∷ (codes "ask", ask_of words) ∷ (codes "sparql", sparql_of words) ∷ (codes "show", show_of words) ∷ (codes "consistent", consistent_of words) ∷ (codes "bench", bench_of words) ∷ []) (
      graph_within graph.Direct words,
      (graph_within graph.Map words, (graph_within graph.MapKeys words, (check_within words, (clean_within words, (append_within words, (invert_within words, (rows_within words, (translate_within words, (ask_within words, (sparql_within words, (show_within words, (consistent_within words, (bench_within words, tt))))))))))))),
    )
