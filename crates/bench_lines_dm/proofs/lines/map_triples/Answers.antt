use Rattle.std.proofs.Common.{◌≡◌, ℕ, List, [], Option, Some, sym, subst, ap}
use Rattle.std.specs.Io.KnownBytes.{Appends}
use Rattle.outside_dm.specs.Sinks.{SinkState}
use Rattle.graphs_dm.specs.Graphs.{IsGraphText}
use Rattle.graphs_dm.specs.declared.graph_name.GraphName.TheVariants as graph
use Rattle.bench_lines_dm.proofs.lines.map_triples.Goals as goal

-- what is held behind nothing is the text
held_text : (old new : Option (List ℕ)) (bytes text : List ℕ) → old ≡ Some [] → new ≡ Some bytes → Appends old new text → bytes ≡ text
held_text old new bytes text first last h = subst (λ (o : Option (List ℕ)). Appends o (Some bytes) text) first (subst (λ (o : Option (List ℕ)). Appends old o text) last h)

pub returns-in-Ok-read_graph-clause-triples : goal.returns-in-Ok-read_graph-clause-triples
returns-in-Ok-read_graph-clause-triples c =
    let put = c.in-Ok.ensures.graph in
    let text : c.bytes.result.now ≡ put.text = held_text _ _ c.bytes.result.now put.text (ap (λ (s : SinkState). s.held) c.new-out.ensures) c.bytes.ensures put.writes.puts in
    c.texts_read_back.ensures.exact graph.Map c.bytes.result.now c.in-Ok-read_graph.triples
    (subst (λ (t : List ℕ). IsGraphText graph.Map c.args.base.now c.args.database.now t) (sym text) put.is_text) c.in-Ok-read_graph.ensures.answer.0
