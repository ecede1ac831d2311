-- `bench` tells one text of a database, and some text of the benchmark's.
use Rattle.std.proofs.Common.{◌≡◌, ◌∙◌, ◌≤◌, ℕ, List, refl, sym, ap, subst, length}
use Rattle.std.proofs.lemmas.Str.{IsUtf8-from_ascii}
use Rattle.names_dm.specs.Namespaces.{is_base}
use Rattle.names_dm.specs.Statements.{Statement}
use Rattle.names_dm.specs.Terminals.{is_iri}
use Rattle.ntriples_reader_dm.specs.Lawful.{IsIri}
use Rattle.ntriples_reader_dm.specs.Document.{IsDocument}
use Rattle.ntriples_reader_dm.specs.Lines.{lines}
use Rattle.ntriples_reader_dm.proofs.Cuts.{triples_one}
use Rattle.table_csv.specs.Databases.{Data, IsDatabase}
use Rattle.graphs_dm.specs.declared.graph_name.GraphName.TheVariants.{Map}
use Rattle.graphs_dm.proofs.GraphLevels.{graph_text_unique, some_text}
use Rattle.graph_texts_dm.proofs.Texts.{base_lawful, reads_back}
use Rattle.bench_dm.specs.Generated.{generated}
use Rattle.bench_dm.proofs.GeneratedKeys.{keeps_keys}
use Rattle.bench_dm.proofs.GeneratedRows.{is_database}
use Rattle.bench_dm.proofs.Texts.{ascii_letters, chars_letters}
use Rattle.bench_lines_dm.specs.Bench.{HasTriples, IsBenchText, answer_query, base_text, bench_text, joined_query, row_count}
use Rattle.bench_lines_dm.proofs.Counts.{tuples_one, tuples_some}
use Rattle.bench_lines_dm.proofs.FormedQueries.{answer_formed, joined_formed}

triples_are_one : (base : List ℕ) (D : Data) (m n : ℕ) → HasTriples base D m → HasTriples base D n → m ≡ n
triples_are_one base D m n h k =
    let texts : k.text ≡ h.text = graph_text_unique Map base D k.text h.text k.is_text h.is_text in
    let says : IsDocument h.text k.triples = subst (λ (text : List ℕ). IsDocument text k.triples) texts k.says in
    h.counted ∙ ap (λ (triples : List Statement). length triples) (triples_one (lines h.text) h.triples k.triples h.says says) ∙ sym k.counted

pub bench_text_one : (D : Data) (text other : List ℕ) → IsBenchText D text → IsBenchText D other → text ≡ other
bench_text_one D text other h k =
    let triples : h.triples ≡ k.triples = triples_are_one base_text D h.triples k.triples h.has_triples k.has_triples in
    let answers : h.answers ≡ k.answers = tuples_one D answer_query h.answers k.answers h.has_answers k.has_answers in
    let joined : h.joined ≡ k.joined = tuples_one D joined_query h.joined k.joined h.has_joined k.has_joined in
    h.lines ∙ (λ i. bench_text (row_count D) (triples i) (answers i) (joined i)) ∙ sym k.lines

base_iri : IsIri base_text
unfolding is_base is_iri
base_iri = base_lawful base_text base_text refl (chars_letters base_text refl) (IsUtf8-from_ascii base_text (ascii_letters base_text refl))

pub bench_text_some : (n : ℕ) → n ≤ 50000 → ¬ ((text : List ℕ) → ¬ IsBenchText (generated n) text)
bench_text_some n small none =
    let db : IsDatabase (generated n) = is_database n small in
    let graph = some_text Map base_text (generated n) db (keeps_keys n) in
    let read = reads_back base_text base_iri (generated n) db Map graph.0 graph.1 in
    tuples_some (generated n) db answer_query answer_formed.faultless (λ answers has_answers.
    tuples_some (generated n) db joined_query joined_formed.faultless (λ joined has_joined.
    none (bench_text (row_count (generated n)) (length read.0) answers joined) (record {
      triples = length read.0;
      answers = answers;
      joined = joined;
      has_triples = record { text = graph.0; triples = read.0; is_text = graph.1; says = read.1; counted = refl };
      has_answers = has_answers;
      has_joined = has_joined;
      lines = refl;
    })))
