-- A graph's text is a document of exactly the graph's triples.
use Rattle.std.proofs.Common.{◌≡◌, ℕ, List, chars, sym, subst, true}
use Rattle.std.specs.Prelude.{IsUtf8}
use Rattle.std.proofs.lemmas.Str.{scalars-chars}
use Rattle.value_dm.specs.Texts.{IsText}
use Rattle.members_dm.proofs.AnyLemmas.{all_from_items}
use Rattle.names_dm.specs.Namespaces.{is_base}
use Rattle.names_dm.specs.Statements.{Statement}
use Rattle.names_dm.proofs.SafeForms.{is_iri-base}
use Rattle.table_csv.specs.Databases.{Data, IsDatabase}
use Rattle.graphs_dm.specs.Graphs.{AreTriplesOf, HasItsTriples, IsGraphText}
use Rattle.graphs_dm.specs.declared.graph_name.GraphName.{GraphName}
use Rattle.graphs_dm.proofs.GraphLevels.{its_triples}
use Rattle.ntriples_reader_dm.specs.Document.{IsDocument}
use Rattle.ntriples_reader_dm.specs.Lawful.{IsIri, IsLawful}
use Rattle.ntriples_reader_dm.specs.Lines.{lines}
use Rattle.ntriples_reader_dm.proofs.Cuts.{triples_one}
use Rattle.ntriples_reader_dm.proofs.ReadBack.{text_reads_back}
use Rattle.graph_texts_dm.proofs.Triples.{triple_lawful}

-- a base is of its type
pub base_lawful : (base bytes : List ℕ) → is_base base ≡ true → chars bytes ≡ base → IsUtf8 bytes → IsIri base
base_lawful base bytes ok told utf8 = (is_iri-base base ok, subst IsText told (scalars-chars bytes utf8))

module _ (base : List ℕ) (is : IsIri base) (D : Data) (database : IsDatabase D) where
  pub reads_back : (name : GraphName) (text : List ℕ) → IsGraphText name base D text → (triples : List Statement) × IsDocument text triples × AreTriplesOf name base D triples
  reads_back name text is_text =
      let its : HasItsTriples name base D text = its_triples name base D text is_text in (
        its.triples,
        subst (λ bytes. IsDocument bytes its.triples) (sym its.lines)
            (text_reads_back its.triples (all_from_items IsLawful its.triples (λ x i. triple_lawful base is D database name x (its.exact.only x i)))),
        its.exact,
      )

  pub exactly : (name : GraphName) (text : List ℕ) (triples : List Statement) → IsGraphText name base D text → IsDocument text triples → AreTriplesOf name base D triples
  exactly name text triples is_text document =
      let r = reads_back name text is_text in
      subst (AreTriplesOf name base D) (triples_one (lines text) r.0 triples r.1 document) r.2
