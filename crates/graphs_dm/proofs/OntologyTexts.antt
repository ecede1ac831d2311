-- The lines of the ontology are those of its facts.
use Rattle.std.proofs.Common.{◌≡◌, ◌∙◌, ◌++◌, ◌<◌, ◌+◌, ℕ, List, Some, length, map, refl, sym, ap, append_assoc}
use Rattle.members_dm.specs.Places.{levels}
use Rattle.schema_dm.specs.Naming.{name_at}
use Rattle.schema_dm.specs.Schemas.{table_at}
use Rattle.schema_dm.specs.declared.draft.Column.{Column}
use Rattle.schema_dm.specs.declared.table.Binary.{Binary}
use Rattle.schema_dm.specs.declared.table.ForeignKey.{ForeignKey}
use Rattle.schema_dm.specs.declared.table.Table.{Table}
use Rattle.names_dm.specs.Names.{column_iri, ref_iri, table_iri}
use Rattle.names_dm.specs.Statements.{Statement}
use Rattle.names_dm.specs.declared.term.Term.TheVariants as term
use Rattle.facts_dm.specs.Facts.{Fact, link_iri, triple_of}
use Rattle.facts_dm.specs.Vocabulary.{word_iri}
use Rattle.facts_dm.specs.declared.word.Word.{Word}
use Rattle.facts_dm.specs.declared.word.Word.TheVariants.{Datatype, OwlClass, OwlDatatypeProperty, OwlObjectProperty, RdfType, RdfsDomain, RdfsRange}
use Rattle.ntriples_dm.specs.Written.{triple_text}
use Rattle.graphs_dm.specs.Heads.{iri_line, property_lines}
use Rattle.graphs_dm.specs.Levels.{Placed, class_group, class_level, column_level, columns_level, property_level, reference_level, references_level, relation_level, text_of, three_facts}
use Rattle.graphs_dm.specs.Ontology.{column_of}
use Rattle.graphs_dm.specs.Relations.{left_key, relation_of, right_key}
use Rattle.graphs_dm.specs.RowFacts.{line_of, reference_of}
use Rattle.graphs_dm.proofs.LevelTexts.{text_of-level, text_of-one, text_of-three}
use Rattle.graphs_dm.proofs.LineTexts.{link_is}

abbrev said : List ℕ → Word → List ℕ → Statement
said subject predicate object = record { subject = term.Iri subject; predicate = word_iri predicate; object = term.Iri object }

module _ (base : List ℕ) where
  property_text : (x y z : Fact) → text_of base (property_level x y z) ≡ line_of base x ++ (line_of base y ++ line_of base z)
  property_text x y z =
      text_of-three base (three_facts x y z)
      ∙ (λ s. text_of-one base x s ++ (text_of-one base y s ++ text_of-one base z s))

  property_is : (property : List ℕ) (sort : Word) (domain range : List ℕ) (x y z : Fact) → triple_of base x ≡ said property RdfType (word_iri sort) → triple_of base y ≡ said property RdfsDomain domain → triple_of base z ≡ said property RdfsRange range
      → property_lines property sort domain range ≡ text_of base (property_level x y z)
  unfolding property_lines iri_line
  property_is property sort domain range x y z first second third = sym (property_text x y z ∙ (λ s. triple_text (first s) ++ (triple_text (second s) ++ triple_text (third s))))

  pub column_lines : (table : Table) (column : Column) → property_lines (column_iri base (column_of table column)) OwlDatatypeProperty (table_iri base table.name) (word_iri (Datatype column.kind)) ≡ text_of base (column_level base table (Some column))
  column_lines table column = property_is _ _ _ _ _ _ _ refl refl refl

  module _ (tables : List Table) where
    pub reference_lines : (table : Table) (key : ForeignKey) → 0 < length key.columns
        → property_lines (ref_iri base (record { table = table.name; columns = map (name_at table.columns) key.columns })) OwlObjectProperty (table_iri base table.name) (table_iri base (table_at tables key.target).name)
        ≡ text_of base (reference_level base tables table (Some key))
    reference_lines table key some =
        ap (λ (iri : List ℕ). property_lines iri OwlObjectProperty (table_iri base table.name) (table_iri base (table_at tables key.target).name)) (link_is base table key.columns some)
        ∙ property_is (link_iri base (reference_of table key)) _ _ _ _ _ _ refl refl refl

    pub relation_lines : (t : ℕ) (sides : Binary)
        → property_lines (link_iri base (relation_of tables t sides)) OwlObjectProperty (table_iri base (table_at tables (left_key tables t sides).target).name) (table_iri base (table_at tables (right_key tables t sides).target).name)
        ≡ text_of base (relation_level base tables t sides)
    relation_lines t sides = property_is (link_iri base (relation_of tables t sides)) _ _ _ _ _ _ refl refl refl

    pub class_lines : (table : Table) (old : List ℕ)
        → ((old ++ iri_line (table_iri base table.name) RdfType (word_iri OwlClass)) ++ text_of base (columns_level base table)) ++ text_of base (references_level base tables table) ≡ old ++ text_of base (class_level base tables table)
    unfolding iri_line
    class_lines table old =
        let first = line_of base (Rattle.facts_dm.specs.Facts.a_class table.name) in
        append_assoc (old ++ first) (text_of base (columns_level base table)) (text_of base (references_level base tables table))
        ∙ append_assoc old first (text_of base (columns_level base table) ++ text_of base (references_level base tables table))
        ∙ ap (λ (l : List ℕ). old ++ l)
        (sym (text_of-three base (class_group base tables table) ∙ ap (λ (l : List ℕ). l ++ (text_of base (columns_level base table) ++ text_of base (references_level base tables table))) (text_of-one base (Rattle.facts_dm.specs.Facts.a_class table.name))))

  -- one more level
  pub level_more : (level : ℕ → Placed) (k : ℕ) (start old new : List ℕ) → old ≡ start ++ text_of base (levels k level) → new ≡ old ++ text_of base (level k) → new ≡ start ++ text_of base (levels (k + 1) level)
  level_more level k start old new before pushed =
      pushed ∙ ap (λ (l : List ℕ). l ++ text_of base (level k)) before ∙ append_assoc start (text_of base (levels k level)) (text_of base (level k)) ∙ ap (λ (l : List ℕ). start ++ l) (sym (text_of-level base k level))
