-- Lines that are made of prepared texts are the lines of the graph.
use Rattle.std.proofs.Common.{◌≡◌, Bool, ◌∙◌, ◌++◌, ◌∷◌, [], ◌+◌, ◌<◌, ℕ, suc, zero, List, None, Some, Option, true, false, refl, sym, ap, arith, inl, inr, append_assoc, length, add-one, map}
use Rattle.std.specs.Prelude.{encode_utf8_all, codes, slice_get}
use Rattle.std.specs.Option.{option_map}
use Rattle.std.specs.List.{flat_map, list_all}
use Rattle.std.specs.Str.{IsAscii}
use Rattle.std.proofs.lemmas.Str.Ascii.{IsAscii-nil}
use Rattle.names_dm.specs.Characters.{is_ascii}
use Rattle.names_dm.proofs.Ascii.{and_parts, ascii_cons}
use Rattle.std.proofs.lemmas.Bool.{cases_Bool, ltb-true}
use Rattle.std.proofs.lemmas.List.{length-map}
use Rattle.std.proofs.lemmas.Option.{slice_get-map}
use Rattle.std.proofs.lemmas.Str.{encodes-IsAscii}
use Rattle.members_dm.specs.Places.{levels, one_item}
use Rattle.schema_dm.specs.declared.table.Binary.{Binary}
use Rattle.graphs_dm.specs.Relations.{left_key, relation_of, right_key}
use Rattle.members_dm.proofs.ElementsLemmas.{item_at_index}
use Rattle.value_dm.specs.Kinds.{kind_of}
use Rattle.value_dm.specs.Lexical.{lexical_form}
use Rattle.value_dm.specs.declared.value.Value.{Value}
use Rattle.schema_dm.specs.Schemas.{IsTable}
use Rattle.schema_dm.specs.declared.draft.Column.{Column}
use Rattle.schema_dm.specs.declared.table.ForeignKey.{ForeignKey}
use Rattle.schema_dm.specs.declared.table.Table.{Table}
use Rattle.names_dm.specs.Names.{column_iri, ref_iri, table_iri}
use Rattle.ntriples_dm.specs.Written.{quoted_text, term_text, triple_text, type_text}
use Rattle.table_csv.specs.Cells.{Cell, Row, cells_at}
use Rattle.table_csv.specs.Databases.{Data, rows_at}
use Rattle.graphs_dm.specs.RowFacts.{line_of, literal_fact, reference_fact, type_fact}
use Rattle.graphs_dm.specs.Heads.{cell_line, class_end, column_head, framed, reference_head, relation_head, up_to, value_line}
use Rattle.graphs_dm.specs.Levels.{Placed, cell_level, cells_level, cells_links, key_level, keys_level, row_group, text_of, mark_level, pair_level}
use Rattle.graphs_dm.specs.Lines.{key_line, keys_line, link_line, mark_line}
use Rattle.graphs_dm.specs.Nodes.{has_null, row_node, rows_with}
use Rattle.graphs_dm.proofs.LevelTexts.{text_of-level, text_of-links, text_of-no_level, text_of-none, text_of-one, text_of-three, text_of-under}
use Rattle.facts_dm.specs.Facts.{Node, a_link, a_mark, link_iri, node_term, ref_link_iri}
use Rattle.facts_dm.specs.Vocabulary.{literal_type, word_iri}
use Rattle.facts_dm.specs.declared.word.Word.TheVariants.{OwlDifferentFrom, RdfType}
use Rattle.schema_dm.specs.Naming.{name_at}

-- ---- texts of places

pub up_to-none : (text : ℕ → List ℕ) → up_to 0 text ≡ []
unfolding up_to
up_to-none text = refl

up_to-suc : (text : ℕ → List ℕ) (k : ℕ) → up_to (k + 1) text ≡ up_to k text ++ text k
unfolding up_to
up_to-suc text k = rw add-one refl

-- one more text
pub up_to-more : (text : ℕ → List ℕ) (k : ℕ) (start old new : List ℕ) → old ≡ start ++ up_to k text → new ≡ old ++ text k → new ≡ start ++ up_to (k + 1) text
up_to-more text k start old new before pushed =
    pushed ∙ ap (λ (l : List ℕ). l ++ text k) before ∙ append_assoc start (up_to k text) (text k) ∙ ap (λ (l : List ℕ). start ++ l) (sym (up_to-suc text k))

-- ---- lines

ascii_text : (text : List ℕ) → list_all is_ascii text ≡ true → IsAscii text
ascii_text [] all = IsAscii-nil
ascii_text (c ∷ cs) all = let parts = and_parts (is_ascii c) (list_all is_ascii cs) all in ascii_cons c cs (ltb-true c 128 parts.0) (ascii_text cs parts.1)

type_bytes : encode_utf8_all (word_iri RdfType) ≡ word_iri RdfType
type_bytes = encodes-IsAscii (word_iri RdfType) (ascii_text (word_iri RdfType) refl)

type_parts : (s sp lt w gt i e : List ℕ) → s ++ ((sp ++ lt) ++ (w ++ ((gt ++ (sp ++ lt)) ++ (i ++ (gt ++ e))))) ≡ ((((s ++ sp) ++ (lt ++ (w ++ gt))) ++ sp) ++ (lt ++ (i ++ gt))) ++ e
type_parts s sp lt w gt i e = simp append_assoc

value_parts : (s sp lt p gt q f e : List ℕ) → s ++ (((sp ++ lt) ++ (p ++ (gt ++ (sp ++ q)))) ++ (f ++ e)) ≡ (((s ++ sp) ++ (lt ++ (p ++ gt))) ++ sp) ++ (q ++ (f ++ e))
value_parts s sp lt p gt q f e = simp append_assoc

link_parts : (s sp lt p gt n e : List ℕ) → s ++ (((sp ++ lt) ++ (p ++ (gt ++ sp))) ++ (n ++ e)) ≡ ((((s ++ sp) ++ (lt ++ (p ++ gt))) ++ sp) ++ n) ++ e
link_parts s sp lt p gt n e = simp append_assoc

mark_parts : (s sp lt w gt e : List ℕ) → s ++ ((sp ++ (lt ++ (w ++ (gt ++ sp)))) ++ (s ++ e)) ≡ ((((s ++ sp) ++ (lt ++ (w ++ gt))) ++ sp) ++ s) ++ e
mark_parts s sp lt w gt e = simp append_assoc

join_type : (s w i : List ℕ) → s ++ ((32 ∷ 60 ∷ []) ++ (w ++ ((62 ∷ 32 ∷ 60 ∷ []) ++ (i ++ codes "> .\n")))) ≡ ((((s ++ (32 ∷ [])) ++ (60 ∷ w ++ (62 ∷ []))) ++ (32 ∷ [])) ++ (60 ∷ i ++ (62 ∷ []))) ++ codes " .\n"
join_type s w i = type_parts s (32 ∷ []) (60 ∷ []) w (62 ∷ []) i (codes " .\n")

join_value : (s p q e : List ℕ) → s ++ (((32 ∷ 60 ∷ []) ++ (p ++ (62 ∷ 32 ∷ 34 ∷ []))) ++ (q ++ (34 ∷ e ++ codes " .\n"))) ≡ ((((s ++ (32 ∷ [])) ++ (60 ∷ p ++ (62 ∷ []))) ++ (32 ∷ [])) ++ (34 ∷ q ++ 34 ∷ e)) ++ codes " .\n"
join_value s p q e =
    value_parts s (32 ∷ []) (60 ∷ []) p (62 ∷ []) (34 ∷ []) q (34 ∷ e ++ codes " .\n")
    ∙ ap (λ (l : List ℕ). (((s ++ (32 ∷ [])) ++ (60 ∷ p ++ (62 ∷ []))) ++ (32 ∷ [])) ++ (34 ∷ l)) (sym (append_assoc q (34 ∷ e) (codes " .\n")))
    ∙ sym (append_assoc (((s ++ (32 ∷ [])) ++ (60 ∷ p ++ (62 ∷ []))) ++ (32 ∷ [])) (34 ∷ q ++ 34 ∷ e) (codes " .\n"))

join_link : (s p n : List ℕ) → s ++ (((32 ∷ 60 ∷ []) ++ (p ++ (62 ∷ 32 ∷ []))) ++ (n ++ codes " .\n")) ≡ ((((s ++ (32 ∷ [])) ++ (60 ∷ p ++ (62 ∷ []))) ++ (32 ∷ [])) ++ n) ++ codes " .\n"
join_link s p n = link_parts s (32 ∷ []) (60 ∷ []) p (62 ∷ []) n (codes " .\n")

pub link_is : (base : List ℕ) (table : Table) (columns : List ℕ) → 0 < length columns
    → ref_iri base (record { table = table.name; columns = map (name_at table.columns) columns }) ≡ ref_link_iri base table.name (map (name_at table.columns) columns)
link_is base table [] some = absurd (omega arith)
link_is base table (place ∷ columns) some = refl

module _ (base : List ℕ) where
  up_to-levels : (text : ℕ → List ℕ) (level : ℕ → Placed) (n : ℕ) → ((k : ℕ) → k < n → text k ≡ text_of base (level k)) → up_to n text ≡ text_of base (levels n level)
  unfolding up_to
  up_to-levels text level zero each = sym (text_of-no_level base level)
  up_to-levels text level (suc n) each =
      let before = up_to-levels text level n (λ k below. each k (omega arith)) in
      let here = each n (omega arith) in
      ap (λ (l : List ℕ). l ++ text n) before ∙ ap (λ (l : List ℕ). text_of base (levels n level) ++ l) here ∙ sym (text_of-level base n level)
      ∙ ap (λ m. text_of base (levels m level)) (add-one n)

  module _ (node : Node) (table : Table) where
    subject : List ℕ
    subject = term_text (node_term node)

    class_line : term_text (node_term node) ++ class_end base table ≡ line_of base (type_fact node table)
    unfolding triple_text class_end framed
    class_line =
        let s = term_text (node_term node) in
        let i = encode_utf8_all (table_iri base table.name) in
        join_type s (word_iri RdfType) i
        ∙ ap (λ (l : List ℕ). ((((s ++ (32 ∷ [])) ++ (60 ∷ l ++ (62 ∷ []))) ++ (32 ∷ [])) ++ (60 ∷ i ++ (62 ∷ []))) ++ codes " .\n") (sym type_bytes)

    value_line_is : (column : Column) (value : Value) → value_line (term_text (node_term node)) (column_head base table column) value ≡ line_of base (literal_fact node table column value)
    unfolding triple_text value_line column_head framed
    value_line_is column value =
        join_value (term_text (node_term node)) (encode_utf8_all (column_iri base (record { table = table.name; column = column.name }))) (quoted_text (lexical_form value)) (type_text (literal_type (kind_of value)))

    cell_line_is : (column : Option Column) (cell : Option Cell)
        → cell_line (term_text (node_term node)) (option_map (column_head base table) column) cell ≡ text_of base (cell_level node table column cell)
    cell_line_is None cell = sym (text_of-none base)
    cell_line_is (Some column) None = sym (text_of-none base)
    cell_line_is (Some column) (Some None) = sym (text_of-none base)
    cell_line_is (Some column) (Some (Some value)) = value_line_is column value ∙ sym (text_of-one base (literal_fact node table column value))

    -- the lines of the cells of a row
    pub cells_line : (heads : List (List ℕ)) (row : Row) → heads ≡ map (column_head base table) table.columns
        → up_to (length heads) (λ k. cell_line (term_text (node_term node)) (slice_get heads k) (slice_get row k)) ≡ text_of base (cells_level node table row)
    cells_line heads row are =
        rw (are, length-map)
        (up_to-levels (λ k. cell_line (term_text (node_term node)) (slice_get (map (column_head base table) table.columns) k) (slice_get row k))
        (λ k. cell_level node table (slice_get table.columns k) (slice_get row k)) (length table.columns)
        (λ k below. ap (λ (head : Option (List ℕ)). cell_line (term_text (node_term node)) head (slice_get row k)) (slice_get-map (column_head base table) table.columns k)
        ∙ cell_line_is (slice_get table.columns k) (slice_get row k)))

    module _ (D : Data) where
      link_line_is : (key : ForeignKey) (j : ℕ) → 0 < length key.columns
          → link_line base D (term_text (node_term node)) (reference_head base table key) key.target j ≡ line_of base (reference_fact node table key (row_node base D key.target j))
      unfolding triple_text link_line reference_head framed
      link_line_is key j some =
          let s = term_text (node_term node) in
          let n = term_text (node_term (row_node base D key.target j)) in
          join_link s (encode_utf8_all (ref_iri base (record { table = table.name; columns = map (name_at table.columns) key.columns }))) n
          ∙ ap (λ (l : List ℕ). ((((s ++ (32 ∷ [])) ++ (60 ∷ encode_utf8_all l ++ (62 ∷ []))) ++ (32 ∷ [])) ++ n) ++ codes " .\n") (link_is base table key.columns some)

      key_line_is : (key : ForeignKey) (cells : List Cell) → 0 < length key.columns
          → key_line base D (term_text (node_term node)) (reference_head base table key) key cells ≡ text_of base (cells_links base D node table key cells)
      unfolding key_line
      key_line_is key cells some =
          let positions = rows_with (rows_at D.rows key.target) key.target_columns cells in
          let lines : ℕ → List ℕ = λ j. line_of base (reference_fact node table key (row_node base D key.target j)) in
          elim (cases_Bool (has_null cells)) [
            | inl null ↦ rw null (sym (text_of-none base))
            | inr none ↦ rw none (ap (λ (f : ℕ → List ℕ). flat_map f positions) (λ s. λ j. link_line_is key j some s) ∙ sym (text_of-links base D node table key positions))
          ]

      keys_line_is : (found : Option ForeignKey) (row : Row) → ((key : ForeignKey) → found ≡ Some key → 0 < length key.columns)
          → keys_line base D (term_text (node_term node)) (option_map (reference_head base table) found) found row ≡ text_of base (key_level base D node table row found)
      keys_line_is None row some = sym (text_of-none base)
      keys_line_is (Some key) row some = key_line_is key (cells_at key.columns row) (some key refl)

      -- the lines of the references of a row
      pub references_line : (heads : List (List ℕ)) (row : Row) → IsTable D.tables table → heads ≡ map (reference_head base table) table.foreign
          → up_to (length table.foreign) (λ k. keys_line base D (term_text (node_term node)) (slice_get heads k) (slice_get table.foreign k) row) ≡ text_of base (keys_level base D node table row)
      references_line heads row lawful are =
          rw are
          (up_to-levels (λ k. keys_line base D (term_text (node_term node)) (slice_get (map (reference_head base table) table.foreign) k) (slice_get table.foreign k) row)
          (λ k. key_level base D node table row (slice_get table.foreign k)) (length table.foreign)
          (λ k below. ap (λ (head : Option (List ℕ)). keys_line base D (term_text (node_term node)) head (slice_get table.foreign k) row) (slice_get-map (reference_head base table) table.foreign k)
          ∙ keys_line_is (slice_get table.foreign k) row (λ key is. (lawful.foreign key (item_at_index key table.foreign k is)).columns.some)))

      three_lines : (row : Row) (marked : Bool) (cells keys : List ℕ) → cells ≡ text_of base (cells_level node table row) → keys ≡ text_of base (keys_level base D node table row)
          → (old : List ℕ) → (((old ++ term_text (node_term node)) ++ class_end base table) ++ cells) ++ keys ≡ old ++ text_of base (levels 3 (row_group base D node table row marked))
      three_lines row marked cells keys are_cells are_keys old =
          let s = term_text (node_term node) in
          append_assoc ((old ++ s) ++ class_end base table) cells keys ∙ append_assoc (old ++ s) (class_end base table) (cells ++ keys) ∙ append_assoc old s (class_end base table ++ (cells ++ keys))
          ∙ ap (λ (l : List ℕ). old ++ l)
          (sym (append_assoc s (class_end base table) (cells ++ keys))
          ∙ ap (λ (l : List ℕ). l ++ (cells ++ keys)) (class_line ∙ sym (text_of-one base (type_fact node table)))
          ∙ ap (λ (l : List ℕ). text_of base (row_group base D node table row marked 0) ++ (l ++ keys)) are_cells
          ∙ ap (λ (l : List ℕ). text_of base (row_group base D node table row marked 0) ++ (text_of base (row_group base D node table row marked 1) ++ l)) are_keys
          ∙ sym (text_of-three base (row_group base D node table row marked)))

      mark_line_is : (marked : Bool) → mark_line marked (term_text (node_term node)) ≡ text_of base (mark_level marked node)
      unfolding mark_line triple_text
      mark_line_is true =
          let s = term_text (node_term node) in
          mark_parts s (32 ∷ []) (60 ∷ []) (word_iri OwlDifferentFrom) (62 ∷ []) (codes " .\n")
          ∙ ap (λ (l : List ℕ). ((((s ++ (32 ∷ [])) ++ (60 ∷ l ++ (62 ∷ []))) ++ (32 ∷ [])) ++ s) ++ codes " .\n") (sym (encodes-IsAscii (word_iri OwlDifferentFrom) (ascii_text (word_iri OwlDifferentFrom) refl)))
          ∙ sym (text_of-one base (a_mark node))
      mark_line_is false = sym (text_of-none base)

      -- all lines of a row
      pub row_lines : (row : Row) (marked : Bool) (cells keys : List ℕ) → cells ≡ text_of base (cells_level node table row) → keys ≡ text_of base (keys_level base D node table row)
          → (old : List ℕ) → ((((old ++ term_text (node_term node)) ++ class_end base table) ++ cells) ++ keys) ++ mark_line marked (term_text (node_term node)) ≡ old ++ text_of base (levels 4 (row_group base D node table row marked))
      row_lines row marked cells keys are_cells are_keys old =
          ap (λ (l : List ℕ). l ++ mark_line marked (term_text (node_term node))) (three_lines row marked cells keys are_cells are_keys old)
          ∙ append_assoc old (text_of base (levels 3 (row_group base D node table row marked))) (mark_line marked (term_text (node_term node)))
          ∙ ap (λ (l : List ℕ). old ++ (text_of base (levels 3 (row_group base D node table row marked)) ++ l)) (mark_line_is marked)
          ∙ ap (λ (l : List ℕ). old ++ l) (sym (text_of-level base 3 (row_group base D node table row marked)))

module _ (base : List ℕ) (D : Data) (t : ℕ) (sides : Binary) where
  pub no_left : (first second : Option ℕ) → first ≡ None → text_of base (pair_level base D t sides first second) ≡ []
  no_left first second none = ap (λ (o : Option ℕ). text_of base (pair_level base D t sides o second)) none ∙ text_of-none base

  pub no_right : (first second : Option ℕ) (j : ℕ) → first ≡ Some j → second ≡ None → text_of base (pair_level base D t sides first second) ≡ []
  no_right first second j some none = (λ s. text_of base (pair_level base D t sides (some s) (none s))) ∙ text_of-none base

  pub pair_line : (first second : Option ℕ) (head : List ℕ) (j l : ℕ) → first ≡ Some j → second ≡ Some l → head ≡ relation_head base D.tables t sides
      → link_line base D (term_text (node_term (row_node base D (left_key D.tables t sides).target j))) head (right_key D.tables t sides).target l ≡ text_of base (pair_level base D t sides first second)
  unfolding triple_text link_line relation_head framed
  pair_line first second head j l is_first is_second is_head =
      let s = term_text (node_term (row_node base D (left_key D.tables t sides).target j)) in
      let n = term_text (node_term (row_node base D (right_key D.tables t sides).target l)) in
      let fact = a_link (row_node base D (left_key D.tables t sides).target j) (relation_of D.tables t sides) (row_node base D (right_key D.tables t sides).target l) in
      ap (λ (h : List ℕ). s ++ (h ++ (n ++ codes " .\n"))) is_head
      ∙ join_link s (encode_utf8_all (link_iri base (relation_of D.tables t sides))) n
      ∙ sym (text_of-one base fact) ∙ sym (text_of-under base 0 (one_item fact))
      ∙ sym (λ i. text_of base (pair_level base D t sides (is_first i) (is_second i)))
