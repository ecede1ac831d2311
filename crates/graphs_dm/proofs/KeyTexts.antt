-- The texts of keys, part by part.
use Rattle.std.proofs.Common.{◌≡◌, ◌∙◌, ◌++◌, ◌∷◌, [], ◌+◌, ◌<◌, ℕ, List, Bool, true, false, sym, ap, append_assoc, length, take, get_or, None, Some}
use Rattle.std.specs.Prelude.{encode_utf8_all, slice_index_or}
use Rattle.std.specs.List.{flat_map}
use Rattle.std.proofs.lemmas.Grind.{flat_map-append}
use Rattle.std.proofs.lemmas.List.{append-nil, take_more}
use Rattle.std.proofs.lemmas.Str.{encodes-append}
use Rattle.schema_dm.specs.declared.draft.Column.{Column}
use Rattle.names_dm.specs.declared.key.KeyPart.{KeyPart}
use Rattle.names_dm.specs.Rows.{key_list}
use Rattle.names_dm.proofs.Keys.{key_list-push, is_empty-key_push}
use Rattle.table_csv.specs.Cells.{Cell, Row}
use Rattle.graphs_dm.specs.Heads.{added, still_first}
use Rattle.graphs_dm.specs.Nodes.{key_parts, part_of}
use Rattle.schema_dm.specs.Naming.{name_at}

abbrev pub is_empty_list : {A : Type 0} → List A → Bool
is_empty_list [] = true
is_empty_list (x ∷ xs) = false

key_list-more : (key : List KeyPart) (name : List ℕ) (cell : Cell) → key_list (key ++ part_of name cell) ≡ key_list key ++ added (is_empty_list key) (part_of name cell)
key_list-more key name None = ap key_list (append-nil key) ∙ sym (append-nil (key_list key))
key_list-more key name (Some v) = key_list-push key (record { column = name; value = v })

still_first-more : (key : List KeyPart) (name : List ℕ) (cell : Cell) → still_first (is_empty_list key) (part_of name cell) ≡ is_empty_list (key ++ part_of name cell)
still_first-more key name None = ap is_empty_list (sym (append-nil key))
still_first-more key name (Some v) = is_empty-key_push key (record { column = name; value = v })

module _ (columns : List Column) (row : Row) (places : List ℕ) (k : ℕ) (below : k < length places) where
  place : ℕ
  place = get_or places k 0

  parts_more : key_parts columns row (take (k + 1) places) ≡ key_parts columns row (take k places) ++ part_of (name_at columns (get_or places k 0)) (slice_index_or row (get_or places k 0) None)
  parts_more =
      let text : ℕ → List KeyPart = λ p. part_of (name_at columns p) (slice_index_or row p None) in
      ap (flat_map text) (take_more places k 0 below) ∙ flat_map-append text (take k places) (get_or places k 0 ∷ [])
      ∙ ap (λ (l : List KeyPart). flat_map text (take k places) ++ l) (append-nil (text (get_or places k 0)))

  -- one more column of the key
  pub key_text-more : (first : Bool) (start old new : List ℕ) → first ≡ is_empty_list (key_parts columns row (take k places)) → old ≡ start ++ encode_utf8_all (key_list (key_parts columns row (take k places)))
      → new ≡ old ++ encode_utf8_all (added first (part_of (name_at columns (get_or places k 0)) (slice_index_or row (get_or places k 0) None)))
      → new ≡ start ++ encode_utf8_all (key_list (key_parts columns row (take (k + 1) places)))
  key_text-more first start old new none before pushed =
      let key = key_parts columns row (take k places) in
      let name = name_at columns (get_or places k 0) in
      let cell = slice_index_or row (get_or places k 0) None in
      let form : encode_utf8_all (key_list (key_parts columns row (take (k + 1) places))) ≡ encode_utf8_all (key_list key) ++ encode_utf8_all (added (is_empty_list key) (part_of name cell)) =
      ap (λ (l : List KeyPart). encode_utf8_all (key_list l)) parts_more ∙ ap encode_utf8_all (key_list-more key name cell) ∙ encodes-append (key_list key) (added (is_empty_list key) (part_of name cell)) in
      pushed ∙ ap (λ (b : Bool). old ++ encode_utf8_all (added b (part_of name cell))) none
      ∙ ap (λ (l : List ℕ). l ++ encode_utf8_all (added (is_empty_list key) (part_of name cell))) before
      ∙ append_assoc start (encode_utf8_all (key_list key)) (encode_utf8_all (added (is_empty_list key) (part_of name cell)))
      ∙ ap (λ (l : List ℕ). start ++ l) (sym form)

  pub first-more : (first next : Bool) → first ≡ is_empty_list (key_parts columns row (take k places))
      → next ≡ still_first first (part_of (name_at columns (get_or places k 0)) (slice_index_or row (get_or places k 0) None))
      → next ≡ is_empty_list (key_parts columns row (take (k + 1) places))
  first-more first next none is =
      let key = key_parts columns row (take k places) in
      let name = name_at columns (get_or places k 0) in
      let cell = slice_index_or row (get_or places k 0) None in
      is ∙ ap (λ (b : Bool). still_first b (part_of name cell)) none ∙ still_first-more key name cell ∙ ap is_empty_list (sym parts_more)
