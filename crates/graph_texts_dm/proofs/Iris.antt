-- The IRIs and labels of a graph are of their types: of their grammar, and of characters.
use Rattle.std.proofs.Common.{◌≡◌, ℕ, ◌<◌, ◌/◌, ◌%◌, ◌^◌, List, [], ◌∷◌, ◌++◌, Bool, true, false, ◌&&◌, map, refl, subst, inl, inr, arith}
use Rattle.std.specs.Prelude.{codes, encode_utf8, ◌≢◌}
use Rattle.std.specs.Str.{IsAscii}
use Rattle.std.specs.List.{flat_map, join_with_byte}
use Rattle.std.proofs.Math.Utf8.{scalar, scalars}
use Rattle.std.proofs.lemmas.Bool.{agree_below, agree_below_at, cases_Bool}
use Rattle.std.proofs.lemmas.Str.{IsUtf8-from_ascii, chars-IsAscii, scalars-chars}
use Rattle.std.specs.Fmt.{digit_glyph}
use Rattle.percent_encoding.specs.Percent.{percent_encode_byte}
use Rattle.value_dm.specs.declared.kind.Kind.TheVariants as kind
use Rattle.value_dm.specs.declared.value.Value.{Value}
use Rattle.value_dm.specs.declared.value.Value.TheVariants as value
use Rattle.value_dm.specs.Kinds.{kind_of}
use Rattle.value_dm.specs.Lawful.{IsLawful}
use Rattle.value_dm.specs.Lexical.{lexical_form}
use Rattle.value_dm.specs.Texts.{IsText}
use Rattle.value_dm.proofs.Ascii.{spelled_ascii}
use Rattle.value_dm.proofs.CanonicalForms.{lexical_form_spells}
use Rattle.members_dm.specs.Membership.{IsIn}
use Rattle.members_dm.proofs.MembershipLemmas.{IsIn-map}
use Rattle.names_dm.specs.IriSafe.{escapes, safe_character, safe_form, stays}
use Rattle.names_dm.specs.Labels.{row_label}
use Rattle.names_dm.specs.Names.{column_iri, column_list, equals_sign, number_sign, pairing, semicolon, table_iri}
use Rattle.names_dm.specs.Rows.{key_list, key_pair, row_iri, slash}
use Rattle.names_dm.specs.Terminals.{is_iri}
use Rattle.names_dm.specs.declared.key.KeyPart.{KeyPart}
use Rattle.names_dm.specs.declared.names.ColumnName.{ColumnName}
use Rattle.names_dm.proofs.Ascii.{and_parts}
use Rattle.names_dm.proofs.RowLabels.{row_label_ascii, row_label_is}
use Rattle.names_dm.proofs.SafeForms.{is_iri-append, is_iri-safe_form}
use Rattle.facts_dm.specs.Facts.{Link, link_iri, ref_link, ref_link_iri, rel_link}
use Rattle.facts_dm.specs.Vocabulary.{word_iri}
use Rattle.facts_dm.specs.declared.word.Word.{Word}
use Rattle.facts_dm.specs.declared.word.Word.TheVariants.{RdfType, RdfsDomain, RdfsRange, OwlDifferentFrom, OwlClass, OwlDatatypeProperty, OwlObjectProperty, Datatype}
use Rattle.ntriples_reader_dm.specs.Lawful.{IsIri, IsLabel}

-- ---- characters

both_true : (a b : Bool) → a ≡ true → b ≡ true → (a && b) ≡ true
both_true true b p q = q
both_true false b p q = absurd (let f : false ≡ true = p in cc)

pub text_append : (xs ys : List ℕ) → IsText xs → IsText ys → IsText (xs ++ ys)
text_append [] ys p q = q
text_append (x ∷ xs) ys p q = let h = and_parts (scalar x) (scalars xs) p in both_true (scalar x) (scalars (xs ++ ys)) h.0 (text_append xs ys h.1 q)

pub ascii_text : (xs : List ℕ) → IsAscii xs → IsText xs
ascii_text xs h = subst IsText (chars-IsAscii xs h) (scalars-chars xs (IsUtf8-from_ascii xs h))

glyphs : agree_below (λ d. scalar (digit_glyph true d)) (λ d. true) 16 ≡ true
glyphs = refl

glyph : (d : ℕ) → d < 16 → scalar (digit_glyph true d) ≡ true
glyph d small = agree_below_at (λ d. scalar (digit_glyph true d)) (λ d. true) 16 d glyphs small

byte_text : (b : ℕ) → IsText (percent_encode_byte b)
unfolding percent_encode_byte
byte_text b = rw (glyph (b / 16 % 16) (omega arith), glyph (b % 16) (omega arith)) refl

bytes_text : (bs : List ℕ) → IsText (flat_map percent_encode_byte bs)
bytes_text [] = refl
bytes_text (b ∷ bs) = text_append (percent_encode_byte b) (flat_map percent_encode_byte bs) (byte_text b) (bytes_text bs)

character_text : (c : ℕ) → scalar c ≡ true → IsText (safe_character c)
unfolding escapes
character_text c h = elim (cases_Bool (stays c)) [
  | inl keeps ↦ rw (keeps, h) refl
  | inr gone ↦ rw gone (bytes_text (encode_utf8 c))
]

safe_text : (text : List ℕ) → IsText text → IsText (safe_form text)
safe_text [] h = refl
safe_text (c ∷ cs) h = let p = and_parts (scalar c) (scalars cs) h in text_append (safe_character c) (safe_form cs) (character_text c p.0) (safe_text cs p.1)

other : (v : Value) → IsLawful v → kind_of v ≢ kind.Text → IsText (lexical_form v)
other v h apart = ascii_text (lexical_form v) (spelled_ascii (lexical_form v) v apart (lexical_form_spells v h))

-- the literal of a lawful value is of characters
pub form_text : (v : Value) → IsLawful v → IsText (lexical_form v)
form_text (value.Text t) h = h
form_text (value.Integer z) h = other (value.Integer z) h (λ e. cc)
form_text (value.Decimal d) h = other (value.Decimal d) h (λ e. cc)
form_text (value.Boolean b) h = other (value.Boolean b) h (λ e. cc)
form_text (value.Date d) h = other (value.Date d) h (λ e. cc)
form_text (value.Time t) h = other (value.Time t) h (λ e. cc)
form_text (value.DateTime d) h = other (value.DateTime d) h (λ e. cc)
form_text (value.Binary b) h = other (value.Binary b) h (λ e. cc)

-- ---- IRIs

pub iri_append : (xs ys : List ℕ) → IsIri xs → IsIri ys → IsIri (xs ++ ys)
iri_append xs ys p q = (is_iri-append xs ys p.0 q.0, text_append xs ys p.1 q.1)

safe_iri : (text : List ℕ) → IsText text → IsIri (safe_form text)
safe_iri text h = (is_iri-safe_form text, safe_text text h)

-- a mark before an IRI
number_iri : IsIri (number_sign ∷ [])
unfolding is_iri
number_iri = (refl, refl)

equals_iri : IsIri (equals_sign ∷ [])
unfolding is_iri
equals_iri = (refl, refl)

semicolon_iri : IsIri (semicolon ∷ [])
unfolding is_iri
semicolon_iri = (refl, refl)

slash_iri : IsIri (slash ∷ [])
unfolding is_iri
slash_iri = (refl, refl)

ref_mark : IsIri (codes "ref-")
unfolding is_iri
ref_mark = (refl, refl)

rel_mark : IsIri (codes "rel-")
unfolding is_iri
rel_mark = (refl, refl)

empty_iri : IsIri []
unfolding is_iri
empty_iri = (refl, refl)

pub word_lawful : (w : Word) → IsIri (word_iri w)
unfolding is_iri
word_lawful RdfType = (refl, refl)
word_lawful RdfsDomain = (refl, refl)
word_lawful RdfsRange = (refl, refl)
word_lawful OwlDifferentFrom = (refl, refl)
word_lawful OwlClass = (refl, refl)
word_lawful OwlDatatypeProperty = (refl, refl)
word_lawful OwlObjectProperty = (refl, refl)
word_lawful (Datatype kind.Text) = (refl, refl)
word_lawful (Datatype kind.Integer) = (refl, refl)
word_lawful (Datatype kind.Decimal) = (refl, refl)
word_lawful (Datatype kind.Boolean) = (refl, refl)
word_lawful (Datatype kind.Date) = (refl, refl)
word_lawful (Datatype kind.Time) = (refl, refl)
word_lawful (Datatype kind.DateTime) = (refl, refl)
word_lawful (Datatype kind.Binary) = (refl, refl)

joined : (xs : List (List ℕ)) → ((x : List ℕ) → IsIn x xs → IsIri x) → IsIri (join_with_byte semicolon xs)
joined [] h = empty_iri
joined (x ∷ []) h = h x (inl refl)
joined (x ∷ y ∷ xs) h =
    iri_append x (semicolon ∷ join_with_byte semicolon (y ∷ xs)) (h x (inl refl))
    (iri_append (semicolon ∷ []) (join_with_byte semicolon (y ∷ xs)) semicolon_iri (joined (y ∷ xs) (λ z i. h z (inr i))))

pairing_iri : (column target : List ℕ) → IsText column → IsText target → IsIri (pairing column target)
pairing_iri column target p q =
    iri_append (safe_form column) (equals_sign ∷ safe_form target) (safe_iri column p) (iri_append (equals_sign ∷ []) (safe_form target) equals_iri (safe_iri target q))

-- all names of the link are of characters
abbrev pub IsTextLink : Link → Type 0
IsTextLink (ref_link r) = IsText r.table × ((c : List ℕ) → IsIn c r.columns → IsText c)
IsTextLink (rel_link q) = IsText q.table × IsText q.left × IsText q.left_target × IsText q.right × IsText q.right_target

module _ (base : List ℕ) (is : IsIri base) where
  local : (table rest : List ℕ) → IsText table → IsIri rest → IsIri (base ++ (safe_form table ++ number_sign ∷ rest))
  local table rest p q =
      iri_append base (safe_form table ++ number_sign ∷ rest) is
      (iri_append (safe_form table) (number_sign ∷ rest) (safe_iri table p) (iri_append (number_sign ∷ []) rest number_iri q))

  pub table_lawful : (table : List ℕ) → IsText table → IsIri (table_iri base table)
  table_lawful table h = iri_append base (safe_form table) is (safe_iri table h)

  pub column_lawful : (c : ColumnName) → IsText c.table → IsText c.column → IsIri (column_iri base c)
  column_lawful c p q = local c.table (safe_form c.column) p (safe_iri c.column q)

  reference : (table : List ℕ) (columns : List (List ℕ)) → IsText table → ((c : List ℕ) → IsIn c columns → IsText c) → IsIri (ref_link_iri base table columns)
  reference table [] p q = local table (codes "=") p equals_iri
  reference table (c ∷ cs) p q =
      local table (codes "ref-" ++ column_list (c ∷ cs)) p
      (iri_append (codes "ref-") (column_list (c ∷ cs)) ref_mark
      (joined (map safe_form (c ∷ cs)) (λ x i. let m = IsIn-map safe_form x (c ∷ cs) i in subst IsIri m.2 (safe_iri m.0 (q m.0 m.1)))))

  pub link_lawful : (l : Link) → IsTextLink l → IsIri (link_iri base l)
  link_lawful (ref_link r) h = reference r.table r.columns h.0 h.1
  link_lawful (rel_link q) h =
      local q.table (codes "rel-" ++ (pairing q.left q.left_target ++ semicolon ∷ pairing q.right q.right_target)) h.0
      (iri_append (codes "rel-") (pairing q.left q.left_target ++ semicolon ∷ pairing q.right q.right_target) rel_mark
      (iri_append (pairing q.left q.left_target) (semicolon ∷ pairing q.right q.right_target) (pairing_iri q.left q.left_target h.1 h.2)
      (iri_append (semicolon ∷ []) (pairing q.right q.right_target) semicolon_iri (pairing_iri q.right q.right_target h.3 h.4))))

  pair_iri : (part : KeyPart) → IsText part.column → IsLawful part.value → IsIri (key_pair part)
  unfolding key_pair
  pair_iri part p q = pairing_iri part.column (lexical_form part.value) p (form_text part.value q)

  pub row_lawful : (table : List ℕ) (key : List KeyPart) → IsText table → ((part : KeyPart) → IsIn part key → IsText part.column × IsLawful part.value) → IsIri (row_iri base table key)
  row_lawful table key p q =
      iri_append base (safe_form table ++ slash ∷ key_list key) is
      (iri_append (safe_form table) (slash ∷ key_list key) (safe_iri table p)
      (iri_append (slash ∷ []) (key_list key) slash_iri
      (joined (map key_pair key) (λ x i. let m = IsIn-map key_pair x key i in let part = q m.0 m.1 in subst IsIri m.2 (pair_iri m.0 part.0 part.1)))))

-- ---- labels

pub label_lawful : (t r : ℕ) → t < 2 ^ 64 → r < 2 ^ 64 → IsLabel (row_label t r)
label_lawful t r p q = (row_label_is t r p q, ascii_text (row_label t r) (row_label_ascii t r p q))
