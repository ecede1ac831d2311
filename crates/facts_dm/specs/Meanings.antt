-- What an IRI is the name of, and the laws of names that graphs rest on.
use Rattle.std.specs.Prelude.{ℕ, ◌≡◌, List, [], ◌∷◌, Option, Some, None, codes, nat_eq, if◌then◌else◌, option_and_then}
use Rattle.std.specs.Cmp.Lexicographic.{pointwise}
use Rattle.value_dm.specs.declared.kind.Kind.{Kind}
use Rattle.value_dm.specs.declared.kind.Kind.TheVariants as kind
use Rattle.names_dm.specs.declared.names.ColumnName.{ColumnName}
use Rattle.names_dm.specs.declared.names.RefName.{RefName}
use Rattle.names_dm.specs.declared.names.RelName.{RelName}
use Rattle.names_dm.specs.declared.literal.LiteralType.{LiteralType}
use Rattle.names_dm.specs.declared.literal.LiteralType.TheVariants as type
use Rattle.facts_dm.specs.declared.word.Word.{Word}
use Rattle.facts_dm.specs.declared.word.Word.TheVariants.{RdfType, RdfsDomain, RdfsRange, OwlDifferentFrom, OwlClass, OwlDatatypeProperty, OwlObjectProperty, Datatype}
use Rattle.facts_dm.specs.Facts.{Fact, KindText, Link, link_iri, ref_link, rel_link, triple_of}
use Rattle.facts_dm.specs.Vocabulary.{datatype_iri, literal_type, word_iri}
use Rattle.names_dm.specs.Literals.{LiteralValue}
use Rattle.names_dm.specs.Names.{column_iri, number_sign, table_iri}
use Rattle.names_dm.specs.Reading.{after, cut_at, local_parts, told_column, told_ref, told_rel, unsafe_form}

-- the column of an IRI `T#ref-x` and the reference on x share it, so properties are told by two readers
pub data Meaning : Type 0 where
  of_word : Word → Meaning
  of_table : List ℕ → Meaning
  of_property : Meaning
  of_nothing : Meaning

-- the words, and their IRIs
abbrev pub find_word : List ℕ → List Word → Meaning
find_word text [] = of_nothing
find_word text (w ∷ words) = if pointwise nat_eq text (word_iri w) then of_word w else find_word text words

abbrev pub kinds : List Kind
kinds = kind.Text ∷ kind.Integer ∷ kind.Decimal ∷ kind.Boolean ∷ kind.Date ∷ kind.Time ∷ kind.DateTime ∷ kind.Binary ∷ []

abbrev pub datatype_words : List Kind → List Word
datatype_words [] = []
datatype_words (k ∷ ks) = Datatype k ∷ datatype_words ks

abbrev pub words : List Word
words = RdfType ∷ RdfsDomain ∷ RdfsRange ∷ OwlDifferentFrom ∷ OwlClass ∷ OwlDatatypeProperty ∷ OwlObjectProperty ∷ datatype_words kinds

unfoldable pub word_of : List ℕ → Meaning
word_of text = find_word text words

-- below the base: a property where there is a number sign, else a table
abbrev pub table_or_nothing : Option (List ℕ) → Meaning
table_or_nothing None = of_nothing
table_or_nothing (Some table) = of_table table

abbrev pub below_base : List ℕ → Option (List ℕ × List ℕ) → Meaning
below_base rest (Some parts) = of_property
below_base rest None = table_or_nothing (unsafe_form rest)

abbrev pub meaning_after : List ℕ → Option (List ℕ) → Meaning
meaning_after text None = word_of text
meaning_after text (Some rest) = below_base rest (cut_at number_sign rest)

unfoldable pub meaning : List ℕ → List ℕ → Meaning
meaning base text = meaning_after text (after base text)

-- the link that an IRI tells
abbrev pub empty_ref_of : List ℕ × List ℕ → Option Link
empty_ref_of parts =
    if pointwise nat_eq parts.1 (codes "=") then option_and_then (λ table. Some (ref_link (record { table = table; columns = [] }))) (unsafe_form parts.0) else None

abbrev pub first_link : Option RefName → Option RelName → Option Link → Option Link
first_link (Some name) rel empty = Some (ref_link name)
first_link None (Some name) empty = Some (rel_link name)
first_link None None empty = empty

unfoldable pub told_link : List ℕ → List ℕ → Option Link
told_link base text = first_link (told_ref base text) (told_rel base text) (option_and_then empty_ref_of (local_parts base text))

-- the kind and the text of a literal, if it has the type of a kind
abbrev pub find_kind : List ℕ → List Kind → Option Kind
find_kind datatype [] = None
find_kind datatype (k ∷ ks) = if pointwise nat_eq datatype (datatype_iri k) then Some k else find_kind datatype ks

abbrev pub typed_kinds : List Kind
typed_kinds = kind.Integer ∷ kind.Decimal ∷ kind.Boolean ∷ kind.Date ∷ kind.Time ∷ kind.DateTime ∷ kind.Binary ∷ []

abbrev pub kind_told : LiteralType → Option Kind
kind_told type.Plain = Some kind.Text
kind_told (type.Typed datatype) = find_kind datatype typed_kinds
kind_told (type.Tagged tag) = None

unfoldable pub value_told : LiteralValue → Option KindText
value_told literal = option_and_then (λ k. Some (record { kind = k; text = literal.text })) (kind_told literal.kind)

-- What every base keeps: each name is read from its IRI, no name has the IRI of a word, and a triple says one thing only.
pub record NamingLaws (base : List ℕ) : Type 0 where
  pub word_meaning : (w : Word) → meaning base (word_iri w) ≡ of_word w
  pub table_meaning : (t : List ℕ) → meaning base (table_iri base t) ≡ of_table t
  pub column_meaning : (c : ColumnName) → meaning base (column_iri base c) ≡ of_property
  pub link_meaning : (l : Link) → meaning base (link_iri base l) ≡ of_property
  pub column_told : (c : ColumnName) → told_column base (column_iri base c) ≡ Some c
  pub link_told : (l : Link) → told_link base (link_iri base l) ≡ Some l
  pub value_back : (v : KindText) → value_told (record { text = v.text; kind = literal_type v.kind }) ≡ Some v
  pub one_fact : (f g : Fact) → triple_of base f ≡ triple_of base g → f ≡ g
