-- The IRIs of words are texts in ASCII that an IRI can hold.
use Rattle.std.proofs.Common.{◌≡◌, true, refl, chars}
use Rattle.std.specs.List.{list_all}
use Rattle.value_dm.specs.declared.kind.Kind.{Kind}
use Rattle.value_dm.specs.declared.kind.Kind.TheVariants as kind
use Rattle.names_dm.specs.Terminals.{is_iri, is_mark}
use Rattle.facts_dm.specs.declared.word.Word.{Word}
use Rattle.facts_dm.specs.declared.word.Word.TheVariants.{RdfType, RdfsDomain, RdfsRange, OwlDifferentFrom, OwlClass, OwlDatatypeProperty, OwlObjectProperty, Datatype}
use Rattle.facts_dm.specs.Vocabulary.{datatype_iri, word_iri}
use Rattle.facts_dm.proofs.Marks.{marks_are_iri, marks_chars}

datatype_marks : (k : Kind) → list_all is_mark (datatype_iri k) ≡ true
datatype_marks kind.Text = refl
datatype_marks kind.Integer = refl
datatype_marks kind.Decimal = refl
datatype_marks kind.Boolean = refl
datatype_marks kind.Date = refl
datatype_marks kind.Time = refl
datatype_marks kind.DateTime = refl
datatype_marks kind.Binary = refl

word_marks : (w : Word) → list_all is_mark (word_iri w) ≡ true
word_marks RdfType = refl
word_marks RdfsDomain = refl
word_marks RdfsRange = refl
word_marks OwlDifferentFrom = refl
word_marks OwlClass = refl
word_marks OwlDatatypeProperty = refl
word_marks OwlObjectProperty = refl
word_marks (Datatype k) = datatype_marks k

pub word_is_iri : (w : Word) → is_iri (word_iri w) ≡ true
word_is_iri w = marks_are_iri (word_iri w) (word_marks w)

pub word_chars : (w : Word) → chars (word_iri w) ≡ word_iri w
word_chars w = marks_chars (word_iri w) (word_marks w)
