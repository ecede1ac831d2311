use Rattle.std.proofs.Common.{◌≡◌, ◌↔◌, ◌∙◌, ap, sym, refl, chars, encode_utf8_all, IsTrue, Bool, subst}
use Rattle.std.specs.Prelude.{nat_eq}
use Rattle.std.specs.Char.{encode_utf8}
use Rattle.std.specs.Cmp.Lexicographic.{pointwise}
use Rattle.std.specs.Str.{IsUtf8}
use Rattle.std.proofs.lemmas.Str.{chars-encodes}
use Rattle.value_dm.specs.Equality.{numbers_decide}
use Rattle.value_dm.specs.declared.kind.Kind.{Kind}
use Rattle.value_dm.specs.declared.kind.Kind.TheVariants as kind
use Rattle.names_dm.proofs.Ascii.{same_text}
use Rattle.facts_dm.specs.Vocabulary.{datatype_iri}
use Rattle.graph_tables_dm.proofs.cells.is_datatype.Goals as goal

one_byte_each : (k : Kind) → encode_utf8_all (datatype_iri k) ≡ datatype_iri k
unfolding encode_utf8
one_byte_each kind.Text = refl
one_byte_each kind.Integer = refl
one_byte_each kind.Decimal = refl
one_byte_each kind.Boolean = refl
one_byte_each kind.Date = refl
one_byte_each kind.Time = refl
one_byte_each kind.DateTime = refl
one_byte_each kind.Binary = refl

is_text : (k : Kind) → IsUtf8 (datatype_iri k)
is_text kind.Text = (datatype_iri kind.Text, (refl, one_byte_each kind.Text))
is_text kind.Integer = (datatype_iri kind.Integer, (refl, one_byte_each kind.Integer))
is_text kind.Decimal = (datatype_iri kind.Decimal, (refl, one_byte_each kind.Decimal))
is_text kind.Boolean = (datatype_iri kind.Boolean, (refl, one_byte_each kind.Boolean))
is_text kind.Date = (datatype_iri kind.Date, (refl, one_byte_each kind.Date))
is_text kind.Time = (datatype_iri kind.Time, (refl, one_byte_each kind.Time))
is_text kind.DateTime = (datatype_iri kind.DateTime, (refl, one_byte_each kind.DateTime))
is_text kind.Binary = (datatype_iri kind.Binary, (refl, one_byte_each kind.Binary))

its_characters : (k : Kind) → chars (datatype_iri k) ≡ datatype_iri k
its_characters kind.Text = ap chars (sym (one_byte_each kind.Text)) ∙ chars-encodes (datatype_iri kind.Text) refl
its_characters kind.Integer = ap chars (sym (one_byte_each kind.Integer)) ∙ chars-encodes (datatype_iri kind.Integer) refl
its_characters kind.Decimal = ap chars (sym (one_byte_each kind.Decimal)) ∙ chars-encodes (datatype_iri kind.Decimal) refl
its_characters kind.Boolean = ap chars (sym (one_byte_each kind.Boolean)) ∙ chars-encodes (datatype_iri kind.Boolean) refl
its_characters kind.Date = ap chars (sym (one_byte_each kind.Date)) ∙ chars-encodes (datatype_iri kind.Date) refl
its_characters kind.Time = ap chars (sym (one_byte_each kind.Time)) ∙ chars-encodes (datatype_iri kind.Time) refl
its_characters kind.DateTime = ap chars (sym (one_byte_each kind.DateTime)) ∙ chars-encodes (datatype_iri kind.DateTime) refl
its_characters kind.Binary = ap chars (sym (one_byte_each kind.Binary)) ∙ chars-encodes (datatype_iri kind.Binary) refl

pub returns : goal.returns
returns c =
    let i = c.args.iri.now in
    let D = datatype_iri c.args.kind in
    let test : c.eq.result ≡ pointwise nat_eq i D =
    c.eq.ensures ∙ ap (pointwise nat_eq c.as_str.result.now) c.as_str-2.ensures ∙ same_text _ D c.as_str.utf8 (is_text c.args.kind) ∙ (λ t. pointwise nat_eq (c.as_str.ensures.chars t) (its_characters c.args.kind t)) in
    subst (λ (b : Bool). IsTrue b ↔ (i ≡ D)) (sym test) (numbers_decide i D)
