-- Literals of a kind, and the canonical forms of texts.
use Rattle.std.proofs.Common.{◌≡◌, ◌≢◌, ◌↔◌, ℕ, List, [], ◌∷◌, Bool, true, false, refl, sym, ap, ◌∙◌, subst, IsTrue, chars, ltb}
use Rattle.std.specs.Cmp.Lexicographic.{bytes_decides, pointwise}
use Rattle.std.specs.List.{list_all}
use Rattle.std.specs.Prelude.{nat_eq}
use Rattle.std.specs.Str.{IsAscii, IsUtf8}
use Rattle.std.proofs.lemmas.Bool.{ltb-true}
use Rattle.std.proofs.lemmas.Str.{chars-IsAscii}
use Rattle.std.proofs.lemmas.Str.Ascii.{IsAscii-cons, IsAscii-nil}
use Rattle.value_dm.specs.declared.kind.Kind.{Kind}
use Rattle.value_dm.specs.declared.kind.Kind.TheVariants as kind
use Rattle.value_dm.specs.declared.value.Value.TheVariants as value
use Rattle.value_dm.specs.Texts.{IsText}
use Rattle.names_dm.specs.Characters.{is_ascii}
use Rattle.names_dm.specs.Literals.{LiteralValue}
use Rattle.names_dm.specs.declared.literal.LiteralType.TheVariants as type
use Rattle.names_dm.specs.declared.term.Term.TheVariants as term
use Rattle.names_dm.proofs.Ascii.{and_parts, same_text}
use Rattle.facts_dm.specs.Facts.{KindText}
use Rattle.facts_dm.specs.Vocabulary.{datatype_iri, literal_type}
use Rattle.layouts_dm.specs.Layouts.{IsCanonical}
use Rattle.roles_dm.specs.Canonical.{IsCanonicalOf}

-- ---- datatypes

ascii_text : (text : List ℕ) → list_all is_ascii text ≡ true → IsAscii text
ascii_text [] e = IsAscii-nil
ascii_text (c ∷ text) e = let h = and_parts (ltb c 128) (list_all is_ascii text) e in IsAscii-cons c text (ltb-true c 128 h.0) (ascii_text text h.1)

datatype_ascii : (k : Kind) → list_all is_ascii (datatype_iri k) ≡ true
datatype_ascii kind.Text = refl
datatype_ascii kind.Integer = refl
datatype_ascii kind.Decimal = refl
datatype_ascii kind.Boolean = refl
datatype_ascii kind.Date = refl
datatype_ascii kind.Time = refl
datatype_ascii kind.DateTime = refl
datatype_ascii kind.Binary = refl

datatype_chars : (k : Kind) → chars (datatype_iri k) ≡ datatype_iri k
datatype_chars k = chars-IsAscii (datatype_iri k) (ascii_text (datatype_iri k) (datatype_ascii k))

pub datatype_told : (k : Kind) (xs ys d : List ℕ) (r : Bool) → IsUtf8 xs → IsUtf8 ys → chars xs ≡ d → ys ≡ datatype_iri k → r ≡ pointwise nat_eq xs ys → IsTrue r ↔ (d ≡ datatype_iri k)
datatype_told k xs ys d r text other is word e =
    let same : r ≡ pointwise nat_eq d (datatype_iri k) = e ∙ same_text xs ys text other ∙ ap (λ zs. pointwise nat_eq zs (chars ys)) is ∙ ap (pointwise nat_eq d) (ap chars word ∙ datatype_chars k) in (
      (λ h. (bytes_decides d (datatype_iri k)).0 (sym same ∙ h)),
      (λ h. same ∙ (bytes_decides d (datatype_iri k)).1 h),
    )

pub typed_told : (k : Kind) (d : List ℕ) (r : Bool) → k ≢ kind.Text → IsTrue r ↔ (d ≡ datatype_iri k) → IsTrue r ↔ (type.Typed d ≡ literal_type k)
typed_told kind.Text d r apart test = absurd (apart refl)
typed_told kind.Integer d r apart test = ((λ h. ap type.Typed (test.0 h)), (λ e. test.1 (cc e)))
typed_told kind.Decimal d r apart test = ((λ h. ap type.Typed (test.0 h)), (λ e. test.1 (cc e)))
typed_told kind.Boolean d r apart test = ((λ h. ap type.Typed (test.0 h)), (λ e. test.1 (cc e)))
typed_told kind.Date d r apart test = ((λ h. ap type.Typed (test.0 h)), (λ e. test.1 (cc e)))
typed_told kind.Time d r apart test = ((λ h. ap type.Typed (test.0 h)), (λ e. test.1 (cc e)))
typed_told kind.DateTime d r apart test = ((λ h. ap type.Typed (test.0 h)), (λ e. test.1 (cc e)))
typed_told kind.Binary d r apart test = ((λ h. ap type.Typed (test.0 h)), (λ e. test.1 (cc e)))

no : {P : Type 0} → ¬ P → IsTrue false ↔ P
no none = ((λ h. absurd (let f : false ≡ true = h in cc)), (λ p. absurd (none p)))

pub text_not_typed : (k : Kind) (d : List ℕ) → k ≡ kind.Text → IsTrue false ↔ (type.Typed d ≡ literal_type k)
text_not_typed k d e = no (λ h. let f : type.Typed d ≡ type.Plain = h ∙ ap literal_type e in cc)

pub plain_told : (k : Kind) (r : Bool) → IsTrue r ↔ (k ≡ kind.Text) → IsTrue r ↔ (type.Plain ≡ literal_type k)
plain_told k r test = ((λ h. sym (ap literal_type (test.0 h))), (λ e. test.1 (text_of k e)))
  where
    text_of : (k : Kind) → type.Plain ≡ literal_type k → k ≡ kind.Text
    text_of kind.Text e = refl
    text_of kind.Integer e = absurd (cc)
    text_of kind.Decimal e = absurd (cc)
    text_of kind.Boolean e = absurd (cc)
    text_of kind.Date e = absurd (cc)
    text_of kind.Time e = absurd (cc)
    text_of kind.DateTime e = absurd (cc)
    text_of kind.Binary e = absurd (cc)

pub tagged_told : (k : Kind) (tag : List ℕ) → IsTrue false ↔ (type.Tagged tag ≡ literal_type k)
tagged_told k tag = no (go k)
  where
    go : (k : Kind) → type.Tagged tag ≡ literal_type k → ⊥
    go kind.Text e = cc
    go kind.Integer e = cc
    go kind.Decimal e = cc
    go kind.Boolean e = cc
    go kind.Date e = cc
    go kind.Time e = cc
    go kind.DateTime e = cc
    go kind.Binary e = cc

-- ---- forms

-- each text is the form of a text
pub text_form : (k : Kind) (text : List ℕ) → k ≡ kind.Text → IsText text → IsTrue true ↔ IsCanonical (record { kind = k; text = text })
text_form k text e scalars = ((λ _. (value.Text text, scalars, sym e, refl)), (λ _. refl))

unliteral : (a b : LiteralValue) → term.Literal a ≡ term.Literal b → a ≡ b
unliteral a b e = cc

pub literal_told : (k : Kind) (l : LiteralValue) (r : Bool) → l.kind ≡ literal_type k → IsTrue r ↔ IsCanonical (record { kind = k; text = l.text }) → IsTrue r ↔ IsCanonicalOf k (term.Literal l)
literal_told k l r same test = (
  (λ e. (record { kind = k; text = l.text }, (λ i. term.Literal (record { text = l.text; kind = same i })), refl, test.0 e)),
  (λ h.
      let v : KindText = h.0 in
      let text : v.text ≡ l.text = sym (ap (λ (x : LiteralValue). x.text) (unliteral l (record { text = v.text; kind = literal_type v.kind }) h.1)) in
      let is : v ≡ record { kind = k; text = l.text } = λ i. record { kind = h.2 i; text = text i } in
      test.1 (subst IsCanonical is h.3)),
)
