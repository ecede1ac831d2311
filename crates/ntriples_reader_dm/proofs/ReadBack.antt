-- A text of triples is a document of these triples.
use Rattle.std.proofs.Common.{◌≡◌, ◌∙◌, ℕ, suc, List, [], ◌∷◌, ◌++◌, get_or, Bool, true, false, Some, refl, sym, ap, subst, arith, inl, inr, append_assoc, encode_utf8_all}
use Rattle.std.specs.Prelude.{◌==◌, ◌||◌, ◌&&◌, not, All}
use Rattle.std.specs.Char.{encode_utf8}
use Rattle.std.specs.List.{list_all, list_any, flat_map}
use Rattle.std.specs.Str.{all_scalars}
use Rattle.std.proofs.Math.Utf8.{scalar}
use Rattle.std.proofs.lemmas.Bool.{cases_Bool, eqb-true}
use Rattle.std.proofs.lemmas.List.{append-nil}
use Rattle.std.proofs.lemmas.List.Folds.{list_all-append}
use Rattle.std.proofs.lemmas.Str.{encodes-append, inside_one}
use Rattle.names_dm.specs.Statements.{Statement}
use Rattle.names_dm.specs.Characters.{is_ascii_letter}
use Rattle.names_dm.specs.Terminals.{is_forbidden, is_iri, is_label, is_tag, begins_label, continues_label, last_of, is_letter_or_digit}
use Rattle.names_dm.specs.declared.literal.LiteralType.{LiteralType}
use Rattle.names_dm.specs.declared.literal.LiteralType.TheVariants.{Plain, Typed, Tagged}
use Rattle.names_dm.specs.declared.term.Term.{Term}
use Rattle.names_dm.specs.declared.term.Term.TheVariants as term
use Rattle.names_dm.proofs.Utf8.{chars-encodes_any}
use Rattle.names_dm.proofs.Words.{rest_is_tag, is_tag-from_loop}
use Rattle.ntriples_dm.specs.Written.{escaped, iri_text, quoted_text, type_text, term_text, triple_text}
use Rattle.ntriples_reader_dm.specs.Document.{AreTriples, IsDocument}
use Rattle.ntriples_reader_dm.specs.Grammar.{IsLine, line}
use Rattle.ntriples_reader_dm.specs.Lawful.{IsIri, IsLawfulType, IsLawfulNode, IsLawfulTerm, IsLawful}
use Rattle.ntriples_reader_dm.specs.Lines.{is_end, into_first, lines}
use Rattle.ntriples_reader_dm.specs.WrittenLine.{iri_chars, type_chars, term_chars, line_chars}
use Rattle.value_dm.specs.Texts.{IsText}
use Rattle.ntriples_reader_dm.proofs.Cuts.{cut_later}
use Rattle.ntriples_reader_dm.proofs.Exact.{true_false, both_of}
use Rattle.ntriples_reader_dm.proofs.Scans.{IsAsciiTest, none_by_place}
use Rattle.ntriples_reader_dm.proofs.Written.{line_stands}

-- ---- the bytes of a line

pub iri_bytes : (iri rest : List ℕ) → encode_utf8_all (iri_chars iri rest) ≡ iri_text iri ++ encode_utf8_all rest
unfolding encode_utf8
iri_bytes iri rest = ap (λ x. 60 ∷ x) (encodes-append iri (62 ∷ rest) ∙ sym (append_assoc (encode_utf8_all iri) (62 ∷ []) (encode_utf8_all rest)))

pub type_bytes : (k : LiteralType) (rest : List ℕ) → encode_utf8_all (type_chars k rest) ≡ type_text k ++ encode_utf8_all rest
unfolding encode_utf8
type_bytes Plain rest = refl
type_bytes (Typed d) rest = ap (λ x. 94 ∷ 94 ∷ x) (iri_bytes d rest)
type_bytes (Tagged t) rest = ap (λ x. 64 ∷ x) (encodes-append t rest)

pub quoted_bytes : (text rest more : List ℕ) → encode_utf8_all rest ≡ more → encode_utf8_all (flat_map escaped text ++ 34 ∷ rest) ≡ quoted_text text ++ 34 ∷ more
unfolding encode_utf8
quoted_bytes text rest more e = encodes-append (flat_map escaped text) (34 ∷ rest) ∙ ap (λ x. quoted_text text ++ 34 ∷ x) e

pub term_bytes : (o : Term) (rest : List ℕ) → encode_utf8_all (term_chars o rest) ≡ term_text o ++ encode_utf8_all rest
unfolding encode_utf8
term_bytes (term.Iri iri) rest = iri_bytes iri rest
term_bytes (term.Blank l) rest = ap (λ x. 95 ∷ 58 ∷ x) (encodes-append l rest)
term_bytes (term.Literal v) rest = ap (λ x. 34 ∷ x)
    (quoted_bytes v.text (type_chars v.kind rest) (type_text v.kind ++ encode_utf8_all rest) (type_bytes v.kind rest)
    ∙ sym (append_assoc (quoted_text v.text) (34 ∷ type_text v.kind) (encode_utf8_all rest)))

-- what stands behind the last of three parts
behind_three : (a b c e f : List ℕ) → (a ++ 32 ∷ (b ++ 32 ∷ (c ++ e))) ++ f ≡ a ++ 32 ∷ (b ++ 32 ∷ (c ++ (e ++ f)))
behind_three a b c e f =
    append_assoc a (32 ∷ (b ++ 32 ∷ (c ++ e))) f
    ∙ ap (λ x. a ++ 32 ∷ x) (append_assoc b (32 ∷ (c ++ e)) f ∙ ap (λ x. b ++ 32 ∷ x) (append_assoc c e f))

line_bytes : (t : Statement) → encode_utf8_all (line_chars t) ≡ term_text t.subject ++ 32 ∷ (iri_text t.predicate ++ 32 ∷ (term_text t.object ++ 32 ∷ 46 ∷ []))
unfolding encode_utf8
line_bytes t =
    let o = term_chars t.object (32 ∷ 46 ∷ []) in
    term_bytes t.subject (32 ∷ iri_chars t.predicate (32 ∷ o))
    ∙ ap (λ x. term_text t.subject ++ 32 ∷ x) (iri_bytes t.predicate (32 ∷ o) ∙ ap (λ x. iri_text t.predicate ++ 32 ∷ x) (term_bytes t.object (32 ∷ 46 ∷ [])))

from_the_left : (a b c d e f : List ℕ) → a ++ b ++ c ++ d ++ e ++ f ≡ a ++ (b ++ (c ++ (d ++ (e ++ f))))
from_the_left a b c d e f = simp append_assoc refl

triple_bytes : (t : Statement) → triple_text t ≡ encode_utf8_all (line_chars t) ++ 10 ∷ []
unfolding triple_text
triple_bytes t = from_the_left (term_text t.subject) (32 ∷ []) (iri_text t.predicate) (32 ∷ []) (term_text t.object) (32 ∷ 46 ∷ 10 ∷ []) ∙ sym (ap (λ x. x ++ 10 ∷ []) (line_bytes t) ∙ behind_three (term_text t.subject) (iri_text t.predicate) (term_text t.object) (32 ∷ 46 ∷ []) (10 ∷ []))

-- ---- no character of a line ends it

abbrev NoEnd : List ℕ → Type 0
NoEnd cs = list_all (λ c. not (is_end c)) cs ≡ true

and_true : (a b : Bool) → a ≡ true → b ≡ true → (a && b) ≡ true
and_true true b e f = f
and_true false b e f = absurd cc

no_end_both : (xs ys : List ℕ) → NoEnd xs → NoEnd ys → NoEnd (xs ++ ys)
no_end_both xs ys e f = list_all-append (λ c. not (is_end c)) xs ys ∙ and_true (list_all (λ c. not (is_end c)) xs) (list_all (λ c. not (is_end c)) ys) e f

-- a test that neither LF nor CR passes
record KeepsEndsOut (test : ℕ → Bool) : Type 0 where
  lf : test 10 ≡ false
  cr : test 13 ≡ false

no_end_at : (test : ℕ → Bool) → KeepsEndsOut test → (c : ℕ) → test c ≡ true → is_end c ≡ false
no_end_at test k c e = elim (cases_Bool (c == 10)) [
  | inl lf ↦ true_false (test c) e (ap test (eqb-true c 10 lf) ∙ k.lf)
  | inr none ↦ elim (cases_Bool (c == 13)) [
    | inl cr ↦ true_false (test c) e (ap test (eqb-true c 13 cr) ∙ k.cr)
    | inr other ↦ rw (none, other) refl
  ]
]

no_end_of : (test : ℕ → Bool) → KeepsEndsOut test → (cs : List ℕ) → list_all test cs ≡ true → NoEnd cs
no_end_of test k [] e = refl
no_end_of test k (c ∷ cs) e =
    let h = both_of (test c) (list_all test cs) e in
    and_true (not (is_end c)) (list_all (λ c. not (is_end c)) cs) (ap not (no_end_at test k c h.0)) (no_end_of test k cs h.1)

none_passes : (test : ℕ → Bool) (cs : List ℕ) → not (list_any test cs) ≡ true → list_all (λ c. not (test c)) cs ≡ true
none_passes test [] e = refl
none_passes test (c ∷ cs) e = elim (cases_Bool (test c)) [
  | inl hit ↦ true_false (not (test c || list_any test cs)) e (ap (λ b. not (b || list_any test cs)) hit)
  | inr miss ↦ and_true (not (test c)) (list_all (λ c. not (test c)) cs) (ap not miss) (none_passes test cs (sym (ap (λ b. not (b || list_any test cs)) miss) ∙ e))
]

iri_no_end : (iri : List ℕ) → is_iri iri ≡ true → NoEnd iri
unfolding is_iri
iri_no_end iri e = no_end_of (λ c. not (is_forbidden c)) (record { lf = refl; cr = refl }) iri (none_passes is_forbidden iri e)

begins_keeps : KeepsEndsOut begins_label
unfolding begins_label
begins_keeps = record { lf = refl; cr = refl }

continues_keeps : KeepsEndsOut continues_label
unfolding continues_label
continues_keeps = record { lf = refl; cr = refl }

label_no_end : (label : List ℕ) → is_label label ≡ true → NoEnd label
label_no_end [] e = refl
label_no_end (c ∷ cs) e =
    let h = both_of (begins_label c) (list_all continues_label cs) (both_of (begins_label c && list_all continues_label cs) (not (last_of c cs == 46)) e).0 in
    and_true (not (is_end c)) (list_all (λ c. not (is_end c)) cs) (ap not (no_end_at begins_label begins_keeps c h.0)) (no_end_of continues_label continues_keeps cs h.1)

abbrev in_tag : Bool → Bool → ℕ → Bool
in_tag first empty c = ((c == 45) && not empty) || (not (c == 45) && ((first && is_ascii_letter c) || (not first && is_letter_or_digit c)))

in_tag_keeps : (first empty : Bool) → KeepsEndsOut (in_tag first empty)
in_tag_keeps true empty = record { lf = refl; cr = refl }
in_tag_keeps false empty = record { lf = refl; cr = refl }

tag_rest_no_end : (first empty : Bool) (cs : List ℕ) → rest_is_tag first empty cs ≡ true → NoEnd cs
tag_rest_no_end first empty [] e = refl
tag_rest_no_end first empty (c ∷ cs) e =
    let h = both_of (in_tag first empty c) (rest_is_tag (first && not (c == 45)) (c == 45) cs) e in
    and_true (not (is_end c)) (list_all (λ c. not (is_end c)) cs) (ap not (no_end_at (in_tag first empty) (in_tag_keeps first empty) c h.0))
    (tag_rest_no_end (first && not (c == 45)) (c == 45) cs h.1)

tag_no_end : (tag : List ℕ) → is_tag tag ≡ true → NoEnd tag
tag_no_end tag e = tag_rest_no_end true true tag (is_tag-from_loop tag ∙ e)

escaped_no_end : (c : ℕ) → NoEnd (escaped c)
unfolding escaped
escaped_no_end c = elim (cases_Bool (c == 34)) [
  | inl hit ↦ rw hit refl
  | inr e34 ↦ rw e34 (elim (cases_Bool (c == 92)) [
    | inl hit ↦ rw hit refl
    | inr e92 ↦ rw e92 (elim (cases_Bool (c == 10)) [
      | inl hit ↦ rw hit refl
      | inr e10 ↦ rw e10 (elim (cases_Bool (c == 13)) [
        | inl hit ↦ rw hit refl
        | inr e13 ↦ rw e13 (ap (λ b. not (b || (c == 13)) && true) e10 ∙ ap (λ b. not b && true) e13)
      ])
    ])
  ])
]

text_no_end : (text : List ℕ) → NoEnd (flat_map escaped text)
text_no_end [] = refl
text_no_end (c ∷ cs) = no_end_both (escaped c) (flat_map escaped cs) (escaped_no_end c) (text_no_end cs)

iri_chars_no_end : (iri rest : List ℕ) → is_iri iri ≡ true → NoEnd rest → NoEnd (iri_chars iri rest)
iri_chars_no_end iri rest e f = no_end_both iri (62 ∷ rest) (iri_no_end iri e) f

type_chars_no_end : (k : LiteralType) (rest : List ℕ) → IsLawfulType k → NoEnd rest → NoEnd (type_chars k rest)
type_chars_no_end Plain rest h f = f
type_chars_no_end (Typed d) rest h f = iri_chars_no_end d rest h.0.0 f
type_chars_no_end (Tagged t) rest h f = no_end_both t rest (tag_no_end t h.0) f

term_chars_no_end : (o : Term) (rest : List ℕ) → IsLawfulTerm o → NoEnd rest → NoEnd (term_chars o rest)
term_chars_no_end (term.Iri iri) rest h f = iri_chars_no_end iri rest h.0 f
term_chars_no_end (term.Blank l) rest h f = no_end_both l rest (label_no_end l h.0) f
term_chars_no_end (term.Literal v) rest h f = no_end_both (flat_map escaped v.text) (34 ∷ type_chars v.kind rest) (text_no_end v.text) (type_chars_no_end v.kind rest h.1 f)

node_is_term : (s : Term) → IsLawfulNode s → IsLawfulTerm s
node_is_term (term.Iri iri) h = h
node_is_term (term.Blank l) h = h
node_is_term (term.Literal v) h = absurd h

line_no_end : (t : Statement) → IsLawful t → NoEnd (line_chars t)
line_no_end t h =
    term_chars_no_end t.subject (32 ∷ iri_chars t.predicate (32 ∷ term_chars t.object (32 ∷ 46 ∷ []))) (node_is_term t.subject h.subject)
    (iri_chars_no_end t.predicate (32 ∷ term_chars t.object (32 ∷ 46 ∷ [])) h.predicate.0 (term_chars_no_end t.object (32 ∷ 46 ∷ []) h.object refl))

-- ---- and so no byte

end_is_ascii : IsAsciiTest is_end
end_is_ascii b e = elim (cases_Bool (b == 10)) [
  | inl hit ↦ rw (eqb-true b 10 hit) (omega arith)
  | inr none ↦ rw (eqb-true b 13 (sym (ap (λ x. x || (b == 13)) none) ∙ e)) (omega arith)
]

character_bytes : (c : ℕ) → is_end c ≡ false → NoEnd (encode_utf8 c)
character_bytes c e = none_by_place is_end (encode_utf8 c) (λ k below. elim (cases_Bool (is_end (get_or (encode_utf8 c) k 0))) [
  | inl hit ↦ true_false (is_end c) (ap is_end (inside_one c [] (encode_utf8 c) k (sym (append-nil (encode_utf8 c))) below (end_is_ascii (get_or (encode_utf8 c) k 0) hit)) ∙ hit) e
  | inr miss ↦ miss
])

not_true : (b : Bool) → not b ≡ true → b ≡ false
not_true true e = absurd cc
not_true false e = refl

bytes_no_end : (cs : List ℕ) → NoEnd cs → NoEnd (encode_utf8_all cs)
bytes_no_end [] e = refl
bytes_no_end (c ∷ cs) e =
    let h = both_of (not (is_end c)) (list_all (λ c. not (is_end c)) cs) e in
    no_end_both (encode_utf8 c) (encode_utf8_all cs) (character_bytes c (not_true (is_end c) h.0)) (bytes_no_end cs h.1)

-- ---- scalar values

pub scalars_both : (xs ys : List ℕ) → IsText xs → IsText ys → IsText (xs ++ ys)
scalars_both [] ys e f = f
scalars_both (x ∷ xs) ys e f = let h = both_of (scalar x) (all_scalars xs) e in and_true (scalar x) (all_scalars (xs ++ ys)) h.0 (scalars_both xs ys h.1 f)

pub escaped_scalars : (c : ℕ) → scalar c ≡ true → IsText (escaped c)
unfolding escaped
escaped_scalars c e = elim (cases_Bool (c == 34)) [
  | inl hit ↦ rw hit refl
  | inr e34 ↦ rw e34 (elim (cases_Bool (c == 92)) [
    | inl hit ↦ rw hit refl
    | inr e92 ↦ rw e92 (elim (cases_Bool (c == 10)) [
      | inl hit ↦ rw hit refl
      | inr e10 ↦ rw e10 (elim (cases_Bool (c == 13)) [
        | inl hit ↦ rw hit refl
        | inr e13 ↦ rw e13 (ap (λ b. b && true) e)
      ])
    ])
  ])
]

pub quoted_scalars : (text : List ℕ) → IsText text → IsText (flat_map escaped text)
quoted_scalars [] e = refl
quoted_scalars (c ∷ cs) e = let h = both_of (scalar c) (all_scalars cs) e in scalars_both (escaped c) (flat_map escaped cs) (escaped_scalars c h.0) (quoted_scalars cs h.1)

pub iri_scalars : (iri rest : List ℕ) → IsIri iri → IsText rest → IsText (iri_chars iri rest)
iri_scalars iri rest h f = scalars_both iri (62 ∷ rest) h.1 f

pub type_scalars : (k : LiteralType) (rest : List ℕ) → IsLawfulType k → IsText rest → IsText (type_chars k rest)
type_scalars Plain rest h f = f
type_scalars (Typed d) rest h f = iri_scalars d rest h.0 f
type_scalars (Tagged t) rest h f = scalars_both t rest h.1 f

pub term_scalars : (o : Term) (rest : List ℕ) → IsLawfulTerm o → IsText rest → IsText (term_chars o rest)
term_scalars (term.Iri iri) rest h f = iri_scalars iri rest h f
term_scalars (term.Blank l) rest h f = scalars_both l rest h.1 f
term_scalars (term.Literal v) rest h f = scalars_both (flat_map escaped v.text) (34 ∷ type_chars v.kind rest) (quoted_scalars v.text h.0) (type_scalars v.kind rest h.1 f)

line_scalars : (t : Statement) → IsLawful t → IsText (line_chars t)
line_scalars t h =
    term_scalars t.subject (32 ∷ iri_chars t.predicate (32 ∷ term_chars t.object (32 ∷ 46 ∷ []))) (node_is_term t.subject h.subject)
    (iri_scalars t.predicate (32 ∷ term_chars t.object (32 ∷ 46 ∷ [])) h.predicate (term_scalars t.object (32 ∷ 46 ∷ []) h.object refl))

-- ---- lines and documents

first_line : (text rest : List ℕ) → NoEnd text → lines (text ++ 10 ∷ rest) ≡ text ∷ lines rest
unfolding lines
first_line [] [] e = refl
first_line [] (b ∷ rest) e = refl
first_line (b ∷ []) rest e =
    cut_later b 10 rest (not_true (is_end b) (both_of (not (is_end b)) true e).0) ∙ ap (into_first b) (first_line [] rest refl)
first_line (b ∷ c ∷ text) rest e =
    let h = both_of (not (is_end b)) (list_all (λ c. not (is_end c)) (c ∷ text)) e in
    cut_later b c (text ++ 10 ∷ rest) (not_true (is_end b) h.0) ∙ ap (into_first b) (first_line (c ∷ text) rest h.1)

line_of : (t : Statement) → IsLawful t → IsLine (encode_utf8_all (line_chars t)) (Some t)
line_of t h = ((line_chars t, (line_scalars t h, refl)), subst (λ (cs : List ℕ). line cs [] (Some t)) (sym (chars-encodes_any (line_chars t))) (line_stands t h))

text_lines : (t : Statement) (rest : List ℕ) → IsLawful t → lines (triple_text t ++ rest) ≡ encode_utf8_all (line_chars t) ∷ lines rest
text_lines t rest h =
    ap (λ (bs : List ℕ). lines (bs ++ rest)) (triple_bytes t) ∙ ap lines (append_assoc (encode_utf8_all (line_chars t)) (10 ∷ []) rest)
    ∙ first_line (encode_utf8_all (line_chars t)) rest (bytes_no_end (line_chars t) (line_no_end t h))

pub text_reads_back : (ts : List Statement) → All IsLawful ts → IsDocument (flat_map triple_text ts) ts
unfolding lines
text_reads_back [] h = refl
text_reads_back (t ∷ ts) h =
    subst (λ (ls : List (List ℕ)). AreTriples ls (t ∷ ts)) (sym (text_lines t (flat_map triple_text ts) (h 0 t (omega arith))))
    (Some t, ts, line_of t (h 0 t (omega arith)), text_reads_back ts (λ k d below. h (suc k) d (omega arith)), refl)
