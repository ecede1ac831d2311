-- The written form of a triple, without its LF, is a line that says it: in characters.
use Rattle.std.proofs.Common.{◌≡◌, ◌∙◌, ℕ, List, [], ◌∷◌, ◌++◌, Bool, true, false, Some, None, refl, sym, ap, subst, inl, inr, append_assoc}
use Rattle.std.specs.Prelude.{◌==◌, ◌||◌, ◌&&◌, not, if◌then◌else◌}
use Rattle.std.specs.List.{list_all, list_any, flat_map}
use Rattle.std.proofs.lemmas.Bool.{eqb-true, cases_Bool}
use Rattle.names_dm.specs.Literals.{LiteralValue, literal_of}
use Rattle.names_dm.specs.Statements.{Statement}
use Rattle.names_dm.specs.Characters.{is_ascii_letter}
use Rattle.names_dm.specs.Terminals.{is_forbidden, is_iri, is_label, is_tag, begins_label, continues_label, last_of, is_letter_or_digit}
use Rattle.names_dm.specs.declared.literal.LiteralType.{LiteralType}
use Rattle.names_dm.specs.declared.literal.LiteralType.TheVariants.{Plain, Typed, Tagged}
use Rattle.names_dm.specs.declared.term.Term.{Term}
use Rattle.names_dm.specs.declared.term.Term.TheVariants as term
use Rattle.ntriples_dm.specs.Written.{escaped}
use Rattle.ntriples_reader_dm.specs.Part.{Repeats, IsLongest}
use Rattle.ntriples_reader_dm.specs.Part.Repeats.{no_repeat, one_more}
use Rattle.ntriples_reader_dm.specs.Grammar.{blanks, iri_character, iri_ref, text_character, echar, quoted, label, tag, literal_type, literal, subject, object, triple, line}
use Rattle.ntriples_reader_dm.specs.WrittenLine.{iri_chars, type_chars, line_chars, term_chars}
use Rattle.ntriples_reader_dm.specs.Lawful.{IsLawfulType, IsLawfulNode, IsLawfulTerm, IsLawful}
use Rattle.ntriples_reader_dm.proofs.Exact.{true_false, both_of}
use Rattle.ntriples_reader_dm.proofs.Labels.{all_behind}
use Rattle.names_dm.proofs.Words.{rest_is_tag, is_tag-from_loop}

not_true : (b : Bool) → not b ≡ true → b ≡ false
not_true true e = absurd cc
not_true false e = refl

or_parts : (a b : Bool) → (a || b) ≡ false → (a ≡ false) × (b ≡ false)
or_parts true b e = absurd cc
or_parts false b e = (refl, e)

pub iri_repeats : (iri rest : List ℕ) → list_any is_forbidden iri ≡ false → Repeats iri_character (iri ++ rest) rest iri
iri_repeats [] rest e = no_repeat
iri_repeats (c ∷ iri) rest e =
    let h = or_parts (is_forbidden c) (list_any is_forbidden iri) e in
    one_more {mid = iri ++ rest} (inl refl, ap not h.0) (iri_repeats iri rest h.1)

pub iri_stands : (iri rest : List ℕ) → is_iri iri ≡ true → iri_ref (60 ∷ (iri ++ 62 ∷ rest)) rest iri
unfolding is_iri iri_ref
iri_stands iri rest e = (iri ++ 62 ∷ rest, tt, refl, (62 ∷ rest, iri, iri_repeats iri (62 ∷ rest) (not_true (list_any is_forbidden iri) e), (rest, tt, refl, (refl, refl))))

escape_stands : (c letter : ℕ) (rest : List ℕ) → text_character (92 ∷ letter ∷ rest) rest c → (us : List ℕ) → us ≡ 92 ∷ letter ∷ [] → text_character (us ++ rest) rest c
escape_stands c letter rest p us e = subst (λ (vs : List ℕ). text_character (vs ++ rest) rest c) (sym e) p

pub text_stands : (c : ℕ) (rest : List ℕ) → text_character (escaped c ++ rest) rest c
unfolding escaped echar
text_stands c rest = elim (cases_Bool (c == 34)) [
  | inl quote ↦ rw quote (inr (inl (34 ∷ rest, tt, refl, (34, refl, ap (λ x. Some x) (sym (eqb-true c 34 quote))))))
  | inr e34 ↦ rw e34 (elim (cases_Bool (c == 92)) [
    | inl hit ↦ rw hit (inr (inl (92 ∷ rest, tt, refl, (92, refl, ap (λ x. Some x) (sym (eqb-true c 92 hit))))))
    | inr e92 ↦ rw e92 (elim (cases_Bool (c == 10)) [
      | inl hit ↦ rw hit (inr (inl (110 ∷ rest, tt, refl, (110, refl, ap (λ x. Some x) (sym (eqb-true c 10 hit))))))
      | inr e10 ↦ rw e10 (elim (cases_Bool (c == 13)) [
        | inl hit ↦ rw hit (inr (inl (114 ∷ rest, tt, refl, (114, refl, ap (λ x. Some x) (sym (eqb-true c 13 hit))))))
        | inr e13 ↦ rw e13 (inl (refl, refl))
      ])
    ])
  ])
]

pub text_repeats : (text rest : List ℕ) → Repeats text_character (flat_map escaped text ++ rest) rest text
text_repeats [] rest = no_repeat
text_repeats (c ∷ text) rest =
    subst (λ (us : List ℕ). Repeats text_character us rest (c ∷ text)) (sym (append_assoc (escaped c) (flat_map escaped text) rest))
    (one_more {mid = flat_map escaped text ++ rest} (text_stands c (flat_map escaped text ++ rest)) (text_repeats text rest))

pub quoted_stands : (text rest : List ℕ) → quoted (34 ∷ (flat_map escaped text ++ 34 ∷ rest)) rest text
unfolding quoted
quoted_stands text rest = (flat_map escaped text ++ 34 ∷ rest, tt, refl, (34 ∷ rest, text, text_repeats text (34 ∷ rest), (rest, tt, refl, (refl, refl))))

no_space : continues_label 32 ≡ false
unfolding continues_label
no_space = refl

label_stops : (text ms : List ℕ) → is_label (text ++ 32 ∷ ms) ≡ true → is_label text ≡ true → ⊥
label_stops [] ms e f = absurd cc
label_stops (c ∷ cs) ms e f =
    let p = both_of (begins_label c && list_all continues_label (cs ++ 32 ∷ ms)) (not (last_of c (cs ++ 32 ∷ ms) == 46)) e in
    let q = all_behind continues_label cs (32 ∷ ms) (both_of (begins_label c) (list_all continues_label (cs ++ 32 ∷ ms)) p.0).1 in
    true_false (continues_label 32) (both_of (continues_label 32) (list_all continues_label ms) q).0 no_space

pub tag_space : (first empty : Bool) (cs ms : List ℕ) → rest_is_tag first empty (cs ++ 32 ∷ ms) ≡ true → ⊥
tag_space true empty [] ms e = absurd cc
tag_space false empty [] ms e = absurd cc
tag_space first empty (c ∷ cs) ms e =
    tag_space (first && not (c == 45)) (c == 45) cs ms
    (both_of ((((c == 45) && not empty) || (not (c == 45) && ((first && is_ascii_letter c) || (not first && is_letter_or_digit c))))) (rest_is_tag (first && not (c == 45)) (c == 45) (cs ++ 32 ∷ ms)) e).1

pub space_only : (rule : List ℕ → Bool) (text rest : List ℕ) → ((ms : List ℕ) → rule (text ++ 32 ∷ ms) ≡ true → ⊥) → (more behind : List ℕ) → 32 ∷ rest ≡ more ++ behind → rule (text ++ more) ≡ true → more ≡ []
space_only rule text rest stops [] behind w k = refl
space_only rule text rest stops (m ∷ ms) behind w k =
    let same : m ≡ 32 = cc in
    absurd (stops ms (sym (ap (λ x. rule (text ++ x ∷ ms)) same) ∙ k))

pub before_space : (rule : List ℕ → Bool) (text rest : List ℕ) → rule text ≡ true → ((ms : List ℕ) → rule (text ++ 32 ∷ ms) ≡ true → ⊥) → IsLongest rule (text ++ 32 ∷ rest) (32 ∷ rest) text
before_space rule text rest e stops = record { stands = refl; allowed = e; longest = λ more behind w k. space_only rule text rest stops more behind w k }

label_stands : (text rest : List ℕ) → is_label text ≡ true → label (95 ∷ 58 ∷ (text ++ 32 ∷ rest)) (32 ∷ rest) text
unfolding label
label_stands text rest e = (58 ∷ (text ++ 32 ∷ rest), tt, refl, (text ++ 32 ∷ rest, tt, refl, before_space is_label text rest e (λ ms k. label_stops text ms k e)))

pub tag_stands : (text rest : List ℕ) → is_tag text ≡ true → tag (64 ∷ (text ++ 32 ∷ rest)) (32 ∷ rest) text
unfolding tag
tag_stands text rest e = (text ++ 32 ∷ rest, tt, refl, before_space is_tag text rest e (λ ms k. tag_space true true text ms (is_tag-from_loop (text ++ 32 ∷ ms) ∙ k)))

-- ---- whole lines

pub one_space : (rest : List ℕ) → blanks (32 ∷ rest) rest tt
one_space rest = (32 ∷ [], refl, refl)

pub none : (rest : List ℕ) → blanks rest rest tt
none rest = ([], refl, refl)

subject_stands : (s : Term) (rest : List ℕ) → IsLawfulNode s → subject (term_chars s (32 ∷ rest)) (32 ∷ rest) s
unfolding subject
subject_stands (term.Iri iri) rest h = inl (32 ∷ rest, iri, iri_stands iri (32 ∷ rest) h.0, (refl, refl))
subject_stands (term.Blank l) rest h = inr (32 ∷ rest, l, label_stands l rest h.0, (refl, refl))
subject_stands (term.Literal v) rest h = absurd h

pub type_stands : (k : LiteralType) (rest : List ℕ) → IsLawfulType k → literal_type (type_chars k (32 ∷ rest)) (32 ∷ rest) k
unfolding literal_type
type_stands Plain rest h = inl (refl, refl)
type_stands (Typed d) rest h =
    inr (inl (
      type_chars (Typed d) (32 ∷ rest),
      tt,
      none (type_chars (Typed d) (32 ∷ rest)),
      (
        94 ∷ iri_chars d (32 ∷ rest),
        tt,
        refl,
        (
          iri_chars d (32 ∷ rest),
          tt,
          refl,
          (
            iri_chars d (32 ∷ rest),
            tt,
            none (iri_chars d (32 ∷ rest)),
            (32 ∷ rest, d, iri_stands d (32 ∷ rest) h.0.0, (refl, refl)),
          ),
        ),
      ),
    ))
type_stands (Tagged t) rest h = inr (inr (64 ∷ (t ++ 32 ∷ rest), tt, none (64 ∷ (t ++ 32 ∷ rest)), (32 ∷ rest, t, tag_stands t rest h.0, (refl, refl))))

abbrev literal_by : List ℕ → LiteralType → Bool → LiteralValue
literal_by text k b = record { text = text; kind = if b then Plain else k }

pub normal : (text : List ℕ) (k : LiteralType) → IsLawfulType k → record { text = text; kind = k } ≡ literal_of text k
normal text Plain h = refl
normal text (Tagged t) h = refl
normal text (Typed d) h = sym (ap (λ (b : Bool). literal_by text (Typed d) b) h.1)

object_stands : (o : Term) (rest : List ℕ) → IsLawfulTerm o → object (term_chars o (32 ∷ rest)) (32 ∷ rest) o
unfolding object literal
object_stands (term.Iri iri) rest h = inl (subject_stands (term.Iri iri) rest h)
object_stands (term.Blank l) rest h = inl (subject_stands (term.Blank l) rest h)
object_stands (term.Literal v) rest h =
    inr (type_chars v.kind (32 ∷ rest), v.text, quoted_stands v.text (type_chars v.kind (32 ∷ rest)), (32 ∷ rest, v.kind, type_stands v.kind rest h.1, (refl, ap (λ w. term.Literal w) (normal v.text v.kind h.1))))

-- the line says the triple
pub line_stands : (t : Statement) → IsLawful t → line (line_chars t) [] (Some t)
unfolding line triple
line_stands t h =
    let o = 32 ∷ term_chars t.object (32 ∷ 46 ∷ []) in (
      line_chars t,
      tt,
      none (line_chars t),
      (
        [],
        Some t,
        inl (
          [],
          t,
          (
            32 ∷ iri_chars t.predicate o,
            t.subject,
            subject_stands t.subject (iri_chars t.predicate o) h.subject,
            (
              iri_chars t.predicate o,
              tt,
              one_space (iri_chars t.predicate o),
              (
                o,
                t.predicate,
                iri_stands t.predicate o h.predicate.0,
                (
                  term_chars t.object (32 ∷ 46 ∷ []),
                  tt,
                  one_space (term_chars t.object (32 ∷ 46 ∷ [])),
                  (
                    32 ∷ 46 ∷ [],
                    t.object,
                    object_stands t.object (46 ∷ []) h.object,
                    (46 ∷ [], tt, one_space (46 ∷ []), ([], tt, refl, (refl, refl))),
                  ),
                ),
              ),
            ),
          ),
          (refl, refl),
        ),
        ([], tt, none [], ([], None, inr (refl, refl), (refl, refl))),
      ),
    )
