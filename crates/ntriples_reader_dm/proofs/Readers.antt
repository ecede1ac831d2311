-- Each part of a line is read exactly.
use Rattle.std.proofs.Common.{◌≡◌, ◌∙◌, ℕ, zero, suc, ◌+◌, ◌*◌, ◌<◌, ◌≤◌, List, [], ◌∷◌, length, Bool, true, false, Option, Some, None, refl, sym, ap, arith, inl, inr, ◌⊎◌}
use Rattle.std.specs.Prelude.{◌==◌, ◌||◌, not, if◌then◌else◌}
use Rattle.std.proofs.lemmas.Bool.{eqb-true, cases_Bool}
use Rattle.names_dm.specs.Statements.{is_literal}
use Rattle.std.specs.List.{list_any}
use Rattle.ntriples_reader_dm.specs.Part.Repeats.{no_repeat, one_more}
use Rattle.names_dm.specs.Terminals.{is_forbidden, is_iri, is_label, is_tag}
use Rattle.names_dm.specs.declared.term.Term.{Term}
use Rattle.names_dm.specs.declared.term.Term.TheVariants as term
use Rattle.ntriples_dm.specs.Written.{is_escaped}
use Rattle.ntriples_reader_dm.specs.Characters.{is_scalar, escape_value}
use Rattle.ntriples_reader_dm.specs.Part.{character, sign, valued, give, or, optional, passing, Repeats, repeated, some_of, longest, the_rest}
use Rattle.ntriples_reader_dm.specs.Part as part
use Rattle.ntriples_reader_dm.specs.Grammar.{hex_digits, code_point, uchar, echar, iri_character, iri_ref, text_character, quoted, label, tag, subject}
use Rattle.ntriples_reader_dm.specs.Reading.{◌>>=◌, begins, behind, through, only, valued_at, hex_at, number_behind, iri_one, text_one, until_at, iri_at, quoted_at, label_text, label_at, tag_text, tag_at, subject_at}
use Rattle.ntriples_reader_dm.proofs.Exact.{Exact, none_some, pair, pair_is, bind_some, true_false, sign_then, valued_exact, through_exact, passing_exact, hex_exact, Heads, Lacks, sign_heads, or_exact, Takes, until_exact, until_sound}
use Rattle.ntriples_reader_dm.proofs.Labels.{label_text_exact}
use Rattle.ntriples_reader_dm.proofs.Tags.{tag_text_exact}

-- ---- escapes

pub number_exact : Exact code_point number_behind
unfolding number_behind
number_exact =
    passing_exact is_scalar (or (part.then (sign 117) (λ _. hex_digits 4 0)) (part.then (sign 85) (λ _. hex_digits 8 0)))
    (λ ts. if begins 117 ts then (behind 117 ts >>= hex_at 4 0) else (behind 85 ts >>= hex_at 8 0))
    (or_exact 117 (part.then (sign 117) (λ _. hex_digits 4 0)) (part.then (sign 85) (λ _. hex_digits 8 0)) (λ ts. behind 117 ts >>= hex_at 4 0) (λ ts. behind 85 ts >>= hex_at 8 0)
    (sign_then 117 (hex_digits 4 0) (hex_at 4 0) (hex_exact 4 0)) (sign_then 85 (hex_digits 8 0) (hex_at 8 0) (hex_exact 8 0))
    (sign_heads 117 (hex_at 4 0)) (λ ts. refl))

not_true : (b : Bool) → not b ≡ true → b ≡ false
not_true true e = absurd cc
not_true false e = refl

cons_is : (c d : ℕ) (ts us : List ℕ) → c ∷ ts ≡ d ∷ us → (c ≡ d) × (ts ≡ us)
cons_is c d ts us e = (cc, cc)

-- a character that passes a test, as itself
plain_step : (test : ℕ → Bool) (c : ℕ) (ts rest : List ℕ) (v : ℕ) (b : Bool) → test c ≡ b → ◌≡◌ {A = Option (ℕ × List ℕ)} (if b then None else Some (c, ts)) (Some (v, rest)) → (c ∷ ts ≡ v ∷ rest) × (not (test v) ≡ true)
plain_step test c ts rest v true t e = none_some (pair v rest) e
plain_step test c ts rest v false t e = let h = pair_is c v ts rest e in (ap (λ x. x ∷ ts) h.0 ∙ ap (λ us. v ∷ us) h.1, ap not (sym (ap test h.0) ∙ t))

abbrev iri_by : ℕ → List ℕ → Bool → Option (ℕ × List ℕ)
iri_by c ts b = if b then only (λ c. not (is_forbidden c)) (number_behind ts) else (if is_forbidden c then None else Some (c, ts))

iri_sound_at : (c : ℕ) (ts rest : List ℕ) (v : ℕ) (b : Bool) → (c == 92) ≡ b → iri_by c ts b ≡ Some (v, rest) → iri_character (c ∷ ts) rest v
unfolding uchar
iri_sound_at c ts rest v true t e =
    let k = (passing_exact (λ c. not (is_forbidden c)) code_point number_behind number_exact).sound ts rest v e in
    (inr (ts, tt, ap (λ x. x ∷ ts) (eqb-true c 92 t), k.0), k.1)
iri_sound_at c ts rest v false t e =
    let h = plain_step is_forbidden c ts rest v (is_forbidden c) refl e in (inl h.0, h.1)

iri_sound : (ts rest : List ℕ) (v : ℕ) → iri_one ts ≡ Some (v, rest) → iri_character ts rest v
unfolding iri_one
iri_sound [] rest v e = none_some (pair v rest) e
iri_sound (c ∷ ts) rest v e = iri_sound_at c ts rest v (c == 92) refl e

iri_plain_at : (v : ℕ) (rest : List ℕ) (b : Bool) → (v == 92) ≡ b → not (is_forbidden v) ≡ true → iri_by v rest b ≡ Some (v, rest)
iri_plain_at v rest true t e = true_false (is_forbidden v) (ap is_forbidden (eqb-true v 92 t)) (not_true (is_forbidden v) e)
iri_plain_at v rest false t e = ap (λ (b : Bool). if b then None else Some (pair v rest)) (not_true (is_forbidden v) e)

pub iri_plain : (v : ℕ) (rest : List ℕ) → is_forbidden v ≡ false → iri_one (v ∷ rest) ≡ Some (v, rest)
unfolding iri_one
iri_plain v rest e = iri_plain_at v rest (v == 92) refl (ap not e)

iri_complete : (ts rest : List ℕ) (v : ℕ) → iri_character ts rest v → iri_one ts ≡ Some (v, rest)
unfolding iri_one uchar
iri_complete ts rest v (inl e, t) = ap iri_one e ∙ iri_plain v rest (not_true (is_forbidden v) t)
iri_complete ts rest v (inr u, t) =
    ap iri_one u.2 ∙ (passing_exact (λ c. not (is_forbidden c)) code_point number_behind number_exact).complete u.0 rest v (u.3, t)

pub iri_one_exact : Exact iri_character iri_one
iri_one_exact = record { sound = iri_sound; complete = iri_complete }

hex_short : (n so_far : ℕ) (ts rest : List ℕ) (v : ℕ) → hex_digits n so_far ts rest v → length rest ≤ length ts
hex_short zero so_far ts rest v h = let e = ap length h.0 in omega arith
hex_short (suc n) so_far ts rest v h = let e = ap length h.2.1 in let again = hex_short n (16 * so_far + h.1) h.0 rest v h.3 in omega arith

code_short : (ts rest : List ℕ) (v : ℕ) → code_point ts rest v → length rest ≤ length ts
code_short ts rest v (inl h, t) = let e = ap length h.2 in let k = hex_short 4 0 h.0 rest v h.3 in omega arith
code_short ts rest v (inr h, t) = let e = ap length h.2 in let k = hex_short 8 0 h.0 rest v h.3 in omega arith

uchar_short : (ts rest : List ℕ) (v : ℕ) → uchar ts rest v → length rest < length ts
unfolding uchar
uchar_short ts rest v h = let e = ap length h.2 in let k = code_short h.0 rest v h.3 in omega arith

iri_short : (ts rest : List ℕ) (v : ℕ) → iri_character ts rest v → length rest < length ts
iri_short ts rest v (inl e, t) = let k = ap length e in omega arith
iri_short ts rest v (inr u, t) = uchar_short ts rest v u

pub iri_takes : Takes iri_one
iri_takes ts rest v e = iri_short ts rest v (iri_sound ts rest v e)

pub iri_lacks : Lacks iri_one 62
unfolding iri_one
iri_lacks ts = refl

pub iri_exact : Exact iri_ref iri_at
unfolding iri_ref iri_at
iri_exact = sign_then 60 (part.then (repeated iri_character) (λ iri. part.then (sign 62) (λ _. give iri))) (until_at 62 iri_one) (until_exact 62 iri_character iri_one iri_one_exact iri_lacks iri_takes)

-- ---- characters inside quotes

abbrev escape_at : List ℕ → Option (ℕ × List ℕ)
escape_at ts = if begins 117 ts || begins 85 ts then number_behind ts else valued_at escape_value ts

abbrev text_by : ℕ → List ℕ → Bool → Option (ℕ × List ℕ)
text_by c ts b = if b then escape_at ts else (if is_escaped c then None else Some (c, ts))

escape_sound : (ts rest : List ℕ) (v : ℕ) (b : Bool) → ◌≡◌ {A = Option (ℕ × List ℕ)} (if b then number_behind ts else valued_at escape_value ts) (Some (v, rest)) → valued escape_value ts rest v ⊎ code_point ts rest v
escape_sound ts rest v true e = inr (number_exact.sound ts rest v e)
escape_sound ts rest v false e = inl ((valued_exact escape_value).sound ts rest v e)

text_sound_at : (c : ℕ) (ts rest : List ℕ) (v : ℕ) (b : Bool) → (c == 92) ≡ b → text_by c ts b ≡ Some (v, rest) → text_character (c ∷ ts) rest v
unfolding uchar echar
text_sound_at c ts rest v true t e = elim (escape_sound ts rest v (begins 117 ts || begins 85 ts) e) [
  | inl h ↦ inr (inl (ts, tt, ap (λ x. x ∷ ts) (eqb-true c 92 t), h))
  | inr h ↦ inr (inr (ts, tt, ap (λ x. x ∷ ts) (eqb-true c 92 t), h))
]
text_sound_at c ts rest v false t e = let h = plain_step is_escaped c ts rest v (is_escaped c) refl e in inl (h.0, h.1)

text_sound : (ts rest : List ℕ) (v : ℕ) → text_one ts ≡ Some (v, rest) → text_character ts rest v
unfolding text_one
text_sound [] rest v e = none_some (pair v rest) e
text_sound (c ∷ ts) rest v e = text_sound_at c ts rest v (c == 92) refl e

text_plain_at : (v : ℕ) (rest : List ℕ) (b : Bool) → (v == 92) ≡ b → is_escaped v ≡ false → text_by v rest b ≡ Some (v, rest)
text_plain_at v rest true t e = true_false (is_escaped v) (ap is_escaped (eqb-true v 92 t)) e
text_plain_at v rest false t e = ap (λ (b : Bool). if b then None else Some (pair v rest)) e

pub text_plain : (v : ℕ) (rest : List ℕ) → is_escaped v ≡ false → text_one (v ∷ rest) ≡ Some (v, rest)
unfolding text_one
text_plain v rest e = text_plain_at v rest (v == 92) refl e

abbrev escape_by : List ℕ → Bool → Option (ℕ × List ℕ)
escape_by ts b = if b then number_behind ts else valued_at escape_value ts

no_number : (c v : ℕ) → escape_value c ≡ Some v → ((c == 117) || (c == 85)) ≡ false
no_number c v e = elim (cases_Bool (c == 117)) [
  | inl hit ↦ none_some v (sym (ap escape_value (eqb-true c 117 hit)) ∙ e)
  | inr miss ↦ elim (cases_Bool (c == 85)) [
    | inl hit ↦ none_some v (sym (ap escape_value (eqb-true c 85 hit)) ∙ e)
    | inr none ↦ ap (λ x. x || (c == 85)) miss ∙ none
  ]
]

begins_number : (ts rest : List ℕ) (v : ℕ) → code_point ts rest v → (begins 117 ts || begins 85 ts) ≡ true
begins_number ts rest v (inl h, t) = ap (λ us. begins 117 us || begins 85 us) h.2
begins_number ts rest v (inr h, t) = ap (λ us. begins 117 us || begins 85 us) h.2

text_complete : (ts rest : List ℕ) (v : ℕ) → text_character ts rest v → text_one ts ≡ Some (v, rest)
unfolding text_one uchar echar
text_complete ts rest v (inl h) = ap text_one h.0 ∙ text_plain v rest (not_true (is_escaped v) h.1)
text_complete ts rest v (inr (inl h)) =
    ap text_one h.2 ∙ ap escape_at h.3.1 ∙ ap (escape_by (h.3.0 ∷ rest)) (no_number h.3.0 v h.3.2) ∙ (valued_exact escape_value).complete (h.3.0 ∷ rest) rest v (h.3.0, refl, h.3.2)
text_complete ts rest v (inr (inr h)) =
    ap text_one h.2 ∙ ap (escape_by h.0) (begins_number h.0 rest v h.3) ∙ number_exact.complete h.0 rest v h.3

pub text_one_exact : Exact text_character text_one
text_one_exact = record { sound = text_sound; complete = text_complete }

text_short : (ts rest : List ℕ) (v : ℕ) → text_character ts rest v → length rest < length ts
unfolding echar
text_short ts rest v (inl h) = let k = ap length h.0 in omega arith
text_short ts rest v (inr (inl h)) = let k = ap length h.2 in let j = ap length h.3.1 in omega arith
text_short ts rest v (inr (inr u)) = uchar_short ts rest v u

pub text_takes : Takes text_one
text_takes ts rest v e = text_short ts rest v (text_sound ts rest v e)

pub text_lacks : Lacks text_one 34
unfolding text_one
text_lacks ts = refl

pub quoted_exact : Exact quoted quoted_at
unfolding quoted quoted_at
quoted_exact = sign_then 34 (part.then (repeated text_character) (λ text. part.then (sign 34) (λ _. give text))) (until_at 34 text_one) (until_exact 34 text_character text_one text_one_exact text_lacks text_takes)

-- ---- labels, tags, subjects

pub label_exact : Exact label label_at
unfolding label label_at
label_exact = sign_then 95 (part.then (sign 58) (λ _. longest is_label)) (λ a. behind 58 a >>= label_text) (sign_then 58 (longest is_label) label_text label_text_exact)

pub tag_exact : Exact tag tag_at
unfolding tag tag_at
tag_exact = sign_then 64 (longest is_tag) tag_text tag_text_exact

heads_through : {V W : Type 0} (w : V → W) (f : List ℕ → Option (V × List ℕ)) (c : ℕ) → Heads f c → Heads (λ ts. through w (f ts)) c
heads_through {V} {W} w f c h ts y e = let k = bind_some (f ts) (λ (x : V × List ℕ). Some (pair (w x.0) x.1)) y e in h ts k.0 k.1

iri_heads : Heads iri_at 60
unfolding iri_at
iri_heads = sign_heads 60 (until_at 62 iri_one)

label_lacks : Lacks (λ ts. through (λ l. term.Blank l) (label_at ts)) 60
unfolding label_at
label_lacks ts = refl

pub subject_exact : Exact subject subject_at
unfolding subject subject_at
subject_exact =
    or_exact 60 (part.then iri_ref (λ iri. give (term.Iri iri))) (part.then label (λ l. give (term.Blank l))) (λ ts. through (λ iri. term.Iri iri) (iri_at ts)) (λ ts. through (λ l. term.Blank l) (label_at ts))
    (through_exact (λ iri. term.Iri iri) iri_ref iri_at iri_exact) (through_exact (λ l. term.Blank l) label label_at label_exact)
    (heads_through (λ iri. term.Iri iri) iri_at 60 iri_heads) label_lacks

-- what stands inside the brackets is an IRI
all_allowed : {ts mid iri : List ℕ} → Repeats iri_character ts mid iri → list_any is_forbidden iri ≡ false
all_allowed (no_repeat {ts = ts}) = refl
all_allowed (one_more {ts = ts} {mid = m} {v = v} {vs = vs} p r) = ap (λ x. x || list_any is_forbidden vs) (not_true (is_forbidden v) p.1) ∙ all_allowed r

pub iri_allowed : (ts rest iri : List ℕ) → until_at 62 iri_one ts ≡ Some (iri, rest) → is_iri iri ≡ true
unfolding is_iri
iri_allowed ts rest iri e = let h = until_sound 62 iri_character iri_one iri_one_exact (length ts) ts rest iri e in ap not (all_allowed h.1)

-- a subject is no literal
pub subject_node : (ts rest : List ℕ) (s : Term) → subject_at ts ≡ Some (s, rest) → not (is_literal s) ≡ true
unfolding subject
subject_node ts rest s e = elim (subject_exact.sound ts rest s e) [
  | inl h ↦ ap (λ (t : Term). not (is_literal t)) h.3.1
  | inr h ↦ ap (λ (t : Term). not (is_literal t)) h.3.1
]

pub label_text_allowed : (ts rest text : List ℕ) → label_text ts ≡ Some (text, rest) → is_label text ≡ true
label_text_allowed ts rest text e = (label_text_exact.sound ts rest text e).allowed

pub tag_text_allowed : (ts rest text : List ℕ) → tag_text ts ≡ Some (text, rest) → is_tag text ≡ true
tag_text_allowed ts rest text e = (tag_text_exact.sound ts rest text e).allowed
