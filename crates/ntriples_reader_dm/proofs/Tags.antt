-- What is read as a tag is the longest one.
use Rattle.std.proofs.Common.{◌≡◌, ◌∙◌, ℕ, List, [], ◌∷◌, ◌++◌, Bool, true, false, Option, Some, None, refl, sym, ap, subst, inl, inr}
use Rattle.std.specs.Prelude.{◌==◌, ◌||◌, ◌&&◌, not, if◌then◌else◌}
use Rattle.std.proofs.lemmas.Bool.{eqb-true, cases_Bool}
use Rattle.names_dm.specs.Characters.{is_ascii_letter}
use Rattle.names_dm.specs.Terminals.{is_letter_or_digit, is_tag}
use Rattle.ntriples_reader_dm.specs.Part.{IsLongest, longest}
use Rattle.ntriples_reader_dm.specs.Reading.{in_part, starts, tag_rest, tag_text, with_more}
use Rattle.ntriples_reader_dm.proofs.Exact.{Exact, none_some, pair, pair_is, true_false, both_of}
use Rattle.ntriples_reader_dm.proofs.Longest.{longest_exact}
use Rattle.names_dm.proofs.Words.{rest_is_tag, is_tag-from_loop}

or_false : (x : Bool) → (x || false) ≡ x
or_false true = refl
or_false false = refl

abbrev step : Bool → Bool → ℕ → List ℕ → Bool → Bool
step first empty c cs b = (((b && not empty) || (not b && ((first && is_ascii_letter c) || (not first && is_letter_or_digit c))))) && rest_is_tag (first && not b) b cs

in_step : (first empty : Bool) (c : ℕ) (cs : List ℕ) → (c == 45) ≡ false → rest_is_tag first empty (c ∷ cs) ≡ (in_part first c && rest_is_tag first false cs)
in_step true empty c cs e = ap (step true empty c cs) e ∙ ap (λ x. x && rest_is_tag true false cs) (or_false (is_ascii_letter c))
in_step false empty c cs e = ap (step false empty c cs) e

hyphen_step : (first empty : Bool) (c : ℕ) (cs : List ℕ) → (c == 45) ≡ true → rest_is_tag first empty (c ∷ cs) ≡ (not empty && rest_is_tag false true cs)
hyphen_step true true c cs e = ap (step true true c cs) e
hyphen_step true false c cs e = ap (step true false c cs) e
hyphen_step false true c cs e = ap (step false true c cs) e
hyphen_step false false c cs e = ap (step false false c cs) e

in_part_45 : (first : Bool) → in_part first 45 ≡ false
in_part_45 true = refl
in_part_45 false = refl

no_hyphen : (first : Bool) (c : ℕ) → in_part first c ≡ true → (c == 45) ≡ false
no_hyphen first c e = elim (cases_Bool (c == 45)) [
  | inl hit ↦ true_false (in_part first c) e (ap (in_part first) (eqb-true c 45 hit) ∙ in_part_45 first)
  | inr miss ↦ miss
]

pub record IsTagRest (first : Bool) (ts b r : List ℕ) : Type 0 where
  pub whole : ts ≡ b ++ r
  pub allowed : rest_is_tag first false b ≡ true
  pub most : (more rest : List ℕ) → r ≡ more ++ rest → rest_is_tag first false (b ++ more) ≡ true → more ≡ []

tag_in : (first : Bool) (c : ℕ) (ts b r : List ℕ) → in_part first c ≡ true → IsTagRest first ts b r → IsTagRest first (c ∷ ts) (c ∷ b) r
tag_in first c ts b r e h =
    let n = no_hyphen first c e in record {
      whole = ap (λ us. c ∷ us) h.whole;
      allowed = in_step first false c b n ∙ ap (λ x. x && rest_is_tag first false b) e ∙ h.allowed;
      most = λ more rest w k. h.most more rest w (both_of (in_part first c) (rest_is_tag first false (b ++ more)) (sym (in_step first false c (b ++ more) n) ∙ k)).1;
    }

full : (d : ℕ) (b : List ℕ) → is_letter_or_digit d ≡ true → rest_is_tag false true (d ∷ b) ≡ rest_is_tag false false (d ∷ b)
full d b e = let n = no_hyphen false d e in in_step false true d b n ∙ sym (in_step false false d b n)

tag_hyphen : (first : Bool) (c d : ℕ) (ts b r : List ℕ) → (c == 45) ≡ true → is_letter_or_digit d ≡ true → IsTagRest false (d ∷ ts) (d ∷ b) r → IsTagRest first (c ∷ d ∷ ts) (c ∷ d ∷ b) r
tag_hyphen first c d ts b r e f h = record {
  whole = ap (λ us. c ∷ us) h.whole;
  allowed = hyphen_step first false c (d ∷ b) e ∙ full d b f ∙ h.allowed;
  most = λ more rest w k. h.most more rest w (sym (full d (b ++ more) f) ∙ sym (hyphen_step first false c (d ∷ (b ++ more)) e) ∙ k);
}

after_hyphen : {W : Type 0} (ts ms rest : List ℕ) → starts is_letter_or_digit ts ≡ false → ts ≡ ms ++ rest → rest_is_tag false true ms ≡ true → W
after_hyphen ts [] rest n w k = absurd cc
after_hyphen ts (m ∷ ms) rest n w k = elim (cases_Bool (m == 45)) [
  | inl hit ↦ true_false (rest_is_tag false true (m ∷ ms)) k (hyphen_step false true m ms hit)
  | inr miss ↦ true_false (is_letter_or_digit m) (both_of (in_part false m) (rest_is_tag false false ms) (sym (in_step false true m ms miss) ∙ k)).0 (sym (ap (starts is_letter_or_digit) w) ∙ n)
]

and_false : (x y : Bool) → x ≡ true → (x && y) ≡ false → y ≡ false
and_false true y e f = f
and_false false y e f = absurd cc

tag_stops : (first : Bool) (c : ℕ) (ts : List ℕ) → in_part first c ≡ false → ((c == 45) && starts is_letter_or_digit ts) ≡ false
    → (more rest : List ℕ) → c ∷ ts ≡ more ++ rest → rest_is_tag first false more ≡ true → more ≡ []
tag_stops first c ts e f [] rest w k = refl
tag_stops first c ts e f (m ∷ ms) rest w k =
    let same : m ≡ c = cc in
    let tails : ts ≡ ms ++ rest = cc in
    let told : rest_is_tag first false (c ∷ ms) ≡ true = sym (ap (λ x. rest_is_tag first false (x ∷ ms)) same) ∙ k in
    elim (cases_Bool (c == 45)) [
      | inl hit ↦ after_hyphen ts ms rest (and_false (c == 45) (starts is_letter_or_digit ts) hit f) tails (sym (hyphen_step first false c ms hit) ∙ told)
      | inr miss ↦ true_false (in_part first c) (both_of (in_part first c) (rest_is_tag first false ms) (sym (in_step first false c ms miss) ∙ told)).0 e
    ]

tag_rest_first : (d : ℕ) (us : List ℕ) → is_letter_or_digit d ≡ true → tag_rest false (d ∷ us) ≡ with_more d (tag_rest false us)
unfolding tag_rest
tag_rest_first d us e = ap (λ b. if b then with_more d (tag_rest false us) else (if (d == 45) && starts is_letter_or_digit us then with_more d (tag_rest false us) else pair [] (d ∷ us))) e

abbrev rest_by : Bool → Bool → ℕ → List ℕ → Bool → List ℕ × List ℕ
rest_by b hyphen c ts first = if b then with_more c (tag_rest first ts) else (if hyphen then with_more c (tag_rest false ts) else pair [] (c ∷ ts))

tag_step : (first : Bool) (c : ℕ) (ts : List ℕ) → IsTagRest first ts (tag_rest first ts).0 (tag_rest first ts).1 → IsTagRest false ts (tag_rest false ts).0 (tag_rest false ts).1
    → (b : Bool) → in_part first c ≡ b → (hyphen : Bool) → ((c == 45) && starts is_letter_or_digit ts) ≡ hyphen → IsTagRest first (c ∷ ts) (rest_by b hyphen c ts first).0 (rest_by b hyphen c ts first).1
tag_step first c ts h g true e hyphen f = tag_in first c ts (tag_rest first ts).0 (tag_rest first ts).1 e h
tag_step first c [] h g false e true f = true_false false (both_of (c == 45) false f).1 refl
tag_step first c (d ∷ us) h g false e true f =
    let p = both_of (c == 45) (is_letter_or_digit d) f in
    let q = tag_rest_first d us p.1 in
    subst (λ (x : List ℕ × List ℕ). IsTagRest first (c ∷ d ∷ us) (with_more c x).0 (with_more c x).1) (sym q)
    (tag_hyphen first c d us (tag_rest false us).0 (tag_rest false us).1 p.0 p.1 (subst (λ (x : List ℕ × List ℕ). IsTagRest false (d ∷ us) x.0 x.1) q g))
tag_step first c ts h g false e false f = record { whole = refl; allowed = refl; most = λ more rest w k. tag_stops first c ts e f more rest w k }

nothing_left : (more rest : List ℕ) → [] ≡ more ++ rest → more ≡ []
nothing_left [] rest e = refl
nothing_left (m ∷ ms) rest e = absurd cc

pub tag_rest_is : (ts : List ℕ) (first : Bool) → IsTagRest first ts (tag_rest first ts).0 (tag_rest first ts).1
unfolding tag_rest
tag_rest_is [] first = record { whole = refl; allowed = refl; most = λ more rest w k. nothing_left more rest w }
tag_rest_is (c ∷ ts) first = tag_step first c ts (tag_rest_is ts first) (tag_rest_is ts false) (in_part first c) refl ((c == 45) && starts is_letter_or_digit ts) refl

first_letter : (c : ℕ) (b : List ℕ) → is_tag (c ∷ b) ≡ true → (is_ascii_letter c ≡ true) × (rest_is_tag true false b ≡ true)
first_letter c b k =
    let told = is_tag-from_loop (c ∷ b) ∙ k in
    elim (cases_Bool (c == 45)) [
      | inl hit ↦ true_false (rest_is_tag true true (c ∷ b)) told (hyphen_step true true c b hit)
      | inr miss ↦ both_of (is_ascii_letter c) (rest_is_tag true false b) (sym (in_step true true c b miss) ∙ told)
    ]

tag_found : (c : ℕ) (ts b r : List ℕ) → is_ascii_letter c ≡ true → IsTagRest true ts b r → IsLongest is_tag (c ∷ ts) r (c ∷ b)
tag_found c ts b r e h = record {
  stands = ap (λ us. c ∷ us) h.whole;
  allowed = sym (is_tag-from_loop (c ∷ b)) ∙ in_step true true c b (no_hyphen true c e) ∙ ap (λ x. x && rest_is_tag true false b) e ∙ h.allowed;
  longest = λ more rest w k. h.most more rest w (first_letter c (b ++ more) k).1;
}

tag_sound_at : (c : ℕ) (ts rest text : List ℕ) (b : Bool) → is_ascii_letter c ≡ b → (if b then Some (with_more c (tag_rest true ts)) else None) ≡ Some (text, rest) → IsLongest is_tag (c ∷ ts) rest text
tag_sound_at c ts rest text true t e =
    let h = pair_is (c ∷ (tag_rest true ts).0) text (tag_rest true ts).1 rest e in
    subst (λ us. IsLongest is_tag (c ∷ ts) rest us) h.0 (subst (λ us. IsLongest is_tag (c ∷ ts) us (c ∷ (tag_rest true ts).0)) h.1 (tag_found c ts (tag_rest true ts).0 (tag_rest true ts).1 t (tag_rest_is ts true)))
tag_sound_at c ts rest text false t e = none_some (pair text rest) e

tag_sound : (ts rest text : List ℕ) → tag_text ts ≡ Some (text, rest) → IsLongest is_tag ts rest text
unfolding tag_text
tag_sound [] rest text e = none_some (pair text rest) e
tag_sound (c ∷ ts) rest text e = tag_sound_at c ts rest text (is_ascii_letter c) refl e

tag_none_at : (c : ℕ) (ts b : List ℕ) (begun : Bool) → is_ascii_letter c ≡ begun → ◌≡◌ {A = Option (List ℕ × List ℕ)} (if begun then Some (with_more c (tag_rest true ts)) else None) None → is_tag (c ∷ b) ≡ true → ⊥
tag_none_at c ts b true t e k = absurd cc
tag_none_at c ts b false t e k = true_false (is_ascii_letter c) (first_letter c b k).0 t

tag_none : (ts rest text : List ℕ) → tag_text ts ≡ None → ts ≡ text ++ rest → is_tag text ≡ true → ⊥
unfolding tag_text
tag_none ts rest [] e w k = true_false (rest_is_tag true true []) (is_tag-from_loop [] ∙ k) refl
tag_none ts rest (c ∷ text) e w k = tag_none_at c (text ++ rest) text (is_ascii_letter c) refl (sym (ap tag_text w) ∙ e) k

pub tag_text_exact : Exact (longest is_tag) tag_text
tag_text_exact = longest_exact is_tag tag_text tag_sound tag_none
