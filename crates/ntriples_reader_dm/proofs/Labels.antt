-- What is read as a label is the longest one.
use Rattle.std.proofs.Common.{◌≡◌, ◌∙◌, ℕ, List, [], ◌∷◌, ◌++◌, Bool, true, false, Option, Some, None, refl, sym, ap, subst, inl, inr}
use Rattle.std.specs.Prelude.{◌==◌, ◌&&◌, not, if◌then◌else◌}
use Rattle.std.specs.List.{list_all}
use Rattle.std.proofs.lemmas.Bool.{eqb-true, cases_Bool}
use Rattle.names_dm.specs.Terminals.{begins_label, continues_label, last_of, is_label}
use Rattle.ntriples_reader_dm.specs.Part.{IsLongest, longest}
use Rattle.ntriples_reader_dm.specs.Reading.{dotted, label_rest, label_text, with_more}
use Rattle.ntriples_reader_dm.proofs.Exact.{Exact, none_some, pair, pair_is, true_false, both_of}
use Rattle.ntriples_reader_dm.proofs.Longest.{longest_exact}

abbrev pub is_dot : ℕ → Bool
is_dot c = c == 46

pub record IsRest (ts b r : List ℕ) : Type 0 where
  pub whole : ts ≡ b ++ r
  pub pass : list_all continues_label b ≡ true
  pub ends : (p : ℕ) → is_dot p ≡ false → is_dot (last_of p b) ≡ false
  pub most : (p : ℕ) → is_dot p ≡ false → (more rest : List ℕ) → r ≡ more ++ rest → list_all continues_label more ≡ true → is_dot (last_of p (b ++ more)) ≡ false → more ≡ []

stops_here : (c : ℕ) (ts : List ℕ) → continues_label c ≡ false → (more rest : List ℕ) → c ∷ ts ≡ more ++ rest → list_all continues_label more ≡ true → more ≡ []
stops_here c ts e [] rest w a = refl
stops_here c ts e (m ∷ ms) rest w a =
    let same : c ≡ m = cc in
    true_false (continues_label m) (both_of (continues_label m) (list_all continues_label ms) a).0 (ap continues_label (sym same) ∙ e)

nothing_stops : (c : ℕ) (ts : List ℕ) → continues_label c ≡ false → IsRest (c ∷ ts) [] (c ∷ ts)
nothing_stops c ts e = record { whole = refl; pass = refl; ends = λ p n. n; most = λ p n more rest w a l. stops_here c ts e more rest w a }

dot_alone : (ts r : List ℕ) (c : ℕ) → is_dot c ≡ true → IsRest ts [] r → (p : ℕ) → is_dot p ≡ false → (more rest : List ℕ) → c ∷ ts ≡ more ++ rest → list_all continues_label more ≡ true → is_dot (last_of p more) ≡ false → more ≡ []
dot_alone ts r c d h p n [] rest w a l = refl
dot_alone ts r c d h p n (m ∷ []) rest w a l = let same : c ≡ m = cc in true_false (is_dot m) (ap is_dot (sym same) ∙ d) l
dot_alone ts r c d h p n (m ∷ k ∷ ms) rest w a l =
    let tails : ts ≡ (k ∷ ms) ++ rest = cc in
    let bad : k ∷ ms ≡ [] = h.most p n (k ∷ ms) rest (sym h.whole ∙ tails) (both_of (continues_label m) (list_all continues_label (k ∷ ms)) a).1 l in
    absurd cc

dotted_alone : (c : ℕ) (ts r : List ℕ) → continues_label c ≡ true → IsRest ts [] r → (b : Bool) → is_dot c ≡ b
    → IsRest (c ∷ ts) (if b then pair [] (c ∷ ts) else pair (c ∷ []) r).0 (if b then pair [] (c ∷ ts) else pair (c ∷ []) r).1
dotted_alone c ts r e h true d = record { whole = refl; pass = refl; ends = λ p n. n; most = dot_alone ts r c d h }
dotted_alone c ts r e h false d = record {
  whole = ap (λ us. c ∷ us) h.whole;
  pass = ap (λ x. x && true) e;
  ends = λ p n. d;
  most = λ p n more rest w a l. h.most c d more rest w a l;
}

dotted_is : (c : ℕ) (ts b r : List ℕ) → continues_label c ≡ true → IsRest ts b r → IsRest (c ∷ ts) (dotted c ts (b, r)).0 (dotted c ts (b, r)).1
dotted_is c ts [] r e h = dotted_alone c ts r e h (is_dot c) refl
dotted_is c ts (d ∷ ds) r e h = record {
  whole = ap (λ us. c ∷ us) h.whole;
  pass = ap (λ x. x && list_all continues_label (d ∷ ds)) e ∙ h.pass;
  ends = λ p n. h.ends p n;
  most = λ p n more rest w a l. h.most p n more rest w a l;
}

rest_step : (c : ℕ) (ts : List ℕ) → IsRest ts (label_rest ts).0 (label_rest ts).1 → (b : Bool) → continues_label c ≡ b
    → IsRest (c ∷ ts) (if b then dotted c ts (label_rest ts) else pair [] (c ∷ ts)).0 (if b then dotted c ts (label_rest ts) else pair [] (c ∷ ts)).1
rest_step c ts h true e = dotted_is c ts (label_rest ts).0 (label_rest ts).1 e h
rest_step c ts h false e = nothing_stops c ts e

nothing_left : (more rest : List ℕ) → [] ≡ more ++ rest → more ≡ []
nothing_left [] rest e = refl
nothing_left (m ∷ ms) rest e = absurd cc

pub rest_is : (ts : List ℕ) → IsRest ts (label_rest ts).0 (label_rest ts).1
unfolding label_rest
rest_is [] = record { whole = refl; pass = refl; ends = λ p n. n; most = λ p n more rest w a l. nothing_left more rest w }
rest_is (c ∷ ts) = rest_step c ts (rest_is ts) (continues_label c) refl

no_dot : (c : ℕ) → begins_label c ≡ true → is_dot c ≡ false
unfolding begins_label
no_dot c e = elim (cases_Bool (is_dot c)) [
  | inl hit ↦ true_false (begins_label 46) (ap begins_label (sym (eqb-true c 46 hit)) ∙ e) refl
  | inr miss ↦ miss
]

not_true : (b : Bool) → not b ≡ true → b ≡ false
not_true true e = absurd cc
not_true false e = refl

pub all_behind : (test : ℕ → Bool) (b more : List ℕ) → list_all test (b ++ more) ≡ true → list_all test more ≡ true
all_behind test [] more e = e
all_behind test (c ∷ b) more e = all_behind test b more (both_of (test c) (list_all test (b ++ more)) e).1

label_allowed : (c : ℕ) (b : List ℕ) → begins_label c ≡ true → list_all continues_label b ≡ true → is_dot (last_of c b) ≡ false → is_label (c ∷ b) ≡ true
label_allowed c b e a l = ap (λ x. (x && list_all continues_label b) && not (is_dot (last_of c b))) e ∙ ap (λ x. x && not (is_dot (last_of c b))) a ∙ ap not l

label_found : (c : ℕ) (ts b r : List ℕ) → begins_label c ≡ true → IsRest ts b r → IsLongest is_label (c ∷ ts) r (c ∷ b)
label_found c ts b r e h = record {
  stands = ap (λ us. c ∷ us) h.whole;
  allowed = label_allowed c b e h.pass (h.ends c (no_dot c e));
  longest = λ more rest w k.
      let p = both_of (begins_label c && list_all continues_label (b ++ more)) (not (is_dot (last_of c (b ++ more)))) k in
      let q = both_of (begins_label c) (list_all continues_label (b ++ more)) p.0 in
      h.most c (no_dot c e) more rest w (all_behind continues_label b more q.1) (not_true (is_dot (last_of c (b ++ more))) p.1);
}

label_sound_at : (c : ℕ) (ts rest text : List ℕ) (b : Bool) → begins_label c ≡ b → (if b then Some (with_more c (label_rest ts)) else None) ≡ Some (text, rest) → IsLongest is_label (c ∷ ts) rest text
label_sound_at c ts rest text true t e =
    let h = pair_is (c ∷ (label_rest ts).0) text (label_rest ts).1 rest e in
    subst (λ us. IsLongest is_label (c ∷ ts) rest us) h.0 (subst (λ us. IsLongest is_label (c ∷ ts) us (c ∷ (label_rest ts).0)) h.1 (label_found c ts (label_rest ts).0 (label_rest ts).1 t (rest_is ts)))
label_sound_at c ts rest text false t e = none_some (pair text rest) e

label_sound : (ts rest text : List ℕ) → label_text ts ≡ Some (text, rest) → IsLongest is_label ts rest text
unfolding label_text
label_sound [] rest text e = none_some (pair text rest) e
label_sound (c ∷ ts) rest text e = label_sound_at c ts rest text (begins_label c) refl e

label_none_at : (c : ℕ) (ts b : List ℕ) (begun : Bool) → begins_label c ≡ begun → ◌≡◌ {A = Option (List ℕ × List ℕ)} (if begun then Some (with_more c (label_rest ts)) else None) None → is_label (c ∷ b) ≡ true → ⊥
label_none_at c ts b true t e k = absurd cc
label_none_at c ts b false t e k =
    let p = both_of (begins_label c && list_all continues_label b) (not (is_dot (last_of c b))) k in
    true_false (begins_label c) (both_of (begins_label c) (list_all continues_label b) p.0).0 t

label_none : (ts rest text : List ℕ) → label_text ts ≡ None → ts ≡ text ++ rest → is_label text ≡ true → ⊥
unfolding label_text
label_none ts rest [] e w k = absurd cc
label_none ts rest (c ∷ text) e w k = label_none_at c (text ++ rest) text (begins_label c) refl (sym (ap label_text w) ∙ e) k

pub label_text_exact : Exact (longest is_label) label_text
label_text_exact = longest_exact is_label label_text label_sound label_none
