-- A function that reads a part finds exactly what the part is: one lemma for each way to build parts.
use Rattle.std.proofs.Common.{◌≡◌, ◌∙◌, ℕ, zero, suc, ◌+◌, ◌*◌, ◌<◌, ◌≤◌, List, [], ◌∷◌, ◌++◌, length, Bool, true, false, Option, Some, None, refl, sym, ap, subst, arith, inl, inr, ◌⊎◌}
use Rattle.std.specs.Prelude.{◌==◌, ◌||◌, ◌&&◌, if◌then◌else◌}
use Rattle.std.specs.List.{list_all}
use Rattle.std.proofs.lemmas.Bool.{eqb-true, eq-eqb, cases_Bool}
use Rattle.ntriples_reader_dm.specs.Characters.{is_blank, hex_value}
use Rattle.ntriples_reader_dm.specs.Part.{character, sign, valued, give, or, optional, passing, Repeats, repeated, some_of, the_rest}
use Rattle.ntriples_reader_dm.specs.Part.Repeats.{no_repeat, one_more}
use Rattle.ntriples_reader_dm.specs.Part as part
use Rattle.ntriples_reader_dm.specs.Grammar.{blanks, hex_digits}
use Rattle.ntriples_reader_dm.specs.Reading.{◌>>=◌, begins, behind, through, only, skip, valued_at, hex_at, with_first, until_within, until_at}

pub record Exact {V : Type 0} (a : List ℕ → List ℕ → V → Type 0) (at : List ℕ → Option (V × List ℕ)) : Type 0 where
  pub sound : (ts rest : List ℕ) (v : V) → at ts ≡ Some (v, rest) → a ts rest v
  pub complete : (ts rest : List ℕ) (v : V) → a ts rest v → at ts ≡ Some (v, rest)

-- ---- options

pub none_some : {A : Type 0} {W : Type 0} (x : A) → ◌≡◌ {A = Option A} None (Some x) → W
none_some x e = absurd cc

pub some_is : {A : Type 0} (x y : A) → ◌≡◌ {A = Option A} (Some x) (Some y) → x ≡ y
some_is x y e = cc

abbrev pub pair : {V : Type 0} → V → List ℕ → V × List ℕ
pair v rest = (v, rest)

pub pair_is : {V : Type 0} (v w : V) (rest r : List ℕ) → ◌≡◌ {A = Option (V × List ℕ)} (Some (v, rest)) (Some (w, r)) → (v ≡ w) × (rest ≡ r)
pair_is {V} v w rest r e =
    let h = some_is (pair v rest) (pair w r) e in
    (ap (λ (x : V × List ℕ). x.0) h, ap (λ (x : V × List ℕ). x.1) h)

pub bind_some : {A B : Type 0} (r : Option A) (f : A → Option B) (y : B) → (r >>= f) ≡ Some y → (x : A) × (r ≡ Some x) × (f x ≡ Some y)
bind_some None f y e = none_some y e
bind_some (Some x) f y e = (x, refl, e)

pub bind_is : {A B : Type 0} (r : Option A) (f : A → Option B) (x : A) → r ≡ Some x → (r >>= f) ≡ f x
bind_is r f x e = ap (λ s. s >>= f) e

pub true_false : {W : Type 0} (b : Bool) → b ≡ true → b ≡ false → W
true_false b d e = absurd cc

pub both_of : (x y : Bool) → (x && y) ≡ true → (x ≡ true) × (y ≡ true)
both_of true y e = (refl, e)
both_of false y e = absurd cc

-- ---- one character

pub behind_is : (c : ℕ) (ts rest : List ℕ) → behind c ts ≡ Some rest → ts ≡ c ∷ rest
behind_is c [] rest e = none_some rest e
behind_is c (d ∷ ts) rest e = elim (cases_Bool (d == c)) [
  | inl same ↦ ap (λ x. x ∷ ts) (eqb-true d c same) ∙ ap (λ us. c ∷ us) (some_is ts rest (rw same at e))
  | inr other ↦ none_some rest (rw other at e)
]

pub behind_same : (c : ℕ) (rest : List ℕ) → behind c (c ∷ rest) ≡ Some rest
behind_same c rest = rw (eq-eqb c c refl) refl

pub give_exact : {V : Type 0} (w : V) → Exact (give w) (λ ts. Some (w, ts))
give_exact w = record {
  sound = λ ts rest v e. let h = pair_is w v ts rest e in (h.1, sym h.0);
  complete = λ ts rest v h. ap (λ us. Some (pair w us)) h.0 ∙ ap (λ x. Some (pair x rest)) (sym h.1);
}

pub then_exact : {A V : Type 0} (a : List ℕ → List ℕ → A → Type 0) (b : A → List ℕ → List ℕ → V → Type 0) (f : List ℕ → Option (A × List ℕ)) (g : A → List ℕ → Option (V × List ℕ))
    → Exact a f → ((x : A) → Exact (b x) (g x)) → Exact (part.then a b) (λ ts. f ts >>= λ x. g x.0 x.1)
then_exact {A} {V} a b f g ea eb = record {
  sound = λ ts rest v e.
      let h = bind_some (f ts) (λ (x : A × List ℕ). g x.0 x.1) (pair v rest) e in
      (h.0.1, h.0.0, ea.sound ts h.0.1 h.0.0 h.1, (eb h.0.0).sound h.0.1 rest v h.2);
  complete = λ ts rest v h. bind_is (f ts) (λ (x : A × List ℕ). g x.0 x.1) (pair h.1 h.0) (ea.complete ts h.0 h.1 h.2) ∙ (eb h.1).complete h.0 rest v h.3;
}

pub sign_then : {V : Type 0} (c : ℕ) (b : List ℕ → List ℕ → V → Type 0) (g : List ℕ → Option (V × List ℕ)) → Exact b g → Exact (part.then (sign c) (λ _. b)) (λ ts. behind c ts >>= g)
sign_then c b g eb = record {
  sound = λ ts rest v e. let h = bind_some (behind c ts) g (pair v rest) e in (h.0, tt, behind_is c ts h.0 h.1, eb.sound h.0 rest v h.2);
  complete = λ ts rest v h. ap (λ us. behind c us >>= g) h.2 ∙ bind_is (behind c (c ∷ h.0)) g h.0 (behind_same c h.0) ∙ eb.complete h.0 rest v h.3;
}

valued_sound : {V : Type 0} (f : ℕ → Option V) (ts rest : List ℕ) (v : V) → valued_at f ts ≡ Some (v, rest) → valued f ts rest v
valued_sound f [] rest v e = none_some (pair v rest) e
valued_sound {V} f (c ∷ ts) rest v e =
    let h = bind_some (f c) (λ (v : V). Some (pair v ts)) (pair v rest) e in
    let k = pair_is h.0 v ts rest h.2 in
    (c, ap (λ us. c ∷ us) k.1, h.1 ∙ ap (λ x. Some x) k.0)

pub valued_exact : {V : Type 0} (f : ℕ → Option V) → Exact (valued f) (valued_at f)
valued_exact {V} f = record { sound = valued_sound f; complete = λ ts rest v h. ap (valued_at f) h.1 ∙ bind_is (f h.0) (λ (v : V). Some (pair v rest)) v h.2 }

pub through_exact : {V W : Type 0} (w : V → W) (a : List ℕ → List ℕ → V → Type 0) (f : List ℕ → Option (V × List ℕ)) → Exact a f → Exact (part.then a (λ v. give (w v))) (λ ts. through w (f ts))
through_exact w a f ea = then_exact a (λ v. give (w v)) f (λ v ts. Some (w v, ts)) ea (λ v. give_exact (w v))

only_step : {V : Type 0} (b : Bool) (x : V) (us rest : List ℕ) (v : V) → ◌≡◌ {A = Option (V × List ℕ)} (if b then Some (x, us) else None) (Some (v, rest)) → (b ≡ true) × (x ≡ v) × (us ≡ rest)
only_step true x us rest v e = let h = pair_is x v us rest e in (refl, h.0, h.1)
only_step false x us rest v e = none_some (pair v rest) e

pub passing_exact : {V : Type 0} (test : V → Bool) (a : List ℕ → List ℕ → V → Type 0) (f : List ℕ → Option (V × List ℕ)) → Exact a f → Exact (passing test a) (λ ts. only test (f ts))
passing_exact {V} test a f ea = record {
  sound = λ ts rest v e.
      let h = bind_some (f ts) (λ (x : V × List ℕ). if test x.0 then Some x else None) (pair v rest) e in
      let k = only_step (test h.0.0) h.0.0 h.0.1 rest v h.2 in
      (ea.sound ts rest v (h.1 ∙ ap (λ (x : V). Some (pair x h.0.1)) k.1 ∙ ap (λ us. Some (pair v us)) k.2), ap test (sym k.1) ∙ k.0);
  complete = λ ts rest v h.
      bind_is (f ts) (λ (x : V × List ℕ). if test x.0 then Some x else None) (pair v rest) (ea.complete ts rest v h.0)
      ∙ ap (λ (b : Bool). if b then Some (pair v rest) else None) h.1;
}

pub hex_exact : (n so_far : ℕ) → Exact (hex_digits n so_far) (hex_at n so_far)
hex_exact zero so_far = give_exact so_far
hex_exact (suc n) so_far = then_exact (valued hex_value) (λ d. hex_digits n (16 * so_far + d)) (valued_at hex_value) (λ d ts. hex_at n (16 * so_far + d) ts) (valued_exact hex_value) (λ d. hex_exact n (16 * so_far + d))

-- ---- choices by the first character

-- what it reads begins with this character
abbrev pub Heads : {V : Type 0} → (List ℕ → Option V) → ℕ → Type 0
Heads {V} f c = (ts : List ℕ) (y : V) → f ts ≡ Some y → begins c ts ≡ true

-- it reads nothing that begins with this character
abbrev pub Lacks : {V : Type 0} → (List ℕ → Option V) → ℕ → Type 0
Lacks f c = (ts : List ℕ) → f (c ∷ ts) ≡ None

pub begins_is : (c : ℕ) (ts : List ℕ) → begins c ts ≡ true → (us : List ℕ) × (ts ≡ c ∷ us)
begins_is c [] e = absurd cc
begins_is c (d ∷ ts) e = (ts, ap (λ x. x ∷ ts) (eqb-true d c e))

pub lacking : {V W : Type 0} (f : List ℕ → Option V) (c : ℕ) → Lacks f c → (ts : List ℕ) (y : V) → f ts ≡ Some y → begins c ts ≡ true → W
lacking f c l ts y e b = let h = begins_is c ts b in none_some y (sym (l h.0) ∙ sym (ap f h.1) ∙ e)

pub sign_heads : {V : Type 0} (c : ℕ) (g : List ℕ → Option V) → Heads (λ ts. behind c ts >>= g) c
sign_heads c g ts y e = let h = bind_some (behind c ts) g y e in ap (begins c) (behind_is c ts h.0 h.1) ∙ eq-eqb c c refl

abbrev pub chosen : {V : Type 0} → Bool → Option V → Option V → Option V
chosen b x y = if b then x else y

chosen_is : {V W : Type 0} (b : Bool) (x y : Option V) (v : V) → chosen b x y ≡ Some v → (x ≡ Some v → W) → (y ≡ Some v → W) → W
chosen_is true x y v e f g = f e
chosen_is false x y v e f g = g e

pub or_exact : {V : Type 0} (c : ℕ) (a b : List ℕ → List ℕ → V → Type 0) (f g : List ℕ → Option (V × List ℕ)) → Exact a f → Exact b g → Heads f c → Lacks g c
    → Exact (or a b) (λ ts. if begins c ts then f ts else g ts)
or_exact {V} c a b f g ea eb heads lacks = record {
  sound = λ ts rest v e. chosen_is {W = or a b ts rest v} (begins c ts) (f ts) (g ts) (pair v rest) e (λ h. inl (ea.sound ts rest v h)) (λ h. inr (eb.sound ts rest v h));
  complete = λ ts rest v h. elim h [
    | inl p ↦ let k = ea.complete ts rest v p in ap (λ x. chosen x (f ts) (g ts)) (heads ts (pair v rest) k) ∙ k
    | inr q ↦ let k = eb.complete ts rest v q in elim (cases_Bool (begins c ts)) [
      | inl hit ↦ lacking g c lacks ts (pair v rest) k hit
      | inr n ↦ ap (λ x. chosen x (f ts) (g ts)) n ∙ k
    ]
  ];
}

-- ---- blanks

-- it reads nothing that begins with a blank
abbrev pub Unblank : {V : Type 0} → (List ℕ → Option V) → Type 0
Unblank f = (c : ℕ) (ts : List ℕ) → is_blank c ≡ true → f (c ∷ ts) ≡ None

or_true : (x y : Bool) → (x || y) ≡ true → (x ≡ true) ⊎ (y ≡ true)
or_true true y e = inl refl
or_true false y e = inr e

pub unblank : {V : Type 0} (f : List ℕ → Option V) → Lacks f 32 → Lacks f 9 → Unblank f
unblank f space tab c ts e = elim (or_true (c == 32) (c == 9) e) [
  | inl h ↦ ap (λ x. f (x ∷ ts)) (eqb-true c 32 h) ∙ space ts
  | inr h ↦ ap (λ x. f (x ∷ ts)) (eqb-true c 9 h) ∙ tab ts
]

skip_step : (c : ℕ) (ts : List ℕ) (b : Bool) → is_blank c ≡ b → skip (c ∷ ts) ≡ (if b then skip ts else c ∷ ts)
unfolding skip
skip_step c ts b e = ap (λ x. if x then skip ts else c ∷ ts) e

pub skip_run : (run rest : List ℕ) → list_all is_blank run ≡ true → skip (run ++ rest) ≡ skip rest
skip_run [] rest e = refl
skip_run (c ∷ run) rest e =
    let h = both_of (is_blank c) (list_all is_blank run) e in
    skip_step c (run ++ rest) true h.0 ∙ skip_run run rest h.1

pub skip_stands : (ts : List ℕ) → blanks ts (skip ts) tt
unfolding skip
skip_stands [] = ([], refl, refl)
skip_stands (c ∷ ts) = elim (cases_Bool (is_blank c)) [
  | inl hit ↦
      let h = skip_stands ts in
      (c ∷ h.0, ap (λ us. c ∷ us) h.1 ∙ ap (λ us. c ∷ (h.0 ++ us)) refl ∙ sym (ap (λ us. (c ∷ h.0) ++ us) (skip_step c ts true hit)), ap (λ x. x && list_all is_blank h.0) hit ∙ h.2)
  | inr n ↦ ([], sym (skip_step c ts false n), refl)
]

pub skip_blanks : (ts mid : List ℕ) → blanks ts mid tt → skip ts ≡ skip mid
skip_blanks ts mid h = ap skip h.1 ∙ skip_run h.0 mid h.2

-- what is read begins with no blank
pub skip_read : {V : Type 0} (f : List ℕ → Option V) → Unblank f → (ts : List ℕ) (y : V) → f ts ≡ Some y → skip ts ≡ ts
unfolding skip
skip_read f u [] y e = refl
skip_read f u (c ∷ ts) y e = elim (cases_Bool (is_blank c)) [
  | inl hit ↦ none_some y (sym (u c ts hit) ∙ e)
  | inr n ↦ skip_step c ts false n
]

pub skip_twice : (ts : List ℕ) → skip (skip ts) ≡ skip ts
skip_twice ts = sym (skip_blanks ts (skip ts) (skip_stands ts))

pub blanks_then : {V : Type 0} (b : List ℕ → List ℕ → V → Type 0) (g : List ℕ → Option (V × List ℕ)) → Exact b g → Unblank g → Exact (part.then blanks (λ _. b)) (λ ts. g (skip ts))
blanks_then b g eb u = record {
  sound = λ ts rest v e. (skip ts, tt, skip_stands ts, eb.sound (skip ts) rest v e);
  complete = λ ts rest v h.
      let k = eb.complete h.0 rest v h.3 in
      ap g (skip_blanks ts h.0 h.2 ∙ skip_read g u h.0 (pair v rest) k) ∙ k;
}

-- ---- repeats up to a closing character

-- what is read isn't empty
abbrev pub Takes : {V : Type 0} → (List ℕ → Option (V × List ℕ)) → Type 0
Takes {V} f = (ts rest : List ℕ) (v : V) → f ts ≡ Some (v, rest) → length rest < length ts

pub until_step : (close : ℕ) (one : List ℕ → Option (ℕ × List ℕ)) (n c : ℕ) (ts : List ℕ) (b : Bool) → (c == close) ≡ b
    → until_within close one (suc n) (c ∷ ts) ≡ (if b then Some ([], ts) else (one (c ∷ ts) >>= λ x. with_first x.0 (until_within close one n x.1)))
unfolding until_within
until_step close one n c ts b e = ap (λ x. if x then Some (pair [] ts) else (one (c ∷ ts) >>= λ x. with_first x.0 (until_within close one n x.1))) e

abbrev closed_by : ℕ → (List ℕ → List ℕ → ℕ → Type 0) → List ℕ → List ℕ → List ℕ → Type 0
closed_by close a ts rest vs = (mid : List ℕ) × Repeats a ts mid vs × (mid ≡ close ∷ rest)

pub until_sound : (close : ℕ) (a : List ℕ → List ℕ → ℕ → Type 0) (one : List ℕ → Option (ℕ × List ℕ)) → Exact a one
    → (n : ℕ) (ts rest vs : List ℕ) → until_within close one n ts ≡ Some (vs, rest) → closed_by close a ts rest vs
unfolding until_within
until_sound close a one ea zero ts rest vs e = none_some (pair vs rest) e
until_sound close a one ea (suc n) [] rest vs e = none_some (pair vs rest) e
until_sound close a one ea (suc n) (c ∷ ts) rest vs e = elim (cases_Bool (c == close)) [
  | inl hit ↦
      let h = pair_is [] vs ts rest (sym (until_step close one n c ts true hit) ∙ e) in
      (c ∷ ts, subst (λ (us : List ℕ). Repeats a (c ∷ ts) (c ∷ ts) us) h.0 no_repeat, ap (λ x. x ∷ ts) (eqb-true c close hit) ∙ ap (λ us. close ∷ us) h.1)
  | inr miss ↦
      let h = bind_some (one (c ∷ ts)) (λ (x : ℕ × List ℕ). with_first x.0 (until_within close one n x.1)) (pair vs rest) (sym (until_step close one n c ts false miss) ∙ e) in
      let k = bind_some (until_within close one n h.0.1) (λ (x : List ℕ × List ℕ). Some (pair (h.0.0 ∷ x.0) x.1)) (pair vs rest) h.2 in
      let j = pair_is (h.0.0 ∷ k.0.0) vs k.0.1 rest k.2 in
      let again = until_sound close a one ea n h.0.1 rest k.0.0 (k.1 ∙ ap (λ us. Some (pair k.0.0 us)) j.1) in
      (again.0, subst (λ (us : List ℕ). Repeats a (c ∷ ts) again.0 us) j.0 (one_more (ea.sound (c ∷ ts) h.0.1 h.0.0 h.1) again.1), again.2)
]

abbrev pub IsUntil : ℕ → (List ℕ → Option (ℕ × List ℕ)) → List ℕ → List ℕ → List ℕ → Type 0
IsUntil close one ts vs rest = (n : ℕ) → length ts ≤ n → until_within close one n ts ≡ Some (vs, rest)

until_close : (close : ℕ) (one : List ℕ → Option (ℕ × List ℕ)) (rest : List ℕ) (n : ℕ) → length (close ∷ rest) ≤ n → until_within close one n (close ∷ rest) ≡ Some ([], rest)
until_close close one rest zero h = absurd (omega arith)
until_close close one rest (suc n) h = until_step close one n close rest true (eq-eqb close close refl)

until_more : (close : ℕ) (one : List ℕ → Option (ℕ × List ℕ)) → Lacks one close → (ts mid : List ℕ) (v : ℕ) → one ts ≡ Some (v, mid) → length mid < length ts
    → (vs rest : List ℕ) → IsUntil close one mid vs rest → (n : ℕ) → length ts ≤ n → until_within close one n ts ≡ Some (v ∷ vs, rest)
until_more close one lacks [] mid v e s vs rest again n h = absurd (omega arith)
until_more close one lacks (c ∷ ts) mid v e s vs rest again zero h = absurd (omega arith)
until_more close one lacks (c ∷ ts) mid v e s vs rest again (suc n) h = elim (cases_Bool (c == close)) [
  | inl hit ↦ none_some (pair v mid) (sym (ap (λ x. one (x ∷ ts)) (eqb-true c close hit) ∙ lacks ts) ∙ e)
  | inr miss ↦
      let fits : length mid ≤ n = omega arith in
      until_step close one n c ts false miss
      ∙ bind_is (one (c ∷ ts)) (λ (x : ℕ × List ℕ). with_first x.0 (until_within close one n x.1)) (pair v mid) e
      ∙ ap (with_first v) (again n fits)
]

pub until_complete : (close : ℕ) (a : List ℕ → List ℕ → ℕ → Type 0) (one : List ℕ → Option (ℕ × List ℕ)) → Exact a one → Lacks one close → Takes one
    → {ts mid vs : List ℕ} → Repeats a ts mid vs → (rest : List ℕ) → mid ≡ close ∷ rest → IsUntil close one ts vs rest
until_complete close a one ea lacks takes (no_repeat {ts = ts}) rest e =
    subst (λ (us : List ℕ). IsUntil close one us [] rest) (sym e) (until_close close one rest)
until_complete close a one ea lacks takes (one_more {ts = ts} {mid = m} {v = v} {vs = vs} p r) rest e =
    let k = ea.complete ts m v p in
    until_more close one lacks ts m v k (takes ts m v k) vs rest (until_complete close a one ea lacks takes r rest e)

pub until_exact : (close : ℕ) (a : List ℕ → List ℕ → ℕ → Type 0) (one : List ℕ → Option (ℕ × List ℕ)) → Exact a one → Lacks one close → Takes one
    → Exact (part.then (repeated a) (λ vs. part.then (sign close) (λ _. give vs))) (until_at close one)
until_exact close a one ea lacks takes = record {
  sound = λ ts rest vs e.
      let h = until_sound close a one ea (length ts) ts rest vs e in
      (h.0, vs, h.1, (rest, tt, h.2, (refl, refl)));
  complete = λ ts rest vs h.
      let e : h.0 ≡ close ∷ rest = h.3.2 ∙ ap (λ us. close ∷ us) h.3.3.0 in
      until_complete close a one ea lacks takes h.2 rest e (length ts) (omega arith)
      ∙ ap (λ us. Some (pair us rest)) (sym h.3.3.1);
}

-- two answers that are found together are the same
pub same_options : {A : Type 0} (r s : Option A) → ((y : A) → r ≡ Some y → s ≡ Some y) → ((y : A) → s ≡ Some y → r ≡ Some y) → r ≡ s
same_options None None f g = refl
same_options None (Some y) f g = g y refl
same_options (Some y) s f g = sym (f y refl)

pub until_enough : (close : ℕ) (a : List ℕ → List ℕ → ℕ → Type 0) (one : List ℕ → Option (ℕ × List ℕ)) → Exact a one → Lacks one close → Takes one
    → (ts : List ℕ) (n : ℕ) → length ts ≤ n → until_within close one n ts ≡ until_at close one ts
until_enough close a one ea lacks takes ts n h =
    same_options (until_within close one n ts) (until_at close one ts)
    (λ y e. let k = until_sound close a one ea n ts y.1 y.0 e in until_complete close a one ea lacks takes k.1 y.1 k.2 (length ts) (omega arith))
    (λ y e. let k = until_sound close a one ea (length ts) ts y.1 y.0 e in until_complete close a one ea lacks takes k.1 y.1 k.2 n h)

-- each answer of a part has one value and one rest
pub exact_one : {V : Type 0} (a : List ℕ → List ℕ → V → Type 0) (f : List ℕ → Option (V × List ℕ)) → Exact a f → (ts rest r : List ℕ) (v w : V) → a ts rest v → a ts r w → (v ≡ w) × (rest ≡ r)
exact_one a f ea ts rest r v w p q = pair_is v w rest r (sym (ea.complete ts rest v p) ∙ ea.complete ts r w q)
