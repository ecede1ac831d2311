-- What a reader of a part owes, how readers of parts one behind the other compose, and the verdict.
use Rattle.std.proofs.Common.{◌≡◌, ◌≤◌, ◌<◌, Bool, true, false, List, [], ◌∷◌, length, Option, Some, None, Result, Ok, Err, refl, sym, ap, subst, ◌∙◌, arith, inl, inr, ◌⊎◌}
use Rattle.std.specs.Prelude.{IsSome, is_some, ◌||◌, ◌==◌}
use Rattle.std.proofs.lemmas.Bool.{eqb-true, eq-eqb}
use Rattle.grammar_dm.specs.Part.{Part, Spells, Begins, Marks}
use Rattle.grammar_dm.specs.Part.Part.{token, give, then, marked}
use Rattle.grammar_dm.specs.Verdict.{Stops, Fault, Judges}
use Rattle.grammar_dm.specs.Reading.{Answer, ◌>>=◌, took, token_at, starts, marked_at, ended, all_of}
use Rattle.grammar_dm.proofs.Fronts.{suffix_length, suffix_whole, behind_whole, behind_begun, whole_begins, less_begins, some_is}

-- the tokens from the end of the answer on
abbrev pub rest_of : {T V : Type 0} → Answer T V → List T
rest_of (Ok x) = x.1
rest_of (Err fault) = fault.rest

abbrev pub marks_of : {T V : Type 0} → Answer T V → Bool
marks_of (Ok x) = false
marks_of (Err fault) = fault.marked

-- the first token is one of these
abbrev pub Goes : {T : Type 0} → (T → Bool) → List T → Type 0
Goes more ts = starts more ts ≡ true

-- what was answered is so
abbrev pub Stands : {T V : Type 0} → Part T V → List T → Answer T V → Type 0
Stands part ts (Ok x) = Spells part ts x.1 x.0
Stands part ts (Err fault) = Begins part ts fault.rest × (fault.marked ≡ true → Marks part ts fault.rest)

-- The answer is the one that a reader of the part owes. A whole part that is not the answer ends no later,
-- and before one of the tokens in more.
pub record Reads {T V : Type 0} (part : Part T V) (more : T → Bool) (ts : List T) (answer : Answer T V) : Type 0 where
  pub stands : Stands part ts answer
  -- nothing begins the part beyond the answer's end
  pub far : (r : List T) → Begins part ts r → length (rest_of answer) ≤ length r
  pub only : (r : List T) (v : V) → Spells part ts r v → (answer ≡ Ok (v, r)) ⊎ ((length (rest_of answer) ≤ length r) × Goes more r)
  -- a marked part at the end or beyond is told
  pub marks : (r : List T) → Marks part ts r → length r ≤ length (rest_of answer) → marks_of answer ≡ true

-- The part may begin these tokens, but not beyond the rest; a whole one ends before a token in more.
pub record Within {T V : Type 0} (part : Part T V) (more : T → Bool) (ts rest : List T) : Type 0 where
  pub begins : (r : List T) → Begins part ts r → length rest ≤ length r
  pub spells : (r : List T) (v : V) → Spells part ts r v → (length rest ≤ length r) × Goes more r
  pub marks : (r : List T) → Marks part ts r → ⊥

-- no token at the front is the part's; where it can be empty, it may end here
abbrev pub Apart : {T V : Type 0} → Part T V → (T → Bool) → List T → Type 0
Apart part more ts = Within part more ts ts

-- no token is in it
abbrev pub no : {T : Type 0} → T → Bool
no t = false

pub no_goes : {T W : Type 0} (ts : List T) → Goes no ts → W
no_goes [] g = absurd cc
no_goes (t ∷ ts) g = absurd cc

-- no token at the front is the part's, and it isn't empty
abbrev pub Blocked : {T V : Type 0} → Part T V → List T → Type 0
Blocked part ts = Apart part no ts

-- ---- small facts

cons_is : {T : Type 0} (t u : T) (ts us : List T) → t ∷ ts ≡ u ∷ us → (t ≡ u) × (ts ≡ us)
cons_is t u ts us e = (cc, cc)

some_one : {V : Type 0} (o : Option V) (v w : V) → o ≡ Some v → o ≡ Some w → v ≡ w
some_one o v w d e = cc

none_some : {V W : Type 0} (o : Option V) (v : V) → o ≡ None → o ≡ Some v → W
none_some o v d e = absurd cc

none_is : {V W : Type 0} (o : Option V) → o ≡ None → IsSome o → W
none_is (Some v) d e = absurd cc
none_is None d e = absurd cc

nil_cons : {T W : Type 0} (t : T) (ts : List T) → [] ≡ t ∷ ts → W
nil_cons t ts e = absurd cc

ok_is : {A E : Type 0} (x y : A) → ◌≡◌ {A = Result A E} (Ok x) (Ok y) → x ≡ y
ok_is x y e = cc

err_ok : {A E W : Type 0} (x : A) (e : E) → ◌≡◌ {A = Result A E} (Err e) (Ok x) → W
err_ok x e d = absurd cc

pub true_false : {W : Type 0} (b : Bool) → b ≡ true → b ≡ false → W
true_false b d e = absurd cc

pub short_of : {T V : Type 0} (part : Part T V) (more : T → Bool) (ts : List T) (answer : Answer T V) → Reads part more ts answer → length (rest_of answer) ≤ length ts
short_of part more ts (Ok x) h = suffix_length (behind_whole part ts x.1 x.0 h.stands)
short_of part more ts (Err fault) h = suffix_length (behind_begun part ts fault.rest h.stands.0)

-- ---- no token, and one token

pub give_reads : {T V : Type 0} (w : V) (more : T → Bool) (ts : List T) → Reads (give w) more ts (Ok (w, ts))
give_reads w more ts = record {
  stands = (refl, refl);
  far = λ r e. omega (arith, ap length e);
  only = λ r v h. let e = h.0 in let d = h.1 in inl (cc (e, d));
  marks = λ r h le. absurd h;
}

pub give_apart : {T V : Type 0} (w : V) (more : T → Bool) (ts : List T) → Goes more ts → Apart (give w) more ts
give_apart w more ts g = record {
  begins = λ r e. omega (arith, ap length e);
  spells = λ r v h. (omega (arith, ap length h.0), ap (starts more) (sym h.0) ∙ g);
  marks = λ r h. h;
}

token_step : {T V : Type 0} (f : T → Option V) (more : T → Bool) (t : T) (ts : List T) (o : Option V) → f t ≡ o → Reads (token f) more (t ∷ ts) (took o t ts)
token_step f more t ts None e = record {
  stands = (inl refl, λ d. absurd cc);
  far = λ r. elim [
    | inl h ↦ omega (arith, ap length h)
    | inr h ↦ none_is (f h.0) (ap f (sym (cons_is t h.0 ts r h.1).0) ∙ e) h.2
  ];
  only = λ r v h. none_some (f h.0) v (ap f (sym (cons_is t h.0 ts r h.1).0) ∙ e) h.2;
  marks = λ r h le. absurd h;
}
token_step f more t ts (Some w) e = record {
  stands = (t, refl, e);
  far = λ r. elim [
    | inl h ↦ omega (arith, ap length h)
    | inr h ↦ omega (arith, ap length h.1)
  ];
  only = λ r v h.
      let same = cons_is t h.0 ts r h.1 in
      let d : w ≡ v = some_one (f t) w v e (ap f same.0 ∙ h.2) in
      inl (cc (same.1, d));
  marks = λ r h le. absurd h;
}

pub token_reads : {T V : Type 0} (f : T → Option V) (more : T → Bool) (ts : List T) → Reads (token f) more ts (token_at f ts)
token_reads f more [] = record {
  stands = (inl refl, λ d. absurd cc);
  far = λ r h. omega arith;
  only = λ r v h. nil_cons h.0 r h.1;
  marks = λ r h le. absurd h;
}
token_reads f more (t ∷ ts) = token_step f more t ts (f t) refl

-- a token that the test gives no value isn't the part
pub token_blocked : {T V : Type 0} (f : T → Option V) (more : T → Bool) (ts : List T) → starts (λ t. is_some (f t)) ts ≡ false → Apart (token f) more ts
token_blocked f more [] e = record {
  begins = λ r h. omega arith;
  spells = λ r v h. nil_cons h.0 r h.1;
  marks = λ r h. h;
}
token_blocked f more (t ∷ ts) e = record {
  begins = λ r. elim [
    | inl h ↦ omega (arith, ap length h)
    | inr h ↦ true_false (is_some (f t)) (ap (λ u. is_some (f u)) (cons_is t h.0 ts r h.1).0 ∙ h.2) e
  ];
  spells = λ r v h. true_false (is_some (f t)) (ap (λ u. is_some (f u)) (cons_is t h.0 ts r h.1).0 ∙ some_is (f h.0) v h.2) e;
  marks = λ r h. h;
}

-- ---- one part behind the other

then_stands : {T A B : Type 0} (a : Part T A) (b : A → Part T B) (ts mid : List T) (x : A) (answer : Answer T B) → Spells a ts mid x → Stands (b x) mid answer → Stands (then a b) ts answer
then_stands a b ts mid x (Ok y) s h = (mid, x, s, h)
then_stands a b ts mid x (Err fault) s h = (inr (mid, x, s, h.0), λ e. inr (mid, x, s, h.1 e))

pub then_reads : {T A B : Type 0} (a : Part T A) (b : A → Part T B) (more_a more : T → Bool) (ts : List T) (ra : Answer T A) (rb : A × List T → Answer T B)
    → Reads a more_a ts ra
    → ((x : A) (mid : List T) → Spells a ts mid x → Reads (b x) more mid (rb (x, mid)))
    → ((x : A) (mid : List T) → Goes more_a mid → Apart (b x) more mid)
    → Reads (then a b) more ts (ra >>= rb)
then_reads {T} {A} {B} a b more_a more ts (Ok x) rb pa pb apart =
    let here : Reads (b x.0) more x.1 (rb x) = pb x.0 x.1 pa.stands in
    let short : length (rest_of (rb x)) ≤ length x.1 = short_of (b x.0) more x.1 (rb x) here in
    let end_is : (mid : List T) (y : A) → ◌≡◌ {A = Answer T A} (Ok x) (Ok (y, mid)) → (y, mid) ≡ x = λ mid y e. sym (ok_is {A = A × List T} {E = Fault T} x (y, mid) e) in
    let length_is : (mid : List T) (y : A) → (y, mid) ≡ x → length (rest_of (rb (y, mid))) ≡ length (rest_of (rb x)) = λ mid y e. ap (λ (p : A × List T). length (rest_of (rb p))) e in
    record {
      stands = then_stands a b ts x.1 x.0 (rb x) pa.stands here.stands;
      far = λ r. elim [
        | inl h ↦ omega (arith, pa.far r h, short)
        | inr h ↦ elim (pa.only h.0 h.1 h.2) [
          | inl e ↦ omega (arith, (pb h.1 h.0 h.2).far r h.3, length_is h.0 h.1 (end_is h.0 h.1 e))
          | inr g ↦ omega (arith, (apart h.1 h.0 g.1).begins r h.3, g.0, short)
        ]
      ];
      only = λ r v h. elim (pa.only h.0 h.1 h.2) [
        | inl e ↦
            let same = end_is h.0 h.1 e in
            elim ((pb h.1 h.0 h.2).only r v h.3) [
              | inl d ↦ inl (sym (ap rb same) ∙ d)
              | inr g ↦ inr (omega (arith, g.0, length_is h.0 h.1 same), g.1)
            ]
        | inr g ↦
            let end = (apart h.1 h.0 g.1).spells r v h.3 in
            inr (omega (arith, end.0, g.0, short), end.1)
      ];
      marks = λ r h le. elim h [
        | inl m ↦ absurd (true_false false (pa.marks r m (omega (arith, le, short))) refl)
        | inr m ↦ elim (pa.only m.0 m.1 m.2) [
          | inl e ↦
              let same = end_is m.0 m.1 e in
              sym (ap (λ (p : A × List T). marks_of (rb p)) same) ∙ (pb m.1 m.0 m.2).marks r m.3 (omega (arith, le, length_is m.0 m.1 same))
          | inr g ↦ absurd ((apart m.1 m.0 g.1).marks r m.3)
        ]
      ];
    }
then_reads {T} {A} {B} a b more_a more ts (Err fault) rb pa pb apart = record {
  stands = (inl pa.stands.0, λ e. inl (pa.stands.1 e));
  far = λ r. elim [
    | inl h ↦ pa.far r h
    | inr h ↦ elim (pa.only h.0 h.1 h.2) [
      | inl e ↦ err_ok (h.1, h.0) fault e
      | inr g ↦ omega (arith, (apart h.1 h.0 g.1).begins r h.3, g.0)
    ]
  ];
  only = λ r v h. elim (pa.only h.0 h.1 h.2) [
    | inl e ↦ err_ok (h.1, h.0) fault e
    | inr g ↦
        let end = (apart h.1 h.0 g.1).spells r v h.3 in
        inr (omega (arith, end.0, g.0), end.1)
  ];
  marks = λ r h le. elim h [
    | inl m ↦ pa.marks r m le
    | inr m ↦ elim (pa.only m.0 m.1 m.2) [
      | inl e ↦ err_ok (m.1, m.0) fault e
      | inr g ↦ absurd ((apart m.1 m.0 g.1).marks r m.3)
    ]
  ];
}

-- behind a part that is closed at its end
pub closed_then : {T A B : Type 0} (a : Part T A) (b : A → Part T B) (more : T → Bool) (ts : List T) (ra : Answer T A) (rb : A × List T → Answer T B)
    → Reads a no ts ra → ((x : A) (mid : List T) → Reads (b x) more mid (rb (x, mid))) → Reads (then a b) more ts (ra >>= rb)
closed_then a b more ts ra rb pa pb = then_reads a b no more ts ra rb pa (λ x mid s. pb x mid) (λ x mid g. no_goes mid g)

pub token_then : {T A B : Type 0} (f : T → Option A) (b : A → Part T B) (more : T → Bool) (ts : List T) (rb : A × List T → Answer T B)
    → ((x : A) (mid : List T) → Reads (b x) more mid (rb (x, mid))) → Reads (then (token f) b) more ts (token_at f ts >>= rb)
token_then f b more ts rb pb = closed_then (token f) b more ts (token_at f ts) rb (token_reads f no ts) pb

-- a part, and nothing behind it
pub then_give : {T A B : Type 0} (a : Part T A) (f : A → B) (more : T → Bool) (ts : List T) (ra : Answer T A)
    → Reads a more ts ra → Reads (then a (λ x. give (f x))) more ts (ra >>= λ x. Ok (f x.0, x.1))
then_give a f more ts ra pa = then_reads a (λ x. give (f x)) more more ts ra (λ x. Ok (f x.0, x.1)) pa (λ x mid s. give_reads (f x) more mid) (λ x mid g. give_apart (f x) more mid g)

-- a part that may be empty, before one that isn't there either
pub then_apart : {T A B : Type 0} (a : Part T A) (b : A → Part T B) (more_a more : T → Bool) (ts : List T) → Apart a more_a ts
    → ((x : A) → Goes more_a ts → Apart (b x) more ts) → Apart (then a b) more ts
then_apart {T} {A} {B} a b more_a more ts pa pb =
    let here : (mid : List T) (x : A) → Spells a ts mid x → ts ≡ mid = λ mid x s. suffix_whole (behind_whole a ts mid x s) (pa.spells mid x s).0 in
    let next : (mid : List T) (x : A) (s : Spells a ts mid x) → Apart (b x) more mid = λ mid x s.
    let e = here mid x s in
    subst (λ us. Apart (b x) more us) e (pb x (ap (starts more_a) e ∙ (pa.spells mid x s).1)) in
    record {
      begins = λ r. elim [
        | inl h ↦ pa.begins r h
        | inr h ↦ omega (arith, (pa.spells h.0 h.1 h.2).0, (next h.0 h.1 h.2).begins r h.3)
      ];
      spells = λ r v h. let end = (next h.0 h.1 h.2).spells r v h.3 in (omega (arith, (pa.spells h.0 h.1 h.2).0, end.0), end.1);
      marks = λ r. elim [
        | inl h ↦ pa.marks r h
        | inr h ↦ (next h.0 h.1 h.2).marks r h.3
      ];
    }

pub then_blocked : {T A B : Type 0} (a : Part T A) (b : A → Part T B) (more : T → Bool) (ts : List T) → Blocked a ts → Apart (then a b) more ts
then_blocked a b more ts pa = then_apart a b no more ts pa (λ x g. no_goes ts g)

-- a part that begins with a token, where the first token isn't that
pub token_then_blocked : {T A B : Type 0} (f : T → Option A) (b : A → Part T B) (more : T → Bool) (ts : List T) → starts (λ t. is_some (f t)) ts ≡ false → Apart (then (token f) b) more ts
token_then_blocked f b more ts e = then_blocked (token f) b more ts (token_blocked f no ts e)

pub blocked_apart : {T V : Type 0} (p : Part T V) (more : T → Bool) (ts : List T) → Blocked p ts → Apart p more ts
blocked_apart p more ts h = record {
  begins = h.begins;
  spells = λ r v s. no_goes r (h.spells r v s).1;
  marks = h.marks;
}

-- a part that begins with a token takes one at least
pub token_takes : {T A B : Type 0} (f : T → Option A) (b : A → Part T B) (ts r : List T) (v : B) → Spells (then (token f) b) ts r v → length r < length ts
token_takes f b ts r v h = omega (arith, ap length h.2.1, suffix_length (behind_whole (b h.1) h.0 r v h.3))

-- ---- a marked part

or_is : (a b : Bool) → (a || b) ≡ true → (a ≡ true) ⊎ (b ≡ true)
or_is true b e = inl refl
or_is false b e = inr e

or_second : (a b : Bool) → b ≡ true → (a || b) ≡ true
or_second true b e = refl
or_second false b e = e

or_first : (a b : Bool) → a ≡ true → (a || b) ≡ true
or_first true b e = refl
or_first false b e = absurd cc

pub marked_reads : {T V : Type 0} (a : Part T V) (more : T → Bool) (ts : List T) (ra : Answer T V)
    → ((r : List T) (v : V) → Spells a ts r v → length r < length ts) → Reads a more ts ra → Reads (marked a) more ts (marked_at ts ra)
marked_reads a more ts (Ok x) takes pa = record {
  stands = pa.stands;
  far = pa.far;
  only = pa.only;
  marks = λ r h le. elim h [
    | inl e ↦ absurd (omega (arith, takes x.1 x.0 pa.stands, ap length e, le))
    | inr m ↦ pa.marks r m le
  ];
}
marked_reads {T} {V} a more ts (Err fault) takes pa =
    let short : length fault.rest ≤ length ts = short_of a more ts (Err fault) pa in
    record {
      stands = (
        pa.stands.0,
        λ e. elim (or_is fault.marked (length fault.rest == length ts) e) [
          | inl d ↦ inr (pa.stands.1 d)
          | inr d ↦ inl (suffix_whole (behind_begun a ts fault.rest pa.stands.0) (omega (arith, eqb-true (length fault.rest) (length ts) d)))
        ],
      );
      far = pa.far;
      only = λ r v h. elim (pa.only r v h) [
        | inl e ↦ err_ok (v, r) fault e
        | inr g ↦ inr g
      ];
      marks = λ r h le. elim h [
        | inl e ↦ or_second fault.marked (length fault.rest == length ts) (eq-eqb (length fault.rest) (length ts) (omega (arith, short, le, ap length e)))
        | inr m ↦ or_first fault.marked (length fault.rest == length ts) (pa.marks r m le)
      ];
    }

-- ---- the verdict on all tokens

fault_judged : {T V : Type 0} (part : Part T V) (ts rest : List T) (told : Bool)
    → Begins part ts rest → ((r : List T) → Begins part ts r → length rest ≤ length r) → ((v : V) → rest ≡ [] → Spells part ts [] v → ⊥)
    → (told ≡ true → Marks part ts rest) → (Marks part ts rest → told ≡ true)
    → Judges part ts (Err (record { rest = rest; marked = told }))
fault_judged {T} {V} part ts rest told begun far whole sound complete =
    let is_rest = behind_begun part ts rest begun in
    let none : (v : V) → Spells part ts [] v → ⊥ = λ v s. whole v (nil_is rest (far [] (whole_begins part ts [] v s))) s in (
      record {
        is_rest = is_rest;
        begins = λ mid h k. less_begins part ts mid rest begun h k;
        stops = stop rest far none;
      },
      none,
      (sound, complete),
    )
  where
    nil_is : (us : List T) → length us ≤ 0 → us ≡ []
    nil_is [] le = refl
    nil_is (u ∷ us) le = absurd (omega arith)

    stop : (us : List T) → ((r : List T) → Begins part ts r → length us ≤ length r) → ((v : V) → Spells part ts [] v → ⊥) → Stops part ts us
    stop [] far' none' = none'
    stop (u ∷ us) far' none' = λ b. omega (arith, far' us b)

judged : {T V : Type 0} (part : Part T V) (more : T → Bool) (ts : List T) (v : V) (rest : List T) → Reads part more ts (Ok (v, rest)) → Judges part ts (ended v rest)
judged {T} {V} part more ts v [] h = (
  h.stands,
  λ w s. elim (h.only [] w s) [
    | inl e ↦ let d = ok_is {A = V × List T} {E = Fault T} (v, []) (w, []) e in sym (ap (λ (p : V × List T). p.0) d)
    | inr g ↦ absurd (true_false false g.1 refl)
  ],
)
judged part more ts v (t ∷ rest) h =
    fault_judged part ts (t ∷ rest) false (whole_begins part ts (t ∷ rest) v h.stands) h.far (λ w e s. nil_cons t rest (sym e)) (λ e. absurd cc) (λ m. h.marks (t ∷ rest) m (omega arith))

-- The answer of a reader over all tokens is the verdict.
pub judges : {T V : Type 0} (part : Part T V) (more : T → Bool) (ts : List T) (answer : Answer T V) → Reads part more ts answer → Judges part ts (all_of answer)
judges part more ts (Ok x) h = judged part more ts x.0 x.1 h
judges {T} {V} part more ts (Err fault) h =
    fault_judged part ts fault.rest fault.marked h.stands.0 h.far
    (λ v e s. elim (h.only [] v s) [
      | inl d ↦ err_ok (v, []) fault d
      | inr g ↦ true_false false g.1 refl
    ])
    h.stands.1 (λ m. h.marks fault.rest m (omega arith))
