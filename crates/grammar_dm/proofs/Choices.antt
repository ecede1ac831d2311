-- Readers of alternatives, of options and repeats, and of parts that look further than one token.
use Rattle.std.proofs.Common.{◌≡◌, ℕ, zero, suc, ◌≤◌, ◌<◌, Bool, true, false, List, [], ◌∷◌, length, Option, Some, None, Ok, Err, refl, sym, ap, subst, ◌∙◌, arith, inl, inr}
use Rattle.std.specs.Prelude.{is_some, ◌||◌}
use Rattle.grammar_dm.specs.Part.{Part, Repeats, Spells, Begins, Marks, separated_by, skip}
use Rattle.grammar_dm.specs.Part.Part.{token, give, then, or, optional, repeated}
use Rattle.grammar_dm.specs.Part.Repeats.{no_repeat, one_more}
use Rattle.grammar_dm.specs.Reading.{Answer, ◌>>=◌, token_at, took, starts, at_most, many_at, optional_at, skip_optional_at, skip_many_at, behind_at, separated_at}
use Rattle.grammar_dm.proofs.Fronts.{suffix_length, behind_whole, whole_begins, nothing_begins}
use Rattle.grammar_dm.proofs.Laws.{no_goes, blocked_apart, rest_of, Goes, Stands, Reads, Within, Apart, Blocked, no, short_of, give_reads, give_apart, token_reads, token_blocked, then_reads, then_give, then_apart, then_blocked, token_then, token_takes, token_then_blocked}

-- ---- tests of a first token

-- a token that passes the first test doesn't pass the second
pub parted : {T : Type 0} (f g : T → Bool) → ((t : T) → f t ≡ true → g t ≡ false) → (ts : List T) → starts f ts ≡ true → starts g ts ≡ false
parted f g h [] e = refl
parted f g h (t ∷ ts) e = h t e

-- a token that passes the first test passes the second
pub widened : {T : Type 0} (f g : T → Bool) → ((t : T) → f t ≡ true → g t ≡ true) → (ts : List T) → starts f ts ≡ true → starts g ts ≡ true
widened f g h [] e = absurd cc
widened f g h (t ∷ ts) e = h t e

neither_of : (x y : Bool) → (x || y) ≡ false → (x ≡ false) × (y ≡ false)
neither_of true y e = absurd cc
neither_of false y e = (refl, e)

pub neither : {T : Type 0} (f g : T → Bool) (ts : List T) → starts (λ t. f t || g t) ts ≡ false → (starts f ts ≡ false) × (starts g ts ≡ false)
neither f g [] e = (refl, refl)
neither f g (t ∷ ts) e = neither_of (f t) (g t) e

either_of : {W : Type 0} (x y : Bool) → (x || y) ≡ true → (x ≡ true → W) → (y ≡ true → W) → W
either_of true y e p q = p refl
either_of false y e p q = q e

pub either : {T W : Type 0} (f g : T → Bool) (t : T) → (f t || g t) ≡ true → (f t ≡ true → W) → (g t ≡ true → W) → W
either f g t e p q = either_of (f t) (g t) e p q

first_of_two : (x y : Bool) → x ≡ true → (x || y) ≡ true
first_of_two true y e = refl
first_of_two false y e = absurd cc

second_of_two : (x y : Bool) → y ≡ true → (x || y) ≡ true
second_of_two true y e = refl
second_of_two false y e = e

pub is_first : {T : Type 0} (f g : T → Bool) (t : T) → f t ≡ true → (f t || g t) ≡ true
is_first f g t e = first_of_two (f t) (g t) e

pub is_second : {T : Type 0} (f g : T → Bool) (t : T) → g t ≡ true → (f t || g t) ≡ true
is_second f g t e = second_of_two (f t) (g t) e

-- ---- parts that end before a token of a wider set, or within more tokens

pub within_less : {T V : Type 0} (p : Part T V) (more : T → Bool) (ts rest us : List T) → length us ≤ length rest → Within p more ts rest → Within p more ts us
within_less p more ts rest us le h = record {
  begins = λ r b. omega (arith, h.begins r b, le);
  spells = λ r v s. let end = h.spells r v s in (omega (arith, end.0, le), end.1);
  marks = h.marks;
}

pub reads_wider : {T V : Type 0} (p : Part T V) (f more : T → Bool) → ((t : T) → f t ≡ true → more t ≡ true) → (ts : List T) (answer : Answer T V) → Reads p f ts answer → Reads p more ts answer
reads_wider p f more wider ts answer h = record {
  stands = h.stands;
  far = h.far;
  only = λ r v s. elim (h.only r v s) [
    | inl e ↦ inl e
    | inr g ↦ inr (g.0, widened f more wider r g.1)
  ];
  marks = h.marks;
}

-- a part that is closed at its end fits before any
pub closed_reads : {T V : Type 0} (p : Part T V) (more : T → Bool) (ts : List T) (answer : Answer T V) → Reads p no ts answer → Reads p more ts answer
closed_reads p more ts answer h = reads_wider p no more (λ t e. absurd cc) ts answer h

-- a token, and then a part that begins nothing beyond the rest
pub token_within : {T A B : Type 0} (f : T → Option A) (b : A → Part T B) (more : T → Bool) (t : T) (ts rest : List T) → length rest ≤ length ts → ((x : A) → Within (b x) more ts rest) → Within (then (token f) b) more (t ∷ ts) rest
token_within {T} {A} {B} f b more t ts rest le pb =
    let tail_is : (u : T) (us : List T) → t ∷ ts ≡ u ∷ us → us ≡ ts = λ u us e. cc in
    record {
      begins = λ r. elim [
        | inl h ↦ elim h [ inl e ↦ omega (arith, ap length e, le) | inr k ↦ omega (arith, ap length k.1, le) ]
        | inr h ↦ (pb h.1).begins r (subst (λ us. Begins (b h.1) us r) (tail_is h.2.0 h.0 h.2.1) h.3)
      ];
      spells = λ r v h. (pb h.1).spells r v (subst (λ us. Spells (b h.1) us r v) (tail_is h.2.0 h.0 h.2.1) h.3);
      marks = λ r. elim [
        | inl h ↦ h
        | inr h ↦ (pb h.1).marks r (subst (λ us. Marks (b h.1) us r) (tail_is h.2.0 h.0 h.2.1) h.3)
      ];
    }

-- a token that is taken
behind_took : {T A B : Type 0} (b : A → Part T B) (more : T → Bool) (ts : List T) (rb : A × List T → Answer T B) (t : T) (o : Option A) → is_some o ≡ true
    → ((x : A) → Reads (b x) more ts (rb (x, ts))) → length (rest_of (took o t ts >>= rb)) ≤ length ts
behind_took b more ts rb t (Some x) e h = short_of (b x) more ts (rb (x, ts)) (h x)
behind_took b more ts rb t None e h = absurd cc

pub behind_token : {T A B : Type 0} (f : T → Option A) (b : A → Part T B) (more : T → Bool) (t : T) (ts : List T) (rb : A × List T → Answer T B) → is_some (f t) ≡ true
    → ((x : A) → Reads (b x) more ts (rb (x, ts))) → length (rest_of (token_at f (t ∷ ts) >>= rb)) ≤ length ts
behind_token f b more t ts rb e h = behind_took b more ts rb t (f t) e h

-- the same, where what follows ends within a bound
past_took : {T A B : Type 0} (ts : List T) (rb : A × List T → Answer T B) (t : T) (o : Option A) (n : ℕ) → is_some o ≡ true → ((x : A) → length (rest_of (rb (x, ts))) ≤ n) → length (rest_of (took o t ts >>= rb)) ≤ n
past_took ts rb t (Some x) n e h = h x
past_took ts rb t None n e h = absurd cc

-- a first part that isn't whole, and gets no further than the rest
pub then_within : {T A B : Type 0} (a : Part T A) (b : A → Part T B) (more : T → Bool) (ts rest : List T) → Within a no ts rest → Within (then a b) more ts rest
then_within a b more ts rest pa = record {
  begins = λ r. elim [ inl h ↦ pa.begins r h | inr h ↦ no_goes h.0 (pa.spells h.0 h.1 h.2).1 ];
  spells = λ r v h. no_goes h.0 (pa.spells h.0 h.1 h.2).1;
  marks = λ r. elim [ inl h ↦ pa.marks r h | inr h ↦ no_goes h.0 (pa.spells h.0 h.1 h.2).1 ];
}

-- ---- parts that take a token at least

pub record Takes {T V : Type 0} (p : Part T V) : Type 0 where
  pub takes : (ts r : List T) (v : V) → Spells p ts r v → length r < length ts

pub takes_token : {T V : Type 0} (f : T → Option V) → Takes (token f)
takes_token f = record { takes = λ ts r v h. omega (arith, ap length h.1) }

pub takes_first : {T A B : Type 0} (a : Part T A) (b : A → Part T B) → Takes a → Takes (then a b)
takes_first a b h = record { takes = λ ts r v s. omega (arith, h.takes ts s.0 s.1 s.2, suffix_length (behind_whole (b s.1) s.0 r v s.3)) }

pub takes_second : {T A B : Type 0} (a : Part T A) (b : A → Part T B) → ((x : A) → Takes (b x)) → Takes (then a b)
takes_second a b h = record { takes = λ ts r v s. omega (arith, (h s.1).takes s.0 r v s.3, suffix_length (behind_whole a ts s.0 s.1 s.2)) }

pub takes_either : {T V : Type 0} (a b : Part T V) → Takes a → Takes b → Takes (or a b)
takes_either a b p q = record { takes = λ ts r v. elim [ inl s ↦ p.takes ts r v s | inr s ↦ q.takes ts r v s ] }

-- ---- one of two alternatives

stands_left : {T V : Type 0} (a b : Part T V) (ts : List T) (answer : Answer T V) → Stands a ts answer → Stands (or a b) ts answer
stands_left a b ts (Ok x) h = inl h
stands_left a b ts (Err fault) h = (inl h.0, λ e. inl (h.1 e))

stands_right : {T V : Type 0} (a b : Part T V) (ts : List T) (answer : Answer T V) → Stands b ts answer → Stands (or a b) ts answer
stands_right a b ts (Ok x) h = inr h
stands_right a b ts (Err fault) h = (inr h.0, λ e. inr (h.1 e))

-- the first is read, and the other begins nothing beyond that
pub or_left : {T V : Type 0} (a b : Part T V) (more : T → Bool) (ts : List T) (answer : Answer T V) → Reads a more ts answer → Within b more ts (rest_of answer) → Reads (or a b) more ts answer
or_left a b more ts answer pa pb = record {
  stands = stands_left a b ts answer pa.stands;
  far = λ r. elim [ inl h ↦ pa.far r h | inr h ↦ pb.begins r h ];
  only = λ r v. elim [ inl h ↦ pa.only r v h | inr h ↦ inr (pb.spells r v h) ];
  marks = λ r h le. elim h [ inl m ↦ pa.marks r m le | inr m ↦ absurd (pb.marks r m) ];
}

pub or_right : {T V : Type 0} (a b : Part T V) (more : T → Bool) (ts : List T) (answer : Answer T V) → Within a more ts (rest_of answer) → Reads b more ts answer → Reads (or a b) more ts answer
or_right a b more ts answer pa pb = record {
  stands = stands_right a b ts answer pb.stands;
  far = λ r. elim [ inl h ↦ pa.begins r h | inr h ↦ pb.far r h ];
  only = λ r v. elim [ inl h ↦ inr (pa.spells r v h) | inr h ↦ pb.only r v h ];
  marks = λ r h le. elim h [ inl m ↦ absurd (pa.marks r m) | inr m ↦ pb.marks r m le ];
}

-- the first token decides
pub or_first : {T V : Type 0} (a b : Part T V) (more : T → Bool) (ts : List T) (answer : Answer T V) → Reads a more ts answer → Apart b more ts → Reads (or a b) more ts answer
or_first a b more ts answer pa pb = or_left a b more ts answer pa (within_less b more ts ts (rest_of answer) (short_of a more ts answer pa) pb)

pub or_second : {T V : Type 0} (a b : Part T V) (more : T → Bool) (ts : List T) (answer : Answer T V) → Apart a more ts → Reads b more ts answer → Reads (or a b) more ts answer
or_second a b more ts answer pa pb = or_right a b more ts answer (within_less a more ts ts (rest_of answer) (short_of b more ts answer pb) pa) pb

by_step : {T V : Type 0} (test : T → Bool) (a b : Part T V) (more : T → Bool) (ts : List T) (ra rb : Answer T V) (is : Bool) → starts test ts ≡ is
    → (starts test ts ≡ true → Reads a more ts ra × Apart b more ts) → (starts test ts ≡ false → Apart a more ts × Reads b more ts rb)
    → Reads (or a b) more ts (elim is [ true ↦ ra | false ↦ rb ])
by_step test a b more ts ra rb true e p q = or_first a b more ts ra (p e).0 (p e).1
by_step test a b more ts ra rb false e p q = or_second a b more ts rb (q e).0 (q e).1

-- a test of the first token decides
pub or_by : {T V : Type 0} (test : T → Bool) (a b : Part T V) (more : T → Bool) (ts : List T) (ra rb : Answer T V)
    → (starts test ts ≡ true → Reads a more ts ra × Apart b more ts) → (starts test ts ≡ false → Apart a more ts × Reads b more ts rb)
    → Reads (or a b) more ts (elim (starts test ts) [ true ↦ ra | false ↦ rb ])
or_by test a b more ts ra rb p q = by_step test a b more ts ra rb (starts test ts) refl p q

pub or_apart : {T V : Type 0} (a b : Part T V) (more : T → Bool) (ts rest : List T) → Within a more ts rest → Within b more ts rest → Within (or a b) more ts rest
or_apart a b more ts rest pa pb = record {
  begins = λ r. elim [ inl h ↦ pa.begins r h | inr h ↦ pb.begins r h ];
  spells = λ r v. elim [ inl h ↦ pa.spells r v h | inr h ↦ pb.spells r v h ];
  marks = λ r. elim [ inl h ↦ pa.marks r h | inr h ↦ pb.marks r h ];
}

-- ---- what one part is, another is

pub record Sub {T V : Type 0} (p q : Part T V) (ts : List T) : Type 0 where
  pub spells : (r : List T) (v : V) → Spells p ts r v → Spells q ts r v
  pub begins : (r : List T) → Begins p ts r → Begins q ts r
  pub marks : (r : List T) → Marks p ts r → Marks q ts r

pub record Same {T V : Type 0} (p q : Part T V) (ts : List T) : Type 0 where
  pub to : Sub p q ts
  pub from : Sub q p ts

stands_along : {T V : Type 0} (p q : Part T V) (ts : List T) (answer : Answer T V) → Sub p q ts → Stands p ts answer → Stands q ts answer
stands_along p q ts (Ok x) s h = s.spells x.1 x.0 h
stands_along p q ts (Err fault) s h = (s.begins fault.rest h.0, λ e. s.marks fault.rest (h.1 e))

-- a part that is read is read as one that is the same
pub reads_along : {T V : Type 0} (p q : Part T V) (more : T → Bool) (ts : List T) (answer : Answer T V) → Same p q ts → Reads p more ts answer → Reads q more ts answer
reads_along p q more ts answer s h = record {
  stands = stands_along p q ts answer s.to h.stands;
  far = λ r b. h.far r (s.from.begins r b);
  only = λ r v w. h.only r v (s.from.spells r v w);
  marks = λ r m le. h.marks r (s.from.marks r m) le;
}

pub within_along : {T V : Type 0} (p q : Part T V) (more : T → Bool) (ts rest : List T) → Same p q ts → Within p more ts rest → Within q more ts rest
within_along p q more ts rest s h = record {
  begins = λ r b. h.begins r (s.from.begins r b);
  spells = λ r v w. h.spells r v (s.from.spells r v w);
  marks = λ r m. h.marks r (s.from.marks r m);
}

-- ---- an option

-- [ a ] is a, or nothing
abbrev a_or_nothing : {T V : Type 0} → Part T V → Part T (Option V)
a_or_nothing a = or (then a (λ x. give (Some x))) (give None)

pub optional_same : {T V : Type 0} (a : Part T V) (ts : List T) → Same (a_or_nothing a) (optional a) ts
optional_same {T} {V} a ts = record {
  to = record {
    spells = λ r v. elim [
      | inl h ↦ inl (h.1, subst (λ (us : List T). Spells a ts us h.1) h.3.0 h.2, h.3.1)
      | inr h ↦ inr h
    ];
    begins = λ r. elim [
      | inl h ↦ elim h [ inl b ↦ b | inr k ↦ subst (λ us. Begins a ts us) k.3 (whole_begins a ts k.0 k.1 k.2) ]
      | inr e ↦ subst (λ us. Begins a ts us) e (nothing_begins a ts)
    ];
    marks = λ r. elim [
      | inl h ↦ elim h [ inl m ↦ m | inr k ↦ absurd k.3 ]
      | inr h ↦ absurd h
    ];
  };
  from = record {
    spells = λ r v. elim [
      | inl h ↦ inl (r, h.0, h.1, (refl, h.2))
      | inr h ↦ inr h
    ];
    begins = λ r h. inl (inl h);
    marks = λ r h. inl (inl h);
  };
}

pub optional_reads : {T V : Type 0} (a : Part T V) (test more : T → Bool) (item : List T → Answer T V) (ts : List T)
    → (starts test ts ≡ true → Reads a more ts (item ts) × Goes more ts) → (starts test ts ≡ false → Blocked a ts)
    → Reads (optional a) more ts (optional_at test item ts)
optional_reads {T} {V} a test more item ts reads blocked =
    reads_along (a_or_nothing a) (optional a) more ts _ (optional_same a ts)
    (or_by test (then a (λ x. give (Some x))) (give None) more ts _ _
    (λ e. (then_give a (λ x. Some x) more ts (item ts) (reads e).0, give_apart {V = Option V} None more ts (reads e).1))
    (λ e. (then_blocked a (λ x. give (Some x)) more ts (blocked e), give_reads {V = Option V} None more ts)))

-- [ a ], whose value has no effect, is a, or nothing
skip_same : {T : Type 0} (a : Part T (Unit {0})) (ts : List T) → Same (or a (give tt)) (skip (optional a)) ts
skip_same {T} a ts = record {
  to = record {
    spells = λ r v. elim [
      | inl h ↦ (r, Some v, inl (v, h, refl), (refl, refl))
      | inr h ↦ (ts, None, inr (refl, refl), h)
    ];
    begins = λ r. elim [
      | inl h ↦ inl h
      | inr e ↦ inr (ts, None, inr (refl, refl), e)
    ];
    marks = λ r. elim [
      | inl h ↦ inl h
      | inr h ↦ absurd h
    ];
  };
  from = record {
    spells = λ r v h. elim h.2 [
      | inl s ↦ inl (subst (λ (us : List T). Spells a ts us s.0) h.3.0 s.1)
      | inr e ↦ inr (e.0 ∙ h.3.0, refl)
    ];
    begins = λ r. elim [
      | inl b ↦ inl b
      | inr h ↦ elim h.2 [
        | inl s ↦ inl (subst (λ (us : List T). Begins a ts us) h.3 (whole_begins a ts h.0 s.0 s.1))
        | inr e ↦ inr (e.0 ∙ h.3)
      ]
    ];
    marks = λ r. elim [ inl m ↦ inl m | inr h ↦ absurd h.3 ];
  };
}

pub skip_optional_reads : {T : Type 0} (a : Part T (Unit {0})) (test more : T → Bool) (item : List T → Answer T (Unit {0})) (ts : List T)
    → (starts test ts ≡ true → Reads a more ts (item ts) × Goes more ts) → (starts test ts ≡ false → Blocked a ts)
    → Reads (skip (optional a)) more ts (skip_optional_at test item ts)
skip_optional_reads a test more item ts reads blocked =
    reads_along (or a (give tt)) (skip (optional a)) more ts _ (skip_same a ts)
    (or_by test a (give tt) more ts _ _
    (λ e. ((reads e).0, give_apart tt more ts (reads e).1))
    (λ e. (blocked_apart a more ts (blocked e), give_reads tt more ts)))

pub skip_optional_apart : {T : Type 0} (a : Part T (Unit {0})) (more : T → Bool) (ts : List T) → Blocked a ts → Goes more ts → Apart (skip (optional a)) more ts
skip_optional_apart a more ts h g = within_along (or a (give tt)) (skip (optional a)) more ts ts (skip_same a ts) (or_apart _ _ more ts ts (blocked_apart a more ts h) (give_apart tt more ts g))

option_end : {T V : Type 0} (a : Part T V) (ts mid : List T) (x : Unit {0}) → Blocked a ts → Spells (skip (optional a)) ts mid x → ts ≡ mid
option_end a ts mid x h s = elim s.2 [
  | inl k ↦ no_goes s.0 (h.spells s.0 k.0 k.1).1
  | inr e ↦ e.0 ∙ s.3.0
]

-- [ a ] k, where neither is there
pub option_then_apart : {T V A : Type 0} (a : Part T V) (k : Part T A) (more : T → Bool) (ts : List T) → Blocked a ts → Apart k more ts → Apart (then (skip (optional a)) (λ _. k)) more ts
option_then_apart {T} a k more ts pa pk = record {
  begins = λ r. elim [
    | inl h ↦ elim h [
      | inl b ↦ pa.begins r b
      | inr s ↦ omega (arith, ap length (option_end a ts r tt pa (s.0, s.1, s.2, (s.3, refl))))
    ]
    | inr h ↦ pk.begins r (subst (λ us. Begins k us r) (sym (option_end a ts h.0 h.1 pa h.2)) h.3)
  ];
  spells = λ r v h. pk.spells r v (subst (λ us. Spells k us r v) (sym (option_end a ts h.0 h.1 pa h.2)) h.3);
  marks = λ r. elim [
    | inl h ↦ elim h [
      | inl m ↦ pa.marks r m
      | inr s ↦ s.3
    ]
    | inr h ↦ pk.marks r (subst (λ us. Marks k us r) (sym (option_end a ts h.0 h.1 pa h.2)) h.3)
  ];
}

-- ---- repeats

-- { a } is a { a }, or nothing
abbrev a_and_others : {T V : Type 0} → Part T V → V → Part T (List V)
a_and_others a v = then (repeated a) (λ vs. give (v ∷ vs))

abbrev unrolled : {T V : Type 0} → Part T V → Part T (List V)
unrolled a = or (then a (a_and_others a)) (give [])

unroll : {T V : Type 0} (a : Part T V) (ts r : List T) (vs : List V) → Repeats (Spells a) ts r vs → Spells (unrolled a) ts r vs
unroll a ts r vs no_repeat = inr (refl, refl)
unroll a ts r vs (one_more {mid = mid} {v = w} {vs = ws} s t) = inl (mid, w, s, (r, ws, t, (refl, refl)))

roll : {T V : Type 0} (a : Part T V) (ts r : List T) (vs : List V) → Spells (unrolled a) ts r vs → Repeats (Spells a) ts r vs
roll {T} {V} a ts r vs (inl (mid, w, s, (end, ws, t, (e, d)))) =
    let P : List T → List V → Type 0 = λ x us. Repeats (Spells a) ts x us in
    subst (λ (us : List V). P r us) (sym d) (subst (λ (x : List T). P x (w ∷ ws)) e (one_more s t))
roll {T} {V} a ts r vs (inr (e, d)) =
    let P : List T → List V → Type 0 = λ x us. Repeats (Spells a) ts x us in
    subst (λ (us : List V). P r us) (sym d) (subst (λ (x : List T). P x []) e no_repeat)

unroll_begins : {T V : Type 0} (a : Part T V) (ts mid r : List T) (vs : List V) → Repeats (Spells a) ts mid vs → Begins a mid r → Begins (unrolled a) ts r
unroll_begins a ts mid r vs no_repeat b = inl (inl b)
unroll_begins a ts mid r vs (one_more {mid = m} {v = w} {vs = ws} s t) b = inl (inr (m, w, s, inl (mid, ws, t, b)))

roll_begins : {T V : Type 0} (a : Part T V) (ts r : List T) → Begins (unrolled a) ts r → Begins (repeated a) ts r
roll_begins a ts r (inl (inl b)) = (ts, [], no_repeat, b)
roll_begins a ts r (inl (inr (m, w, s, inl (mid, ws, t, b)))) = (mid, w ∷ ws, one_more s t, b)
roll_begins a ts r (inl (inr (m, w, s, inr (mid, ws, t, e)))) = (mid, w ∷ ws, one_more s t, subst (λ x. Begins a mid x) e (nothing_begins a mid))
roll_begins a ts r (inr e) = (ts, [], no_repeat, subst (λ x. Begins a ts x) e (nothing_begins a ts))

unroll_marks : {T V : Type 0} (a : Part T V) (ts mid r : List T) (vs : List V) → Repeats (Spells a) ts mid vs → Marks a mid r → Marks (unrolled a) ts r
unroll_marks a ts mid r vs no_repeat b = inl (inl b)
unroll_marks a ts mid r vs (one_more {mid = m} {v = w} {vs = ws} s t) b = inl (inr (m, w, s, inl (mid, ws, t, b)))

roll_marks : {T V : Type 0} (a : Part T V) (ts r : List T) → Marks (unrolled a) ts r → Marks (repeated a) ts r
roll_marks a ts r (inl (inl b)) = (ts, [], no_repeat, b)
roll_marks a ts r (inl (inr (m, w, s, inl (mid, ws, t, b)))) = (mid, w ∷ ws, one_more s t, b)
roll_marks a ts r (inl (inr (m, w, s, inr (mid, ws, t, e)))) = absurd e
roll_marks a ts r (inr e) = absurd e

unrolled_same : {T V : Type 0} (a : Part T V) (ts : List T) → Same (unrolled a) (repeated a) ts
unrolled_same a ts = record {
  to = record {
    spells = roll a ts;
    begins = roll_begins a ts;
    marks = roll_marks a ts;
  };
  from = record {
    spells = unroll a ts;
    begins = λ r h. unroll_begins a ts h.0 r h.1 h.2 h.3;
    marks = λ r h. unroll_marks a ts h.0 r h.1 h.2 h.3;
  };
}

-- What a part owes to be repeated: it begins with the tokens that pass the test and takes one at least, and
-- no token with which it may go on is one of these.
pub record Repeatable {T V : Type 0} (a : Part T V) (test more_a more : T → Bool) (item : List T → Answer T V) : Type 0 where
  pub reads : (ts : List T) → starts test ts ≡ true → Reads a more_a ts (item ts)
  pub blocked : (ts : List T) → starts test ts ≡ false → Blocked a ts
  pub takes : (ts r : List T) (v : V) → Spells a ts r v → length r < length ts
  pub ends : (t : T) → more_a t ≡ true → test t ≡ false
  pub more_ends : (t : T) → more_a t ≡ true → more t ≡ true
  pub more_goes_on : (t : T) → test t ≡ true → more t ≡ true

pub repeated_apart : {T V : Type 0} (a : Part T V) (more : T → Bool) (ts : List T) → Blocked a ts → Goes more ts → Apart (repeated a) more ts
repeated_apart {T} {V} a more ts h g =
    within_along (unrolled a) (repeated a) more ts ts (unrolled_same a ts)
    (or_apart _ _ more ts ts (then_blocked a (a_and_others a) more ts h) (give_apart {V = List V} [] more ts g))

module _ {T V : Type 0} (a : Part T V) (test more_a more : T → Bool) (item : List T → Answer T V) (ok : Repeatable a test more_a more item) where
  others_apart : (v : V) (mid : List T) → Goes more_a mid → Apart (a_and_others a v) more mid
  others_apart v mid g =
      then_apart (repeated a) (λ vs. give (v ∷ vs)) more more mid
      (repeated_apart a more mid (ok.blocked mid (parted more_a test ok.ends mid g)) (widened more_a more ok.more_ends mid g))
      (λ vs h. give_apart (v ∷ vs) more mid h)

  at_most_reads : (n : ℕ) (ts : List T) → length ts ≤ n → Reads (repeated a) more ts (at_most n test item ts)
  at_most_reads zero [] le =
      reads_along (unrolled a) (repeated a) more [] _ (unrolled_same a [])
      (or_second (then a (a_and_others a)) (give []) more [] _ (then_blocked a (a_and_others a) more [] (ok.blocked [] refl)) (give_reads [] more []))
  at_most_reads zero (t ∷ ts) le = absurd (omega arith)
  at_most_reads (suc n) ts le =
      reads_along (unrolled a) (repeated a) more ts _ (unrolled_same a ts)
      (or_by test (then a (a_and_others a)) (give []) more ts _ _
      (λ e. (
        then_reads a (a_and_others a) more_a more ts (item ts) (λ x. at_most n test item x.1 >>= λ xs. Ok (x.0 ∷ xs.0, xs.1))
            (ok.reads ts e)
            (λ v mid s. then_give (repeated a) (λ vs. v ∷ vs) more mid _ (at_most_reads n mid (omega (arith, ok.takes ts mid v s))))
            others_apart,
        give_apart [] more ts (widened test more ok.more_goes_on ts e),
      ))
      (λ e. (then_blocked a (a_and_others a) more ts (ok.blocked ts e), give_reads [] more ts)))

  pub repeated_reads : (ts : List T) → Reads (repeated a) more ts (many_at test item ts)
  repeated_reads ts = at_most_reads (length ts) ts (omega arith)

-- repeats whose values have no effect
pub skip_repeated_reads : {T V : Type 0} (a : Part T V) (test more_a more : T → Bool) (item : List T → Answer T V) → Repeatable a test more_a more item → (ts : List T) → Reads (skip (repeated a)) more ts (skip_many_at test item ts)
skip_repeated_reads a test more_a more item ok ts = then_give (repeated a) (λ _. tt) more ts _ (repeated_reads a test more_a more item ok ts)

pub skip_repeated_apart : {T V : Type 0} (a : Part T V) (more : T → Bool) (ts : List T) → Blocked a ts → Goes more ts → Apart (skip (repeated a)) more ts
skip_repeated_apart {T} a more ts h g = then_apart (repeated a) (λ _. give tt) more more ts (repeated_apart a more ts h g) (λ vs k. give_apart tt more ts k)

-- ---- parts behind a separator

-- What a part owes: the separator is none of the tokens with which it may go on.
pub record Separable {T A B : Type 0} (a : Part T A) (sep : T → Option B) (more_a more : T → Bool) (item : List T → Answer T A) : Type 0 where
  pub reads : (ts : List T) → Reads a more_a ts (item ts)
  pub ends : (t : T) → more_a t ≡ true → is_some (sep t) ≡ false
  pub more_ends : (t : T) → more_a t ≡ true → more t ≡ true
  pub more_goes_on : (t : T) → is_some (sep t) ≡ true → more t ≡ true

module _ {T A B : Type 0} (a : Part T A) (sep : T → Option B) (more_a more : T → Bool) (item : List T → Answer T A) (ok : Separable a sep more_a more item) where
  pub behind_repeatable : Repeatable (then (token sep) (λ _. a)) (λ t. is_some (sep t)) more_a more (behind_at sep item)
  behind_repeatable = record {
    reads = λ ts g. token_then sep (λ _. a) more_a ts (λ c. item c.1) (λ x mid. ok.reads mid);
    blocked = λ ts e. token_then_blocked sep (λ _. a) no ts e;
    takes = token_takes sep (λ _. a);
    ends = ok.ends;
    more_ends = ok.more_ends;
    more_goes_on = ok.more_goes_on;
  }

  pub separated_reads : (ts : List T) → Reads (separated_by a (token sep)) more ts (separated_at (λ t. is_some (sep t)) item (behind_at sep item) ts)
  separated_reads ts =
      let behind : Part T A = then (token sep) (λ _. a) in
      then_reads a (λ x. then (repeated behind) (λ xs. give (x ∷ xs))) more_a more ts (item ts) (λ x. many_at (λ t. is_some (sep t)) (behind_at sep item) x.1 >>= λ xs. Ok (x.0 ∷ xs.0, xs.1))
      (ok.reads ts)
      (λ x mid s. then_give (repeated behind) (λ xs. x ∷ xs) more mid _ (repeated_reads behind (λ t. is_some (sep t)) more_a more (behind_at sep item) behind_repeatable mid))
      (λ x mid g. others_apart behind (λ t. is_some (sep t)) more_a more (behind_at sep item) behind_repeatable x mid g)

-- a token that is repeated
pub token_repeatable : {T V : Type 0} (f : T → Option V) → Repeatable (token f) (λ t. is_some (f t)) no (λ t. is_some (f t)) (token_at f)
token_repeatable f = record {
  reads = λ ts e. token_reads f no ts;
  blocked = λ ts e. token_blocked f no ts e;
  takes = λ ts r v h. omega (arith, ap length h.1);
  ends = λ t g. absurd cc;
  more_ends = λ t g. absurd cc;
  more_goes_on = λ t e. e;
}
