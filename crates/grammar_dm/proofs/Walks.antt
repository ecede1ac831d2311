-- A loop over repeats. Its invariant is a Walk: what was read so far, and that what is still read makes the
-- whole. The rules of `walks` are its steps.
use Rattle.std.proofs.Common.{◌≡◌, ℕ, zero, suc, ◌≤◌, ◌<◌, Bool, true, false, List, [], ◌∷◌, ◌++◌, length, Result, Ok, Err, refl, sym, ap, subst, ◌∙◌, arith, append_assoc}
use Rattle.std.proofs.lemmas.List.{append-nil}
use Rattle.grammar_dm.specs.Part.{Part}
use Rattle.grammar_dm.specs.Verdict.{Fault, Judges}
use Rattle.grammar_dm.specs.Reading.{Answer, ◌>>=◌, starts, at_most, many_at, separated_at, through, skip_many_at, all_of}
use Rattle.grammar_dm.specs.declared.read_error.ReadError.{ReadError}
use Rattle.grammar_dm.specs.declared.read_error.ReadError.TheVariants.{Memory, At}
use Rattle.grammar_dm.specs.Exits.{Fails, Gives, IsJudged}
use Rattle.grammar_dm.proofs.Laws.{Stands, Reads, judges}
use Rattle.grammar_dm.proofs.Choices.{Repeatable}

-- each repeat takes a token
abbrev pub IsStrict : {T V : Type 0} → (T → Bool) → (List T → Answer T V) → Type 0
IsStrict {T} {V} test item = (ts after : List T) (v : V) → starts test ts ≡ true → item ts ≡ Ok (v, after) → length after < length ts

pub is_strict : {T V : Type 0} (a : Part T V) (test more_a more : T → Bool) (item : List T → Answer T V) → Repeatable a test more_a more item → IsStrict test item
is_strict {T} {V} a test more_a more item ok ts after v g e =
    ok.takes ts after v (subst (λ (r : Answer T V). Stands a ts r) e (ok.reads ts g).stands)

-- what is read of the front, and what is read behind it
pub record Walk {T V W : Type 0} (test : T → Bool) (item : List T → Answer T V) (make : List V → W) (front : List V) (rest : List T) (total : Answer T W) : Type 0 where
  pub strict : IsStrict test item
  pub so_far : through (λ xs. make (front ++ xs)) (many_at test item rest) ≡ total

-- ---- one repeat more

turns : {T V : Type 0} (test : T → Bool) (item : List T → Answer T V) (m n : ℕ) (ts : List T) (b : Bool) (r : Answer T V) → item ts ≡ r
    → ((after : List T) (v : V) → b ≡ true → r ≡ Ok (v, after) → at_most m test item after ≡ at_most n test item after)
    → ◌≡◌ {A = Answer T (List V)} (elim b [ true ↦ (r >>= λ x. at_most m test item x.1 >>= λ xs. Ok (x.0 ∷ xs.0, xs.1)) | false ↦ Ok ([], ts) ])
    (elim b [ true ↦ (r >>= λ x. at_most n test item x.1 >>= λ xs. Ok (x.0 ∷ xs.0, xs.1)) | false ↦ Ok ([], ts) ])
turns test item m n ts false r e same = refl
turns test item m n ts true (Err fault) e same = refl
turns {T} {V} test item m n ts true (Ok x) e same =
    ap (λ (read : Answer T (List V)). read >>= λ xs. Ok (x.0 ∷ xs.0, xs.1)) (same x.1 x.0 refl refl)

-- any bound that suffices gives the same
enough : {T V : Type 0} (test : T → Bool) (item : List T → Answer T V) → IsStrict test item → (m n : ℕ) (ts : List T) → length ts ≤ m → length ts ≤ n → at_most m test item ts ≡ at_most n test item ts
enough test item strict zero zero ts p q = refl
enough test item strict zero (suc n) [] p q = refl
enough test item strict zero (suc n) (t ∷ ts) p q = absurd (omega arith)
enough test item strict (suc m) zero [] p q = refl
enough test item strict (suc m) zero (t ∷ ts) p q = absurd (omega arith)
enough test item strict (suc m) (suc n) ts p q =
    turns test item m n ts (starts test ts) (item ts) refl (λ after v g e. enough test item strict m n after (omega (arith, strict ts after v g e)) (omega (arith, strict ts after v g e)))

by_first : {T V : Type 0} (read : Answer T V) (b c : Bool) (f : V × List T → Answer T (List V)) (other answer : Answer T (List V)) → b ≡ c
    → elim c [ true ↦ (read >>= f) | false ↦ other ] ≡ answer → elim b [ true ↦ (read >>= f) | false ↦ other ] ≡ answer
by_first {T} {V} read b c f other answer e h = subst (λ x. ◌≡◌ {A = Answer T (List V)} (elim x [ true ↦ (read >>= f) | false ↦ other ]) answer) (sym e) h

abbrev others : {T V : Type 0} → (T → Bool) → (List T → Answer T V) → ℕ → V × List T → Answer T (List V)
others test item n x = at_most n test item x.1 >>= λ xs. Ok (x.0 ∷ xs.0, xs.1)

many_one : {T V : Type 0} (test : T → Bool) (item : List T → Answer T V) → IsStrict test item → (ts after : List T) (v : V) → starts test ts ≡ true → item ts ≡ Ok (v, after)
    → many_at test item ts ≡ (many_at test item after >>= λ xs. Ok (v ∷ xs.0, xs.1))
many_one test item strict [] after v g e = absurd cc
many_one {T} {V} test item strict (t ∷ ts) after v g e =
    let lt : length after < suc (length ts) = strict (t ∷ ts) after v g e in
    let f : V × List T → Answer T (List V) = others test item (length ts) in
    let rest : at_most (length ts) test item after ≡ many_at test item after = enough test item strict (length ts) (length after) after (omega arith) (omega arith) in
    by_first (item (t ∷ ts)) (test t) true f (Ok ([], t ∷ ts)) _ g
    (ap (λ (read : Answer T V). read >>= f) e ∙ ap (λ (read : Answer T (List V)). read >>= λ xs. Ok (v ∷ xs.0, xs.1)) rest)

many_none : {T V : Type 0} (test : T → Bool) (item : List T → Answer T V) (ts : List T) → starts test ts ≡ false → many_at test item ts ≡ Ok ([], ts)
many_none test item [] g = refl
many_none test item (t ∷ ts) g = by_first (item (t ∷ ts)) (test t) false (others test item (length ts)) (Ok ([], t ∷ ts)) _ g refl

many_fault : {T V : Type 0} (test : T → Bool) (item : List T → Answer T V) (ts : List T) (fault : Fault T) → starts test ts ≡ true → item ts ≡ Err fault → many_at test item ts ≡ Err fault
many_fault test item [] fault g e = absurd cc
many_fault {T} {V} test item (t ∷ ts) fault g e =
    let f : V × List T → Answer T (List V) = others test item (length ts) in
    by_first (item (t ∷ ts)) (test t) true f (Ok ([], t ∷ ts)) _ g (ap (λ (read : Answer T V). read >>= f) e)

abbrev read_as : {T W : Type 0} → W → List T → Answer T W
read_as v ts = Ok (v, ts)

regroup : {T V W : Type 0} (g g' : List V → W) (v : V) → ((xs : List V) → g (v ∷ xs) ≡ g' xs) → (read : Answer T (List V)) → through g (read >>= λ xs. Ok (v ∷ xs.0, xs.1)) ≡ through g' read
regroup {T} {V} {W} g g' v h (Ok x) = ap (λ (y : W). read_as y x.1) (h x.0)
regroup g g' v h (Err fault) = refl

pushed : {V W : Type 0} (make : List V → W) (front new : List V) (v : V) (xs : List V) → new ≡ front ++ v ∷ [] → make (front ++ (v ∷ xs)) ≡ make (new ++ xs)
pushed make front new v xs e = ap make (sym (append_assoc front (v ∷ []) xs) ∙ ap (λ us. us ++ xs) (sym e))

-- ---- the steps

module _ {T V W : Type 0} (test : T → Bool) (item : List T → Answer T V) (make : List V → W) where
  pub walk_on : (front new : List V) (rest after : List T) (v : V) (total : Answer T W)
      → Walk test item make front rest total → starts test rest ≡ true → item rest ≡ Ok (v, after) → new ≡ front ++ v ∷ [] → Walk test item make new after total
  walk_on front new rest after v total w s e made = record {
    strict = w.strict;
    so_far =
        sym (ap (λ (read : Answer T (List V)). through (λ xs. make (front ++ xs)) read) (many_one test item w.strict rest after v s e)
        ∙ regroup (λ xs. make (front ++ xs)) (λ xs. make (new ++ xs)) v (λ xs. pushed make front new v xs made) (many_at test item after)) ∙ w.so_far;
  }

  pub walk_less : (front : List V) (rest after : List T) (v : V) (total : Answer T W)
      → Walk test item make front rest total → starts test rest ≡ true → item rest ≡ Ok (v, after) → length after < length rest
  walk_less front rest after v total w s e = w.strict rest after v s e

  pub walk_stops : (front : List V) (rest : List T) (total : Answer T W) → Walk test item make front rest total → starts test rest ≡ false → total ≡ Ok (make front, rest)
  walk_stops front rest total w s =
      sym w.so_far ∙ ap (λ (read : Answer T (List V)). through (λ xs. make (front ++ xs)) read) (many_none test item rest s) ∙ ap (λ vs. read_as (make vs) rest) (append-nil front)

  pub walk_fails : (front : List V) (rest : List T) (total : Answer T W) (e : ReadError T) → Walk test item make front rest total → starts test rest ≡ true → Fails e (item rest) → Fails e total
  walk_fails front rest total Memory w s h = tt
  walk_fails front rest total (At at marked) w s h =
      sym w.so_far ∙ ap (λ (read : Answer T (List V)). through (λ xs. make (front ++ xs)) read) (many_fault test item rest _ s h)

pub ruleset walks = (walk_on, walk_less, walk_stops, walk_fails)

-- ---- before the first repeat

nothing_more : {T V : Type 0} (read : Answer T (List V)) → through (λ xs. [] ++ xs) read ≡ read
nothing_more (Ok x) = refl
nothing_more (Err fault) = refl

pub walk_begins : {T V : Type 0} (test : T → Bool) (item : List T → Answer T V) (none : List V) (rest : List T) → IsStrict test item → none ≡ [] → Walk test item (λ xs. xs) none rest (many_at test item rest)
walk_begins {T} {V} test item none rest strict e = record {
  strict = strict;
  so_far = ap (λ (front : List V). through (λ xs. front ++ xs) (many_at test item rest)) e ∙ nothing_more (many_at test item rest);
}

-- behind a first part, and making something of them all
pub walk_behind : {T V W : Type 0} (test : T → Bool) (item behind : List T → Answer T V) (make : List V → W) (tokens rest : List T) (v : V) (none new : List V)
    → IsStrict test behind → item tokens ≡ Ok (v, rest) → none ≡ [] → new ≡ none ++ v ∷ [] → Walk test behind make new rest (through make (separated_at test item behind tokens))
walk_behind {T} {V} {W} test item behind make tokens rest v none new strict read empty made = record {
  strict = strict;
  so_far =
      ap (λ (front : List V). through (λ xs. make (front ++ xs)) (many_at test behind rest)) (made ∙ ap (λ us. us ++ v ∷ []) empty)
      ∙ sym (made_of (many_at test behind rest))
      ∙ sym (ap (λ (r : Answer T V). through make (r >>= λ x. through (λ xs. x.0 ∷ xs) (many_at test behind x.1))) read);
}
  where
    made_of : (r : Answer T (List V)) → through make (through (λ xs. v ∷ xs) r) ≡ through (λ xs. make (v ∷ xs)) r
    made_of (Ok x) = refl
    made_of (Err fault) = refl

pub walk_separated : {T V : Type 0} (test : T → Bool) (item behind : List T → Answer T V) (tokens rest : List T) (v : V) (none new : List V)
    → IsStrict test behind → item tokens ≡ Ok (v, rest) → none ≡ [] → new ≡ none ++ v ∷ [] → Walk test behind (λ xs. xs) new rest (separated_at test item behind tokens)
walk_separated {T} {V} test item behind tokens rest v none new strict read empty made = record {
  strict = strict;
  so_far =
      ap (λ (front : List V). through (λ xs. front ++ xs) (many_at test behind rest)) (made ∙ ap (λ us. us ++ v ∷ []) empty)
      ∙ sym (ap (λ (r : Answer T V). r >>= λ x. through (λ xs. x.0 ∷ xs) (many_at test behind x.1)) read);
}

-- ---- repeats that are kept as they are

pub record ListWalk {T V : Type 0} (test : T → Bool) (item : List T → Answer T V) (front : List V) (rest : List T) (total : Answer T (List V)) : Type 0 where
  pub walk : Walk test item (λ xs. xs) front rest total

module _ {T V : Type 0} (test : T → Bool) (item : List T → Answer T V) where
  pub list_on : (front new : List V) (rest after : List T) (v : V) (total : Answer T (List V))
      → ListWalk test item front rest total → starts test rest ≡ true → item rest ≡ Ok (v, after) → new ≡ front ++ v ∷ [] → ListWalk test item new after total
  list_on front new rest after v total w s e made = record { walk = walk_on test item (λ xs. xs) front new rest after v total w.walk s e made }

  pub list_less : (front : List V) (rest after : List T) (v : V) (total : Answer T (List V))
      → ListWalk test item front rest total → starts test rest ≡ true → item rest ≡ Ok (v, after) → length after < length rest
  list_less front rest after v total w s e = walk_less test item (λ xs. xs) front rest after v total w.walk s e

  pub list_stops : (front : List V) (rest : List T) (total : Answer T (List V)) → ListWalk test item front rest total → starts test rest ≡ false → total ≡ Ok (front, rest)
  list_stops front rest total w s = walk_stops test item (λ xs. xs) front rest total w.walk s

  pub list_fails : (front : List V) (rest : List T) (total : Answer T (List V)) (e : ReadError T) → ListWalk test item front rest total → starts test rest ≡ true → Fails e (item rest) → Fails e total
  list_fails front rest total e w s h = walk_fails test item (λ xs. xs) front rest total e w.walk s h

pub ruleset lists = (list_on, list_less, list_stops, list_fails)

pub list_begins : {T V : Type 0} (test : T → Bool) (item : List T → Answer T V) (none : List V) (rest : List T) → IsStrict test item → none ≡ [] → ListWalk test item none rest (many_at test item rest)
list_begins test item none rest strict e = record { walk = walk_begins test item none rest strict e }

pub list_behind : {T V : Type 0} (test : T → Bool) (item behind : List T → Answer T V) (tokens rest : List T) (v : V) (none new : List V)
    → IsStrict test behind → item tokens ≡ Ok (v, rest) → none ≡ [] → new ≡ none ++ v ∷ [] → ListWalk test behind new rest (separated_at test item behind tokens)
list_behind test item behind tokens rest v none new strict read empty made = record { walk = walk_separated test item behind tokens rest v none new strict read empty made }

-- ---- repeats whose values have no effect

pub record SkipWalk {T V : Type 0} (test : T → Bool) (item : List T → Answer T V) (rest : List T) (total : Answer T (Unit {0})) : Type 0 where
  pub walk : Walk test item (λ _. tt) [] rest total

module _ {T V : Type 0} (test : T → Bool) (item : List T → Answer T V) where
  pub skip_on : (rest after : List T) (v : V) (total : Answer T (Unit {0}))
      → SkipWalk test item rest total → starts test rest ≡ true → item rest ≡ Ok (v, after) → SkipWalk test item after total
  skip_on rest after v total w s e =
      let next = walk_on test item (λ _. tt) [] (v ∷ []) rest after v total w.walk s e refl in
      record { walk = record { strict = next.strict; so_far = next.so_far } }

  pub skip_less : (rest after : List T) (v : V) (total : Answer T (Unit {0}))
      → SkipWalk test item rest total → starts test rest ≡ true → item rest ≡ Ok (v, after) → length after < length rest
  skip_less rest after v total w s e = walk_less test item (λ _. tt) [] rest after v total w.walk s e

  pub skip_stops : (rest : List T) (total : Answer T (Unit {0})) → SkipWalk test item rest total → starts test rest ≡ false → total ≡ Ok (tt, rest)
  skip_stops rest total w s = walk_stops test item (λ _. tt) [] rest total w.walk s

  pub skip_fails : (rest : List T) (total : Answer T (Unit {0})) (e : ReadError T) → SkipWalk test item rest total → starts test rest ≡ true → Fails e (item rest) → Fails e total
  skip_fails rest total e w s h = walk_fails test item (λ _. tt) [] rest total e w.walk s h

pub ruleset skips = (skip_on, skip_less, skip_stops, skip_fails)

pub skip_begins : {T V : Type 0} (test : T → Bool) (item : List T → Answer T V) (rest : List T) → IsStrict test item → SkipWalk test item rest (skip_many_at test item rest)
skip_begins test item rest strict = record { walk = record { strict = strict; so_far = refl } }

-- ---- all tokens

-- What a function gave that reads all tokens is the verdict.
pub is_judged : {T V : Type 0} (part : Part T V) (more : T → Bool) (ts : List T) (answer : Answer T V) (result : Result V (ReadError T))
    → Reads part more ts answer → Gives (λ x. x) result (all_of answer) → IsJudged part ts result
is_judged {T} {V} part more ts answer (Ok v) h e = subst (λ (r : Result V (Fault T)). Judges part ts r) e (judges part more ts answer h)
is_judged part more ts answer (Err Memory) h e = tt
is_judged {T} {V} part more ts answer (Err (At at marked)) h e = subst (λ (r : Result V (Fault T)). Judges part ts r) e (judges part more ts answer h)
