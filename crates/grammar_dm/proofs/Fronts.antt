-- What holds of every part: what begins it, begins it however early it ends.
use Rattle.std.proofs.Common.{◌≡◌, ◌≤◌, List, [], ◌∷◌, length, Option, Some, None, refl, sym, ap, subst, arith, inl, inr, ◌⊎◌}
use Rattle.std.specs.Prelude.{IsSome}
use Rattle.grammar_dm.specs.Part.{Part, Repeats, Spells, Begins}
use Rattle.grammar_dm.specs.Part.Part.{token, give, then, or, optional, repeated, levels, marked}
use Rattle.grammar_dm.specs.Part.Repeats.{no_repeat, one_more}
use Rattle.grammar_dm.specs.Verdict.{Suffix, IsFirstFault, Stops}
use Rattle.grammar_dm.specs.Verdict.Suffix.{all_left, less_left}

-- ---- what is left of a list

pub suffix_length : {T : Type 0} {ts rest : List T} → Suffix ts rest → length rest ≤ length ts
suffix_length all_left = omega arith
suffix_length (less_left h) = omega (arith, suffix_length h)

pub suffix_whole : {T : Type 0} {ts rest : List T} → Suffix ts rest → length ts ≤ length rest → ts ≡ rest
suffix_whole all_left le = refl
suffix_whole (less_left h) le = absurd (omega (arith, suffix_length h))

pub suffix_trans : {T : Type 0} {ts mid rest : List T} → Suffix ts mid → Suffix mid rest → Suffix ts rest
suffix_trans all_left k = k
suffix_trans (less_left h) k = less_left (suffix_trans h k)

suffix_either : {T : Type 0} {ts a b : List T} → Suffix ts a → Suffix ts b → Suffix a b ⊎ Suffix b a
suffix_either all_left k = inl k
suffix_either (less_left h) all_left = inr (less_left h)
suffix_either (less_left h) (less_left k) = suffix_either h k

suffix_is : {T : Type 0} {ts rest : List T} → ts ≡ rest → Suffix ts rest
suffix_is {T} {ts} e = subst (λ (us : List T). Suffix ts us) e all_left

both_ways : {T : Type 0} {ts rest : List T} → Suffix ts rest → Suffix rest ts → ts ≡ rest
both_ways h k = suffix_whole h (suffix_length k)

-- ---- what is left behind a part

pub some_is : {V : Type 0} (o : Option V) (v : V) → o ≡ Some v → IsSome o
some_is (Some w) v e = refl
some_is None v e = absurd cc

behind_one : {T : Type 0} (ts : List T) (t : T) (rest : List T) → ts ≡ t ∷ rest → Suffix ts rest
behind_one {T} ts t rest e = subst (λ (us : List T). Suffix us rest) (sym e) (less_left all_left)

behind_repeats : {T V : Type 0} {Whole : List T → List T → V → Type 0} {ts rest : List T} {vs : List V}
    → Repeats Whole ts rest vs → ((ts rest : List T) (v : V) → Whole ts rest v → Suffix ts rest) → Suffix ts rest
behind_repeats no_repeat each = all_left
behind_repeats (one_more {ts = ts} {mid = mid} {v = v} h t) each = suffix_trans (each ts mid v h) (behind_repeats t each)

pub behind_whole : {T V : Type 0} (p : Part T V) (ts rest : List T) (v : V) → Spells p ts rest v → Suffix ts rest
behind_whole (token f) ts rest v h = behind_one ts h.0 rest h.1
behind_whole (give w) ts rest v h = suffix_is h.0
behind_whole (then a b) ts rest v h = suffix_trans (behind_whole a ts h.0 h.1 h.2) (behind_whole (b h.1) h.0 rest v h.3)
behind_whole (or a b) ts rest v (inl h) = behind_whole a ts rest v h
behind_whole (or a b) ts rest v (inr h) = behind_whole b ts rest v h
behind_whole (optional a) ts rest v (inl h) = behind_whole a ts rest h.0 h.1
behind_whole (optional a) ts rest v (inr h) = suffix_is h.0
behind_whole (repeated a) ts rest v h = behind_repeats h (behind_whole a)
behind_whole (levels p) ts rest v h = behind_whole (p h.0) ts rest v h.1
behind_whole (marked a) ts rest v h = behind_whole a ts rest v h

pub behind_begun : {T V : Type 0} (p : Part T V) (ts rest : List T) → Begins p ts rest → Suffix ts rest
behind_begun (token f) ts rest (inl e) = suffix_is e
behind_begun (token f) ts rest (inr h) = behind_one ts h.0 rest h.1
behind_begun (give w) ts rest h = suffix_is h
behind_begun (then a b) ts rest (inl h) = behind_begun a ts rest h
behind_begun (then a b) ts rest (inr h) = suffix_trans (behind_whole a ts h.0 h.1 h.2) (behind_begun (b h.1) h.0 rest h.3)
behind_begun (or a b) ts rest (inl h) = behind_begun a ts rest h
behind_begun (or a b) ts rest (inr h) = behind_begun b ts rest h
behind_begun (optional a) ts rest h = behind_begun a ts rest h
behind_begun (repeated a) ts rest h = suffix_trans (behind_repeats h.2 (behind_whole a)) (behind_begun a h.0 rest h.3)
behind_begun (levels p) ts rest h = behind_begun (p h.0) ts rest h.1
behind_begun (marked a) ts rest h = behind_begun a ts rest h

-- ---- what begins a part

-- no token begins every part
pub nothing_begins : {T V : Type 0} (p : Part T V) (ts : List T) → Begins p ts ts
nothing_begins (token f) ts = inl refl
nothing_begins (give w) ts = refl
nothing_begins (then a b) ts = inl (nothing_begins a ts)
nothing_begins (or a b) ts = inl (nothing_begins a ts)
nothing_begins (optional a) ts = nothing_begins a ts
nothing_begins (repeated a) ts = (ts, [], no_repeat, nothing_begins a ts)
nothing_begins (levels p) ts = (0, nothing_begins (p 0) ts)
nothing_begins (marked a) ts = nothing_begins a ts

-- all tokens of a whole part begin it
pub whole_begins : {T V : Type 0} (p : Part T V) (ts rest : List T) (v : V) → Spells p ts rest v → Begins p ts rest
whole_begins (token f) ts rest v h = inr (h.0, h.1, some_is (f h.0) v h.2)
whole_begins (give w) ts rest v h = h.0
whole_begins (then a b) ts rest v h = inr (h.0, h.1, h.2, whole_begins (b h.1) h.0 rest v h.3)
whole_begins (or a b) ts rest v (inl h) = inl (whole_begins a ts rest v h)
whole_begins (or a b) ts rest v (inr h) = inr (whole_begins b ts rest v h)
whole_begins (optional a) ts rest v (inl h) = whole_begins a ts rest h.0 h.1
whole_begins (optional a) ts rest v (inr h) = subst (λ us. Begins a ts us) h.0 (nothing_begins a ts)
whole_begins (repeated a) ts rest v h = (rest, v, h, nothing_begins a rest)
whole_begins (levels p) ts rest v h = (h.0, whole_begins (p h.0) ts rest v h.1)
whole_begins (marked a) ts rest v h = whole_begins a ts rest v h

one_between : {T V : Type 0} (f : T → Option V) (t : T) (rest mid : List T) → IsSome (f t) → Suffix (t ∷ rest) mid → Suffix mid rest → Begins (token f) (t ∷ rest) mid
one_between f t rest mid is all_left k = inl refl
one_between {T} f t rest mid is (less_left h) k = inr (t, ap (λ (us : List T). t ∷ us) (both_ways h k), is)

repeats_between : {T V : Type 0} (a : Part T V) {ts end : List T} {vs : List V} → Repeats (Spells a) ts end vs
    → ((ts mid rest : List T) → Begins a ts rest → Suffix ts mid → Suffix mid rest → Begins a ts mid)
    → (mid rest : List T) → Begins a end rest → Suffix ts mid → Suffix mid rest → Begins (repeated a) ts mid
repeats_between a (no_repeat {ts = ts}) each mid rest b h k = (ts, [], no_repeat, each ts mid rest b h k)
repeats_between a (one_more {ts = ts} {mid = next} {v = v} s t) each mid rest b h k =
    elim (suffix_either h (behind_whole a ts next v s)) [
      | inl before ↦ (ts, [], no_repeat, each ts mid next (whole_begins a ts next v s) h before)
      | inr behind ↦ let x = repeats_between a t each mid rest b behind k in (x.0, v ∷ x.1, one_more s x.2, x.3)
    ]

-- What begins a part, begins it however early it ends.
pub less_begins : {T V : Type 0} (p : Part T V) (ts mid rest : List T) → Begins p ts rest → Suffix ts mid → Suffix mid rest → Begins p ts mid
less_begins (token f) ts mid rest (inl e) h k = inl (both_ways h (subst (λ us. Suffix mid us) (sym e) k))
less_begins (token f) ts mid rest (inr x) h k = subst (λ us. Begins (token f) us mid) (sym x.1) (one_between f x.0 rest mid x.2 (subst (λ us. Suffix us mid) x.1 h) k)
less_begins (give w) ts mid rest e h k = both_ways h (subst (λ us. Suffix mid us) (sym e) k)
less_begins (then a b) ts mid rest (inl x) h k = inl (less_begins a ts mid rest x h k)
less_begins (then a b) ts mid rest (inr x) h k =
    elim (suffix_either h (behind_whole a ts x.0 x.1 x.2)) [
      | inl before ↦ inl (less_begins a ts mid x.0 (whole_begins a ts x.0 x.1 x.2) h before)
      | inr behind ↦ inr (x.0, x.1, x.2, less_begins (b x.1) x.0 mid rest x.3 behind k)
    ]
less_begins (or a b) ts mid rest (inl x) h k = inl (less_begins a ts mid rest x h k)
less_begins (or a b) ts mid rest (inr x) h k = inr (less_begins b ts mid rest x h k)
less_begins (optional a) ts mid rest x h k = less_begins a ts mid rest x h k
less_begins (repeated a) ts mid rest x h k = repeats_between a x.2 (less_begins a) mid rest x.3 h k
less_begins (levels p) ts mid rest x h k = (x.0, less_begins (p x.0) ts mid rest x.1 h k)
less_begins (marked a) ts mid rest x h k = less_begins a ts mid rest x h k

-- ---- the first fault is one

stops_once : {T V : Type 0} (part : Part T V) (ts a b : List T) → Stops part ts a → ((mid : List T) → Suffix ts mid → Suffix mid b → Begins part ts mid) → Suffix ts a → Suffix a b → a ≡ b
stops_once part ts [] [] stop fits sa h = refl
stops_once part ts [] (t ∷ b) stop fits sa h = absurd (omega (arith, suffix_length h))
stops_once part ts (t ∷ a) b stop fits sa all_left = refl
stops_once part ts (t ∷ a) b stop fits sa (less_left h) = absurd (stop (fits a (suffix_trans sa (less_left all_left)) h))

-- A list of tokens has one first fault at most.
pub one_fault : {T V : Type 0} (part : Part T V) (ts a b : List T) → IsFirstFault part ts a → IsFirstFault part ts b → a ≡ b
one_fault part ts a b p q =
    elim (suffix_either p.is_rest q.is_rest) [
      | inl h ↦ stops_once part ts a b p.stops q.begins p.is_rest h
      | inr h ↦ sym (stops_once part ts b a q.stops p.begins q.is_rest h)
    ]
