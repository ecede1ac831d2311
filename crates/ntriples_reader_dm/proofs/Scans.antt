-- Scans that stop at a set of bytes.
use Rattle.std.proofs.Common.{◌≡◌, ◌∙◌, ℕ, zero, suc, ◌-◌, ◌<◌, ◌≤◌, List, [], ◌∷◌, ◌++◌, length, take, drop, get_or, Bool, true, false, Option, Some, None, refl, sym, ap, subst, arith, inl, inr, ltb, append_assoc, length-drop, length-take}
use Rattle.std.specs.Prelude.{◌==◌, ◌&&◌, not, if◌then◌else◌, chars, encode_utf8_all, IsUtf8, IsCharBoundary}
use Rattle.std.specs.Char.{encode_utf8}
use Rattle.std.specs.List.{list_all, position, position_or_len}
use Rattle.std.proofs.lemmas.Bool.{eqb-true, eq-eqb, cases_Bool, ltb-false}
use Rattle.std.proofs.lemmas.List.{take-append-drop, append-nil}
use Rattle.std.proofs.lemmas.List.Quantifiers.{position-Some}
use Rattle.std.proofs.lemmas.List.Sums.{fails_before_first}
use Rattle.std.proofs.lemmas.Str.{encodes-chars, chars-append, encode_ascii, char_from_byte, IsCharBoundary-before_ascii, IsUtf8-take, IsUtf8-drop}
use Rattle.std.proofs.lemmas.Bool.Decides.{nat_tests}
use Rattle.names_dm.specs.Terminals.{is_forbidden}
use Rattle.ntriples_dm.specs.Written.{is_escaped}
use Rattle.lanes_dm.specs.ByteSet.{has_byte}
use Rattle.ntriples_reader_dm.specs.declared.classes.Kind.{Kind}
use Rattle.ntriples_reader_dm.specs.declared.classes.Kind.TheVariants as kinds
use Rattle.ntriples_reader_dm.specs.Grammar.{iri_character, text_character}
use Rattle.ntriples_reader_dm.specs.Reading.{◌>>=◌, only, with_first, until_within, until_at, iri_one, text_one, number_behind}
use Rattle.ntriples_reader_dm.specs.declared.fault.LineFault.{LineFault}
use Rattle.ntriples_reader_dm.specs.declared.fault.LineFault.TheVariants.{Memory, Bad}
use Rattle.ntriples_reader_dm.specs.Views.{Fails, special, close_of, one_of, escape_of, before, NoneIn, FindsFirst}
use Rattle.ntriples_reader_dm.proofs.Exact.{Exact, Lacks, Takes, none_some, pair, true_false, both_of, until_step, until_enough}
use Rattle.ntriples_reader_dm.proofs.Labels.{all_behind}
use Rattle.ntriples_reader_dm.proofs.Readers.{iri_one_exact, iri_plain, iri_takes, iri_lacks, text_one_exact, text_plain, text_takes, text_lacks}

-- ---- bytes

pub none_by_place : (p : ℕ → Bool) (xs : List ℕ) → ((k : ℕ) → k < length xs → p (get_or xs k 0) ≡ false) → list_all (λ c. not (p c)) xs ≡ true
none_by_place p [] h = refl
none_by_place p (x ∷ xs) h = ap (λ b. not b && list_all (λ c. not (p c)) xs) (h 0 (omega arith)) ∙ none_by_place p xs (λ k below. h (suc k) (omega arith))

pub none_at : (p : ℕ → Bool) (xs : List ℕ) → position p xs ≡ None → (k : ℕ) → k < length xs → p (get_or xs k 0) ≡ false
none_at p xs e k below = elim (cases_Bool (ltb (position_or_len p xs) (length xs))) [
  | inl hit ↦ none_some (position_or_len p xs) (sym e ∙ ap (λ (b : Bool). if b then Some (position_or_len p xs) else None) hit)
  | inr miss ↦ let far = ltb-false (position_or_len p xs) (length xs) miss in fails_before_first p xs k 0 (omega arith)
]

abbrev pub IsAsciiTest : (ℕ → Bool) → Type 0
IsAsciiTest p = (b : ℕ) → p b ≡ true → b < 128

-- a text has no such character where it has no such byte
chars_lack : (p : ℕ → Bool) → IsAsciiTest p → (cs : List ℕ) → list_all (λ c. not (p c)) (encode_utf8_all cs) ≡ true → list_all (λ c. not (p c)) cs ≡ true
chars_lack p ascii [] e = refl
chars_lack p ascii (c ∷ cs) e = elim (cases_Bool (p c)) [
  | inl hit ↦
      let one : list_all (λ d. not (p d)) (c ∷ encode_utf8_all cs) ≡ true = sym (ap (λ (us : List ℕ). list_all (λ d. not (p d)) (us ++ encode_utf8_all cs)) (encode_ascii c (ascii c hit))) ∙ e in
      true_false (not (p c)) (both_of (not (p c)) (list_all (λ d. not (p d)) (encode_utf8_all cs)) one).0 (ap not hit)
  | inr miss ↦ ap (λ b. not b && list_all (λ d. not (p d)) cs) miss ∙ chars_lack p ascii cs (all_behind (λ d. not (p d)) (encode_utf8 c) (encode_utf8_all cs) e)
]

first_dropped : (bs : List ℕ) (p : ℕ) → get_or (drop p bs) 0 0 ≡ get_or bs p 0
first_dropped [] zero = refl
first_dropped [] (suc p) = refl
first_dropped (b ∷ bs) zero = refl
first_dropped (b ∷ bs) (suc p) = first_dropped bs p

pub found_place : (p : ℕ → Bool) → IsAsciiTest p → (bs : List ℕ) (i : ℕ) → position p bs ≡ Some i → IsCharBoundary bs i
found_place p ascii bs i e = let h = position-Some p bs i 0 e in IsCharBoundary-before_ascii bs i h.0 (ascii (get_or bs i 0) h.1)

taken_at : (bs : List ℕ) (p k : ℕ) → k < p → get_or (take p bs) k 0 ≡ get_or bs k 0
taken_at [] zero k h = refl
taken_at [] (suc p) k h = refl
taken_at (b ∷ bs) zero k h = absurd (omega arith)
taken_at (b ∷ bs) (suc p) zero h = refl
taken_at (b ∷ bs) (suc p) (suc k) h = taken_at bs p k (omega arith)

pub none_in_text : (class : List Bool) → IsAsciiTest (has_byte class) → (bs : List ℕ) → IsUtf8 bs → position (has_byte class) bs ≡ None → NoneIn class (chars bs)
none_in_text class ascii bs u e =
    chars_lack (has_byte class) ascii (chars bs) (ap (list_all (λ c. not (has_byte class c))) (encodes-chars bs u) ∙ none_by_place (has_byte class) bs (none_at (has_byte class) bs e))

pub found_first : (class : List Bool) → IsAsciiTest (has_byte class) → (bs : List ℕ) → IsUtf8 bs → (p : ℕ) → position (has_byte class) bs ≡ Some p
    → (front rest behind : List ℕ) (c : ℕ) → front ≡ take p bs → rest ≡ drop p bs → chars rest ≡ c ∷ chars behind → FindsFirst class (chars bs) (chars front) c (chars behind)
found_first class ascii bs u p e front rest behind c ef er first =
    let h = position-Some (has_byte class) bs p 0 e in
    let place = found_place (has_byte class) ascii bs p e in
    let uf : IsUtf8 front = subst (λ (us : List ℕ). IsUtf8 us) (sym ef) (IsUtf8-take bs p u place) in
    let ur : IsUtf8 rest = subst (λ (us : List ℕ). IsUtf8 us) (sym er) (IsUtf8-drop bs p u place) in
    let whole : bs ≡ front ++ rest = sym (take-append-drop p bs) ∙ ap (λ us. us ++ drop p bs) (sym ef) ∙ ap (λ us. front ++ us) (sym er) in
    let byte : get_or rest 0 0 ≡ get_or bs p 0 = ap (λ us. get_or us 0 0) er ∙ first_dropped bs p in
    let small : get_or rest 0 0 < 128 = subst (λ (n : ℕ). n < 128) (sym byte) (ascii (get_or bs p 0) h.1) in
    let some : 0 < length rest = subst (λ (us : List ℕ). 0 < length us) (sym er) (omega (arith, length-drop p bs, h.0)) in
    let is : c ≡ get_or rest 0 0 = char_from_byte rest (encode_utf8_all (chars behind)) c (sym (encodes-chars rest ur) ∙ ap encode_utf8_all first) small some in
    record {
      whole = ap chars whole ∙ chars-append front rest uf ∙ ap (λ us. chars front ++ us) first;
      before = chars_lack (has_byte class) ascii (chars front)
          (ap (list_all (λ c. not (has_byte class c))) (encodes-chars front uf ∙ ef)
          ∙ none_by_place (has_byte class) (take p bs) (λ k below. let near : k < p = omega (arith, length-take p bs, below) in ap (has_byte class) (taken_at bs p k near) ∙ h.2 k near));
      here = ap (has_byte class) (is ∙ byte) ∙ h.1;
    }

-- ---- texts up to a closing character

abbrev part_of : Kind → List ℕ → List ℕ → ℕ → Type 0
part_of kinds.Iri ts rest v = iri_character ts rest v
part_of kinds.Quoted ts rest v = text_character ts rest v

kind_exact : (k : Kind) → Exact (part_of k) (one_of k)
kind_exact kinds.Iri = iri_one_exact
kind_exact kinds.Quoted = text_one_exact

kind_lacks : (k : Kind) → Lacks (one_of k) (close_of k)
kind_lacks kinds.Iri = iri_lacks
kind_lacks kinds.Quoted = text_lacks

kind_takes : (k : Kind) → Takes (one_of k)
kind_takes kinds.Iri = iri_takes
kind_takes kinds.Quoted = text_takes

abbrev inside_at : Kind → List ℕ → Option (List ℕ × List ℕ)
inside_at k ts = until_at (close_of k) (one_of k) ts

enough : (k : Kind) (ts : List ℕ) (n : ℕ) → length ts ≤ n → until_within (close_of k) (one_of k) n ts ≡ inside_at k ts
enough k ts n h = until_enough (close_of k) (part_of k) (one_of k) (kind_exact k) (kind_lacks k) (kind_takes k) ts n h

kind_plain : (k : Kind) (c : ℕ) (ts : List ℕ) → special k c ≡ false → one_of k (c ∷ ts) ≡ Some (c, ts)
kind_plain kinds.Iri c ts e = iri_plain c ts e
kind_plain kinds.Quoted c ts e = text_plain c ts e

close_special : (k : Kind) → special k (close_of k) ≡ true
close_special kinds.Iri = refl
close_special kinds.Quoted = refl

not_close : (k : Kind) (c : ℕ) → special k c ≡ false → (c == close_of k) ≡ false
not_close k c e = elim (cases_Bool (c == close_of k)) [
  | inl hit ↦ true_false (special k c) (ap (special k) (eqb-true c (close_of k) hit) ∙ close_special k) e
  | inr miss ↦ miss
]

abbrev step_by : Kind → ℕ → List ℕ → Option (ℕ × List ℕ) → Option (List ℕ × List ℕ)
step_by k n ts r = r >>= λ x. with_first x.0 (until_within (close_of k) (one_of k) n x.1)

plain_read : (k : Kind) (c : ℕ) (ts : List ℕ) → special k c ≡ false → inside_at k (c ∷ ts) ≡ with_first c (inside_at k ts)
plain_read k c ts e = until_step (close_of k) (one_of k) (length ts) c ts false (not_close k c e) ∙ ap (step_by k (length ts) ts) (kind_plain k c ts e)

before_none : (r : Option (List ℕ × List ℕ)) → before [] r ≡ r
before_none None = refl
before_none (Some x) = refl

before_cons : (c : ℕ) (front : List ℕ) (r : Option (List ℕ × List ℕ)) → with_first c (before front r) ≡ before (c ∷ front) r
before_cons c front None = refl
before_cons c front (Some x) = refl

before_more : (a b : List ℕ) (r : Option (List ℕ × List ℕ)) → before a (before b r) ≡ before (a ++ b) r
before_more a b None = refl
before_more a b (Some x) = ap (λ us. Some (pair us x.1)) (sym (append_assoc a b x.0))

before_first : (a : List ℕ) (v : ℕ) (r : Option (List ℕ × List ℕ)) → before a (with_first v r) ≡ before (a ++ v ∷ []) r
before_first a v None = refl
before_first a v (Some x) = ap (λ us. Some (pair us x.1)) (sym (append_assoc a (v ∷ []) x.0))

not_true : (b : Bool) → not b ≡ true → b ≡ false
not_true true e = absurd cc
not_true false e = refl

front_read : (k : Kind) (front ts : List ℕ) → list_all (λ c. not (special k c)) front ≡ true → inside_at k (front ++ ts) ≡ before front (inside_at k ts)
front_read k [] ts e = sym (before_none (inside_at k ts))
front_read k (c ∷ front) ts e =
    let h = both_of (not (special k c)) (list_all (λ c. not (special k c)) front) e in
    plain_read k c (front ++ ts) (not_true (special k c) h.0) ∙ ap (with_first c) (front_read k front ts h.1) ∙ before_cons c front (inside_at k ts)

nothing_read : (k : Kind) (ts : List ℕ) → list_all (λ c. not (special k c)) ts ≡ true → inside_at k ts ≡ None
unfolding until_within
nothing_read k [] e = refl
nothing_read k (c ∷ ts) e =
    let h = both_of (not (special k c)) (list_all (λ c. not (special k c)) ts) e in
    plain_read k c ts (not_true (special k c) h.0) ∙ ap (with_first c) (nothing_read k ts h.1)

close_read : (k : Kind) (ts : List ℕ) → inside_at k (close_of k ∷ ts) ≡ Some ([], ts)
close_read k ts = until_step (close_of k) (one_of k) (length ts) (close_of k) ts true (eq-eqb (close_of k) (close_of k) refl)

slash : (k : Kind) → (92 == close_of k) ≡ false
slash kinds.Iri = refl
slash kinds.Quoted = refl

one_slash : (k : Kind) (ts : List ℕ) → one_of k (92 ∷ ts) ≡ escape_of k ts
unfolding iri_one text_one
one_slash kinds.Iri ts = refl
one_slash kinds.Quoted ts = refl

slash_read : (k : Kind) (ts : List ℕ) → inside_at k (92 ∷ ts) ≡ step_by k (length ts) ts (escape_of k ts)
slash_read k ts = until_step (close_of k) (one_of k) (length ts) 92 ts false (slash k) ∙ ap (step_by k (length ts) ts) (one_slash k ts)

escape_read : (k : Kind) (ts after : List ℕ) (v : ℕ) → escape_of k ts ≡ Some (v, after) → inside_at k (92 ∷ ts) ≡ with_first v (inside_at k after)
escape_read k ts after v e =
    let short = kind_takes k (92 ∷ ts) after v (one_slash k ts ∙ e) in
    slash_read k ts ∙ ap (step_by k (length ts) ts) e ∙ ap (with_first v) (enough k after (length ts) (omega arith))

escape_none : (k : Kind) (ts : List ℕ) → escape_of k ts ≡ None → inside_at k (92 ∷ ts) ≡ None
escape_none k ts e = slash_read k ts ∙ ap (step_by k (length ts) ts) e

kind_bad : (k : Kind) (c : ℕ) (ts : List ℕ) → special k c ≡ true → (c == 92) ≡ false → one_of k (c ∷ ts) ≡ None
unfolding iri_one text_one
kind_bad kinds.Iri c ts e n = ap (λ (b : Bool). if b then only (λ c. not (is_forbidden c)) (number_behind ts) else (if is_forbidden c then None else Some (pair c ts))) n ∙ ap (λ (b : Bool). if b then None else Some (pair c ts)) e
kind_bad kinds.Quoted c ts e n = ap (λ (b : Bool). if b then escape_of kinds.Quoted ts else (if is_escaped c then None else Some (pair c ts))) n ∙ ap (λ (b : Bool). if b then None else Some (pair c ts)) e

bad_read : (k : Kind) (c : ℕ) (ts : List ℕ) → special k c ≡ true → (c == close_of k) ≡ false → (c == 92) ≡ false → inside_at k (c ∷ ts) ≡ None
bad_read k c ts e n m = until_step (close_of k) (one_of k) (length ts) c ts false n ∙ ap (step_by k (length ts) ts) (kind_bad k c ts e m)

-- ---- the loop: what was read before stands in front of what is read of the rest

abbrev pub OfKind : List Bool → Kind → Type 0
OfKind class k = (x : ℕ) → has_byte class x ≡ special k x

same_tests : (class : List Bool) (k : Kind) → OfKind class k → (cs : List ℕ) → NoneIn class cs → list_all (λ c. not (special k c)) cs ≡ true
same_tests class k same [] e = refl
same_tests class k same (c ∷ cs) e =
    let h = both_of (not (has_byte class c)) (list_all (λ c. not (has_byte class c)) cs) e in
    ap (λ b. not b && list_all (λ c. not (special k c)) cs) (sym (same c) ∙ not_true (has_byte class c) h.0) ∙ same_tests class k same cs h.1

pub found_read : (class : List Bool) (k : Kind) → OfKind class k → (o rest front behind : List ℕ) (c : ℕ) (all : Option (List ℕ × List ℕ)) → FindsFirst class rest front c behind
    → before o (inside_at k rest) ≡ all → before (o ++ front) (inside_at k (c ∷ behind)) ≡ all
found_read class k same o rest front behind c all f e =
    sym (before_more o front (inside_at k (c ∷ behind))) ∙ ap (before o) (sym (ap (inside_at k) f.whole ∙ front_read k front (c ∷ behind) (same_tests class k same front f.before))) ∙ e

pub end_read : (class : List Bool) (k : Kind) → OfKind class k → (o rest : List ℕ) (all : Option (List ℕ × List ℕ)) → NoneIn class rest → before o (inside_at k rest) ≡ all → all ≡ None
end_read class k same o rest all n e = sym e ∙ ap (before o) (nothing_read k rest (same_tests class k same rest n))

pub close_found : (k : Kind) (o behind : List ℕ) (c : ℕ) (all : Option (List ℕ × List ℕ)) → before o (inside_at k (c ∷ behind)) ≡ all → c ≡ close_of k → all ≡ Some (o, behind)
close_found k o behind c all e h = sym e ∙ ap (λ x. before o (inside_at k (x ∷ behind))) h ∙ ap (before o) (close_read k behind) ∙ ap (λ us. Some (pair us behind)) (append-nil o)

pub bad_found : (class : List Bool) (k : Kind) → OfKind class k → (o behind : List ℕ) (c : ℕ) (all : Option (List ℕ × List ℕ)) → before o (inside_at k (c ∷ behind)) ≡ all
    → has_byte class c ≡ true → (c == close_of k) ≡ false → (c == 92) ≡ false → all ≡ None
bad_found class k same o behind c all e h n m = sym e ∙ ap (before o) (bad_read k c behind (sym (same c) ∙ h) n m)

pub escape_found : (k : Kind) (o behind after : List ℕ) (c v : ℕ) (all : Option (List ℕ × List ℕ)) → before o (inside_at k (c ∷ behind)) ≡ all → c ≡ 92 → escape_of k behind ≡ Some (v, after)
    → before (o ++ v ∷ []) (inside_at k after) ≡ all
escape_found k o behind after c v all e h f =
    sym (before_first o v (inside_at k after)) ∙ ap (before o) (sym (ap (λ x. inside_at k (x ∷ behind)) h ∙ escape_read k behind after v f)) ∙ e

pub escape_missing : (k : Kind) (o behind : List ℕ) (c : ℕ) (all : Option (List ℕ × List ℕ)) → before o (inside_at k (c ∷ behind)) ≡ all → c ≡ 92 → escape_of k behind ≡ None → all ≡ None
escape_missing k o behind c all e h f = sym e ∙ ap (λ x. before o (inside_at k (x ∷ behind))) h ∙ ap (before o) (escape_none k behind f)

pub found_some : {W : Type 0} (p : ℕ → Bool) (bs : List ℕ) (i : ℕ) → position p bs ≡ Some i → (rest : List ℕ) → rest ≡ drop i bs → IsUtf8 bs → IsAsciiTest p → chars rest ≡ [] → W
found_some p bs i e rest r ub ascii none =
    let h = position-Some p bs i 0 e in
    let u : IsUtf8 rest = subst (λ (us : List ℕ). IsUtf8 us) (sym r) (IsUtf8-drop bs i ub (found_place p ascii bs i e)) in
    let empty : length rest ≡ 0 = ap length (sym (encodes-chars rest u)) ∙ ap (λ us. length (encode_utf8_all us)) none in
    let full : length rest ≡ length bs - i = ap length r ∙ length-drop i bs in
    absurd (omega (arith, h.0))

-- the bytes of a kind are ASCII
forbidden_small : (c : ℕ) → is_forbidden c ≡ true → c < 128
forbidden_small c e = grind (arith, nat_tests)

escaped_small : (c : ℕ) → is_escaped c ≡ true → c < 128
escaped_small c e = grind (arith, nat_tests)

pub kind_ascii : (class : List Bool) (k : Kind) → OfKind class k → (b : ℕ) → has_byte class b ≡ true → b < 128
kind_ascii class kinds.Iri same b e = forbidden_small b (sym (same b) ∙ e)
kind_ascii class kinds.Quoted same b e = escaped_small b (sym (same b) ∙ e)

pub first_close : (class : List Bool) (k : Kind) → OfKind class k → (text front rest : List ℕ) (c : ℕ) → FindsFirst class text front c rest → c ≡ close_of k → inside_at k text ≡ Some (front, rest)
first_close class k same text front rest c f h =
    close_found k front rest c (inside_at k text) (found_read class k same [] text front rest c (inside_at k text) f (before_none (inside_at k text))) h

pub first_none : (class : List Bool) (k : Kind) → OfKind class k → (text : List ℕ) → NoneIn class text → inside_at k text ≡ None
first_none class k same text n = end_read class k same [] text (inside_at k text) n (before_none (inside_at k text))

pub start_read : (k : Kind) (o text : List ℕ) → o ≡ [] → before o (inside_at k text) ≡ inside_at k text
start_read k o text e = ap (λ us. before us (inside_at k text)) e ∙ before_none (inside_at k text)

-- a failed step fails the whole
pub fails_along : {Y W : Type 0} (e : LineFault) (r : Option Y) (s : Option W) → Fails e r → (r ≡ None → s ≡ None) → Fails e s
fails_along Memory r s g f = tt
fails_along Bad r s g f = f g
