-- The longest IRI and the longest literal at the front of a text are found.
use Rattle.std.proofs.Common.{◌≡◌, ◌∙◌, ℕ, zero, suc, ◌+◌, ◌<◌, ◌≤◌, List, [], ◌∷◌, ◌++◌, length, Bool, true, false, Option, Some, None, refl, sym, ap, subst, arith, inl, inr, ◌⊎◌, append_assoc}
use Rattle.std.specs.Prelude.{if◌then◌else◌}
use Rattle.std.proofs.lemmas.List.{length-append}
use Rattle.names_dm.specs.Literals.{LiteralValue, literal_of}
use Rattle.names_dm.specs.declared.literal.LiteralType.{LiteralType}
use Rattle.names_dm.specs.declared.literal.LiteralType.TheVariants.{Plain, Typed, Tagged}
use Rattle.names_dm.specs.declared.term.Term.{Term}
use Rattle.names_dm.specs.declared.term.Term.TheVariants as term
use Rattle.ntriples_reader_dm.specs.Front.{IsFront, IsLongest, as_term}
use Rattle.ntriples_reader_dm.specs.Part.{Part, Repeats, character, give, or, passing, repeated, sign, some_of, valued}
use Rattle.ntriples_reader_dm.specs.Part as part
use Rattle.ntriples_reader_dm.specs.Part.Repeats.{no_repeat, one_more}
use Rattle.ntriples_reader_dm.specs.Grammar.{blanks, code_point, echar, hex_digits, iri_character, iri_ref, literal, literal_type, quoted, tag, text_character, uchar}
use Rattle.ntriples_reader_dm.specs.Reading.{◌>>=◌, Read, begins, iri_at, longest_literal, longest_type, or_plain, quoted_at, skip, tagged_at, typed_at, written_type}
use Rattle.ntriples_reader_dm.specs.Views.{EndsWith}
use Rattle.ntriples_reader_dm.proofs.Exact.{Exact, begins_is, blanks_then, none_some, pair, pair_is, skip_stands}
use Rattle.ntriples_reader_dm.proofs.Readers.{iri_exact, quoted_exact}
use Rattle.ntriples_reader_dm.proofs.Triples.{tag_unblank, tagged, tagged_exact, tagged_heads, typed, typed_exact, typed_heads, typed_unblank}

-- ---- what stands behind a part is the end of the text

abbrev Ends : {V : Type 0} → Part V → Type 0
Ends {V} a = (ts rest : List ℕ) (v : V) → a ts rest v → EndsWith ts rest

pub ends_all : (ts : List ℕ) → EndsWith ts ts
ends_all ts = record { front = []; whole = refl }

pub ends_trans : (a b c : List ℕ) → EndsWith a b → EndsWith b c → EndsWith a c
ends_trans a b c h k = record { front = h.front ++ k.front; whole = h.whole ∙ ap (λ us. h.front ++ us) k.whole ∙ sym (append_assoc h.front k.front c) }

pub ends_length : (ts rest : List ℕ) → EndsWith ts rest → length rest ≤ length ts
ends_length ts rest h = omega (arith, ap length h.whole ∙ length-append h.front rest)

give_ends : {V : Type 0} (w : V) → Ends (give w)
give_ends w ts rest v s = record { front = []; whole = s.0 }

sign_ends : (c : ℕ) → Ends (sign c)
sign_ends c ts rest v s = record { front = c ∷ []; whole = s }

character_ends : Ends character
character_ends ts rest c s = record { front = c ∷ []; whole = s }

valued_ends : {V : Type 0} (f : ℕ → Option V) → Ends (valued f)
valued_ends f ts rest v s = record { front = s.0 ∷ []; whole = s.1 }

then_ends : {A V : Type 0} (a : Part A) (b : A → Part V) → Ends a → ((x : A) → Ends (b x)) → Ends (part.then a b)
then_ends a b ea eb ts rest v s = ends_trans ts s.0 rest (ea ts s.0 s.1 s.2) (eb s.1 s.0 rest v s.3)

or_ends : {V : Type 0} (a b : Part V) → Ends a → Ends b → Ends (or a b)
or_ends a b ea eb ts rest v (inl s) = ea ts rest v s
or_ends a b ea eb ts rest v (inr s) = eb ts rest v s

passing_ends : {V : Type 0} (test : V → Bool) (a : Part V) → Ends a → Ends (passing test a)
passing_ends test a ea ts rest v s = ea ts rest v s.0

repeats_end : {V : Type 0} (a : Part V) → Ends a → {ts rest : List ℕ} {vs : List V} → Repeats a ts rest vs → EndsWith ts rest
repeats_end a ea (no_repeat {ts = ts}) = ends_all ts
repeats_end a ea (one_more {ts = ts} {mid = mid} {rest = rest} {v = v} s r) = ends_trans ts mid rest (ea ts mid v s) (repeats_end a ea r)

repeated_ends : {V : Type 0} (a : Part V) → Ends a → Ends (repeated a)
repeated_ends a ea ts rest vs s = repeats_end a ea s

some_ends : (test : ℕ → Bool) → Ends (some_of test)
some_ends test ts rest v s = record { front = s.0; whole = s.1 }

longest_ends : (rule : List ℕ → Bool) → Ends (part.longest rule)
longest_ends rule ts rest text s = record { front = text; whole = s.stands }

hex_ends : (n so_far : ℕ) → Ends (hex_digits n so_far)
hex_ends zero so_far = give_ends so_far
hex_ends (suc n) so_far = then_ends _ _ (valued_ends _) (λ d. hex_ends n _)

code_ends : Ends code_point
code_ends = passing_ends _ _ (or_ends _ _ (then_ends _ _ (sign_ends 117) (λ _. hex_ends 4 0)) (then_ends _ _ (sign_ends 85) (λ _. hex_ends 8 0)))

uchar_ends : Ends uchar
unfolding uchar
uchar_ends = then_ends _ _ (sign_ends 92) (λ _. code_ends)

echar_ends : Ends echar
unfolding echar
echar_ends = then_ends _ _ (sign_ends 92) (λ _. valued_ends _)

iri_character_ends : Ends iri_character
iri_character_ends = passing_ends _ _ (or_ends _ _ character_ends uchar_ends)

text_character_ends : Ends text_character
text_character_ends = or_ends _ _ (passing_ends _ _ character_ends) (or_ends _ _ echar_ends uchar_ends)

iri_ends : Ends iri_ref
unfolding iri_ref
iri_ends = then_ends _ _ (sign_ends 60) (λ _. then_ends _ _ (repeated_ends _ iri_character_ends) (λ iri. then_ends _ _ (sign_ends 62) (λ _. give_ends iri)))

tag_ends : Ends tag
unfolding tag
tag_ends = then_ends _ _ (sign_ends 64) (λ _. longest_ends _)

typed_ends : Ends typed
typed_ends = then_ends _ _ (sign_ends 94) (λ _. then_ends _ _ (sign_ends 94) (λ _. then_ends _ _ (some_ends _) (λ _. then_ends _ _ iri_ends (λ iri. give_ends _))))

tagged_ends : Ends tagged
tagged_ends = then_ends _ _ tag_ends (λ t. give_ends _)

type_ends : Ends literal_type
unfolding literal_type
type_ends = or_ends _ _ (give_ends Plain) (or_ends _ _ (then_ends _ _ (some_ends _) (λ _. typed_ends)) (then_ends _ _ (some_ends _) (λ _. tagged_ends)))

quoted_inside : (ts rest text : List ℕ) → quoted ts rest text → (mid : List ℕ) × (ts ≡ 34 ∷ mid) × EndsWith mid rest
unfolding quoted
quoted_inside ts rest text s = (s.0, s.2, then_ends _ _ (repeated_ends _ text_character_ends) (λ t. then_ends _ _ (sign_ends 34) (λ _. give_ends t)) s.0 rest text s.3)

iri_inside : (ts rest iri : List ℕ) → iri_ref ts rest iri → (mid : List ℕ) × (ts ≡ 60 ∷ mid) × EndsWith mid rest
unfolding iri_ref
iri_inside ts rest iri s = (s.0, s.2, then_ends _ _ (repeated_ends _ iri_character_ends) (λ i. then_ends _ _ (sign_ends 62) (λ _. give_ends i)) s.0 rest iri s.3)

pub iri_begins : (ts rest iri : List ℕ) → iri_ref ts rest iri → (mid : List ℕ) × (ts ≡ 60 ∷ mid) × EndsWith mid rest
iri_begins = iri_inside

pub literal_begins : (ts rest : List ℕ) (t : Term) → literal ts rest t → (mid : List ℕ) × (ts ≡ 34 ∷ mid) × EndsWith mid rest
unfolding literal
literal_begins ts rest t s =
    let q = quoted_inside ts s.0 s.1 s.2 in
    (q.0, q.1, ends_trans q.0 s.0 rest q.2 (then_ends _ _ type_ends (λ kind. give_ends _) s.0 rest t s.3))

-- ---- IRIs

pub iri_front : (ts : List ℕ) (o : Read (List ℕ)) → iri_at ts ≡ o → IsFront iri_ref ts o
iri_front ts None e = λ rest v s. none_some (pair v rest) (sym e ∙ iri_exact.complete ts rest v s)
iri_front ts (Some x) e = record {
  stands = iri_exact.sound ts x.1 x.0 e;
  longest = λ others w s. (let same = (pair_is x.0 w x.1 others (sym e ∙ iri_exact.complete ts others w s)).1 in subst (λ (us : List ℕ). length x.1 ≤ length us) same (omega arith));
}

-- ---- types

typed_behind : Exact (part.then blanks (λ _. typed)) (λ ts. typed_at (skip ts))
typed_behind = blanks_then typed typed_at typed_exact typed_unblank

tagged_behind : Exact (part.then blanks (λ _. tagged)) (λ ts. tagged_at (skip ts))
tagged_behind = blanks_then tagged tagged_at tagged_exact tag_unblank

abbrev written_by : Bool → List ℕ → Read LiteralType
written_by b ts = if b then typed_at ts else tagged_at ts

written_typed : (ts : List ℕ) (y : LiteralType × List ℕ) → typed_at ts ≡ Some y → written_type ts ≡ Some y
written_typed ts y e = ap (λ b. written_by b ts) (typed_heads ts y e) ∙ e

written_tagged : (ts : List ℕ) (y : LiteralType × List ℕ) → tagged_at ts ≡ Some y → written_type ts ≡ Some y
written_tagged ts y e =
    let h = begins_is 64 ts (tagged_heads ts y e) in
    ap (λ us. written_by (begins 94 us) ts) h.1 ∙ e

written_sound : (b : Bool) (ts r : List ℕ) (k : LiteralType) → written_by b ts ≡ Some (k, r) → typed ts r k ⊎ tagged ts r k
written_sound true ts r k e = inl (typed_exact.sound ts r k e)
written_sound false ts r k e = inr (tagged_exact.sound ts r k e)

typed_shorter : (ts r : List ℕ) (k : LiteralType) → typed ts r k → length r < length ts
typed_shorter ts r k s = let le = ends_length s.0 r (then_ends _ _ (sign_ends 94) (λ _. then_ends _ _ (some_ends _) (λ _. then_ends _ _ iri_ends (λ iri. give_ends _))) s.0 r k s.3) in omega (arith, le, ap length s.2)

tagged_shorter : (ts r : List ℕ) (k : LiteralType) → tagged ts r k → length r < length ts
unfolding tag
tagged_shorter ts r k s =
    let t = s.2 in
    let mid = ends_length t.0 s.0 (longest_ends _ t.0 s.0 s.1 t.3) in
    let end = ends_length s.0 r (give_ends _ s.0 r k s.3) in
    omega (arith, mid, end, ap length t.2)

skip_length : (ts : List ℕ) → length (skip ts) ≤ length ts
skip_length ts = ends_length ts (skip ts) (some_ends _ ts (skip ts) tt (skip_stands ts))

plain_or : (ts : List ℕ) (o : Read LiteralType) → written_type (skip ts) ≡ o → (or_plain ts o ≡ (Plain, ts)) ⊎ (length (or_plain ts o).1 < length ts)
plain_or ts None e = inl refl
plain_or ts (Some x) e = elim (written_sound (begins 94 (skip ts)) (skip ts) x.1 x.0 e) [
  | inl h ↦ inr (omega (arith, typed_shorter (skip ts) x.1 x.0 h, skip_length ts))
  | inr h ↦ inr (omega (arith, tagged_shorter (skip ts) x.1 x.0 h, skip_length ts))
]

-- the type that is read is this one, or a longer one
type_or_longer : (ts r : List ℕ) (k : LiteralType) → literal_type ts r k → (longest_type ts ≡ (k, r)) ⊎ (length (longest_type ts).1 < length r)
unfolding literal_type longest_type
type_or_longer ts r k (inl s) =
    subst (λ (us : List ℕ). (longest_type ts ≡ (k, us)) ⊎ (length (longest_type ts).1 < length us)) s.0
    (subst (λ (t : LiteralType). (longest_type ts ≡ (t, ts)) ⊎ (length (longest_type ts).1 < length ts)) (sym s.1) (plain_or ts (written_type (skip ts)) refl))
type_or_longer ts r k (inr (inl s)) = inl (ap (or_plain ts) (written_typed (skip ts) (k, r) (typed_behind.complete ts r k s)))
type_or_longer ts r k (inr (inr s)) = inl (ap (or_plain ts) (written_tagged (skip ts) (k, r) (tagged_behind.complete ts r k s)))

written_stands : (ts : List ℕ) (o : Read LiteralType) → written_type (skip ts) ≡ o → literal_type ts (or_plain ts o).1 (or_plain ts o).0
unfolding literal_type
written_stands ts None e = inl (refl, refl)
written_stands ts (Some x) e = elim (written_sound (begins 94 (skip ts)) (skip ts) x.1 x.0 e) [
  | inl h ↦ inr (inl (skip ts, tt, skip_stands ts, h))
  | inr h ↦ inr (inr (skip ts, tt, skip_stands ts, h))
]

type_stands : (ts : List ℕ) → literal_type ts (longest_type ts).1 (longest_type ts).0
unfolding longest_type
type_stands ts = written_stands ts (written_type (skip ts)) refl

-- ---- literals

abbrev with_type : Read (List ℕ) → Read LiteralValue
with_type o = o >>= λ x. Some (literal_of x.0 (longest_type x.1).0, (longest_type x.1).1)

read_is : (ts : List ℕ) → longest_literal ts ≡ with_type (quoted_at ts)
unfolding longest_literal
read_is ts = refl

no_longer : (mid r : List ℕ) (k : LiteralType) → literal_type mid r k → length (longest_type mid).1 ≤ length r
no_longer mid r k s = elim (type_or_longer mid r k s) [
  | inl e ↦ (let same = ap (λ (x : LiteralType × List ℕ). length x.1) e in omega (arith, same))
  | inr h ↦ omega (arith, h)
]

front_by : (ts : List ℕ) (o : Read (List ℕ)) → quoted_at ts ≡ o → IsFront literal ts (as_term (with_type o))
unfolding literal
front_by ts None e = λ rest v s. none_some (pair s.1 s.0) (sym e ∙ quoted_exact.complete ts s.0 s.1 s.2)
front_by ts (Some x) e = record {
  stands = (x.1, x.0, quoted_exact.sound ts x.1 x.0 e, ((longest_type x.1).1, (longest_type x.1).0, type_stands x.1, (refl, refl)));
  longest = λ others w s. (
      let same = (pair_is x.0 s.1 x.1 s.0 (sym e ∙ quoted_exact.complete ts s.0 s.1 s.2)).1 in
      let t = s.3 in
      subst (λ (us : List ℕ). length (longest_type x.1).1 ≤ length us) t.3.0 (subst (λ (m : List ℕ). length (longest_type m).1 ≤ length t.0) (sym same) (no_longer s.0 t.0 t.1 t.2)));
}

pub literal_front : (ts : List ℕ) → IsFront literal ts (as_term (longest_literal ts))
literal_front ts = subst (λ (o : Read LiteralValue). IsFront literal ts (as_term o)) (sym (read_is ts)) (front_by ts (quoted_at ts) refl)

pub literal_front_is : (ts : List ℕ) (o : Read LiteralValue) → o ≡ longest_literal ts → IsFront literal ts (as_term o)
literal_front_is ts o e = subst (λ (r : Read LiteralValue). IsFront literal ts (as_term r)) (sym e) (literal_front ts)

abbrev some_literal : LiteralValue → List ℕ → Read LiteralValue
some_literal v us = Some (v, us)

pub literal_missing : (ts : List ℕ) → quoted_at ts ≡ None → IsFront literal ts None
literal_missing ts e = front_by ts None e

pub literal_read : (ts mid r text : List ℕ) (k : LiteralType) (l : LiteralValue) → quoted_at ts ≡ Some (text, mid) → (k, r) ≡ longest_type mid → l ≡ literal_of text k → IsFront literal ts (Some (term.Literal l, r))
literal_read ts mid r text k l e t made =
    literal_front_is ts (Some (l, r)) (ap (λ (v : LiteralValue). some_literal v r) made ∙ ap (λ (x : LiteralType × List ℕ). some_literal (literal_of text x.0) x.1) t ∙ sym (read_is ts ∙ ap with_type e))

literal_is : (a b : LiteralValue) → term.Literal a ≡ term.Literal b → a ≡ b
literal_is a b e = cc

-- the longest literal is the one that is read
pub literal_found : (ts rest : List ℕ) (l : LiteralValue) → IsLongest literal ts rest (term.Literal l) → longest_literal ts ≡ Some (l, rest)
unfolding literal
literal_found ts rest l h =
    let s = h.stands in
    let t = s.3 in
    let read : longest_literal ts ≡ Some (literal_of s.1 (longest_type s.0).0, (longest_type s.0).1) = read_is ts ∙ ap with_type (quoted_exact.complete ts s.0 s.1 s.2) in
    elim (type_or_longer s.0 t.0 t.1 t.2) [
      | inl e ↦ read ∙ ap (λ (x : LiteralType × List ℕ). some_literal (literal_of s.1 x.0) x.1) e ∙ ap (λ us. some_literal (literal_of s.1 t.1) us) t.3.0 ∙ ap (λ (v : LiteralValue). some_literal v rest) (sym (literal_is l (literal_of s.1 t.1) t.3.1))
      | inr k ↦ (let least = h.longest (longest_type s.0).1 (term.Literal (literal_of s.1 (longest_type s.0).0)) (s.0, s.1, s.2, ((longest_type s.0).1, (longest_type s.0).0, type_stands s.0, (refl, refl))) in
          absurd (omega (arith, least, k, ap length t.3.0)))
    ]

pub iri_found : (ts rest iri : List ℕ) → IsLongest iri_ref ts rest iri → iri_at ts ≡ Some (iri, rest)
iri_found ts rest iri h = iri_exact.complete ts rest iri h.stands
