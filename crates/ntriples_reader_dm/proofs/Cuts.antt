-- Lines are cut off one by one.
use Rattle.std.proofs.Common.{◌≡◌, ◌∙◌, ℕ, zero, suc, ◌+◌, ◌<◌, ◌≤◌, List, [], ◌∷◌, ◌++◌, length, take, drop, get_or, Bool, true, false, Option, Some, None, refl, sym, ap, subst, arith, inl, inr, append_assoc, length-append}
use Rattle.std.specs.Prelude.{◌==◌, ◌||◌, ◌&&◌, if◌then◌else◌, option_to_list, chars}
use Rattle.std.specs.List.{position}
use Rattle.std.proofs.lemmas.Bool.{cases_Bool}
use Rattle.std.proofs.lemmas.List.{append-nil}
use Rattle.std.proofs.lemmas.List.Quantifiers.{position-Some}
use Rattle.names_dm.specs.Statements.{Statement}
use Rattle.ntriples_reader_dm.specs.Lines.{is_end, into_first, lines, behind_end}
use Rattle.ntriples_reader_dm.specs.Answer.{HasTooManyTriples, IsFirstBadLine}
use Rattle.ntriples_reader_dm.specs.Document.{AreTriples, limit}
use Rattle.ntriples_reader_dm.specs.Grammar.{IsLine}
use Rattle.ntriples_reader_dm.proofs.Exact.{true_false}
use Rattle.ntriples_reader_dm.proofs.Scans.{none_at}
use Rattle.ntriples_reader_dm.proofs.Triples.{line_one}

abbrev Ends : List ℕ → ℕ → Type 0
Ends bs k = is_end (get_or bs k 0) ≡ true

abbrev Within : List ℕ → ℕ → Type 0
Within bs p = (k : ℕ) → k < p → is_end (get_or bs k 0) ≡ false

abbrev cut_by : Bool → Bool → ℕ → ℕ → List ℕ → List (List ℕ)
cut_by both ends b c bytes = if both then [] ∷ lines bytes else (if ends then [] ∷ lines (c ∷ bytes) else into_first b (lines (c ∷ bytes)))

cut_first : (b c : ℕ) (bytes : List ℕ) (both : Bool) → ((b == 13) && (c == 10)) ≡ both → is_end b ≡ true → lines (b ∷ c ∷ bytes) ≡ [] ∷ lines (if both then bytes else c ∷ bytes)
unfolding lines
cut_first b c bytes true e h = ap (λ x. cut_by x (is_end b) b c bytes) e
cut_first b c bytes false e h = ap (λ x. cut_by x (is_end b) b c bytes) e ∙ ap (λ x. cut_by false x b c bytes) h

pub cut_later : (b c : ℕ) (bytes : List ℕ) → is_end b ≡ false → lines (b ∷ c ∷ bytes) ≡ into_first b (lines (c ∷ bytes))
unfolding lines
cut_later b c bytes h = elim (cases_Bool (b == 13)) [
  | inl hit ↦ true_false (is_end b) (elim (cases_Bool (b == 10)) [ inl ten ↦ ap (λ x. x || (b == 13)) ten | inr none ↦ ap (λ x. x || (b == 13)) none ∙ hit ]) h
  | inr miss ↦ ap (λ x. cut_by (x && (c == 10)) (is_end b) b c bytes) miss ∙ ap (λ x. cut_by false x b c bytes) h
]

cut_at : (bs : List ℕ) (p : ℕ) → p < length bs → Ends bs p → Within bs p → lines bs ≡ take p bs ∷ lines (behind_end (drop p bs))
unfolding lines
cut_at [] p l e w = absurd (omega arith)
cut_at (b ∷ []) zero l e w = ap (λ x. if x then [] ∷ [] else (b ∷ []) ∷ []) e
cut_at (b ∷ []) (suc p) l e w = absurd (omega arith)
cut_at (b ∷ c ∷ bytes) zero l e w = cut_first b c bytes ((b == 13) && (c == 10)) refl e
cut_at (b ∷ c ∷ bytes) (suc p) l e w =
    cut_later b c bytes (w 0 (omega arith)) ∙ ap (into_first b) (cut_at (c ∷ bytes) p (omega arith) e (λ k below. w (suc k) (omega arith)))

pub cut_found : (bs : List ℕ) (p : ℕ) → position is_end bs ≡ Some p → lines bs ≡ take p bs ∷ lines (behind_end (drop p bs))
cut_found bs p e = let h = position-Some is_end bs p 0 e in cut_at bs p h.0 h.1 h.2

uncut_at : (b : ℕ) (bs : List ℕ) → ((k : ℕ) → k < length (b ∷ bs) → is_end (get_or (b ∷ bs) k 0) ≡ false) → lines (b ∷ bs) ≡ (b ∷ bs) ∷ []
unfolding lines
uncut_at b [] w = ap (λ x. if x then [] ∷ [] else (b ∷ []) ∷ []) (w 0 (omega arith))
uncut_at b (c ∷ bs) w = cut_later b c bs (w 0 (omega arith)) ∙ ap (into_first b) (uncut_at c bs (λ k below. w (suc k) (omega arith)))

pub uncut : (bs : List ℕ) → (length bs ≡ 0 → ⊥) → position is_end bs ≡ None → lines bs ≡ bs ∷ []
uncut [] some e = absurd (some refl)
uncut (b ∷ bs) some e = uncut_at b bs (none_at is_end (b ∷ bs) e)

pub no_lines : (bs : List ℕ) → length bs ≡ 0 → lines bs ≡ []
unfolding lines
no_lines [] e = refl
no_lines (b ∷ bs) e = absurd (omega arith)

pub same_position : (f g : ℕ → Bool) → ((x : ℕ) → f x ≡ g x) → (bs : List ℕ) → position f bs ≡ position g bs
same_position f g h bs = λ i. position (λ x. h x i) bs

pub behind_short_at : (bs : List ℕ) → 0 < length bs → length (behind_end bs) < length bs
behind_short_at [] h = absurd (omega arith)
behind_short_at (b ∷ []) h = omega arith
behind_short_at (b ∷ c ∷ bytes) h = elim (cases_Bool ((b == 13) && (c == 10))) [
  | inl hit ↦ subst (λ (x : Bool). length (if x then bytes else c ∷ bytes) < length (b ∷ c ∷ bytes)) (sym hit) (omega arith)
  | inr miss ↦ subst (λ (x : Bool). length (if x then bytes else c ∷ bytes) < length (b ∷ c ∷ bytes)) (sym miss) (omega arith)
]

-- ---- what the lines so far say

pub one_more_line : (front : List (List ℕ)) (ts : List Statement) (text : List ℕ) (x : Option Statement) → AreTriples front ts → IsLine text x → AreTriples (front ++ text ∷ []) (ts ++ option_to_list x)
one_more_line [] ts text x a i = (x, [], i, refl, ap (λ (us : List Statement). us ++ option_to_list x) a ∙ sym (append-nil (option_to_list x)))
one_more_line (l ∷ front) ts text x a i =
    (a.0, a.1 ++ option_to_list x, a.2, one_more_line front a.1 text x a.3 i, ap (λ (us : List Statement). us ++ option_to_list x) a.4 ∙ append_assoc (option_to_list a.0) a.1 (option_to_list x))

-- the lines before the rest of a document, and their triples
pub record AreSoFar (bytes : List ℕ) (triples : List Statement) (number : ℕ) (rest : List ℕ) : Type 0 where
  pub front : List (List ℕ)
  pub whole : lines bytes ≡ front ++ lines rest
  pub says : AreTriples front triples
  pub counted : number ≡ length front
  pub within : length triples ≤ limit

pub so_far_more : (bytes : List ℕ) (ts us : List Statement) (n : ℕ) (rest text behind : List ℕ) (x : Option Statement) → AreSoFar bytes ts n rest → lines rest ≡ text ∷ lines behind → IsLine text x
    → us ≡ ts ++ option_to_list x → length us ≤ limit → AreSoFar bytes us (n + 1) behind
so_far_more bytes ts us n rest text behind x s e i u small = record {
  front = s.front ++ text ∷ [];
  whole = s.whole ∙ ap (λ (ls : List (List ℕ)). s.front ++ ls) e ∙ sym (append_assoc s.front (text ∷ []) (lines behind));
  says = subst (λ (vs : List Statement). AreTriples (s.front ++ text ∷ []) vs) (sym u) (one_more_line s.front ts text x s.says i);
  counted = simp length-append (omega (arith, s.counted));
  within = small;
}

pub too_many : (bytes : List ℕ) (ts : List Statement) (n : ℕ) (rest text behind : List ℕ) (t : Statement) → AreSoFar bytes ts n rest → lines rest ≡ text ∷ lines behind → IsLine text (Some t)
    → length ts ≡ limit → HasTooManyTriples bytes
too_many bytes ts n rest text behind t s e i full = record {
  front = s.front ++ text ∷ [];
  rest = lines behind;
  triples = ts ++ t ∷ [];
  whole = s.whole ∙ ap (λ (ls : List (List ℕ)). s.front ++ ls) e ∙ sym (append_assoc s.front (text ∷ []) (lines behind));
  says = one_more_line s.front ts text (Some t) s.says i;
  above = simp length-append (omega (arith, full));
}

pub bad_line : (bytes : List ℕ) (ts : List Statement) (n : ℕ) (rest text behind : List ℕ) → AreSoFar bytes ts n rest → lines rest ≡ text ∷ lines behind → ((x : Option Statement) → IsLine text x → ⊥)
    → IsFirstBadLine bytes (n + 1)
bad_line bytes ts n rest text behind s e never = record {
  front = s.front;
  bad = text;
  rest = lines behind;
  triples = ts;
  whole = s.whole ∙ ap (λ (ls : List (List ℕ)). s.front ++ ls) e;
  says = s.says;
  within = s.within;
  never = never;
  counted = ap (λ (m : ℕ). m + 1) s.counted;
}

pub all_read : (bytes : List ℕ) (ts : List Statement) (n : ℕ) (rest : List ℕ) → AreSoFar bytes ts n rest → lines rest ≡ [] → AreTriples (lines bytes) ts × (length ts ≤ limit)
all_read bytes ts n rest s e = (subst (λ (ls : List (List ℕ)). AreTriples ls ts) (sym (s.whole ∙ ap (λ (ls : List (List ℕ)). s.front ++ ls) e ∙ append-nil s.front)) s.says, s.within)

-- lines say one list of triples
pub triples_one : (ls : List (List ℕ)) (ts us : List Statement) → AreTriples ls ts → AreTriples ls us → ts ≡ us
triples_one [] ts us a b = a ∙ sym b
triples_one (l ∷ ls) ts us a b =
    a.4 ∙ ap (λ (x : Option Statement). option_to_list x ++ a.1) (line_one (chars l) a.0 b.0 a.2.1 b.2.1)
    ∙ ap (λ (vs : List Statement). option_to_list b.0 ++ vs) (triples_one ls a.1 b.1 a.3 b.3) ∙ sym b.4
