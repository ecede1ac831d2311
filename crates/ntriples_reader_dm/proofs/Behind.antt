-- Where labels and tags end.
use Rattle.std.proofs.Common.{◌≡◌, ◌∙◌, ℕ, ◌-◌, ◌≤◌, List, [], ◌∷◌, ◌++◌, length, take, drop, Bool, true, false, Some, None, refl, sym, ap, subst, arith, inl, inr, length-append, chars}
use Rattle.std.specs.Prelude.{◌==◌, ◌&&◌, if◌then◌else◌, encode_utf8_all, IsUtf8, IsCharBoundary}
use Rattle.std.proofs.lemmas.List.{take-append-drop, append-nil}
use Rattle.std.proofs.lemmas.Str.{encodes-chars, encodes-append, chars-append, IsCharBoundary-at_seam, IsUtf8-take}
use Rattle.names_dm.specs.Terminals.{begins_label, continues_label, is_letter_or_digit}
use Rattle.names_dm.specs.Characters.{is_ascii_letter}
use Rattle.ntriples_reader_dm.specs.Reading.{dotted, label_rest, label_text, in_part, starts, tag_rest, tag_text, with_more}
use Rattle.ntriples_reader_dm.specs.Views.{EndsWith}
use Rattle.ntriples_reader_dm.proofs.Exact.{pair}
use Rattle.ntriples_reader_dm.proofs.Labels.{rest_is}
use Rattle.ntriples_reader_dm.proofs.Longest.{fronts}
use Rattle.ntriples_reader_dm.proofs.Tags.{tag_rest_is}

-- ---- labels

-- where a label ends whose text so far ends at `end`
abbrev pub after_dots : List ℕ → List ℕ × List ℕ → List ℕ
after_dots end ([], rest) = end
after_dots end (d ∷ ds, rest) = rest

start_at : (ts b r : List ℕ) → ts ≡ b ++ r → after_dots ts (b, r) ≡ r
start_at ts [] r e = e
start_at ts (d ∷ ds) r e = refl

pub label_begins : (ts : List ℕ) → after_dots ts (label_rest ts) ≡ (label_rest ts).1
label_begins ts = start_at ts (label_rest ts).0 (label_rest ts).1 (rest_is ts).whole

step_at : (c : ℕ) (end ts b r : List ℕ) (dot : Bool) → (c == 46) ≡ dot → ts ≡ b ++ r → after_dots (if dot then end else ts) (b, r) ≡ after_dots end (dotted c ts (b, r))
step_at c end ts [] r true d e = sym (ap (λ x. after_dots end (if x then pair [] (c ∷ ts) else pair (c ∷ []) r)) d)
step_at c end ts [] r false d e = e ∙ sym (ap (λ x. after_dots end (if x then pair [] (c ∷ ts) else pair (c ∷ []) r)) d)
step_at c end ts (x ∷ xs) r dot d e = refl

continue_step : (c : ℕ) (ts : List ℕ) (b : Bool) → continues_label c ≡ b → label_rest (c ∷ ts) ≡ (if b then dotted c ts (label_rest ts) else ([], c ∷ ts))
unfolding label_rest
continue_step c ts b e = ap (λ x. if x then dotted c ts (label_rest ts) else pair [] (c ∷ ts)) e

pub label_goes_on : (c : ℕ) (rest ts end next all : List ℕ) → after_dots end (label_rest rest) ≡ all → rest ≡ c ∷ ts → continues_label c ≡ true → next ≡ (if c == 46 then end else ts) → after_dots next (label_rest ts) ≡ all
label_goes_on c rest ts end next all e f k n =
    ap (λ us. after_dots us (label_rest ts)) n ∙ step_at c end ts (label_rest ts).0 (label_rest ts).1 (c == 46) refl (rest_is ts).whole
    ∙ sym (ap (after_dots end) (continue_step c ts true k)) ∙ sym (ap (λ us. after_dots end (label_rest us)) f) ∙ e

pub label_stops : (c : ℕ) (rest ts end all : List ℕ) → after_dots end (label_rest rest) ≡ all → rest ≡ c ∷ ts → continues_label c ≡ false → end ≡ all
label_stops c rest ts end all e f k = sym (ap (after_dots end) (continue_step c ts false k)) ∙ sym (ap (λ us. after_dots end (label_rest us)) f) ∙ e

pub label_ends : (rest end all : List ℕ) → after_dots end (label_rest rest) ≡ all → rest ≡ [] → end ≡ all
unfolding label_rest
label_ends rest end all e f = sym (ap (λ us. after_dots end (label_rest us)) f) ∙ e

pub ruleset label_steps = (label_begins, label_goes_on, label_stops, label_ends)

-- ---- tags

abbrev tag_by : Bool → Bool → Bool → ℕ → List ℕ → List ℕ × List ℕ
tag_by b hyphen first c ts = if b then with_more c (tag_rest first ts) else (if hyphen then with_more c (tag_rest false ts) else ([], c ∷ ts))

tag_step : (first : Bool) (c : ℕ) (ts : List ℕ) (b : Bool) → in_part first c ≡ b → (hyphen : Bool) → ((c == 45) && starts is_letter_or_digit ts) ≡ hyphen → tag_rest first (c ∷ ts) ≡ tag_by b hyphen first c ts
unfolding tag_rest
tag_step first c ts b e hyphen f = ap (λ x. tag_by x ((c == 45) && starts is_letter_or_digit ts) first c ts) e ∙ ap (λ x. tag_by b x first c ts) f

pub tag_in_goes_on : (first : Bool) (c : ℕ) (rest ts all : List ℕ) → (tag_rest first rest).1 ≡ all → rest ≡ c ∷ ts → in_part first c ≡ true → (tag_rest first ts).1 ≡ all
tag_in_goes_on first c rest ts all e f k = sym (ap (λ x. x.1) (tag_step first c ts true k ((c == 45) && starts is_letter_or_digit ts) refl)) ∙ sym (ap (λ us. (tag_rest first us).1) f) ∙ e

pub tag_hyphen_goes_on : (first : Bool) (c : ℕ) (rest ts all : List ℕ) → (tag_rest first rest).1 ≡ all → rest ≡ c ∷ ts → in_part first c ≡ false → ((c == 45) && starts is_letter_or_digit ts) ≡ true → (tag_rest false ts).1 ≡ all
tag_hyphen_goes_on first c rest ts all e f k h = sym (ap (λ x. x.1) (tag_step first c ts false k true h)) ∙ sym (ap (λ us. (tag_rest first us).1) f) ∙ e

pub tag_stops_here : (first : Bool) (c : ℕ) (rest ts all : List ℕ) → (tag_rest first rest).1 ≡ all → rest ≡ c ∷ ts → in_part first c ≡ false → ((c == 45) && starts is_letter_or_digit ts) ≡ false → rest ≡ all
tag_stops_here first c rest ts all e f k h = f ∙ sym (ap (λ x. x.1) (tag_step first c ts false k false h)) ∙ sym (ap (λ us. (tag_rest first us).1) f) ∙ e

pub tag_ends : (first : Bool) (rest all : List ℕ) → (tag_rest first rest).1 ≡ all → rest ≡ [] → rest ≡ all
unfolding tag_rest
tag_ends first rest all e f = f ∙ sym (ap (λ us. (tag_rest first us).1) f) ∙ e

pub ruleset tag_steps = (tag_in_goes_on, tag_hyphen_goes_on, tag_stops_here, tag_ends)

-- ---- the text in front

text_splits : (text rest front : List ℕ) → IsUtf8 text → IsUtf8 rest → chars text ≡ front ++ chars rest → text ≡ encode_utf8_all front ++ rest
text_splits text rest front u v e =
    sym (encodes-chars text u) ∙ ap encode_utf8_all e ∙ encodes-append front (chars rest) ∙ ap (λ us. encode_utf8_all front ++ us) (encodes-chars rest v)

front_len : (text rest front : List ℕ) → text ≡ front ++ rest → length text - length rest ≡ length front
front_len text rest front e = omega (arith, ap length e ∙ length-append front rest)

pub rest_fits : (text rest : List ℕ) → IsUtf8 text → IsUtf8 rest → EndsWith (chars text) (chars rest) → length rest ≤ length text
rest_fits text rest u v h = omega (arith, ap length (text_splits text rest h.front u v h.whole) ∙ length-append (encode_utf8_all h.front) rest)

pub rest_place : (text rest : List ℕ) → IsUtf8 text → IsUtf8 rest → EndsWith (chars text) (chars rest) → IsCharBoundary text (length text - length rest)
rest_place text rest u v h =
    let e = text_splits text rest h.front u v h.whole in
    subst (λ (n : ℕ). IsCharBoundary text n) (sym (front_len text rest (encode_utf8_all h.front) e)) (IsCharBoundary-at_seam text (encode_utf8_all h.front) rest e v)

drop_front : (a b : List ℕ) → drop (length a) (a ++ b) ≡ b
drop_front [] b = refl
drop_front (x ∷ a) b = drop_front a b

pub text_in_front : (text rest front : List ℕ) → IsUtf8 text → IsUtf8 rest → EndsWith (chars text) (chars rest) → front ≡ take (length text - length rest) text → chars front ++ chars rest ≡ chars text
text_in_front text rest front u v h f =
    let e = text_splits text rest h.front u v h.whole in
    let place = rest_place text rest u v h in
    let n = front_len text rest (encode_utf8_all h.front) e in
    let back : drop (length text - length rest) text ≡ rest = ap (λ k. drop k text) n ∙ ap (λ us. drop (length (encode_utf8_all h.front)) us) e ∙ drop_front (encode_utf8_all h.front) rest in
    let uf : IsUtf8 front = subst (λ (us : List ℕ). IsUtf8 us) (sym f) (IsUtf8-take text (length text - length rest) u place) in
    sym (chars-append front rest uf) ∙ ap (λ us. chars (us ++ rest)) f ∙ ap (λ us. chars (take (length text - length rest) text ++ us)) (sym back) ∙ ap chars (take-append-drop (length text - length rest) text)

nothing_before : (more r : List ℕ) → r ≡ more ++ r → more ≡ []
nothing_before [] r e = refl
nothing_before (m ∷ ms) r e = absurd (omega (arith, ap length e ∙ length-append (m ∷ ms) r))

same_front : (a b r : List ℕ) → a ++ r ≡ b ++ r → a ≡ b
same_front a b r e = elim (fronts a r b r e) [
  | inl h ↦ sym (h.1 ∙ ap (λ us. a ++ us) (nothing_before h.0 r h.2) ∙ append-nil a)
  | inr h ↦ h.1 ∙ ap (λ us. b ++ us) (nothing_before h.0 r h.2) ∙ append-nil b
]

label_whole : (c : ℕ) (text ts r : List ℕ) → text ≡ c ∷ ts → r ≡ (label_rest ts).1 → text ≡ (c ∷ (label_rest ts).0) ++ r
label_whole c text ts r e f = e ∙ ap (λ us. c ∷ us) (rest_is ts).whole ∙ ap (λ us. c ∷ ((label_rest ts).0 ++ us)) (sym f)

pub label_ends_with : (c : ℕ) (text ts r : List ℕ) → text ≡ c ∷ ts → r ≡ (label_rest ts).1 → EndsWith text r
label_ends_with c text ts r e f = record { front = c ∷ (label_rest ts).0; whole = e ∙ ap (λ us. c ∷ us) (rest_is ts).whole ∙ ap (λ us. c ∷ ((label_rest ts).0 ++ us)) (sym f) }

tag_whole : (c : ℕ) (text ts r : List ℕ) → text ≡ c ∷ ts → r ≡ (tag_rest true ts).1 → text ≡ (c ∷ (tag_rest true ts).0) ++ r
tag_whole c text ts r e f = e ∙ ap (λ us. c ∷ us) (tag_rest_is ts true).whole ∙ ap (λ us. c ∷ ((tag_rest true ts).0 ++ us)) (sym f)

pub tag_ends_with : (c : ℕ) (text ts r : List ℕ) → text ≡ c ∷ ts → r ≡ (tag_rest true ts).1 → EndsWith text r
tag_ends_with c text ts r e f = record { front = c ∷ (tag_rest true ts).0; whole = e ∙ ap (λ us. c ∷ us) (tag_rest_is ts true).whole ∙ ap (λ us. c ∷ ((tag_rest true ts).0 ++ us)) (sym f) }

pub label_is : (c : ℕ) (text ts r t : List ℕ) → text ≡ c ∷ ts → r ≡ (label_rest ts).1 → begins_label c ≡ true → t ++ r ≡ text → label_text text ≡ Some (t, r)
unfolding label_text
label_is c text ts r t e f b w =
    let same : c ∷ (label_rest ts).0 ≡ t = sym (same_front t (c ∷ (label_rest ts).0) r (w ∙ label_whole c text ts r e f)) in
    ap label_text e ∙ ap (λ (x : Bool). if x then Some (with_more c (label_rest ts)) else None) b ∙ ap (λ us. Some (pair us (label_rest ts).1)) same ∙ ap (λ us. Some (pair t us)) (sym f)

pub tag_is : (c : ℕ) (text ts r t : List ℕ) → text ≡ c ∷ ts → r ≡ (tag_rest true ts).1 → is_ascii_letter c ≡ true → t ++ r ≡ text → tag_text text ≡ Some (t, r)
unfolding tag_text
tag_is c text ts r t e f b w =
    let same : c ∷ (tag_rest true ts).0 ≡ t = sym (same_front t (c ∷ (tag_rest true ts).0) r (w ∙ tag_whole c text ts r e f)) in
    ap tag_text e ∙ ap (λ (x : Bool). if x then Some (with_more c (tag_rest true ts)) else None) b ∙ ap (λ us. Some (pair us (tag_rest true ts).1)) same ∙ ap (λ us. Some (pair t us)) (sym f)
