-- The parts of a number's text are determined by the text.
use Rattle.std.proofs.Common.{◌≡◌, ◌≢◌, ℕ, suc, zero, ◌+◌, ◌<◌, Bool, true, false, List, [], ◌∷◌, ◌++◌, length, refl, ap, ◌∙◌, sym, arith, drop, get_or, append-nil, length-append, inl, inr, eqb}
use Rattle.std.proofs.lemmas.Bool.{eqb-true, true≢false}
use Rattle.std.proofs.lemmas.Bool.Decides.{eqb_tells}
use Rattle.std.specs.Str.Parse.{AllDigits, starts_with_minus, without_leading_sign}
use Rattle.std.proofs.lemmas.Str.Parse.{digit_from_value}
use Rattle.value_dm.specs.Reading.{BeginsWithNoDigit, BeginsWithNoSign}
use Rattle.value_dm.specs.Spelling.{IsSign, IsPoint, IsNumberText}
use Rattle.value_dm.proofs.Numerals.{leading_digits_same, AllDigits-front, AllDigits-append}

pub record Signed (text : List ℕ) (negative : Bool) (rest : List ℕ) : Type 0 where
  pub sign : List ℕ
  pub parts : text ≡ sign ++ rest
  pub is_sign : IsSign sign negative

-- each text has a sign, if an empty one
pub signed_text : (text : List ℕ) → Signed text (starts_with_minus text) (without_leading_sign text)
signed_text [] = record { sign = []; parts = refl; is_sign = inl (refl, refl) }
signed_text (c ∷ cs) = by_first (eqb c 45) refl (eqb c 43) refl
  where
    by_first : (minus : Bool) → eqb c 45 ≡ minus → (plus : Bool) → eqb c 43 ≡ plus → Signed (c ∷ cs) (starts_with_minus (c ∷ cs)) (without_leading_sign (c ∷ cs))
    by_first true m plus p = rw m (record { sign = 45 ∷ []; parts = ap (λ x. x ∷ cs) (eqb-true c 45 m); is_sign = inr (inr (refl, refl)) })
    by_first false m true p = rw (m, p) (record { sign = 43 ∷ []; parts = ap (λ x. x ∷ cs) (eqb-true c 43 p); is_sign = inr (inl (refl, refl)) })
    by_first false m false p = rw (m, p) (record { sign = []; parts = refl; is_sign = inl (refl, refl) })

pub eqb_differs : (a b : ℕ) → a ≢ b → eqb a b ≡ false
eqb_differs a b h = elim (eqb_tells a b) [ inl p ↦ absurd (h p.1) | inr p ↦ p.0 ]

-- the sign of a text of which the rest begins with none
pub sign_same : (sign : List ℕ) (negative : Bool) (rest : List ℕ) → IsSign sign negative → BeginsWithNoSign rest
    → (starts_with_minus (sign ++ rest) ≡ negative) × (without_leading_sign (sign ++ rest) ≡ rest)
sign_same sign negative rest (inl (e, n)) clear = rw (e, n) (no_sign rest clear)
  where
    no_sign : (rest : List ℕ) → BeginsWithNoSign rest → (starts_with_minus rest ≡ false) × (without_leading_sign rest ≡ rest)
    no_sign [] clear = (refl, refl)
    no_sign (c ∷ cs) clear = rw (eqb_differs c 45 clear.1, eqb_differs c 43 clear.0) (refl, refl)
sign_same sign negative rest (inr (inl (e, n))) clear = rw (e, n) (refl, refl)
sign_same sign negative rest (inr (inr (e, n))) clear = rw (e, n) (refl, refl)

pub BeginsWithNoSign-digits : (ds : List ℕ) → AllDigits 10 ds → BeginsWithNoSign ds
BeginsWithNoSign-digits [] all = tt
BeginsWithNoSign-digits (c ∷ cs) all = let range = digit_from_value c all.0 in (omega arith, omega arith)

BeginsWithNoSign-number : (whole point fraction : List ℕ) → AllDigits 10 whole → IsPoint point fraction → BeginsWithNoSign (whole ++ (point ++ fraction))
BeginsWithNoSign-number [] point fraction all (inl (e, f)) = rw (e, f) tt
BeginsWithNoSign-number [] point fraction all (inr e) = rw e (omega arith, omega arith)
BeginsWithNoSign-number (c ∷ cs) point fraction all is_point = let range = digit_from_value c all.0 in (omega arith, omega arith)

pub BeginsWithNoDigit-point : (point fraction : List ℕ) → IsPoint point fraction → BeginsWithNoDigit (point ++ fraction)
BeginsWithNoDigit-point point fraction (inl (e, f)) = rw (e, f) tt
BeginsWithNoDigit-point point fraction (inr e) = rw e (omega arith)

-- what a reader knows that takes the sign and then the digits at the front
pub record Parts (text : List ℕ) (whole rest : List ℕ) : Type 0 where
  pub parts : without_leading_sign text ≡ whole ++ rest
  pub digits : AllDigits 10 whole
  pub ends : BeginsWithNoDigit rest

pub record SameParts (text : List ℕ) (negative : Bool) (whole rest whole' fraction' : List ℕ) : Type 0 where
  pub same_sign : negative ≡ starts_with_minus text
  pub same_whole : whole' ≡ whole
  pub point : List ℕ
  pub is_point : IsPoint point fraction'
  pub after : rest ≡ point ++ fraction'

pub number_text_same : (text whole rest : List ℕ) → Parts text whole rest → (negative : Bool) (whole' fraction' : List ℕ)
    → IsNumberText text negative whole' fraction' → SameParts text negative whole rest whole' fraction'
number_text_same text whole rest read negative whole' fraction' t =
    let digits = AllDigits-front whole' fraction' t.is_numeral.1 in
    let same = sign_same t.sign negative (whole' ++ (t.point ++ fraction')) t.is_sign (BeginsWithNoSign-number whole' t.point fraction' digits t.is_point) in
    let e : whole' ++ (t.point ++ fraction') ≡ whole ++ rest =
    sym same.1 ∙ ap without_leading_sign (sym t.text) ∙ read.parts in
    let both = leading_digits_same whole' whole (t.point ++ fraction') rest digits read.digits (BeginsWithNoDigit-point t.point fraction' t.is_point) read.ends e in
    record {
      same_sign = sym same.0 ∙ ap starts_with_minus (sym t.text);
      same_whole = both.0;
      point = t.point;
      is_point = t.is_point;
      after = sym both.1;
    }

pub number_text_of : (text whole rest point fraction : List ℕ) → Parts text whole rest → IsPoint point fraction → AllDigits 10 fraction
    → rest ≡ point ++ fraction → 0 < length whole + length fraction → IsNumberText text (starts_with_minus text) whole fraction
number_text_of text whole rest point fraction read is_point digits e some =
    let s = signed_text text in
    record {
      sign = s.sign;
      point = point;
      text = s.parts ∙ ap (λ r. s.sign ++ r) (read.parts ∙ ap (λ r. whole ++ r) e);
      is_sign = s.is_sign;
      is_point = is_point;
      is_numeral = (omega (arith, length-append whole fraction), AllDigits-append whole fraction read.digits digits);
    }

-- an integer's text, as std's `parse` reads it
pub integer_same : (text sign digits : List ℕ) (negative : Bool) → text ≡ sign ++ digits → IsSign sign negative → AllDigits 10 digits
    → (starts_with_minus text ≡ negative) × (without_leading_sign text ≡ digits)
integer_same text sign digits negative e is_sign all =
    let same = sign_same sign negative digits is_sign (BeginsWithNoSign-digits digits all) in
    (ap starts_with_minus e ∙ same.0, ap without_leading_sign e ∙ same.1)

pub behind_point : (text : List ℕ) → 0 < length text → get_or text 0 0 ≡ 46 → text ≡ 46 ∷ drop 1 text
behind_point [] some e = absurd (omega arith)
behind_point (c ∷ cs) some e = ap (λ x. x ∷ cs) e

-- a point with digits alone behind it
pub fraction_of : (text after digits rest : List ℕ) → text ≡ 46 ∷ after → after ≡ digits ++ rest → AllDigits 10 digits → length rest ≡ 0
    → (point : List ℕ) × IsPoint point digits × AllDigits 10 digits × (text ≡ point ++ digits)
fraction_of text after digits [] e f all none = (46 ∷ [], inr refl, all, e ∙ ap (λ x. 46 ∷ x) (f ∙ append-nil digits))
fraction_of text after digits (c ∷ cs) e f all none = absurd (omega arith)

pub no_fraction : (text after digits rest : List ℕ) → text ≡ 46 ∷ after → after ≡ digits ++ rest → AllDigits 10 digits → BeginsWithNoDigit rest → 0 < length rest
    → (point fraction : List ℕ) → IsPoint point fraction → AllDigits 10 fraction → text ≢ point ++ fraction
no_fraction text after digits rest e f all ends more point fraction (inl (p, q)) digits' h =
    let none : 46 ∷ after ≡ [] = sym e ∙ h ∙ rw (p, q) refl in cc
no_fraction text after digits rest e f all ends more point fraction (inr p) digits' h =
    let both : 46 ∷ after ≡ 46 ∷ fraction = sym e ∙ h ∙ rw p refl in
    let same : fraction ≡ after = cc in
    let parts = leading_digits_same fraction digits [] rest digits' all tt ends (append-nil fraction ∙ same ∙ f) in
    omega (arith, ap (λ (x : List ℕ). length x) parts.1)

pub is_some_length : (n : ℕ) → eqb n 0 ≡ false → 0 < n
is_some_length zero h = absurd (true≢false h)
is_some_length (suc n) h = omega arith

-- a text has the parts of one number alone
pub number_text_one : (text : List ℕ) (negative negative' : Bool) (whole whole' fraction fraction' : List ℕ)
    → IsNumberText text negative whole fraction → IsNumberText text negative' whole' fraction'
    → (negative' ≡ negative) × (whole' ≡ whole) × (fraction' ≡ fraction)
number_text_one text negative negative' whole whole' fraction fraction' t t' =
    let digits = AllDigits-front whole fraction t.is_numeral.1 in
    let own = sign_same t.sign negative (whole ++ (t.point ++ fraction)) t.is_sign (BeginsWithNoSign-number whole t.point fraction digits t.is_point) in
    let read : Parts text whole (t.point ++ fraction) = record {
      parts = ap without_leading_sign t.text ∙ own.1;
      digits = digits;
      ends = BeginsWithNoDigit-point t.point fraction t.is_point;
    } in
    let same = number_text_same text whole (t.point ++ fraction) read negative' whole' fraction' t' in (
      same.same_sign ∙ ap starts_with_minus t.text ∙ own.0,
      same.same_whole,
      fraction_same same.point t.point fraction' fraction same.is_point t.is_point (sym same.after),
    )
  where
    fraction_same : (p q f g : List ℕ) → IsPoint p f → IsPoint q g → p ++ f ≡ q ++ g → f ≡ g
    fraction_same p q f g (inl (a, b)) (inl (c, d)) e = b ∙ sym d
    fraction_same p q f g (inl (a, b)) (inr d) e = let bad : [] ≡ 46 ∷ g = sym (rw (a, b) refl) ∙ e ∙ rw d refl in cc
    fraction_same p q f g (inr b) (inl (c, d)) e = let bad : 46 ∷ f ≡ [] = sym (rw b refl) ∙ e ∙ rw (c, d) refl in cc
    fraction_same p q f g (inr b) (inr d) e = let good : 46 ∷ f ≡ 46 ∷ g = sym (rw b refl) ∙ e ∙ rw d refl in cc
