-- Fractions of a second, times, and dates with times.
use Rattle.std.proofs.Common.{◌≡◌, ◌≢◌, ◌≤◌, ◌⊎◌, ℕ, suc, ◌+◌, ◌-◌, ◌*◌, ◌^◌, ◌<◌, List, [], ◌∷◌, ◌++◌, length, refl, ap, ◌∙◌, sym, subst, arith, append_assoc, inl, inr, get_or, drop, take}
use Rattle.std.specs.Prelude.{codes}
use Rattle.std.specs.Str.Parse.{AllDigits, digits_value}
use Rattle.std.proofs.lemmas.Nat.{pow-add}
use Rattle.std.proofs.Math.Nat.{mul-le-mul_right, one-le-pow}
use Rattle.value_dm.specs.Lexical.{date_text}
use Rattle.value_dm.specs.Sameness.{date_same, time_same, date_time_same}
use Rattle.value_dm.specs.Spelling.{IsPoint, SpellsFraction, SpellsTime, SpellsDateTime}
use Rattle.value_dm.specs.declared.calendar.Date.{Date}
use Rattle.value_dm.specs.declared.calendar.DateTime.{DateTime}
use Rattle.value_dm.specs.declared.calendar.Time.{Time}
use Rattle.value_dm.proofs.DecimalValues.{cancel_tens}
use Rattle.value_dm.proofs.Fronts.{date_onto, date_bounds, clock_onto, clock_bounds, three_same, rest_of}

-- a text is one fraction alone
pub fraction_one : (rest : List ℕ) (m n : ℕ) → SpellsFraction rest m → SpellsFraction rest n → m ≡ n
fraction_one rest m n (inl (e, p)) (inl (f, q)) = p ∙ sym q
fraction_one rest m n (inl (e, p)) (inr h) = let bad : [] ≡ 46 ∷ h.digits = sym e ∙ h.text in cc
fraction_one rest m n (inr g) (inl (f, q)) = let bad : [] ≡ 46 ∷ g.digits = sym f ∙ g.text in cc
fraction_one rest m n (inr g) (inr h) =
    let both : 46 ∷ g.digits ≡ 46 ∷ h.digits = sym g.text ∙ h.text in
    let same : g.digits ≡ h.digits = cc in
    cancel_tens (length g.digits) m n
    (sym g.value ∙ ap (λ ds. digits_value 10 ds * 10 ^ 9) same ∙ h.value ∙ ap (λ (ds : List ℕ). n * 10 ^ length ds) (sym same))

pub no_fraction_spelled : (text : List ℕ) (n : ℕ) → length text ≢ 0
    → ((point fraction : List ℕ) → IsPoint point fraction → AllDigits 10 fraction → text ≢ point ++ fraction) → SpellsFraction text n → ⊥
no_fraction_spelled text n some none (inl (e, p)) = some (ap (λ (x : List ℕ). length x) e)
no_fraction_spelled text n some none (inr h) = none (46 ∷ []) h.digits (inr refl) h.is_numeral.1 h.text

pub behind_some_point : (text point digits : List ℕ) → IsPoint point digits → 0 < length digits → text ≡ point ++ digits → text ≡ 46 ∷ digits
behind_some_point text point digits (inl (p, q)) some e = absurd (let none = ap (λ (x : List ℕ). length x) q in omega arith)
behind_some_point text point digits (inr p) some e = e ∙ rw p refl

-- digits of a second as nanoseconds
pub shifted_bound : (v j : ℕ) → v < 10 ^ j → j ≤ 9 → v * 10 ^ (9 - j) < 10 ^ 9
shifted_bound v j small short =
    let split : 10 ^ 9 ≡ 10 ^ j * 10 ^ (9 - j) = (let sum : 9 ≡ j + (9 - j) = omega arith in ap (λ n. 10 ^ n) sum ∙ pow-add 10 j (9 - j)) in
    let some : 1 ≤ 10 ^ (9 - j) = one-le-pow (9 - j) 10 (omega arith) in
    let product = mul-le-mul_right (10 ^ (9 - j)) small in
    bound v (10 ^ j) (10 ^ (9 - j)) (10 ^ 9) split some product
  where
    bound : (v q p t : ℕ) → t ≡ q * p → 1 ≤ p → suc v * p ≤ q * p → v * p < t
    bound v q p t e some h = omega arith

pub shifted_fraction : (text digits : List ℕ) → text ≡ 46 ∷ digits → AllDigits 10 digits → 0 < length digits → length digits ≤ 9
    → SpellsFraction text (digits_value 10 digits * 10 ^ (9 - length digits))
shifted_fraction text digits e all some short = inr (record {
  digits = digits;
  text = e;
  is_numeral = (some, all);
  at_most_nine = short;
  value =
      (let sum : 9 ≡ 9 - length digits + length digits = omega arith in
      ap (λ n. digits_value 10 digits * 10 ^ n) sum ∙ ap (λ n. digits_value 10 digits * n) (pow-add 10 (9 - length digits) (length digits))
      ∙ regroup (digits_value 10 digits) (10 ^ (9 - length digits)) (10 ^ length digits));
})
  where
    regroup : (v p q : ℕ) → v * (p * q) ≡ v * p * q
    regroup v p q = omega arith

pub dates_same : (d e : Date) (r s : List ℕ) → date_text d ++ r ≡ date_text e ++ s → (d ≡ e) × (r ≡ s)
dates_same d e r s h =
    let p = date_bounds d in
    let q = date_bounds e in
    let same = three_same 4 45 _ _ _ _ _ _ r s p.0 p.1 p.2 q.0 q.1 q.2 (sym (date_onto d r) ∙ h ∙ date_onto e s) in
    (date_same d e same.first same.second same.third, same.after)

pub time_one : (text : List ℕ) (t u : Time) → SpellsTime text t → SpellsTime text u → t ≡ u
time_one text t u g h =
    let p = clock_bounds t in
    let q = clock_bounds u in
    let same = three_same 2 58 _ _ _ _ _ _ g.rest h.rest p.0 p.1 p.2 q.0 q.1 q.2 (sym (clock_onto t g.rest) ∙ sym g.text ∙ h.text ∙ clock_onto u h.rest) in
    let P : List ℕ → Type 0 = λ r. SpellsFraction r t.nanosecond in
    time_same t u same.first same.second same.third (fraction_one h.rest t.nanosecond u.nanosecond (subst P same.after g.fraction) h.fraction)

pub record BehindDate (rest : List ℕ) (d : Date) (x : DateTime) : Type 0 where
  pub same_date : d ≡ x.date
  pub separator : ℕ
  pub after : List ℕ
  pub parts : rest ≡ separator ∷ after
  pub is_separator : (separator ≡ 84) ⊎ (separator ≡ 32)
  pub time : SpellsTime after x.time

pub behind_date : (text rest : List ℕ) (d : Date) → text ≡ date_text d ++ rest → (x : DateTime) → SpellsDateTime text x → BehindDate rest d x
behind_date text rest d e x h =
    let same = dates_same d x.date rest (h.separator ++ h.rest) (sym e ∙ h.text ∙ append_assoc (date_text x.date) h.separator h.rest) in
    by_separator same h.is_separator
  where
    by_separator : (d ≡ x.date) × (rest ≡ h.separator ++ h.rest) → ((h.separator ≡ codes "T") ⊎ (h.separator ≡ codes " ")) → BehindDate rest d x
    by_separator same (inl p) = record { same_date = same.0; separator = 84; after = h.rest; parts = same.1 ∙ ap (λ s. s ++ h.rest) p; is_separator = inl refl; time = h.time }
    by_separator same (inr p) = record { same_date = same.0; separator = 32; after = h.rest; parts = same.1 ∙ ap (λ s. s ++ h.rest) p; is_separator = inr refl; time = h.time }

pub date_time_of : (text rest after : List ℕ) (separator : ℕ) (x : DateTime) → text ≡ date_text x.date ++ rest → rest ≡ separator ∷ after
    → (separator ≡ 84) ⊎ (separator ≡ 32) → SpellsTime after x.time → SpellsDateTime text x
date_time_of text rest after separator x e f is time = record {
  separator = separator ∷ [];
  rest = after;
  text = e ∙ ap (λ r. date_text x.date ++ r) f ∙ sym (append_assoc (date_text x.date) (separator ∷ []) after);
  is_separator = word is;
  time = time;
}
  where
    word : (separator ≡ 84) ⊎ (separator ≡ 32) → ((separator ∷ [] ≡ codes "T") ⊎ (separator ∷ [] ≡ codes " "))
    word (inl p) = inl (ap (λ c. c ∷ []) p)
    word (inr p) = inr (ap (λ c. c ∷ []) p)

pub date_time_one : (text : List ℕ) (x y : DateTime) → SpellsDateTime text x → SpellsDateTime text y → x ≡ y
date_time_one text x y g h =
    let one = behind_date text (g.separator ++ g.rest) x.date (g.text ∙ append_assoc (date_text x.date) g.separator g.rest) x g in
    let two = behind_date text (g.separator ++ g.rest) x.date (g.text ∙ append_assoc (date_text x.date) g.separator g.rest) y h in
    let both : one.separator ∷ one.after ≡ two.separator ∷ two.after = sym one.parts ∙ two.parts in
    let same : one.after ≡ two.after = cc in
    let P : List ℕ → Type 0 = λ r. SpellsTime r x.time in
    date_time_same x y two.same_date (time_one two.after x.time y.time (subst P same one.time) two.time)

pub date_time_empty : (text rest : List ℕ) (d : Date) → text ≡ date_text d ++ rest → length rest ≡ 0 → (x : DateTime) → SpellsDateTime text x → ⊥
date_time_empty text rest d e none x h =
    let behind = behind_date text rest d e x h in
    let some : length rest ≡ suc (length behind.after) = ap (λ (r : List ℕ). length r) behind.parts in omega arith

pub date_time_other : (text rest : List ℕ) (d : Date) → text ≡ date_text d ++ rest → (((get_or rest 0 0 ≡ 84) ⊎ (get_or rest 0 0 ≡ 32)) → ⊥)
    → (x : DateTime) → SpellsDateTime text x → ⊥
date_time_other text rest d e other x h =
    let behind = behind_date text rest d e x h in
    let first : get_or rest 0 0 ≡ behind.separator = ap (λ r. get_or r 0 0) behind.parts in
    let P : ℕ → Type 0 = λ c. (c ≡ 84) ⊎ (c ≡ 32) in
    other (subst P (sym first) behind.is_separator)

pub date_time_no_time : (text rest : List ℕ) (d : Date) → text ≡ date_text d ++ rest → ((t : Time) → SpellsTime (take (length rest - 1) (drop 1 rest)) t → ⊥)
    → (x : DateTime) → SpellsDateTime text x → ⊥
date_time_no_time text rest d e none x h =
    let behind = behind_date text rest d e x h in
    let after : drop 1 rest ≡ behind.after = ap (λ r. drop 1 r) behind.parts in
    let P : List ℕ → Type 0 = λ r. SpellsTime r x.time in
    none x.time (subst P (sym (rest_of rest 1 ∙ after)) behind.time)

pub date_time_made : (text rest : List ℕ) (x : DateTime) → text ≡ date_text x.date ++ rest → 0 < length rest → ((get_or rest 0 0 ≡ 84) ⊎ (get_or rest 0 0 ≡ 32))
    → SpellsTime (take (length rest - 1) (drop 1 rest)) x.time → SpellsDateTime text x
date_time_made text [] x e some is time = absurd (omega arith)
date_time_made text (c ∷ after) x e some is time =
    let P : List ℕ → Type 0 = λ r. SpellsTime r x.time in
    date_time_of text (c ∷ after) after c x e refl is (subst P (rest_of (c ∷ after) 1) time)
