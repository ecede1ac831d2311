-- Two values of a struct with laws are the same where their plain fields are.
use Rattle.std.specs.Prelude.{◌≡◌, ℕ, ℤ, Bool, true, false, ◌&&◌, refl}
use Rattle.std.proofs.Common.{subst, ap}
use Rattle.std.proofs.lemmas.Bool.{false≢true}
use Rattle.std.proofs.Props.{props}
use Rattle.value_dm.specs.Calendar.{IsCalendarDate, IsTimeOfDay}
use Rattle.value_dm.specs.Decimals.{IsDecimal}
use Rattle.value_dm.specs.Equality.{DecidesEqual}
use Rattle.value_dm.specs.declared.decimal.Decimal.{Decimal}
use Rattle.value_dm.specs.declared.calendar.Date.{Date}
use Rattle.value_dm.specs.declared.calendar.Time.{Time}
use Rattle.value_dm.specs.declared.calendar.DateTime.{DateTime}

-- what is made of a key and a law of it that has one proof at most
pub made_same : {K R : Type 0} (Law : K → Type 0) → ((k : K) → IsProp (Law k)) → (make : (k : K) → Law k → R)
    → (k l : K) (p : Law k) (q : Law l) → k ≡ l → make k p ≡ make l q
made_same {K} {R} Law one make k l p q e =
    let P : K → Type 0 = λ x. (r : Law x) → make k p ≡ make x r in
    subst P e (λ r. ap (make k) (one k p r)) q

pub decimal_same : (a b : Decimal) → a.coefficient ≡ b.coefficient → a.scale ≡ b.scale → a ≡ b
decimal_same a b c s =
    let Law : ℤ × ℕ → Type 0 = λ k. IsDecimal k.0 k.1 in
    let make : (k : ℤ × ℕ) → Law k → Decimal = λ k p. record { coefficient = k.0; scale = k.1; in_digits = p.0; in_scale = p.1; shortest = p.2 } in
    made_same Law (λ k. hlevel props) make (a.coefficient, a.scale) (b.coefficient, b.scale) (a.in_digits, a.in_scale, a.shortest) (b.in_digits, b.in_scale, b.shortest) (λ i. (c i, s i))

pub date_same : (a b : Date) → a.year ≡ b.year → a.month ≡ b.month → a.day ≡ b.day → a ≡ b
date_same a b y m d =
    let Law : ℕ × ℕ × ℕ → Type 0 = λ k. IsCalendarDate k.0 k.1 k.2 in
    let make : (k : ℕ × ℕ × ℕ) → Law k → Date = λ k p. record { year = k.0; month = k.1; day = k.2; exists = p } in
    made_same Law (λ k. hlevel props) make (a.year, a.month, a.day) (b.year, b.month, b.day) a.exists b.exists (λ i. (y i, m i, d i))

pub time_same : (a b : Time) → a.hour ≡ b.hour → a.minute ≡ b.minute → a.second ≡ b.second → a.nanosecond ≡ b.nanosecond → a ≡ b
time_same a b h m s n =
    let Law : ℕ × ℕ × ℕ × ℕ → Type 0 = λ k. IsTimeOfDay k.0 k.1 k.2 k.3 in
    let make : (k : ℕ × ℕ × ℕ × ℕ) → Law k → Time = λ k p. record { hour = k.0; minute = k.1; second = k.2; nanosecond = k.3; exists = p } in
    made_same Law (λ k. hlevel props) make (a.hour, a.minute, a.second, a.nanosecond) (b.hour, b.minute, b.second, b.nanosecond) a.exists b.exists (λ i. (h i, m i, s i, n i))

pub date_time_same : (a b : DateTime) → a.date ≡ b.date → a.time ≡ b.time → a ≡ b
date_time_same a b d t = λ i. record { date = d i; time = t i }

pub and_parts : (a b : Bool) → (a && b) ≡ true → (a ≡ true) × (b ≡ true)
and_parts true b h = (refl, h)
and_parts false b h = absurd (false≢true h)

-- two tests that decide whether parts are equal decide it of both
pub both_decide : {A B : Type 0} {f : A → A → Bool} {g : B → B → Bool} → DecidesEqual f → DecidesEqual g
    → (a c : A) (b d : B) → ((f a c && g b d) ≡ true → (a ≡ c) × (b ≡ d)) × (a ≡ c → b ≡ d → (f a c && g b d) ≡ true)
both_decide {A} {B} {f} {g} decides_f decides_g a c b d = (
  λ h. let parts = and_parts (f a c) (g b d) h in ((decides_f a c).0 parts.0, (decides_g b d).0 parts.1),
  λ e k. rw ((decides_f a c).1 e) ((decides_g b d).1 k),
)

pub date_times_decide : {f : Date → Date → Bool} {g : Time → Time → Bool} → DecidesEqual f → DecidesEqual g
    → DecidesEqual (λ (a b : DateTime). f a.date b.date && g a.time b.time)
date_times_decide {f} {g} dates times a b =
    let both = both_decide dates times a.date b.date a.time b.time in (
      λ h. let parts = both.0 h in date_time_same a b parts.0 parts.1,
      λ e. both.1 (ap (λ (x : DateTime). x.date) e) (ap (λ (x : DateTime). x.time) e),
    )
