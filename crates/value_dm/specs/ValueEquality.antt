-- The derived test of two values says exactly whether they are equal.
use Rattle.std.specs.Prelude.{◌≡◌, true, refl}
use Rattle.std.proofs.Common.{ap, rules, subst}
use Rattle.std.specs.Cmp.Lexicographic.{bytes_decides}
use Rattle.value_dm.specs.Sameness.{and_parts, date_same, date_time_same, decimal_same, time_same}
use Rattle.value_dm.specs.contracts.calendar.DatePartialEq.TheImpl.{eq-value as date-value}
use Rattle.value_dm.specs.contracts.calendar.TimePartialEq.TheImpl.{eq-value as time-value}
use Rattle.value_dm.specs.declared.calendar.Date.{Date}
use Rattle.value_dm.specs.declared.calendar.Time.{Time}
use Rattle.value_dm.specs.contracts.value.ValuePartialEq.TheImpl.{eq-value}
use Rattle.value_dm.specs.declared.value.Value.{Value}
use Rattle.value_dm.specs.declared.value.Value.TheVariants as value

same_date : (a b : Date) → date-value.it a b ≡ true → a ≡ b
same_date a b h = search (rules, date_same)

same_time : (a b : Time) → time-value.it a b ≡ true → a ≡ b
same_time a b h = search (rules, time_same)

same_from_test : (x y : Value) → eq-value.it x y ≡ true → x ≡ y
same_from_test (value.Text s) (value.Text t) h = ap value.Text ((bytes_decides s t).0 h)
same_from_test (value.Integer y) (value.Integer z) h = ap value.Integer (search rules)
same_from_test (value.Decimal a) (value.Decimal b) h = ap value.Decimal (search (rules, decimal_same))
same_from_test (value.Boolean a) (value.Boolean b) h = ap value.Boolean (search rules)
same_from_test (value.Date a) (value.Date b) h = ap value.Date (search (rules, date_same))
same_from_test (value.Time a) (value.Time b) h = ap value.Time (search (rules, time_same))
same_from_test (value.DateTime a) (value.DateTime b) h =
    let parts = and_parts (date-value.it a.date b.date) (time-value.it a.time b.time) h in
    ap value.DateTime (date_time_same a b (same_date a.date b.date parts.0) (same_time a.time b.time parts.1))
same_from_test (value.Binary s) (value.Binary t) h = ap value.Binary ((bytes_decides s t).0 h)
same_from_test x y h = cc h

itself : (x : Value) → eq-value.it x x ≡ true
itself (value.Text t) = (bytes_decides t t).1 refl
itself (value.Integer z) = search rules
itself (value.Decimal d) = search rules
itself (value.Boolean b) = search rules
itself (value.Date d) = search rules
itself (value.Time t) = search rules
itself (value.DateTime x) = search rules
itself (value.Binary b) = (bytes_decides b b).1 refl

pub values_decide : (x y : Value) → (eq-value.it x y ≡ true → x ≡ y) × (x ≡ y → eq-value.it x y ≡ true)
values_decide x y = (same_from_test x y, λ e. let P : Value → Type 0 = λ z. eq-value.it x z ≡ true in subst P e (itself x))
