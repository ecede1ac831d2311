-- Values as what a hash table is asked for.
use Rattle.std.specs.Prelude.{◌≡◌, ◌++◌, true, Bool, encode_utf8_all}
use Rattle.std.specs.Cmp.{IsEquivalence, decided}
use Rattle.std.specs.Hash as fed
use Rattle.std.specs.Hash.{HashWrites}
use Rattle.std.proofs.Common.{ap}
use Rattle.value_dm.specs.ValueEquality.{values_decide}
use Rattle.value_dm.specs.contracts.value.ValuePartialEq.TheImpl.{eq-value}
use Rattle.value_dm.specs.declared.calendar.Date.{Date}
use Rattle.value_dm.specs.declared.calendar.Time.{Time}
use Rattle.value_dm.specs.declared.value.Value.{Value}
use Rattle.value_dm.specs.declared.value.Value.TheVariants as value

abbrev pub fed_date : Date → HashWrites
fed_date date = fed.u16 date.year ++ (fed.u8 date.month ++ fed.u8 date.day)

abbrev pub fed_time : Time → HashWrites
fed_time time = fed.u8 time.hour ++ (fed.u8 time.minute ++ (fed.u8 time.second ++ fed.u32 time.nanosecond))

-- what a hash is made of: the value without its kind
abbrev pub fed_value : Value → HashWrites
fed_value (value.Text text) = fed.str (encode_utf8_all text)
fed_value (value.Integer number) = fed.i64 number
fed_value (value.Decimal number) = fed.i128 number.coefficient ++ fed.u8 number.scale
fed_value (value.Boolean truth) = fed.bool truth
fed_value (value.Date date) = fed_date date
fed_value (value.Time time) = fed_time time
fed_value (value.DateTime both) = fed_date both.date ++ fed_time both.time
fed_value (value.Binary bytes) = fed.slice fed.u8 bytes

abbrev pub same_value : Value → Value → Bool
same_value a b = eq-value.it a b

pub value_equivalence : IsEquivalence same_value
value_equivalence = decided same_value values_decide

pub values_alike : (a b : Value) → same_value a b ≡ true → fed_value a ≡ fed_value b
values_alike a b e = ap fed_value ((values_decide a b).0 e)
