-- Which dates and times of a day exist.
use Rattle.std.specs.Prelude.{ℕ, ◌%◌, ◌^◌, ◌<◌, ◌≤◌, ◌==◌, ◌&&◌, ◌||◌, Bool, not, if◌then◌else◌}

-- ISO 8601, 4.2.1: the year has 366 days. The Gregorian rule, for all years.
abbrev pub is_leap_year : ℕ → Bool
is_leap_year year = (year % 4 == 0) && (not (year % 100 == 0) || (year % 400 == 0))

-- ISO 8601, 4.2.1, table 1: how many days a month has
abbrev pub days_in_month : ℕ → ℕ → ℕ
days_in_month year month =
    if month == 2 then (if is_leap_year year then 29 else 28)
    else if (month == 4) || (month == 6) || (month == 9) || (month == 11) then 30
    else 31

-- a date of the years 1 to 9999
abbrev pub IsCalendarDate : ℕ → ℕ → ℕ → Type 0
IsCalendarDate year month day =
    (1 ≤ year) × (year ≤ 9999) × (1 ≤ month) × (month ≤ 12) × (1 ≤ day) × (day ≤ days_in_month year month)

-- ISO 8601, 4.3: a time of a day by its 24 hours, with no leap second, and the nanoseconds past its second
abbrev pub IsTimeOfDay : ℕ → ℕ → ℕ → ℕ → Type 0
IsTimeOfDay hour minute second nanosecond = (hour < 24) × (minute < 60) × (second < 60) × (nanosecond < 10 ^ 9)
