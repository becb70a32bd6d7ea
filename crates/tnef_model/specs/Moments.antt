-- Moments of the civil calendar, counted in units of 100 nanoseconds from 1 January 1601. [MS-DTYP 2.3.3]
use Rattle.std.specs.Prelude.{ℕ, zero, suc, ◌+◌, ◌-◌, ◌*◌, ◌%◌, ◌==◌, Bool, not, ◌&&◌, ◌||◌, if◌then◌else◌, List, slice_index, nat_le}

-- every fourth year, but of the centuries only every fourth
abbrev pub is_leap : ℕ → Bool
is_leap y = (y % 4 == 0) && (not (y % 100 == 0) || (y % 400 == 0))

abbrev pub month_days : ℕ → ℕ → ℕ
month_days y m =
    if m == 2 then (if is_leap y then 29 else 28)
    else (if (m == 4) || (m == 6) || (m == 9) || (m == 11) then 30 else 31)

-- the days of the first n years from 1601 on
unfoldable pub days_of_years : ℕ → ℕ
days_of_years zero = 0
days_of_years (suc n) = days_of_years n + (if is_leap (1601 + n) then 366 else 365)

-- the days of the first n months of a year
unfoldable pub days_of_months : ℕ → ℕ → ℕ
days_of_months y zero = 0
days_of_months y (suc n) = days_of_months y n + month_days y (suc n)

-- the days from 1 January 1601 to a day
abbrev pub day_number : ℕ → ℕ → ℕ → ℕ
day_number y m d = days_of_years (y - 1601) + days_of_months y (m - 1) + (d - 1)

-- the calendar has the day, from the year 1601 to 9999
abbrev pub is_day : ℕ → ℕ → ℕ → Bool
is_day y m d = nat_le 1601 y && (nat_le y 9999 && (nat_le 1 m && (nat_le m 12 && (nat_le 1 d && nat_le d (month_days y m)))))

-- a clock shows the time of day
abbrev pub is_time_of_day : ℕ → ℕ → ℕ → Bool
is_time_of_day h m s = nat_le h 23 && (nat_le m 59 && nat_le s 59)

abbrev pub second_number : ℕ → ℕ → ℕ → ℕ
second_number h m s = h * 3600 + m * 60 + s

-- what seven words say: year, month, day, hour, minute, second, and a day of the week that is not looked at
abbrev pub is_moment : List ℕ → Bool
is_moment w = is_day (slice_index w 0) (slice_index w 1) (slice_index w 2) && is_time_of_day (slice_index w 3) (slice_index w 4) (slice_index w 5)

abbrev pub ticks_of : List ℕ → ℕ
ticks_of w = day_number (slice_index w 0) (slice_index w 1) (slice_index w 2) * 864_000_000_000
    + second_number (slice_index w 3) (slice_index w 4) (slice_index w 5) * 10_000_000
