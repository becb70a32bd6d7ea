-- The days between two dates are those from 1 January 1601.
use Rattle.std.proofs.Common.{◌≡◌, ℕ, zero, suc, ◌+◌, ◌-◌, ◌<◌, ◌≤◌, refl, ap, ◌∙◌, arith, ℤ, pos, ◌+ℤ◌, ◌-ℤ◌, unsigned_abs, w16, w8, w32, to_z, of_z}
use Rattle.jiff_core.specs.Calendar.{IsWithin, day_count, days_from_civil, days_of_months as months_of}
use Rattle.jiff_core.specs.Date.{epoch_day, IsYmd}
use Rattle.jiff_core.specs.declared.civil.date.Date.{Date}
use Rattle.jiff_core.proofs.CalendarLemmas.{day_count-day_of_year, day_count-next_year, days_from_civil-day_count}
use Rattle.jiff_core.proofs.SignedLemmas.{signed_arith, signed_casts}
use Rattle.tnef_model.specs.Moments.{days_of_years, days_of_months, month_days, day_number}

years_are : (n : ℕ) → day_count (pos (1601 + n)) 1 1 ≡ day_count (pos 1601) 1 1 + days_of_years n
unfolding days_of_years
years_are zero = omega arith
years_are (suc n) =
    let next : pos (1601 + suc n) ≡ pos (1601 + n) +ℤ pos 1 = omega (arith, signed_arith) in
    let step = day_count-next_year (pos (1601 + n)) (pos (1601 + suc n)) (omega (arith, signed_arith)) next in
    omega (arith, step, years_are n)

months_are : (y n : ℕ) → months_of (pos y) n ≡ days_of_months y n
unfolding months_of days_of_months
months_are y zero = refl
months_are y (suc n) = ap (λ k. k + month_days y (suc n)) (months_are y n)

days_are : (y m d : ℕ) → 1601 ≤ y → 1 ≤ d → day_count (pos y) m d ≡ day_count (pos 1601) 1 1 + day_number y m d
days_are y m d from day =
    let same : 1601 + (y - 1601) ≡ y = omega arith in
    let first : day_count (pos y) 1 1 ≡ day_count (pos 1601) 1 1 + days_of_years (y - 1601) = rw same at (years_are (y - 1601)) in
    omega (arith, day_count-day_of_year (pos y) m d day, first, months_are y (m - 1))

between : (y m d : ℕ) → 1601 ≤ y → 1 ≤ d → days_from_civil (pos y) m d -ℤ days_from_civil (pos 1601) 1 1 ≡ pos (day_number y m d)
between y m d from day =
    omega (arith, signed_arith, days_from_civil-day_count (pos y) m d, days_from_civil-day_count (pos 1601) 1 1, days_are y m d from day)

pub until_is : (y m d : ℕ) (given first : Date) (r : ℤ) → 1601 ≤ y → y ≤ 9999 → m ≤ 127 → d ≤ 127
    → IsYmd (to_z w16 y) (to_z w8 m) (to_z w8 d) given → IsYmd (pos 1601) (pos 1) (pos 1) first
    → r ≡ epoch_day given -ℤ epoch_day first → r ≡ pos (day_number y m d)
until_is y m d given first r from to months days g f e =
    let gy : given.year ≡ pos y = omega (arith, signed_casts, g.0) in
    let gm : given.month ≡ m = omega (arith, signed_casts, g.1) in
    let gd : given.day ≡ d = omega (arith, signed_casts, g.2) in
    let fm : first.month ≡ 1 = omega (arith, signed_casts, f.1) in
    let fd : first.day ≡ 1 = omega (arith, signed_casts, f.2) in
    let low : 1 ≤ d = omega (arith, given.day_in) in
    rw (gy, gm, gd, f.0, fm, fd) at e ∙ between y m d from low

pub count_is : (r : ℤ) (n : ℕ) → r ≡ pos n → IsWithin 7_304_483 r → (unsigned_abs (to_z w32 (of_z w32 r)) ≡ n) × (n < 7_304_484)
count_is r n e in_range =
    let small : n < 7_304_484 = omega (arith, signed_arith) in
    (rw e (omega (arith, signed_casts)), small)
