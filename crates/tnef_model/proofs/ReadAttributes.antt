-- What the attributes of a stream give by themselves is in the form and the range of its kind.
use Rattle.std.proofs.Common.{◌≡◌, ℕ, zero, suc, ◌+◌, ◌-◌, ◌*◌, ◌<◌, ◌≤◌, ◌^◌, Bool, true, false, cond, List, [], ◌∷◌, ◌++◌, length, take, drop, refl, arith}
use Rattle.std.specs.List.{flat_map, cons_option, AllByRecursion}
use Rattle.std.specs.Option.{option_map}
use Rattle.std.specs.Prelude.{◌==◌, ◌||◌, ◌&&◌, nat_lt, nat_le, Option, Some, None, codes, bytes_eq, slice_index}
use Rattle.std.proofs.lemmas.List.{length-append}
use Rattle.std.proofs.lemmas.Bool.{leb-true, and_parts}
use Rattle.carrier_model.specs.Bytes.{AllBytes, le16, le32, sum16, le_number, units_of}
use Rattle.tnef_model.specs.Attributes.{Attr, spelling, SIGNATURE, Attrs}
use Rattle.carrier_model.specs.Keys.{id}
use Rattle.carrier_model.specs.Values.{Value, number, bytes, IsValue}
use Rattle.tnef_model.specs.Moments.{is_leap, month_days, days_of_years, days_of_months, is_moment, ticks_of}
use Rattle.carrier_model.specs.Kinds.{without_null}
use Rattle.tnef_model.specs.LegacyAttributes.{Rule, class, text, binary, date, page, position, Row, message_rows, attachment_rows, meetings, meeting_class, class_of, number32, value_by, prop_by, legacy_prop}
use Rattle.carrier_model.proofs.Numbers.{AllBytes-drop}
use Rattle.carrier_model.proofs.TreeParts.{IsListed}
use Rattle.tnef_model.proofs.ReadValues.{Fit, fit_front, fit_back}
use Rattle.carrier_model.proofs.KindLaws.{without_null-shorter}

-- ---- the bytes of attributes

-- an attribute's bytes are shorter than the stream
pub record AttrFit (a : Attr) : Type 0 where
  pub fit : Fit a.bytes
  pub short : length a.bytes < 0x1000_0000

spelling_fits : (a : Attr) → Fit (spelling a) → AttrFit a
spelling_fits a h =
    let back : Fit (a.bytes ++ le16 (sum16 a.bytes)) = fit_back (spelling a) (a.level ∷ (le32 a.id ++ le32 (length a.bytes))) (a.bytes ++ le16 (sum16 a.bytes)) refl h in
    record { fit = fit_front (a.bytes ++ le16 (sum16 a.bytes)) a.bytes (le16 (sum16 a.bytes)) refl back; short = omega (arith, h.short, length-append a.bytes (le16 (sum16 a.bytes))) }

spellings_fit : (l : List Attr) → Fit (flat_map spelling l) → AllByRecursion AttrFit l
spellings_fit [] h = tt
spellings_fit (a ∷ l) h = (spelling_fits a (fit_front (flat_map spelling (a ∷ l)) (spelling a) (flat_map spelling l) refl h), spellings_fit l (fit_back (flat_map spelling (a ∷ l)) (spelling a) (flat_map spelling l) refl h))

pub attrs_fit : (at : ℕ) (s : List ℕ) (l : List Attr) → Fit s → Attrs at s l → AllByRecursion AttrFit l
attrs_fit at s l h a =
    let behind = a.key ++ flat_map spelling l in
    spellings_fit l (fit_back behind a.key (flat_map spelling l) refl (fit_back s (le32 SIGNATURE) behind a.parts h))

-- ---- moments

month_short : (y m : ℕ) → month_days y m ≤ 31
month_short y m = by (m == 2) (is_leap y) ((((m == 4) || (m == 6)) || (m == 9)) || (m == 11))
  where
    by : (a b c : Bool) → cond a (cond b 29 28) (cond c 30 31) ≤ 31
    by true true c = omega arith
    by true false c = omega arith
    by false b true = omega arith
    by false b false = omega arith

years_short : (n : ℕ) → days_of_years n ≤ 366 * n
unfolding days_of_years
years_short zero = omega arith
years_short (suc n) = by (years_short n) (is_leap (1601 + n))
  where
    by : days_of_years n ≤ 366 * n → (b : Bool) → days_of_years n + cond b 366 365 ≤ 366 * suc n
    by h true = omega (arith, h)
    by h false = omega (arith, h)

months_short : (y n : ℕ) → days_of_months y n ≤ 31 * n
unfolding days_of_months
months_short y zero = omega arith
months_short y (suc n) = omega (arith, months_short y n, month_short y (suc n))

moment_short : (w : List ℕ) → is_moment w ≡ true → ticks_of w < 2 ^ 64
moment_short w e =
    let y = slice_index w 0 in
    let m = slice_index w 1 in
    let d = slice_index w 2 in
    let parts = and_parts (nat_le 1601 y && (nat_le y 9999 && (nat_le 1 m && (nat_le m 12 && (nat_le 1 d && nat_le d (month_days y m)))))) (nat_le (slice_index w 3) 23 && (nat_le (slice_index w 4) 59 && nat_le (slice_index w 5) 59)) e in
    let p1 = and_parts (nat_le 1601 y) (nat_le y 9999 && (nat_le 1 m && (nat_le m 12 && (nat_le 1 d && nat_le d (month_days y m))))) parts.0 in
    let p2 = and_parts (nat_le y 9999) (nat_le 1 m && (nat_le m 12 && (nat_le 1 d && nat_le d (month_days y m)))) p1.1 in
    let p3 = and_parts (nat_le 1 m) (nat_le m 12 && (nat_le 1 d && nat_le d (month_days y m))) p2.1 in
    let p4 = and_parts (nat_le m 12) (nat_le 1 d && nat_le d (month_days y m)) p3.1 in
    let p5 = and_parts (nat_le 1 d) (nat_le d (month_days y m)) p4.1 in
    let t1 = and_parts (nat_le (slice_index w 3) 23) (nat_le (slice_index w 4) 59 && nat_le (slice_index w 5) 59) parts.1 in
    let t2 = and_parts (nat_le (slice_index w 4) 59) (nat_le (slice_index w 5) 59) t1.1 in
    let year : y ≤ 9999 = leb-true y 9999 p2.0 in
    let month : m ≤ 12 = leb-true m 12 p4.0 in
    let day : d ≤ 31 = (let l = leb-true d (month_days y m) p5.1 in omega (arith, l, month_short y m)) in
    let hour : slice_index w 3 ≤ 23 = leb-true (slice_index w 3) 23 t1.0 in
    let minute : slice_index w 4 ≤ 59 = leb-true (slice_index w 4) 59 t2.0 in
    let second : slice_index w 5 ≤ 59 = leb-true (slice_index w 5) 59 t2.1 in
    ticks_below (days_of_years (y - 1601)) (days_of_months y (m - 1)) (d - 1) (slice_index w 3) (slice_index w 4) (slice_index w 5) (omega (arith, year, years_short (y - 1601))) (omega (arith, month, months_short y (m - 1))) (omega (arith, day)) hour minute second
  where
    ticks_below : (a b c h m s : ℕ) → a ≤ 3073668 → b ≤ 341 → c ≤ 30 → h ≤ 23 → m ≤ 59 → s ≤ 59 → (a + b + c) * 864_000_000_000 + (h * 3600 + m * 60 + s) * 10_000_000 < 2 ^ 64
    ticks_below a b c h m s p q r t u v = omega arith

-- ---- derived properties

word_below : (x : List ℕ) → AllBytes x → le_number (take 4 x) < 2 ^ 32
word_below [] h = omega arith
word_below (a ∷ []) h = let p : a < 256 = h 0 in omega arith
word_below (a ∷ b ∷ []) h = let p : a < 256 = h 0 in let q : b < 256 = h 1 in omega arith
word_below (a ∷ b ∷ c ∷ []) h = let p : a < 256 = h 0 in let q : b < 256 = h 1 in let r : c < 256 = h 2 in omega arith
word_below (a ∷ b ∷ c ∷ d ∷ x) h = let p : a < 256 = h 0 in let q : b < 256 = h 1 in let r : c < 256 = h 2 in let t : d < 256 = h 3 in omega arith

-- text or bytes of a property
abbrev IsShort : List ℕ → Type 0
IsShort x = length x < 0x1000_0000

text8_is : (x : List ℕ) → IsShort x → IsValue (bytes 0x001E x)
text8_is x lt = record { kind_is = refl; short = lt; even = λ e. absurd (omega (arith, e)) }

binary_is : (x : List ℕ) → IsShort x → IsValue (bytes 0x0102 x)
binary_is x lt = record { kind_is = refl; short = omega (arith, lt); even = λ e. absurd (omega (arith, e)) }

one_short : (b : Bool) (x y : List ℕ) → IsShort x → IsShort y → IsShort (cond b x y)
one_short true x y p q = p
one_short false x y p q = q

abbrev EachMeeting : List (List ℕ × List ℕ) → Type 0
EachMeeting [] = Unit {0}
EachMeeting (m ∷ others) = (length m.1 ≤ 100) × EachMeeting others

meeting_short : (l : List (List ℕ × List ℕ)) (x : List ℕ) → EachMeeting l → IsShort x → IsShort (meeting_class l x)
meeting_short [] x e lt = lt
meeting_short (m ∷ others) x e lt =
    let here : IsShort (codes "IPM.Schedule.Meeting." ++ m.1) = omega (arith, e.0, length-append (codes "IPM.Schedule.Meeting.") m.1) in
    one_short (bytes_eq x (codes "IPM.Microsoft Schedule." ++ m.0)) (codes "IPM.Schedule.Meeting." ++ m.1) (meeting_class others x) here (meeting_short others x e.1 lt)

class_short : (x : List ℕ) → IsShort x → IsShort (class_of x)
class_short x lt = one_short (bytes_eq x (codes "IPM.Microsoft Mail.Note")) (codes "IPM.Note") (meeting_class meetings x) (omega arith) (meeting_short meetings x (omega arith, (omega arith, (omega arith, (omega arith, (omega arith, tt))))) lt)

abbrev ValueFits : Option Value → Type 0
ValueFits None = Unit {0}
ValueFits (Some v) = IsValue v

given : (b : Bool) (v : Value) → IsValue v → ValueFits (cond b None (Some v))
given true v h = tt
given false v h = h

value_fits : (rule : Rule) (x : List ℕ) → AllBytes x → IsShort x → ValueFits (value_by rule x)
value_fits class x h lt = text8_is (class_of (without_null 1 x)) (class_short (without_null 1 x) (omega (arith, lt, without_null-shorter 1 x)))
value_fits text x h lt = text8_is (without_null 1 x) (omega (arith, lt, without_null-shorter 1 x))
value_fits binary x h lt = binary_is x lt
value_fits date x h lt = by ((length x == 14) && is_moment (units_of x)) refl
  where
    by : (b : Bool) → ((length x == 14) && is_moment (units_of x)) ≡ b → ValueFits (cond b (Some (number 0x0040 (ticks_of (units_of x)))) None)
    by true e = (moment_short (units_of x) (and_parts (length x == 14) (is_moment (units_of x)) e).1, omega arith, λ f. absurd (omega (arith, f)))
    by false e = tt
value_fits page x h lt = given (nat_lt (length x) 4 || ((number32 x == 0) || (number32 x == 1252))) (number 0x0003 (number32 x)) (word_below x h, omega arith, λ f. absurd (omega (arith, f)))
value_fits position x h lt = given (nat_lt (length x) 6 || (number32 (drop 2 x) == 0xFFFFFFFF)) (number 0x0003 (number32 (drop 2 x))) (word_below (drop 2 x) (AllBytes-drop 2 x h), omega arith, λ f. absurd (omega (arith, f)))

-- the ids of the table are ids of keys
abbrev EachId : List Row → Type 0
EachId [] = Unit {0}
EachId (row ∷ rows) = (row.1 < 0x8000) × EachId rows

prop_listed : (n : ℕ) (o : Option Value) → n < 0x8000 → ValueFits o → AllByRecursion IsListed (cons_option (option_map (λ v. record { key = id n; value = v }) o) [])
prop_listed n None lt h = tt
prop_listed n (Some v) lt h = (record { good = record { key = lt; value = h }; units = tt }, tt)

rows_listed : (rows : List Row) (n : ℕ) (x : List ℕ) → EachId rows → AllBytes x → IsShort x → AllByRecursion IsListed (cons_option (prop_by rows n x) [])
rows_listed [] n x ids h lt = tt
rows_listed (row ∷ rows) n x ids h lt = by (row.0 == n) (rows_listed rows n x ids.1 h lt)
  where
    by : (b : Bool) → AllByRecursion IsListed (cons_option (prop_by rows n x) []) → AllByRecursion IsListed (cons_option (cond b (option_map (λ v. record { key = id row.1; value = v }) (value_by row.2 x)) (prop_by rows n x)) [])
    by true rest = prop_listed row.1 (value_by row.2 x) ids.0 (value_fits row.2 x h lt)
    by false rest = rest

pub legacy_listed : (a : Attr) → AttrFit a → AllByRecursion IsListed (cons_option (legacy_prop a.id a.bytes) [])
legacy_listed a h = rows_listed (message_rows ++ attachment_rows) a.id a.bytes
    (omega arith, (omega arith, (omega arith, (omega arith, (omega arith, (omega arith, (omega arith, (omega arith, (omega arith, (omega arith, (omega arith, (omega arith, (omega arith, (omega arith, tt)))))))))))))) h.fit.bytes h.short
