-- The kinds by their tables, and the bits of numbers and the ends of texts by their kinds.
use Rattle.std.proofs.Common.{ℕ, List, [], ◌∷◌, ◌≡◌, ◌-◌, ◌<◌, Bool, true, false, cond, refl, subst, arith, sym, suc, map, ◌*◌, ◌^◌, length, zero, ◌+◌, replicate, ◌++◌, take, drop, ap, ◌∙◌, ◌≤◌, ◌%◌}
use Rattle.std.specs.Prelude.{◌==◌, Some, unwrap_or, ◌||◌, IsTrue, All, nat_le, ◌&&◌, not, nat_lt}
use Rattle.std.proofs.lemmas.Bool.{eqb-true, le-leb, eq-eqb, and_parts, leb-true, ltb-true}
use Rattle.carrier_model.specs.Values.{width_among, width_in, is_bytes_kind, number_widths, numbers_widths, Value, number, guid, bytes, numbers, guids, parts, IsValue, kind_of, guid_widths}
use Rattle.carrier_model.specs.Bytes.{le_number, le_bytes, AllBytes}
use Rattle.carrier_model.proofs.Numbers.{le16_number, le32_number, le64_number, top, number_below}
use Rattle.carrier_model.specs.Kinds.{bits_of, is_number_kind, is_kind, OBJECT, without_null, is_numbers_kind}
use Rattle.std.proofs.lemmas.List.{length-append, length-replicate, take_at, drop_at, length-take}

-- what holds of each row of a table
abbrev pub EachRow : (ℕ → ℕ → Type 0) → List (ℕ × ℕ) → Type 0
EachRow P [] = Unit {0}
EachRow P (row ∷ rows) = P row.0 row.1 × EachRow P rows

-- holds of a kind that the table has, with its width
pub among_rows : (P : ℕ → ℕ → Type 0) (rows : List (ℕ × ℕ)) (kind : ℕ) → EachRow P rows → 0 < width_in rows kind → P kind (width_in rows kind)
among_rows P [] kind all some = absurd (omega arith)
among_rows P (row ∷ rows) kind all some = by (λ h. among_rows P rows kind all.1 h) (row.0 == kind) refl some
  where
    by : (0 < width_in rows kind → P kind (width_in rows kind)) → (b : Bool) → (row.0 == kind) ≡ b → 0 < unwrap_or (cond b (Some row.1) (width_among rows kind)) 0 → P kind (unwrap_or (cond b (Some row.1) (width_among rows kind)) 0)
    by later true e h = subst (λ k. P k row.1) (eqb-true row.0 kind e) all.0
    by later false e h = later h

-- of the kinds of texts and bytes
pub bytes_kinds : (P : ℕ → Type 0) (kind : ℕ) → P 0x001E → P 0x001F → P 0x0102 → IsTrue (is_bytes_kind kind) → P kind
bytes_kinds P kind a b c = by (kind == 0x001E) (kind == 0x001F) (kind == 0x0102) refl refl refl
  where
    by : (p q r : Bool) → (kind == 0x001E) ≡ p → (kind == 0x001F) ≡ q → (kind == 0x0102) ≡ r → IsTrue ((p || q) || r) → P kind
    by true q r e f g h = subst P (sym (eqb-true kind 0x001E e)) a
    by false true r e f g h = subst P (sym (eqb-true kind 0x001F f)) b
    by false false true e f g h = subst P (sym (eqb-true kind 0x0102 g)) c
    by false false false e f g h = absurd cc

pub map_again : (write : ℕ → List ℕ) (P : ℕ → Type 0) → ((n : ℕ) → P n → le_number (write n) ≡ n) → (xs : List ℕ) → All P xs → map le_number (map write xs) ≡ xs
map_again write P again [] all = refl
map_again write P again (x ∷ xs) all = λ i. again x (all 0 x (omega arith)) i ∷ map_again write P again xs (λ k d lt. all (suc k) d (omega arith)) i

-- a number of a width is read as it is written
abbrev pub IsAgain : ℕ → Type 0
IsAgain w = (n : ℕ) → n < 2 ^ (8 * w) → (le_number (le_bytes w n) ≡ n) × (length (le_bytes w n) ≡ w)

again2 : IsAgain 2
again2 n lt = (le16_number n lt, refl)

again4 : IsAgain 4
again4 n lt = (le32_number n lt, refl)

again8 : IsAgain 8
again8 n lt = (le64_number n lt, refl)

abbrev pub IsBitsAgain : ℕ → ℕ → Type 0
IsBitsAgain kind w = (n : ℕ) → n < 2 ^ (8 * w) → (kind ≡ 0x000B → n < 2) → (bits_of kind (le_bytes w n) ≡ n) × (length (le_bytes w n) ≡ w)

boolean_again : IsBitsAgain 0x000B 2
boolean_again zero lt b = (refl, refl)
boolean_again (suc zero) lt b = (refl, refl)
boolean_again (suc (suc n)) lt b = absurd (let h : suc (suc n) < 2 = b refl in omega arith)

pub number_again : (kind : ℕ) → 0 < width_in number_widths kind → IsBitsAgain kind (width_in number_widths kind)
number_again kind some = among_rows IsBitsAgain number_widths kind (λ n lt b. again2 n lt, (λ n lt b. again4 n lt, (λ n lt b. again4 n lt, (λ n lt b. again8 n lt, (λ n lt b. again8 n lt, (λ n lt b. again8 n lt, (λ n lt b. again4 n lt, (boolean_again, (λ n lt b. again8 n lt, (λ n lt b. again8 n lt, tt)))))))))) some

-- a kind of several numbers is none of the kinds before it
abbrev pub IsSeveral : ℕ → ℕ → Type 0
IsSeveral kind w = (is_number_kind kind ≡ false) × ((kind == 0x0048) ≡ false) × (is_bytes_kind kind ≡ false) × IsAgain w

pub several : (kind : ℕ) → 0 < width_in numbers_widths kind → IsSeveral kind (width_in numbers_widths kind)
several kind some = among_rows IsSeveral numbers_widths kind
    ((refl, refl, refl, again2), ((refl, refl, refl, again4), ((refl, refl, refl, again4), ((refl, refl, refl, again8), ((refl, refl, refl, again8), ((refl, refl, refl, again8), ((refl, refl, refl, again8), ((refl, refl, refl, again8), tt)))))))) some

-- a kind that a tag may have, and no Object
pub record IsListKind (kind : ℕ) : Type 0 where
  pub known : is_kind kind ≡ true
  pub no_object : (kind == OBJECT) ≡ false
  pub short : kind < 65536

listed : (kind : ℕ) → is_kind kind ≡ true → (kind == OBJECT) ≡ false → kind < 65536 → IsListKind kind
listed kind p q r = record { known = p; no_object = q; short = r }

parts_kind : (kind : ℕ) → IsTrue (is_bytes_kind kind) → IsListKind (kind + 0x1000)
parts_kind kind = bytes_kinds (λ k. IsListKind (k + 0x1000)) kind (listed 0x101E refl refl (omega arith)) (listed 0x101F refl refl (omega arith)) (listed 0x1102 refl refl (omega arith))

pub list_kind : (v : Value) → IsValue v → IsListKind (kind_of v)
list_kind (number kind bits) h = among_rows (λ k w. IsListKind k) number_widths kind (
  listed 0x0002 refl refl (omega arith),
  (
    listed 0x0003 refl refl (omega arith),
    (
      listed 0x0004 refl refl (omega arith),
      (
        listed 0x0005 refl refl (omega arith),
        (
          listed 0x0006 refl refl (omega arith),
          (listed 0x0007 refl refl (omega arith), (listed 0x000A refl refl (omega arith), (listed 0x000B refl refl (omega arith), (listed 0x0014 refl refl (omega arith), (listed 0x0040 refl refl (omega arith), tt))))),
        ),
      ),
    ),
  ),
) h.1
list_kind (guid set) h = listed 0x0048 refl refl (omega arith)
list_kind (bytes kind x) h = bytes_kinds IsListKind kind (listed 0x001E refl refl (omega arith)) (listed 0x001F refl refl (omega arith)) (listed 0x0102 refl refl (omega arith)) h.kind_is
list_kind (numbers kind list) h = among_rows (λ k w. IsListKind k) numbers_widths kind (
  listed 0x1002 refl refl (omega arith),
  (
    listed 0x1003 refl refl (omega arith),
    (
      listed 0x1004 refl refl (omega arith),
      (
        listed 0x1005 refl refl (omega arith),
        (listed 0x1006 refl refl (omega arith), (listed 0x1007 refl refl (omega arith), (listed 0x1014 refl refl (omega arith), (listed 0x1040 refl refl (omega arith), tt)))),
      ),
    ),
  ),
) h.1
list_kind (guids list) h = listed 0x1048 refl refl (omega arith)
list_kind (parts kind list) h = let whole : kind - 0x1000 + 0x1000 ≡ kind = omega (arith, h.1) in subst IsListKind whole (parts_kind (kind - 0x1000) h.2)

number_of_zeros : (n : ℕ) → le_number (replicate n 0) ≡ 0
number_of_zeros zero = refl
number_of_zeros (suc n) = let h = number_of_zeros n in omega arith

-- one null goes, and no more
pub without_its_null : (n : ℕ) (x : List ℕ) → without_null n (x ++ replicate n 0) ≡ x
without_its_null n x =
    let len : length (x ++ replicate n 0) ≡ length x + n = length-append x (replicate n 0) ∙ ap (λ k. length x + k) (length-replicate n 0) in
    let cut : length (x ++ replicate n 0) - n ≡ length x = omega (arith, len) in
    let long : nat_le n (length (x ++ replicate n 0)) ≡ true = le-leb n (length (x ++ replicate n 0)) (omega (arith, len)) in
    let behind : drop (length (x ++ replicate n 0) - n) (x ++ replicate n 0) ≡ replicate n 0 = ap (λ k. drop k (x ++ replicate n 0)) cut ∙ drop_at x (replicate n 0) (length x) refl in
    let zeros : (le_number (drop (length (x ++ replicate n 0) - n) (x ++ replicate n 0)) == 0) ≡ true = eq-eqb _ 0 (ap le_number behind ∙ number_of_zeros n) in
    let before : take (length (x ++ replicate n 0) - n) (x ++ replicate n 0) ≡ x = ap (λ k. take k (x ++ replicate n 0)) cut ∙ take_at x (replicate n 0) (length x) refl in
    rw (long, zeros) before

pub without_null-shorter : (n : ℕ) (x : List ℕ) → length (without_null n x) ≤ length x
without_null-shorter n x = by (nat_le n (length x) && (le_number (drop (length x - n) x) == 0))
  where
    by : (b : Bool) → length (cond b (take (length x - n) x) x) ≤ length x
    by true = omega (arith, length-take (length x - n) x)
    by false = omega arith

pub without_null-even : (x : List ℕ) → length x % 2 ≡ 0 → length (without_null 2 x) % 2 ≡ 0
without_null-even x e = by (nat_le 2 (length x) && (le_number (drop (length x - 2) x) == 0))
  where
    by : (b : Bool) → length (cond b (take (length x - 2) x) x) % 2 ≡ 0
    by true = omega (arith, length-take (length x - 2) x)
    by false = e

-- the numbers of a width
abbrev IsTop : ℕ → ℕ → Type 0
IsTop kind w = top w ≡ 2 ^ (8 * w)

pub top_number : (kind : ℕ) → 0 < width_in number_widths kind → top (width_in number_widths kind) ≡ 2 ^ (8 * width_in number_widths kind)
top_number kind some = among_rows IsTop number_widths kind (refl, (refl, (refl, (refl, (refl, (refl, (refl, (refl, (refl, (refl, tt)))))))))) some

pub top_numbers : (kind : ℕ) → 0 < width_in numbers_widths kind → top (width_in numbers_widths kind) ≡ 2 ^ (8 * width_in numbers_widths kind)
top_numbers kind some = among_rows IsTop numbers_widths kind (refl, (refl, (refl, (refl, (refl, (refl, (refl, (refl, tt)))))))) some

pub width_below : (w p : ℕ) (x : List ℕ) → top w ≡ p → length x ≡ w → AllBytes x → le_number x < p
width_below w p x e len h = omega (arith, number_below x h, ap top len, e)

not_zero : (n : ℕ) → not (n == 0) ≡ true → 0 < n
not_zero zero e = absurd cc
not_zero (suc n) e = omega arith

is_zero : (n : ℕ) → not (n == 0) ≡ false → n ≡ 0
is_zero n e = eqb-true n 0 (turned (n == 0) e)
  where
    turned : (b : Bool) → not b ≡ false → b ≡ true
    turned true f = refl
    turned false f = absurd cc

pub bits_below : (kind p : ℕ) (x : List ℕ) → le_number x < p → bits_of kind x < p
bits_below kind p x lt = by ((kind == 0x000B) && not (le_number x == 0)) refl
  where
    by : (b : Bool) → ((kind == 0x000B) && not (le_number x == 0)) ≡ b → cond b 1 (le_number x) < p
    by true e = let some = not_zero (le_number x) (and_parts (kind == 0x000B) (not (le_number x == 0)) e).1 in omega (arith, some, lt)
    by false e = lt

pub bits_boolean : (kind : ℕ) (x : List ℕ) → kind ≡ 0x000B → bits_of kind x < 2
bits_boolean kind x e = subst (λ k. bits_of k x < 2) (sym e) (by (not (le_number x == 0)) refl)
  where
    by : (b : Bool) → not (le_number x == 0) ≡ b → cond b 1 (le_number x) < 2
    by true f = omega arith
    by false f = omega (arith, is_zero (le_number x) f)

-- a kind with a width is one of the kinds whose tests come before the last
abbrev IsSeen : ℕ → ℕ → Type 0
IsSeen kind w = (is_number_kind kind || ((kind == 0x0048) || (is_numbers_kind kind || (kind == 0x1048)))) ≡ true

is_seen : (kind : ℕ) → 0 < width_in (number_widths ++ numbers_widths ++ guid_widths) kind → IsSeen kind 0
is_seen kind some = among_rows IsSeen (number_widths ++ numbers_widths ++ guid_widths) kind
    (refl, (refl, (refl, (refl, (refl, (refl, (refl, (refl, (refl, (refl, (refl, (refl, (refl, (refl, (refl, (refl, (refl, (refl, (refl, (refl, tt)))))))))))))))))))) some

none_seen : (a b c d : Bool) → a ≡ false → b ≡ false → c ≡ false → d ≡ false → (a || (b || (c || d))) ≡ true → ⊥
none_seen true b c d p q r t e = absurd cc
none_seen false true c d p q r t e = absurd cc
none_seen false false true d p q r t e = absurd cc
none_seen false false false true p q r t e = absurd cc
none_seen false false false false p q r t e = absurd cc

pub last_kind : (kind : ℕ) → is_kind kind ≡ true → is_number_kind kind ≡ false → (kind == 0x0048) ≡ false → is_bytes_kind kind ≡ false → is_numbers_kind kind ≡ false → (kind == 0x1048) ≡ false → (0x1000 ≤ kind) × (is_bytes_kind (kind - 0x1000) ≡ true)
last_kind kind known a b c d e = by (nat_lt 0 (width_in (number_widths ++ numbers_widths ++ guid_widths) kind)) (is_bytes_kind kind) refl c known
  where
    by : (w t : Bool) → nat_lt 0 (width_in (number_widths ++ numbers_widths ++ guid_widths) kind) ≡ w → t ≡ false → (w || (t || (nat_le 0x1000 kind && is_bytes_kind (kind - 0x1000)))) ≡ true → (0x1000 ≤ kind) × (is_bytes_kind (kind - 0x1000) ≡ true)
    by true t f g h = absurd (none_seen (is_number_kind kind) (kind == 0x0048) (is_numbers_kind kind) (kind == 0x1048) a b d e (is_seen kind (ltb-true 0 (width_in (number_widths ++ numbers_widths ++ guid_widths) kind) f)))
    by false true f g h = absurd cc
    by false false f g h = let q = and_parts (nat_le 0x1000 kind) (is_bytes_kind (kind - 0x1000)) h in (leb-true 0x1000 kind q.0, q.1)
