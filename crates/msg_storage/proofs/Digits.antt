-- Names that are a prefix and digits, read unit by unit.

use Rattle.std.proofs.Common.{◌≡◌, ℕ, zero, ◌+◌, ◌*◌, ◌-◌, ◌≤◌, ◌<◌, ◌^◌, Bool, true, false, ◌&&◌, List, [], ◌∷◌, ◌++◌, length, map, take, drop, get_or, Option, Some, None, refl, sym, ap, ◌∙◌, take_all, add-one, arith}
use Rattle.std.specs.Prelude.{cond, ◌||◌, nat_le, slice_get, ◌==◌}
use Rattle.std.specs.List.{list_all}
use Rattle.std.specs.Char.{to_ascii_lowercase}
use Rattle.std.proofs.Math.Nat.{pow-le-pow_right, pow-succ'}
use Rattle.std.proofs.lemmas.Bool.{and_parts, leb-true, le-leb, lt-leb, cond-true, cond-false, ne_eqb, eq-eqb}
use Rattle.std.proofs.lemmas.List.{map-append, take-append-drop, drop-map, length-map, length-drop, get_or-map}
use Rattle.std.proofs.lemmas.List.Folds.{list_all-append}
use Rattle.std.proofs.lemmas.List.Sums.{fold-append}
use Rattle.std.proofs.lemmas.Option.{slice_get_within, get_or_from_slice_get}
use Rattle.std.proofs.lemmas.Slice.Eq.{bytes_eq-Decides}
use Rattle.carrier_model.specs.Files.{folded}
use Rattle.carrier_model.specs.Lookups.{same_name}
use Rattle.carrier_model.proofs.Messages.{taken_at}
use Rattle.carrier_model.proofs.Trees.{drop_at}
use Rattle.msg_model.specs.MsgMessage.{is_hex, hex_number, number_in}
use Rattle.msg_storage.specs.Numbered.{digit_of, digits_of}

-- so many digits are read, and their number
pub record DigitsRead (units : List ℕ) (k number : ℕ) : Type 0 where
  pub hex : list_all is_hex (map to_ascii_lowercase (take k units)) ≡ true
  pub number_is : number ≡ hex_number (map to_ascii_lowercase (take k units))
  pub low : number < 16 ^ k

pub digits_none : (units : List ℕ) → DigitsRead units 0 0
digits_none units = record { hex = refl; number_is = refl; low = omega arith }

-- there is room for one digit more
pub digit_room : (units : List ℕ) (k number : ℕ) → DigitsRead units k number → k < 8 → number < 268435456
digit_room units k number h lt =
    let some : zero < 16 = omega arith in
    let seven : k ≤ 7 = omega (arith, lt) in
    let le : 16 ^ k ≤ 16 ^ 7 = pow-le-pow_right {n = 16} some {i = k} {j = 7} seven in
    omega (arith, h.low, le)

-- ---- one digit

abbrev value : ℕ → ℕ
value v = cond (nat_le v 0x39) (v - 0x30) (v - 0x57)

value_low : (v : ℕ) → is_hex v ≡ true → value v < 16
value_low v h = by (nat_le 0x30 v && nat_le v 0x39) refl h
  where
    low : v ≤ 0x39 → value v ≡ v - 0x30
    low le = cond-true (nat_le v 0x39) (v - 0x30) (v - 0x57) (le-leb v 0x39 le)

    high : 0x39 < v → value v ≡ v - 0x57
    high lt = cond-false (nat_le v 0x39) (v - 0x30) (v - 0x57) (lt-leb v 0x39 lt)

    by : (b : Bool) → (nat_le 0x30 v && nat_le v 0x39) ≡ b → (b || (nat_le 0x61 v && nat_le v 0x66)) ≡ true → value v < 16
    by true e g = let p = and_parts (nat_le 0x30 v) (nat_le v 0x39) e in let le = leb-true v 0x39 p.1 in omega (arith, low le, le)
    by false e g =
        let p = and_parts (nat_le 0x61 v) (nat_le v 0x66) g in
        let ge = leb-true 0x61 v p.0 in
        let le = leb-true v 0x66 p.1 in
        let lt : 0x39 < v = omega (arith, ge) in
        omega (arith, high lt, ge, le)

-- what a unit says that is a digit
record Digit (u d : ℕ) : Type 0 where
  hex : is_hex (to_ascii_lowercase u) ≡ true
  is : d ≡ value (to_ascii_lowercase u)
  low : d < 16

a_digit : (u d : ℕ) → Some d ≡ digit_of u → Digit u d
a_digit u d e = by (is_hex (to_ascii_lowercase u)) refl e
  where
    by : (b : Bool) → is_hex (to_ascii_lowercase u) ≡ b → Some d ≡ cond b (Some (value (to_ascii_lowercase u))) None → Digit u d
    by true h g = let same : d ≡ value (to_ascii_lowercase u) = cc in record { hex = h; is = same; low = omega (arith, same, value_low (to_ascii_lowercase u) h) }
    by false h g = absurd cc

no_digit : (u : ℕ) → None ≡ digit_of u → is_hex (to_ascii_lowercase u) ≡ false
no_digit u e = by (is_hex (to_ascii_lowercase u)) refl e
  where
    by : (b : Bool) → is_hex (to_ascii_lowercase u) ≡ b → None ≡ cond b (Some (value (to_ascii_lowercase u))) None → is_hex (to_ascii_lowercase u) ≡ false
    by true h g = absurd cc
    by false h g = h

pub digit_low : (u d : ℕ) → Some d ≡ digit_of u → d < 16
digit_low u d e = (a_digit u d e).low

-- ---- digits

module _ (units : List ℕ) (k number : ℕ) (h : DigitsRead units k number) (u : ℕ) (at : slice_get units k ≡ Some u) where
  taken : map to_ascii_lowercase (take (k + 1) units) ≡ map to_ascii_lowercase (take k units) ++ to_ascii_lowercase u ∷ []
  taken = ap (map to_ascii_lowercase) (taken_at units k u at) ∙ map-append to_ascii_lowercase (take k units) (u ∷ [])

  pub digit_more : (d new : ℕ) → Some d ≡ digit_of u → new ≡ 16 * number + d → DigitsRead units (k + 1) new
  digit_more d new e f =
      let x = a_digit u d e in
      let front : List ℕ = map to_ascii_lowercase (take k units) in
      record {
        hex = ap (list_all is_hex) taken ∙ (list_all-append is_hex front (to_ascii_lowercase u ∷ []) ∙ ((λ i. h.hex i && (x.hex i && true))));
        number_is = f ∙ ((λ i. 16 * h.number_is i + x.is i) ∙ (sym (fold-append (λ n unit. 16 * n + value unit) 0 front (to_ascii_lowercase u ∷ [])) ∙ ap hex_number (sym taken)));
        low = (let big : 16 ^ (k + 1) ≡ 16 * 16 ^ k = power k in omega (arith, f, x.low, h.low, big));
      }
    where
      power : (n : ℕ) → 16 ^ (n + 1) ≡ 16 * 16 ^ n
      power n = ap (λ m. 16 ^ m) (add-one n) ∙ pow-succ' 16 n

  pub digit_stops : None ≡ digit_of u → digits_of units ≡ None
  digit_stops e =
      let front : List ℕ = map to_ascii_lowercase (take k units) in
      let back : List ℕ = map to_ascii_lowercase (drop (k + 1) units) in
      let parts : map to_ascii_lowercase units ≡ front ++ to_ascii_lowercase u ∷ back =
      ap (map to_ascii_lowercase) (sym (take-append-drop k units) ∙ ap (λ l. take k units ++ l) (drop_at units k u at)) ∙ map-append to_ascii_lowercase (take k units) (u ∷ drop (k + 1) units) in
      let none : list_all is_hex (map to_ascii_lowercase units) ≡ false = ap (list_all is_hex) parts ∙ (list_all-append is_hex front (to_ascii_lowercase u ∷ back) ∙ (λ i. h.hex i && (no_digit u e i && list_all is_hex back))) in
      ap (λ b. cond b (Some (hex_number (map to_ascii_lowercase units))) None) none

pub digits_all : (units : List ℕ) (k number : ℕ) → DigitsRead units k number → length units ≤ k → Some number ≡ digits_of units
digits_all units k number h le =
    let all : take k units ≡ units = take_all k units le in
    let hex : list_all is_hex (map to_ascii_lowercase units) ≡ true = ap (λ l. list_all is_hex (map to_ascii_lowercase l)) (sym all) ∙ h.hex in
    ap Some (h.number_is ∙ ap (λ l. hex_number (map to_ascii_lowercase l)) all) ∙ sym (ap (λ b. cond b (Some (hex_number (map to_ascii_lowercase units))) None) hex)

-- ---- names

-- names of other lengths differ
pub other_length : (a b : List ℕ) → (length a ≡ length b → ⊥) → same_name a b ≡ false
other_length a b h = by (same_name a b) refl
  where
    by : (c : Bool) → same_name a b ≡ c → c ≡ false
    by false e = refl
    by true e = absurd (h (sym (length-map a to_ascii_lowercase) ∙ (ap length ((bytes_eq-Decides (folded a) (folded b)).0 e) ∙ length-map b to_ascii_lowercase)))

-- and names whose units at a place differ
pub other_unit : (a b : List ℕ) (k x y : ℕ) → slice_get a k ≡ Some x → slice_get b k ≡ Some y → (to_ascii_lowercase x ≡ to_ascii_lowercase y → ⊥) → same_name a b ≡ false
other_unit a b k x y at there h = by (same_name a b) refl
  where
    folded_at : (l : List ℕ) (z : ℕ) → slice_get l k ≡ Some z → get_or (folded l) k 0 ≡ to_ascii_lowercase z
    folded_at l z e = get_or-map to_ascii_lowercase l k z 0 (slice_get_within l k z e) ∙ ap to_ascii_lowercase (get_or_from_slice_get l k z z e)

    by : (c : Bool) → same_name a b ≡ c → c ≡ false
    by false e = refl
    by true e = absurd (h (sym (folded_at a x at) ∙ (ap (λ l. get_or l k 0) ((bytes_eq-Decides (folded a) (folded b)).0 e) ∙ folded_at b y there)))

pub folded_more : (a b : List ℕ) (k x y : ℕ) → folded (take k a) ≡ folded (take k b) → slice_get a k ≡ Some x → slice_get b k ≡ Some y → to_ascii_lowercase x ≡ to_ascii_lowercase y → folded (take (k + 1) a) ≡ folded (take (k + 1) b)
folded_more a b k x y h at there e =
    ap folded (taken_at a k x at) ∙ (map-append to_ascii_lowercase (take k a) (x ∷ []) ∙ ((λ i. h i ++ e i ∷ []) ∙ sym (ap folded (taken_at b k y there) ∙ map-append to_ascii_lowercase (take k b) (y ∷ []))))

pub folded_all : (a b : List ℕ) (k : ℕ) → folded (take k a) ≡ folded (take k b) → length a ≤ k → length b ≤ k → same_name a b ≡ true
folded_all a b k h le also = (bytes_eq-Decides (folded a) (folded b)).1 (ap folded (sym (take_all k a le)) ∙ (h ∙ ap folded (take_all k b also)))

-- ---- a name with a number

module _ (prefix name : List ℕ) where
  digits_long : length (drop (length prefix) (folded name)) ≡ length name - length prefix
  digits_long = length-drop (length prefix) (folded name) ∙ ap (λ n. n - length prefix) (length-map name to_ascii_lowercase)

  told : Bool → Bool → Option ℕ
  told a b = cond (a && (b && list_all is_hex (drop (length prefix) (folded name)))) (Some (hex_number (drop (length prefix) (folded name)))) None

  and_false : (a : Bool) → told a false ≡ None
  unfolding told
  and_false true = refl
  and_false false = refl

  pub number_short : (length name ≡ length prefix + 8 → ⊥) → number_in prefix name ≡ None
  unfolding told
  number_short h = ap (told (same_name (take (length prefix) name) prefix)) (ne_eqb (length (drop (length prefix) (folded name))) 8 (λ e. h (let e' = sym digits_long ∙ e in omega (arith, e')))) ∙ and_false (same_name (take (length prefix) name) prefix)

  pub number_other : same_name (take (length prefix) name) prefix ≡ false → number_in prefix name ≡ None
  unfolding told
  number_other h = ap (λ a. told a (length (drop (length prefix) (folded name)) == 8)) h

  pub number_found : length name ≡ length prefix + 8 → same_name (take (length prefix) name) prefix ≡ true → number_in prefix name ≡ digits_of (drop (length prefix) name)
  unfolding told
  number_found long h =
      ap (λ a. told a (length (drop (length prefix) (folded name)) == 8)) h
      ∙ (ap (told true) (eq-eqb (length (drop (length prefix) (folded name))) 8 (digits_long ∙ omega (arith, long)))
      ∙ ap (λ l. cond (list_all is_hex l) (Some (hex_number l)) None) (drop-map to_ascii_lowercase (length prefix) name))
