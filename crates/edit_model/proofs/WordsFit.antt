-- Edits that words are keep to the form and the range of their kinds.
use Rattle.std.proofs.Common.{◌≡◌, ℕ, zero, suc, ◌+◌, ◌-◌, ◌*◌, ◌^◌, ◌/◌, ◌≤◌, ◌<◌, ◌%◌, length, List, [], ◌∷◌, ◌++◌, take, drop, refl, ap, subst, arith}
use Rattle.std.specs.Prelude.{Bool, true, false, not, cond, ◌&&◌, nat_le, nat_lt, ◌==◌, bytes_eq, slice_index, Option, Some, None, All, codes}
use Rattle.std.specs.List.{AllByRecursion, flat_map, list_all}
use Rattle.std.specs.Option.{option_map}
use Rattle.std.specs.Str.{chars, chars_after, continuation_len, lead_bits}
use Rattle.std.specs.Char.Escape.{encode_utf16}
use Rattle.std.proofs.lemmas.Bool.Decides.{nat_tests}
use Rattle.std.proofs.lemmas.List.{length-append, length-drop}
use Rattle.carrier_model.specs.HexDigits.{is_digit, digit_of, hex_behind, number_in, are_digits, number_of, is_hex, bytes_in, bytes_of, guid_of}
use Rattle.carrier_model.specs.KeyTexts.{lower, upper}
use Rattle.carrier_model.specs.Keys.{Key, id, named, numbered, IsKey}
use Rattle.carrier_model.specs.Trees.{KeyHasUnits}
use Rattle.carrier_model.specs.Values.{Value, number, guid, bytes, IsValue, number_widths, width_in}
use Rattle.carrier_model.proofs.Elements.{all_of}
use Rattle.carrier_model.proofs.HexDigits.{prints_digit}
use Rattle.carrier_model.proofs.Units.{length-units}
use Rattle.edit_model.specs.Edits.{Edit, set_prop, remove_prop, add_recipient, drop_recipient, drop_attachment, IsEdit}
use Rattle.edit_model.specs.EditWords.{◌>>=◌, where_true, id_of, name_of, key_of, edit_kinds, kind_among, kind_of_word, wide_text, numbers_below, number_value, decimal_of, value_of, place_of, message_of, place_number, set_of, remove_of, drop_of, edit_of, words_behind, edits_behind, MOST_WORD_BYTES, are_short, edits_of}

-- ---- steps

step_of : {A B : Type 0} (o : Option A) (f : A → Option B) (y : B) → (o >>= f) ≡ Some y → (x : A) × (o ≡ Some x) × (f x ≡ Some y)
step_of None f y h = absurd cc
step_of (Some x) f y h = (x, refl, h)

where_is : {A : Type 0} (b : Bool) (x y : A) → where_true b x ≡ Some y → (b ≡ true) × (x ≡ y)
where_is true x y h = (refl, cc)
where_is false x y h = absurd cc

mapped : {A B : Type 0} (f : A → B) (o : Option A) (y : B) → option_map f o ≡ Some y → (x : A) × (o ≡ Some x) × (f x ≡ y)
mapped f None y h = absurd cc
mapped f (Some x) y h = (x, refl, cc)

when : {A : Type 0} (b : Bool) (o : Option A) (y : A) → cond b o None ≡ Some y → (b ≡ true) × (o ≡ Some y)
when true o y h = (refl, h)
when false o y h = absurd cc

both : (a b : Bool) → (a && b) ≡ true → (a ≡ true) × (b ≡ true)
both true b h = (refl, h)
both false b h = absurd cc

-- ---- hexadecimal digits

digit_below : (c : ℕ) → is_digit upper c ≡ true → digit_of upper c < 16
digit_below c h = (prints_digit upper c (omega arith) h).small

four_below : (w : List ℕ) (n : ℕ) → length w ≡ 4 → list_all (is_digit upper) w ≡ true → hex_behind n w < 65536 * n + 65536
four_below (a ∷ b ∷ c ∷ d ∷ []) n is h =
    let h1 = both (is_digit upper a) _ h in
    let h2 = both (is_digit upper b) _ h1.1 in
    let h3 = both (is_digit upper c) _ h2.1 in
    let h4 = both (is_digit upper d) _ h3.1 in
    omega (arith, digit_below a h1.0, digit_below b h2.0, digit_below c h3.0, digit_below d h4.0)
four_below _ n is h = absurd (omega (arith, is))

eight_below : (w : List ℕ) → length w ≡ 8 → list_all (is_digit upper) w ≡ true → number_in w < 2 ^ 32
eight_below (a ∷ b ∷ c ∷ d ∷ rest) is h =
    let h1 = both (is_digit upper a) _ h in
    let h2 = both (is_digit upper b) _ h1.1 in
    let h3 = both (is_digit upper c) _ h2.1 in
    let h4 = both (is_digit upper d) _ h3.1 in
    let first : number_in (a ∷ b ∷ c ∷ d ∷ []) < 65536 = four_below (a ∷ b ∷ c ∷ d ∷ []) 0 refl (rw (h1.0, h2.0, h3.0, h4.0) refl) in
    let second = four_below rest (number_in (a ∷ b ∷ c ∷ d ∷ [])) (omega (arith, is)) h4.1 in
    omega (arith, first, second)
eight_below _ is h = absurd (omega (arith, is))

halved : (word : List ℕ) → length word % 2 ≡ 0 → 2 * length (bytes_in word) ≡ length word
halved [] even = refl
halved (high ∷ []) even = absurd (omega (arith, even))
halved (high ∷ low ∷ more) even = omega (arith, halved more (omega (arith, even)))

bytes_length : (word out : List ℕ) → bytes_of word ≡ Some out → 2 * length out ≡ length word
bytes_length word out h =
    let (good, same) = where_is (is_hex word) (bytes_in word) out h in
    let two = both (list_all (is_digit lower) word) (length word % 2 == 0) good in
    let even : length word % 2 ≡ 0 = let e = two.1 in grind (arith, nat_tests) in
    omega (arith, halved word even, ap length same)

guid_length : (word out : List ℕ) → guid_of word ≡ Some out → length out ≡ 16
guid_length word out h =
    let (good, same) = where_is (is_hex word && (length word == 32)) (bytes_in word) out h in
    let two = both (is_hex word) (length word == 32) good in
    let long : length word ≡ 32 = let e = two.1 in grind (arith, nat_tests) in
    omega (arith, long, halved word (omega (arith, long)), ap length same)

-- ---- keys

id_is : (word : List ℕ) (k : Key) → id_of word ≡ Some k → IsKey k × KeyHasUnits k
id_is word k h =
    let (n, read, more) = step_of (number_of 4 word) _ k h in
    let (small, same) = where_is (nat_lt n 0x8000) (id n) k more in
    let below : n < 0x8000 = grind (arith, nat_tests) in
    subst (λ x. IsKey x × KeyHasUnits x) same (below, tt)

name_is : (word : List ℕ) (k : Key) → length word ≡ 41 → name_of word ≡ Some k → IsKey k × KeyHasUnits k
name_is word k long h =
    let (set, read, more) = step_of (guid_of (take 32 word)) _ k h in
    let (n, told, last) = step_of (number_of 8 (drop 33 word)) _ k more in
    let (slash, same) = where_is (slice_index word 32 == 0x2F) (named (numbered set n)) k last in
    let (digits, said) = where_is (are_digits 8 (drop 33 word)) (number_in (drop 33 word)) n told in
    let below = eight_below (drop 33 word) (omega (arith, long, length-drop 33 word)) (both (list_all (is_digit upper) (drop 33 word)) _ digits).0 in
    subst (λ x. IsKey x × KeyHasUnits x) same ((guid_length (take 32 word) set read, omega (arith, below, said)), tt)

pub key_is : (word : List ℕ) (k : Key) → key_of word ≡ Some k → IsKey k × KeyHasUnits k
key_is word k h = by (length word == 4) (length word == 41) refl h
  where
    by : (a b : Bool) → (length word == 41) ≡ b → cond a (id_of word) (cond b (name_of word) None) ≡ Some k → IsKey k × KeyHasUnits k
    by true b is e = id_is word k e
    by false true is e = let long : length word ≡ 41 = grind (arith, nat_tests) in name_is word k long e
    by false false is e = absurd cc

-- ---- values

after_few : (n c : ℕ) (b : List ℕ) → length (chars_after n c b) ≤ length b + 1
after_few zero c [] = omega arith
after_few zero c (x ∷ b) = omega (arith, after_few (continuation_len x) (lead_bits x) b)
after_few (suc n) c [] = omega arith
after_few (suc n) c (x ∷ b) = omega (arith, after_few n (c * 64 + (x - 128)) b)

chars_few : (b : List ℕ) → length (chars b) ≤ length b
unfolding chars
chars_few [] = omega arith
chars_few (x ∷ b) = omega (arith, after_few (continuation_len x) (lead_bits x) b)

one_few : (c : ℕ) → length (encode_utf16 c) ≤ 2
one_few c = by (nat_lt c 0x1_0000)
  where
    by : (b : Bool) → length (cond b (c ∷ []) ((0xD800 + (c - 0x1_0000) / 0x400) ∷ (0xDC00 + (c - 0x1_0000) % 0x400) ∷ [])) ≤ 2
    by true = omega arith
    by false = omega arith

units_few : (cs : List ℕ) → length (flat_map encode_utf16 cs) ≤ 2 * length cs
units_few [] = omega arith
units_few (c ∷ cs) = omega (arith, one_few c, units_few cs, length-append (encode_utf16 c) (flat_map encode_utf16 cs))

string_is : (word : List ℕ) → length word ≤ MOST_WORD_BYTES → IsValue (bytes 0x001F (wide_text word))
string_is word short =
    let long = length-units (flat_map encode_utf16 (chars word)) in
    record { kind_is = refl; short = omega (arith, short, long, units_few (chars word), chars_few word); even = λ e. omega (arith, long) }

binary_is : (word text : List ℕ) → length word ≤ MOST_WORD_BYTES → bytes_of word ≡ Some text → IsValue (bytes 0x0102 text)
binary_is word text short is =
    let long = bytes_length word text is in
    record { kind_is = refl; short = omega (arith, short, long); even = λ e. absurd (omega (arith, e)) }

-- what is read of a kind keeps to it
abbrev pub Fits : ℕ → Type 0
Fits kind = (word : List ℕ) (v : Value) → length word ≤ MOST_WORD_BYTES → value_of kind word ≡ Some v → IsValue v

number_is : (kind : ℕ) → 0 < width_in number_widths kind → ((n : ℕ) → n < numbers_below kind → (n < 2 ^ (8 * width_in number_widths kind)) × (kind ≡ 0x000B → n < 2)) → (word : List ℕ) (v : Value) → number_value kind word ≡ Some v → IsValue v
number_is kind wide below word v h =
    let (n, read, more) = step_of (decimal_of word) _ v h in
    let (small, same) = where_is (nat_lt n (numbers_below kind)) (number kind n) v more in
    let lt : n < numbers_below kind = grind (arith, nat_tests) in
    let two = below n lt in
    subst IsValue same (two.0, wide, two.1)

pub row_fits : AllByRecursion (λ row. Fits row.1) edit_kinds
row_fits = (
  λ word v short. number_is 0x0002 (omega arith) (λ n lt. (omega (arith, lt), λ e. absurd (omega (arith, e)))) word v,
  (
    λ word v short. number_is 0x0003 (omega arith) (λ n lt. (omega (arith, lt), λ e. absurd (omega (arith, e)))) word v,
    (
      λ word v short. number_is 0x0014 (omega arith) (λ n lt. (omega (arith, lt), λ e. absurd (omega (arith, e)))) word v,
      (
        λ word v short. number_is 0x0006 (omega arith) (λ n lt. (omega (arith, lt), λ e. absurd (omega (arith, e)))) word v,
        (
          λ word v short. number_is 0x000A (omega arith) (λ n lt. (omega (arith, lt), λ e. absurd (omega (arith, e)))) word v,
          (
            λ word v short. number_is 0x000B (omega arith) (λ n lt. (omega (arith, lt), λ e. omega (arith, lt))) word v,
            (
              λ word v short. number_is 0x0040 (omega arith) (λ n lt. (omega (arith, lt), λ e. absurd (omega (arith, e)))) word v,
              (
                λ word v short h. let same : bytes 0x001F (wide_text word) ≡ v = cc in subst IsValue same (string_is word short),
                (
                  λ word v short h. let (text, read, same) = mapped (bytes 0x0102) (bytes_of word) v h in subst IsValue same (binary_is word text short read),
                  (
                    λ word v short h. let (set, read, same) = mapped guid (guid_of word) v h in subst IsValue same (guid_length word set read),
                    tt,
                  ),
                ),
              ),
            ),
          ),
        ),
      ),
    ),
  ),
)

pub kind_fits : (rows : List (List ℕ × ℕ)) (word : List ℕ) (kind : ℕ) → AllByRecursion (λ row. Fits row.1) rows → kind_among rows word ≡ Some kind → Fits kind
kind_fits [] word kind h is = absurd cc
kind_fits (row ∷ rows) word kind h is = by (bytes_eq row.0 word) (kind_fits rows word kind h.1) is
  where
    by : (b : Bool) → (kind_among rows word ≡ Some kind → Fits kind) → cond b (Some row.1) (kind_among rows word) ≡ Some kind → Fits kind
    by true rest e = let same : row.1 ≡ kind = cc in subst Fits same h.0
    by false rest e = rest e

-- ---- edits

set_is : (place key kind value : List ℕ) (e : Edit) → length value ≤ MOST_WORD_BYTES → set_of place key kind value ≡ Some e → IsEdit e
set_is place key kind value e short h =
    let (p, at, h1) = step_of (place_of place) _ e h in
    let (k, keyed, h2) = step_of (key_of key) _ e h1 in
    let (n, sort, h3) = step_of (kind_of_word kind) _ e h2 in
    let (v, read, h4) = step_of (value_of n value) _ e h3 in
    let same : set_prop p (record { key = k; value = v }) ≡ e = cc in
    let key_good = key_is key k keyed in
    subst IsEdit same (record { key = key_good.0; value = kind_fits edit_kinds kind n row_fits sort value v short read }, key_good.1)

remove_is : (place key kind : List ℕ) (e : Edit) → remove_of place key kind ≡ Some e → IsEdit e
remove_is place key kind e h =
    let (p, at, h1) = step_of (place_of place) _ e h in
    let (k, keyed, h2) = step_of (key_of key) _ e h1 in
    let (n, sort, h3) = step_of (kind_of_word kind) _ e h2 in
    let same : remove_prop p k n ≡ e = cc in
    subst IsEdit same tt

drop_is : (verb message n : List ℕ) (e : Edit) → drop_of verb message n ≡ Some e → IsEdit e
drop_is verb message n e h =
    let (path, at, h1) = step_of (message_of message) _ e h in
    let (k, read, h2) = step_of (place_number n) _ e h1 in
    by path k (bytes_eq verb (codes "drop-recipient")) (bytes_eq verb (codes "drop-attachment")) h2
  where
    by : (path : List ℕ) (k : ℕ) (a b : Bool) → cond a (Some (drop_recipient path k)) (where_true b (drop_attachment path k)) ≡ Some e → IsEdit e
    by path k true b is = let same : drop_recipient path k ≡ e = cc in subst IsEdit same tt
    by path k false b is = subst IsEdit (where_is b (drop_attachment path k) e is).1 tt

abbrev pub IsShort : List ℕ → Type 0
IsShort word = length word ≤ MOST_WORD_BYTES

edit_is : (verb : List ℕ) (words : List (List ℕ)) (e : Edit) → AllByRecursion IsShort words → edit_of verb words ≡ Some e → IsEdit e
edit_is verb [] e short h = absurd cc
edit_is verb (message ∷ []) e short h =
    let (is, made) = when (bytes_eq verb (codes "add-recipient")) _ e h in
    let (path, at, same) = mapped add_recipient (message_of message) e made in
    subst IsEdit same tt
edit_is verb (message ∷ n ∷ []) e short h = drop_is verb message n e h
edit_is verb (place ∷ key ∷ kind ∷ []) e short h = remove_is place key kind e (when (bytes_eq verb (codes "remove")) _ e h).1
edit_is verb (place ∷ key ∷ kind ∷ value ∷ []) e short h = set_is place key kind value e short.1.1.1.0 (when (bytes_eq verb (codes "set")) _ e h).1
edit_is verb (place ∷ key ∷ kind ∷ value ∷ more ∷ others) e short h = absurd cc

pub all_front : {A : Type 0} (P : A → Type 0) (n : ℕ) (xs : List A) → AllByRecursion P xs → AllByRecursion P (take n xs)
all_front P zero xs h = tt
all_front P (suc n) [] h = tt
all_front P (suc n) (x ∷ xs) h = (h.0, all_front P n xs h.1)

all_push : {A : Type 0} (P : A → Type 0) (xs : List A) (x : A) → AllByRecursion P xs → P x → AllByRecursion P (xs ++ x ∷ [])
all_push P [] x h k = (k, tt)
all_push P (y ∷ xs) x h k = (h.0, all_push P xs x h.1 k)

behind_are : (words : List (List ℕ)) (es : List Edit) (skipped : ℕ) (out : List Edit) → AllByRecursion IsShort words → AllByRecursion IsEdit es → edits_behind es skipped words ≡ Some out → AllByRecursion IsEdit out
behind_are [] es skipped out short good h = let same : es ≡ out = cc in subst (AllByRecursion IsEdit) same good
behind_are (verb ∷ words) es zero out short good h =
    let (e, read, more) = step_of (edit_of verb (take (words_behind verb) words)) _ out h in
    behind_are words (es ++ e ∷ []) (words_behind verb) out short.1 (all_push IsEdit es e good (edit_is verb (take (words_behind verb) words) e (all_front IsShort (words_behind verb) words short.1) read)) more
behind_are (word ∷ words) es (suc skipped) out short good h = behind_are words es skipped out short.1 good h

pub short_are : (words : List (List ℕ)) → are_short words ≡ true → AllByRecursion IsShort words
short_are [] h = tt
short_are (word ∷ words) h =
    let two = both (nat_le (length word) MOST_WORD_BYTES) (are_short words) h in
    let one : length word ≤ MOST_WORD_BYTES = grind (arith, nat_tests) in
    (one, short_are words two.1)

pub words_fit : (words : List (List ℕ)) (es : List Edit) → edits_of words ≡ Some es → All IsEdit es
words_fit words es h =
    let (tests, read) = when (not (length words == 0) && are_short words) _ es h in
    let two = both (not (length words == 0)) (are_short words) tests in
    all_of IsEdit es (behind_are words [] 0 es (short_are words two.1) tt read)
