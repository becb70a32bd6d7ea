-- The names of the storages and streams of a .msg file that is written: what they say, and that they differ.
use Rattle.std.proofs.Common.{◌≡◌, ℕ, zero, suc, ◌+◌, ◌-◌, ◌*◌, ◌/◌, ◌%◌, ◌<◌, ◌≤◌, ◌^◌, Bool, true, false, ◌&&◌, cond, List, [], ◌∷◌, ◌++◌, length, map, take, drop, get_or, Some, None, refl, sym, ap, subst, ◌∙◌, arith}
use Rattle.std.specs.Prelude.{fold, nat_le, ◌==◌}
use Rattle.std.specs.List.{AllByRecursion, IsDistinct, list_all}
use Rattle.std.specs.Char.{to_ascii_lowercase}
use Rattle.std.proofs.lemmas.Slice.Eq.{bytes_eq-Decides}
use Rattle.std.proofs.lemmas.Bool.{cond-true, and_from, and_parts}
use Rattle.std.proofs.lemmas.List.{map-append, length-map, take_at, drop_at}
use Rattle.carrier_model.specs.Files.{folded}
use Rattle.carrier_model.specs.Lookups.{same_name}
use Rattle.carrier_model.specs.KeyTexts.{upper, hex_digit, hex_digits}
use Rattle.msg_model.specs.MsgMessage.{is_hex, hex_number, number_in}
use Rattle.msg_model.specs.StreamNames.{value_name, element_name}
use Rattle.carrier_model.specs.Keys.{Name}
use Rattle.carrier_model.specs.Values.{Value, number, guid, bytes, numbers, guids, parts, Prop, IsValue}
use Rattle.msg_model.specs.WrittenMsg.{element_streams, value_streams, props_streams, tag_of}

pub every_append : {A : Type 0} (P : A → Type 0) (xs ys : List A) → AllByRecursion P xs → AllByRecursion P ys → AllByRecursion P (xs ++ ys)
every_append P [] ys h g = g
every_append P (x ∷ xs) ys h g = (h.0, every_append P xs ys h.1 g)

-- ---- digits

abbrev pub digit_number : ℕ → ℕ
digit_number unit = cond (nat_le unit 0x39) (unit - 0x30) (unit - 0x57)

-- a digit in lower case, and its number
digit_again : (d : ℕ) → d < 16 → (is_hex (to_ascii_lowercase (hex_digit upper d)) ≡ true) × (digit_number (to_ascii_lowercase (hex_digit upper d)) ≡ d)
digit_again zero lt = (refl, refl)
digit_again (suc zero) lt = (refl, refl)
digit_again (suc (suc zero)) lt = (refl, refl)
digit_again (suc (suc (suc zero))) lt = (refl, refl)
digit_again (suc (suc (suc (suc zero)))) lt = (refl, refl)
digit_again (suc (suc (suc (suc (suc zero))))) lt = (refl, refl)
digit_again (suc (suc (suc (suc (suc (suc zero)))))) lt = (refl, refl)
digit_again (suc (suc (suc (suc (suc (suc (suc zero))))))) lt = (refl, refl)
digit_again (suc (suc (suc (suc (suc (suc (suc (suc zero)))))))) lt = (refl, refl)
digit_again (suc (suc (suc (suc (suc (suc (suc (suc (suc zero))))))))) lt = (refl, refl)
digit_again (suc (suc (suc (suc (suc (suc (suc (suc (suc (suc zero)))))))))) lt = (refl, refl)
digit_again (suc (suc (suc (suc (suc (suc (suc (suc (suc (suc (suc zero))))))))))) lt = (refl, refl)
digit_again (suc (suc (suc (suc (suc (suc (suc (suc (suc (suc (suc (suc zero)))))))))))) lt = (refl, refl)
digit_again (suc (suc (suc (suc (suc (suc (suc (suc (suc (suc (suc (suc (suc zero))))))))))))) lt = (refl, refl)
digit_again (suc (suc (suc (suc (suc (suc (suc (suc (suc (suc (suc (suc (suc (suc zero)))))))))))))) lt = (refl, refl)
digit_again (suc (suc (suc (suc (suc (suc (suc (suc (suc (suc (suc (suc (suc (suc (suc zero))))))))))))))) lt = (refl, refl)
digit_again (suc (suc (suc (suc (suc (suc (suc (suc (suc (suc (suc (suc (suc (suc (suc (suc d)))))))))))))))) lt = absurd (omega (arith, lt))

fold_last : {A B : Type 0} (f : B → A → B) (b : B) (xs : List A) (x : A) → fold f b (xs ++ x ∷ []) ≡ f (fold f b xs) x
fold_last f b [] x = refl
fold_last f b (y ∷ xs) x = fold_last f (f b y) xs x

all_last : (test : ℕ → Bool) (xs : List ℕ) (x : ℕ) → list_all test xs ≡ true → test x ≡ true → list_all test (xs ++ x ∷ []) ≡ true
all_last test [] x h e = and_from (test x) true e refl
all_last test (y ∷ xs) x h e = let parts = and_parts (test y) (list_all test xs) h in and_from (test y) (list_all test (xs ++ x ∷ [])) parts.0 (all_last test xs x parts.1 e)

-- the numbers that so many digits have
abbrev digits_bound : ℕ → ℕ
digits_bound zero = 1
digits_bound (suc count) = 16 * digits_bound count

digits_again : (count n : ℕ) → n < digits_bound count → (hex_number (folded (hex_digits upper count n)) ≡ n) × (list_all is_hex (folded (hex_digits upper count n)) ≡ true)
digits_again zero n lt = (omega (arith, lt), refl)
digits_again (suc count) n lt =
    let low : n / 16 < digits_bound count = omega (arith, lt) in
    let rest = digits_again count (n / 16) low in
    let last = digit_again (n % 16) (omega arith) in
    let whole : folded (hex_digits upper (suc count) n) ≡ folded (hex_digits upper count (n / 16)) ++ to_ascii_lowercase (hex_digit upper (n % 16)) ∷ [] = map-append to_ascii_lowercase (hex_digits upper count (n / 16)) (hex_digit upper (n % 16) ∷ []) in (
      ap hex_number whole ∙ (fold_last (λ m unit. 16 * m + digit_number unit) 0 (folded (hex_digits upper count (n / 16))) (to_ascii_lowercase (hex_digit upper (n % 16))) ∙ ((λ i. 16 * rest.0 i + last.1 i) ∙ (let z : 16 * (n / 16) + n % 16 ≡ n = omega arith in z))),
      ap (list_all is_hex) whole ∙ all_last is_hex (folded (hex_digits upper count (n / 16))) (to_ascii_lowercase (hex_digit upper (n % 16))) rest.1 last.0,
    )

pub eight_again : (n : ℕ) → n < 2 ^ 32 → hex_number (folded (hex_digits upper 8 n)) ≡ n
eight_again n lt = (digits_again 8 n lt).0

eight_hex : (n : ℕ) → n < 2 ^ 32 → list_all is_hex (folded (hex_digits upper 8 n)) ≡ true
eight_hex n lt = (digits_again 8 n lt).1

-- ---- numbered names

pub folded_behind : (prefix name : List ℕ) → drop (length prefix) (folded (prefix ++ name)) ≡ folded name
folded_behind prefix name = ap (drop (length prefix)) (map-append to_ascii_lowercase prefix name) ∙ drop_at (folded prefix) (folded name) (length prefix) (length-map prefix to_ascii_lowercase)

pub number_again : (prefix : List ℕ) (n : ℕ) → n < 2 ^ 32 → number_in prefix (prefix ++ hex_digits upper 8 n) ≡ Some n
number_again prefix n lt =
    let name : List ℕ = prefix ++ hex_digits upper 8 n in
    let behind : drop (length prefix) (folded name) ≡ folded (hex_digits upper 8 n) = folded_behind prefix (hex_digits upper 8 n) in
    let front : same_name (take (length prefix) name) prefix ≡ true = ap (λ (z : List ℕ). same_name z prefix) (take_at prefix (hex_digits upper 8 n) (length prefix) refl) ∙ (bytes_eq-Decides (folded prefix) (folded prefix)).1 refl in
    let digits : ((length (drop (length prefix) (folded name)) == 8) && list_all is_hex (drop (length prefix) (folded name))) ≡ true = ap (λ (z : List ℕ). (length z == 8) && list_all is_hex z) behind ∙ eight_hex n lt in
    cond-true _ (Some (hex_number (drop (length prefix) (folded name)))) None (and_from _ _ front digits)
    ∙ ap Some (ap hex_number behind ∙ eight_again n lt)

-- ---- names that differ

-- names of which something says different numbers
pub differ_by : (says : List ℕ → ℕ) (m n : List ℕ) → (says (folded m) ≡ says (folded n) → ⊥) → same_name m n ≡ false
differ_by says m n other = by (same_name m n) (bytes_eq-Decides (folded m) (folded n))
  where
    by : (b : Bool) → ((b ≡ true → folded m ≡ folded n) × (folded m ≡ folded n → b ≡ true)) → b ≡ false
    by true d = absurd (other (ap says (d.0 refl)))
    by false d = refl

-- the third character, which tells the sorts of names apart
abbrev pub mark : List ℕ → ℕ
mark x = get_or x 2 0

-- the number in the name of a value's stream, and that in the name of an element
abbrev pub tag_in : List ℕ → ℕ
tag_in x = hex_number (take 8 (drop 12 x))

abbrev index_in : List ℕ → ℕ
index_in x = hex_number (drop 21 x)

pub tag_of_value : (tag : ℕ) → tag < 2 ^ 32 → tag_in (folded (value_name tag)) ≡ tag
tag_of_value tag lt = eight_again tag lt

pub tag_of_element : (tag i : ℕ) → tag < 2 ^ 32 → tag_in (folded (element_name tag i)) ≡ tag
tag_of_element tag i lt = eight_again tag lt

index_of_element : (tag i : ℕ) → i < 2 ^ 32 → index_in (folded (element_name tag i)) ≡ i
index_of_element tag i lt = eight_again i lt

-- no name of one list is equal to one of another
abbrev pub AreApart : List (List ℕ) → List (List ℕ) → Type 0
AreApart ms ns = AllByRecursion (λ m. AllByRecursion (λ n. same_name m n ≡ false) ns) ms

pub distinct_join : (ms ns : List (List ℕ)) → IsDistinct same_name ms → IsDistinct same_name ns → AreApart ms ns → IsDistinct same_name (ms ++ ns)
unfolding IsDistinct
distinct_join [] ns d e a = e
distinct_join (m ∷ ms) ns d e a = (every_append (λ n. same_name m n ≡ false) ms ns d.0 a.0, distinct_join ms ns d.1 e a.1)

-- lists of which something says a number of each name, and another number
abbrev pub Says : (List ℕ → ℕ) → ℕ → List (List ℕ) → Type 0
Says says k ns = AllByRecursion (λ n. says (folded n) ≡ k) ns

one_apart : (says : List ℕ → ℕ) (j k : ℕ) (m : List ℕ) (ns : List (List ℕ)) → (j ≡ k → ⊥) → says (folded m) ≡ j → Says says k ns → AllByRecursion (λ n. same_name m n ≡ false) ns
one_apart says j k m [] other a b = tt
one_apart says j k m (n ∷ ns) other a b = (differ_by says m n (λ e. other (sym a ∙ (e ∙ b.0))), one_apart says j k m ns other a b.1)

pub said_apart : (says : List ℕ → ℕ) (j k : ℕ) (ms ns : List (List ℕ)) → (j ≡ k → ⊥) → Says says j ms → Says says k ns → AreApart ms ns
said_apart says j k [] ns other a b = tt
said_apart says j k (m ∷ ms) ns other a b = (one_apart says j k m ns other a.0 b, said_apart says j k ms ns other a.1 b)

-- ---- the streams of one value

abbrev stream_names : List (List ℕ × List ℕ) → List (List ℕ)
stream_names = map (λ p. p.0)

elements_say : (tag kind i : ℕ) (xs : List (List ℕ)) → tag < 2 ^ 32 → Says tag_in tag (stream_names (element_streams tag kind i xs))
elements_say tag kind i [] lt = tt
elements_say tag kind i (x ∷ xs) lt = (tag_of_element tag i lt, elements_say tag kind (i + 1) xs lt)

elements_long : (tag kind i : ℕ) (xs : List (List ℕ)) → Says length 29 (stream_names (element_streams tag kind i xs))
elements_long tag kind i [] = tt
elements_long tag kind i (x ∷ xs) = (refl, elements_long tag kind (i + 1) xs)

later_elements : (tag kind i j : ℕ) (xs : List (List ℕ)) → i < j → j + length xs ≤ 2 ^ 32 → AllByRecursion (λ n. same_name (element_name tag i) n ≡ false) (stream_names (element_streams tag kind j xs))
later_elements tag kind i j [] lt few = tt
later_elements tag kind i j (x ∷ xs) lt few = (
  differ_by index_in (element_name tag i) (element_name tag j) (λ e. (let a = index_of_element tag i (omega (arith, lt, few)) in let b = index_of_element tag j (omega (arith, few)) in omega (arith, a, b, e, lt))),
  later_elements tag kind i (j + 1) xs (omega (arith, lt)) (omega (arith, few)),
)

elements_apart : (tag kind i : ℕ) (xs : List (List ℕ)) → i + length xs ≤ 2 ^ 32 → IsDistinct same_name (stream_names (element_streams tag kind i xs))
unfolding IsDistinct
elements_apart tag kind i [] few = tt
elements_apart tag kind i (x ∷ xs) few = (later_elements tag kind i (i + 1) xs (omega arith) (omega (arith, few)), elements_apart tag kind (i + 1) xs (omega (arith, few)))

value_says : (tag : ℕ) (v : Value) → tag < 2 ^ 32 → Says tag_in tag (stream_names (value_streams tag v))
value_says tag (number kind bits) lt = tt
value_says tag (guid set) lt = (tag_of_value tag lt, tt)
value_says tag (bytes kind x) lt = (tag_of_value tag lt, tt)
value_says tag (numbers kind list) lt = (tag_of_value tag lt, tt)
value_says tag (guids list) lt = (tag_of_value tag lt, tt)
value_says tag (parts kind list) lt = (tag_of_value tag lt, elements_say tag (kind - 0x1000) 0 list lt)

elements_marked : (tag kind i : ℕ) (xs : List (List ℕ)) → Says mark 0x73 (stream_names (element_streams tag kind i xs))
elements_marked tag kind i [] = tt
elements_marked tag kind i (x ∷ xs) = (refl, elements_marked tag kind (i + 1) xs)

value_marked : (tag : ℕ) (v : Value) → Says mark 0x73 (stream_names (value_streams tag v))
value_marked tag (number kind bits) = tt
value_marked tag (guid set) = (refl, tt)
value_marked tag (bytes kind x) = (refl, tt)
value_marked tag (numbers kind list) = (refl, tt)
value_marked tag (guids list) = (refl, tt)
value_marked tag (parts kind list) = (refl, elements_marked tag (kind - 0x1000) 0 list)

value_apart : (tag : ℕ) (v : Value) → IsValue v → IsDistinct same_name (stream_names (value_streams tag v))
unfolding IsDistinct
value_apart tag (number kind bits) h = tt
value_apart tag (guid set) h = (tt, tt)
value_apart tag (bytes kind x) h = (tt, tt)
value_apart tag (numbers kind list) h = (tt, tt)
value_apart tag (guids list) h = (tt, tt)
value_apart tag (parts kind list) h = (one_apart length 20 29 (value_name tag) (stream_names (element_streams tag (kind - 0x1000) 0 list)) (λ e. omega (arith, e)) refl (elements_long tag (kind - 0x1000) 0 list), elements_apart tag (kind - 0x1000) 0 list (omega (arith, h.3)))

-- ---- the streams of a list

-- a property's tag is small, and its value is one
abbrev pub HasTag : List Name → Prop → Type 0
HasTag names p = (tag_of names p < 2 ^ 32) × IsValue p.value

-- no two properties have one tag
abbrev pub TagsApart : List Name → List Prop → Type 0
TagsApart names [] = Unit {0}
TagsApart names (p ∷ props) = AllByRecursion (λ q. tag_of names p ≡ tag_of names q → ⊥) props × TagsApart names props

names_join : (one other : List (List ℕ × List ℕ)) → stream_names (one ++ other) ≡ stream_names one ++ stream_names other
names_join one other = map-append (λ (p : List ℕ × List ℕ). p.0) one other

pub list_marked : (names : List Name) (props : List Prop) → Says mark 0x73 (stream_names (props_streams names props))
list_marked names [] = tt
list_marked names (p ∷ props) = subst (Says mark 0x73) (sym (names_join (value_streams (tag_of names p) p.value) (props_streams names props))) (every_append (λ n. mark (folded n) ≡ 0x73) (stream_names (value_streams (tag_of names p) p.value)) (stream_names (props_streams names props)) (value_marked (tag_of names p) p.value) (list_marked names props))

-- the streams of a value, and those of properties with other tags
apart_later : (names : List Name) (tag : ℕ) (ms : List (List ℕ)) (props : List Prop) → Says tag_in tag ms → AllByRecursion (HasTag names) props → AllByRecursion (λ q. tag ≡ tag_of names q → ⊥) props → AreApart ms (stream_names (props_streams names props))
apart_later names tag ms [] said have other = nothing_apart ms
  where
    nothing_apart : (l : List (List ℕ)) → AreApart l []
    nothing_apart [] = tt
    nothing_apart (m ∷ l) = (tt, nothing_apart l)
apart_later names tag ms (q ∷ props) said have other =
    subst (AreApart ms) (sym (names_join (value_streams (tag_of names q) q.value) (props_streams names props)))
    (apart_both ms (stream_names (value_streams (tag_of names q) q.value)) (stream_names (props_streams names props))
    (said_apart tag_in tag (tag_of names q) ms (stream_names (value_streams (tag_of names q) q.value)) other.0 said (value_says (tag_of names q) q.value have.0.0))
    (apart_later names tag ms props said have.1 other.1))
  where
    apart_both : (l m n : List (List ℕ)) → AreApart l m → AreApart l n → AreApart l (m ++ n)
    apart_both [] m n a b = tt
    apart_both (x ∷ l) m n a b = (every_append (λ y. same_name x y ≡ false) m n a.0 b.0, apart_both l m n a.1 b.1)

pub list_apart : (names : List Name) (props : List Prop) → AllByRecursion (HasTag names) props → TagsApart names props → IsDistinct same_name (stream_names (props_streams names props))
unfolding IsDistinct
list_apart names [] have other = tt
list_apart names (p ∷ props) have other =
    let own : List (List ℕ) = stream_names (value_streams (tag_of names p) p.value) in
    subst (IsDistinct same_name) (sym (names_join (value_streams (tag_of names p) p.value) (props_streams names props)))
    (distinct_join own (stream_names (props_streams names props)) (value_apart (tag_of names p) p.value have.0.1) (list_apart names props have.1 other.1)
    (apart_later names (tag_of names p) own props (value_says (tag_of names p) p.value have.0.0) have.1 other.0))

-- names that are apart from those of a value are apart from those of a list whose tags are others
pub list_apart_from : (names : List Name) (tag : ℕ) (props : List Prop) → tag < 2 ^ 32 → AllByRecursion (HasTag names) props → AllByRecursion (λ q. tag_of names q ≡ tag → ⊥) props → AreApart (stream_names (props_streams names props)) (value_name tag ∷ [])
list_apart_from names tag [] lt have other = tt
list_apart_from names tag (p ∷ props) lt have other =
    subst (λ l. AreApart l (value_name tag ∷ [])) (sym (names_join (value_streams (tag_of names p) p.value) (props_streams names props)))
    (every_append (λ m. AllByRecursion (λ n. same_name m n ≡ false) (value_name tag ∷ [])) (stream_names (value_streams (tag_of names p) p.value)) (stream_names (props_streams names props))
    (said_apart tag_in (tag_of names p) tag (stream_names (value_streams (tag_of names p) p.value)) (value_name tag ∷ []) other.0 (value_says (tag_of names p) p.value have.0.0) (tag_of_value tag lt, tt))
    (list_apart_from names tag props lt have.1 other.1))
