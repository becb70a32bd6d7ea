-- What is read of a value has the form and the range of its kind.
use Rattle.std.proofs.Common.{◌≡◌, ℕ, zero, suc, ◌+◌, ◌-◌, ◌*◌, ◌<◌, ◌≤◌, ◌^◌, ◌%◌, Bool, true, false, cond, List, [], ◌∷◌, ◌++◌, length, take, drop, map, refl, sym, ap, subst, ◌∙◌, arith}
use Rattle.std.specs.List.{AllByRecursion}
use Rattle.std.specs.Prelude.{nat_le, ◌==◌, ◌&&◌, IsTrue}
use Rattle.std.proofs.lemmas.List.{length-append, take_at, drop_at, append-nil}
use Rattle.std.proofs.lemmas.Bool.{ltb-true, eqb-true, and_parts}
use Rattle.carrier_model.specs.Bytes.{AllBytes, le_number}
use Rattle.carrier_model.specs.Grammar.{Form, gives, and_then, choice, repeat}
use Rattle.carrier_model.specs.Values.{Value, number, guid, bytes, numbers, guids, parts, number_widths, numbers_widths, width_in, is_bytes_kind, IsBytes, IsValue, list_limit}
use Rattle.tnef_model.specs.TnefLists.{word, padded, is_size, size, sized, text, one, many, numbers_of, value}
use Rattle.carrier_model.specs.Kinds.{without_null, bits_of, is_number_kind, is_numbers_kind, is_kind}
use Rattle.carrier_model.proofs.Numbers.{AllBytes-drop, AllBytes-take, number_below, top}
use Rattle.carrier_model.proofs.KindLaws.{bytes_kinds, bits_below, bits_boolean, last_kind, top_number, top_numbers, width_below, without_null-even, without_null-shorter}
use Rattle.tnef_model.proofs.CanonicalLists.{each_push}
use Rattle.carrier_model.proofs.Elements.{all_of, each_map}

-- bytes of an input that is not too long
pub record Fit (s : List ℕ) : Type 0 where
  pub bytes : AllBytes s
  pub short : length s ≤ 0x1000_0000

pub fit_front : (s front back : List ℕ) → s ≡ front ++ back → Fit s → Fit front
fit_front s front back e h = record {
  bytes = subst AllBytes (take_at front back (length front) refl) (AllBytes-take (length front) (front ++ back) (subst AllBytes e h.bytes));
  short = omega (arith, h.short, ap length e, length-append front back);
}

pub fit_back : (s front back : List ℕ) → s ≡ front ++ back → Fit s → Fit back
fit_back s front back e h = record {
  bytes = subst AllBytes (drop_at front back (length front) refl) (AllBytes-drop (length front) (front ++ back) (subst AllBytes e h.bytes));
  short = omega (arith, h.short, ap length e, length-append front back);
}

pub part_length : (s front back : List ℕ) → s ≡ front ++ back → length s ≡ length front + length back
part_length s front back e = ap length e ∙ length-append front back

-- ---- numbers

pub record WordRead (n : ℕ) (s : List ℕ) : Type 0 where
  pub below : n < 2 ^ 32
  pub len : length s ≡ 4

pub word_reads : (at n : ℕ) (s : List ℕ) → AllBytes s → word.spells at n s → WordRead n s
word_reads at n s h p =
    let whole : s ≡ p.front = p.parts ∙ (ap (λ z. p.front ++ z) p.second.1 ∙ append-nil p.front) in
    let len : length s ≡ 4 = ap length whole ∙ p.first.1 in
    let is : n ≡ le_number s = p.second.0 ∙ (ap le_number p.first.0 ∙ ap le_number (sym whole)) in
    let lt : le_number s < top 4 = subst (λ k. le_number s < top k) len (number_below s h) in
    record { below = omega (arith, is, lt); len = len }

pub record PaddedRead (n : ℕ) (x s : List ℕ) : Type 0 where
  pub len : length x ≡ n
  pub fit : Fit x
  pub within : n ≤ length s

pub padded_reads : (at n : ℕ) (x s : List ℕ) → Fit s → (padded n).spells at x s → PaddedRead n x s
padded_reads at n x s h p =
    let is : x ≡ p.front = p.second.second.0 ∙ p.first.0 in
    record {
      len = ap length is ∙ p.first.1;
      fit = subst Fit (sym is) (fit_front s p.front p.back p.parts h);
      within = omega (arith, part_length s p.front p.back p.parts, p.first.1);
    }

-- ---- texts

pub record SizedRead (even : Bool) (least : ℕ) (x s : List ℕ) : Type 0 where
  pub size : is_size even least (length x) ≡ true
  pub fit : Fit x
  pub within : length x + 4 ≤ length s

pub sized_reads : (even : Bool) (least at : ℕ) (x : ℕ × List ℕ) (s : List ℕ) → Fit s → (sized even least).spells at x s → SizedRead even least x.1 s
unfolding sized size
sized_reads even least at x s h p =
    let w = word_reads at p.x p.front (fit_front s p.front p.back p.parts h).bytes p.first.0 in
    let d = padded_reads (at + length p.front) p.x x.1 p.back (fit_back s p.front p.back p.parts h) p.second.1 in
    record { size = ap (is_size even least) d.len ∙ p.first.1; fit = d.fit; within = omega (arith, d.len, d.within, w.len, part_length s p.front p.back p.parts) }

pub without_null-fit : (n : ℕ) (x : List ℕ) → AllBytes x → AllBytes (without_null n x)
without_null-fit n x h = by (nat_le n (length x) && (le_number (drop (length x - n) x) == 0))
  where
    by : (b : Bool) → AllBytes (cond b (take (length x - n) x) x)
    by true = AllBytes-take (length x - n) x h
    by false = h

pub record TextRead (kind : ℕ) (x s : List ℕ) : Type 0 where
  pub is : IsBytes kind x
  pub some : 1 ≤ length s

abbrev ReadsText : ℕ → Type 0
ReadsText kind = (at : ℕ) (x s : List ℕ) → Fit s → (text kind).spells at x s → TextRead kind x s

even_from : (n : ℕ) → is_size true 0 n ≡ true → n % 2 ≡ 0
even_from n e = eqb-true (n % 2) 0 (and_parts (n % 2 == 0) (nat_le 0 n) e).0

text8_reads : ReadsText 0x001E
unfolding text
text8_reads at x s h p =
    let r = sized_reads false 0 at p.x p.front (fit_front s p.front p.back p.parts h) p.first in
    let len : length x ≤ length p.x.1 = omega (arith, ap length p.second.0, without_null-shorter 1 p.x.1) in
    let l = part_length s p.front p.back p.parts in
    record { is = record { kind_is = refl; short = omega (arith, len, r.within, l, h.short); even = λ e. absurd (omega (arith, e)) }; some = omega (arith, r.within, l) }

text16_reads : ReadsText 0x001F
unfolding text
text16_reads at x s h p =
    let r = sized_reads true 0 at p.x p.front (fit_front s p.front p.back p.parts h) p.first in
    let len : length x ≤ length p.x.1 = omega (arith, ap length p.second.0, without_null-shorter 2 p.x.1) in
    let l = part_length s p.front p.back p.parts in
    let even : length x % 2 ≡ 0 = ap (λ z. length z % 2) p.second.0 ∙ without_null-even p.x.1 (even_from (length p.x.1) r.size) in
    record { is = record { kind_is = refl; short = omega (arith, len, r.within, l, h.short); even = λ e. even }; some = omega (arith, r.within, l) }

binary_reads : ReadsText 0x0102
unfolding text
binary_reads at x s h p =
    let r = sized_reads false 0 at p.x p.front (fit_front s p.front p.back p.parts h) p.first in
    let len : length x ≤ length p.x.1 = omega (arith, ap length p.second.0, without_null-shorter 0 p.x.1) in
    let l = part_length s p.front p.back p.parts in
    record { is = record { kind_is = refl; short = omega (arith, len, r.within, l, h.short); even = λ e. absurd (omega (arith, e)) }; some = omega (arith, r.within, l) }

pub text_reads : (kind : ℕ) → IsTrue (is_bytes_kind kind) → ReadsText kind
text_reads kind = bytes_kinds ReadsText kind text8_reads text16_reads binary_reads

-- ---- several of a form

-- what each text of a form gives
abbrev pub Reads : {X : Type 0} → Form X → (X → Type 0) → Type 0
Reads {X} f P = (at : ℕ) (x : X) (s : List ℕ) → Fit s → f.spells at x s → P x × (1 ≤ length s)

pub record AllRead {X : Type 0} (P : X → Type 0) (before l : List X) (s : List ℕ) : Type 0 where
  pub each : AllByRecursion P l
  pub few : length l ≤ length before + length s

pub repeat_reads : {X : Type 0} (item : List X → Form X) (P : X → Type 0) → ((before : List X) → Reads (item before) P) → (n : ℕ) (before : List X) (at : ℕ) (l : List X) (s : List ℕ) → Fit s → AllByRecursion P before → (repeat n item before).spells at l s → AllRead P before l s
unfolding repeat
repeat_reads item P each zero before at l s h b p = record { each = subst (λ z. AllByRecursion P z) (sym p.0) b; few = omega (arith, ap length p.0) }
repeat_reads item P each (suc n) before at l s h b p =
    let first = each before at p.x p.front (fit_front s p.front p.back p.parts h) p.first in
    let rest = repeat_reads item P each n (before ++ p.x ∷ []) (at + length p.front) l p.back (fit_back s p.front p.back p.parts h) (each_push P before p.x b first.0) p.second in
    record { each = rest.each; few = omega (arith, rest.few, first.1, length-append before (p.x ∷ []), part_length s p.front p.back p.parts) }

pub record ManyRead {X : Type 0} (P : X → Type 0) (l : List X) (s : List ℕ) : Type 0 where
  pub each : AllByRecursion P l
  pub few : length l < list_limit
  pub some : 1 ≤ length s

pub many_reads : {X : Type 0} (f : Form X) (P : X → Type 0) → Reads f P → (at : ℕ) (l : List X) (s : List ℕ) → Fit s → (many f).spells at l s → ManyRead P l s
unfolding many
many_reads f P each at l s h p =
    let w = word_reads at p.x p.front (fit_front s p.front p.back p.parts h).bytes p.first in
    let r = repeat_reads (λ before. f) P (λ before. each) p.x [] (at + length p.front) l p.back (fit_back s p.front p.back p.parts h) tt p.second in
    let len = part_length s p.front p.back p.parts in
    record { each = r.each; few = omega (arith, r.few, w.len, len, h.short); some = omega (arith, w.len, len) }

length-mapped : {A B : Type 0} (f : A → B) (xs : List A) → length (map f xs) ≡ length xs
length-mapped f [] = refl
length-mapped f (x ∷ xs) = let h = length-mapped f xs in omega (arith, h)

-- ---- values

record ValueRead (v : Value) (s : List ℕ) : Type 0 where
  is : IsValue v
  some : 1 ≤ length s

number_reads : (kind at : ℕ) (v : Value) (s : List ℕ) → Fit s → is_number_kind kind ≡ true → (and_then (padded (width_in number_widths kind)) (λ x. gives (number kind (bits_of kind x)))).spells at v s → ValueRead v s
number_reads kind at v s h e p =
    let w = width_in number_widths kind in
    let some : 0 < w = ltb-true 0 w e in
    let d = padded_reads at w p.x p.front (fit_front s p.front p.back p.parts h) p.first in
    let lt : le_number p.x < 2 ^ (8 * w) = width_below w (2 ^ (8 * w)) p.x (top_number kind some) d.len d.fit.bytes in
    record {
      is = subst IsValue (sym p.second.0) (bits_below kind (2 ^ (8 * w)) p.x lt, some, bits_boolean kind p.x);
      some = omega (arith, some, d.within, part_length s p.front p.back p.parts);
    }

guid_reads : (at : ℕ) (v : Value) (s : List ℕ) → Fit s → (and_then (padded 16) (λ x. gives (guid x))).spells at v s → ValueRead v s
guid_reads at v s h p =
    let d = padded_reads at 16 p.x p.front (fit_front s p.front p.back p.parts h) p.first in
    record { is = subst IsValue (sym p.second.0) d.len; some = omega (arith, d.within, part_length s p.front p.back p.parts) }

one_text_reads : (kind at : ℕ) (v : Value) (s : List ℕ) → Fit s → is_bytes_kind kind ≡ true → (and_then one (λ n. and_then (text kind) (λ x. gives (bytes kind x)))).spells at v s → ValueRead v s
one_text_reads kind at v s h e p =
    let q = p.second in
    let back = fit_back s p.front p.back p.parts h in
    let t = text_reads kind e (at + length p.front) q.x q.front (fit_front p.back q.front q.back q.parts back) q.first in
    record { is = subst IsValue (sym q.second.0) t.is; some = omega (arith, t.some, part_length p.back q.front q.back q.parts, part_length s p.front p.back p.parts) }

numbers_read : (kind at : ℕ) (v : Value) (s : List ℕ) → Fit s → is_numbers_kind kind ≡ true → (and_then (numbers_of (width_in numbers_widths kind)) (λ l. gives (numbers kind l))).spells at v s → ValueRead v s
unfolding numbers_of
numbers_read kind at v s h e p =
    let w = width_in numbers_widths kind in
    let some : 0 < w = ltb-true 0 w e in
    let q = p.first in
    let front = fit_front s p.front p.back p.parts h in
    let P : List ℕ → Type 0 = λ x. le_number x < 2 ^ (8 * w) in
    let each : Reads (padded w) P = λ place x t fit d. let r = padded_reads place w x t fit d in (width_below w (2 ^ (8 * w)) x (top_numbers kind some) r.len r.fit.bytes, omega (arith, some, r.within)) in
    let m = many_reads (padded w) P each at q.x q.front (fit_front p.front q.front q.back q.parts front) q.first in
    let all : AllByRecursion (λ (n : ℕ). n < 2 ^ (8 * w)) (map le_number q.x) = each_map P (λ (n : ℕ). n < 2 ^ (8 * w)) le_number (λ x lt. lt) q.x m.each in
    let few : length (map le_number q.x) < list_limit = omega (arith, m.few, length-mapped le_number q.x) in
    let is : IsValue (numbers kind (map le_number q.x)) = (all_of (λ n. n < 2 ^ (8 * w)) (map le_number q.x) all, some, few) in
    record {
      is = subst IsValue (sym (p.second.0 ∙ ap (numbers kind) q.second.0)) is;
      some = omega (arith, m.some, part_length p.front q.front q.back q.parts, part_length s p.front p.back p.parts);
    }

guids_read : (at : ℕ) (v : Value) (s : List ℕ) → Fit s → (and_then (many (padded 16)) (λ l. gives (guids l))).spells at v s → ValueRead v s
guids_read at v s h p =
    let P : List ℕ → Type 0 = λ x. length x ≡ 16 in
    let each : Reads (padded 16) P = λ place x t fit d. let r = padded_reads place 16 x t fit d in (r.len, omega (arith, r.within)) in
    let m = many_reads (padded 16) P each at p.x p.front (fit_front s p.front p.back p.parts h) p.first in
    record { is = subst IsValue (sym p.second.0) (all_of P p.x m.each, m.few); some = omega (arith, m.some, part_length s p.front p.back p.parts) }

parts_read : (kind at : ℕ) (v : Value) (s : List ℕ) → Fit s → 0x1000 ≤ kind → is_bytes_kind (kind - 0x1000) ≡ true → (and_then (many (text (kind - 0x1000))) (λ l. gives (parts kind l))).spells at v s → ValueRead v s
parts_read kind at v s h le e p =
    let P : List ℕ → Type 0 = IsBytes (kind - 0x1000) in
    let each : Reads (text (kind - 0x1000)) P = λ place x t fit d. let r = text_reads (kind - 0x1000) e place x t fit d in (r.is, r.some) in
    let m = many_reads (text (kind - 0x1000)) P each at p.x p.front (fit_front s p.front p.back p.parts h) p.first in
    record { is = subst IsValue (sym p.second.0) (all_of P p.x m.each, le, e, m.few); some = omega (arith, m.some, part_length s p.front p.back p.parts) }

pub value_reads : (kind at : ℕ) (v : Value) (s : List ℕ) → Fit s → is_kind kind ≡ true → (value kind).spells at v s → IsValue v × (1 ≤ length s)
unfolding value
value_reads kind at v s h known p = let r = by (is_number_kind kind) (kind == 0x0048) (is_bytes_kind kind) (is_numbers_kind kind) (kind == 0x1048) refl refl refl refl refl p in (r.is, r.some)
  where
    by : (a b c d e : Bool) → is_number_kind kind ≡ a → (kind == 0x0048) ≡ b → is_bytes_kind kind ≡ c → is_numbers_kind kind ≡ d → (kind == 0x1048) ≡ e
        → (choice a (and_then (padded (width_in number_widths kind)) (λ x. gives (number kind (bits_of kind x))))
        (choice b (and_then (padded 16) (λ x. gives (guid x)))
        (choice c (and_then one (λ n. and_then (text kind) (λ x. gives (bytes kind x))))
        (choice d (and_then (numbers_of (width_in numbers_widths kind)) (λ l. gives (numbers kind l)))
        (choice e (and_then (many (padded 16)) (λ l. gives (guids l)))
        (and_then (many (text (kind - 0x1000))) (λ l. gives (parts kind l)))))))).spells at v s → ValueRead v s
    by true b c d e f1 f2 f3 f4 f5 q = number_reads kind at v s h f1 q
    by false true c d e f1 f2 f3 f4 f5 q = guid_reads at v s h q
    by false false true d e f1 f2 f3 f4 f5 q = one_text_reads kind at v s h f3 q
    by false false false true e f1 f2 f3 f4 f5 q = numbers_read kind at v s h f4 q
    by false false false false true f1 f2 f3 f4 f5 q = guids_read at v s h q
    by false false false false false f1 f2 f3 f4 f5 q = let l = last_kind kind known f1 f2 f3 f4 f5 in parts_read kind at v s h l.0 l.1 q
