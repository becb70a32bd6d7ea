-- What a .msg file means is a tree.
use Rattle.std.proofs.Common.{◌≡◌, ℕ, zero, suc, ◌+◌, ◌-◌, ◌*◌, ◌/◌, ◌%◌, ◌<◌, ◌≤◌, ◌^◌, Bool, true, false, cond, List, [], ◌∷◌, ◌++◌, length, take, drop, map, Option, Some, None, refl, sym, ap, subst, ◌∙◌, inl, inr, arith}
use Rattle.std.specs.Prelude.{nat_eq, nat_lt, ◌==◌, ◌||◌, ◌&&◌, not, All, IsTrue, Result, Ok, find, filter_map}
use Rattle.std.specs.Option.{option_map}
use Rattle.std.specs.List.{range_with_len, AllZip, AllByRecursion}
use Rattle.std.proofs.lemmas.List.{length-take, length-drop, length-map}
use Rattle.std.proofs.Math.Nat.{mul-le-mul_left, mul-div-le, mul-suc, div-le_self}
use Rattle.std.proofs.lemmas.List.FromFn.{length-map-range_with_len}
use Rattle.std.proofs.lemmas.List.Sorted.{All-permutation}
use Rattle.std.proofs.lemmas.Bool.{eqb-true, eqb-false, leb-true, ltb-true}
use Rattle.carrier_model.specs.Bytes.{AllBytes, le_number, units_of}
use Rattle.carrier_model.specs.Trail.{Fault, Test, first_fault}
use Rattle.carrier_model.specs.Outcomes.{mapped}
use Rattle.carrier_model.specs.Turns.{tested, unless, found}
use Rattle.carrier_model.specs.Sectors.{u32_of}
use Rattle.carrier_model.specs.Lookups.{Found, bytes_at, size_place}
use Rattle.carrier_model.specs.Keys.{Name, numbered, texted, Key, id, named, IsName, IsKey}
use Rattle.carrier_model.specs.Values.{Value, number, guid, bytes, numbers, guids, parts, Prop, IsValue, IsBytes, number_widths, numbers_widths, width_in, is_bytes_kind, list_limit}
use Rattle.carrier_model.specs.Trees.{HasUnits, KeyHasUnits, IsPropList}
use Rattle.carrier_model.specs.Kinds.{bits_of, null_of, without_null, is_number_kind, is_numbers_kind, is_kind, OBJECT, ATTACHED_OBJECT}
use Rattle.msg_model.specs.MsgValues.{Streams, PropEntry, kind_in, id_in, size_in, step_of, fits_kind, means_empty, pieces_of, Element, elements_of, form_test, presence_test, parts_of, streamed_value, stored_value, value_of}
use Rattle.msg_model.specs.StreamNames.{value_name, element_name}
use Rattle.msg_model.specs.WrittenNames.{PS_MAPI, PS_PUBLIC_STRINGS}
use Rattle.carrier_model.specs.Stores.{PROPERTIES}
use Rattle.msg_model.specs.NameMap.{NameStreams, NameEntry, name_entry, name_entries, set_index, set_at, has_set, Pair, name_for, StandsFor, ArePairs, NamePairs}
use Rattle.msg_model.specs.MsgProps.{Part, head_size, is_attachment, prop_entry, prop_entries, Item, kept, passed, embedding, is_passed_kind, key_of, prop_of, item_of, prop_in, Section, MsgProps}
use Rattle.carrier_model.proofs.Units.{units_below}
use Rattle.carrier_model.specs.Reasons.{MISSING_STREAM, BAD_ELEMENT, UNMAPPED_ID, UNKNOWN_TYPE}
use Rattle.carrier_model.proofs.Tests.{passing, AllHold}
use Rattle.carrier_model.proofs.Turns.{bind_ok, check_ok, mapped_ok, found_ok, ok_same}
use Rattle.carrier_model.proofs.Numbers.{AllBytes-drop, AllBytes-take, number32-below, top}
use Rattle.carrier_model.proofs.KindLaws.{bytes_kinds, width_below, bits_below, bits_boolean, top_number, top_numbers, without_null-shorter, without_null-even, last_kind}
use Rattle.carrier_model.proofs.TreeParts.{IsListed}
use Rattle.carrier_model.proofs.Elements.{all_of, each_map}
use Rattle.carrier_model.proofs.ReadFiles.{Short, FoundFits}

-- ---- numbers

number_within : (w : ℕ) (x : List ℕ) → AllBytes x → length x ≤ w → le_number x < top w
number_within zero [] h le = omega arith
number_within zero (b ∷ x) h le = absurd (omega (arith, le))
number_within (suc w) [] h le = omega (arith, top_some w)
  where
    top_some : (k : ℕ) → 1 ≤ top k
    top_some zero = omega arith
    top_some (suc k) = omega (arith, top_some k)
number_within (suc w) (b ∷ x) h le =
    let here : b < 256 = h 0 in
    let rest = number_within w x (λ i. h (suc i)) (omega (arith, le)) in
    omega (arith, rest)

-- a word of a stream
word_of : (b : List ℕ) (at : ℕ) → AllBytes b → u32_of b at < 2 ^ 32
unfolding u32_of
word_of b at h = number32-below (drop at b) (AllBytes-drop at b h)

-- ---- values

-- the streams of a storage
abbrev pub StreamsFit : Streams → Type 0
StreamsFit streams = (name : List ℕ) → FoundFits (streams name)

bytes_fit : (f : Option Found) → FoundFits f → Short (bytes_at f)
bytes_fit None h = record { bytes = λ i. omega arith; few = omega arith }
bytes_fit (Some f) h = h

abbrev FitsEach : ℕ → Type 0
FitsEach kind = (x : List ℕ) → Short x → fits_kind kind (length x) ≡ true → IsBytes kind x

even_from : (n : ℕ) → (n % 2 == 0) ≡ true → n % 2 ≡ 0
even_from n e = eqb-true (n % 2) 0 e

bytes_value : (kind : ℕ) → IsTrue (is_bytes_kind kind) → FitsEach kind
bytes_value kind = bytes_kinds FitsEach kind
    (λ x h e. record { kind_is = refl; short = h.few; even = λ f. absurd (omega (arith, f)) })
    (λ x h e. record { kind_is = refl; short = omega (arith, h.few); even = λ f. even_from (length x) e })
    (λ x h e. record { kind_is = refl; short = omega (arith, h.few); even = λ f. absurd (omega (arith, f)) })

abbrev CutEach : ℕ → Type 0
CutEach kind = (x : List ℕ) → Short x → fits_kind kind (length x) ≡ true → IsBytes kind (without_null (null_of kind) x)

cut_value : (kind : ℕ) → IsTrue (is_bytes_kind kind) → CutEach kind
cut_value kind = bytes_kinds CutEach kind
    (λ x h e. record { kind_is = refl; short = omega (arith, h.few, without_null-shorter 1 x); even = λ f. absurd (omega (arith, f)) })
    (λ x h e. record { kind_is = refl; short = omega (arith, h.few, without_null-shorter 2 x); even = λ f. without_null-even x (even_from (length x) e) })
    (λ x h e. record { kind_is = refl; short = omega (arith, h.few, without_null-shorter 0 x); even = λ f. absurd (omega (arith, f)) })

-- pieces are of one width, and of bytes
each_piece : {A : Type 0} (P : A → Type 0) (f : ℕ → A) (a n : ℕ) → ((i : ℕ) → a ≤ i → i < a + n → P (f i)) → AllByRecursion P (map f (range_with_len a n))
each_piece P f a zero h = tt
each_piece P f a (suc n) h = (h a (omega arith) (omega arith), each_piece P f (a + 1) n (λ i low high. h i (omega (arith, low)) (omega (arith, high))))

record IsPiece (width : ℕ) (x : List ℕ) : Type 0 where
  len : length x ≡ width
  bytes : AllBytes x

piece_room : (width i n : ℕ) → i < n / width → 0 < width → width * i + width ≤ n
piece_room width i n lt some =
    let le : suc i ≤ n / width = omega (arith, lt) in
    let room : width * suc i ≤ width * (n / width) = mul-le-mul_left width le in
    let all : width * (n / width) ≤ n = mul-div-le n width in
    omega (arith, room, all, mul-suc width i)

pieces_each : (width : ℕ) (x : List ℕ) → 0 < width → AllBytes x → AllByRecursion (IsPiece width) (pieces_of width x)
pieces_each width x some h = each_piece (IsPiece width) (λ i. take width (drop (width * i) x)) 0 (length x / width)
    (λ i low high. record {
      len = omega (arith, length-take width (drop (width * i) x), length-drop (width * i) x, piece_room width i (length x) (omega (arith, high)) some);
      bytes = AllBytes-take width (drop (width * i) x) (AllBytes-drop (width * i) x h);
    })

length-pieces : (width : ℕ) (x : List ℕ) → length (pieces_of width x) ≤ length x
length-pieces width x = omega (arith, length-map-range_with_len (λ i. take width (drop (width * i) x)) 0 (length x / width), div-le_self (length x) width)

tested_ok : (o : Option Fault) (u : Unit {0}) → unless o ≡ Ok u → o ≡ None
tested_ok None u h = refl
tested_ok (Some g) u h = absurd cc

hold_front : (ts us : List Test) → AllHold (ts ++ us) → AllHold ts
hold_front [] us h = tt
hold_front (t ∷ ts) us h = (h.0, hold_front ts us h.1)

-- elements whose streams are of the form of their kind
record IsElement (single : ℕ) (x : Element) : Type 0 where
  fits : FoundFits x.stream
  form : fits_kind single (length (bytes_at x.stream)) ≡ true

elements_fit : (single : ℕ) (xs : List Element) → AllByRecursion (λ (x : Element). FoundFits x.stream) xs → AllHold (map (form_test single) xs) → AllByRecursion (IsElement single) xs
elements_fit single [] h t = tt
elements_fit single (x ∷ xs) h t = (record { fits = h.0; form = t.0 }, elements_fit single xs h.1 t.1)

parts_read : (single place : ℕ) (xs : List Element) (list : List (List ℕ)) → IsTrue (is_bytes_kind single) → AllByRecursion (λ (x : Element). FoundFits x.stream) xs → parts_of single place xs ≡ Ok list → AllByRecursion (IsBytes single) list × (length list ≡ length xs)
unfolding parts_of
parts_read single place xs list e h is =
    let (u, t, out) = bind_ok (tested (map (form_test single) xs ++ map (presence_test single place) xs)) _ list is in
    let hold = passing (map (form_test single) xs ++ map (presence_test single place) xs) (tested_ok (first_fault (map (form_test single) xs ++ map (presence_test single place) xs)) u t) in
    let fit = elements_fit single xs h (hold_front (map (form_test single) xs) (map (presence_test single place) xs) hold) in
    let cut = λ (x : Element). without_null (null_of single) (bytes_at x.stream) in
    let each : AllByRecursion (IsBytes single) (map cut xs) = each_map (IsElement single) (IsBytes single) cut (λ x f. cut_value single e (bytes_at x.stream) (bytes_fit x.stream f.fits) f.form) xs fit in
    let same : list ≡ map cut xs = ok_same (Ok _) (map cut xs) list refl out in
    (subst (λ z. AllByRecursion (IsBytes single) z) (sym same) each, ap length same ∙ length-map xs cut)

-- what a stream's bytes need for a value of a kind
record Stored (kind : ℕ) (x : List ℕ) : Type 0 where
  short : Short x
  set : (kind == 0x0048) ≡ true → length x ≡ 16
  text : is_bytes_kind kind ≡ true → IsBytes kind x

abbrev given : Value → Result Value Fault
given v = Ok v

value_from : (v w : Value) → given v ≡ Ok w → IsValue v → IsValue w
value_from v w e h = subst IsValue (let same : v ≡ w = cc in same) h

numbers_value : (kind : ℕ) (x : List ℕ) → Short x → is_numbers_kind kind ≡ true → step_of kind ≡ width_in numbers_widths kind → IsValue (numbers kind (map le_number (pieces_of (step_of kind) x)))
numbers_value kind x h e is =
    let w = width_in numbers_widths kind in
    let some : 0 < w = ltb-true 0 w e in
    let pieces = pieces_each w x some h.bytes in
    let each : AllByRecursion (λ (n : ℕ). n < 2 ^ (8 * w)) (map le_number (pieces_of w x)) = each_map (IsPiece w) (λ (n : ℕ). n < 2 ^ (8 * w)) le_number (λ y p. width_below w (2 ^ (8 * w)) y (top_numbers kind some) p.len p.bytes) (pieces_of w x) pieces in
    let few : length (map le_number (pieces_of w x)) < list_limit = omega (arith, length-map (pieces_of w x) le_number, length-pieces w x, h.few) in
    let value : IsValue (numbers kind (map le_number (pieces_of w x))) = (all_of (λ n. n < 2 ^ (8 * w)) (map le_number (pieces_of w x)) each, some, few) in
    subst (λ k. IsValue (numbers kind (map le_number (pieces_of k x)))) (sym is) value

guids_value : (x : List ℕ) → Short x → IsValue (guids (pieces_of 16 x))
guids_value x h =
    let pieces = pieces_each 16 x (omega arith) h.bytes in
    (all_of (λ g. length g ≡ 16) (pieces_of 16 x) (each_same (pieces_of 16 x) pieces), omega (arith, length-pieces 16 x, h.few))
  where
    each_same : (l : List (List ℕ)) → AllByRecursion (IsPiece 16) l → AllByRecursion (λ g. length g ≡ 16) l
    each_same [] p = tt
    each_same (g ∷ l) p = (p.0.len, each_same l p.1)

parts_value : (streams : Streams) (e : PropEntry) (x : List ℕ) (v : Value) → StreamsFit streams → Short x → 0x1000 ≤ kind_in e → is_bytes_kind (kind_in e - 0x1000) ≡ true → mapped (parts (kind_in e)) (parts_of (kind_in e - 0x1000) e.place (elements_of streams e.tag x)) ≡ Ok v → IsValue v
parts_value streams e x v h short le t is =
    let (list, out, same) = mapped_ok (parts (kind_in e)) (parts_of (kind_in e - 0x1000) e.place (elements_of streams e.tag x)) v is in
    let step = step_of (e.tag % 0x10000) in
    let fit : AllByRecursion (λ (y : Element). FoundFits y.stream) (elements_of streams e.tag x) = each_piece (λ (y : Element). FoundFits y.stream) (λ i. record { stream = streams (element_name e.tag i); size = u32_of x (step * i) }) 0 (length x / step) (λ i low high. h (element_name e.tag i)) in
    let r = parts_read (kind_in e - 0x1000) e.place (elements_of streams e.tag x) list t fit out in
    let count : length (elements_of streams e.tag x) ≤ length x = omega (arith, length-map-range_with_len (λ i. (let y : Element = record { stream = streams (element_name e.tag i); size = u32_of x (step * i) } in y)) 0 (length x / step), div-le_self (length x) step) in
    subst IsValue (sym same) (all_of (IsBytes (kind_in e - 0x1000)) list r.0, le, t, omega (arith, r.1, count, short.few))

streamed_read : (streams : Streams) (e : PropEntry) (x : List ℕ) (v : Value) → StreamsFit streams → is_kind (kind_in e) ≡ true → is_number_kind (kind_in e) ≡ false → Stored (kind_in e) x → streamed_value streams e x ≡ Ok v → IsValue v
unfolding streamed_value
streamed_read streams e x v h known single s is = by (kind_in e == 0x0048) (is_bytes_kind (kind_in e)) (is_numbers_kind (kind_in e)) (kind_in e == 0x1048) refl refl refl refl is
  where
    by : (a b c d : Bool) → (kind_in e == 0x0048) ≡ a → is_bytes_kind (kind_in e) ≡ b → is_numbers_kind (kind_in e) ≡ c → (kind_in e == 0x1048) ≡ d
        → cond a (given (guid x)) (cond b (given (bytes (kind_in e) x)) (cond c (given (numbers (kind_in e) (map le_number (pieces_of (step_of (kind_in e)) x))))
        (cond d (given (guids (pieces_of 16 x))) (mapped (parts (kind_in e)) (parts_of (kind_in e - 0x1000) e.place (elements_of streams e.tag x)))))) ≡ Ok v → IsValue v
    by true b c d p q r t out = value_from (guid x) v out (s.set p)
    by false true c d p q r t out = value_from (bytes (kind_in e) x) v out (s.text q)
    by false false true d p q r t out = value_from (numbers (kind_in e) (map le_number (pieces_of (step_of (kind_in e)) x))) v out (numbers_value (kind_in e) x s.short r (rw r refl))
    by false false false true p q r t out = value_from (guids (pieces_of 16 x)) v out (guids_value x s.short)
    by false false false false p q r t out = let l = last_kind (kind_in e) known single p q r t in parts_value streams e x v h s.short l.0 l.1 out

-- what a stream has for a kind
stored_there : (kind : ℕ) (x : List ℕ) → Short x → fits_kind kind (length x) ≡ true → Stored kind x
stored_there kind x h e = record {
  short = h;
  set = λ is. eqb-true (length x) 16 (subst (λ b. cond b (length x == 16) (cond (is_bytes_kind kind) (not (kind == 0x001F) || (length x % 2 == 0)) (length x % step_of kind == 0)) ≡ true) is e);
  text = λ is. bytes_value kind is x h e;
}

stored_absent : (kind : ℕ) → (kind == 0x0048) ≡ false → Stored kind []
stored_absent kind other = record {
  short = record { bytes = λ i. omega arith; few = omega arith };
  set = λ is. absurd (let wrong : true ≡ false = sym is ∙ other in cc);
  text = λ is. bytes_kinds (λ k. IsBytes k []) kind
      (record { kind_is = refl; short = omega arith; even = λ f. refl })
      (record { kind_is = refl; short = omega arith; even = λ f. refl })
      (record { kind_is = refl; short = omega arith; even = λ f. refl }) is;
}

not_false : (a b : Bool) → (not a && b) ≡ true → a ≡ false
not_false true b e = absurd cc
not_false false b e = refl

stored_read : (streams : Streams) (e : PropEntry) (f : Option Found) (v : Value) → StreamsFit streams → is_kind (kind_in e) ≡ true → is_number_kind (kind_in e) ≡ false → FoundFits f → stored_value streams e f ≡ Ok v → IsValue v
unfolding stored_value
stored_read streams e None v h known single fit is =
    let c = check_ok (not (kind_in e == 0x0048) && means_empty (kind_in e) (size_in e)) MISSING_STREAM e.place (λ empty. streamed_value streams e []) v is in
    streamed_read streams e [] v h known single (stored_absent (kind_in e) (not_false (kind_in e == 0x0048) (means_empty (kind_in e) (size_in e)) c.0)) c.1
stored_read streams e (Some f) v h known single fit is =
    let c = check_ok (fits_kind (kind_in e) (length f.stream.bytes)) BAD_ELEMENT (size_place f) (λ fits. streamed_value streams e f.stream.bytes) v is in
    streamed_read streams e f.stream.bytes v h known single (stored_there (kind_in e) f.stream.bytes fit c.0) c.1

value_read : (streams : Streams) (e : PropEntry) (v : Value) → StreamsFit streams → AllBytes e.field → is_kind (kind_in e) ≡ true → value_of streams e ≡ Ok v → IsValue v
unfolding value_of
value_read streams e v h field known is = by (is_number_kind (kind_in e)) refl is
  where
    by : (b : Bool) → is_number_kind (kind_in e) ≡ b → cond b (given (number (kind_in e) (bits_of (kind_in e) (take (width_in number_widths (kind_in e)) e.field)))) (stored_value streams e (streams (value_name e.tag))) ≡ Ok v → IsValue v
    by true f out =
        let w = width_in number_widths (kind_in e) in
        let x = take w e.field in
        let some : 0 < w = ltb-true 0 w f in
        let within : le_number x < 2 ^ (8 * w) = subst (λ p. le_number x < p) (top_number (kind_in e) some) (number_within w x (AllBytes-take w e.field field) (omega (arith, length-take w e.field))) in
        value_from (number (kind_in e) (bits_of (kind_in e) x)) v out (bits_below (kind_in e) (2 ^ (8 * w)) x within, some, bits_boolean (kind_in e) x)
    by false f out = stored_read streams e (streams (value_name e.tag)) v h known f (h (value_name e.tag)) out

-- ---- names

pub record NameFits (x : Name) : Type 0 where
  pub is : IsName x
  pub units : HasUnits x

abbrev pub PairsFit : List Pair → Type 0
PairsFit pairs = AllByRecursion (λ (p : Pair). NameFits p.1) pairs

few_units : (x : List ℕ) → 2 * length (units_of x) ≤ length x
few_units [] = omega arith
few_units (low ∷ []) = omega arith
few_units (low ∷ high ∷ x) = omega (arith, few_units x)

set_long : (sets : List ℕ) (index : ℕ) → (index ≡ 0 → ⊥) → has_set sets index ≡ true → length (set_at sets index) ≡ 16
set_long sets index some has = by (index == 1) (index == 2) refl refl
  where
    by : (a b : Bool) → (index == 1) ≡ a → (index == 2) ≡ b → length (cond a PS_MAPI (cond b PS_PUBLIC_STRINGS (take 16 (drop (16 * (index - 3)) sets)))) ≡ 16
    by true b p q = refl
    by false true p q = refl
    by false false p q =
        let one : index ≡ 1 → ⊥ = eqb-false index 1 p in
        let two : index ≡ 2 → ⊥ = eqb-false index 2 q in
        let room : 16 * (index - 2) ≤ length sets = leb-true (16 * (index - 2)) (length sets) has in
        omega (arith, some, one, two, room, length-take 16 (drop (16 * (index - 3)) sets), length-drop (16 * (index - 3)) sets)

name_fits : (s : NameStreams) (e : NameEntry) (x : Name) → AllBytes s.guids.bytes → AllBytes s.texts.bytes → e.identifier < 2 ^ 32 → (set_index e ≡ 0 → ⊥) → StandsFor s e x → NameFits x
name_fits s e (numbered set n) sets texts lt some h = record {
  is = (ap length h.2 ∙ set_long s.guids.bytes (set_index e) some h.1, omega (arith, h.3, lt));
  units = tt;
}
name_fits s e (texted set units) sets texts lt some h =
    let t = h.3 in
    let size = u32_of s.texts.bytes e.identifier in
    let x = take size (drop (e.identifier + 4) s.texts.bytes) in
    let bytes : AllBytes x = AllBytes-take size (drop (e.identifier + 4) s.texts.bytes) (AllBytes-drop (e.identifier + 4) s.texts.bytes texts) in
    let each : AllByRecursion (λ unit. unit < 2 ^ 16) units = subst (λ z. AllByRecursion (λ unit. unit < 2 ^ 16) z) (sym t.is) (units_below x bytes) in
    record {
      is = (ap length h.2 ∙ set_long s.guids.bytes (set_index e) some h.1, omega (arith, ap length t.is, few_units x, length-take size (drop (e.identifier + 4) s.texts.bytes), t.few));
      units = all_of (λ unit. unit < 2 ^ 16) units each;
    }

pairs_fit : (s : NameStreams) (entries : List NameEntry) (pairs : List Pair) → AllBytes s.guids.bytes → AllBytes s.texts.bytes → AllByRecursion (λ (e : NameEntry). e.identifier < 2 ^ 32) entries → ArePairs s entries pairs → PairsFit pairs
pairs_fit s [] pairs sets texts lt h = subst PairsFit (sym h) tt
pairs_fit s (e ∷ entries) [] sets texts lt h = tt
pairs_fit s (e ∷ entries) (p ∷ pairs) sets texts lt (inl h) = pairs_fit s entries (p ∷ pairs) sets texts lt.1 h.1
pairs_fit s (e ∷ entries) (p ∷ pairs) sets texts lt (inr h) = (name_fits s e p.1 sets texts lt.0 h.0 h.2, pairs_fit s entries pairs sets texts lt.1 h.3)

pub names_fit : (s : NameStreams) (pairs : List Pair) → AllBytes s.guids.bytes → AllBytes s.entries.bytes → AllBytes s.texts.bytes → NamePairs s pairs → PairsFit pairs
names_fit s pairs sets entries texts h = pairs_fit s (name_entries s.entries) pairs sets texts
    (each_piece (λ (e : NameEntry). e.identifier < 2 ^ 32) (name_entry s.entries) 0 (length s.entries.bytes / 8) (λ i low high. word_of s.entries.bytes (8 * i) entries)) h.each

-- ---- properties

name_found : (pairs : List Pair) (n : ℕ) (x : Name) → PairsFit pairs → name_for pairs n ≡ Some x → NameFits x
name_found [] n x h e = absurd cc
name_found (p ∷ pairs) n x h e = by (nat_eq p.0 n) (λ f. name_found pairs n x h.1 f) e
  where
    by : (b : Bool) → (name_for pairs n ≡ Some x → NameFits x) → option_map (λ (q : Pair). q.1) (cond b (Some p) (find (λ (q : Pair). nat_eq q.0 n) pairs)) ≡ Some x → NameFits x
    by true later f = let same : p.1 ≡ x = cc in subst NameFits same h.0
    by false later f = later f

record KeyFits (k : Key) : Type 0 where
  is : IsKey k
  units : KeyHasUnits k

abbrev given_key : Key → Result Key Fault
given_key k = Ok k

key_read : (pairs : List Pair) (e : PropEntry) (k : Key) → PairsFit pairs → key_of pairs e ≡ Ok k → KeyFits k
unfolding key_of
key_read pairs e k h is = by (nat_lt (id_in e) 0x8000) refl is
  where
    by : (b : Bool) → nat_lt (id_in e) 0x8000 ≡ b → cond b (given_key (id (id_in e))) (mapped named (found (name_for pairs (id_in e)) (UNMAPPED_ID, e.place))) ≡ Ok k → KeyFits k
    by true f out = let same : id (id_in e) ≡ k = cc in subst KeyFits same (record { is = ltb-true (id_in e) 0x8000 f; units = tt })
    by false f out =
        let (x, there, same) = mapped_ok named (found (name_for pairs (id_in e)) (UNMAPPED_ID, e.place)) k out in
        let n = name_found pairs (id_in e) x h (found_ok (name_for pairs (id_in e)) (UNMAPPED_ID, e.place) x there) in
        subst KeyFits (sym same) (record { is = n.is; units = n.units })

prop_read : (pairs : List Pair) (streams : Streams) (e : PropEntry) (p : Prop) → PairsFit pairs → StreamsFit streams → AllBytes e.field → prop_of pairs streams e ≡ Ok p → IsListed p
unfolding prop_of
prop_read pairs streams e p h fit field is =
    let c = check_ok (is_kind (kind_in e)) UNKNOWN_TYPE e.place _ p is in
    let (k, key_is, next) = bind_ok (key_of pairs e) _ p c.1 in
    let (v, value_is, out) = bind_ok (value_of streams e) _ p next in
    let key = key_read pairs e k h key_is in
    let value = value_read streams e v fit field c.0 value_is in
    subst IsListed (sym (ok_same (Ok _) (record { key = k; value = v }) p refl out)) (record { good = record { key = key.is; value = value }; units = key.units })

abbrev ItemFits : Item → Type 0
ItemFits (kept p) = IsListed p
ItemFits (passed tag place) = Unit {0}
ItemFits (embedding place) = Unit {0}

abbrev given_item : Item → Result Item Fault
given_item x = Ok x

item_read : (part : Part) (pairs : List Pair) (streams : Streams) (e : PropEntry) (x : Item) → PairsFit pairs → StreamsFit streams → AllBytes e.field → item_of part pairs streams e ≡ Ok x → ItemFits x
unfolding item_of
item_read part pairs streams e x h fit field is = by (is_attachment part && (e.tag == ATTACHED_OBJECT)) ((kind_in e == OBJECT) || is_passed_kind (kind_in e)) is
  where
    by : (a b : Bool) → cond a (given_item (embedding e.place)) (cond b (given_item (passed e.tag e.place)) (mapped kept (prop_of pairs streams e))) ≡ Ok x → ItemFits x
    by true b out = let same : embedding e.place ≡ x = cc in subst ItemFits same tt
    by false true out = let same : passed e.tag e.place ≡ x = cc in subst ItemFits same tt
    by false false out =
        let (p, there, same) = mapped_ok kept (prop_of pairs streams e) x out in
        subst ItemFits (sym same) (prop_read pairs streams e p h fit field there)

items_read : (part : Part) (pairs : List Pair) (streams : Streams) (entries : List PropEntry) (items : List Item) → PairsFit pairs → StreamsFit streams → AllByRecursion (λ (e : PropEntry). AllBytes e.field) entries → AllZip (λ e x. item_of part pairs streams e ≡ Ok x) entries items → AllByRecursion IsListed (filter_map prop_in items)
items_read part pairs streams [] [] h fit field z = tt
items_read part pairs streams [] (x ∷ items) h fit field z = absurd z
items_read part pairs streams (e ∷ entries) [] h fit field z = absurd z
items_read part pairs streams (e ∷ entries) (x ∷ items) h fit field z = by x (item_read part pairs streams e x h fit field.0 z.0) (items_read part pairs streams entries items h fit field.1 z.1)
  where
    by : (y : Item) → ItemFits y → AllByRecursion IsListed (filter_map prop_in items) → AllByRecursion IsListed (filter_map prop_in (y ∷ items))
    by (kept p) f rest = (f, rest)
    by (passed tag place) f rest = rest
    by (embedding place) f rest = rest

pub list_read : (part : Part) (pairs : List Pair) (streams : Streams) (l : Section) → PairsFit pairs → StreamsFit streams → MsgProps part pairs streams l → IsPropList l.props
list_read part pairs streams l h fit m =
    let there : Short m.f.stream.bytes = subst FoundFits m.there (fit PROPERTIES) in
    let s = m.f.stream in
    let field : AllByRecursion (λ (e : PropEntry). AllBytes e.field) (prop_entries part s) = each_piece (λ (e : PropEntry). AllBytes e.field) (λ k. prop_entry s (head_size part + 16 * k)) 0 ((length s.bytes - head_size part) / 16)
    (λ i low high. AllBytes-take 8 (drop (head_size part + 16 * i + 8) s.bytes) (AllBytes-drop (head_size part + 16 * i + 8) s.bytes there.bytes)) in
    let each = items_read part pairs streams (prop_entries part s) m.items h fit field m.each in
    let all : All IsListed l.props = All-permutation IsListed (filter_map prop_in m.items) l.props m.once (all_of IsListed (filter_map prop_in m.items) each) in
    record { sorted = m.sorted; each = λ k d lt. (all k d lt).good; units = λ k d lt. (all k d lt).units }
