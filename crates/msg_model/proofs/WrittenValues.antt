-- The values that are written to a .msg file are read back.
use Rattle.std.proofs.Common.{◌≡◌, ℕ, suc, ◌+◌, ◌-◌, ◌*◌, ◌/◌, ◌%◌, ◌<◌, ◌^◌, Bool, true, false, List, [], ◌∷◌, ◌++◌, length, map, take, drop, replicate, Some, Ok, refl, sym, ap, subst, ◌∙◌, arith}
use Rattle.std.specs.Prelude.{All, ◌==◌, IsTrue, is_some}
use Rattle.std.specs.List.{flat_map, range_with_len, AllByRecursion}
use Rattle.std.proofs.lemmas.List.{length-append, take_at, drop_at, drop-drop}
use Rattle.std.proofs.lemmas.Bool.{cond-true, cond-false, eq-eqb, lt-ltb, or_left}
use Rattle.carrier_model.specs.Trail.{Test, first_fault}
use Rattle.carrier_model.specs.Reasons.{BAD_ELEMENT}
use Rattle.carrier_model.specs.Outcomes.{mapped}
use Rattle.carrier_model.specs.Turns.{unless, tested}
use Rattle.std.proofs.Math.Nat.{mul-div_cancel_left}
use Rattle.std.proofs.lemmas.Nat.{mod-mul-add}
use Rattle.carrier_model.specs.Sectors.{u32_of}
use Rattle.carrier_model.specs.Lookups.{Found, size_place, bytes_at}
use Rattle.carrier_model.specs.Values.{Value, number, guid, bytes, numbers, guids, parts, IsValue, IsBytes, kind_of, number_widths, numbers_widths, width_in, is_bytes_kind}
use Rattle.carrier_model.specs.Bytes.{le_number, le_bytes}
use Rattle.carrier_model.specs.Kinds.{bits_of, null_of, without_null, is_number_kind, is_numbers_kind}
use Rattle.msg_model.specs.MsgValues.{Streams, PropEntry, kind_in, step_of, fits_kind, pieces_of, Element, elements_of, form_test, presence_test, parts_of, streamed_value, stored_value, value_of}
use Rattle.msg_model.specs.StreamNames.{value_name, element_name}
use Rattle.msg_model.specs.WrittenMsg.{with_null, length_words, element_streams, value_streams, value_field}
use Rattle.msg_model.specs.ReadBack.{HasStream}
use Rattle.carrier_model.proofs.Turns.{bind_from, check_from}
use Rattle.carrier_model.proofs.KindLaws.{without_its_null, bytes_kinds, number_again, several, map_again}

-- ---- pieces

-- the pieces of a list of which each element has so many bytes
pieces_again : {A : Type 0} (write : A → List ℕ) (w : ℕ) (x : List ℕ) (k : ℕ) (xs : List A) → AllByRecursion (λ a. length (write a) ≡ w) xs → drop (w * k) x ≡ flat_map write xs → map (λ i. take w (drop (w * i) x)) (range_with_len k (length xs)) ≡ map write xs
pieces_again write w x k [] all e = refl
pieces_again write w x k (a ∷ xs) all e =
    let here : take w (drop (w * k) x) ≡ write a = ap (take w) e ∙ take_at (write a) (flat_map write xs) w all.0 in
    let on : drop (w * (k + 1)) x ≡ flat_map write xs = ap (λ n. drop n x) (let z : w * (k + 1) ≡ w * k + w = grind arith in z) ∙ (sym (drop-drop w (w * k) x) ∙ (ap (drop w) e ∙ drop_at (write a) (flat_map write xs) w all.0)) in
    let rest = pieces_again write w x (k + 1) xs all.1 on in
    λ i. here i ∷ rest i

length-each : {A : Type 0} (write : A → List ℕ) (w : ℕ) (xs : List A) → AllByRecursion (λ a. length (write a) ≡ w) xs → length (flat_map write xs) ≡ w * length xs
length-each write w [] all = grind arith
length-each write w (a ∷ xs) all = let h = length-each write w xs all.1 in let z : w * suc (length xs) ≡ w + w * length xs = grind arith in length-append (write a) (flat_map write xs) ∙ (ap (λ n. n + length (flat_map write xs)) all.0 ∙ (ap (λ n. w + n) h ∙ sym z))

all_pieces : {A : Type 0} (write : A → List ℕ) (w : ℕ) (xs : List A) → 0 < w → AllByRecursion (λ a. length (write a) ≡ w) xs → pieces_of w (flat_map write xs) ≡ map write xs
all_pieces write w xs some all =
    let count : length (flat_map write xs) / w ≡ length xs = ap (λ n. n / w) (length-each write w xs all) ∙ mul-div_cancel_left (length xs) some in
    ap (λ n. map (λ i. take w (drop (w * i) (flat_map write xs))) (range_with_len 0 n)) count
    ∙ pieces_again write w (flat_map write xs) 0 xs all (ap (λ n. drop n (flat_map write xs)) (let z : w * 0 ≡ 0 = grind arith in z))

whole_pieces : (w n : ℕ) → 0 < w → w * n % w ≡ 0
whole_pieces w n some = let z : w * n ≡ n * w + 0 = grind arith in ap (λ m. m % w) z ∙ mod-mul-add n w 0 some

-- ---- elements

abbrev Holds : List Test → Type 0
Holds tests = AllByRecursion (λ (t : Test). t.holds ≡ true) tests

no_fault : (tests : List Test) → Holds tests → tested tests ≡ Ok tt
no_fault [] h = refl
no_fault (t ∷ ts) h = ap unless (cond-true t.holds (first_fault ts) _ h.0) ∙ no_fault ts h.1

both_hold : (one other : List Test) → Holds one → Holds other → Holds (one ++ other)
both_hold [] other h g = g
both_hold (t ∷ one) other h g = (h.0, both_hold one other h.1 g)

-- the bytes of a single text, and of an element, have a length that fits
abbrev Fits : ℕ → Type 0
Fits kind = (x : List ℕ) → IsBytes kind x → (fits_kind kind (length x) ≡ true) × (fits_kind kind (length (with_null kind x)) ≡ true)

even_fits : Fits 0x001F
even_fits x h =
    let e : length x % 2 ≡ 0 = h.even refl in
    let n : length (with_null 0x001F x) ≡ length x + 2 = length-append x (replicate 2 0) in
    (eq-eqb (length x % 2) 0 e, eq-eqb (length (with_null 0x001F x) % 2) 0 (omega (arith, n, e)))

text_fits : (kind : ℕ) → IsTrue (is_bytes_kind kind) → Fits kind
text_fits kind = bytes_kinds Fits kind (λ x h. (refl, refl)) even_fits (λ x h. (refl, refl))

module _ (streams : Streams) (tag single : ℕ) (sizes : List ℕ) (step : ℕ) where
  element : ℕ → Element
  element i = record { stream = streams (element_name tag i); size = u32_of sizes (step * i) }

  abbrev elements_from : ℕ → List (List ℕ) → List Element
  elements_from i xs = map (λ j. record { stream = streams (element_name tag j); size = u32_of sizes (step * j) }) (range_with_len i (length xs))

  forms_hold : (i : ℕ) (xs : List (List ℕ)) → Fits single → AllByRecursion (IsBytes single) xs → AllByRecursion (HasStream streams) (element_streams tag single i xs) → Holds (map (form_test single) (elements_from i xs))
  forms_hold i [] fits all there = tt
  forms_hold i (x ∷ xs) fits all there =
      let f = there.0.f in
      let here : bytes_at (streams (element_name tag i)) ≡ with_null single x = ap bytes_at there.0.there ∙ there.0.bytes in
      (ap (λ (z : List ℕ). fits_kind single (length z)) here ∙ (fits x all.0).1, forms_hold (i + 1) xs fits all.1 there.1)

  presences_hold : (i place : ℕ) (xs : List (List ℕ)) → AllByRecursion (HasStream streams) (element_streams tag single i xs) → Holds (map (presence_test single place) (elements_from i xs))
  presences_hold i place [] there = tt
  presences_hold i place (x ∷ xs) there = (or_left (is_some (streams (element_name tag i))) _ (ap is_some there.0.there), presences_hold (i + 1) place xs there.1)

  elements_again : (i : ℕ) (xs : List (List ℕ)) → AllByRecursion (HasStream streams) (element_streams tag single i xs) → map (λ (x : Element). without_null (null_of single) (bytes_at x.stream)) (elements_from i xs) ≡ xs
  elements_again i [] there = refl
  elements_again i (x ∷ xs) there =
      let here : bytes_at (streams (element_name tag i)) ≡ with_null single x = ap bytes_at there.0.there ∙ there.0.bytes in
      let one : without_null (null_of single) (bytes_at (streams (element_name tag i))) ≡ x = ap (without_null (null_of single)) here ∙ without_its_null (null_of single) x in
      let rest = elements_again (i + 1) xs there.1 in
      λ j. one j ∷ rest j

  parts_again : (place : ℕ) (xs : List (List ℕ)) → Fits single → AllByRecursion (IsBytes single) xs → AllByRecursion (HasStream streams) (element_streams tag single 0 xs) → parts_of single place (elements_from 0 xs) ≡ Ok xs
  unfolding parts_of
  parts_again place xs fits all there =
      bind_from (tested (map (form_test single) (elements_from 0 xs) ++ map (presence_test single place) (elements_from 0 xs))) _ tt
      (no_fault _ (both_hold (map (form_test single) (elements_from 0 xs)) (map (presence_test single place) (elements_from 0 xs)) (forms_hold 0 xs fits all there) (presences_hold 0 place xs there)))
      ∙ ap Ok (elements_again 0 xs there)

-- ---- values

pub every_of : {A : Type 0} (P Q : A → Type 0) → ((x : A) → P x → Q x) → (xs : List A) → All P xs → AllByRecursion Q xs
every_of P Q f [] all = tt
every_of P Q f (x ∷ xs) all = (f x (all 0 x (omega arith)), every_of P Q f xs (λ k d lt. all (suc k) d (omega arith)))

map_same : {A : Type 0} (xs : List A) → map (λ x. x) xs ≡ xs
map_same [] = refl
map_same (x ∷ xs) = ap (λ l. x ∷ l) (map_same xs)

-- what is known of a multiple kind
record IsParts (kind : ℕ) (single : ℕ) : Type 0 where
  pub no_number : is_number_kind kind ≡ false
  pub no_guid : (kind == 0x0048) ≡ false
  pub no_bytes : is_bytes_kind kind ≡ false
  pub no_numbers : is_numbers_kind kind ≡ false
  pub no_guids : (kind == 0x1048) ≡ false
  pub some : 0 < step_of kind
  pub length : (x : List ℕ) → length (length_words single x) ≡ step_of kind

parts_kind : (single : ℕ) → IsTrue (is_bytes_kind single) → IsParts (single + 0x1000) single
parts_kind single = bytes_kinds (λ s. IsParts (s + 0x1000) s) single
    (record { no_number = refl; no_guid = refl; no_bytes = refl; no_numbers = refl; no_guids = refl; some = omega arith; length = λ x. refl })
    (record { no_number = refl; no_guid = refl; no_bytes = refl; no_numbers = refl; no_guids = refl; some = omega arith; length = λ x. refl })
    (record { no_number = refl; no_guid = refl; no_bytes = refl; no_numbers = refl; no_guids = refl; some = omega arith; length = λ x. refl })

-- a kind of a text or of bytes is no kind before it
abbrev IsText : ℕ → Type 0
IsText kind = (is_number_kind kind ≡ false) × ((kind == 0x0048) ≡ false)

text_kind : (kind : ℕ) → IsTrue (is_bytes_kind kind) → IsText kind
text_kind kind = bytes_kinds IsText kind (refl, refl) (refl, refl) (refl, refl)

from_is_true : (b : Bool) → IsTrue b → b ≡ true
from_is_true true h = refl
from_is_true false h = absurd cc

fits_else : (kind n : ℕ) → (kind == 0x0048) ≡ false → is_bytes_kind kind ≡ false → n % step_of kind ≡ 0 → fits_kind kind n ≡ true
fits_else kind n a b e = cond-false (kind == 0x0048) _ _ a ∙ (cond-false (is_bytes_kind kind) _ _ b ∙ eq-eqb (n % step_of kind) 0 e)

numbers_step : (kind : ℕ) → 0 < width_in numbers_widths kind → step_of kind ≡ width_in numbers_widths kind
numbers_step kind some = cond-true (is_numbers_kind kind) _ _ (lt-ltb 0 (width_in numbers_widths kind) some)

-- the bytes of the stream of the tag
abbrev stored_bytes : Value → List ℕ
stored_bytes (number kind bits) = []
stored_bytes (guid set) = set
stored_bytes (bytes kind x) = x
stored_bytes (numbers kind list) = flat_map (le_bytes (width_in numbers_widths kind)) list
stored_bytes (guids list) = flat_map (λ set. set) list
stored_bytes (parts kind list) = flat_map (length_words (kind - 0x1000)) list

module _ (streams : Streams) (e : PropEntry) where
  -- a value in the stream of the tag
  stored : (v : Value) (f : Found) → kind_in e ≡ kind_of v → streams (value_name e.tag) ≡ Some f → f.stream.bytes ≡ stored_bytes v
      → is_number_kind (kind_of v) ≡ false → fits_kind (kind_of v) (length (stored_bytes v)) ≡ true → streamed_value streams e (stored_bytes v) ≡ Ok v → value_of streams e ≡ Ok v
  unfolding value_of stored_value
  stored v f k there is no_number fits read =
      cond-false (is_number_kind (kind_in e)) _ _ (ap is_number_kind k ∙ no_number)
      ∙ (ap (stored_value streams e) there
      ∙ (check_from (fits_kind (kind_in e) (length f.stream.bytes)) BAD_ELEMENT (size_place f) _ ((λ i. fits_kind (k i) (length (is i))) ∙ fits)
      ∙ (ap (streamed_value streams e) is ∙ read)))

  number_read : (kind bits : ℕ) → IsValue (number kind bits) → kind_in e ≡ kind → e.field ≡ value_field (number kind bits) → value_of streams e ≡ Ok (number kind bits)
  unfolding value_of
  number_read kind bits h k field =
      let w : ℕ = width_in number_widths kind in
      let again = number_again kind h.1 bits h.0 h.2 in
      let front : take w e.field ≡ le_bytes w bits = ap (take w) field ∙ take_at (le_bytes w bits) (replicate (8 - w) 0) w again.1 in
      cond-true (is_number_kind (kind_in e)) _ _ (ap is_number_kind k ∙ lt-ltb 0 w h.1)
      ∙ (ap (λ n. Ok (number n (bits_of n (take (width_in number_widths n) e.field)))) k
      ∙ (ap (λ (z : List ℕ). Ok (number kind (bits_of kind z))) front ∙ ap (λ n. Ok (number kind n)) again.0))

  guid_read : (set : List ℕ) → kind_in e ≡ 0x0048 → streamed_value streams e set ≡ Ok (guid set)
  unfolding streamed_value
  guid_read set k = cond-true (kind_in e == 0x0048) _ _ (ap (λ n. n == 0x0048) k)

  bytes_read : (kind : ℕ) (x : List ℕ) → IsTrue (is_bytes_kind kind) → kind_in e ≡ kind → streamed_value streams e x ≡ Ok (bytes kind x)
  unfolding streamed_value
  bytes_read kind x h k =
      cond-false (kind_in e == 0x0048) _ _ (ap (λ n. n == 0x0048) k ∙ (text_kind kind h).1)
      ∙ (cond-true (is_bytes_kind (kind_in e)) _ _ (ap is_bytes_kind k ∙ from_is_true (is_bytes_kind kind) h)
      ∙ ap (λ n. Ok (bytes n x)) k)

  numbers_read : (kind : ℕ) (list : List ℕ) → IsValue (numbers kind list) → kind_in e ≡ kind → streamed_value streams e (flat_map (le_bytes (width_in numbers_widths kind)) list) ≡ Ok (numbers kind list)
  unfolding streamed_value
  numbers_read kind list h k =
      let w : ℕ = width_in numbers_widths kind in
      let t = several kind h.1 in
      let lengths : AllByRecursion (λ n. length (le_bytes w n) ≡ w) list = every_of (λ n. n < 2 ^ (8 * w)) (λ n. length (le_bytes w n) ≡ w) (λ n lt. (t.3 n lt).1) list h.0 in
      let pieces : pieces_of w (flat_map (le_bytes w) list) ≡ map (le_bytes w) list = all_pieces (le_bytes w) w list h.1 lengths in
      let again : map le_number (map (le_bytes w) list) ≡ list = map_again (le_bytes w) (λ n. n < 2 ^ (8 * w)) (λ n lt. (t.3 n lt).0) list h.0 in
      cond-false (kind_in e == 0x0048) _ _ (ap (λ n. n == 0x0048) k ∙ t.1)
      ∙ (cond-false (is_bytes_kind (kind_in e)) _ _ (ap is_bytes_kind k ∙ t.2)
      ∙ (cond-true (is_numbers_kind (kind_in e)) _ _ (ap is_numbers_kind k ∙ lt-ltb 0 w h.1)
      ∙ (ap (λ n. Ok (numbers n (map le_number (pieces_of (step_of n) (flat_map (le_bytes w) list))))) k
      ∙ (ap (λ n. Ok (numbers kind (map le_number (pieces_of n (flat_map (le_bytes w) list))))) (numbers_step kind h.1)
      ∙ ap (λ l. Ok (numbers kind l)) (ap (map le_number) pieces ∙ again)))))

  guids_read : (list : List (List ℕ)) → IsValue (guids list) → kind_in e ≡ 0x1048 → streamed_value streams e (flat_map (λ set. set) list) ≡ Ok (guids list)
  unfolding streamed_value
  guids_read list h k =
      let lengths : AllByRecursion (λ (g : List ℕ). length g ≡ 16) list = every_of (λ (g : List ℕ). length g ≡ 16) (λ (g : List ℕ). length g ≡ 16) (λ g s. s) list h.0 in
      cond-false (kind_in e == 0x0048) _ _ (ap (λ n. n == 0x0048) k)
      ∙ (cond-false (is_bytes_kind (kind_in e)) _ _ (ap is_bytes_kind k)
      ∙ (cond-false (is_numbers_kind (kind_in e)) _ _ (ap is_numbers_kind k)
      ∙ (cond-true (kind_in e == 0x1048) _ _ (ap (λ n. n == 0x1048) k)
      ∙ ap (λ l. Ok (guids l)) (all_pieces (λ g. g) 16 list (omega arith) lengths ∙ map_same list))))

  parts_read : (kind : ℕ) (list : List (List ℕ)) → IsValue (parts kind list) → kind_in e ≡ kind → AllByRecursion (HasStream streams) (element_streams e.tag (kind - 0x1000) 0 list) → streamed_value streams e (flat_map (length_words (kind - 0x1000)) list) ≡ Ok (parts kind list)
  unfolding streamed_value
  parts_read kind list h k there =
      let single : ℕ = kind - 0x1000 in
      let whole : single + 0x1000 ≡ kind = omega (arith, h.1) in
      let is : IsParts kind single = subst (λ n. IsParts n single) whole (parts_kind single h.2) in
      let sizes : List ℕ = flat_map (length_words single) list in
      let lengths : AllByRecursion (λ x. length (length_words single x) ≡ step_of kind) list = every_of (IsBytes single) (λ x. length (length_words single x) ≡ step_of kind) (λ x b. is.length x) list h.0 in
      let count : length sizes / step_of kind ≡ length list = ap (λ n. n / step_of kind) (length-each (length_words single) (step_of kind) list lengths) ∙ mul-div_cancel_left (length list) is.some in
      let forms : AllByRecursion (IsBytes single) list = every_of (IsBytes single) (IsBytes single) (λ x b. b) list h.0 in
      let elements : elements_of streams e.tag sizes ≡ elements_from streams e.tag single sizes (step_of kind) 0 list =
      ap (λ n. map (λ i. record { stream = streams (element_name e.tag i); size = u32_of sizes (step_of n * i) }) (range_with_len 0 (length sizes / step_of n))) k
      ∙ ap (λ n. map (λ i. record { stream = streams (element_name e.tag i); size = u32_of sizes (step_of kind * i) }) (range_with_len 0 n)) count in
      cond-false (kind_in e == 0x0048) _ _ (ap (λ n. n == 0x0048) k ∙ is.no_guid)
      ∙ (cond-false (is_bytes_kind (kind_in e)) _ _ (ap is_bytes_kind k ∙ is.no_bytes)
      ∙ (cond-false (is_numbers_kind (kind_in e)) _ _ (ap is_numbers_kind k ∙ is.no_numbers)
      ∙ (cond-false (kind_in e == 0x1048) _ _ (ap (λ n. n == 0x1048) k ∙ is.no_guids)
      ∙ (ap (λ n. mapped (parts n) (parts_of (n - 0x1000) e.place (elements_of streams e.tag sizes))) k
      ∙ (ap (λ l. mapped (parts kind) (parts_of single e.place l)) elements
      ∙ ap (mapped (parts kind)) (parts_again streams e.tag single sizes (step_of kind) e.place list (text_fits single h.2) forms there))))))

  -- Each value is read back, where its streams are there.
  pub value_read : (v : Value) → IsValue v → kind_in e ≡ kind_of v → e.field ≡ value_field v → AllByRecursion (HasStream streams) (value_streams e.tag v) → value_of streams e ≡ Ok v
  value_read (number kind bits) h k field there = number_read kind bits h k field
  value_read (guid set) h k field there = stored (guid set) there.0.f k there.0.there there.0.bytes refl (eq-eqb (length set) 16 h) (guid_read set k)
  value_read (bytes kind x) h k field there = stored (bytes kind x) there.0.f k there.0.there there.0.bytes (text_kind kind h.kind_is).0 (text_fits kind h.kind_is x h).0 (bytes_read kind x h.kind_is k)
  value_read (numbers kind list) h k field there =
      let t = several kind h.1 in
      let w : ℕ = width_in numbers_widths kind in
      let lengths : AllByRecursion (λ n. length (le_bytes w n) ≡ w) list = every_of (λ n. n < 2 ^ (8 * w)) (λ n. length (le_bytes w n) ≡ w) (λ n lt. (t.3 n lt).1) list h.0 in
      let rest : length (flat_map (le_bytes w) list) % step_of kind ≡ 0 = (λ i. length-each (le_bytes w) w list lengths i % numbers_step kind h.1 i) ∙ whole_pieces w (length list) h.1 in
      stored (numbers kind list) there.0.f k there.0.there there.0.bytes t.0 (fits_else kind _ t.1 t.2 rest) (numbers_read kind list h k)
  value_read (guids list) h k field there =
      let lengths : AllByRecursion (λ (g : List ℕ). length g ≡ 16) list = every_of (λ (g : List ℕ). length g ≡ 16) (λ (g : List ℕ). length g ≡ 16) (λ g s. s) list h.0 in
      stored (guids list) there.0.f k there.0.there there.0.bytes refl (fits_else 0x1048 _ refl refl (ap (λ n. n % 16) (length-each (λ g. g) 16 list lengths) ∙ whole_pieces 16 (length list) (omega arith))) (guids_read list h k)
  value_read (parts kind list) h k field there =
      let single : ℕ = kind - 0x1000 in
      let whole : single + 0x1000 ≡ kind = omega (arith, h.1) in
      let is : IsParts kind single = subst (λ n. IsParts n single) whole (parts_kind single h.2) in
      let lengths : AllByRecursion (λ x. length (length_words single x) ≡ step_of kind) list = every_of (IsBytes single) (λ x. length (length_words single x) ≡ step_of kind) (λ x b. is.length x) list h.0 in
      let rest : length (flat_map (length_words single) list) % step_of kind ≡ 0 = ap (λ n. n % step_of kind) (length-each (length_words single) (step_of kind) list lengths) ∙ whole_pieces (step_of kind) (length list) is.some in
      stored (parts kind list) there.0.f k there.0.there there.0.bytes is.no_number (fits_else kind _ is.no_guid is.no_bytes rest) (parts_read kind list h k there.1)
