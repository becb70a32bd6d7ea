-- The parts of a value as it is written.
use Rattle.std.proofs.Common.{◌≡◌, ℕ, suc, ◌+◌, ◌*◌, ◌%◌, ◌/◌, ◌^◌, ◌<◌, ◌++◌, List, [], ◌∷◌, Bool, true, false, Some, length, get_or, inl, inr, refl, sym, ap, subst, ◌∙◌, append_assoc, length-append, arith}
use Rattle.std.specs.Prelude.{replicate, slice_get, All, ◌==◌, if◌then◌else◌}
use Rattle.std.specs.List.{flat_map}
use Rattle.std.proofs.lemmas.List.{length-replicate, replicate-append-replicate}
use Rattle.std.proofs.lemmas.Option.{slice_get_within, get_or_from_slice_get}
use Rattle.carrier_model.specs.Bytes.{le32, le_bytes, pad4}
use Rattle.tnef_model.specs.TnefCanonical.{zero_padded, value_bytes}
use Rattle.carrier_model.specs.Values.{Value, number, guid, bytes, numbers, guids, parts, IsValue, IsBytes}
use Rattle.tnef_props.specs.Written.{HasWidth, Fits, number_field, counted, count_field, content_field}

pub all_at : {X : Type 0} (P : X → Type 0) (xs : List X) (k : ℕ) (x : X) → All P xs → slice_get xs k ≡ Some x → P x
all_at P xs k x h at = subst P (get_or_from_slice_get xs k x x at) (h k x (slice_get_within xs k x at))

pub padding : (n pad : ℕ) → (n + pad) % 4 ≡ 0 → pad < 4 → pad4 n ≡ pad
padding n pad e lt = omega (arith, e, lt)

pub nulled_length : (x : List ℕ) (null : ℕ) → length (x ++ replicate null 0) ≡ length x + null
nulled_length x null = omega (arith, length-append x (replicate null 0), length-replicate {A = ℕ} null 0)

pub padded_parts : (x : List ℕ) (null size pad : ℕ) → size ≡ length x + null → (size + pad) % 4 ≡ 0 → pad < 4 → zero_padded (x ++ replicate null 0) ≡ x ++ replicate (null + pad) 0
padded_parts x null size pad e multiple least =
    let p : pad4 (length (x ++ replicate null 0)) ≡ pad = ap pad4 (nulled_length x null ∙ sym e) ∙ padding size pad multiple least in
    ap (λ (n : ℕ). (x ++ replicate null 0) ++ replicate n 0) p
    ∙ append_assoc x (replicate null 0) (replicate pad 0)
    ∙ ap (λ (z : List ℕ). x ++ z) (replicate-append-replicate {A = ℕ} null pad 0)

pub text_size : (x : List ℕ) (null n : ℕ) → n ≡ length x + null → le32 n ≡ le32 (length (x ++ replicate null 0))
text_size x null n e = ap le32 (e ∙ sym (nulled_length x null))

pub padded_open : (x : List ℕ) (null : ℕ) → zero_padded (x ++ replicate null 0) ≡ x ++ (replicate null 0 ++ replicate (pad4 (length (x ++ replicate null 0))) 0)
padded_open x null = append_assoc x (replicate null 0) (replicate (pad4 (length (x ++ replicate null 0))) 0)

-- ---- numbers

pub fits_width : (wide : Bool) (width n : ℕ) → HasWidth wide width → n < 2 ^ (8 * width) → Fits wide n
fits_width true width n w lt = rw w at lt
fits_width false width n (inl w) lt = let h : n < 2 ^ 16 = rw w at lt in omega arith
fits_width false width n (inr w) lt = rw w at lt

pub number_parts : (wide : Bool) (width n : ℕ) → HasWidth wide width → n < 2 ^ (8 * width) → number_field wide n ≡ zero_padded (le_bytes width n)
number_parts true width n w lt = rw w refl
number_parts false width n (inl w) lt = let h : n < 2 ^ 16 = rw w at lt in
    let a : n / 65536 % 256 ≡ 0 = omega arith in
    let b : n / 16777216 % 256 ≡ 0 = omega arith in
    rw (w, a, b) refl
number_parts false width n (inr w) lt = rw w refl

pub numbers_parts : (wide : Bool) (width : ℕ) (list : List ℕ) → HasWidth wide width → All (λ n. n < 2 ^ (8 * width)) list → flat_map (number_field wide) list ≡ flat_map (λ n. zero_padded (le_bytes width n)) list
numbers_parts wide width [] w h = refl
numbers_parts wide width (n ∷ list) w h =
    ap (λ (z : List ℕ). z ++ flat_map (number_field wide) list) (number_parts wide width n w (h 0 n (omega arith)))
    ∙ ap (λ (z : List ℕ). zero_padded (le_bytes width n) ++ z) (numbers_parts wide width list w (λ k d lt. h (suc k) d (omega arith)))

pub numbers_fit : (wide : Bool) (width : ℕ) (list : List ℕ) → HasWidth wide width → All (λ n. n < 2 ^ (8 * width)) list → All (λ n. Fits wide n) list
numbers_fit wide width list w h k d lt = fits_width wide width (get_or list k d) w (h k d lt)

-- ---- texts

pub bytes_short : (kind : ℕ) (x : List ℕ) → IsBytes kind x → length x < 0x4000_0000
bytes_short kind x b = by (kind == 0x001E) b.short
  where
    by : (is : Bool) → length x < (if is then 0x1000_0000 else 0x4000_0000) → length x < 0x4000_0000
    by true h = omega (arith, h)
    by false h = h

pub parts_short : (kind : ℕ) (list : List (List ℕ)) → All (IsBytes kind) list → All (λ (x : List ℕ). length x < 0x4000_0000) list
parts_short kind list h k d lt = bytes_short kind (get_or list k d) (h k d lt)

-- ---- values

pub count_below : (v : Value) (n : ℕ) → IsValue v → counted v ≡ Some n → n < 0x1000_0000
count_below (number kind bits) n v e = absurd cc
count_below (guid set) n v e = absurd cc
count_below (bytes kind x) n v e = let h : n ≡ 1 = cc in omega arith
count_below (numbers kind list) n v e = let h : n ≡ length list = cc in omega (arith, v.2)
count_below (guids list) n v e = let h : n ≡ length list = cc in omega (arith, v.1)
count_below (parts kind list) n v e = let h : n ≡ length list = cc in omega (arith, v.3)

pub value_parts : (v : Value) → value_bytes v ≡ count_field (counted v) ++ content_field v
value_parts (number kind bits) = refl
value_parts (guid set) = refl
value_parts (bytes kind x) = refl
value_parts (numbers kind list) = refl
value_parts (guids list) = refl
value_parts (parts kind list) = refl
