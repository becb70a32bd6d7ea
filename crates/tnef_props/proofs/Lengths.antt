-- How long what is written is.
use Rattle.std.proofs.Common.{◌≡◌, ℕ, suc, ◌+◌, ◌*◌, ◌%◌, ◌<◌, ◌++◌, List, [], ◌∷◌, Bool, true, false, Some, None, Option, length, take, get_or, not, inl, inr, refl, ap, subst, length-append, arith, if◌then◌else◌}
use Rattle.std.specs.Prelude.{replicate, slice_get, All, filter}
use Rattle.std.specs.List.{flat_map}
use Rattle.std.proofs.lemmas.List.{length-replicate}
use Rattle.std.proofs.Math.Nat.{mul-suc}
use Rattle.carrier_model.specs.Bytes.{le32, le_bytes, unit_bytes, pad4}
use Rattle.carrier_model.specs.Keys.{Name, numbered, texted, IsName}
use Rattle.tnef_model.specs.TnefCanonical.{zero_padded, with_size, name_bytes, list_bytes, object_bytes, prop_bytes, props_bytes}
use Rattle.carrier_model.specs.Kinds.{comes_before_object}
use Rattle.carrier_model.specs.Totals.{capped}
use Rattle.carrier_model.specs.Values.{Prop}
use Rattle.tnef_props.specs.Written.{HasWidth, text_field, object_length}
use Rattle.carrier_io.proofs.Summed.{flat_map_more}
use Rattle.tnef_props.proofs.WrittenValues.{nulled_length}
use Rattle.tnef_props.proofs.WrittenKeys.{units_length}

pub with_size_length : (x : List ℕ) → length (with_size x) ≡ 4 + (length x + pad4 (length x))
with_size_length x = omega (arith, length-append x (replicate (pad4 (length x)) 0), length-replicate {A = ℕ} (pad4 (length x)) 0)

pub text_length : (x : List ℕ) (null size pad : ℕ) → size ≡ length x + null → (size + pad) % 4 ≡ 0 → pad < 4 → length (text_field null x) ≡ 4 + (size + pad)
text_length x null size pad e multiple least = omega (arith, with_size_length (x ++ replicate null 0), nulled_length x null, e, multiple, least)

pub flat_map_longer : {X : Type 0} (f : X → List ℕ) (xs : List X) (k : ℕ) (x : X) (size one new : ℕ) → slice_get xs k ≡ Some x → size ≡ capped (length (flat_map f (take k xs))) → one ≡ capped (length (f x)) → new ≡ capped (size + one) → new ≡ capped (length (flat_map f (take (k + 1) xs)))
flat_map_longer f xs k x size one new at p q r = omega (arith, ap length (flat_map_more f xs k x at), length-append (flat_map f (take k xs)) (f x), p, q, r)

pub each_length : {X : Type 0} (f : X → List ℕ) (width : ℕ) (xs : List X) → All (λ x. length (f x) ≡ width) xs → length (flat_map f xs) ≡ width * length xs
each_length f width [] h = omega arith
each_length f width (x ∷ xs) h =
    let one : length (f x) ≡ width = h 0 x (omega arith) in
    let more : length (flat_map f xs) ≡ width * length xs = each_length f width xs (λ k d lt. h (suc k) d (omega arith)) in
    omega (arith, length-append (f x) (flat_map f xs), one, more, mul-suc width (length xs))

-- the bytes of a number with its padding
pub number_length : (wide : Bool) (width n : ℕ) → HasWidth wide width → length (zero_padded (le_bytes width n)) ≡ (if wide then 8 else 4)
number_length true width n w = rw w refl
number_length false width n (inl w) = rw w refl
number_length false width n (inr w) = rw w refl

pub numbers_length : (wide : Bool) (width : ℕ) (list : List ℕ) → HasWidth wide width → length (flat_map (λ n. zero_padded (le_bytes width n)) list) ≡ (if wide then 8 else 4) * length list
numbers_length wide width list w = each_length (λ n. zero_padded (le_bytes width n)) (if wide then 8 else 4) list (λ k d lt. number_length wide width (get_or list k d) w)

pub name_length : (set units : List ℕ) (size pad : ℕ) → length set ≡ 16 → size ≡ 2 * (length units + 1) → (size + pad) % 4 ≡ 0 → pad < 4 → length (name_bytes (texted set units)) ≡ 24 + (size + pad)
name_length set units size pad s e multiple least =
    let x = unit_bytes (units ++ 0 ∷ []) in
    omega (arith, length-append set (le32 1 ++ with_size x), with_size_length x, units_length (units ++ 0 ∷ []), length-append units (0 ∷ []), s, e, multiple, least)

pub text_name_length : (name : Name) (set units : List ℕ) (size pad : ℕ) → name ≡ texted set units → IsName name → size ≡ 2 * (length units + 1) → (size + pad) % 4 ≡ 0 → pad < 4 → length (name_bytes name) ≡ 24 + (size + pad)
text_name_length name set units size pad is valid e multiple least =
    let v = subst IsName is valid in
    rw is (name_length set units size pad v.0 e multiple least)

pub number_name_length : (set : List ℕ) (n : ℕ) → length set ≡ 16 → length (name_bytes (numbered set n)) ≡ 24
number_name_length set n s = omega (arith, length-append set (le32 0 ++ le32 n), s)

pub object_long : (x : List ℕ) → length (object_bytes x) ≡ 12 + (length x + pad4 (length x))
object_long x = omega (arith, with_size_length x)

pub parted_length : (names : List Name) (f : Prop → Bool) (g : Prop → List ℕ) (xs : List Prop) → length (flat_map g (filter f xs)) + length (flat_map g (filter (λ p. not (f p)) xs)) ≡ length (flat_map g xs)
parted_length names f g [] = refl
parted_length names f g (x ∷ xs) = by (f x) (parted_length names f g xs)
  where
    by : (is : Bool) → length (flat_map g (filter f xs)) + length (flat_map g (filter (λ p. not (f p)) xs)) ≡ length (flat_map g xs) → length (flat_map g (if is then x ∷ filter f xs else filter f xs)) + length (flat_map g (if not is then x ∷ filter (λ p. not (f p)) xs else filter (λ p. not (f p)) xs)) ≡ length (flat_map g (x ∷ xs))
    by true rest = omega (arith, rest, length-append (g x) (flat_map g (filter f xs)), length-append (g x) (flat_map g xs))
    by false rest = omega (arith, rest, length-append (g x) (flat_map g (filter (λ p. not (f p)) xs)), length-append (g x) (flat_map g xs))

pub list_length : (names : List Name) (props : List Prop) (content : Option (List ℕ)) → length (list_bytes names props content) ≡ 4 + (object_length content + length (props_bytes names props))
list_length names props None = omega arith
list_length names props (Some x) =
    let before = props_bytes names (filter comes_before_object props) in
    let behind = props_bytes names (filter (λ p. not (comes_before_object p)) props) in
    omega (arith, parted_length names comes_before_object (prop_bytes names) props, length-append before (object_bytes x ++ behind), length-append (object_bytes x) behind)
