-- The parts of a key as it is written.
use Rattle.std.proofs.Common.{◌≡◌, ℕ, zero, suc, ◌+◌, ◌*◌, ◌%◌, ◌<◌, ◌++◌, List, [], ◌∷◌, true, false, Some, length, get_or, refl, sym, ap, subst, ◌∙◌, length-append, arith}
use Rattle.std.specs.Prelude.{replicate, slice_get, unwrap_or}
use Rattle.std.specs.List.{position_from}
use Rattle.std.specs.declared.cmp.Ordering.TheVariants.{Less, Equal}
use Rattle.std.proofs.lemmas.Cmp.{tied_itself}
use Rattle.std.proofs.lemmas.List.Concat.{flat_map-append}
use Rattle.std.proofs.lemmas.Option.{slice_get_within, get_or_from_slice_get}
use Rattle.carrier_model.specs.Bytes.{le16, le32, unit_bytes, pad4}
use Rattle.carrier_model.specs.Keys.{Name, numbered, texted, name_cmp, set_of, id_of}
use Rattle.carrier_model.specs.Sorted.{IsStrictlySorted, choose}
use Rattle.tnef_model.specs.TnefCanonical.{zero_padded, name_bytes}
use Rattle.carrier_model.proofs.Orders.{name_total}
use Rattle.tnef_props.specs.Named.{label_field}
use Rattle.tnef_props.proofs.WrittenValues.{padded_parts, padded_open}

-- the first place of a name in a sorted list is the place where it stands
pub found_first : (l : List Name) (name : Name) (k start : ℕ) → IsStrictlySorted name_cmp l → slice_get l k ≡ Some name → position_from (λ other. choose (name_cmp other name) false true false) start l ≡ Some (start + k)
found_first [] name k start sorted at = absurd (omega (arith, slice_get_within {A = Name} [] k name at))
found_first (y ∷ ys) name zero start sorted at =
    let e : y ≡ name = get_or_from_slice_get (y ∷ ys) 0 name name at in
    let same : name_cmp y name ≡ Equal = subst (λ (z : Name). name_cmp z name ≡ Equal) (sym e) (tied_itself name_total name) in
    rw same (ap Some (omega arith))
found_first (y ∷ ys) name (suc k) start sorted at =
    let within : k < length ys = omega (arith, slice_get_within (y ∷ ys) (suc k) name at) in
    let e : get_or ys k y ≡ name = get_or_from_slice_get (y ∷ ys) (suc k) name y at in
    let below : name_cmp y name ≡ Less = subst (λ (z : Name). name_cmp y z ≡ Less) e (sorted 0 (suc k) y (omega arith) (omega (arith, within))) in
    rw below (found_first ys name k (start + 1) (λ i j d lt in_range. sorted (suc i) (suc j) d (omega arith) (omega arith)) at ∙ ap Some (omega arith))

pub id_is : (names : List Name) (name : Name) (k : ℕ) → IsStrictlySorted name_cmp names → slice_get names k ≡ Some name → 0x8000 + k ≡ id_of names name
id_is names name k sorted at =
    let z : 0x8000 + k ≡ 0x8000 + unwrap_or (Some (0 + k)) 0 = omega arith in
    z ∙ sym (ap (λ o. 0x8000 + unwrap_or o 0) (found_first names name k 0 sorted at))

pub units_length : (units : List ℕ) → length (unit_bytes units) ≡ 2 * length units
units_length [] = refl
units_length (u ∷ us) = omega (arith, units_length us)

pub units_null : (units : List ℕ) → unit_bytes (units ++ 0 ∷ []) ≡ unit_bytes units ++ replicate 2 0
units_null units = flat_map-append le16 units (0 ∷ [])

pub units_padded : (units : List ℕ) (size pad : ℕ) → size ≡ 2 * (length units + 1) → (size + pad) % 4 ≡ 0 → pad < 4 → zero_padded (unit_bytes (units ++ 0 ∷ [])) ≡ unit_bytes units ++ replicate (2 + pad) 0
units_padded units size pad e multiple least = ap zero_padded (units_null units) ∙ padded_parts (unit_bytes units) 2 size pad (omega (arith, e, units_length units)) multiple least

pub units_open : (units : List ℕ) → zero_padded (unit_bytes (units ++ 0 ∷ [])) ≡ unit_bytes units ++ (replicate 2 0 ++ replicate (pad4 (length (unit_bytes units ++ replicate 2 0))) 0)
units_open units = ap zero_padded (units_null units) ∙ padded_open (unit_bytes units) 2

pub units_size : (units : List ℕ) (n : ℕ) → n ≡ 2 * (length units + 1) → le32 n ≡ le32 (length (unit_bytes (units ++ 0 ∷ [])))
units_size units n e = ap le32 (e ∙ sym (units_length (units ++ 0 ∷ []) ∙ ap (λ (k : ℕ). 2 * k) (length-append units (0 ∷ []))))

pub name_parts : (name : Name) → name_bytes name ≡ set_of name ++ label_field name
name_parts (numbered set n) = refl
name_parts (texted set units) = refl
