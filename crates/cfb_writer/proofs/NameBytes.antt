-- A name's field, one unit after the other.
use Rattle.std.proofs.Common.{◌≡◌, ℕ, suc, ◌+◌, ◌-◌, ◌*◌, ◌<◌, ◌≤◌, List, [], ◌∷◌, ◌++◌, length, get_or, set, take, replicate, sym, ap, ◌∙◌, add-one, append_assoc, arith}
use Rattle.std.specs.List.{flat_map}
use Rattle.std.proofs.lemmas.List.{append-nil, length-take-le, take_more}
use Rattle.std.proofs.lemmas.List.Concat.{flat_map-append}
use Rattle.carrier_model.specs.Bytes.{le16}
use Rattle.carrier_model.specs.Layout.{name_field}
use Rattle.carrier_model.proofs.LaidParts.{two_set, units-length}

-- one more unit
pub unit_more : (name bytes unit : List ℕ) (k : ℕ) → bytes ≡ flat_map le16 (take k name) ++ replicate (64 - 2 * k) 0 → unit ≡ le16 (get_or name k 0) → k < length name → length name ≤ 31 → set (set bytes (2 * k) (get_or unit 0 0)) (2 * k + 1) (get_or unit 1 0) ≡ flat_map le16 (take (k + 1) name) ++ replicate (64 - 2 * (k + 1)) 0
unit_more name bytes unit k e u lt few =
    let front = flat_map le16 (take k name) in
    let left = replicate {A = ℕ} (64 - 2 * (k + 1)) 0 in
    let one = get_or name k 0 in
    let long : length front ≡ 2 * k = units-length (take k name) ∙ ap (λ (n : ℕ). 2 * n) (length-take-le k name (omega (arith, lt))) in
    let count : 64 - 2 * k ≡ suc (suc (64 - 2 * (k + 1))) = omega (arith, lt, few) in
    let zeros : bytes ≡ front ++ 0 ∷ 0 ∷ left = e ∙ ap (λ (n : ℕ). front ++ replicate n 0) count in
    let more : flat_map le16 (take (k + 1) name) ≡ front ++ le16 one = ap (flat_map le16) (take_more name k 0 lt) ∙ flat_map-append le16 (take k name) (one ∷ []) ∙ ap (λ (z : List ℕ). front ++ z) (append-nil (le16 one)) in
    ap (λ (z : List ℕ). set (set z (2 * k) (get_or unit 0 0)) (2 * k + 1) (get_or unit 1 0)) zeros
    ∙ ap (λ (n : ℕ). set (set (front ++ 0 ∷ 0 ∷ left) (2 * k) (get_or unit 0 0)) n (get_or unit 1 0)) (add-one (2 * k))
    ∙ two_set front left (2 * k) (get_or unit 0 0) (get_or unit 1 0) long
    ∙ ap (λ (z : List ℕ). front ++ get_or z 0 0 ∷ get_or z 1 0 ∷ left) u
    ∙ sym (append_assoc front (le16 one) left)
    ∙ ap (λ (z : List ℕ). z ++ left) (sym more)

-- the field, and what stands behind it
pub field_then : (name field len rest : List ℕ) → field ≡ flat_map le16 name ++ replicate (64 - 2 * length name) 0 → len ≡ le16 (2 * (length name + 1)) → field ++ (len ++ rest) ≡ name_field name ++ rest
field_then name field len rest e l =
    let units = flat_map le16 name in
    let zeros = replicate {A = ℕ} (64 - 2 * length name) 0 in
    ap (λ (z : List ℕ). z ++ (len ++ rest)) e
    ∙ ap (λ (z : List ℕ). (units ++ zeros) ++ (z ++ rest)) l
    ∙ append_assoc units zeros (le16 (2 * (length name + 1)) ++ rest)
    ∙ ap (λ (z : List ℕ). units ++ z) (sym (append_assoc zeros (le16 (2 * (length name + 1))) rest))
    ∙ sym (append_assoc units (zeros ++ le16 (2 * (length name + 1))) rest)
