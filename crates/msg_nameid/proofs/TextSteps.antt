-- The texts of names, written.
use Rattle.std.proofs.Common.{◌≡◌, ℕ, suc, ◌+◌, ◌-◌, ◌*◌, ◌%◌, ◌<◌, ◌≤◌, List, [], ◌∷◌, ◌++◌, length, take, take_all, length-take, length-append, replicate, get_or, set, add-one, refl, sym, ap, ◌∙◌, append_assoc, arith}
use Rattle.std.proofs.lemmas.List.{append-nil, length-take-le, take_more}
use Rattle.std.proofs.lemmas.List.Concat.{flat_map-append}
use Rattle.carrier_model.specs.Bytes.{le16, le32, pad4, units_of}
use Rattle.carrier_model.proofs.LaidParts.{two_set}
use Rattle.carrier_model.proofs.Units.{length-units, units_halve}
use Rattle.msg_model.specs.WrittenNames.{name_units, text_entry}

pub text_written : (old size all new units : List ℕ) (k count : ℕ) → size ≡ le32 (2 * length units) → (2 * length units + count) % 4 ≡ 0 → count < 4 → length units ≤ k
    → all ≡ (old ++ size) ++ name_units (take k units) → new ≡ all ++ replicate count 0 → new ≡ old ++ text_entry units
text_written old size all new units k count s multiple least le a n =
    let long : length (name_units units) ≡ 2 * length units = length-units units in
    let zeros : count ≡ pad4 (length (name_units units)) = omega (arith, long) in
    let head : size ≡ le32 (length (name_units units)) = s ∙ ap le32 (sym long) in
    n ∙ (ap (λ l. l ++ replicate count 0) (a ∙ (ap (λ u. (old ++ size) ++ name_units u) (take_all k units le)
    ∙ append_assoc old size (name_units units)))
    ∙ (append_assoc old (size ++ name_units units) (replicate count 0)
    ∙ (ap (λ l. old ++ l) (append_assoc size (name_units units) (replicate count 0))
    ∙ (λ i. old ++ (head i ++ (name_units units ++ replicate (zeros i) 0))))))

-- zeros behind others
pub zeros_put : (front was now : List ℕ) (first m size count n : ℕ) → was ≡ front → first ≡ length front → first ≡ m → count ≡ n → now ≡ take (first + size + count) was ++ replicate (first + size + count - m) 0 → now ≡ front ++ replicate (size + n - 0) 0
zeros_put front was now first m size count n put long same c is =
    let left : first + size + count - m ≡ size + n - 0 = omega (arith, same, c) in
    is ∙ (λ t. take (first + size + count) (put t) ++ replicate (left t) 0) ∙ ap (λ (l : List ℕ). l ++ replicate (size + n - 0) 0) (take_all (first + size + count) front (omega (arith, long)))

-- one more unit in the zeros behind others
pub unit_put : (front texts units unit : List ℕ) (first k n : ℕ) → texts ≡ front ++ (name_units (take k units) ++ replicate (n - 2 * k) 0) → first ≡ length front → unit ≡ le16 (get_or units k 0) → k < length units → 2 * length units ≤ n
    → set (set texts (first + 2 * k) (get_or unit 0 0)) (first + 2 * k + 1) (get_or unit 1 0) ≡ front ++ (name_units (take (k + 1) units) ++ replicate (n - 2 * (k + 1)) 0)
unit_put front texts units unit first k n is at u lt room =
    let done = name_units (take k units) in
    let left = replicate {A = ℕ} (n - 2 * (k + 1)) 0 in
    let one = get_or units k 0 in
    let long : length (front ++ done) ≡ first + 2 * k = omega (arith, at, length-append front done, length-units (take k units), length-take-le k units (omega (arith, lt))) in
    let count : n - 2 * k ≡ suc (suc (n - 2 * (k + 1))) = omega (arith, lt, room) in
    let zeros : texts ≡ (front ++ done) ++ 0 ∷ 0 ∷ left = is ∙ ap (λ (m : ℕ). front ++ (done ++ replicate m 0)) count ∙ sym (append_assoc front done (0 ∷ 0 ∷ left)) in
    let more : name_units (take (k + 1) units) ≡ done ++ le16 one = ap name_units (take_more units k 0 lt) ∙ flat_map-append le16 (take k units) (one ∷ []) ∙ ap (λ (z : List ℕ). done ++ z) (append-nil (le16 one)) in
    ap (λ (z : List ℕ). set (set z (first + 2 * k) (get_or unit 0 0)) (first + 2 * k + 1) (get_or unit 1 0)) zeros
    ∙ ap (λ (m : ℕ). set (set ((front ++ done) ++ 0 ∷ 0 ∷ left) (first + 2 * k) (get_or unit 0 0)) m (get_or unit 1 0)) (add-one (first + 2 * k))
    ∙ two_set (front ++ done) left (first + 2 * k) (get_or unit 0 0) (get_or unit 1 0) long
    ∙ ap (λ (z : List ℕ). (front ++ done) ++ get_or z 0 0 ∷ get_or z 1 0 ∷ left) u
    ∙ append_assoc front done (le16 one ++ left)
    ∙ ap (λ (z : List ℕ). front ++ z) (sym (append_assoc done (le16 one) left))
    ∙ ap (λ (z : List ℕ). front ++ (z ++ left)) (sym more)

-- the field that has all units
pub all_put : (old texts units : List ℕ) (k count : ℕ) → (2 * length units + count) % 4 ≡ 0 → count < 4 → k ≡ length units
    → texts ≡ (old ++ le32 (2 * length units)) ++ (name_units (take k units) ++ replicate (2 * length units + count - 2 * k) 0) → texts ≡ old ++ text_entry units
all_put old texts units k count multiple least at is =
    let size = le32 (2 * length units) in
    let left : 2 * length units + count - 2 * k ≡ count = omega (arith, at) in
    text_written old size ((old ++ size) ++ name_units (take k units)) texts units k count refl multiple least (omega (arith, at)) refl
    (is ∙ ap (λ (n : ℕ). (old ++ size) ++ (name_units (take k units) ++ replicate n 0)) left ∙ sym (append_assoc (old ++ size) (name_units (take k units)) (replicate count 0)))

-- few bytes are few units
pub few_units : (x y units : List ℕ) (n : ℕ) → x ≡ take n y → n ≤ 510 → units ≡ units_of x → length units ≤ 255
few_units x y units n front few is = omega (arith, ap (length {A = ℕ}) is, units_halve x, ap (length {A = ℕ}) front, length-take n y, few)
