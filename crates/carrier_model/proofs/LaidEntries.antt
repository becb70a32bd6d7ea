-- Directory entries that are laid out, as they are read.
use Rattle.std.proofs.Common.{◌≡◌, ℕ, zero, suc, ◌+◌, ◌-◌, ◌*◌, ◌/◌, ◌^◌, ◌<◌, ◌≤◌, List, [], ◌∷◌, ◌++◌, length, get_or, map, take, drop, replicate, Bool, true, false, cond, eqb, refl, sym, ◌∙◌, ap, subst, arith}
use Rattle.std.specs.List.{range_with_len, flat_map, AllByRecursion}
use Rattle.std.proofs.lemmas.List.{append_assoc, length-replicate, take_at, drop_at, ext_get_or}
use Rattle.std.proofs.lemmas.List.FromFn.{length-map-range_with_len, get_or-map-range_with_len}
use Rattle.std.proofs.lemmas.Grind.{flat_map-append}
use Rattle.carrier_model.specs.Bytes.{le16, le32}
use Rattle.carrier_model.specs.Entries.{Entry, size_at, entry_at}
use Rattle.carrier_model.specs.Files.{name_of}
use Rattle.carrier_model.specs.Layout.{Slot, BLACK, name_field, slot_bytes}
use Rattle.carrier_model.specs.Sectors.{u16_of}
use Rattle.carrier_model.specs.Tables.{major}
use Rattle.carrier_model.proofs.LaidBytes.{Lies, lies-front, lies-back, u16-lies, u32-lies, byte-lies}
use Rattle.carrier_model.proofs.LaidParts.{joined, IsFit, units-length, name-length}

abbrev pub AreUnits : List ℕ → Type 0
AreUnits us = AllByRecursion (λ u. u < 2 ^ 16) us

unit-lies : (b : List ℕ) (at i : ℕ) (us : List ℕ) → AreUnits us → i < length us → Lies b at (flat_map le16 us) → u16_of b (at + 2 * i) ≡ get_or us i 0
unit-lies b at i [] fit below l = absurd (omega arith)
unit-lies b at zero (w ∷ us) fit below l = ap (u16_of b) (omega arith) ∙ u16-lies b at w fit.0 (lies-front b at (le16 w) (flat_map le16 us) l)
unit-lies b at (suc i) (w ∷ us) fit below l =
    let rest = lies-back b at (at + 2) (le16 w) (flat_map le16 us) refl l in
    ap (u16_of b) (omega arith) ∙ unit-lies b (at + 2) i us fit.1 (omega arith) rest

units-lie : (b : List ℕ) (at n : ℕ) (us : List ℕ) → AreUnits us → length us ≡ n → Lies b at (flat_map le16 us) → map (λ k. u16_of b (at + 2 * k)) (range_with_len 0 n) ≡ us
units-lie b at n us fit long l =
    ext_get_or 0 _ _ (length-map-range_with_len (λ k. u16_of b (at + 2 * k)) 0 n ∙ sym long)
    (λ i below.
    let inside : i < n = rw (length-map-range_with_len (λ k. u16_of b (at + 2 * k)) 0 n) at below in
    get_or-map-range_with_len (λ k. u16_of b (at + 2 * k)) 0 n i i 0 inside (omega arith) ∙ unit-lies b at i us fit (omega (arith, inside, long)) l)

zero-units : (n : ℕ) → flat_map le16 (replicate n 0) ≡ replicate (2 * n) 0
zero-units zero = refl
zero-units (suc n) = let two : 2 * suc n ≡ suc (suc (2 * n)) = omega arith in ap (λ (r : List ℕ). 0 ∷ 0 ∷ r) (zero-units n) ∙ ap (λ k. replicate k 0) (sym two)

units-append : (xs ys : List ℕ) → AreUnits xs → AreUnits ys → AreUnits (xs ++ ys)
units-append [] ys h k = k
units-append (x ∷ xs) ys h k = (h.0, units-append xs ys h.1 k)

units-zero : (n : ℕ) → AreUnits (replicate n 0)
units-zero zero = tt
units-zero (suc n) = (omega arith, units-zero n)

-- a name's units, with zeros behind it
abbrev pub padded : List ℕ → List ℕ
padded name = name ++ replicate (32 - length name) 0

pub record IsSlot (s : Slot) : Type 0 where
  pub fit : IsFit s
  pub units : AreUnits s.name
  pub kind : s.kind < 256
  pub left : s.left < 2 ^ 32
  pub right : s.right < 2 ^ 32
  pub child : s.child < 2 ^ 32

abbrev pub entry_of_slot : Slot → ℕ → ℕ → Entry
entry_of_slot s start size = record {
  units = padded s.name;
  name_bytes = 2 * (length s.name + 1);
  kind = s.kind;
  left = s.left;
  right = s.right;
  child = s.child;
  class = s.class;
  start = start;
  size = size;
}

name-units : (b : List ℕ) (o : ℕ) (name : List ℕ) → length name ≤ 31 → AreUnits name → Lies b o (name_field name) → (map (λ k. u16_of b (o + 2 * k)) (range_with_len 0 32) ≡ padded name) × (u16_of b (o + 64) ≡ 2 * (length name + 1))
name-units b o name few fit l =
    let zeros = replicate (64 - 2 * length name) 0 in
    let bytes = le16 (2 * (length name + 1)) in
    let left : Lies b o ((flat_map le16 name ++ zeros) ++ bytes) = subst (Lies b o) (sym (append_assoc (flat_map le16 name) zeros bytes)) l in
    let front = lies-front b o (flat_map le16 name ++ zeros) bytes left in
    let double : 64 - 2 * length name ≡ 2 * (32 - length name) = omega (arith, few) in
    let same : flat_map le16 name ++ zeros ≡ flat_map le16 (padded name) = ap (λ z. flat_map le16 name ++ z) (ap (λ k. replicate k 0) double ∙ sym (zero-units (32 - length name))) ∙ sym (flat_map-append le16 name (replicate (32 - length name) 0)) in
    let long : length (padded name) ≡ 32 = joined name (replicate (32 - length name) 0) refl (length-replicate (32 - length name) 0) ∙ omega (arith, few) in
    let size : o + 64 ≡ o + length (flat_map le16 name ++ zeros) = ap (λ k. o + k) (sym (joined (flat_map le16 name) zeros (units-length name) (length-replicate (64 - 2 * length name) 0) ∙ omega (arith, few))) in (
      units-lie b o 32 (padded name) (units-append name (replicate (32 - length name) 0) fit (units-zero (32 - length name))) long (subst (Lies b o) same front),
      u16-lies b (o + 64) (2 * (length name + 1)) (omega (arith, few)) (lies-back b o (o + 64) (flat_map le16 name ++ zeros) bytes size left),
    )

-- a class of 16 bytes
class-lies : (b : List ℕ) (at : ℕ) (x : List ℕ) → length x ≡ 16 → Lies b at x → take 16 (drop at b) ≡ x
class-lies b at x long l =
    ap (λ c. take 16 (drop at c)) l.parts
    ∙ (ap (take 16) (drop_at l.before (x ++ l.behind) at l.place)
    ∙ take_at x l.behind 16 long)

-- a size whose high half is zero
size-lies : (z : ℕ) (b : List ℕ) (o size : ℕ) → size < 2 ^ 32 → (high : List ℕ) → Lies b (o + 120) (le32 size ++ high) → high ≡ le32 0 → size_at z b o ≡ size
size-lies z b o size few high l none =
    let low = u32-lies b (o + 120) size few (lies-front b (o + 120) (le32 size) high l) in
    let zero_half = u32-lies b (o + 124) 0 (omega arith) (subst (Lies b (o + 124)) none (lies-back b (o + 120) (o + 124) (le32 size) high (omega arith) l)) in
    rw (low, zero_half) (either (eqb (major z) 4))
  where
    either : (four : Bool) → size + cond four (2 ^ 32 * 0) 0 ≡ size
    either true = omega arith
    either false = omega arith

-- an entry that lies there is read
pub entry-lies : (z : ℕ) (b : List ℕ) (o : ℕ) (s : Slot) (start size : ℕ) → IsSlot s → start < 2 ^ 32 → size < 2 ^ 32 → Lies b o (slot_bytes s start size) → entry_at z b o ≡ entry_of_slot s start size
entry-lies z b o s start size is small few l =
    let tail = le32 start ++ (le32 size ++ le32 0) in
    let back = s.class ++ (replicate 20 0 ++ tail) in
    let links = le32 s.left ++ (le32 s.right ++ (le32 s.child ++ back)) in
    let n = name-units b o s.name is.fit.name is.units (lies-front b o (name_field s.name) (s.kind ∷ BLACK ∷ links) l) in
    let k = lies-back b o (o + 66) (name_field s.name) (s.kind ∷ BLACK ∷ links) (ap (λ m. o + m) (sym (name-length s.name is.fit.name))) l in
    let kind = byte-lies b (o + 66) s.kind (lies-front b (o + 66) (s.kind ∷ []) (BLACK ∷ links) k) in
    let at68 = lies-back b (o + 66) (o + 68) (s.kind ∷ BLACK ∷ []) links (omega arith) k in
    let at72 = lies-back b (o + 68) (o + 72) (le32 s.left) (le32 s.right ++ (le32 s.child ++ back)) (omega arith) at68 in
    let at76 = lies-back b (o + 72) (o + 76) (le32 s.right) (le32 s.child ++ back) (omega arith) at72 in
    let at80 = lies-back b (o + 76) (o + 80) (le32 s.child) back (omega arith) at76 in
    let at96 = lies-back b (o + 80) (o + 96) s.class (replicate 20 0 ++ tail) (omega (arith, is.fit.class)) at80 in
    let at116 = lies-back b (o + 96) (o + 116) (replicate 20 0) tail (omega arith) at96 in
    let at120 = lies-back b (o + 116) (o + 120) (le32 start) (le32 size ++ le32 0) (omega arith) at116 in
    rw (n.0, n.1, kind, class-lies b (o + 80) s.class is.fit.class (lies-front b (o + 80) s.class (replicate 20 0 ++ tail) at80), u32-lies b (o + 68) s.left is.left (lies-front b (o + 68) (le32 s.left) (le32 s.right ++ (le32 s.child ++ back)) at68), u32-lies b (o + 72) s.right is.right (lies-front b (o + 72) (le32 s.right) (le32 s.child ++ back) at72), u32-lies b (o + 76) s.child is.child (lies-front b (o + 76) (le32 s.child) back at76), u32-lies b (o + 116) start small (lies-front b (o + 116) (le32 start) (le32 size ++ le32 0) at116), size-lies z b o size few (le32 0) at120) refl

-- and its name
pub name-read : (s : Slot) (start size : ℕ) → name_of (entry_of_slot s start size) ≡ s.name
name-read s start size = let n : 2 * (length s.name + 1) / 2 - 1 ≡ length s.name = omega arith in ap (λ k. take k (padded s.name)) n ∙ take_at s.name (replicate (32 - length s.name) 0) (length s.name) refl
