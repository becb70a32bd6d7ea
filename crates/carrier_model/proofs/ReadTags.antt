-- The names and the classes in a compound file: names are short, and a class has 16 bytes.
use Rattle.std.proofs.Common.{◌≡◌, ℕ, zero, suc, ◌+◌, ◌-◌, ◌*◌, ◌/◌, ◌%◌, ◌<◌, ◌≤◌, ◌^◌, true, List, [], ◌∷◌, ◌++◌, length, map, take, drop, get_or, arith, inl, inr}
use Rattle.std.specs.Prelude.{IsTrue, nat_eq, nat_le, ◌&&◌}
use Rattle.std.specs.List.{AllByRecursion, range_with_len}
use Rattle.std.proofs.lemmas.Bool.{and_parts, leb-true}
use Rattle.std.proofs.lemmas.List.{length-take, length-drop}
use Rattle.carrier_model.specs.Bytes.{AllBytes, number16}
use Rattle.carrier_model.specs.Entries.{Entry, entry_at, entry_count, entry_place}
use Rattle.carrier_model.specs.FileTrees.{IsFileName}
use Rattle.carrier_model.specs.Files.{name_of, directory_in}
use Rattle.carrier_model.specs.Holds.{AreWhole}
use Rattle.carrier_model.specs.Links.{Directory, Links, leaf, node, ids, Linked, has_name, below_link, below_depth}
use Rattle.carrier_model.specs.Sectors.{is_size, u16_of, sector_start, whole_count}
use Rattle.carrier_model.proofs.ChildLaws.{each-append}
use Rattle.carrier_model.proofs.EntryLaws.{entry_sector, entry_place-is, entry_inside}
use Rattle.carrier_model.proofs.PlaceLaws.{size_cases}
use Rattle.carrier_model.proofs.Numbers.{AllBytes-drop, AllBytes-take}

-- a short name, and a class of 16 bytes
pub record EntryFits (e : Entry) : Type 0 where
  pub name : IsFileName (name_of e)
  pub class : length e.class ≡ 16

number16-below : (bytes : List ℕ) → AllBytes bytes → number16 bytes < 2 ^ 16
number16-below bytes h = let f = AllBytes-take 2 bytes h in omega (arith, f 0, f 1)

u16_below : (b : List ℕ) (at : ℕ) → AllBytes b → u16_of b at < 2 ^ 16
unfolding u16_of
u16_below b at h = number16-below (drop at b) (AllBytes-drop at b h)

units_below : (b : List ℕ) (o k n : ℕ) → AllBytes b → AllByRecursion (λ unit. unit < 2 ^ 16) (map (λ i. u16_of b (o + 2 * i)) (range_with_len k n))
units_below b o k zero h = tt
units_below b o k (suc n) h = (u16_below b (o + 2 * k) h, units_below b o (k + 1) n h)

each_taken : (P : ℕ → Type 0) (n : ℕ) (xs : List ℕ) → AllByRecursion P xs → AllByRecursion P (take n xs)
each_taken P zero xs h = tt
each_taken P (suc n) [] h = tt
each_taken P (suc n) (x ∷ xs) h = (h.0, each_taken P n xs h.1)

each_at : (P : ℕ → Type 0) (xs : List ℕ) (i : ℕ) → i < length xs → AllByRecursion P xs → P (get_or xs i 0)
each_at P [] i lt h = absurd (omega (arith, lt))
each_at P (x ∷ xs) zero lt h = h.0
each_at P (x ∷ xs) (suc i) lt h = each_at P xs i (omega (arith, lt)) h.1

name_fits : (z : ℕ) (b : List ℕ) (o : ℕ) → AllBytes b → has_name (entry_at z b o) ≡ true → IsFileName (name_of (entry_at z b o))
name_fits z b o h named =
    let e = entry_at z b o in
    let parts = and_parts (nat_eq (e.name_bytes % 2) 0) (nat_le 2 e.name_bytes && nat_le e.name_bytes 64) named in
    let le : e.name_bytes ≤ 64 = leb-true e.name_bytes 64 (and_parts (nat_le 2 e.name_bytes) (nat_le e.name_bytes 64) parts.1).1 in
    record {
      few = omega (arith, length-take (e.name_bytes / 2 - 1) e.units, le);
      units = each_taken (λ unit. unit < 2 ^ 16) (e.name_bytes / 2 - 1) e.units (units_below b o 0 32 h);
    }

-- the class of an entry of a directory of whole sectors
pub class_fits : (z : ℕ) (b chain : List ℕ) (id : ℕ) → IsTrue (is_size z) → AreWhole z b chain → id < entry_count z chain → length ((directory_in z b chain).entry id).class ≡ 16
class_fits z b chain id size whole lt =
    let o = entry_place z chain id in
    let n = get_or chain (128 * id / z) 0 in
    let inside : sector_start z n + (128 * id) % z + 128 ≤ length b = entry_inside z n id (length b) size (each_at (λ k. k < whole_count z b) chain (128 * id / z) (entry_sector z chain id size lt) whole) in
    let place : o ≡ sector_start z n + (128 * id) % z = entry_place-is z chain id size lt in
    omega (arith, length-take 16 (drop (o + 80) b), length-drop (o + 80) b, inside, place)

-- a directory of one sector has an entry
pub some_entry : (z n : ℕ) → IsTrue (is_size z) → 1 ≤ n → 0 < z / 128 * n
some_entry z n h some =
    elim (size_cases z h) [
      | inl a ↦ rw a (omega (arith, some))
      | inr a ↦ rw a (omega (arith, some))
    ]

-- an entry of such a directory
pub entry_fits : (z : ℕ) (b chain : List ℕ) (id : ℕ) → IsTrue (is_size z) → AllBytes b → AreWhole z b chain → id < entry_count z chain → has_name ((directory_in z b chain).entry id) ≡ true → EntryFits ((directory_in z b chain).entry id)
entry_fits z b chain id size h whole lt named =
    record { name = name_fits z b (entry_place z chain id) h named; class = class_fits z b chain id size whole lt }

-- what is linked has a name
pub linked_named : (d : Directory) (depth x : ℕ) (t : Links) → Linked d depth x t → AllByRecursion (λ id. (id < d.count) × (has_name (d.entry id) ≡ true)) (ids t)
linked_named d depth x leaf h = tt
linked_named d depth x (node id l r c) h =
    let P : ℕ → Type 0 = λ id. (id < d.count) × (has_name (d.entry id) ≡ true) in
    ((h.1, h.2.named), each-append P (ids l) (ids r ++ ids c) (linked_named d depth (d.entry id).left l h.3) (each-append P (ids r) (ids c) (linked_named d depth (d.entry id).right r h.4) (linked_named d (below_depth (d.entry id) depth) (below_link (d.entry id)) c h.5)))
