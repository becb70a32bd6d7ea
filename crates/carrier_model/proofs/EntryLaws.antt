-- Where directory entries lie.
use Rattle.std.proofs.Common.{◌≡◌, ℕ, zero, suc, ◌+◌, ◌-◌, ◌*◌, ◌/◌, ◌%◌, ◌<◌, ◌≤◌, List, [], ◌∷◌, length, get_or, refl, ap, arith, inl, inr}
use Rattle.std.specs.Prelude.{IsTrue}
use Rattle.carrier_model.specs.Sectors.{is_size, sector_start}
use Rattle.carrier_model.specs.Streams.{starts_of}
use Rattle.carrier_model.specs.Entries.{entry_count, entry_place}
use Rattle.carrier_model.proofs.PlaceLaws.{size_cases}

pub starts_at : (z : ℕ) (c : List ℕ) (i : ℕ) → i < length c → get_or (starts_of z c) i 0 ≡ sector_start z (get_or c i 0)
starts_at z [] i below = absurd (omega arith)
starts_at z (n ∷ c) zero below = refl
starts_at z (n ∷ c) (suc i) below = starts_at z c i (omega arith)

pub entry_sector : (z : ℕ) (c : List ℕ) (id : ℕ) → IsTrue (is_size z) → id < entry_count z c → 128 * id / z < length c
entry_sector z c id h below =
    elim (size_cases z h) [
      | inl a ↦ let b : id < 512 / 128 * length c = rw a at below in rw a (omega arith)
      | inr a ↦ let b : id < 4096 / 128 * length c = rw a at below in rw a (omega arith)
    ]

pub entry_place-is : (z : ℕ) (c : List ℕ) (id : ℕ) → IsTrue (is_size z) → id < entry_count z c → entry_place z c id ≡ sector_start z (get_or c (128 * id / z) 0) + (128 * id) % z
entry_place-is z c id h below = ap (λ s. s + (128 * id) % z) (starts_at z c (128 * id / z) (entry_sector z c id h below))

-- an entry of a whole sector lies within the file
pub entry_inside : (z n id len : ℕ) → IsTrue (is_size z) → n < (len - z) / z → sector_start z n + (128 * id) % z + 128 ≤ len
entry_inside z n id len h whole =
    elim (size_cases z h) [
      | inl a ↦ let w : n < (len - 512) / 512 = rw (← a) whole in rw a (omega arith)
      | inr a ↦ let w : n < (len - 4096) / 4096 = rw (← a) whole in rw a (omega arith)
    ]

-- a directory that fits into a file has fewer entries than a number of four bytes tells
pub few_entries : (z n len : ℕ) → IsTrue (is_size z) → n ≤ (len - z + (z - 1)) / z → len ≤ 268435456 → (n ≤ 524288) × (z / 128 * n < 4294967296)
few_entries z n len h few short =
    elim (size_cases z h) [
      | inl a ↦ let w : n ≤ (len - 512 + 511) / 512 = rw a at few in rw a (omega arith, omega arith)
      | inr a ↦ let w : n ≤ (len - 4096 + 4095) / 4096 = rw a at few in rw a (omega arith, omega arith)
    ]

pub same_product : (s z n m : ℕ) → s ≤ z * n → m ≡ n → s ≤ z * m
same_product s z n m h e = rw e h
