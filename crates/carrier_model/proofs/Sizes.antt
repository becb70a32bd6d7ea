-- Numbers of sectors, words and entries, for the sector size of either version.
use Rattle.std.proofs.Common.{◌≡◌, ℕ, zero, suc, ◌+◌, ◌-◌, ◌*◌, ◌/◌, ◌%◌, ◌^◌, ◌<◌, ◌≤◌, refl, sym, subst, arith, inl, inr}
use Rattle.std.specs.Prelude.{IsTrue}
use Rattle.std.specs.Int.{div_ceil}
use Rattle.carrier_model.specs.Sectors.{is_size}
use Rattle.carrier_model.specs.Tables.{major, sector_shift, difat_count}
use Rattle.carrier_model.proofs.PlaceLaws.{size_cases}

-- the sector size of a version
pub data SizeOf : ℕ → Type 0 where
  version3 : SizeOf 512
  version4 : SizeOf 4096

pub size_of : (z : ℕ) → IsTrue (is_size z) → SizeOf z
size_of z h =
    elim (size_cases z h) [
      | inl a ↦ subst SizeOf (sym a) version3
      | inr a ↦ subst SizeOf (sym a) version4
    ]

pub is_known : (z : ℕ) → SizeOf z → IsTrue (is_size z)
is_known _ version3 = refl
is_known _ version4 = refl

pub version_small : (z : ℕ) → SizeOf z → (major z < 2 ^ 16) × (sector_shift z < 2 ^ 16)
version_small _ version3 = (omega arith, omega arith)
version_small _ version4 = (omega arith, omega arith)

pub size_least : (z : ℕ) → SizeOf z → 512 ≤ z
size_least _ version3 = omega arith
size_least _ version4 = omega arith

-- what needs something has some
pub times_some : (z m n : ℕ) → 0 < m → m ≤ z * n → 1 ≤ n
times_some z m zero some le = absurd (omega (arith, some, le))
times_some z m (suc n) some le = omega arith

-- ---- words and entries

-- a sector has so many words of four bytes
pub words_fill : (z : ℕ) → SizeOf z → (4 * (z / 4) ≡ z) × (128 ≤ z / 4)
words_fill _ version3 = (omega arith, omega arith)
words_fill _ version4 = (omega arith, omega arith)

pub all_words : (z : ℕ) → SizeOf z → (n : ℕ) → 4 * (z / 4 * n) ≡ z * n
all_words _ version3 n = omega arith
all_words _ version4 n = omega arith

-- and so many entries of 128 bytes
pub all_entries : (z : ℕ) → SizeOf z → (n : ℕ) → 128 * (z / 128 * n) ≡ z * n
all_entries _ version3 n = omega arith
all_entries _ version4 n = omega arith

-- ---- sectors for some bytes

pub ceil_holds : (z : ℕ) → SizeOf z → (n : ℕ) → n ≤ z * div_ceil n z
ceil_holds _ version3 n = omega arith
ceil_holds _ version4 n = omega arith

pub ceil_some : (z : ℕ) → SizeOf z → (n : ℕ) → 0 < n → 0 < div_ceil n z
ceil_some _ version3 n some = omega (arith, some)
ceil_some _ version4 n some = omega (arith, some)

pub ceil_none : (z : ℕ) → SizeOf z → (n : ℕ) → n ≡ 0 → div_ceil n z ≡ 0
ceil_none _ version3 n none = omega (arith, none)
ceil_none _ version4 n none = omega (arith, none)

-- ---- the sectors of a file

pub sectors_counted : (z : ℕ) → SizeOf z → (len n : ℕ) → len ≡ z * (1 + n) → ((len - z + (z - 1)) / z ≡ n) × ((len - z) / z ≡ n)
sectors_counted _ version3 len n is = (omega (arith, is), omega (arith, is))
sectors_counted _ version4 len n is = (omega (arith, is), omega (arith, is))

pub sectors_few : (z : ℕ) → SizeOf z → (n : ℕ) → z * (1 + n) ≤ 268435456 → n < 524288
sectors_few _ version3 n short = omega (arith, short)
sectors_few _ version4 n short = omega (arith, short)

-- the place of a byte in sectors in a row
pub sector_in : (z : ℕ) → SizeOf z → (k n : ℕ) → k < z * n → k / z < n
sector_in _ version3 k n below = omega (arith, below)
sector_in _ version4 k n below = omega (arith, below)

pub place_is : (z : ℕ) → SizeOf z → (s k : ℕ) → (s + k / z + 1) * z + k % z ≡ (s + 1) * z + k
place_is _ version3 s k = omega arith
place_is _ version4 s k = omega arith

-- ---- the sectors of the table

pub more_suffice : (z : ℕ) → SizeOf z → (rest : ℕ) → rest + 1 + difat_count z (rest + 1) + rest ≤ z / 4 * (rest + 1)
more_suffice _ version3 rest = omega arith
more_suffice _ version4 rest = omega arith

-- each sector that lists them lists one less than it has words
pub listed_few : (z : ℕ) → SizeOf z → (k : ℕ) → k < 524288 → 109 + (z / 4 - 1) * k < 2 ^ 30
listed_few _ version3 k few = omega (arith, few)
listed_few _ version4 k few = omega (arith, few)

pub listed_in : (z : ℕ) → SizeOf z → (i f : ℕ) → 109 ≤ i → i < f → (i - 109) / (z / 4 - 1) < difat_count z f
listed_in _ version3 i f many below = omega (arith, many, below)
listed_in _ version4 i f many below = omega (arith, many, below)

pub listed_at : (z : ℕ) → SizeOf z → (i : ℕ) → 109 ≤ i → (109 + (z / 4 - 1) * ((i - 109) / (z / 4 - 1)) + (i - 109) % (z / 4 - 1) ≡ i) × ((i - 109) % (z / 4 - 1) < z / 4 - 1)
listed_at _ version3 i many = (omega (arith, many), omega arith)
listed_at _ version4 i many = (omega (arith, many), omega arith)
