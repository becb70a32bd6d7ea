-- The header and the tables of a compound file, with their first fault (MS-CFB 2.2, 2.3, 2.5).
use Rattle.std.specs.Prelude.{ℕ, zero, suc, ◌+◌, ◌-◌, ◌*◌, ◌/◌, ◌%◌, List, [], ◌∷◌, ◌++◌, get_or, length, Bool, not, ◌&&◌, nat_lt, nat_le, nat_eq, if◌then◌else◌, Result, Ok}
use Rattle.carrier_model.specs.Trail.{Fault}
use Rattle.carrier_model.specs.Reasons.{BAD_FILE_SIGNATURE, BAD_VERSION, BAD_HEADER, BAD_FAT_COUNT, SECTOR_OUT_OF_RANGE, CYCLE, SHARED, FILE_TRUNCATED}
use Rattle.carrier_model.specs.Outcomes.{◌>>=◌, check}
use Rattle.carrier_model.specs.Chains.{member}
use Rattle.carrier_model.specs.Sectors.{sector_start, sector_count, whole_count, u16_of, u32_of}

-- what the header says
pub record Head : Type 0 where
  pub fat_count : ℕ
  pub directory : ℕ
  pub mini_fat : ℕ

-- the bytes D0 CF 11 E0 A1 B1 1A E1, as two numbers
abbrev pub SIGNATURE_LOW : ℕ
SIGNATURE_LOW = 0xE011CFD0

abbrev pub SIGNATURE_HIGH : ℕ
SIGNATURE_HIGH = 0xE11AB1A1

abbrev pub is_signature : List ℕ → Bool
is_signature b = nat_eq (u32_of b 0) SIGNATURE_LOW && nat_eq (u32_of b 4) SIGNATURE_HIGH

-- the major version that has sectors of this size, and the power of two that says the size
abbrev pub major : ℕ → ℕ
major z = if nat_eq z 512 then 3 else 4

abbrev pub sector_shift : ℕ → ℕ
sector_shift z = if nat_eq z 512 then 9 else 12

-- the sector size that a file's major version says: that of version 4, and else that of version 3
abbrev pub sector_size : List ℕ → ℕ
sector_size b = if nat_eq (u16_of b 26) 4 then 4096 else 512

-- what the header says, for a version that has sectors of z bytes
unfoldable pub header_of : ℕ → List ℕ → Result Head Fault
header_of z b = do
  long ← check (nat_le 512 (length b)) FILE_TRUNCATED (length b)
  signature ← check (is_signature b) BAD_FILE_SIGNATURE 0
  version ← check (nat_eq (u16_of b 26) (major z)) BAD_VERSION 26
  byte_order ← check (nat_eq (u16_of b 28) 65534) BAD_HEADER 28
  sectors ← check (nat_eq (u16_of b 30) (sector_shift z)) BAD_HEADER 30
  mini_sectors ← check (nat_eq (u16_of b 32) 6) BAD_HEADER 32
  cutoff ← check (nat_eq (u32_of b 56) 4096) BAD_HEADER 56
  count ← check (nat_le 1 (u32_of b 44) && nat_le (u32_of b 44) (sector_count z b)) BAD_FAT_COUNT 44
  Ok (record { fat_count = u32_of b 44; directory = u32_of b 48; mini_fat = u32_of b 60 })

-- The sector that is named at p, which no earlier list has; why is the reason where one has it.
unfoldable pub sector_of : ℕ → List ℕ → ℕ → ℕ → List ℕ → Result ℕ Fault
sector_of z b p why earlier = do
  exists ← check (nat_lt (u32_of b p) (sector_count z b)) SECTOR_OUT_OF_RANGE p
  free ← check (not (member (u32_of b p) earlier)) why p
  whole ← check (nat_lt (u32_of b p) (whole_count z b)) FILE_TRUNCATED p
  Ok (u32_of b p)

-- how many DIFAT sectors a table of f sectors has: 109 are named in the header, and a DIFAT sector names as many as it
-- has words, but for the last word
abbrev pub difat_count : ℕ → ℕ → ℕ
difat_count z f = (f - 109 + (z / 4 - 2)) / (z / 4 - 1)

-- k DIFAT sectors, the first named at p and each next one by the last word of the one before
unfoldable pub difat_of : ℕ → ℕ → ℕ → List ℕ → List ℕ → Result (List ℕ) Fault
difat_of zero p z b earlier = Ok []
difat_of (suc k) p z b earlier = do
  n ← sector_of z b p CYCLE earlier
  rest ← difat_of k (sector_start z n + (z - 4)) z b (earlier ++ n ∷ [])
  Ok (n ∷ rest)

-- where the i-th sector of the table is named, for the DIFAT sectors L
abbrev pub fat_place : ℕ → List ℕ → ℕ → ℕ
fat_place z L i =
    if nat_lt i 109 then 76 + 4 * i
    else sector_start z (get_or L ((i - 109) / (z / 4 - 1)) 0) + 4 * ((i - 109) % (z / 4 - 1))

-- k sectors of the table from the i-th on
unfoldable pub fat_sectors_of : ℕ → ℕ → ℕ → List ℕ → List ℕ → List ℕ → Result (List ℕ) Fault
fat_sectors_of zero i z b L earlier = Ok []
fat_sectors_of (suc k) i z b L earlier = do
  n ← sector_of z b (fat_place z L i) SHARED earlier
  rest ← fat_sectors_of k (i + 1) z b L (earlier ++ n ∷ [])
  Ok (n ∷ rest)
