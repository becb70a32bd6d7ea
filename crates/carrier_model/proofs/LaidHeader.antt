-- The header of a file that is laid out, as it is read.
use Rattle.std.proofs.Common.{◌≡◌, ℕ, ◌+◌, ◌*◌, ◌^◌, ◌<◌, ◌≤◌, List, ◌-◌, ◌++◌, length, take, drop, replicate, Bool, true, false, cond, eqb, refl, arith, Ok}
use Rattle.std.proofs.lemmas.Bool.{le-leb, eq-eqb}
use Rattle.carrier_model.specs.Bytes.{le16, le32}
use Rattle.carrier_model.specs.Chains.{end_word}
use Rattle.carrier_model.specs.Layout.{Slot, Plan, rest_of, header_front, header_counts, header_list, directory_start, mini_fat_start, start_or_end}
use Rattle.carrier_model.specs.Sectors.{u16_of, u32_of, sector_count, whole_count}
use Rattle.carrier_model.specs.Tables.{Head, major, sector_shift, header_of}
use Rattle.carrier_model.proofs.LaidBytes.{lies-front, lies-back, u16-lies, u32-lies}
use Rattle.carrier_model.proofs.LaidParts.{AreParts}
use Rattle.carrier_model.proofs.Sizes.{SizeOf, version_small, size_least, sectors_counted}

-- how many sectors such a file has
pub counted : (z : ℕ) (v : SizeOf z) (b : List ℕ) (n : ℕ) → length b ≡ z * (1 + n) → (sector_count z b ≡ n) × (whole_count z b ≡ n)
counted z v b n size = sectors_counted z v (length b) n size

-- a number of the header's first 76 bytes
abbrev field_front : ℕ → Plan → List ℕ
field_front z p = header_front z ++ header_counts z p

field16 : (z : ℕ) (v : SizeOf z) (p : Plan) (slots : List Slot) (b : List ℕ) → AreParts z p slots b → (u16_of b 26 ≡ major z) × (u16_of b 28 ≡ 65534) × (u16_of b 30 ≡ sector_shift z) × (u16_of b 32 ≡ 6)
field16 z v p slots b is =
    let rest = header_list p ++ replicate (z - 512) 0 in
    let at26 = lies-back b 0 26 (take 26 (field_front z p)) (drop 26 (field_front z p) ++ rest) refl is.header in
    let at28 = lies-back b 0 28 (take 28 (field_front z p)) (drop 28 (field_front z p) ++ rest) refl is.header in
    let at30 = lies-back b 0 30 (take 30 (field_front z p)) (drop 30 (field_front z p) ++ rest) refl is.header in
    let at32 = lies-back b 0 32 (take 32 (field_front z p)) (drop 32 (field_front z p) ++ rest) refl is.header in (
      u16-lies b 26 (major z) (version_small z v).0 (lies-front b 26 (le16 (major z)) (drop 28 (field_front z p) ++ rest) at26),
      u16-lies b 28 65534 (omega arith) (lies-front b 28 (le16 65534) (drop 30 (field_front z p) ++ rest) at28),
      u16-lies b 30 (sector_shift z) (version_small z v).1 (lies-front b 30 (le16 (sector_shift z)) (drop 32 (field_front z p) ++ rest) at30),
      u16-lies b 32 6 (omega arith) (lies-front b 32 (le16 6) (drop 34 (field_front z p) ++ rest) at32),
    )

signed : (z : ℕ) (p : Plan) (slots : List Slot) (b : List ℕ) → AreParts z p slots b → (u32_of b 0 ≡ 3759263696) × (u32_of b 4 ≡ 3776623009) × (u32_of b 56 ≡ 4096)
signed z p slots b is =
    let rest = header_list p ++ replicate (z - 512) 0 in
    let at4 = lies-back b 0 4 (take 4 (field_front z p)) (drop 4 (field_front z p) ++ rest) refl is.header in
    let at56 = lies-back b 0 56 (take 56 (field_front z p)) (drop 56 (field_front z p) ++ rest) refl is.header in (
      u32-lies b 0 3759263696 (omega arith) (lies-front b 0 (le32 3759263696) (drop 4 (field_front z p) ++ rest) is.header),
      u32-lies b 4 3776623009 (omega arith) (lies-front b 4 (le32 3776623009) (drop 8 (field_front z p) ++ rest) at4),
      u32-lies b 56 4096 (omega arith) (lies-front b 56 (le32 4096) (drop 60 (field_front z p) ++ rest) at56),
    )

pub start-small : (count start : ℕ) → start < 2 ^ 32 → start_or_end count start < 2 ^ 32
start-small count start small = either (eqb count 0)
  where
    either : (k : Bool) → cond k end_word start < 2 ^ 32
    either true = omega arith
    either false = small

pub fields : (z : ℕ) (p : Plan) (slots : List Slot) (b : List ℕ) → mini_fat_start p < 2 ^ 32 → AreParts z p slots b → (u32_of b 44 ≡ p.fat) × (u32_of b 48 ≡ directory_start p) × (u32_of b 60 ≡ start_or_end p.sizes.mini_fat (mini_fat_start p)) × (u32_of b 68 ≡ start_or_end p.difat p.fat)
fields z p slots b few is =
    let rest = header_list p ++ replicate (z - 512) 0 in
    let at44 = lies-back b 0 44 (take 44 (field_front z p)) (drop 44 (field_front z p) ++ rest) refl is.header in
    let at48 = lies-back b 0 48 (take 48 (field_front z p)) (drop 48 (field_front z p) ++ rest) refl is.header in
    let at60 = lies-back b 0 60 (take 60 (field_front z p)) (drop 60 (field_front z p) ++ rest) refl is.header in
    let at68 = lies-back b 0 68 (take 68 (field_front z p)) (drop 68 (field_front z p) ++ rest) refl is.header in (
      u32-lies b 44 p.fat (omega (arith, few)) (lies-front b 44 (le32 p.fat) (drop 48 (field_front z p) ++ rest) at44),
      u32-lies b 48 (directory_start p) (omega (arith, few)) (lies-front b 48 (le32 (directory_start p)) (drop 52 (field_front z p) ++ rest) at48),
      u32-lies b 60 (start_or_end p.sizes.mini_fat (mini_fat_start p)) (start-small p.sizes.mini_fat (mini_fat_start p) few) (lies-front b 60 (le32 (start_or_end p.sizes.mini_fat (mini_fat_start p))) (drop 64 (field_front z p) ++ rest) at60),
      u32-lies b 68 (start_or_end p.difat p.fat) (start-small p.difat p.fat (omega (arith, few))) (lies-front b 68 (le32 (start_or_end p.difat p.fat)) (drop 72 (field_front z p) ++ rest) at68),
    )

abbrev pub head_of : Plan → Head
head_of p = record { fat_count = p.fat; directory = directory_start p; mini_fat = start_or_end p.sizes.mini_fat (mini_fat_start p) }

pub header_reads : (z : ℕ) (v : SizeOf z) (p : Plan) (slots : List Slot) (b : List ℕ) → mini_fat_start p < 2 ^ 32 → 1 ≤ p.fat → AreParts z p slots b → header_of z b ≡ Ok (head_of p)
unfolding header_of
header_reads z v p slots b few some is =
    let f = fields z p slots b few is in
    let h = field16 z v p slots b is in
    let s = signed z p slots b is in
    let n = counted z v b (p.fat + p.difat + rest_of p.sizes) is.size in
    let long : 512 ≤ length b = omega (arith, is.size, size_least z v) in
    let most : p.fat ≤ sector_count z b = omega (arith, n.0) in
    rw (le-leb 512 (length b) long, s.0, s.1, s.2, h.0, h.1, h.2, h.3, eq-eqb (major z) (major z) refl, eq-eqb (sector_shift z) (sector_shift z) refl, f.0, f.1, f.2, le-leb 1 p.fat some, le-leb p.fat (sector_count z b) most) refl
