-- Directory entries, 128 bytes each (MS-CFB 2.6.1).
use Rattle.std.specs.Prelude.{ℕ, ◌+◌, ◌*◌, ◌/◌, ◌^◌, ◌==◌, if◌then◌else◌, List, get_or, length, map, take, drop}
use Rattle.std.specs.List.{range_with_len}
use Rattle.carrier_model.specs.Sectors.{u16_of, u32_of}
use Rattle.carrier_model.specs.Streams.{place_in, starts_of}
use Rattle.carrier_model.specs.Tables.{major}

pub record Entry : Type 0 where
  pub units : List ℕ
  pub name_bytes : ℕ
  pub kind : ℕ
  pub left : ℕ
  pub right : ℕ
  pub child : ℕ
  pub class : List ℕ
  pub start : ℕ
  pub size : ℕ

-- the size of the stream of an entry at o, in two halves; the high one counts in version 4 alone
abbrev pub size_at : ℕ → List ℕ → ℕ → ℕ
size_at z b o = u32_of b (o + 120) + (if major z == 4 then 2 ^ 32 * u32_of b (o + 124) else 0)

-- the entry whose first byte is at o
abbrev pub entry_at : ℕ → List ℕ → ℕ → Entry
entry_at z b o = record {
  units = map (λ k. u16_of b (o + 2 * k)) (range_with_len 0 32);
  name_bytes = u16_of b (o + 64);
  kind = get_or b (o + 66) 0;
  left = u32_of b (o + 68);
  right = u32_of b (o + 72);
  child = u32_of b (o + 76);
  class = take 16 (drop (o + 80) b);
  start = u32_of b (o + 116);
  size = size_at z b o;
}

-- how many entries a directory of this chain has
abbrev pub entry_count : ℕ → List ℕ → ℕ
entry_count z chain = z / 128 * length chain

-- where the first byte of an entry lies
abbrev pub entry_place : ℕ → List ℕ → ℕ → ℕ
entry_place z chain id = place_in z (starts_of z chain) (128 * id)
