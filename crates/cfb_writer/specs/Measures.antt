-- How many sectors and bytes a file has.
use Rattle.std.specs.Prelude.{◌≡◌, ℕ, ◌+◌, ◌*◌, ◌<◌, ◌≤◌, ◌^◌, ◌-◌, Result, Ok, Err}
use Rattle.carrier_model.specs.Bytes.{MOST_BYTES}
use Rattle.carrier_model.specs.Layout.{Plan, rest_of}
use Rattle.carrier_model.specs.Totals.{capped}
use Rattle.cfb_layout.specs.Counts.{plan_seen, IsSmall}
use Rattle.cfb_writer.specs.declared.parts.Measure.{Measure}
use Rattle.cfb_writer.specs.declared.parts.WideSectorCounts.{WideSectorCounts}
use Rattle.cfb_writer.specs.declared.totals.Totals.{Totals}

-- the header and all parts
abbrev pub sectors_in : Plan → ℕ
sectors_in p = 1 + (p.fat + p.difat + rest_of p.sizes)

abbrev pub parts_seen : WideSectorCounts → Plan
parts_seen n = record {
  sizes = record { directory = n.directory; mini_fat = n.mini_fat; mini_sectors = n.mini_sectors; mini_stream = n.mini_stream; long = n.long };
  fat = n.fat;
  difat = n.difat;
}

-- so few that the bytes of each part can be told in 64 bits: entries of 128 bytes with the root's, mini sectors and sectors
pub record CanBeTold (t : Totals) : Type 0 where
  pub entries : t.entries < 2 ^ 57 - 1
  pub mini : t.mini < 2 ^ 58
  pub long : t.long < 2 ^ 55

-- Either the numbers of a layout and its bytes, which are not too many, or its bytes, which are too many.
abbrev pub IsMeasure : ℕ → Plan → Result Measure ℕ → Type 0
IsMeasure z p (Ok m) = IsSmall m.numbers × (plan_seen m.numbers ≡ p) × (m.size ≡ z * sectors_in p) × (m.size ≤ MOST_BYTES)
IsMeasure z p (Err n) = (MOST_BYTES < z * sectors_in p) × (n ≡ capped (z * sectors_in p))
