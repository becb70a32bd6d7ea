-- The Rust values as plain values.
use Rattle.cfb_sectors.specs.declared.header.Header.{Header}
use Rattle.cfb_sectors.specs.declared.fat.Fat.{Fat}
use Rattle.cfb_sectors.specs.declared.loading.Tables as rust
use Rattle.cfb_sectors.specs.declared.streams.Mini as rust_mini
use Rattle.cfb_sectors.specs.declared.entry.Entry as rust_entry
use Rattle.carrier_model.specs.Entries.{Entry}
use Rattle.carrier_model.specs.Tables.{Head}
use Rattle.carrier_model.specs.Loads.{Table, Tables, Mini}

abbrev pub head : Header → Head
head h = record { fat_count = h.fat_count; directory = h.directory; mini_fat = h.mini_fat }

abbrev pub table : Fat → Table
table t = record { sectors = t.sectors.items; words = t.words.items }

abbrev pub tables : rust.Tables → Tables
tables t = record { head = head t.header; difat = t.difat.items; table = table t.fat; directory = t.directory.items }

abbrev pub mini_seen : rust_mini.Mini → Mini
mini_seen m = record { table = table m.fat; stream = m.stream.items; size = m.size }

abbrev pub entry : rust_entry.Entry → Entry
entry e = record {
  units = e.units;
  name_bytes = e.name_bytes;
  kind = e.kind;
  left = e.left;
  right = e.right;
  child = e.child;
  class = e.class;
  start = e.start;
  size = e.size;
}
