-- Storages whose names end with a number.
use Rattle.std.specs.Prelude.{ℕ, ◌-◌, List, map, nat_le, if◌then◌else◌, Option, None, Some}
use Rattle.std.specs.Option.{option_map}
use Rattle.std.specs.List.{list_all}
use Rattle.std.specs.Char.{to_ascii_lowercase}
use Rattle.carrier_model.specs.Files as plain
use Rattle.cfb_directory.specs.Found.{Child, storage_seen}
use Rattle.cfb_directory.specs.declared.files.Files.{Files}
use Rattle.msg_model.specs.MsgMessage.{is_hex, hex_number, number_in}
use Rattle.msg_storage.specs.declared.storages.Numbered.{Numbered}

abbrev pub numbered_seen : Files → Numbered → ℕ × plain.Files
numbered_seen f n = (n.number, storage_seen f n.storage)

abbrev pub numbered_by : Option ℕ → Option plain.Files → Option (ℕ × plain.Files)
numbered_by number None = None
numbered_by number (Some s) = option_map (λ n. (n, s)) number

-- a child that is such a storage
abbrev pub numbered_child : List ℕ → Child → Option (ℕ × plain.Files)
numbered_child prefix c = numbered_by (number_in prefix c.name) c.storage

-- ---- digits

abbrev pub digit_in : ℕ → Option ℕ
digit_in unit = if is_hex unit then Some (if nat_le unit 0x39 then unit - 0x30 else unit - 0x57) else None

-- a hexadecimal digit of either case
abbrev pub digit_of : ℕ → Option ℕ
digit_of unit = digit_in (to_ascii_lowercase unit)

-- digits of either case
abbrev pub digits_of : List ℕ → Option ℕ
digits_of units = if list_all is_hex (map to_ascii_lowercase units) then Some (hex_number (map to_ascii_lowercase units)) else None
