-- Files that were opened.
use Rattle.std.specs.Prelude.{◌≡◌, ℕ, ◌≤◌, List, length, Ok}
use Rattle.carrier_model.specs.Bytes.{AllBytes, MOST_BYTES}
use Rattle.carrier_model.specs.Files.{Files, open_file}

-- these are the files of some bytes
pub record IsOpened (files : Files) : Type 0 where
  pub bytes : List ℕ
  pub each : AllBytes bytes
  pub few : length bytes ≤ MOST_BYTES
  pub opens : open_file bytes ≡ Ok files
