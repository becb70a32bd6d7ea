-- Pages of single bytes.
use Rattle.std.specs.Prelude.{◌≡◌, ℕ, ◌++◌, List, Option, None}
use Rattle.carrier_model.specs.Bytes.{unit_bytes}
use Rattle.text8_model.specs.Pages.{windows_unit, latin_unit, ascii_unit}
use Rattle.text8_model.specs.Texts.{bad_by, units_by}
use Rattle.tree_text8.specs.declared.singles.SinglePage.{SinglePage}
use Rattle.tree_text8.specs.declared.singles.SinglePage.TheVariants.{Windows1252, Latin1, Ascii}

abbrev pub unit_of : SinglePage → ℕ → Option ℕ
unit_of Windows1252 = windows_unit
unit_of Latin1 = latin_unit
unit_of Ascii = ascii_unit

-- each byte of some has a unit, and the units were appended
pub record AreMapped (page : SinglePage) (run old new : List ℕ) : Type 0 where
  pub good : bad_by (unit_of page) run ≡ None
  pub added : new ≡ old ++ unit_bytes (units_by (unit_of page) run)
