-- The engine that the coder has.
use Rattle.std.specs.Prelude.{◌≡◌, true, false}
use Rattle.base64.specs.declared.engine.general_purpose.GeneralPurpose.{GeneralPurpose}
use Rattle.base64.specs.declared.engine.DecodePaddingMode.TheVariants.{RequireCanonical}
use Rattle.base64.specs.GeneralPurpose.{engine_symbols, engine_padding, engine_config, IsConfig}
use Rattle.mail_model.specs.Base64.{alphabet}

-- the standard characters, `=`, full padding, and no trailing bits
abbrev pub IsStandard : GeneralPurpose → Type 0
IsStandard e = (engine_symbols e ≡ alphabet) × (engine_padding e ≡ 61)
    × IsConfig (engine_config e) true false RequireCanonical
