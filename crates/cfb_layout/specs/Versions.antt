-- The bytes of a sector.
use Rattle.std.specs.Prelude.{ℕ}
use Rattle.cfb_layout.specs.declared.version.Version.{Version}
use Rattle.cfb_layout.specs.declared.version.Version.TheVariants.{Three, Four}

abbrev pub sector_of : Version → ℕ
sector_of Three = 512
sector_of Four = 4096
