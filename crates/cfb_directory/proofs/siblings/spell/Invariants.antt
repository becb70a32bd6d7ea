use Rattle.std.proofs.Common.{◌≡◌, take, map}
use Rattle.cfb_directory.specs.Named.{name_at}
use Rattle.cfb_directory.specs.Spelled.{names_in}
use Rattle.cfb_directory.specs.Walks.{directory_of}
use Rattle.cfb_directory.proofs.siblings.spell.Given as goal

abbrev pub invariant-loop-id : goal.invariant-loop-id
invariant-loop-id l = names_in l.names ≡ map (name_at (directory_of l.sectors)) (take l.id-index l.family)
