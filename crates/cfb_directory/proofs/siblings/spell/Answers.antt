use Rattle.std.proofs.Common.{sym, ◌∙◌, ap}
use Rattle.std.proofs.lemmas.List.{map_more}
use Rattle.carrier_model.specs.Files.{name_of}
use Rattle.cfb_directory.specs.Named.{name_at}
use Rattle.cfb_directory.specs.Walks.{directory_of}
use Rattle.cfb_directory.proofs.siblings.spell.Goals as goal

pub loop-id-preserved : goal.loop-id-preserved
loop-id-preserved c = c.in_ok-push.ensures ∙ rw (c.loop-id.invariant, c.name.ensures ∙ ap name_of c.entry.ensures) (sym (map_more (name_at (directory_of c.args.sectors.now)) c.args.family.now c.loop-id.id-index 0 c.loop-id-test.true))
