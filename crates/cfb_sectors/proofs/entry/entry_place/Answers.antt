use Rattle.std.proofs.Common.{◌*◌, ◌/◌, ◌-◌, ◌<◌, length, get_or, arith}
use Rattle.std.proofs.lemmas.Grind.{common_steps}
use Rattle.std.proofs.lemmas.List.Elements.{All-get_or}
use Rattle.carrier_model.specs.Sectors.{whole_count}
use Rattle.carrier_model.proofs.EntryLaws.{entry_sector, entry_place-is, entry_inside}
use Rattle.cfb_sectors.proofs.entry.entry_place.Goals as goal

pub bounds-directory-at : goal.bounds-directory-at
bounds-directory-at c = entry_sector c.args.size c.args.directory.now c.args.id c.requires.size c.requires.there

pub returns-clause-place : goal.returns-clause-place
returns-clause-place c = rw (entry_place-is c.args.size c.args.directory.now c.args.id c.requires.size c.requires.there) (grind (arith, common_steps))

pub returns-clause-inside : goal.returns-clause-inside
returns-clause-inside c =
    let there = entry_sector c.args.size c.args.directory.now c.args.id c.requires.size c.requires.there in
    let whole : get_or c.args.directory.now (128 * c.args.id / c.args.size) 0 < whole_count c.args.size c.args.bytes.now = All-get_or (λ n. n < whole_count c.args.size c.args.bytes.now) c.args.directory.now (128 * c.args.id / c.args.size) 0 there c.requires.whole in
    entry_inside c.args.size (get_or c.args.directory.now (128 * c.args.id / c.args.size) 0) c.args.id (length c.args.bytes.now) c.requires.size whole
