use Rattle.std.proofs.Common.{length, vec_len, ◌-◌, arith}
use Rattle.std.proofs.lemmas.Grind.{common_steps}
use Rattle.carrier_model.proofs.PlaceLaws.{places-to}
use Rattle.carrier_model.proofs.ViewLaws.{length-content, piece_index, place_at}
use Rattle.cfb_sectors.proofs.view.StreamView.offset.Goals as goal

pub index-requires : goal.index-requires
index-requires c =
    let long = length-content c.args.self.now.file.now c.args.self.now.each c.args.self.now.starts.items c.args.self.now.len in
    piece_index c.args.self.now.each c.args.self.now.len (vec_len c.args.self.now.starts) c.args.at c.args.self.now.cut c.args.self.now.enough (rw long at c.requires)

pub returns-clause-place : goal.returns-clause-place
returns-clause-place c =
    let long = length-content c.args.self.now.file.now c.args.self.now.each c.args.self.now.starts.items c.args.self.now.len in
    rw (place_at c.args.self.now.each c.args.self.now.starts.items c.args.self.now.len c.args.at (rw long at c.requires)) (grind (arith, common_steps))

pub returns-clause-inside : goal.returns-clause-inside
returns-clause-inside c =
    let long = length-content c.args.self.now.file.now c.args.self.now.each c.args.self.now.starts.items c.args.self.now.len in
    let all = places-to c.args.self.now.each c.args.self.now.starts.items (length c.args.self.now.file.now) c.args.self.now.len c.args.self.now.within c.args.at (rw long at c.requires) in
    grind (arith, common_steps, all)
