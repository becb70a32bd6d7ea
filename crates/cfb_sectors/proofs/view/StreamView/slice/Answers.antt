use Rattle.std.proofs.Common.{◌≡◌, ◌*◌, length, vec_len, ◌<◌, get_or, ◌-◌, refl, ◌∙◌, arith, min}
use Rattle.carrier_model.proofs.PlaceLaws.{piece_inside, places-to}
use Rattle.carrier_model.proofs.ViewLaws.{begins_before, same_item, sector_there, some_of}
use Rattle.cfb_sectors.proofs.view.StreamView.slice.Goals as goal

pub slice_bounds-result-end : goal.slice_bounds-result-end
slice_bounds-result-end c =
    let before = begins_before c.args.self.now.each c.args.self.now.len c.args.k c.args.self.now.cut c.requires in
    let there : c.args.k < vec_len c.args.self.now.starts = sector_there c.args.self.now.each c.args.k c.args.self.now.len (vec_len c.args.self.now.starts) c.args.self.now.cut before c.args.self.now.enough in
    let start : c.index.result.now ≡ get_or c.args.self.now.starts.items c.args.k 0 = c.index.ensures ∙ same_item c.args.self.now.starts.items c.args.k c.index.result.now 0 (omega (arith, there)) in
    let some : 0 < min c.args.self.now.each (c.args.self.now.len - c.args.self.now.each * c.args.k) = some_of c.args.self.now.each c.args.k c.args.self.now.len c.args.self.now.cut before in
    let inside = piece_inside c.args.self.now.each c.args.self.now.starts.items c.args.k (min c.args.self.now.each (c.args.self.now.len - c.args.self.now.each * c.args.k)) (length c.args.self.now.file.now) c.args.self.now.len (c.args.self.now.each * c.args.k) c.args.self.now.cut (omega arith) refl some (places-to c.args.self.now.each c.args.self.now.starts.items (length c.args.self.now.file.now) c.args.self.now.len c.args.self.now.within) in
    omega (arith, inside, start)
