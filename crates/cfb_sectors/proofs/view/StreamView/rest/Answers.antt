use Rattle.std.proofs.Common.{◌≡◌, length, vec_len, ◌<◌, ◌+◌, ◌-◌, ◌/◌, ◌%◌, get_or, min, ◌∙◌, ap, arith}
use Rattle.carrier_model.proofs.ViewLaws.{length-content, piece_index, same_item}
use Rattle.cfb_sectors.proofs.PartLaws.{rest_inside, rest_part}
use Rattle.cfb_sectors.proofs.view.StreamView.rest.Goals as goal

pub index-requires : goal.index-requires
index-requires c =
    let v = c.args.self.now in
    let long = length-content v.file.now v.each v.starts.items v.len in
    piece_index v.each v.len (vec_len v.starts) c.args.at v.cut v.enough (rw long at c.requires)

pub overflow_sub-rest : goal.overflow_sub-rest
overflow_sub-rest c =
    let v = c.args.self.now in
    omega (arith, c.requires, length-content v.file.now v.each v.starts.items v.len)

pub slice_bounds-result-end : goal.slice_bounds-result-end
slice_bounds-result-end c =
    let v = c.args.self.now in
    let below : c.args.at < v.len = omega (arith, c.requires, length-content v.file.now v.each v.starts.items v.len) in
    let there = piece_index v.each v.len (vec_len v.starts) c.args.at v.cut v.enough below in
    let start : c.index.result.now ≡ get_or v.starts.items (c.args.at / v.each) 0 = c.index.ensures ∙ same_item v.starts.items (c.args.at / v.each) c.index.result.now 0 (omega (arith, there)) in
    let inside = rest_inside v.each v.starts.items (length v.file.now) v.len c.args.at c.min.result v.cut v.within below (omega (arith, c.min.ensures)) in
    omega (arith, inside, start)

pub returns-clause-bytes : goal.returns-clause-bytes
returns-clause-bytes c =
    let v = c.args.self.now in
    let below : c.args.at < v.len = omega (arith, c.requires, length-content v.file.now v.each v.starts.items v.len) in
    let there = piece_index v.each v.len (vec_len v.starts) c.args.at v.cut v.enough below in
    let start : c.index.result.now ≡ get_or v.starts.items (c.args.at / v.each) 0 = c.index.ensures ∙ same_item v.starts.items (c.args.at / v.each) c.index.result.now 0 (omega (arith, there)) in
    (rest_part v.file.now v.each v.starts.items v.len c.args.at (c.index.result.now + c.args.at % v.each) (c.index.result.now + c.args.at % v.each + c.min.result - (c.index.result.now + c.args.at % v.each)) v.cut v.within below (ap (λ s. s + c.args.at % v.each) start) (omega (arith, c.min.ensures))).0

pub returns-clause-long : goal.returns-clause-long
returns-clause-long c =
    let v = c.args.self.now in
    let below : c.args.at < v.len = omega (arith, c.requires, length-content v.file.now v.each v.starts.items v.len) in
    let there = piece_index v.each v.len (vec_len v.starts) c.args.at v.cut v.enough below in
    let start : c.index.result.now ≡ get_or v.starts.items (c.args.at / v.each) 0 = c.index.ensures ∙ same_item v.starts.items (c.args.at / v.each) c.index.result.now 0 (omega (arith, there)) in
    (rest_part v.file.now v.each v.starts.items v.len c.args.at (c.index.result.now + c.args.at % v.each) (c.index.result.now + c.args.at % v.each + c.min.result - (c.index.result.now + c.args.at % v.each)) v.cut v.within below (ap (λ s. s + c.args.at % v.each) start) (omega (arith, c.min.ensures))).1

pub returns-clause-some : goal.returns-clause-some
returns-clause-some c =
    let v = c.args.self.now in
    let below : c.args.at < v.len = omega (arith, c.requires, length-content v.file.now v.each v.starts.items v.len) in
    let there = piece_index v.each v.len (vec_len v.starts) c.args.at v.cut v.enough below in
    let start : c.index.result.now ≡ get_or v.starts.items (c.args.at / v.each) 0 = c.index.ensures ∙ same_item v.starts.items (c.args.at / v.each) c.index.result.now 0 (omega (arith, there)) in
    (rest_part v.file.now v.each v.starts.items v.len c.args.at (c.index.result.now + c.args.at % v.each) (c.index.result.now + c.args.at % v.each + c.min.result - (c.index.result.now + c.args.at % v.each)) v.cut v.within below (ap (λ s. s + c.args.at % v.each) start) (omega (arith, c.min.ensures))).2
