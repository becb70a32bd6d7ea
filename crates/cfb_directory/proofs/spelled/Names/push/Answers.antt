use Rattle.std.proofs.Common.{◌∙◌}
use Rattle.cfb_directory.proofs.SpelledLaws.{names_more}
use Rattle.cfb_directory.proofs.spelled.Names.push.Goals as goal

pub returns : goal.returns
returns c =
    let v = c.args.self.now in
    rw (c.in_ok-extend_from_slice.ensures.items, c.in_ok-push.ensures.items) (names_more v.units.items c.args.name.now v.spans.items c.len-start.result (c.len-start.ensures ∙ v.units.ok.0) (rw v.units.ok.0 at v.inside))
