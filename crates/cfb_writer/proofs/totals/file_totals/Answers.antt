use Rattle.std.proofs.Common.{◌<◌, ◌∙◌, ◌∷◌, [], List, ap, arith, get_or, length, subst, sym, take, take_all}
use Rattle.std.proofs.lemmas.List.{take_more}
use Rattle.cfb_list.specs.Contents.{file_children}
use Rattle.cfb_list.specs.Listed.{Child, IsChild, built, name_of, nothing}
use Rattle.cfb_writer.specs.Totals.{totals_of}
use Rattle.cfb_layout.specs.Versions.{sector_of}
use Rattle.cfb_writer.proofs.Rooms.{each_at, nameless, totals_more}
use Rattle.cfb_writer.proofs.totals.file_totals.Goals as goal

pub kind_totals-requires : goal.kind_totals-requires
kind_totals-requires g c =
    let of = g.B.Blob.bytes in
    let cs = file_children of c.args.file.now in
    let k = c.loop-number.number in
    let lt : k < length cs = omega (arith, c.loop-number-test.true, c.count-number-end.ensures) in
    let parent = c.requires.0 in
    let n = length c.args.totals.now in
    (parent, nameless of parent n (name_of (get_or cs k nothing)) c.kind_at.result (subst (IsChild parent n) (sym c.kind_at.ensures) (each_at (IsChild parent n) cs k nothing lt c.requires.1)))

pub loop-number-preserved : goal.loop-number-preserved
loop-number-preserved g c = λ parent tree sound known.
    let of = g.B.Blob.bytes in
    let z = sector_of c.args.version in
    let cs = file_children of c.args.file.now in
    let k = c.loop-number.number in
    let n = length c.args.totals.now in
    let child = get_or cs k nothing in
    let lt : k < length cs = omega (arith, c.loop-number-test.true, c.count-number-end.ensures) in
    let here = nameless of parent n (name_of child) c.kind_at.result (subst (IsChild parent n) (sym c.kind_at.ensures) (each_at (IsChild parent n) cs k nothing lt sound)) in
    let one = c.kind_totals.ensures parent (name_of child) tree here known ∙ ap (λ (x : Child). totals_of z (built tree (x ∷ []))) c.kind_at.ensures in
    totals_more z tree (take k cs) (child ∷ []) c.loop-number.sum c.kind_totals.result c.and-sum.result (c.loop-number.invariant parent tree sound known) one c.and-sum.ensures.entries c.and-sum.ensures.mini c.and-sum.ensures.long
    ∙ ap (λ (xs : List Child). totals_of z (built tree xs)) (sym (take_more cs k nothing lt))

pub returns : goal.returns
returns g c = λ parent tree sound known.
    let cs = file_children g.B.Blob.bytes c.args.file.now in
    c.loop-number.invariant parent tree sound known
    ∙ ap (λ (xs : List Child). totals_of (sector_of c.args.version) (built tree xs)) (take_all c.loop-number.number cs (omega (arith, c.loop-number-test.false, c.count-number-end.ensures)))
