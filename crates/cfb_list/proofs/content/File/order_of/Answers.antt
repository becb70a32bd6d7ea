use Rattle.std.proofs.Common.{Ordering, rules, ◌∙◌, sym, ap}
use Rattle.std.specs.Ordering.{nat_cmp, ordering_then}
use Rattle.carrier_model.specs.FileTrees.{sibling_cmp}
use Rattle.carrier_model.proofs.Pairs.{equal_to_itself}
use Rattle.cfb_list.proofs.NumberedOrder.{numbered_cmp}
use Rattle.cfb_list.proofs.Rows.{row_named}
use Rattle.cfb_list.proofs.SortedFiles.{sibling_total}
use Rattle.cfb_list.proofs.content.File.order_of.Goals as goal

pub returns-then-other-list : goal.returns-then-other-list
returns-then-other-list g c =
    let of = g.B.Blob.bytes in
    let row = c.in-Row in
    let file = c.args.self.now in
    let front = row.front.items in
    c.cmp.ensures
    ∙ sym (ap (λ (o : Ordering). ordering_then o (nat_cmp c.args.one c.args.other)) (equal_to_itself sibling_total front))
    ∙ sym (numbered_cmp front front c.args.one c.args.other (search rules) (search rules))
    ∙ (λ i. sibling_cmp (row_named of file row.front row.list row.zeros row.is c.args.one c.if-one-list.true i) (row_named of file row.front row.list row.zeros row.is c.args.other c.if-other-list.true i))
