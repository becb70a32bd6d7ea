use Rattle.std.proofs.Common.{◌≡◌, ℕ, List, OnOk, length, map, ap, subst, ◌∙◌, arith}
use Rattle.carrier_model.specs.FileTrees.{streams_from}
use Rattle.cfb_list.specs.Contents.{row_streams}
use Rattle.cfb_list.specs.Grown.{grown}
use Rattle.cfb_list.specs.Listed.{Child, Listed}
use Rattle.cfb_list.proofs.Rows.{row_short, streams_added}
use Rattle.cfb_list.proofs.list.FileList.add_row.Goals as goal

pub add-requires-clause-children : goal.add-requires-clause-children
add-requires-clause-children g c =
    let short = ap length c.in_ok-front.ensures in
    row_short c.args.parent (length c.args.self.now.storages) c.in_ok-front.front.items c.args.zeros 0 (map g.B.Blob.bytes c.args.list.now) (omega (arith, c.requires.front, short))

pub returns-clause-ok : goal.returns-clause-ok
returns-clause-ok g c =
    let now = c.args.self.now in
    let values = map g.B.Blob.bytes c.args.list.now in
    subst (λ (ss : List (List Child)). OnOk c.add.result (◌≡◌ {A = Listed} c.add.new.self (record { root_class = now.root_class; storages = ss })))
    (streams_added now.storages c.args.parent (row_streams c.in_ok-front.front.items c.args.zeros 0 values) c.requires.parent
    ∙ ap (λ (front : List ℕ). grown now.storages c.args.parent (streams_from (row_streams front c.args.zeros 0 values))) c.in_ok-front.ensures)
    c.add.ensures.ok
