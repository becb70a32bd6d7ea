use Rattle.std.proofs.Common.{sym, arith}
use Rattle.carrier_model.specs.FileTrees as plain
use Rattle.msg_tree.specs.StoreMeaning.{store_of}
use Rattle.msg_tree.proofs.Places.{names_count, name_is, none_below, one_below, gap_at, gap_end, place_at}
use Rattle.msg_tree.proofs.stores.Store.place_of.Goals as goal

pub loop-k-init : goal.loop-k-init
loop-k-init g c = none_below (plain.file_names (store_of g.B.Blob.bytes c.args.self.now).members) c.args.name.now

pub returns-in-Equal-clause-found : goal.returns-in-Equal-clause-found
returns-in-Equal-clause-found g c =
    let f = (store_of g.B.Blob.bytes c.args.self.now).members in
    place_at (plain.file_names f) c.args.name.now c.name.result.now c.loop-k.k (omega (arith, c.loop-k-test.true, c.len-k-end.ensures, names_count f)) (λ d. name_is f c.loop-k.k c.name.result.now d (omega (arith, c.loop-k-test.true, c.len-k-end.ensures)) c.name.ensures) (sym c.in-Equal.ensures)

pub returns-in-Greater-clause-absent : goal.returns-in-Greater-clause-absent
returns-in-Greater-clause-absent g c =
    let f = (store_of g.B.Blob.bytes c.args.self.now).members in
    gap_at (plain.file_names f) c.args.name.now c.name.result.now c.loop-k.k c.requires (omega (arith, c.loop-k-test.true, c.len-k-end.ensures, names_count f)) c.loop-k.invariant (λ d. name_is f c.loop-k.k c.name.result.now d (omega (arith, c.loop-k-test.true, c.len-k-end.ensures)) c.name.ensures) (sym c.in-Greater.ensures)

pub loop-k-preserved : goal.loop-k-preserved
loop-k-preserved g c =
    let f = (store_of g.B.Blob.bytes c.args.self.now).members in
    one_below (plain.file_names f) c.args.name.now c.name.result.now c.loop-k.k c.loop-k.invariant (λ d. name_is f c.loop-k.k c.name.result.now d (omega (arith, c.loop-k-test.true, c.len-k-end.ensures)) c.name.ensures) (sym c.in-Less.ensures)

pub returns-clause-absent : goal.returns-clause-absent
returns-clause-absent g c =
    let f = (store_of g.B.Blob.bytes c.args.self.now).members in
    gap_end (plain.file_names f) c.args.name.now c.len.result (omega (arith, c.len.ensures, names_count f)) (λ j d lt. c.loop-k.invariant j d (omega (arith, lt, c.len.ensures, c.len-k-end.ensures, c.loop-k-test.false)))
