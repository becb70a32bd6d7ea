use Rattle.std.proofs.Common.{arith, take}
use Rattle.carrier_model.specs.FileTrees.{Named, files_from, files_listed}
use Rattle.msg_tree.specs.StoreMeaning.{store_of, member_of}
use Rattle.ole_stores.proofs.Members.{member_depth_le, named_at, member_at, at_within, grown_more, grown_all}
use Rattle.ole_stores.proofs.writing.+adding.Goals as goal

pub add_store-add_member-requires : goal.add_store-add_member-requires
add_store-add_member-requires g t c κs within =
    let f = (store_of g.B.Blob.bytes c.args.store.now).members in
    let xs = files_listed f in
    let x : Named = (c.name.result.now, member_of g.B.Blob.bytes c.member.result.now) in
    let at = named_at xs c.loop-k.k x.0 x.1 (omega (arith, c.loop-k-test.true, c.len-k-end.ensures)) c.name.ensures c.member.ensures in
    let le = member_depth_le f c.loop-k.k x at in
    let inside = at_within c.grown_lists_are_trees.ensures.count c.args.files.now c.loop-k.files c.args.at (files_from (take c.loop-k.k xs)) c.loop-k.invariant c.requires.at in
    (omega (arith, le), (within, (inside, member_at f c.loop-k.k x c.requires.members at)))

pub add_store-loop-k-preserved : goal.add_store-loop-k-preserved
add_store-loop-k-preserved g t c =
    let f = (store_of g.B.Blob.bytes c.args.store.now).members in
    let xs = files_listed f in
    let x : Named = (c.name.result.now, member_of g.B.Blob.bytes c.member.result.now) in
    let at = named_at xs c.loop-k.k x.0 x.1 (omega (arith, c.loop-k-test.true, c.len-k-end.ensures)) c.name.ensures c.member.ensures in
    let laws = c.grown_lists_are_trees.ensures in
    grown_more laws.steps laws.joined c.args.files.now c.loop-k.files c.add_member.new.files c.args.at xs c.loop-k.k x at c.loop-k.invariant c.in_ok-add_member.ensures

pub add_store-returns : goal.add_store-returns
add_store-returns g t c =
    let f = (store_of g.B.Blob.bytes c.args.store.now).members in
    grown_all c.args.files.now c.loop-k.files c.args.at f c.loop-k.k (omega (arith, c.len-k-end.ensures, c.loop-k-test.false)) c.loop-k.invariant
