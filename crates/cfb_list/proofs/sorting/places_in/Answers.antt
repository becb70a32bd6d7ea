use Rattle.cfb_list.proofs.FilePlaces.{next_found, next_there}
use Rattle.cfb_list.proofs.sorting.places_in.Goals as goal

pub loop-k-preserved : goal.loop-k-preserved
loop-k-preserved g c =
    let of = g.B.Blob.bytes in
    let files = c.args.files.now in
    let file = c.index-files-k.result in
    let old = c.loop-k.places.items in
    let new = c.push_places.new.places.items in
    record {
      there = next_there of files c.loop-k.k file old new c.in-Ok.file c.count.result c.loop-k-test.true c.index-files-k.is c.in-Ok.ensures.1 c.count.ensures c.in_ok-push_places.ensures c.loop-k.invariant.there;
      all = next_found of files c.loop-k.k file old new c.in-Ok.file c.count.result c.loop-k-test.true c.index-files-k.is c.in-Ok.ensures.1 c.count.ensures c.in_ok-push_places.ensures c.loop-k.invariant.all;
    }
