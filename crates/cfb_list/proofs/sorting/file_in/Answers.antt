use Rattle.cfb_list.specs.Contents.{file_seen}
use Rattle.cfb_list.proofs.FilePlaces.{found_at}
use Rattle.cfb_list.proofs.sorting.file_in.Goals as goal

pub returns : goal.returns
returns g c =
    let of = g.B.Blob.bytes in
    let storage = c.args.storage.now in
    found_at of storage.files.items storage.places.items c.args.k c.index-place.result.now c.index.result.now (file_seen of c.view_at.result) c.requires.there c.requires.place c.index-place.ensures c.index.ensures c.view_at.ensures
