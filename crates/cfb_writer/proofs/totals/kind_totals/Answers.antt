use Rattle.std.proofs.Common.{arith}
use Rattle.cfb_layout.specs.Versions.{sector_of}
use Rattle.cfb_writer.proofs.Rooms.{stream_totals, storage_totals}
use Rattle.cfb_writer.proofs.totals.kind_totals.Goals as goal

pub returns-in-Stream : goal.returns-in-Stream
returns-in-Stream g c = λ parent name tree child known.
    let of = g.B.Blob.bytes in
    let long = c.pieces_of-2.ensures name 0 0 0 in
    stream_totals of (sector_of c.args.version) tree name c.args.kind.now c.in-Stream.field-0 c.pieces_of.result c.pieces_of-2.result c.in-Stream.is c.pieces_of.type_inv c.pieces_of-2.type_inv (c.pieces_of.ensures name 0 0 0) long

pub returns-in-Storage : goal.returns-in-Storage
returns-in-Storage g c = λ parent name tree child known.
    let of = g.B.Blob.bytes in
    let long = c.pieces_of-2.ensures name 0 0 0 in
    let inside = (rw c.in-Storage.is at child) in
    storage_totals of (sector_of c.args.version) tree name c.args.kind.now c.in-Storage.class c.in-Storage.number c.pieces_of.result c.pieces_of-2.result _ c.and.result c.in-Storage.is (known c.in-Storage.number _ (omega (arith, inside.1)) inside.2) (c.pieces_of.ensures name 0 0 0) long c.and.ensures.entries c.and.ensures.mini c.and.ensures.long
