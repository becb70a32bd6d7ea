use Rattle.std.proofs.Common.{◌≡◌, ◌+◌, drop, refl, ap, arith}
use Rattle.std.specs.List.{flat_map}
use Rattle.carrier_model.specs.Layout.{filled}
use Rattle.cfb_list.specs.Contents.{name_seen}
use Rattle.cfb_writer.specs.Entered.{slot_seen}
use Rattle.cfb_writer.specs.Laid.{bytes_of}
use Rattle.cfb_writer.specs.Shares.{size_of, streams_of, share_pieces, share_total, share_bytes}
use Rattle.cfb_layout.specs.Versions.{sector_of}
use Rattle.cfb_writer.proofs.Going.{going_start, going_more, going_stops, going_done}
use Rattle.cfb_writer.proofs.Shared.{no_bytes, some_size, entry_then, bytes_then, total_then}
use Rattle.cfb_writer.proofs.streams.append_streams.Goals as goal

pub loop-k-init : goal.loop-k-init
loop-k-init g c = (going_start (g.W.Sink.held c.args.sink.now) (g.W.Sink.faults c.args.sink.now) (flat_map (filled (size_of c.args.share (sector_of c.args.version))) (streams_of c.args.share c.args.entries.now.others)), c.requires)

pub returns-in_err-sum : goal.returns-in_err-sum
returns-in_err-sum g c =
    let others = c.args.entries.now.others in
    let k = c.loop-k.k in
    let e = c.entry-entry.result in
    let s = slot_seen g.B.Blob.bytes e in
    going_stops (share_bytes c.args.share (sector_of c.args.version) (bytes_of s)) (flat_map (filled (size_of c.args.share (sector_of c.args.version))) (streams_of c.args.share (drop (k + 1) others))) (bytes_then c.args.share (sector_of c.args.version) (drop k others) s (drop (k + 1) others) (entry_then others k s c.entry-entry.ensures)) c.from_residual.ensures.0 c.loop-k.invariant.0 (c.in_err-sum.ensures (name_seen e.file.name) e.left e.right e.child)

pub loop-k-preserved : goal.loop-k-preserved
loop-k-preserved g c =
    let others = c.args.entries.now.others in
    let k = c.loop-k.k in
    let e = c.entry-entry.result in
    let s = slot_seen g.B.Blob.bytes e in
    let is : c.pieces_of.result ≡ share_pieces c.args.share (sector_of c.args.version) (bytes_of s) = c.pieces_of.ensures (name_seen e.file.name) e.left e.right e.child in
    let total : share_total c.args.share (sector_of c.args.version) (drop k others) ≡ c.pieces_of.result + share_total c.args.share (sector_of c.args.version) (drop (k + 1) others) = omega (arith, is, ap (share_total c.args.share (sector_of c.args.version)) (entry_then others k s c.entry-entry.ensures), total_then c.args.share (sector_of c.args.version) s (drop (k + 1) others)) in
    (going_more _ (share_bytes c.args.share (sector_of c.args.version) (bytes_of s)) (flat_map (filled (size_of c.args.share (sector_of c.args.version))) (streams_of c.args.share (drop (k + 1) others))) (bytes_then c.args.share (sector_of c.args.version) (drop k others) s (drop (k + 1) others) (entry_then others k s c.entry-entry.ensures)) refl c.loop-k.invariant.0 (c.in_ok-sum.ensures (name_seen e.file.name) e.left e.right e.child), omega (arith, c.loop-k.invariant.1, total))

pub returns-then-left-eq0 : goal.returns-then-left-eq0
returns-then-left-eq0 g c =
    let left = streams_of c.args.share (drop c.loop-k.k c.args.entries.now.others) in
    going_done (no_bytes (size_of c.args.share (sector_of c.args.version)) left (some_size c.args.share c.args.version) (omega (arith, c.loop-k.invariant.1))) c.loop-k.invariant.0

pub overflow_cast-left : goal.overflow_cast-left
overflow_cast-left g c =
    let others = c.args.entries.now.others in
    let k = c.loop-k.k in
    let e = c.entry-entry.result in
    let s = slot_seen g.B.Blob.bytes e in
    let is : c.pieces_of.result ≡ share_pieces c.args.share (sector_of c.args.version) (bytes_of s) = c.pieces_of.ensures (name_seen e.file.name) e.left e.right e.child in
    let total : share_total c.args.share (sector_of c.args.version) (drop k others) ≡ c.pieces_of.result + share_total c.args.share (sector_of c.args.version) (drop (k + 1) others) = omega (arith, is, ap (share_total c.args.share (sector_of c.args.version)) (entry_then others k s c.entry-entry.ensures), total_then c.args.share (sector_of c.args.version) s (drop (k + 1) others)) in
    omega (arith, c.loop-k.invariant.1, total)

pub overflow_sub-left : goal.overflow_sub-left
overflow_sub-left g c =
    let others = c.args.entries.now.others in
    let k = c.loop-k.k in
    let e = c.entry-entry.result in
    let s = slot_seen g.B.Blob.bytes e in
    let is : c.pieces_of.result ≡ share_pieces c.args.share (sector_of c.args.version) (bytes_of s) = c.pieces_of.ensures (name_seen e.file.name) e.left e.right e.child in
    let total : share_total c.args.share (sector_of c.args.version) (drop k others) ≡ c.pieces_of.result + share_total c.args.share (sector_of c.args.version) (drop (k + 1) others) = omega (arith, is, ap (share_total c.args.share (sector_of c.args.version)) (entry_then others k s c.entry-entry.ensures), total_then c.args.share (sector_of c.args.version) s (drop (k + 1) others)) in
    omega (arith, c.loop-k.invariant.1, total)
