use Rattle.std.proofs.Common.{◌≡◌, ◌+◌, ◌∷◌, drop, refl, ap, arith}
use Rattle.carrier_model.specs.Layout.{words_bytes, stream_words, run_words}
use Rattle.cfb_list.specs.Contents.{name_seen}
use Rattle.cfb_writer.specs.Entered.{slot_seen}
use Rattle.cfb_writer.specs.Laid.{bytes_of}
use Rattle.cfb_writer.specs.Shares.{size_of, streams_of, share_pieces, share_total}
use Rattle.cfb_layout.specs.Versions.{sector_of}
use Rattle.cfb_writer.proofs.Going.{going_start, going_more, going_stops, going_done}
use Rattle.cfb_writer.proofs.Shared.{no_words, entry_then, words_then, total_then}
use Rattle.cfb_writer.proofs.streams.append_chains.Goals as goal

pub loop-k-init : goal.loop-k-init
loop-k-init g c = (going_start (g.W.Sink.held c.args.sink.now) (g.W.Sink.faults c.args.sink.now) (words_bytes (stream_words (size_of c.args.share (sector_of c.args.version)) c.args.start (streams_of c.args.share c.args.entries.now.others))), refl)

pub overflow_cast-pieces : goal.overflow_cast-pieces
overflow_cast-pieces g c =
    let others = c.args.entries.now.others in
    let k = c.loop-k.k in
    let e = c.entry.result in
    let s = slot_seen g.B.Blob.bytes e in
    let n = c.pieces_of-pieces.result in
    let at : drop k others ≡ s ∷ drop (k + 1) others = entry_then others k s c.entry.ensures in
    let is : n ≡ share_pieces c.args.share (sector_of c.args.version) (bytes_of s) = c.pieces_of-pieces.ensures (name_seen e.file.name) e.left e.right e.child in
    let total : share_total c.args.share (sector_of c.args.version) (drop k others) ≡ n + share_total c.args.share (sector_of c.args.version) (drop (k + 1) others) = omega (arith, is, ap (share_total c.args.share (sector_of c.args.version)) at, total_then c.args.share (sector_of c.args.version) s (drop (k + 1) others)) in
    omega (arith, c.loop-k.invariant.1, total, c.requires.few, c.requires.all)

pub append_run-requires : goal.append_run-requires
append_run-requires g c =
    let others = c.args.entries.now.others in
    let k = c.loop-k.k in
    let e = c.entry.result in
    let s = slot_seen g.B.Blob.bytes e in
    let n = c.pieces_of-pieces.result in
    let at : drop k others ≡ s ∷ drop (k + 1) others = entry_then others k s c.entry.ensures in
    let is : n ≡ share_pieces c.args.share (sector_of c.args.version) (bytes_of s) = c.pieces_of-pieces.ensures (name_seen e.file.name) e.left e.right e.child in
    let total : share_total c.args.share (sector_of c.args.version) (drop k others) ≡ n + share_total c.args.share (sector_of c.args.version) (drop (k + 1) others) = omega (arith, is, ap (share_total c.args.share (sector_of c.args.version)) at, total_then c.args.share (sector_of c.args.version) s (drop (k + 1) others)) in
    omega (arith, c.loop-k.invariant.1, total, c.requires.few, c.requires.all)

pub overflow_add-next : goal.overflow_add-next
overflow_add-next g c =
    let others = c.args.entries.now.others in
    let k = c.loop-k.k in
    let e = c.entry.result in
    let s = slot_seen g.B.Blob.bytes e in
    let n = c.pieces_of-pieces.result in
    let at : drop k others ≡ s ∷ drop (k + 1) others = entry_then others k s c.entry.ensures in
    let is : n ≡ share_pieces c.args.share (sector_of c.args.version) (bytes_of s) = c.pieces_of-pieces.ensures (name_seen e.file.name) e.left e.right e.child in
    let total : share_total c.args.share (sector_of c.args.version) (drop k others) ≡ n + share_total c.args.share (sector_of c.args.version) (drop (k + 1) others) = omega (arith, is, ap (share_total c.args.share (sector_of c.args.version)) at, total_then c.args.share (sector_of c.args.version) s (drop (k + 1) others)) in
    omega (arith, c.loop-k.invariant.1, total, c.requires.few, c.requires.all)

pub returns-in_err-sum : goal.returns-in_err-sum
returns-in_err-sum g c =
    let others = c.args.entries.now.others in
    let k = c.loop-k.k in
    let e = c.entry.result in
    let s = slot_seen g.B.Blob.bytes e in
    let n = c.pieces_of-pieces.result in
    let at : drop k others ≡ s ∷ drop (k + 1) others = entry_then others k s c.entry.ensures in
    let is : n ≡ share_pieces c.args.share (sector_of c.args.version) (bytes_of s) = c.pieces_of-pieces.ensures (name_seen e.file.name) e.left e.right e.child in
    let total : share_total c.args.share (sector_of c.args.version) (drop k others) ≡ n + share_total c.args.share (sector_of c.args.version) (drop (k + 1) others) = omega (arith, is, ap (share_total c.args.share (sector_of c.args.version)) at, total_then c.args.share (sector_of c.args.version) s (drop (k + 1) others)) in
    going_stops (words_bytes (run_words c.loop-k.next n)) (words_bytes (stream_words (size_of c.args.share (sector_of c.args.version)) (c.loop-k.next + n) (streams_of c.args.share (drop (k + 1) others)))) (words_then c.args.share (sector_of c.args.version) c.loop-k.next n (drop k others) s (drop (k + 1) others) at is) c.from_residual.ensures.0 c.loop-k.invariant.0 c.in_err-sum.ensures

pub loop-k-preserved : goal.loop-k-preserved
loop-k-preserved g c =
    let others = c.args.entries.now.others in
    let k = c.loop-k.k in
    let e = c.entry.result in
    let s = slot_seen g.B.Blob.bytes e in
    let n = c.pieces_of-pieces.result in
    let at : drop k others ≡ s ∷ drop (k + 1) others = entry_then others k s c.entry.ensures in
    let is : n ≡ share_pieces c.args.share (sector_of c.args.version) (bytes_of s) = c.pieces_of-pieces.ensures (name_seen e.file.name) e.left e.right e.child in
    let total : share_total c.args.share (sector_of c.args.version) (drop k others) ≡ n + share_total c.args.share (sector_of c.args.version) (drop (k + 1) others) = omega (arith, is, ap (share_total c.args.share (sector_of c.args.version)) at, total_then c.args.share (sector_of c.args.version) s (drop (k + 1) others)) in
    (going_more _ (words_bytes (run_words c.loop-k.next n)) (words_bytes (stream_words (size_of c.args.share (sector_of c.args.version)) (c.loop-k.next + n) (streams_of c.args.share (drop (k + 1) others)))) (words_then c.args.share (sector_of c.args.version) c.loop-k.next n (drop k others) s (drop (k + 1) others) at is) refl c.loop-k.invariant.0 c.in_ok-sum.ensures, omega (arith, c.loop-k.invariant.1, total))

pub returns-then-next-end : goal.returns-then-next-end
returns-then-next-end g c =
    let left = streams_of c.args.share (drop c.loop-k.k c.args.entries.now.others) in
    going_done (ap words_bytes (no_words (size_of c.args.share (sector_of c.args.version)) c.loop-k.next left (omega (arith, c.requires.all, c.loop-k.invariant.1)))) c.loop-k.invariant.0
