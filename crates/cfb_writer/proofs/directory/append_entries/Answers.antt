use Rattle.std.proofs.Common.{◌≡◌, ◌+◌, ◌∷◌, ℕ, drop, length, refl, ap, subst, arith}
use Rattle.std.proofs.lemmas.Option.{slice_get_within, get_or_from_slice_get}
use Rattle.carrier_model.specs.Layout.{slot_bytes, slots_bytes, start_of_slot}
use Rattle.cfb_list.specs.Contents.{name_seen}
use Rattle.cfb_writer.specs.Entered.{slot_seen}
use Rattle.cfb_writer.specs.Laid.{bytes_of, IsShort}
use Rattle.cfb_writer.specs.Shares.{share_pieces, share_total}
use Rattle.cfb_layout.specs.Versions.{sector_of}
use Rattle.cfb_writer.specs.declared.streams.Share.TheVariants.{Short, Long}
use Rattle.cfb_writer.proofs.Going.{going_start, going_more, going_stops}
use Rattle.cfb_writer.proofs.Rooms.{each_at}
use Rattle.cfb_writer.proofs.Shared.{entry_then, slots_then, total_then}
use Rattle.cfb_writer.proofs.directory.append_entries.Goals as goal

pub loop-k-init : goal.loop-k-init
loop-k-init g c = (going_start (g.W.Sink.held c.args.sink.now) (g.W.Sink.faults c.args.sink.now) (slots_bytes (sector_of c.args.version) c.args.first.mini c.args.first.long c.args.entries.now.others), refl, refl)

pub append_entry-requires : goal.append_entry-requires
append_entry-requires g c =
    let others = c.args.entries.now.others in
    let k = c.loop-k.k in
    let s = slot_seen g.B.Blob.bytes c.entry-entry.result in
    subst IsShort (get_or_from_slice_get others k s s c.entry-entry.ensures) (each_at IsShort others k s (slice_get_within others k s c.entry-entry.ensures) c.requires.short)

pub returns-in_err-sum : goal.returns-in_err-sum
returns-in_err-sum g c =
    let others = c.args.entries.now.others in
    let k = c.loop-k.k in
    let e = c.entry-entry.result in
    let s = slot_seen g.B.Blob.bytes e in
    let z = sector_of c.args.version in
    let next = c.loop-k.next in
    let rest = drop (k + 1) others in
    let at : drop k others ≡ s ∷ rest = entry_then others k s c.entry-entry.ensures in
    let mp = share_pieces Short 64 (bytes_of s) in
    let lp = share_pieces Long z (bytes_of s) in
    going_stops (slot_bytes s (start_of_slot next.mini next.long s) (length (bytes_of s))) (slots_bytes z (next.mini + mp) (next.long + lp) rest) (slots_then z next.mini next.long (next.mini + mp) (next.long + lp) (drop k others) s rest at refl refl) c.from_residual.ensures.0 c.loop-k.invariant.0 c.in_err-sum.ensures

pub overflow_cast-next-in-loop-k : goal.overflow_cast-next-in-loop-k
overflow_cast-next-in-loop-k g c =
    let others = c.args.entries.now.others in
    let k = c.loop-k.k in
    let e = c.entry-entry.result in
    let s = slot_seen g.B.Blob.bytes e in
    let z = sector_of c.args.version in
    let next = c.loop-k.next in
    let rest = drop (k + 1) others in
    let at : drop k others ≡ s ∷ rest = entry_then others k s c.entry-entry.ensures in
    let m = c.pieces_of.result in
    let l = c.pieces_of-in-loop-k.result in
    let mini : m ≡ share_pieces Short 64 (bytes_of s) = c.pieces_of.ensures (name_seen e.file.name) e.left e.right e.child in
    let long : l ≡ share_pieces Long z (bytes_of s) = c.pieces_of-in-loop-k.ensures (name_seen e.file.name) e.left e.right e.child in
    let minis : share_total Short 64 (drop k others) ≡ m + share_total Short 64 rest = omega (arith, mini, ap (share_total Short 64) at, total_then Short 64 s rest) in
    let longs : share_total Long z (drop k others) ≡ l + share_total Long z rest = omega (arith, long, ap (share_total Long z) at, total_then Long z s rest) in
    omega (arith, c.loop-k.invariant.2, longs, c.requires.long)

pub overflow_add-next-in-loop-k : goal.overflow_add-next-in-loop-k
overflow_add-next-in-loop-k g c =
    let others = c.args.entries.now.others in
    let k = c.loop-k.k in
    let e = c.entry-entry.result in
    let s = slot_seen g.B.Blob.bytes e in
    let z = sector_of c.args.version in
    let next = c.loop-k.next in
    let rest = drop (k + 1) others in
    let at : drop k others ≡ s ∷ rest = entry_then others k s c.entry-entry.ensures in
    let m = c.pieces_of.result in
    let l = c.pieces_of-in-loop-k.result in
    let mini : m ≡ share_pieces Short 64 (bytes_of s) = c.pieces_of.ensures (name_seen e.file.name) e.left e.right e.child in
    let long : l ≡ share_pieces Long z (bytes_of s) = c.pieces_of-in-loop-k.ensures (name_seen e.file.name) e.left e.right e.child in
    let minis : share_total Short 64 (drop k others) ≡ m + share_total Short 64 rest = omega (arith, mini, ap (share_total Short 64) at, total_then Short 64 s rest) in
    let longs : share_total Long z (drop k others) ≡ l + share_total Long z rest = omega (arith, long, ap (share_total Long z) at, total_then Long z s rest) in
    omega (arith, c.loop-k.invariant.2, longs, c.requires.long)

pub loop-k-preserved : goal.loop-k-preserved
loop-k-preserved g c =
    let others = c.args.entries.now.others in
    let k = c.loop-k.k in
    let e = c.entry-entry.result in
    let s = slot_seen g.B.Blob.bytes e in
    let z = sector_of c.args.version in
    let next = c.loop-k.next in
    let rest = drop (k + 1) others in
    let at : drop k others ≡ s ∷ rest = entry_then others k s c.entry-entry.ensures in
    let m = c.pieces_of.result in
    let l = c.pieces_of-in-loop-k.result in
    let mini : m ≡ share_pieces Short 64 (bytes_of s) = c.pieces_of.ensures (name_seen e.file.name) e.left e.right e.child in
    let long : l ≡ share_pieces Long z (bytes_of s) = c.pieces_of-in-loop-k.ensures (name_seen e.file.name) e.left e.right e.child in
    let minis : share_total Short 64 (drop k others) ≡ m + share_total Short 64 rest = omega (arith, mini, ap (share_total Short 64) at, total_then Short 64 s rest) in
    let longs : share_total Long z (drop k others) ≡ l + share_total Long z rest = omega (arith, long, ap (share_total Long z) at, total_then Long z s rest) in (
      going_more _ (slot_bytes s (start_of_slot next.mini next.long s) (length (bytes_of s))) (slots_bytes z (next.mini + m) (next.long + l) rest) (slots_then z next.mini next.long (next.mini + m) (next.long + l) (drop k others) s rest at (ap (λ (n : ℕ). next.mini + n) mini) (ap (λ (n : ℕ). next.long + n) long)) refl c.loop-k.invariant.0 c.in_ok-sum.ensures,
      omega (arith, c.loop-k.invariant.1, minis),
      omega (arith, c.loop-k.invariant.2, longs),
    )
