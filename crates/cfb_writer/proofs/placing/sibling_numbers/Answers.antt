use Rattle.std.proofs.Common.{◌≡◌, ◌<◌, ◌≤◌, ◌+◌, ◌∷◌, [], length, subst, arith}
use Rattle.carrier_model.specs.FileTrees.{entries_in}
use Rattle.carrier_model.specs.Totals.{capped}
use Rattle.cfb_list.specs.Contents.{file_seen, name_seen}
use Rattle.cfb_list.specs.Listed.{built, children_at}
use Rattle.cfb_list.specs.Trees.{inside}
use Rattle.cfb_writer.proofs.Rooms.{unnamed}
use Rattle.cfb_writer.proofs.Numbered.{dropped_more, room_here, numbered_more}
use Rattle.cfb_writer.proofs.placing.sibling_numbers.Goals as goal

pub entries_of-requires : goal.entries_of-requires
entries_of-requires g c =
    let of = g.B.Blob.bytes in
    let file = c.file.result in
    (c.args.parent, unnamed of c.args.parent (length c.args.list.now) (length c.args.totals.now) file c.requires.many c.file.ensures.sound)

pub overflow_cast-number : goal.overflow_cast-number
overflow_cast-number g c =
    let of = g.B.Blob.bytes in
    let file = c.file.result in
    let tree = inside c.args.list.now in
    let cs = children_at c.args.list.now c.args.parent in
    let lt : c.loop-place.place < length cs = omega (arith, c.loop-place-test.true, c.count_in-count.ensures.count) in
    let one : c.entries_of.result ≡ capped (entries_in (built tree (file_seen of file ∷ []))) = c.entries_of.ensures c.args.parent (name_seen file.name) tree (unnamed of c.args.parent (length c.args.list.now) (length c.args.totals.now) file c.requires.many c.file.ensures.sound) (λ k d low high. c.requires.counted k d (omega arith) high) in
    let few : c.args.first + entries_in (built tree cs) ≤ 2147483648 = subst (λ t. c.args.first + entries_in t ≤ 2147483648) c.count_in-count.ensures.tree c.requires.few in
    omega (arith, one, room_here tree c.args.first cs c.loop-place.place c.loop-place.number 2147483648 c.loop-place.numbers.items (file_seen of file) c.loop-place.invariant (dropped_more cs c.loop-place.place (file_seen of file) lt c.file.ensures.seen) few)

pub overflow_add-number : goal.overflow_add-number
overflow_add-number g c =
    let of = g.B.Blob.bytes in
    let file = c.file.result in
    let tree = inside c.args.list.now in
    let cs = children_at c.args.list.now c.args.parent in
    let lt : c.loop-place.place < length cs = omega (arith, c.loop-place-test.true, c.count_in-count.ensures.count) in
    let one : c.entries_of.result ≡ capped (entries_in (built tree (file_seen of file ∷ []))) = c.entries_of.ensures c.args.parent (name_seen file.name) tree (unnamed of c.args.parent (length c.args.list.now) (length c.args.totals.now) file c.requires.many c.file.ensures.sound) (λ k d low high. c.requires.counted k d (omega arith) high) in
    let few : c.args.first + entries_in (built tree cs) ≤ 2147483648 = subst (λ t. c.args.first + entries_in t ≤ 2147483648) c.count_in-count.ensures.tree c.requires.few in
    omega (arith, one, room_here tree c.args.first cs c.loop-place.place c.loop-place.number 2147483648 c.loop-place.numbers.items (file_seen of file) c.loop-place.invariant (dropped_more cs c.loop-place.place (file_seen of file) lt c.file.ensures.seen) few)

pub loop-place-preserved : goal.loop-place-preserved
loop-place-preserved g c =
    let of = g.B.Blob.bytes in
    let file = c.file.result in
    let tree = inside c.args.list.now in
    let cs = children_at c.args.list.now c.args.parent in
    let lt : c.loop-place.place < length cs = omega (arith, c.loop-place-test.true, c.count_in-count.ensures.count) in
    let one : c.entries_of.result ≡ capped (entries_in (built tree (file_seen of file ∷ []))) = c.entries_of.ensures c.args.parent (name_seen file.name) tree (unnamed of c.args.parent (length c.args.list.now) (length c.args.totals.now) file c.requires.many c.file.ensures.sound) (λ k d low high. c.requires.counted k d (omega arith) high) in
    let few : c.args.first + entries_in (built tree cs) ≤ 2147483648 = subst (λ t. c.args.first + entries_in t ≤ 2147483648) c.count_in-count.ensures.tree c.requires.few in
    let more = dropped_more cs c.loop-place.place (file_seen of file) lt c.file.ensures.seen in
    let here = room_here tree c.args.first cs c.loop-place.place c.loop-place.number 2147483648 c.loop-place.numbers.items (file_seen of file) c.loop-place.invariant more few in
    numbered_more tree c.args.first cs c.loop-place.place c.loop-place.number (c.loop-place.number + c.entries_of.result) c.loop-place.numbers.items c.push.new.self.items (file_seen of file) more c.in_ok-push.ensures.items (omega (arith, one, here)) c.loop-place.invariant
