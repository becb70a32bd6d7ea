use Rattle.std.proofs.Common.{◌≡◌, ◌∙◌, ap, sym, map, take, take_all, rules, arith}
use Rattle.carrier_model.specs.FileTrees.{Member, files_listed, Named, bytes_at, store_at}
use Rattle.json_model.specs.StoreForms.{entry_json}
use Rattle.json_writer.proofs.Counted.{andthen, failing, counts_as, one_more, so_far_as, stops, all_done}
use Rattle.msg_tree.specs.StoreMeaning.{store_of, member_of}
use Rattle.tree_json.specs.Listing.{member_entries}
use Rattle.tree_json.specs.Lists.{behind}
use Rattle.tree_json.specs.Paths.{names_in}
use Rattle.tree_json.specs.Wholes.{MemberHasBytes}
use Rattle.tree_json.proofs.Bodies.{stream_made, storage_made}
use Rattle.tree_json.proofs.Wholes.{whole_more, whole_all, members_have_bytes}
use Rattle.tree_json.proofs.Walks.{named_at, member_depth_le, texts_more, texts_parts, texts_at, all_texts, member_front, stream_member}
use Rattle.tree_json.proofs.write_stores.+listing.Goals as goal

pub write_member-returns-in_err-append-clause-json : goal.write_member-returns-in_err-append-clause-json
write_member-returns-in_err-append-clause-json g t c =
    let q = member_front c.args.later (names_in c.args.path.now) (member_of g.B.Blob.bytes c.args.member.now) in
    counts_as _ (sym q.1) (failing q.0 c.from_residual.ensures.0 (rw c.separator.ensures at c.in_err-append.ensures))

pub write_member-returns-in-Stream-clause-json : goal.write_member-returns-in-Stream-clause-json
write_member-returns-in-Stream-clause-json g t c =
    let path = names_in c.args.path.now in
    let known : member_of g.B.Blob.bytes c.args.member.now ≡ bytes_at (g.B.Blob.bytes c.in-Stream.bytes) = ap (member_of g.B.Blob.bytes) c.in-Stream.is ∙ stream_made g.B.Blob.bytes c.in-Stream.bytes in
    counts_as _ (stream_member c.args.later path (g.B.Blob.bytes c.in-Stream.bytes) ∙ ap (λ (m : Member). behind c.args.later (map entry_json (member_entries path m))) (sym known))
    (andthen (rw c.separator.ensures at c.in_ok-append.ensures) c.write_stream.ensures.json)

pub write_member-returns-in_err-write_storage-in-Storage-clause-json : goal.write_member-returns-in_err-write_storage-in-Storage-clause-json
write_member-returns-in_err-write_storage-in-Storage-clause-json g t c =
    let path = names_in c.args.path.now in
    let known : member_of g.B.Blob.bytes c.args.member.now ≡ store_at (store_of g.B.Blob.bytes c.in-Storage.inner) = ap (member_of g.B.Blob.bytes) c.in-Storage.is ∙ storage_made g.B.Blob.bytes c.in-Storage.inner in
    counts_as _ (ap (λ (m : Member). behind c.args.later (map entry_json (member_entries path m))) (sym known))
    (andthen (rw c.separator.ensures at c.in_ok-append.ensures) (failing _ c.from_residual-in_err-write_storage-in-Storage.ensures.0 (rw c.class.ensures at c.in_err-write_storage-in-Storage.ensures.json)))

pub write_member-returns-in_ok-write_storage-in-Storage-clause-json : goal.write_member-returns-in_ok-write_storage-in-Storage-clause-json
write_member-returns-in_ok-write_storage-in-Storage-clause-json g t c =
    let path = names_in c.args.path.now in
    let known : member_of g.B.Blob.bytes c.args.member.now ≡ store_at (store_of g.B.Blob.bytes c.in-Storage.inner) = ap (member_of g.B.Blob.bytes) c.in-Storage.is ∙ storage_made g.B.Blob.bytes c.in-Storage.inner in
    counts_as _ (ap (λ (m : Member). behind c.args.later (map entry_json (member_entries path m))) (sym known))
    (andthen (rw c.separator.ensures at c.in_ok-append.ensures) (andthen (rw c.class.ensures at c.in_ok-write_storage-in-Storage.ensures.json) c.write_members.ensures.json))

pub write_members-write_member-requires : goal.write_members-write_member-requires
write_members-write_member-requires g t c κs within =
    let f = (store_of g.B.Blob.bytes c.args.store.now).members in
    let m = member_of g.B.Blob.bytes c.member.result.now in
    let at = named_at (files_listed f) c.loop-k.k _ m (omega (arith, c.loop-k-test.true, c.len-k-end.ensures)) c.name.ensures c.member.ensures in
    let le = member_depth_le f c.loop-k.k (_, m) at in
    (omega (arith, le), search rules)

pub write_members-returns-in_err-write_member-clause-json : goal.write_members-returns-in_err-write_member-clause-json
write_members-returns-in_err-write_member-clause-json g t c =
    let f = (store_of g.B.Blob.bytes c.args.store.now).members in
    let above = names_in c.args.above.now in
    let m = member_of g.B.Blob.bytes c.member.result.now in
    let at = named_at (files_listed f) c.loop-k.k _ m (omega (arith, c.loop-k-test.true, c.len-k-end.ensures)) c.name.ensures c.member.ensures in
    let q = texts_parts c.args.later above (files_listed f) c.loop-k.k (c.name.result.now, m) at in
    stops _ q.0 (sym (all_texts c.args.later above f) ∙ q.1) c.from_residual.ensures.0 c.loop-k.invariant.0 (rw c.is_later.ensures at c.in_err-write_member.ensures.json)

pub write_members-loop-k-preserved : goal.write_members-loop-k-preserved
write_members-loop-k-preserved g t c =
    let f = (store_of g.B.Blob.bytes c.args.store.now).members in
    let above = names_in c.args.above.now in
    let m = member_of g.B.Blob.bytes c.member.result.now in
    let at = named_at (files_listed f) c.loop-k.k _ m (omega (arith, c.loop-k-test.true, c.len-k-end.ensures)) c.name.ensures c.member.ensures in (
      so_far_as _ (sym (texts_more c.args.later above (files_listed f) c.loop-k.k (c.name.result.now, m) at)) (one_more c.loop-k.invariant.0 (rw c.is_later.ensures at c.in_ok-write_member.ensures.json)),
      whole_more (λ (e : Named). MemberHasBytes e.1) (files_listed f) c.loop-k.k (_, m) c.loop-k.invariant.1 at c.in_ok-write_member.ensures.bytes,
    )

pub write_members-returns-clause-json : goal.write_members-returns-clause-json
write_members-returns-clause-json g t c =
    let f = (store_of g.B.Blob.bytes c.args.store.now).members in
    let above = names_in c.args.above.now in
    let all : take c.loop-k.k (files_listed f) ≡ files_listed f = take_all c.loop-k.k (files_listed f) (omega (arith, c.len-k-end.ensures, c.loop-k-test.false)) in
    all_done _ (ap (texts_at c.args.later above) all ∙ all_texts c.args.later above f) c.loop-k.invariant.0

pub write_members-returns-clause-bytes : goal.write_members-returns-clause-bytes
write_members-returns-clause-bytes g t c =
    let f = (store_of g.B.Blob.bytes c.args.store.now).members in
    members_have_bytes f (whole_all (λ (e : Named). MemberHasBytes e.1) (files_listed f) c.loop-k.k c.loop-k.invariant.1 (omega (arith, c.len-k-end.ensures, c.loop-k-test.false)))
