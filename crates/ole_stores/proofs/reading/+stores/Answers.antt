use Rattle.std.proofs.Common.{◌≡◌, length, Some, None, Ok, refl, sym, ap, subst, ◌∙◌, take_all}
use Rattle.std.specs.Prelude.{slice_get, IsSome}
use Rattle.std.specs.Option.{option_map}
use Rattle.std.proofs.lemmas.Option.{slice_get_within}
use Rattle.std.proofs.lemmas.Result.{err_from_is_err_and}
use Rattle.carrier_model.specs.FileTrees.{bytes_at, store_at}
use Rattle.carrier_model.specs.Outcomes.{◌>>=◌, mapped}
use Rattle.carrier_model.specs.Stores.{shallow, deep_place}
use Rattle.cfb_directory.specs.Found.{storage_seen, child_seen, children_list}
use Rattle.carrier_model.specs.Streams.{Stream as Streamed}
use Rattle.cfb_sectors.specs.Seen.{bytes_of, stream as stream_seen}
use Rattle.msg_tree.specs.Gathering.{gathered, in_order}
use Rattle.msg_tree.specs.StoreMeaning.{store_of, member_of}
use Rattle.ole_stores.specs.Levels.{member_at, members_of, members_within, store_below}
use Rattle.ole_stores.proofs.Children.{behind, storage_there, stream_there, member_fails, member_clear, member_is, none_behind, all_members, nearer, one_more, stopped_within, all_read}
use Rattle.ole_stores.proofs.Made.{stream_made, storage_made}
use Rattle.ole_stores.proofs.Sides.{fails_with}
use Rattle.ole_stores.proofs.reading.+stores.Goals as goal

pub read_member-returns-in_err-read_below-in-Some : goal.read_member-returns-in_err-read_below-in-Some
read_member-returns-in_err-read_below-in-Some t c =
    let p = err_from_is_err_and c.from_residual.result c.from_residual.ensures.1 in
    let f = c.args.files.now in
    let cs = (storage_seen f c.args.at).children in
    let s = storage_seen f c.in-Some.inner in
    let at : slice_get (children_list cs) c.args.k ≡ Some (record { name = c.args.child.units.now; storage = Some s }) = c.requires.child ∙ ap (λ o. Some (record { name = c.args.child.units.now; storage = option_map (storage_seen f) o })) c.in-Some.is in
    rw (p.1, p.2) (fails_with c.in_err-read_below-in-Some.field-0.0 (store_below c.args.most s) (member_at c.args.most cs c.args.k) (λ g h. storage_there c.args.most cs c.args.k c.args.child.units.now s at ∙ ap (mapped store_at) h) c.in_err-read_below-in-Some.ensures)

pub read_member-read_stream-requires-clause-stream : goal.read_member-read_stream-requires-clause-stream
read_member-read_stream-requires-clause-stream t c =
    let f = c.args.files.now in
    let cs = (storage_seen f c.args.at).children in
    let at : slice_get (children_list cs) c.args.k ≡ Some (record { name = c.args.child.units.now; storage = None }) = c.requires.child ∙ ap (λ o. Some (record { name = c.args.child.units.now; storage = option_map (storage_seen f) o })) c.in-None.is in
    let x = stream_there c.args.most cs c.args.k c.args.child.units.now at in
    subst (λ o. IsSome o) (sym x.1) refl

pub read_member-returns-in_ok-read_below-in-Some : goal.read_member-returns-in_ok-read_below-in-Some
read_member-returns-in_ok-read_below-in-Some t c =
    let f = c.args.files.now in
    let cs = (storage_seen f c.args.at).children in
    let s = storage_seen f c.in-Some.inner in
    let at : slice_get (children_list cs) c.args.k ≡ Some (record { name = c.args.child.units.now; storage = Some s }) = c.requires.child ∙ ap (λ o. Some (record { name = c.args.child.units.now; storage = option_map (storage_seen f) o })) c.in-Some.is in
    let store = c.in_ok-read_below-in-Some.field-0 in
    storage_there c.args.most cs c.args.k c.args.child.units.now s at ∙ (ap (mapped store_at) c.in_ok-read_below-in-Some.ensures ∙ ap Ok (sym (storage_made bytes_of store)))

pub read_member-returns-in_ok-read_stream-in-None : goal.read_member-returns-in_ok-read_stream-in-None
read_member-returns-in_ok-read_stream-in-None t c =
    let f = c.args.files.now in
    let cs = (storage_seen f c.args.at).children in
    let at : slice_get (children_list cs) c.args.k ≡ Some (record { name = c.args.child.units.now; storage = None }) = c.requires.child ∙ ap (λ o. Some (record { name = c.args.child.units.now; storage = option_map (storage_seen f) o })) c.in-None.is in
    let x = stream_there c.args.most cs c.args.k c.args.child.units.now at in
    let view = c.in_ok-read_stream-in-None.field-0 in
    let same : x.0 ≡ stream_seen view = same_stream x.0 (stream_seen view) (sym x.1 ∙ c.in_ok-read_stream-in-None.ensures) in
    x.2 ∙ ap Ok (ap (λ (y : Streamed). bytes_at y.bytes) same ∙ sym (stream_made bytes_of view))
  where
    same_stream : (a b : Streamed) → Some a ≡ Some b → a ≡ b
    same_stream a b e = cc

pub read_members-returns-in_err-member : goal.read_members-returns-in_err-member
read_members-returns-in_err-member t c =
    let p = err_from_is_err_and c.from_residual.result c.from_residual.ensures.1 in
    let f = c.args.files.now in
    let cs = (storage_seen f c.args.at).children in
    let k = length (gathered bytes_of c.loop-child.members) in
    let at : slice_get (children_list cs) k ≡ Some (child_seen f c.in-Some.child) = ap (slice_get (children_list cs)) (sym c.len.ensures) ∙ sym c.in-Some.ensures.found in
    rw (p.1, p.2) (fails_with c.in_err-member.field-0.0 (member_at c.args.most cs c.len-in-Some.result) (members_within c.args.most cs) (λ g h. stopped_within (deep_place c.args.most cs) _ g (ap shallow c.loop-child.invariant.clear ∙ member_fails c.args.most cs k (child_seen f c.in-Some.child) g at (ap (member_at c.args.most cs) (sym c.len-in-Some.ensures) ∙ h))) c.in_err-member.ensures)

pub read_members-loop-child-smaller : goal.read_members-loop-child-smaller
read_members-loop-child-smaller t c =
    let f = c.args.files.now in
    let cs = (storage_seen f c.args.at).children in
    let k = length (gathered bytes_of c.loop-child.members) in
    let at : slice_get (children_list cs) k ≡ Some (child_seen f c.in-Some.child) = ap (slice_get (children_list cs)) (sym c.len.ensures) ∙ sym c.in-Some.ensures.found in
    nearer (length (children_list cs)) (gathered bytes_of c.loop-child.members) (gathered bytes_of c.push.new.self) _ (slice_get_within (children_list cs) k _ at) c.in_ok-push.ensures.ok

pub read_members-loop-child-preserved : goal.read_members-loop-child-preserved
read_members-loop-child-preserved t c =
    let f = c.args.files.now in
    let cs = (storage_seen f c.args.at).children in
    let k = length (gathered bytes_of c.loop-child.members) in
    let x = child_seen f c.in-Some.child in
    let m = member_of bytes_of c.in_ok-member.member in
    let at : slice_get (children_list cs) k ≡ Some x = ap (slice_get (children_list cs)) (sym c.len.ensures) ∙ sym c.in-Some.ensures.found in
    let is : member_at c.args.most cs k ≡ Ok m = ap (member_at c.args.most cs) (sym c.len-in-Some.ensures) ∙ c.in_ok-member.ensures in
    let more = one_more (gathered bytes_of c.loop-child.members) (gathered bytes_of c.push.new.self) (x.name, m) (members_of cs) c.loop-child.invariant.items (member_is c.args.most cs k x m at is) c.in_ok-push.ensures.ok in
    record {
      clear = c.loop-child.invariant.clear ∙ (member_clear c.args.most cs k x m at is ∙ ap (λ n. deep_place c.args.most (behind n cs)) (sym more.0));
      items = more.1;
    }

pub read_members-returns : goal.read_members-returns
read_members-returns t c =
    let f = c.args.files.now in
    let cs = (storage_seen f c.args.at).children in
    let k = length (gathered bytes_of c.loop-child.members) in
    let past : slice_get (children_list cs) k ≡ None = ap (slice_get (children_list cs)) (sym c.len.ensures) ∙ sym c.in_default.ensures.found in
    let clear : deep_place c.args.most cs ≡ None = c.loop-child.invariant.clear ∙ ap (deep_place c.args.most) (none_behind cs k past) in
    ap (λ o. shallow o >>= λ fits. Ok (members_of cs)) clear ∙ ap Ok (sym (take_all k (members_of cs) (all_members cs k past)) ∙ sym c.loop-child.invariant.items)

pub read_within-returns : goal.read_within-returns
read_within-returns t c =
    let f = c.args.files.now in
    let s = storage_seen f c.args.at in
    all_read c.args.most s (store_of bytes_of c.in_ok-into_store.field-0) (gathered bytes_of c.in_ok-members.members) c.in_ok-members.ensures (c.in_ok-into_store.ensures ∙ ap (λ k. record { class = k; members = in_order (gathered bytes_of c.in_ok-members.members) }) c.class.ensures)
