use Rattle.std.proofs.Common.{rules, arith, ◌≡◌, ◌∙◌, ap, sym, take, take_all, Some}
use Rattle.carrier_model.specs.FileTrees.{files_from, files_listed}
use Rattle.msg_tree.specs.StoreMeaning.{store_of, member_of}
use Rattle.msg_tree.proofs.Stored.{listed-files}
use Rattle.msg_tree.proofs.StoreSteps.{member_depth_le, named_at, member_at, pushed}
use Rattle.msg_tree.proofs.store_copies.+copy_stores.Goals as goal

pub copy_store-copy_member-requires : goal.copy_store-copy_member-requires
copy_store-copy_member-requires g t c κs within =
    let f = (store_of g.B.Blob.bytes c.args.store.now).members in
    let (n, at) = member_at (files_listed f) c.loop-k.k (member_of g.B.Blob.bytes c.member.result.now) (omega (arith, c.loop-k-test.true, c.len-k-end.ensures)) c.member.ensures in
    let le = member_depth_le f c.loop-k.k (n, member_of g.B.Blob.bytes c.member.result.now) at in
    (omega (arith, le), search rules)

pub copy_store-loop-k-preserved : goal.copy_store-loop-k-preserved
copy_store-loop-k-preserved g t c =
    let s = store_of g.B.Blob.bytes c.args.store.now in
    let xs = files_listed s.members in
    let m = member_of (λ v. v.items) c.in_ok-copy.copy in
    let at = named_at xs c.loop-k.k c.name.result.now (member_of g.B.Blob.bytes c.member.result.now) (omega (arith, c.loop-k-test.true, c.len-k-end.ensures)) c.name.ensures c.member.ensures in
    pushed s.class xs (store_of (λ v. v.items) c.push.new.self) (c.name.result.now, m) c.loop-k.k (store_of (λ v. v.items) c.loop-k.all) c.loop-k.invariant (at ∙ ap (λ z. Some (c.name.result.now, z)) (sym c.in_ok-copy.ensures)) c.in_ok-push.ensures

pub copy_store-returns : goal.copy_store-returns
copy_store-returns g t c =
    let s = store_of g.B.Blob.bytes c.args.store.now in
    let all : take c.loop-k.k (files_listed s.members) ≡ files_listed s.members = take_all c.loop-k.k (files_listed s.members) (omega (arith, c.len-k-end.ensures, c.loop-k-test.false)) in
    c.loop-k.invariant ∙ ap (λ f. record { class = s.class; members = f }) (ap files_from all ∙ listed-files s.members)
