use Rattle.std.proofs.Common.{rules, arith, ◌≡◌, ◌∙◌, ap, sym, refl, take, take_all}
use Rattle.carrier_model.specs.FileTrees.{files_listed}
use Rattle.carrier_model.proofs.Trees.{take_same_more}
use Rattle.msg_tree.specs.StoreMeaning.{store_of, member_of}
use Rattle.msg_tree.proofs.StoreSteps.{member_depth_le, named_at, member_at, store_same, not_same, are_same, name_of_two, member_of_two}
use Rattle.msg_tree.proofs.store_equality.+same_stores.Goals as goal

pub same_store-returns-then-ne-2 : goal.same_store-returns-then-ne-2
same_store-returns-then-ne-2 g t c = (
  (λ e. absurd cc),
  (λ e. absurd (not_same c.name.result.now c.name-in-loop-k.result.now (sym c.if-ne-2.true ∙ c.ne-in-loop-k.ensures) (name_of_two (files_listed (store_of g.B.Blob.bytes c.args.one.now).members) (files_listed (store_of g.C.Blob.bytes c.args.other.now).members) c.loop-k.k c.name.result.now c.name-in-loop-k.result.now (ap (λ s. files_listed s.members) e) (omega (arith, c.loop-k-test.true, c.len-k-end.ensures)) c.name.ensures c.name-in-loop-k.ensures))),
)

pub same_store-same_member-requires : goal.same_store-same_member-requires
same_store-same_member-requires g t c κs within =
    let f = (store_of g.B.Blob.bytes c.args.one.now).members in
    let (n, at) = member_at (files_listed f) c.loop-k.k (member_of g.B.Blob.bytes c.member.result.now) (omega (arith, c.loop-k-test.true, c.len-k-end.ensures)) c.member.ensures in
    let le = member_depth_le f c.loop-k.k (n, member_of g.B.Blob.bytes c.member.result.now) at in
    (omega (arith, le), search rules)

pub same_store-returns-then-not-same_member : goal.same_store-returns-then-not-same_member
same_store-returns-then-not-same_member g t c = (
  (λ e. absurd cc),
  (λ e. c.if-not-same_member.ensures.1 (member_of_two (files_listed (store_of g.B.Blob.bytes c.args.one.now).members) (files_listed (store_of g.C.Blob.bytes c.args.other.now).members) c.loop-k.k (member_of g.B.Blob.bytes c.member.result.now) (member_of g.C.Blob.bytes c.member-in-loop-k.result.now) (ap (λ s. files_listed s.members) e) (omega (arith, c.loop-k-test.true, c.len-k-end.ensures)) c.member.ensures c.member-in-loop-k.ensures)),
)

pub same_store-loop-k-preserved : goal.same_store-loop-k-preserved
same_store-loop-k-preserved g t c =
    let xs = files_listed (store_of g.B.Blob.bytes c.args.one.now).members in
    let ys = files_listed (store_of g.C.Blob.bytes c.args.other.now).members in
    let m = member_of g.B.Blob.bytes c.member.result.now in
    let n = member_of g.C.Blob.bytes c.member-in-loop-k.result.now in
    let a = named_at xs c.loop-k.k c.name.result.now m (omega (arith, c.loop-k-test.true, c.len-k-end.ensures)) c.name.ensures c.member.ensures in
    let b = named_at ys c.loop-k.k c.name-in-loop-k.result.now n (omega (arith, c.loop-k-test.true, c.len-k-end.ensures, c.len.ensures, c.len-2.ensures, c.if-len.false)) c.name-in-loop-k.ensures c.member-in-loop-k.ensures in
    let names = are_same c.name.result.now c.name-in-loop-k.result.now (sym c.if-ne-2.false ∙ c.ne-in-loop-k.ensures) in
    let members = c.if-not-same_member.ensures.0 refl in
    take_same_more xs ys c.loop-k.k (c.name.result.now, m) (c.name-in-loop-k.result.now, n) c.loop-k.invariant a b (λ i. (names i, members i))

pub same_store-returns : goal.same_store-returns
same_store-returns g t c =
    let one = store_of g.B.Blob.bytes c.args.one.now in
    let other = store_of g.C.Blob.bytes c.args.other.now in
    let xs = files_listed one.members in
    let ys = files_listed other.members in
    let front : take c.loop-k.k xs ≡ xs = take_all c.loop-k.k xs (omega (arith, c.len-k-end.ensures, c.loop-k-test.false)) in
    let back : take c.loop-k.k ys ≡ ys = take_all c.loop-k.k ys (omega (arith, c.len-k-end.ensures, c.loop-k-test.false, c.len.ensures, c.len-2.ensures, c.if-len.false)) in
    let class : one.class ≡ other.class = sym c.class.ensures ∙ (are_same c.class.result c.class-2.result (sym c.if-ne.false ∙ c.ne.ensures) ∙ c.class-2.ensures) in (
      (λ h. store_same one other class (sym front ∙ (c.loop-k.invariant ∙ back))),
      (λ e. refl),
    )
