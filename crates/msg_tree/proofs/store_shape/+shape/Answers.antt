use Rattle.std.proofs.Common.{rules, arith, ap, sym, subst, refl, inl, inr, [], length}
use Rattle.std.proofs.lemmas.Bool.{cases_lt}
use Rattle.carrier_model.specs.FileTrees.{files_listed, IsFileName}
use Rattle.msg_tree.specs.Shapes.{ItemFits}
use Rattle.msg_tree.specs.StoreMeaning.{store_of, member_of}
use Rattle.msg_tree.proofs.Places.{name_is}
use Rattle.msg_tree.proofs.Shaped.{items_fit, item_of}
use Rattle.msg_tree.proofs.StoreSteps.{member_depth_le, named_at, member_at, fits_some}
use Rattle.msg_tree.proofs.store_shape.+shape.Goals as goal

pub fits_within-loop-k-init : goal.fits_within-loop-k-init
fits_within-loop-k-init g t c = λ j lt. absurd (omega (arith, lt))

pub fits_within-returns-then-not-item_fits : goal.fits_within-returns-then-not-item_fits
fits_within-returns-then-not-item_fits g t c = (
  (λ e. absurd cc),
  (λ h. c.if-not-item_fits.ensures.1 (item_of c.args.storages (store_of g.B.Blob.bytes c.args.store.now) c.loop-k.k h (omega (arith, c.loop-k-test.true, c.len-k-end.ensures)))),
)

pub fits_within-loop-k-preserved : goal.fits_within-loop-k-preserved
fits_within-loop-k-preserved g t c = λ j lt. elim (cases_lt j c.loop-k.k) [
  | inl under ↦ c.loop-k.invariant j under
  | inr from ↦ subst (ItemFits c.args.storages (store_of g.B.Blob.bytes c.args.store.now).members) {x = c.loop-k.k} (omega (arith, lt, from)) (c.if-not-item_fits.ensures.0 refl)
]

pub fits_within-returns : goal.fits_within-returns
fits_within-returns g t c =
    let s = store_of g.B.Blob.bytes c.args.store.now in (
      (λ e. items_fit c.args.storages s (omega (arith, ap (λ x. length x) c.class.ensures, c.class_bytes-bytes.ensures)) (λ k lt. c.loop-k.invariant k (omega (arith, lt, c.loop-k-test.false, c.len-k-end.ensures)))),
      (λ h. refl),
    )

pub item_fits-returns-then-not-is_name : goal.item_fits-returns-then-not-is_name
item_fits-returns-then-not-is_name g t c =
    let f = (store_of g.B.Blob.bytes c.args.store.now).members in (
      (λ e. absurd cc),
      (λ h. c.if-not-is_name.ensures.1 (subst IsFileName (name_is f c.args.k c.name.result.now [] c.requires c.name.ensures) h.name)),
    )

pub item_fits-member_fits-requires : goal.item_fits-member_fits-requires
item_fits-member_fits-requires g t c κs within =
    let f = (store_of g.B.Blob.bytes c.args.store.now).members in
    let (n, at) = member_at (files_listed f) c.args.k (member_of g.B.Blob.bytes c.member.result.now) c.requires c.member.ensures in
    let le = member_depth_le f c.args.k (n, member_of g.B.Blob.bytes c.member.result.now) at in
    (omega (arith, le), search rules)

pub item_fits-returns : goal.item_fits-returns
item_fits-returns g t c =
    let f = (store_of g.B.Blob.bytes c.args.store.now).members in
    let m = member_of g.B.Blob.bytes c.member.result.now in
    let at = named_at (files_listed f) c.args.k c.name.result.now m c.requires c.name.ensures c.member.ensures in (
      (λ e. record {
        name = subst IsFileName (sym (name_is f c.args.k c.name.result.now [] c.requires c.name.ensures)) (c.if-not-is_name.ensures.0 refl);
        rises = c.if-not-rises_at.ensures.0 refl;
        member = fits_some c.args.storages (files_listed f) c.args.k c.name.result.now m at (c.member_fits.ensures.0 e);
      }),
      (λ h. c.member_fits.ensures.1 (h.member (c.name.result.now, m) at)),
    )
