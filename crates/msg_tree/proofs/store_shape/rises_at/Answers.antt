use Rattle.std.proofs.Common.{◌≡◌, ◌∙◌, ◌+◌, ◌-◌, sym, refl, arith}
use Rattle.std.specs.declared.cmp.Ordering.TheVariants.{Less, Equal, Greater}
use Rattle.msg_tree.specs.StoreMeaning.{store_of}
use Rattle.msg_tree.proofs.Shaped.{rising_names}
use Rattle.msg_tree.proofs.store_shape.rises_at.Goals as goal

pub returns-in-Less : goal.returns-in-Less
returns-in-Less g c =
    let f = (store_of g.B.Blob.bytes c.args.store.now).members in (
      (λ e i is. rising_names f c.args.k i c.name.result.now c.name-2.result.now is c.requires c.name.ensures c.name-2.ensures ∙ sym c.in-Less.ensures),
      (λ h. refl),
    )

pub returns-in-Equal : goal.returns-in-Equal
returns-in-Equal g c =
    let f = (store_of g.B.Blob.bytes c.args.store.now).members in (
      (λ e. absurd cc),
      (λ h. (let is : c.args.k ≡ (c.args.k - 1) + 1 = omega (arith, c.if-k-eq0.false) in let wrong : Less ≡ Equal = sym (h (c.args.k - 1) is) ∙ (rising_names f c.args.k (c.args.k - 1) c.name.result.now c.name-2.result.now is c.requires c.name.ensures c.name-2.ensures ∙ sym c.in-Equal.ensures) in absurd cc)),
    )

pub returns-in-Greater : goal.returns-in-Greater
returns-in-Greater g c =
    let f = (store_of g.B.Blob.bytes c.args.store.now).members in (
      (λ e. absurd cc),
      (λ h. (let is : c.args.k ≡ (c.args.k - 1) + 1 = omega (arith, c.if-k-eq0.false) in let wrong : Less ≡ Greater = sym (h (c.args.k - 1) is) ∙ (rising_names f c.args.k (c.args.k - 1) c.name.result.now c.name-2.result.now is c.requires c.name.ensures c.name-2.ensures ∙ sym c.in-Greater.ensures) in absurd cc)),
    )
