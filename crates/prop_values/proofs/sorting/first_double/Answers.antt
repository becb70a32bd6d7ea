use Rattle.std.proofs.Common.{◌≡◌, ◌-◌, true, false, refl, sym, ◌∙◌, arith}
use Rattle.std.specs.declared.cmp.Ordering.TheVariants.{Equal}
use Rattle.prop_values.proofs.Doubles.{least_lower, least_kept, least_of_all}
use Rattle.prop_values.proofs.Spots.{not_equal}
use Rattle.prop_values.proofs.sorting.first_double.Goals as goal
use Rattle.prop_values.proofs.sorting.first_double.Goals.{then-is_double, else-is_double}

pub loop-k-preserved : goal.loop-k-preserved
loop-k-preserved g c = elim c.if-is_double.branch [
  | then-is_double w ↦ rw (w.first-is, w.min.ensures, w.unwrap_or.ensures) (least_lower c.args.spots.now (λ s. s.prop.now) (λ s. s.place) c.loop-k.k c.index-spots-k.result c.index-spots-k-in-loop-k.result c.loop-k.auto.k c.loop-k-test.true c.loop-k.first c.loop-k.invariant Equal (rw (← c.index-spots-k.is, ← c.index-spots-k-in-loop-k.is) (sym (c.is_double.ensures.0 w.if-is_double.true).1)) refl w.index-spots-k-then-is_double.result)
  | else-is_double w ↦ rw w.first-is (least_kept c.args.spots.now (λ s. s.prop.now) (λ s. s.place) c.loop-k.k c.index-spots-k.result c.index-spots-k-in-loop-k.result c.loop-k.auto.k c.loop-k-test.true c.loop-k.first c.loop-k.invariant _ refl
      (not_equal (λ s. s.prop.now) (λ s. s.rank) (λ s. s.place) c.args.spots.now (c.loop-k.k - 1) c.loop-k.k c.index-spots-k.result c.index-spots-k-in-loop-k.result c.requires (omega (arith, c.loop-k-test.true)) c.loop-k-test.true
      (rw (← c.index-spots-k.is, ← c.index-spots-k-in-loop-k.is) (λ h. let both : true ≡ false = sym (c.is_double.ensures.1 h) ∙ w.if-is_double.false in cc))))
]

pub returns : goal.returns
returns g c = least_of_all c.args.spots.now (λ s. s.prop.now) (λ s. s.place) c.loop-k.k c.loop-k.first c.loop-k-test.false c.loop-k.invariant
