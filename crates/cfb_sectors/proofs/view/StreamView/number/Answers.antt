use Rattle.std.proofs.Common.{◌≡◌, ◌<◌, ◌+◌, get_or, ◌-◌, suc, sym, ◌∙◌, arith, min}
use Rattle.carrier_model.proofs.ViewLaws.{room-next}
use Rattle.std.proofs.lemmas.List.{length-take}
use Rattle.cfb_sectors.proofs.PartLaws.{copied_byte, number_more}
use Rattle.cfb_sectors.specs.Seen.{bytes_of}
use Rattle.cfb_sectors.proofs.view.StreamView.number.Goals as goal

pub overflow_mul-value : goal.overflow_mul-value
overflow_mul-value c = let few = room-next c.loop-i.i (omega arith) in omega (arith, few)

pub overflow_add-value : goal.overflow_add-value
overflow_add-value c =
    let few = room-next c.loop-i.i (omega arith) in
    let fits = c.loop-i-test.element_fits.fits in
    let small : c.from.result < 256 = rw c.from.ensures fits in
    omega (arith, few, small, c.loop-i.invariant.small)

pub loop-i-preserved : goal.loop-i-preserved
loop-i-preserved c =
    let s = bytes_of c.args.self.now in
    let i = c.loop-i.i in
    let at = c.args.at + (c.args.width - (i + 1)) in
    let small : c.from.result < 256 = rw c.from.ensures c.loop-i-test.element_fits.fits in
    let count : min c.args.width 8 ≡ c.args.width = omega (arith, c.requires.few) in
    let copied = rw count at (simp (length-take) at c.copy_range.ensures) in
    let here : c.from.result ≡ get_or s at 0 = c.from.ensures ∙ copied_byte s c.copy_range.new.into _ c.args.at (c.args.width - 1 - i) at c.args.width _ copied (omega arith) c.requires.inside (omega arith) in
    let next : at + 1 ≡ c.args.at + (c.args.width - i) = omega arith in
    record {
      small = let one : i + 1 ≡ suc i = omega arith in rw one (omega (arith, small, c.loop-i.invariant.small));
      so_far = number_more s at _ i c.loop-i.value c.from.result here (sym next) c.loop-i.invariant.so_far;
    }
