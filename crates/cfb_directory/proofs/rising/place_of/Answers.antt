use Rattle.std.proofs.Common.{◌<◌, ◌-◌, ◌/◌, ◌+◌, length, map, sym, arith}
use Rattle.std.proofs.lemmas.List.{length-map}
use Rattle.carrier_model.specs.Files.{folded}
use Rattle.cfb_directory.specs.Spelled.{names_in}
use Rattle.cfb_directory.proofs.RisingLaws.{order_at, all_below, all_above, found_place, none_left}
use Rattle.cfb_directory.proofs.rising.place_of.Goals as goal

pub loop-low-init : goal.loop-low-init
loop-low-init c = record {
  inside = omega (arith, c.len-high.ensures);
  below = λ i lt. absurd (omega (arith, lt));
  above = λ i over lt. absurd (omega (arith, over, rw (length-map (names_in c.args.names.now) folded) at lt, c.len-high.ensures));
}

pub loop-low-preserved-in-Less : goal.loop-low-preserved-in-Less
loop-low-preserved-in-Less c =
    let names = names_in c.args.names.now in
    let middle = c.loop-low.low + (c.loop-low.high - c.loop-low.low) / 2 in
    let inside : middle < length names = omega (arith, c.loop-low-test.true, c.loop-low.invariant.inside) in
    record {
      inside = c.loop-low.invariant.inside;
      below = all_below (map folded names) c.args.key.now middle c.requires (rw length-map inside) (order_at names middle _ c.args.key.now _ _ inside c.get.ensures c.key_order.ensures c.in-Less.is);
      above = c.loop-low.invariant.above;
    }

pub loop-low-preserved : goal.loop-low-preserved
loop-low-preserved c =
    let names = names_in c.args.names.now in
    let middle = c.loop-low.low + (c.loop-low.high - c.loop-low.low) / 2 in
    let inside : middle < length names = omega (arith, c.loop-low-test.true, c.loop-low.invariant.inside) in
    record {
      inside = omega (arith, inside);
      below = c.loop-low.invariant.below;
      above = all_above (map folded names) c.args.key.now middle c.requires (order_at names middle _ c.args.key.now _ _ inside c.get.ensures c.key_order.ensures c.in-Greater.is);
    }

pub returns-in-Equal : goal.returns-in-Equal
returns-in-Equal c =
    let names = names_in c.args.names.now in
    let middle = c.loop-low.low + (c.loop-low.high - c.loop-low.low) / 2 in
    let inside : middle < length names = omega (arith, c.loop-low-test.true, c.loop-low.invariant.inside) in
    sym (found_place (map folded names) c.args.key.now middle c.requires (rw length-map inside) (order_at names middle _ c.args.key.now _ _ inside c.get.ensures c.key_order.ensures c.in-Equal.is))

pub returns : goal.returns
returns c = sym (none_left (map folded (names_in c.args.names.now)) c.args.key.now c.loop-low.low c.loop-low.high c.loop-low-test.false c.loop-low.invariant.below c.loop-low.invariant.above)
