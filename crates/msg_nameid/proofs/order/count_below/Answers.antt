use Rattle.std.proofs.Common.{◌≡◌, ◌∙◌, ◌<◌, length, true, false, map, sym, ap, arith}
use Rattle.std.specs.Ordering.{is_lt}
use Rattle.std.proofs.lemmas.List.{length-map}
use Rattle.carrier_model.specs.Keys.{name_cmp}
use Rattle.msg_model.specs.NameMap.{Pair}
use Rattle.prop_names.specs.Meaning.{name_of}
use Rattle.msg_nameid.specs.Maps.{pair_of}
use Rattle.msg_nameid.specs.Orders.{pair_at}
use Rattle.msg_nameid.proofs.OrderLaws.{all_below, all_above}
use Rattle.msg_nameid.proofs.order.count_below.Goals as goal

pub loop-low-preserved-then-is_lt : goal.loop-low-preserved-then-is_lt
loop-low-preserved-then-is_lt c =
    let pairs = map pair_of c.args.entries.now in
    let name = name_of c.args.name.now in
    let l = c.loop-low in
    let m = c.probe-place.result in
    let within : m < length pairs = omega (arith, c.loop-low-test.true, l.invariant.within, length-map c.args.entries.now pair_of) in
    let below : is_lt (name_cmp (pair_at pairs m).1 name) ≡ true =
    ap (λ (p : Pair). is_lt (name_cmp p.1 name)) (sym c.nth.ensures) ∙ (ap is_lt (sym c.order.ensures.order) ∙ (sym c.is_lt.ensures ∙ c.if-is_lt.true)) in
    record {
      ordered = omega arith;
      within = l.invariant.within;
      below = λ k lt. all_below pairs c.requires name m k within below lt;
      above = l.invariant.above;
    }

pub loop-low-preserved : goal.loop-low-preserved
loop-low-preserved c =
    let pairs = map pair_of c.args.entries.now in
    let name = name_of c.args.name.now in
    let l = c.loop-low in
    let m = c.probe-place.result in
    let above : is_lt (name_cmp (pair_at pairs m).1 name) ≡ false =
    ap (λ (p : Pair). is_lt (name_cmp p.1 name)) (sym c.nth.ensures) ∙ (ap is_lt (sym c.order.ensures.order) ∙ (sym c.is_lt.ensures ∙ c.if-is_lt.false)) in
    record {
      ordered = omega arith;
      within = omega (arith, c.loop-low-test.true, l.invariant.within);
      below = l.invariant.below;
      above = λ k le lt. all_above pairs c.requires name m k above le (omega (arith, lt, length-map c.args.entries.now pair_of));
    }
