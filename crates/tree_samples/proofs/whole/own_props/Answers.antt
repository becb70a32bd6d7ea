use Rattle.std.proofs.Common.{◌%◌, ◌∷◌, [], arith}
use Rattle.std.specs.Prelude.{codes}
use Rattle.carrier_model.specs.SmallTrees.{integer32, string_prop}
use Rattle.text_model.specs.SampleTrees.{named_prop}
use Rattle.text_model.specs.TreeTexts.{counted}
use Rattle.tree_samples.proofs.Made.{one_more, own_sorted}
use Rattle.tree_samples.proofs.whole.own_props.Goals as goal

pub loop-k-preserved : goal.loop-k-preserved
loop-k-preserved c = one_more (integer32 0x0017 (c.args.number % 3) ∷ string_prop 0x001A (codes "IPM.Note") ∷ string_prop 0x0037 (counted (codes "sample") c.args.number) ∷ []) named_prop c.loop-k.k c.loop-k.props.props c.push-in-loop-k.new.self.props c.named_number.result c.loop-k.invariant c.named_number.ensures c.in_ok-push-4.ensures.ok

pub in_order-requires : goal.in_order-requires
in_order-requires c = own_sorted c.args.number c.loop-k.k c.loop-k.props.props (omega arith) c.loop-k.invariant
