use Rattle.carrier_model.specs.Values.{Prop}
use Rattle.text_model.specs.TreeTexts.{line, prop_text}
use Rattle.tree_texts.proofs.Lists.{next_text}
use Rattle.tree_texts.proofs.Partly.{partly_more, partly_stops}
use Rattle.tree_texts.proofs.props.write_props.Goals as goal

pub returns-in_err-write_prop_line : goal.returns-in_err-write_prop_line
returns-in_err-write_prop_line g c = partly_stops _ _ (next_text (λ (p : Prop). line c.args.indent (prop_text p)) c.args.props.now c.loop-k.k _ c.get.ensures) c.from_residual.ensures.0 c.loop-k.invariant c.in_err-write_prop_line.ensures

pub loop-k-preserved : goal.loop-k-preserved
loop-k-preserved g c = partly_more _ _ (next_text (λ (p : Prop). line c.args.indent (prop_text p)) c.args.props.now c.loop-k.k _ c.get.ensures) c.loop-k.invariant c.in_ok-write_prop_line.ensures
