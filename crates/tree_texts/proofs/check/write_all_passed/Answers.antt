use Rattle.text_model.specs.TreeTexts.{passed_line}
use Rattle.tree_texts.proofs.Lists.{next_text}
use Rattle.tree_texts.proofs.Partly.{partly_more, partly_stops}
use Rattle.tree_texts.proofs.check.write_all_passed.Goals as goal

pub returns-in_err-write_passed : goal.returns-in_err-write_passed
returns-in_err-write_passed g c = partly_stops _ _ (next_text passed_line c.args.passed.now c.loop-k.k _ c.get.ensures) c.from_residual.ensures.0 c.loop-k.invariant c.in_err-write_passed.ensures

pub loop-k-preserved : goal.loop-k-preserved
loop-k-preserved g c = partly_more _ _ (next_text passed_line c.args.passed.now c.loop-k.k _ c.get.ensures) c.loop-k.invariant c.in_ok-write_passed.ensures
