use Rattle.tree_text8.proofs.Runs.{low_mapped}
use Rattle.tree_text8.proofs.singles.push_front.Goals as goal

pub returns-then-run-gt0-clause-some : goal.returns-then-run-gt0-clause-some
returns-then-run-gt0-clause-some c = (c.if-run-gt0.true, c.ascii_run-run.ensures.within, low_mapped c.args.page c.ascii_run-run.result c.args.rest.now c.args.wide.now.items c.push_same.new.wide.items c.ascii_run-run.ensures.within c.ascii_run-run.ensures.ascii c.in_ok-push_same.ensures)
