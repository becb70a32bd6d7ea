use Rattle.std.proofs.Common.{ℕ, List, subst}
use Rattle.msg_tree.specs.Whole.{plain_of}
use Rattle.outlook_cli.specs.Outcome.{IsText}
use Rattle.outlook_cli.proofs.Samples.{told_is}
use Rattle.outlook_cli.proofs.sampling.write_sample.Goals as goal

pub returns-clause-told : goal.returns-clause-told
returns-clause-told g c =
    let is = told_is c.args.number (plain_of c.in-Ok.tree) c.in-Ok-forms_of.trip c.in-Ok.ensures c.in-Ok-forms_of.ensures in
    subst (λ (x : List ℕ). IsText x (g.O.Sink.held c.args.output.now) (g.O.Sink.held c.put_text.new.output) c.put_text.result) is c.put_text.ensures.told
