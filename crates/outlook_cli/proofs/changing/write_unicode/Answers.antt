use Rattle.std.proofs.Common.{sym}
use Rattle.msg_tree.specs.Whole.{plain_of}
use Rattle.text8_model.proofs.TreeLaws.{unicode_means}
use Rattle.outlook_cli.proofs.Outcomes.{unmapped_told}
use Rattle.outlook_cli.proofs.changing.write_unicode.Goals as goal

pub returns-in-Ok-clause-puts : goal.returns-in-Ok-clause-puts
returns-in-Ok-clause-puts g c =
    let is = unicode_means (plain_of c.args.tree) (plain_of c.in-Ok.unicode) c.in-Ok.ensures.ok in
    λ bytes. rw (is.0, sym is.1) (c.write_file.ensures.puts bytes)

pub returns-in-Err-clause-puts : goal.returns-in-Err-clause-puts
returns-in-Err-clause-puts g c = λ bytes. rw c.without_unicode.ensures (unmapped_told (plain_of c.args.tree) c.in-Err.end bytes _ _ c.in-Err.ensures.first)
