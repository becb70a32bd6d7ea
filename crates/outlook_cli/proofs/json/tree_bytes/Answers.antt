use Rattle.msg_tree.specs.Whole.{plain_of}
use Rattle.outlook_cli.proofs.Outcomes.{tree_told}
use Rattle.outlook_cli.proofs.json.tree_bytes.Goals as goal

pub returns-in-Ok-clause-told : goal.returns-in-Ok-clause-told
returns-in-Ok-clause-told g c = tree_told c.args.bytes.now _ _ c.write_file.result (plain_of c.in-Ok.tree) c.requires c.in-Ok.ensures.tree (c.write_file.ensures.puts c.args.bytes.now)
