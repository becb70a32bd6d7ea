use Rattle.std.proofs.Common.{map}
use Rattle.json_model.specs.Texts.{name_json}
use Rattle.json_writer.proofs.Counted.{andthen, failing, counts_as}
use Rattle.tree_json.specs.Paths.{names_in}
use Rattle.tree_json.proofs.Lists.{listed_text}
use Rattle.tree_json.proofs.paths.write_path.Goals as goal

pub returns-in_err-append : goal.returns-in_err-append
returns-in_err-append g c = counts_as _ (listed_text (map name_json (names_in c.args.path.now))) (failing _ c.from_residual.ensures.0 c.in_err-append.ensures)

pub returns-in_err-write_names : goal.returns-in_err-write_names
returns-in_err-write_names g c = counts_as _ (listed_text (map name_json (names_in c.args.path.now))) (andthen c.in_ok-append.ensures (failing _ c.from_residual-in_err-write_names.ensures.0 c.in_err-write_names.ensures))

pub returns : goal.returns
returns g c = counts_as _ (listed_text (map name_json (names_in c.args.path.now))) (andthen c.in_ok-append.ensures (andthen c.in_ok-write_names.ensures c.append-2.ensures))
