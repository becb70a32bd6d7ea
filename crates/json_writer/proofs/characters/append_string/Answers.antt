use Rattle.std.proofs.Common.{[], ◌∷◌, ◌++◌}
use Rattle.json.specs.Print.{escape}
use Rattle.json_writer.proofs.Counted.{andthen, failing}
use Rattle.json_writer.proofs.characters.append_string.Goals as goal

pub returns-in_err-append : goal.returns-in_err-append
returns-in_err-append g c = failing (escape c.args.text.now ++ 34 ∷ []) c.from_residual.ensures.0 c.in_err-append.ensures

pub returns-in_err-append_escaped : goal.returns-in_err-append_escaped
returns-in_err-append_escaped g c = andthen c.in_ok-append.ensures (failing (34 ∷ []) c.from_residual-in_err-append_escaped.ensures.0 c.in_err-append_escaped.ensures)

pub returns : goal.returns
returns g c = andthen c.in_ok-append.ensures (andthen c.in_ok-append_escaped.ensures c.append-2.ensures)
