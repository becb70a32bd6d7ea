use Rattle.std.proofs.Common.{[], ◌∷◌, ◌++◌}
use Rattle.std.specs.Prelude.{None}
use Rattle.carrier_model.specs.Bytes.{units_of}
use Rattle.json_writer.specs.Units.{units_text}
use Rattle.json_writer.proofs.Counted.{andthen, failing}
use Rattle.json_writer.proofs.texts.append_quoted.Goals as goal

pub returns-in_err-append : goal.returns-in_err-append
returns-in_err-append g c = failing (units_text None (units_of (g.T.Utf16Bytes.bytes c.args.text.now)) ++ 34 ∷ []) c.from_residual.ensures.0 c.in_err-append.ensures

pub returns-in_err-append_decoded : goal.returns-in_err-append_decoded
returns-in_err-append_decoded g c = andthen c.in_ok-append.ensures (failing (34 ∷ []) c.from_residual-in_err-append_decoded.ensures.0 (rw (c.new.ensures.low, c.new.ensures.high) at c.in_err-append_decoded.ensures))

pub returns : goal.returns
returns g c = andthen c.in_ok-append.ensures (andthen (rw (c.new.ensures.low, c.new.ensures.high) at c.in_ok-append_decoded.ensures) c.append-2.ensures)
