use Rattle.std.proofs.Common.{◌++◌, refl}
use Rattle.carrier_model.specs.Bytes.{le32}
use Rattle.tnef_model.specs.TnefCanonical.{tag_bytes}
use Rattle.carrier_model.specs.Kinds.{OBJECT}
use Rattle.tnef_writer.specs.Carried.{interface_of}
use Rattle.carrier_io.proofs.Summed.{sums_both, sums_first, sums_second}
use Rattle.tnef_writer.proofs.write_objects.append_head.Goals as goal

pub returns-in_err-tag : goal.returns-in_err-tag
returns-in_err-tag g c = sums_first {x = tag_bytes 0x3701 OBJECT ++ (le32 1 ++ le32 c.args.size)} (interface_of c.args.carried.now) c.from_residual.ensures.0 (rw c.le32-size.ensures at c.in_err-tag.ensures)

pub returns-in_err-interface : goal.returns-in_err-interface
returns-in_err-interface g c = sums_second {x = tag_bytes 0x3701 OBJECT ++ (le32 1 ++ le32 c.args.size)} {y = interface_of c.args.carried.now} c.from_residual-in_err-interface.ensures.0 (rw c.le32-size.ensures at c.in_ok-tag.ensures) (rw c.interface.ensures at c.in_err-interface.ensures)

pub returns : goal.returns
returns g c = sums_both {x = tag_bytes 0x3701 OBJECT ++ (le32 1 ++ le32 c.args.size)} {y = interface_of c.args.carried.now} _ refl (rw c.le32-size.ensures at c.in_ok-tag.ensures) (rw c.interface.ensures at c.in_ok-interface.ensures)
