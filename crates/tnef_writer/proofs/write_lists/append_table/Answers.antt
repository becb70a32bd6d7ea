use Rattle.std.proofs.Common.{refl, arith}
use Rattle.std.specs.List.{flat_map}
use Rattle.tnef_writer.specs.Written.{list_alone}
use Rattle.carrier_io.proofs.Summed.{sums_both, sums_first, sums_second}
use Rattle.tnef_writer.proofs.StreamParts.{lists_few}
use Rattle.tnef_writer.proofs.write_lists.append_table.Goals as goal

pub returns-in_err-count : goal.returns-in_err-count
returns-in_err-count g c = sums_first (flat_map (list_alone c.args.names.now) c.args.recipients.now) c.from_residual.ensures.0 (rw (c.le32.ensures, c.len.ensures) at c.in_err-count.ensures)

pub returns-in_err-lists : goal.returns-in_err-lists
returns-in_err-lists g c = sums_second c.from_residual-in_err-lists.ensures.0 (rw (c.le32.ensures, c.len.ensures) at c.in_ok-count.ensures) c.in_err-lists.ensures

pub returns : goal.returns
returns g c = sums_both _ refl (rw (c.le32.ensures, c.len.ensures) at c.in_ok-count.ensures) c.in_ok-lists.ensures

pub overflow_cast-len : goal.overflow_cast-len
overflow_cast-len g c = omega (arith, c.requires.fits, c.len.ensures, lists_few c.args.names.now c.args.recipients.now)
