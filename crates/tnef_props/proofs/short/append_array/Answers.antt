use Rattle.carrier_io.proofs.Summed.{sums_written, sums_unwritten}
use Rattle.tnef_props.proofs.short.append_array.Goals as goal

pub returns-in_err-write_pieces : goal.returns-in_err-write_pieces
returns-in_err-write_pieces g c = sums_unwritten c.from_residual.ensures.0 c.in_err-write_pieces.ensures

pub returns : goal.returns
returns g c = sums_written c.in_ok-write_pieces.ensures c.sum_of.ensures
