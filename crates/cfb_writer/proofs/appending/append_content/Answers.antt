use Rattle.std.proofs.Common.{ℕ}
use Rattle.std.specs.Prelude.{replicate}
use Rattle.carrier_io.proofs.Summed.{sums_first, sums_second}
use Rattle.cfb_writer.proofs.appending.append_content.Goals as goal

pub returns-in_err-value-in-Value : goal.returns-in_err-value-in-Value
returns-in_err-value-in-Value g c = rw c.in-Value.is (sums_first (replicate {A = ℕ} c.in-Value.zeros 0) c.from_residual.ensures.0 c.in_err-value-in-Value.ensures)

pub returns-in_err-padding-in-Value : goal.returns-in_err-padding-in-Value
returns-in_err-padding-in-Value g c = rw c.in-Value.is (sums_second c.from_residual-in_err-padding-in-Value.ensures.0 c.in_ok-value-in-Value.ensures (rw c.from.ensures at c.in_err-padding-in-Value.ensures))
