use Rattle.std.proofs.Common.{◌≡◌, ◌%◌, ℕ, zero, suc, refl, arith}
use Rattle.std.specs.Prelude.{replicate, sum}
use Rattle.std.proofs.lemmas.List.{take-replicate}
use Rattle.carrier_io.proofs.Summed.{sums_written, sums_unwritten}
use Rattle.tnef_props.proofs.short.append_few_zeros.Goals as goal

sum_of_zeros : (count : ℕ) → 0 ≡ sum (replicate {A = ℕ} count 0) % 65536
sum_of_zeros zero = refl
sum_of_zeros (suc count) = sum_of_zeros count

pub returns-in_err-write_pieces : goal.returns-in_err-write_pieces
returns-in_err-write_pieces g c = sums_unwritten c.from_residual.ensures.0 (rw (take-replicate {X = ℕ} c.args.count 8 0 (omega (arith, c.requires))) at c.in_err-write_pieces.ensures)

pub returns : goal.returns
returns g c = sums_written (rw (take-replicate {X = ℕ} c.args.count 8 0 (omega (arith, c.requires))) at c.in_ok-write_pieces.ensures) (sum_of_zeros c.args.count)
