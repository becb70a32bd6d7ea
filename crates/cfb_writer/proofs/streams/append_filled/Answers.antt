use Rattle.std.proofs.Common.{◌-◌, ◌*◌, ℕ, length, ap}
use Rattle.std.specs.Prelude.{replicate}
use Rattle.carrier_model.specs.Layout.{pieces}
use Rattle.cfb_list.specs.Contents.{bytes_seen}
use Rattle.cfb_layout.specs.Versions.{sector_of}
use Rattle.cfb_writer.specs.Shares.{size_of}
use Rattle.cfb_writer.proofs.Going.{as_bytes}
use Rattle.carrier_io.proofs.Summed.{sums_first, sums_second}
use Rattle.cfb_writer.proofs.streams.append_filled.Goals as goal

pub returns-in_err-bytes : goal.returns-in_err-bytes
returns-in_err-bytes g c =
    let x = bytes_seen g.B.Blob.bytes c.args.content.now in
    sums_first (replicate {A = ℕ} (pieces (size_of c.args.share (sector_of c.args.version)) x * (size_of c.args.share (sector_of c.args.version)) - length x) 0) c.from_residual.ensures.0 c.in_err-bytes.ensures

pub returns-in_err-zeros : goal.returns-in_err-zeros
returns-in_err-zeros g c = sums_second c.from_residual-in_err-zeros.ensures.0 c.in_ok-bytes.ensures (as_bytes (ap (λ (n : ℕ). replicate {A = ℕ} n 0) c.count_missing.ensures) c.in_err-zeros.ensures)
