use Rattle.std.proofs.Common.{◌≡◌, ◌++◌, Err, length, refl, arith}
use Rattle.carrier_io.specs.declared.failures.Failed.{Failed}
use Rattle.carrier_model.specs.Bytes.{le16, sum16}
use Rattle.tnef_writer.specs.Written.{content_bytes}
use Rattle.carrier_io.proofs.Summed.{sums_both, sums_first, sums_second}
use Rattle.tnef_writer.proofs.write_lists.append_filled.Goals as goal

pub returns-in_err-head : goal.returns-in_err-head
returns-in_err-head g c =
    let x = content_bytes c.args.names.now c.args.content.now in
    let size : c.content_size-size.result ≡ length x = omega (arith, c.requires.fits, c.content_size-size.ensures c.args.names.now) in
    sums_first (x ++ le16 (sum16 x)) c.from_residual.ensures.0 (rw (c.attribute_head.ensures, size) at c.in_err-head.ensures)

pub returns-in_err-value : goal.returns-in_err-value
returns-in_err-value g c =
    let x = content_bytes c.args.names.now c.args.content.now in
    let size : c.content_size-size.result ≡ length x = omega (arith, c.requires.fits, c.content_size-size.ensures c.args.names.now) in
    let head = rw (c.attribute_head.ensures, size) at c.in_ok-head.ensures in
    sums_second c.from_residual-in_err-value.ensures.0 head (sums_first {r = Err c.in_err-value.field-0.0} (le16 (sum16 x)) refl c.in_err-value.ensures)

pub returns-in_err-sum : goal.returns-in_err-sum
returns-in_err-sum g c =
    let x = content_bytes c.args.names.now c.args.content.now in
    let size : c.content_size-size.result ≡ length x = omega (arith, c.requires.fits, c.content_size-size.ensures c.args.names.now) in
    let head = rw (c.attribute_head.ensures, size) at c.in_ok-head.ensures in
    let tail = rw (c.le16.ensures, c.in_ok-value.ensures.sum) at c.in_err-sum.ensures in
    sums_second c.from_residual-in_err-sum.ensures.0 head (sums_second {r = Err c.in_err-sum.field-0.0} refl c.in_ok-value.ensures tail)

pub returns : goal.returns
returns g c =
    let x = content_bytes c.args.names.now c.args.content.now in
    let size : c.content_size-size.result ≡ length x = omega (arith, c.requires.fits, c.content_size-size.ensures c.args.names.now) in
    let head = rw (c.attribute_head.ensures, size) at c.in_ok-head.ensures in
    let tail = rw (c.le16.ensures, c.in_ok-value.ensures.sum) at c.in_ok-sum.ensures in
    sums_both {F = Failed} _ refl head (sums_both _ refl c.in_ok-value.ensures tail)
