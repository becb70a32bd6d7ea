use Rattle.std.proofs.Common.{◌++◌, Err, refl}
use Rattle.carrier_io.specs.declared.failures.Failed.{Failed}
use Rattle.carrier_model.specs.Bytes.{le16, sum16}
use Rattle.carrier_io.proofs.Summed.{sums_both, sums_first, sums_second}
use Rattle.tnef_writer.proofs.write_attributes.append_attribute.Goals as goal

pub returns-in_err-head : goal.returns-in_err-head
returns-in_err-head g c =
    let x = c.args.value.now in
    sums_first (x ++ le16 (sum16 x)) c.from_residual.ensures.0 (rw c.attribute_head.ensures at c.in_err-head.ensures)

pub returns-in_err-content : goal.returns-in_err-content
returns-in_err-content g c =
    let x = c.args.value.now in
    let head = rw c.attribute_head.ensures at c.in_ok-head.ensures in
    sums_second c.from_residual-in_err-content.ensures.0 head (sums_first {r = Err c.in_err-content.field-0.0} (le16 (sum16 x)) refl c.in_err-content.ensures)

pub returns-in_err-sum : goal.returns-in_err-sum
returns-in_err-sum g c =
    let head = rw c.attribute_head.ensures at c.in_ok-head.ensures in
    let tail = rw (c.le16.ensures, c.in_ok-content.ensures.sum) at c.in_err-sum.ensures in
    sums_second c.from_residual-in_err-sum.ensures.0 head (sums_second {r = Err c.in_err-sum.field-0.0} refl c.in_ok-content.ensures tail)

pub returns : goal.returns
returns g c =
    let head = rw c.attribute_head.ensures at c.in_ok-head.ensures in
    let tail = rw (c.le16.ensures, c.in_ok-content.ensures.sum) at c.in_ok-sum.ensures in
    sums_both {F = Failed} _ refl head (sums_both _ refl c.in_ok-content.ensures tail)
