use Rattle.std.proofs.Common.{◌<◌, length, refl, arith}
use Rattle.tnef_model.specs.TnefCanonical.{props_bytes}
use Rattle.carrier_io.proofs.Summed.{sums_both, sums_first, sums_second}
use Rattle.tnef_writer.proofs.StreamParts.{props_few, whole}
use Rattle.tnef_writer.proofs.write_lists.append_list.Goals as goal

pub returns-in_err-count : goal.returns-in_err-count
returns-in_err-count g c =
    let props = c.args.props.now in
    let few : length props < 4294967296 = omega (arith, c.requires.fits, props_few c.args.names.now props) in
    sums_first (props_bytes c.args.names.now props) c.from_residual.ensures.0 (rw (c.le32.ensures, c.len.ensures) at c.in_err-count.ensures)

pub returns-in_err-list : goal.returns-in_err-list
returns-in_err-list g c =
    let props = c.args.props.now in
    let all = whole c.len-2.result props (omega (arith, c.len-2.ensures)) in
    sums_second c.from_residual-in_err-list.ensures.0 (rw (c.le32.ensures, c.len.ensures) at c.in_ok-count.ensures) (rw all at c.in_err-list.ensures)

pub returns : goal.returns
returns g c =
    let props = c.args.props.now in
    let all = whole c.len-2.result props (omega (arith, c.len-2.ensures)) in
    sums_both _ refl (rw (c.le32.ensures, c.len.ensures) at c.in_ok-count.ensures) (rw all at c.in_ok-list.ensures)

pub overflow_cast-len : goal.overflow_cast-len
overflow_cast-len g c = omega (arith, c.requires.fits, c.len.ensures, props_few c.args.names.now c.args.props.now)
