use Rattle.std.proofs.Common.{refl}
use Rattle.tnef_model.specs.TnefCanonical.{front, page_attribute}
use Rattle.carrier_io.proofs.Summed.{sums_both, sums_first, sums_second}
use Rattle.tnef_writer.proofs.write_message.append_start.Goals as goal

pub returns-in_err-front : goal.returns-in_err-front
returns-in_err-front g c = sums_first {x = front} (page_attribute c.args.props.now) c.from_residual.ensures.0 c.in_err-front.ensures

pub returns-in_err-page : goal.returns-in_err-page
returns-in_err-page g c = sums_second {x = front} c.from_residual-in_err-page.ensures.0 c.in_ok-front.ensures c.in_err-page.ensures

pub returns : goal.returns
returns g c = sums_both {x = front} _ refl c.in_ok-front.ensures c.in_ok-page.ensures
