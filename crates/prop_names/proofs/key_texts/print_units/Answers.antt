use Rattle.carrier_model.specs.KeyTexts.{unit_text}
use Rattle.carrier_io.proofs.Known.{loop_exits}
use Rattle.prop_names.proofs.key_texts.print_units.Goals as goal

pub returns-in_err-print_unit : goal.returns-in_err-print_unit
returns-in_err-print_unit g c =
    loop_exits unit_text _ _ _ _ _ _ c.from_residual.result c.in_err-print_unit.field-0.0 c.args.units.now c.loop-unit.unit-index _ c.loop-unit-test.true c.from_residual.ensures.0 c.loop-unit.invariant c.in_err-print_unit.ensures
