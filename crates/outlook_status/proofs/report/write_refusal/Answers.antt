use Rattle.std.proofs.Common.{◌++◌, [], ◌∷◌, sym}
use Rattle.std.specs.Prelude.{codes, decimal}
use Rattle.carrier_io.specs.Reasons.{name_of}
use Rattle.carrier_io.proofs.Known.{andthen, failing}
use Rattle.outlook_status.proofs.Lines.{refusal_is}
use Rattle.outlook_status.proofs.report.write_refusal.Goals as goal

pub returns-in_err-write_counted : goal.returns-in_err-write_counted
returns-in_err-write_counted g c =
    let f = c.args.fault in
    let w = rw (c.from.ensures, c.number.ensures) at c.in_err-write_counted.ensures in
    rw (sym (refusal_is f)) (failing ((codes " " ++ (name_of f.reason ++ codes " at ")) ++ (decimal f.offset ++ 10 ∷ [])) c.from_residual.ensures.0 w)

pub returns-in_err-write_parts : goal.returns-in_err-write_parts
returns-in_err-write_parts g c =
    let f = c.args.fault in
    let w = rw (c.from.ensures, c.number.ensures) at c.in_ok-write_counted.ensures in
    let n = rw (c.as_bytes.ensures.value, c.name.ensures) at c.in_err-write_parts.ensures in
    rw (sym (refusal_is f)) (andthen w (failing (decimal f.offset ++ 10 ∷ []) c.from_residual-in_err-write_parts.ensures.0 n))

pub returns-in_err-write_decimal : goal.returns-in_err-write_decimal
returns-in_err-write_decimal g c =
    let f = c.args.fault in
    let w = rw (c.from.ensures, c.number.ensures) at c.in_ok-write_counted.ensures in
    let n = rw (c.as_bytes.ensures.value, c.name.ensures) at c.in_ok-write_parts.ensures in
    rw (sym (refusal_is f)) (andthen w (andthen n (failing (10 ∷ []) c.from_residual-in_err-write_decimal.ensures.0 c.in_err-write_decimal.ensures)))

pub returns : goal.returns
returns g c =
    let f = c.args.fault in
    let w = rw (c.from.ensures, c.number.ensures) at c.in_ok-write_counted.ensures in
    let n = rw (c.as_bytes.ensures.value, c.name.ensures) at c.in_ok-write_parts.ensures in
    rw (sym (refusal_is f)) (andthen w (andthen n (andthen c.in_ok-write_decimal.ensures c.write_pieces.ensures)))
