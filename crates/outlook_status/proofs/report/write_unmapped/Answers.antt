use Rattle.std.proofs.Common.{◌++◌, sym}
use Rattle.std.specs.Prelude.{codes}
use Rattle.carrier_io.proofs.Known.{andthen, failing}
use Rattle.outlook_status.proofs.Snags.{unmapped_is}
use Rattle.text_model.specs.TreeTexts.{line, counted}
use Rattle.tree_text8.specs.Meaning.{unmapped_of}
use Rattle.outlook_status.proofs.report.write_unmapped.Goals as goal

pub returns-in_err-write_pieces : goal.returns-in_err-write_pieces
returns-in_err-write_pieces g c =
    let x = unmapped_of c.args.unmapped in
    let w = rw c.why_unmapped.ensures at c.in_err-write_pieces.ensures in
    rw (sym (unmapped_is x)) (failing (counted (codes " property") x.property ++ (counted (codes " element") x.element ++ (counted (codes " at") x.at ++ line 0 (counted (codes " page") x.page)))) c.from_residual.ensures.0 w)

pub returns-in_err-write_counted : goal.returns-in_err-write_counted
returns-in_err-write_counted g c =
    let x = unmapped_of c.args.unmapped in
    let w = rw c.why_unmapped.ensures at c.in_ok-write_pieces.ensures in
    rw (sym (unmapped_is x)) (andthen w (failing (counted (codes " element") x.element ++ (counted (codes " at") x.at ++ line 0 (counted (codes " page") x.page))) c.from_residual-in_err-write_counted.ensures.0 c.in_err-write_counted.ensures))

pub returns-in_err-write_counted-2 : goal.returns-in_err-write_counted-2
returns-in_err-write_counted-2 g c =
    let x = unmapped_of c.args.unmapped in
    let w = rw c.why_unmapped.ensures at c.in_ok-write_pieces.ensures in
    rw (sym (unmapped_is x)) (andthen w (andthen c.in_ok-write_counted.ensures (failing (counted (codes " at") x.at ++ line 0 (counted (codes " page") x.page)) c.from_residual-in_err-write_counted-2.ensures.0 c.in_err-write_counted-2.ensures)))

pub returns-in_err-write_counted-3 : goal.returns-in_err-write_counted-3
returns-in_err-write_counted-3 g c =
    let x = unmapped_of c.args.unmapped in
    let w = rw c.why_unmapped.ensures at c.in_ok-write_pieces.ensures in
    rw (sym (unmapped_is x)) (andthen w (andthen c.in_ok-write_counted.ensures (andthen c.in_ok-write_counted-2.ensures (failing (line 0 (counted (codes " page") x.page)) c.from_residual-in_err-write_counted-3.ensures.0 c.in_err-write_counted-3.ensures))))

pub returns : goal.returns
returns g c =
    let x = unmapped_of c.args.unmapped in
    let w = rw c.why_unmapped.ensures at c.in_ok-write_pieces.ensures in
    rw (sym (unmapped_is x)) (andthen w (andthen c.in_ok-write_counted.ensures (andthen c.in_ok-write_counted-2.ensures (andthen c.in_ok-write_counted-3.ensures (rw c.from.ensures at c.write_count.ensures)))))
