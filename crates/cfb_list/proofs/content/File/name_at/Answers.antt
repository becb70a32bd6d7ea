use Rattle.std.proofs.Common.{◌<◌, ◌++◌, ◌∙◌, ℕ, List, ap, arith, length}
use Rattle.carrier_model.specs.KeyTexts.{hex_digits, upper}
use Rattle.cfb_list.proofs.Rows.{row_count, row_named}
use Rattle.cfb_list.proofs.content.File.name_at.Goals as goal

pub returns-in-Row : goal.returns-in-Row
returns-in-Row g c =
    let of = g.B.Blob.bytes in
    let lt : c.args.number < length c.in-Row.list.now = omega (arith, c.if-number-count.false, c.count.ensures, row_count of c.args.self.now c.in-Row.front c.in-Row.list c.in-Row.zeros c.in-Row.is) in
    ap (λ (front : List ℕ). front ++ hex_digits upper 8 c.args.number) c.deref.ensures.value
    ∙ row_named of c.args.self.now c.in-Row.front c.in-Row.list c.in-Row.zeros c.in-Row.is c.args.number lt
