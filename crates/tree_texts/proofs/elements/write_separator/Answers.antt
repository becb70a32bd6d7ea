use Rattle.std.proofs.Common.{◌<◌, ap, sym, arith}
use Rattle.carrier_io.proofs.Known.{did_nothing, done}
use Rattle.tree_texts.specs.Elements.{separator}
use Rattle.tree_texts.proofs.Lists.{some_separator}
use Rattle.tree_texts.proofs.Partly.{writes_as}
use Rattle.tree_texts.proofs.elements.write_separator.Goals as goal

pub returns-then-k-eq0 : goal.returns-then-k-eq0
returns-then-k-eq0 g c = writes_as _ (ap separator (sym c.if-k-eq0.true)) (done _ _ _ _ _ (did_nothing _ _))

pub returns : goal.returns
returns g c =
    let some : 0 < c.args.k = omega (arith, c.if-k-eq0.false) in
    writes_as _ (some_separator c.args.k some) c.write_pieces.ensures
