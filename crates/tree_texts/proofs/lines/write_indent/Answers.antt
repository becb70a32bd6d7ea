use Rattle.std.proofs.Common.{◌≤◌, ℕ, arith}
use Rattle.std.proofs.lemmas.List.{take-replicate}
use Rattle.tree_texts.proofs.lines.write_indent.Goals as goal

pub returns : goal.returns
returns g c =
    let few : c.args.indent ≤ 160 = omega arith in
    rw (take-replicate {X = ℕ} c.args.indent 160 0x20 few) at c.write_pieces.ensures
