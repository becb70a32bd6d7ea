use Rattle.std.proofs.Common.{◌∙◌, ap}
use Rattle.std.specs.Prelude.{Err}
use Rattle.std.proofs.lemmas.Result.{err_from_is_err_and}
use Rattle.prop_values.specs.Kinds.{kind_number}
use Rattle.prop_values.specs.Meaning.{value_of}
use Rattle.tree_from_json.proofs.Shaped.{numbers_err}
use Rattle.tree_from_json.proofs.read_values.read_value.Goals as goal

pub returns-in_err-list-in-Numbers : goal.returns-in_err-list-in-Numbers
returns-in_err-list-in-Numbers c =
    let p = err_from_is_err_and c.from_residual-in_err-list-in-Numbers.result c.from_residual-in_err-list-in-Numbers.ensures.1 in
    numbers_err (value_of (λ v. v.items)) (kind_number c.args.kind) c.in-Numbers.width c.greatest.result _ _ _ c.in-Numbers.ensures.shape c.greatest.ensures c.in_err-list-in-Numbers.ensures (p.1 ∙ ap Err p.2)
