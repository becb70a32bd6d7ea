use Rattle.std.proofs.Common.{rules, refl}
use Rattle.std.proofs.lemmas.Result.{IfOk-weaker}
use Rattle.msg_nameid.proofs.TextSteps.{few_units}
use Rattle.msg_nameid.proofs.texts.units_at.Goals as goal

pub returns-clause-units : goal.returns-clause-units
returns-clause-units c = search rules

pub returns-clause-few : goal.returns-clause-few
returns-clause-few c =
    IfOk-weaker c.units_of_bytes.result _ _ (λ units is. few_units _ _ units c.args.size refl c.requires.few is) (returns-clause-units c)
