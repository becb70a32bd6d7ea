use Rattle.std.proofs.Common.{◌≡◌, ◌∙◌, arith, pos}
use Rattle.tnef_model.specs.Moments.{day_number}
use Rattle.tnef_attributes.proofs.DayLemmas.{until_is, count_is}
use Rattle.tnef_attributes.proofs.moments.days_to.Goals as goal

days_are : (c : goal.After-from) → (c.until.result ≡ pos (day_number c.args.year c.args.month c.args.day))
days_are c =
    let e = rw (c.to_plain.ensures, c.to_plain-2.ensures) at c.until.ensures.value in
    until_is c.args.year c.args.month c.args.day c.in-Ok.given c.date-first.result c.until.result (omega arith) (omega arith) (omega arith) (omega arith) c.in-Ok.ensures.value c.date-first.ensures e

pub returns-clause-value : goal.returns-clause-value
returns-clause-value c =
    let same : c.from.result ≡ c.unsigned_abs.result = c.from.ensures in
    same ∙ c.unsigned_abs.ensures.value ∙ (count_is c.until.result _ (days_are c) c.until.ensures.bound).0

pub returns-clause-bound : goal.returns-clause-bound
returns-clause-bound c =
    let value : c.from.result ≡ day_number c.args.year c.args.month c.args.day = returns-clause-value c in
    let small = (count_is c.until.result _ (days_are c) c.until.ensures.bound).1 in
    omega arith
