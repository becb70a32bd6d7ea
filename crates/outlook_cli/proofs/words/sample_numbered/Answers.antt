use Rattle.std.proofs.Common.{◌≡◌, ℕ, ◌<◌, List, length, rules, sym, subst, Some, None}
use Rattle.job_model.specs.Commands as plain
use Rattle.job_model.specs.Commands.{sample_of}
use Rattle.outlook_cli.proofs.Numbers.{few_enough, too_great, no_digits, at_most_one}
use Rattle.outlook_cli.proofs.words.sample_numbered.Goals as goal

pub returns-then-number-le-GREATEST_SAMPLE-clause-seen : goal.returns-then-number-le-GREATEST_SAMPLE-clause-seen
returns-then-number-le-GREATEST_SAMPLE-clause-seen c =
    let d = c.as_bytes-digits.result.now in
    let e = c.as_bytes-digits.ensures.value in
    let some : 0 < length d = search rules in
    let h = c.parse.ensures.value.0 in
    let k = rw (sym e) at h in
    sym (subst (λ (x : List ℕ). sample_of x ≡ Some (plain.sample c.in-Ok.number)) e (few_enough d c.in-Ok.number c.parse.result c.in-Ok.is some c.if-digits-gt4.false c.if-digits-eq43.false (at_most_one d some c.else-digits-eq48.either) k c.if-number-le-GREATEST_SAMPLE.true))

pub returns-else-number-le-GREATEST_SAMPLE-clause-seen : goal.returns-else-number-le-GREATEST_SAMPLE-clause-seen
returns-else-number-le-GREATEST_SAMPLE-clause-seen c =
    let d = c.as_bytes-digits.result.now in
    let e = c.as_bytes-digits.ensures.value in
    let h = c.parse.ensures.value.0 in
    let k = rw (sym e) at h in
    sym (subst (λ (x : List ℕ). sample_of x ≡ None) e (too_great d c.in-Ok.number c.parse.result c.in-Ok.is c.if-digits-eq43.false k c.if-number-le-GREATEST_SAMPLE.false))

pub returns-in-Err-clause-seen : goal.returns-in-Err-clause-seen
returns-in-Err-clause-seen c =
    let d = c.as_bytes-digits.result.now in
    let e = c.as_bytes-digits.ensures.value in
    let some : 0 < length d = search rules in
    let h = rw c.in-Err.is at c.parse.ensures.value.0 in
    let k = rw (sym e) at h in
    sym (subst (λ (x : List ℕ). sample_of x ≡ None) e (no_digits d c.in-Err.field-0 some c.if-digits-gt4.false c.if-digits-eq43.false (at_most_one d some c.else-digits-eq48.either) k))
