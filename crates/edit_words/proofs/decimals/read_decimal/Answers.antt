use Rattle.std.proofs.Common.{◌≡◌, ◌⊎◌, inl, inr, ℕ, ◌<◌, ◌≤◌, List, length, get_or, rules, sym, subst, Some, None}
use Rattle.edit_words.specs.Reading.{decimal_of_64}
use Rattle.edit_words.proofs.Numerals.{read_as, read_none}
use Rattle.edit_words.proofs.decimals.read_decimal.Goals as goal

at_most_one : (d : List ℕ) → ((get_or d 0 0 ≡ 48) × (length d ≤ 1)) ⊎ (get_or d 0 0 ≡ 48 → ⊥) → get_or d 0 0 ≡ 48 → length d ≤ 1
at_most_one d (inl x) e = x.1
at_most_one d (inr n) e = absurd (n e)

pub returns-in-Ok : goal.returns-in-Ok
returns-in-Ok c =
    let d = c.as_bytes-digits.result.now in
    let e = c.as_bytes-digits.ensures.value in
    let some : 0 < length d = search rules in
    let h = c.parse.ensures.value.0 in
    let k = rw (sym e) at h in
    subst (λ (x : List ℕ). Some c.in-Ok.number ≡ decimal_of_64 x) e (read_as d c.in-Ok.number c.parse.result c.in-Ok.is some c.if-digits-eq43.false (at_most_one d c.else-digits-eq48.either) k)

pub returns-in-Err : goal.returns-in-Err
returns-in-Err c =
    let d = c.as_bytes-digits.result.now in
    let e = c.as_bytes-digits.ensures.value in
    let some : 0 < length d = search rules in
    let h = rw c.in-Err.is at c.parse.ensures.value.0 in
    let k = rw (sym e) at h in
    subst (λ (x : List ℕ). None ≡ decimal_of_64 x) e (read_none d c.in-Err.field-0 some c.if-digits-eq43.false (at_most_one d c.else-digits-eq48.either) k)
