use Rattle.std.proofs.Common.{◌≡◌, ◌∙◌, refl, sym, ap, ◌==◌, ◌&&◌, Bool, cond, drop, get_or, Some, None, option_and_then, true, false, nat_lt, nat_le, ◌^◌}
use Rattle.std.specs.Float.{binary64, float_is_finite}
use Rattle.fast_float.specs.Text.{Parts, scan, digits_of, nearest, with_sign}
use Rattle.serde_json.specs.Data.{negative}
use Rattle.serde_json.specs.Find.{as_u64}
use Rattle.serde_json.specs.Read.{number_of, number_from, float_of, is_integer}
use Rattle.json_values.proofs.numbers.unsigned_in.Goals as goal

float_none : (sign : Bool) (p : Parts) → option_and_then as_u64 (float_of sign p) ≡ None
float_none sign p = by (float_is_finite (nearest binary64 sign p)) refl
  where
    by : (b : Bool) → float_is_finite (nearest binary64 sign p) ≡ b → option_and_then as_u64 (float_of sign p) ≡ None
    by true is = rw is refl
    by false is = rw is refl

negative_none : (p : Parts) → option_and_then as_u64 (number_from true p) ≡ None
negative_none p = by (is_integer p && nat_lt 0 (digits_of p) && nat_le (digits_of p) (2 ^ 63))
  where
    by : (b : Bool) → option_and_then as_u64 (cond b (Some (negative (with_sign true (digits_of p)))) (float_of true p)) ≡ None
    by true = refl
    by false = float_none true p

pub returns-then-has_minus : goal.returns-then-has_minus
unfolding number_of
returns-then-has_minus c =
    let s = c.as_bytes-bytes.result.now in
    let signed : (get_or s 0 0 == 45) ≡ true = sym c.if-has_minus.ensures.value in
    let read : number_from true (scan (drop 1 s)) ≡ number_of s = rw signed in
    sym (negative_none (scan (drop 1 s))) ∙ ap (option_and_then as_u64) (read ∙ ap number_of c.as_bytes-bytes.ensures.value)

pub returns : goal.returns
unfolding number_of
returns c =
    let s = c.as_bytes-bytes.result.now in
    let unsigned : (get_or s 0 0 == 45) ≡ false = sym c.if-has_minus.ensures.value in
    let read : number_from false (scan s) ≡ number_of s = rw unsigned in
    c.unsigned_of.ensures ∙ ap (option_and_then as_u64) (ap (number_from false) c.scan.ensures.parts ∙ read ∙ ap number_of c.as_bytes-bytes.ensures.value)
