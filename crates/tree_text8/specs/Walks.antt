-- One property or attachment by itself, how many properties it has, and property numbers.
use Rattle.std.specs.Prelude.{◌≡◌, ℕ, ◌+◌, ◌++◌, if◌then◌else◌, Bool, List, [], length}
use Rattle.carrier_model.specs.Totals.{capped}
use Rattle.carrier_model.specs.Tree.{Attached}
use Rattle.carrier_model.specs.Values.{Prop}
use Rattle.text8_model.specs.Pages.{page_of}
use Rattle.text8_model.specs.Unicode.{converted_props, converted_body, bad_props, bad_body, bad_value, props_in_body, value_by}
use Rattle.text8_model.specs.Unmapped.{Unmapped}

-- a property that is converted where it is marked
abbrev pub converted_where : Bool → ℕ → Prop → Prop
converted_where marked code p = if marked then record { key = p.key; value = value_by (page_of code) p.value } else p

abbrev pub bad_where : Bool → ℕ → ℕ → Prop → List Unmapped
bad_where marked code n p = if marked then bad_value code n (page_of code) p.value else []

abbrev pub converted_attached : ℕ → Attached → Attached
converted_attached code one = (converted_props code one.0, converted_body code one.1)

abbrev pub props_at : Attached → ℕ
props_at one = length one.0 + props_in_body one.1

abbrev pub bad_attached : ℕ → ℕ → Attached → List Unmapped
bad_attached code n one = bad_props code n one.0 ++ bad_body code (n + length one.0) one.1

-- two numbers are told alike: the greatest stands for all above it
pub record AreOne (m n : ℕ) : Type 0 where
  pub one : capped m ≡ capped n
