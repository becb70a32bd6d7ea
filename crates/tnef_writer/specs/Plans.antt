-- What a plan keeps to, and how there may be none.
use Rattle.std.specs.Prelude.{◌≡◌, ℕ, ◌≤◌, ◌<◌, List, length}
use Rattle.carrier_io.specs.declared.failures.PlanEnd.{PlanEnd}
use Rattle.carrier_io.specs.declared.failures.PlanEnd.TheVariants.{TooLarge, NoMemory}
use Rattle.carrier_model.specs.Keys.{Name}
use Rattle.carrier_model.specs.Bytes.{MOST_BYTES}
use Rattle.tnef_model.specs.TnefCanonical.{tnef_of}
use Rattle.carrier_model.specs.Totals.{capped}
use Rattle.carrier_model.specs.Tree.{Message, messages_in, names_of}
use Rattle.tnef_writer.specs.MessagePlans.{ArePlans}
use Rattle.tnef_writer.specs.TreeStores.{stores_in}
use Rattle.tnef_writer.specs.declared.planned.MessagePlan.{MessagePlan}

pub record IsPlanned (t : Message) (names : List Name) (plans : List MessagePlan) (files : List (List ℕ)) (size : ℕ) : Type 0 where
  pub names_are : names ≡ names_of t
  pub plans_are : ArePlans names (messages_in t) (stores_in t) plans files
  pub few : length names ≤ 32000
  pub size_is : size ≡ length (tnef_of t)
  pub fits : length (tnef_of t) ≤ MOST_BYTES

-- The stream is too large, and the number is its length. Memory may want.
abbrev pub IsEndOf : Message → PlanEnd → Type 0
IsEndOf t (TooLarge n) = (MOST_BYTES < length (tnef_of t)) × (n ≡ capped (length (tnef_of t)))
IsEndOf t NoMemory = Unit {0}
