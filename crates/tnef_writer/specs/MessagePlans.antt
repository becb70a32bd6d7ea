-- What is planned of messages and of stores.
use Rattle.std.specs.Prelude.{◌≡◌, ℕ, ◌≤◌, ◌++◌, List, length, map}
use Rattle.carrier_model.specs.FileTrees.{Store}
use Rattle.carrier_model.specs.Keys.{Name}
use Rattle.carrier_model.specs.Totals.{capped}
use Rattle.carrier_model.specs.Tree.{Message, Attached, messages_in, messages_at}
use Rattle.tnef_model.specs.TnefCanonical.{stream_of}
use Rattle.tnef_writer.specs.TreeStores.{AllFit, files_of, stores_in, stores_at}
use Rattle.tnef_writer.specs.declared.planned.MessagePlan.{MessagePlan}
use Rattle.tnef_writer.specs.declared.planned.Planned.{Planned}

-- how long the stream of a message is, how many messages it is with those in it, and how many stores are in it
abbrev pub plan_of : List Name → Message → MessagePlan
plan_of names t = record { size = capped (length (stream_of names t)); messages = length (messages_in t); stores = length (stores_in t) }

abbrev pub plans_of : List Name → List Message → List MessagePlan
plans_of names = map (plan_of names)

-- The plans of some messages and stores were added to others. Where a file may not be an output, none is known.
pub record Adds (names : List Name) (messages : List Message) (stores : List Store) (old_plans new_plans : List MessagePlan) (old_files new_files : List (List ℕ)) : Type 0 where
  pub plans_rise : length old_plans ≤ length new_plans
  pub files_rise : length old_files ≤ length new_files
  pub plans : AllFit stores → new_plans ≡ old_plans ++ plans_of names messages
  pub files : AllFit stores → new_files ≡ old_files ++ files_of stores

-- these are the plans of some messages and stores
pub record ArePlans (names : List Name) (messages : List Message) (stores : List Store) (plans : List MessagePlan) (files : List (List ℕ)) : Type 0 where
  pub plans_are : plans ≡ plans_of names messages
  pub files_are : files ≡ files_of stores

abbrev pub AreOf : {B : Type 0} → List Name → List Message → List Store → Planned B → Type 0
AreOf names messages stores planned = ArePlans names messages stores planned.messages.now planned.stores.now

-- the first of these are the plans of what is in an attachment
abbrev pub BeginWith : {B : Type 0} → Attached → Planned B → Type 0
BeginWith one planned = (names : List Name) × (messages : List Message) × (stores : List Store) × AreOf names (messages_at one ++ messages) (stores_at one ++ stores) planned
