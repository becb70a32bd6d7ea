-- Plans that are split: those of what is in the first attachment, and the others.
use Rattle.std.proofs.Common.{◌≡◌, ◌∙◌, ap, refl, sym, subst, ℕ, suc, zero, ◌+◌, ◌≤◌, ◌<◌, List, [], ◌∷◌, ◌++◌, length, take, drop, get_or, arith, length-append}
use Rattle.std.specs.List.{flat_map}
use Rattle.std.specs.Prelude.{map, slice_get, Some}
use Rattle.carrier_model.specs.FileTrees.{Store}
use Rattle.carrier_model.specs.Keys.{Name}
use Rattle.carrier_model.specs.Stores.{store_bytes}
use Rattle.carrier_model.specs.Tree.{Message, message, Attached, embedded, stored, messages_at, messages_in, messages_in_body}
use Rattle.carrier_model.proofs.Trees.{flat_map_from}
use Rattle.tnef_writer.specs.MessagePlans.{ArePlans, plan_of, plans_of}
use Rattle.tnef_writer.specs.TreeStores.{files_of, stores_at, stores_in, stores_in_body}
use Rattle.tnef_writer.specs.declared.planned.MessagePlan.{MessagePlan}
use Rattle.tnef_writer.proofs.AddedPlans.{map_parts, map_long}

front_of : {A : Type 0} (a b : List A) (n : ℕ) → n ≡ length a → take n (a ++ b) ≡ a
front_of {A = A} a b n e = subst (λ k. take k (a ++ b) ≡ a) (sym e) (by a)
  where
    by : (a : List A) → take (length a) (a ++ b) ≡ a
    by [] = refl
    by (x ∷ a) = ap (λ z. x ∷ z) (by a)

back_of : {A : Type 0} (a b : List A) (n : ℕ) → n ≡ length a → drop n (a ++ b) ≡ b
back_of {A = A} a b n e = subst (λ k. drop k (a ++ b) ≡ b) (sym e) (by a)
  where
    by : (a : List A) → drop (length a) (a ++ b) ≡ b
    by [] = refl
    by (x ∷ a) = by a

-- the plans of some, and behind them those of others
module _ (names : List Name) (own others : List Message) (own_stores other_stores : List Store) (plans : List MessagePlan) (files : List (List ℕ)) (are : ArePlans names (own ++ others) (own_stores ++ other_stores) plans files) where
  plans_parts : plans ≡ plans_of names own ++ plans_of names others
  plans_parts = are.plans_are ∙ map_parts (plan_of names) own others

  files_parts : files ≡ files_of own_stores ++ files_of other_stores
  files_parts = are.files_are ∙ map_parts store_bytes own_stores other_stores

  pub plans_enough : length own ≤ length plans
  plans_enough = omega (arith, ap length plans_parts, length-append (plans_of names own) (plans_of names others), map_long (plan_of names) own)

  pub files_enough : length own_stores ≤ length files
  files_enough = omega (arith, ap length files_parts, length-append (files_of own_stores) (files_of other_stores), map_long store_bytes own_stores)

  module _ (n k : ℕ) (many : n ≡ length own) (some : k ≡ length own_stores) where
    pub own_plans : ArePlans names own own_stores (take n plans) (take k files)
    own_plans = record {
      plans_are = ap (take n) plans_parts ∙ front_of (plans_of names own) (plans_of names others) n (many ∙ sym (map_long (plan_of names) own));
      files_are = ap (take k) files_parts ∙ front_of (files_of own_stores) (files_of other_stores) k (some ∙ sym (map_long store_bytes own_stores));
    }

    pub other_plans : ArePlans names others other_stores (drop n plans) (drop k files)
    other_plans = record {
      plans_are = ap (drop n) plans_parts ∙ back_of (plans_of names own) (plans_of names others) n (many ∙ sym (map_long (plan_of names) own));
      files_are = ap (drop k) files_parts ∙ back_of (files_of own_stores) (files_of other_stores) k (some ∙ sym (map_long store_bytes own_stores));
    }

-- ---- the first plan of a message is its own

pub some_plan : (names : List Name) (t : Message) (plans : List MessagePlan) → plans ≡ plans_of names (messages_in t) → 0 < length plans
some_plan names (message props recipients attachments) plans are = omega (arith, ap length are)

pub first_plan : (names : List Name) (t : Message) (plans : List MessagePlan) (other : MessagePlan) → plans ≡ plans_of names (messages_in t) → get_or plans 0 other ≡ plan_of names t
first_plan names (message props recipients attachments) plans other are = ap (λ z. get_or z 0 other) are

-- the plans behind the first one
pub plans_behind : (names : List Name) (t : Message) (others : List Message) (stores : List Store) (plans : List MessagePlan) (files : List (List ℕ)) → ArePlans names (t ∷ others) stores plans files → ArePlans names others stores (drop 1 plans) files
plans_behind names t others stores plans files are = record { plans_are = ap (drop 1) are.plans_are; files_are = are.files_are }

-- ---- attachment by attachment

-- the plans of all attachments from a place on are those of the one there, and those of the others
pub plans_from : (names : List Name) (xs : List Attached) (k : ℕ) (x : Attached) (plans : List MessagePlan) (files : List (List ℕ)) → slice_get xs k ≡ Some x → ArePlans names (flat_map messages_at (drop k xs)) (flat_map stores_at (drop k xs)) plans files
    → ArePlans names (messages_at x ++ flat_map messages_at (drop (k + 1) xs)) (stores_at x ++ flat_map stores_at (drop (k + 1) xs)) plans files
plans_from names xs k x plans files at are = record {
  plans_are = are.plans_are ∙ ap (plans_of names) (flat_map_from messages_at xs k x at);
  files_are = are.files_are ∙ ap files_of (flat_map_from stores_at xs k x at);
}

-- those of an attachment that holds a message
pub message_plans : (names : List Name) (x : Attached) (t : Message) (plans : List MessagePlan) (files : List (List ℕ)) → x.1 ≡ embedded t → ArePlans names (messages_at x) (stores_at x) plans files → ArePlans names (messages_in t) (stores_in t) plans files
message_plans names x t plans files e are = subst (λ b. ArePlans names (messages_in_body b) (stores_in_body b) plans files) e are

-- and of one that holds a store
module _ (names : List Name) (x : Attached) (s : Store) (plans : List MessagePlan) (files : List (List ℕ)) (e : x.1 ≡ stored s) (are : ArePlans names (messages_at x) (stores_at x) plans files) where
  alone : files ≡ store_bytes s ∷ []
  alone = are.files_are ∙ ap (λ b. files_of (stores_in_body b)) e

  pub one_file : 0 < length files
  one_file = omega (arith, ap length alone)

  pub file_one : (other : List ℕ) → get_or files 0 other ≡ store_bytes s
  file_one other = ap (λ z. get_or z 0 other) alone
