-- Plans that were added one after the other.
use Rattle.std.proofs.Common.{◌≡◌, ◌∙◌, ap, sym, subst, refl, ℕ, zero, suc, ◌+◌, ◌-◌, ◌≤◌, ◌<◌, List, [], ◌∷◌, ◌++◌, length, take, set, Some, append_assoc, length-append, arith, ◌^◌}
use Rattle.std.specs.List.{flat_map}
use Rattle.std.specs.Prelude.{slice_get, map}
use Rattle.std.proofs.lemmas.Grind.{flat_map-append}
use Rattle.std.proofs.lemmas.List.{append-nil, set_at, length-set}
use Rattle.carrier_model.specs.FileTrees.{Store}
use Rattle.carrier_model.specs.Keys.{Name}
use Rattle.carrier_model.specs.Stores.{store_bytes}
use Rattle.carrier_model.specs.Totals.{capped}
use Rattle.carrier_model.specs.Tree.{Message, Attached, attachments_from, messages_in, messages_at}
use Rattle.carrier_model.proofs.Messages.{messages_taken, taken_at}
use Rattle.msg_tree.specs.Keeping.{HaveStores, BodyHasStores}
use Rattle.tnef_model.specs.TnefCanonical.{stream_of}
use Rattle.tnef_writer.specs.MessagePlans.{Adds, plan_of, plans_of}
use Rattle.tnef_writer.specs.TreeStores.{stores_in, stores_at, files_of, AllFit}
use Rattle.tnef_writer.specs.declared.planned.MessagePlan.{MessagePlan}

fit_left : (a b : List Store) → AllFit (a ++ b) → AllFit a
fit_left [] b h = tt
fit_left (s ∷ a) b h = (h.0, fit_left a b h.1)

fit_right : (a b : List Store) → AllFit (a ++ b) → AllFit b
fit_right [] b h = h
fit_right (s ∷ a) b h = fit_right a b h.1

pub map_parts : {A B : Type 0} (f : A → B) (a b : List A) → map f (a ++ b) ≡ map f a ++ map f b
map_parts f [] b = refl
map_parts f (x ∷ a) b = ap (λ z. f x ∷ z) (map_parts f a b)

pub map_long : {A B : Type 0} (f : A → B) (a : List A) → length (map f a) ≡ length a
map_long f [] = refl
map_long f (x ∷ a) = ap suc (map_long f a)

pub adds_nothing : (names : List Name) (plans : List MessagePlan) (files : List (List ℕ)) → Adds names [] [] plans plans files files
adds_nothing names plans files = record {
  plans_rise = omega arith;
  files_rise = omega arith;
  plans = λ h. sym (append-nil plans);
  files = λ h. sym (append-nil files);
}

adds_both : (names : List Name) (m n : List Message) (a b : List Store) (s t u : List MessagePlan) (p q r : List (List ℕ)) → Adds names m a s t p q → Adds names n b t u q r → Adds names (m ++ n) (a ++ b) s u p r
adds_both names m n a b s t u p q r g h = record {
  plans_rise = omega (arith, g.plans_rise, h.plans_rise);
  files_rise = omega (arith, g.files_rise, h.files_rise);
  plans = λ fits. h.plans (fit_right a b fits) ∙ ap (λ z. z ++ plans_of names n) (g.plans (fit_left a b fits)) ∙ append_assoc s (plans_of names m) (plans_of names n) ∙ ap (λ z. s ++ z) (sym (map_parts (plan_of names) m n));
  files = λ fits. h.files (fit_right a b fits) ∙ ap (λ z. z ++ files_of b) (g.files (fit_left a b fits)) ∙ append_assoc p (files_of a) (files_of b) ∙ ap (λ z. p ++ z) (sym (map_parts store_bytes a b));
}

stores_taken : (xs : List Attached) (k : ℕ) (x : Attached) → slice_get xs k ≡ Some x → flat_map stores_at (take (k + 1) xs) ≡ flat_map stores_at (take k xs) ++ stores_at x
stores_taken xs k x at = ap (flat_map stores_at) (taken_at xs k x at) ∙ flat_map-append stores_at (take k xs) (x ∷ []) ∙ ap (λ z. flat_map stores_at (take k xs) ++ z) (append-nil (stores_at x))

adds_as : (names : List Name) (m n : List Message) (a b : List Store) (s t : List MessagePlan) (p q : List (List ℕ)) → m ≡ n → a ≡ b → Adds names m a s t p q → Adds names n b s t p q
adds_as names m n a b s t p q e f h = subst (λ z. Adds names z b s t p q) e (subst (λ z. Adds names m z s t p q) f h)

-- what is in one attachment more
pub adds_more : (names : List Name) (xs : List Attached) (k : ℕ) (x : Attached) (s t u : List MessagePlan) (p q r : List (List ℕ)) → slice_get xs k ≡ Some x → Adds names (flat_map messages_at (take k xs)) (flat_map stores_at (take k xs)) s t p q → Adds names (messages_at x) (stores_at x) t u q r → Adds names (flat_map messages_at (take (k + 1) xs)) (flat_map stores_at (take (k + 1) xs)) s u p r
adds_more names xs k x s t u p q r at g h =
    adds_as names _ _ _ _ s u p r (sym (messages_taken xs k x at)) (sym (stores_taken xs k x at)) (adds_both names (flat_map messages_at (take k xs)) (messages_at x) (flat_map stores_at (take k xs)) (stores_at x) s t u p q r g h)

-- a store that has a plan, and one whose file is too large
pub adds_store : (names : List Name) (s : Store) (plans : List MessagePlan) (file : List ℕ) (p q : List (List ℕ)) → q ≡ p ++ file ∷ [] → file ≡ store_bytes s → Adds names [] (s ∷ []) plans plans p q
adds_store names s plans file p q e is = record {
  plans_rise = omega arith;
  files_rise = omega (arith, ap length e, length-append p (file ∷ []));
  plans = λ h. sym (append-nil plans);
  files = λ h. e ∙ ap (λ f. p ++ f ∷ []) is;
}

-- the plan of a message, by what was added behind it
plan_is : (names : List Name) (t : Message) (plan : MessagePlan) → plan.size ≡ capped (length (stream_of names t)) → plan.messages ≡ length (messages_in t) → plan.stores ≡ length (stores_in t) → plan ≡ plan_of names t
plan_is names t plan size messages stores = λ i. record { size = size i; messages = messages i; stores = stores i }

-- a message: a place for its plan, the plans of what is in it, and then its plan
module _ (names : List Name) (t : Message) (below : List Message) (stores : List Store) (old with_place all : List MessagePlan) (old_files files : List (List ℕ)) (unknown plan : MessagePlan) (at : ℕ) where
  pub adds_message : messages_in t ≡ t ∷ below → stores_in t ≡ stores → with_place ≡ old ++ unknown ∷ [] → Adds names below stores with_place all old_files files → at ≡ length old
      → plan.size ≡ capped (length (stream_of names t)) → plan.messages ≡ length all - length old → plan.stores ≡ length files - length old_files
      → Adds names (messages_in t) (stores_in t) old (set all at plan) old_files files
  adds_message ms ss place added is size messages count =
      let long : length with_place ≡ length old + 1 = ap length place ∙ length-append old (unknown ∷ []) in
      record {
        plans_rise = omega (arith, added.plans_rise, long, length-set all at plan);
        files_rise = added.files_rise;
        plans = λ h.
            let fits : AllFit stores = subst AllFit ss h in
            let whole : all ≡ old ++ unknown ∷ plans_of names below = added.plans fits ∙ ap (λ z. z ++ plans_of names below) place ∙ append_assoc old (unknown ∷ []) (plans_of names below) in
            let n : length (messages_in t) ≡ suc (length below) = ap length ms in
            let many : plan.messages ≡ length (messages_in t) = omega (arith, messages, ap length whole, length-append old (unknown ∷ plans_of names below), map_long (plan_of names) below, n) in
            let some : plan.stores ≡ length (stores_in t) = omega (arith, count, ap length (added.files fits), length-append old_files (files_of stores), map_long store_bytes stores, ap length ss) in
            ap (λ z. set z at plan) whole ∙ set_at old unknown (plans_of names below) plan at (sym is)
            ∙ ap (λ z. old ++ z ∷ plans_of names below) (plan_is names t plan size many some) ∙ ap (λ z. old ++ plans_of names z) (sym ms);
        files = λ h. added.files (subst AllFit ss h) ∙ ap (λ z. old_files ++ files_of z) (sym ss);
      }

-- the stores of the attachment at a place are stores
pub haves_at : (xs : List Attached) (k : ℕ) (x : Attached) → slice_get xs k ≡ Some x → HaveStores (attachments_from xs) → BodyHasStores x.1
haves_at [] k x at h = absurd cc
haves_at (y ∷ xs) zero x at h = let e : y ≡ x = cc in subst (λ (z : Attached). BodyHasStores z.1) e h.0
haves_at (y ∷ xs) (suc k) x at h = haves_at xs k x at h.1
