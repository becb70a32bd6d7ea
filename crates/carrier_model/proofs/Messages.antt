-- The messages of a tree, met one after another, with what is counted and which limit is passed first.
use Rattle.std.proofs.Common.{◌≡◌, ℕ, ◌+◌, ◌<◌, ◌≤◌, List, [], ◌∷◌, ◌++◌, take, drop, refl, ap, ◌∙◌, append-nil, arith}
use Rattle.std.specs.Prelude.{Some, None, true, false, nat_lt, slice_get, flat_map, sum_by}
use Rattle.std.proofs.lemmas.Bool.Decides.{nat_tests}
use Rattle.std.proofs.lemmas.Grind.{flat_map-append}
use Rattle.std.proofs.lemmas.List.{take_more}
use Rattle.std.proofs.lemmas.List.Sums.{sum_by_push}
use Rattle.std.proofs.lemmas.Option.{slice_get_within, get_or_from_slice_get}
use Rattle.carrier_model.specs.Tree.{Message, Attached, attachments_from, messages_below, messages_at}
use Rattle.carrier_model.specs.Totals.{recipient_count, attachment_count}
use Rattle.carrier_model.specs.Limits.{Limit, too_many_recipients, too_many_attachments, where_passed, first_limit, passed_by}
use Rattle.carrier_model.proofs.Trees.{drop_at}

-- the first elements of a list, with the next one
pub taken_at : {A : Type 0} (xs : List A) (k : ℕ) (x : A) → slice_get xs k ≡ Some x → take (k + 1) xs ≡ take k xs ++ x ∷ []
taken_at xs k x at = take_more xs k x (slice_get_within xs k x at) ∙ ap (λ y. take k xs ++ y ∷ []) (get_or_from_slice_get xs k x x at)

-- the messages below a list of attachments
pub messages_listed : (xs : List Attached) → messages_below (attachments_from xs) ≡ flat_map messages_at xs
messages_listed [] = refl
messages_listed (x ∷ xs) = ap (λ l. messages_at x ++ l) (messages_listed xs)

-- one element more in a sum
pub sum_taken : {A : Type 0} (f : A → ℕ) (xs : List A) (k : ℕ) (x : A) → slice_get xs k ≡ Some x → sum_by f (take (k + 1) xs) ≡ sum_by f (take k xs) + f x
sum_taken f xs k x at = ap (sum_by f) (taken_at xs k x at) ∙ sum_by_push f (take k xs) x

-- the messages of one attachment more
pub messages_taken : (xs : List Attached) (k : ℕ) (x : Attached) → slice_get xs k ≡ Some x → flat_map messages_at (take (k + 1) xs) ≡ flat_map messages_at (take k xs) ++ messages_at x
messages_taken xs k x at =
    let more = ap (flat_map messages_at) (taken_at xs k x at) in
    more ∙ (flat_map-append messages_at (take k xs) (x ∷ []) ∙ ap (λ l. flat_map messages_at (take k xs) ++ l) (append-nil (messages_at x)))

-- the first of some limits and more
pub first_found : (xs ys : List Limit) (x : Limit) → first_limit xs ≡ Some x → first_limit (xs ++ ys) ≡ Some x
first_found [] ys x e = cc
first_found (z ∷ xs) ys x e = e

pub first_later : (xs ys : List Limit) → first_limit xs ≡ None → first_limit (xs ++ ys) ≡ first_limit ys
first_later [] ys e = refl
first_later (z ∷ xs) ys e = cc

-- the first limit that some messages and more pass
pub limits_found : (ms ns : List Message) (x : Limit) → first_limit (flat_map passed_by ms) ≡ Some x → first_limit (flat_map passed_by (ms ++ ns)) ≡ Some x
limits_found ms ns x e = ap first_limit (flat_map-append passed_by ms ns) ∙ first_found (flat_map passed_by ms) (flat_map passed_by ns) x e

pub limits_later : (ms ns : List Message) → first_limit (flat_map passed_by ms) ≡ None → first_limit (flat_map passed_by (ms ++ ns)) ≡ first_limit (flat_map passed_by ns)
limits_later ms ns e = ap first_limit (flat_map-append passed_by ms ns) ∙ first_later (flat_map passed_by ms) (flat_map passed_by ns) e

-- a count that is above a limit, and one that isn't
pub is_passed : (limit counted : ℕ) (x : Limit) → limit < counted → where_passed (nat_lt limit counted) x ≡ x ∷ []
is_passed limit counted x lt = let e : nat_lt limit counted ≡ true = grind (arith, nat_tests) in rw e refl

pub isnt_passed : (limit counted : ℕ) (x : Limit) → counted ≤ limit → where_passed (nat_lt limit counted) x ≡ []
isnt_passed limit counted x le = let e : nat_lt limit counted ≡ false = grind (arith, nat_tests) in rw e refl

-- the first limit that a message passes by itself
pub own_none : (m : Message) → recipient_count m ≤ 2048 → attachment_count m ≤ 2048 → first_limit (passed_by m) ≡ None
own_none m r a = rw (isnt_passed 2048 (recipient_count m) (too_many_recipients (recipient_count m)) r, isnt_passed 2048 (attachment_count m) (too_many_attachments (attachment_count m)) a) refl

pub own_recipients : (m : Message) → 2048 < recipient_count m → first_limit (passed_by m) ≡ Some (too_many_recipients (recipient_count m))
own_recipients m r = rw (is_passed 2048 (recipient_count m) (too_many_recipients (recipient_count m)) r) refl

pub own_attachments : (m : Message) → recipient_count m ≤ 2048 → 2048 < attachment_count m → first_limit (passed_by m) ≡ Some (too_many_attachments (attachment_count m))
own_attachments m r a = rw (isnt_passed 2048 (recipient_count m) (too_many_recipients (recipient_count m)) r, is_passed 2048 (attachment_count m) (too_many_attachments (attachment_count m)) a) refl

-- the messages from an attachment on: its own and those of the others
pub messages_from : (xs : List Attached) (k : ℕ) (x : Attached) → slice_get xs k ≡ Some x → messages_below (attachments_from (drop k xs)) ≡ messages_at x ++ messages_below (attachments_from (drop (k + 1) xs))
messages_from xs k x at = ap (λ l. messages_below (attachments_from l)) (drop_at xs k x at)
