-- Steps of edits, where what they need is there and where it isn't.
use Rattle.std.proofs.Common.{◌≡◌, ℕ, ◌≤◌, length, List, refl}
use Rattle.std.specs.Prelude.{Result, Ok, Err, IfOk, IfErr, Some, slice_get, slice_set}
use Rattle.std.specs.List.{remove}
use Rattle.std.proofs.lemmas.Option.{slice_get_past}
use Rattle.carrier_model.specs.Tree.{Message, message, Attached, Body, attachments_from}
use Rattle.carrier_model.specs.Values.{Prop}
use Rattle.carrier_model.proofs.Trees.{listed-from}
use Rattle.tree_edit.specs.Changes.{IsCauseOf}
use Rattle.tree_edit.specs.Meaning.{why_of}
use Rattle.tree_edit.specs.declared.ends.OnceEnd.{OnceEnd}
use Rattle.tree_edit.specs.declared.ends.OnceEnd.TheVariants as ends
use Rattle.edit_model.specs.Edits.{Why, no_place, changed_at, dropped_at, with_attachments, with_props, with_body, body_with}

pub changed_ok : {A : Type 0} (change : A → Result A Why) (k : ℕ) (xs : List A) (x y : A) → slice_get xs k ≡ Some x → change x ≡ Ok y → changed_at change k xs ≡ Ok (slice_set xs k y)
changed_ok change k xs x y at made = rw (at, made) refl

pub changed_err : {A : Type 0} (change : A → Result A Why) (k : ℕ) (xs : List A) (x : A) (why : Why) → slice_get xs k ≡ Some x → change x ≡ Err why → changed_at change k xs ≡ Err why
changed_err change k xs x why at fails = rw (at, fails) refl

pub changed_past : {A : Type 0} (change : A → Result A Why) (k : ℕ) (xs : List A) → length xs ≤ k → changed_at change k xs ≡ Err no_place
changed_past change k xs past = rw (slice_get_past xs k past) refl

pub dropped_ok : {A : Type 0} (k : ℕ) (xs : List A) (x : A) → slice_get xs k ≡ Some x → dropped_at k xs ≡ Ok (remove xs k)
dropped_ok k xs x at = rw at refl

pub dropped_past : {A : Type 0} (k : ℕ) (xs : List A) → length xs ≤ k → dropped_at k xs ≡ Err no_place
dropped_past k xs past = rw (slice_get_past xs k past) refl

pub attachments_ok : (change : List Attached → Result (List Attached) Why) (ps : List Prop) (rs : List (List Prop)) (l m : List Attached) → change l ≡ Ok m → with_attachments change (message ps rs (attachments_from l)) ≡ Ok (message ps rs (attachments_from m))
attachments_ok change ps rs l m made = rw (listed-from l, made) refl

pub attachments_err : (change : List Attached → Result (List Attached) Why) (ps : List Prop) (rs : List (List Prop)) (l : List Attached) (why : Why) → change l ≡ Err why → with_attachments change (message ps rs (attachments_from l)) ≡ Err why
attachments_err change ps rs l why fails = rw (listed-from l, fails) refl

pub props_ok : (change : List Prop → Result (List Prop) Why) (x : Attached) (qs : List Prop) → change x.0 ≡ Ok qs → with_props change x ≡ Ok (qs, x.1)
props_ok change x qs made = rw made refl

pub props_err : (change : List Prop → Result (List Prop) Why) (x : Attached) (why : Why) → change x.0 ≡ Err why → with_props change x ≡ Err why
props_err change x why fails = rw fails refl

pub body_ok : (change : Message → Result Message Why) (x : Attached) (body : Body) → body_with change x.1 ≡ Ok body → with_body change x ≡ Ok (x.0, body)
body_ok change x body made = rw made refl

pub body_err : (change : Message → Result Message Why) (x : Attached) (why : Why) → body_with change x.1 ≡ Err why → with_body change x ≡ Err why
body_err change x why fails = rw fails refl

-- what is caused below is caused above
pub cause_above : {A C : Type 0} (r : Result A Why) (s : Result C Why) (e : OnceEnd) → ((why : Why) → r ≡ Err why → s ≡ Err why) → IsCauseOf r e → IsCauseOf s e
cause_above r s (ends.Cannot why) step h = step (why_of why) h
cause_above r s ends.NoMemory step h = tt

-- the same of an answer
pub ok_above : {T E : Type 0} (r : Result T E) (P Q : T → Type 0) → ((n : T) → P n → Q n) → IfOk r P → IfOk r Q
ok_above (Ok n) P Q step h = step n h
ok_above (Err e) P Q step h = tt

pub err_above : {T A C : Type 0} (result : Result T OnceEnd) (r : Result A Why) (s : Result C Why) → ((why : Why) → r ≡ Err why → s ≡ Err why) → IfErr result (IsCauseOf r) → IfErr result (IsCauseOf s)
err_above (Ok n) r s step h = tt
err_above (Err e) r s step h = cause_above r s e step h
