-- The children of a storage that have a number.
use Rattle.std.proofs.Common.{◌≡◌, ℕ, zero, suc, ◌+◌, List, [], ◌∷◌, ◌++◌, take, Option, Some, None, refl, ap, ◌∙◌}
use Rattle.std.specs.Prelude.{filter_map, option_to_list, slice_get}
use Rattle.std.specs.Option.{option_map}
use Rattle.std.specs.List.{cons_option}
use Rattle.std.proofs.lemmas.List.Elements.{filter_map-append}
use Rattle.carrier_model.specs.Files.{Children, none, storage, stream, Files}
use Rattle.carrier_model.specs.Lookups.{storage_at}
use Rattle.carrier_model.proofs.Messages.{taken_at}
use Rattle.cfb_directory.specs.Found.{Child, children_list}
use Rattle.msg_model.specs.MsgMessage.{number_in, numbered_in}
use Rattle.msg_storage.specs.Numbered.{numbered_child}

pub numbered_children : (prefix : List ℕ) (c : Children) → filter_map (numbered_child prefix) (children_list c) ≡ numbered_in prefix c
numbered_children prefix none = refl
numbered_children prefix (stream tag s rest) = numbered_children prefix rest
numbered_children prefix (storage tag below rest) = by (option_map (λ n. (n, storage_at tag below)) (number_in prefix tag.name)) (numbered_children prefix rest)
  where
    by : (o : Option (ℕ × Files)) → filter_map (numbered_child prefix) (children_list rest) ≡ numbered_in prefix rest → cons_option o (filter_map (numbered_child prefix) (children_list rest)) ≡ option_to_list o ++ numbered_in prefix rest
    by None h = h
    by (Some x) h = ap (λ (l : List (ℕ × Files)). x ∷ l) h

-- one more child
pub child_taken : (prefix : List ℕ) (cs : List Child) (k : ℕ) (x : Child) → slice_get cs k ≡ Some x → filter_map (numbered_child prefix) (take (k + 1) cs) ≡ filter_map (numbered_child prefix) (take k cs) ++ option_to_list (numbered_child prefix x)
child_taken prefix cs k x at = ap (filter_map (numbered_child prefix)) (taken_at cs k x at) ∙ (filter_map-append (numbered_child prefix) (take k cs) (x ∷ []) ∙ ap (λ l. filter_map (numbered_child prefix) (take k cs) ++ l) (one (numbered_child prefix x)))
  where
    one : (o : Option (ℕ × Files)) → cons_option o [] ≡ option_to_list o
    one None = refl
    one (Some y) = refl

-- no child is left behind the last
pub all_taken : {A : Type 0} (xs : List A) (k : ℕ) → slice_get xs k ≡ None → take k xs ≡ xs
all_taken [] zero h = refl
all_taken [] (suc k) h = refl
all_taken (x ∷ xs) zero h = absurd cc
all_taken (x ∷ xs) (suc k) h = ap (λ l. x ∷ l) (all_taken xs k h)
