-- One edit of a list.
use Rattle.std.proofs.Common.{◌≡◌, ℕ, ◌+◌, List, refl, drop}
use Rattle.std.specs.Prelude.{Ok, Err, Some, slice_get}
use Rattle.carrier_model.specs.Tree.{Message}
use Rattle.carrier_model.proofs.Trees.{drop_at}
use Rattle.edit_model.specs.Edits.{Edit, set_prop, remove_prop, add_recipient, drop_recipient, drop_attachment, Why, at_path, edited_once, edited_from}
use Rattle.edit_words.specs.Parts.{part_of, path_of}
use Rattle.tree_edit.specs.Changes.{on_part}

-- an edit changes a part of the message at the end of its path
pub once_is : (e : Edit) (t : Message) → at_path (on_part (part_of e) e) (path_of e) t ≡ edited_once e t
once_is (set_prop place p) t = refl
once_is (remove_prop place key kind) t = refl
once_is (add_recipient path) t = refl
once_is (drop_recipient path k) t = refl
once_is (drop_attachment path k) t = refl

-- a list is failed where its next edit can't be done
pub from_fails : (es : List Edit) (n : ℕ) (e : Edit) (t : Message) (why : Why) → slice_get es n ≡ Some e → edited_once e t ≡ Err why → edited_from n (drop n es) t ≡ Err (n, why)
from_fails es n e t why at fails = rw (drop_at es n e at, fails) refl

-- and goes on behind it where it is done
pub from_done : (es : List Edit) (n : ℕ) (e : Edit) (t u : Message) → slice_get es n ≡ Some e → edited_once e t ≡ Ok u → edited_from n (drop n es) t ≡ edited_from (n + 1) (drop (n + 1) es) u
from_done es n e t u at done = rw (drop_at es n e at, done) refl
