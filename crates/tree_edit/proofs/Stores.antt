-- Edited trees have stores where trees have them.
use Rattle.std.proofs.Common.{◌≡◌, List, [], ◌∷◌}
use Rattle.std.specs.Prelude.{Ok}
use Rattle.std.specs.List.{AllByRecursion}
use Rattle.carrier_model.specs.Tree.{Message, Attachments, no_more, attached, listed}
use Rattle.edit_model.specs.Edits.{Edit, edited_once}
use Rattle.edit_model.proofs.Kept.{Known, edit_kept}
use Rattle.edit_model.proofs.KeptTrees.{keeps_any}
use Rattle.msg_tree.specs.Keeping.{HasStores, HaveStores, BodyHasStores}

stores_each : (os : Attachments) → HaveStores os → AllByRecursion (λ one. BodyHasStores one.1) (listed os)
stores_each no_more h = tt
stores_each (attached ps b os) h = (h.0, stores_each os h.1)

stores_all : (os : Attachments) → AllByRecursion (λ one. BodyHasStores one.1) (listed os) → HaveStores os
stores_all no_more h = tt
stores_all (attached ps b os) h = (h.0, stores_all os h.1)

any : {A : Type 0} (xs : List A) → AllByRecursion (λ (x : A). Unit {0}) xs
any [] = tt
any (x ∷ xs) = (tt, any xs)

known_stores : Known (λ d t. HasStores t) (λ ps. Unit {0}) (λ d one. BodyHasStores one.1)
known_stores = record {
  props = λ d ps rs os h. tt;
  recipients = λ d ps rs os h. any rs;
  attachments = λ d ps rs os h. stores_each os h;
  whole = λ d ps rs os p r o. stores_all os o;
  first = λ d ps b h. tt;
  changed = λ d ps qs b h q. h;
  inner = λ d ps m h. (0, h, λ n k. k);
  none = tt;
}

pub once_stores : (e : Edit) (t u : Message) → HasStores t → edited_once e t ≡ Ok u → HasStores u
once_stores e t u h is = edit_kept known_stores e 0 t u (keeps_any e) h is
