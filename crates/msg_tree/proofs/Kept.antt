-- The stores of the attachments from a place on.
use Rattle.std.proofs.Common.{◌≡◌, sym, subst, ℕ, ◌+◌, List, [], drop, Some}
use Rattle.std.specs.Prelude.{slice_get}
use Rattle.carrier_model.specs.Tree.{Attached, attachments_from}
use Rattle.carrier_model.proofs.Trees.{drop_at}
use Rattle.msg_tree.specs.Keeping.{HaveStores, BodyHasStores}

pub stores_parted : (xs : List Attached) (k : ℕ) (x : Attached) → slice_get xs k ≡ Some x → HaveStores (attachments_from (drop k xs)) → BodyHasStores x.1 × HaveStores (attachments_from (drop (k + 1) xs))
stores_parted xs k x at h = subst (λ (l : List Attached). HaveStores (attachments_from l)) (drop_at xs k x at) h

pub stores_joined : (xs : List Attached) (k : ℕ) (x : Attached) → slice_get xs k ≡ Some x → BodyHasStores x.1 → HaveStores (attachments_from (drop (k + 1) xs)) → HaveStores (attachments_from (drop k xs))
stores_joined xs k x at b h = subst (λ (l : List Attached). HaveStores (attachments_from l)) (sym (drop_at xs k x at)) (b, h)

pub stores_none : (xs : List Attached) (k : ℕ) → drop k xs ≡ [] → HaveStores (attachments_from (drop k xs))
stores_none xs k e = subst (λ (l : List Attached). HaveStores (attachments_from l)) (sym e) tt
