-- The compound file of a store is that store.
use Rattle.std.proofs.Common.{◌≡◌, ℕ, ◌+◌, ◌≤◌, Bool, true, false, cond, List, length, Some, refl, sym, ap, ◌∙◌, arith}
use Rattle.std.specs.Prelude.{is_some, ◌||◌}
use Rattle.carrier_model.specs.Bytes.{MOST_BYTES}
use Rattle.carrier_model.specs.FileTrees as trees
use Rattle.carrier_model.specs.FileTrees.{FileTree, file_names, storage_depth, sorted, Store}
use Rattle.carrier_model.specs.Files.{Children, none, storage, stream, Files}
use Rattle.carrier_model.specs.LayoutHolds.{MayBeWrittenAt, MayBeWritten, StreamsFit}
use Rattle.carrier_model.specs.Lookups.{same_name, stream_named}
use Rattle.carrier_model.specs.Stores.{PROPERTIES, has_stream, AreMembers, IsStore, bare, StoreMeans, IsStoreFile, store_bytes}
use Rattle.carrier_model.proofs.LaidSorted.{layouts-found}
use Rattle.carrier_model.proofs.LaidStreamsFit.{streams-fit}
use Rattle.carrier_model.proofs.Sizes.{size_of}
use Rattle.carrier_model.proofs.StoreOrder.{sorted-again, in_order_apart, sorted-has}

-- members may be written
pub may_at : (at : ℕ) (f : FileTree) → AreMembers f → StreamsFit f → at + storage_depth f ≤ 101 → MayBeWrittenAt at f
may_at at trees.no_file m s le = tt
may_at at (trees.stream name bytes others) m s le = (m.0, s.0, may_at at others m.1 s.1 le)
may_at at (trees.storage name class inside others) m s le =
    (m.0, m.1, omega (arith, le), in_order_apart inside m.2, may_at (at + 1) inside m.3 s.0 (omega (arith, le)), may_at at others m.4 s.1 (omega (arith, le)))

-- a stream among the children that are found
pub bare-has : (c : Children) (name : List ℕ) → is_some (stream_named c name) ≡ has_stream (bare c) name
bare-has none name = refl
bare-has (storage tag below rest) name = bare-has rest name
bare-has (stream tag x rest) name = by (same_name tag.name name) (bare-has rest name)
  where
    by : (b : Bool) → is_some (stream_named rest name) ≡ has_stream (bare rest) name → is_some (cond b (Some (record { stream = x; entry = tag.place })) (stream_named rest name)) ≡ (b || has_stream (bare rest) name)
    by true e = refl
    by false e = e

-- what is found of members in their order
pub found_store : (s : Files) (x : Store) → IsStore x → s.class ≡ x.class → bare s.children ≡ sorted x.members → StoreMeans s x
found_store s x h class same =
    let again : sorted x.members ≡ x.members = sorted-again x.members h.order h.members in
    let members : sorted (bare s.children) ≡ x.members = ap sorted same ∙ (ap sorted again ∙ again) in
    record { is = λ i. record { class = sym class i; members = sym members i }; depth = h.depth }

pub found_no_message : (s : Files) (x : Store) → IsStore x → bare s.children ≡ sorted x.members → is_some (stream_named s.children PROPERTIES) ≡ false
found_no_message s x h same =
    bare-has s.children PROPERTIES ∙ (ap (λ f. has_stream f PROPERTIES) same ∙ (sorted-has x.members PROPERTIES ∙ h.no_message))

pub written_store : (x : Store) → IsStore x → length (store_bytes x) ≤ MOST_BYTES → IsStoreFile (store_bytes x) x
written_store x h short =
    let may : MayBeWritten x.members = (in_order_apart x.members h.order, may_at 1 x.members h.members (streams-fit 512 (size_of 512 refl) x.class x.members short) (omega (arith, h.depth))) in
    let laid = layouts-found 512 (size_of 512 refl) x.class x.members h.class may short in
    record {
      few = short;
      root = laid.found;
      holds = laid.holds;
      no_message = found_no_message laid.found x h laid.same;
      means = found_store laid.found x h laid.root laid.same;
    }
