-- One member of a store, and the list that it is added to.
use Rattle.std.proofs.Common.{◌≡◌, ◌∙◌, ap, refl, sym, subst, ℕ, zero, suc, ◌+◌, ◌≤◌, ◌<◌, List, [], ◌∷◌, ◌++◌, length, take, take_all, Some, arith}
use Rattle.std.specs.Prelude.{slice_get, IfSome}
use Rattle.carrier_model.specs.FileTrees as trees
use Rattle.carrier_model.specs.FileTrees.{FileTree, Member, Named, bytes_at, store_at, and_files, files_from, files_listed, storage_depth}
use Rattle.carrier_model.specs.Stores.{AreMembers}
use Rattle.carrier_model.proofs.Messages.{taken_at}
use Rattle.cfb_list.specs.Grown.{grown, storages_in}
use Rattle.cfb_list.specs.Listed.{Child, Listed}

-- how deep what stands under a name is
abbrev pub member_depth : Member → ℕ
member_depth (bytes_at bytes) = 0
member_depth (store_at inner) = storage_depth inner.members + 1

-- no member is deeper than all
pub member_depth_le : (f : FileTree) (k : ℕ) (x : Named) → slice_get (files_listed f) k ≡ Some x → member_depth x.1 ≤ storage_depth f
member_depth_le trees.no_file k x at = cc
member_depth_le (trees.stream name bytes others) zero x at = let e : (name, bytes_at bytes) ≡ x = cc in omega (arith, ap (λ y. member_depth y.1) e)
member_depth_le (trees.stream name bytes others) (suc k) x at = member_depth_le others k x at
member_depth_le (trees.storage name class inside others) zero x at =
    let e : (name, store_at (record { class = class; members = inside })) ≡ x = cc in omega (arith, ap (λ y. member_depth y.1) e)
member_depth_le (trees.storage name class inside others) (suc k) x at = omega (arith, member_depth_le others k x at)

some_at : (xs : List Named) (k : ℕ) → k < length xs → (x : Named) × (slice_get xs k ≡ Some x)
some_at [] k lt = absurd (omega (arith, lt))
some_at (x ∷ xs) zero lt = (x, refl)
some_at (x ∷ xs) (suc k) lt = some_at xs k (omega (arith, lt))

-- the member at a place has this name and is this
pub named_at : (xs : List Named) (k : ℕ) (n : List ℕ) (m : Member) → k < length xs → IfSome (slice_get xs k) (λ e. e.0 ≡ n) → IfSome (slice_get xs k) (λ e. e.1 ≡ m) → slice_get xs k ≡ Some (n, m)
named_at xs k n m lt a b =
    let (x, at) = some_at xs k lt in
    let p : x.0 ≡ n = subst (λ o. IfSome o (λ (e : Named). e.0 ≡ n)) at a in
    let q : x.1 ≡ m = subst (λ o. IfSome o (λ (e : Named). e.1 ≡ m)) at b in
    at ∙ (λ i. Some (p i, q i))

-- what each member keeps to
pub member_at : (f : FileTree) (k : ℕ) (x : Named) → AreMembers f → slice_get (files_listed f) k ≡ Some x → AreMembers (files_from (x ∷ []))
member_at trees.no_file k x h at = cc
member_at (trees.stream name bytes others) zero x h at =
    let e : (name, bytes_at bytes) ≡ x = cc in subst (λ (y : Named). AreMembers (files_from (y ∷ []))) e (h.0, tt)
member_at (trees.stream name bytes others) (suc k) x h at = member_at others k x h.1 at
member_at (trees.storage name class inside others) zero x h at =
    let e : (name, store_at (record { class = class; members = inside })) ≡ x = cc in subst (λ (y : Named). AreMembers (files_from (y ∷ []))) e (h.0, h.1, h.2, h.3, tt)
member_at (trees.storage name class inside others) (suc k) x h at = member_at others k x h.4 at

-- ---- a list that grows by one member more

pub listed_files : (f : FileTree) → files_from (files_listed f) ≡ f
listed_files trees.no_file = refl
listed_files (trees.stream name bytes others) = ap (trees.stream name bytes) (listed_files others)
listed_files (trees.storage name class inside others) = ap (trees.storage name class inside) (listed_files others)

pub files_listed_from : (xs : List Named) → files_listed (files_from xs) ≡ xs
files_listed_from [] = refl
files_listed_from ((name, bytes_at bytes) ∷ xs) = ap (λ l. (name, bytes_at bytes) ∷ l) (files_listed_from xs)
files_listed_from ((name, store_at inner) ∷ xs) = ap (λ l. (name, store_at inner) ∷ l) (files_listed_from xs)

-- what a law says
abbrev pub Steps : Type 0
Steps = (storages : List (List Child)) (parent : ℕ) (files more : FileTree) → grown (grown storages parent files) parent more ≡ grown storages parent (and_files files more)

abbrev pub Joined : Type 0
Joined = (files more : FileTree) → files_from (files_listed files ++ files_listed more) ≡ and_files files more

abbrev pub Counted : Type 0
Counted = (storages : List (List Child)) (parent : ℕ) (files : FileTree) → length (grown storages parent files) ≡ length storages + storages_in files

-- the number of a storage stays one
pub at_within : Counted → (first now : Listed) (at : ℕ) (files : FileTree) → now ≡ record first { storages = grown first.storages at files } → at < length first.storages → at < length now.storages
at_within counted first now at files e lt =
    let long : length now.storages ≡ length (grown first.storages at files) = ap (λ (l : Listed). length l.storages) e in
    omega (arith, long, counted first.storages at files, lt)

pub grown_more : Steps → Joined → (first now last : Listed) (at : ℕ) (xs : List Named) (k : ℕ) (x : Named) → slice_get xs k ≡ Some x → now ≡ record first { storages = grown first.storages at (files_from (take k xs)) } → last ≡ record now { storages = grown now.storages at (files_from (x ∷ [])) }
    → last ≡ record first { storages = grown first.storages at (files_from (take (k + 1) xs)) }
grown_more steps joined first now last at xs k x is p q =
    let front = files_from (take k xs) in
    let one = files_from (x ∷ []) in
    let root : last.root_class ≡ first.root_class = ap (λ (l : Listed). l.root_class) q ∙ ap (λ (l : Listed). l.root_class) p in
    let told : now.storages ≡ grown first.storages at front = ap (λ (l : Listed). l.storages) p in
    let parts : and_files front one ≡ files_from (take (k + 1) xs) =
    sym (joined front one) ∙ ap files_from (ap (λ l. l ++ files_listed one) (files_listed_from (take k xs)) ∙ ap (λ l. take k xs ++ l) (files_listed_from (x ∷ [])) ∙ sym (taken_at xs k x is)) in
    let all : last.storages ≡ grown first.storages at (files_from (take (k + 1) xs)) =
    ap (λ (l : Listed). l.storages) q ∙ ap (λ s. grown s at one) told ∙ steps first.storages at front one ∙ ap (grown first.storages at) parts in
    λ i. record { root_class = root i; storages = all i }

pub grown_all : (first now : Listed) (at : ℕ) (f : FileTree) (k : ℕ) → length (files_listed f) ≤ k → now ≡ record first { storages = grown first.storages at (files_from (take k (files_listed f))) } → now ≡ record first { storages = grown first.storages at f }
grown_all first now at f k le e =
    let all : files_from (take k (files_listed f)) ≡ f = ap files_from (take_all k (files_listed f) le) ∙ listed_files f in
    subst (λ (z : FileTree). now ≡ record first { storages = grown first.storages at z }) all e
