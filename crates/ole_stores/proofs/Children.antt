-- Children one after another: the members that they are, and the first storage that stands too deep.
use Rattle.std.proofs.Common.{◌≡◌, ◌∙◌, ap, refl, sym, ℕ, zero, suc, ◌+◌, ◌-◌, ◌≤◌, ◌<◌, List, [], ◌∷◌, ◌++◌, length, take, length-append, Option, Some, None, Result, Ok, Err, arith}
use Rattle.std.specs.Prelude.{slice_get}
use Rattle.std.specs.Option.{option_or}
use Rattle.carrier_model.specs.FileTrees as trees
use Rattle.carrier_model.specs.FileTrees.{Named, Member, bytes_at, store_at, Store, sorted}
use Rattle.carrier_model.specs.Files.{Children, none, storage, stream, Files}
use Rattle.carrier_model.specs.Lookups.{storage_at}
use Rattle.carrier_model.specs.Outcomes.{◌>>=◌, mapped}
use Rattle.carrier_model.specs.Reasons.{STORE_TOO_DEEP}
use Rattle.carrier_model.specs.Stores.{bare, store_of, deep_place, shallow}
use Rattle.carrier_model.specs.Streams.{Stream}
use Rattle.carrier_model.specs.Trail.{Fault}
use Rattle.carrier_model.proofs.Messages.{taken_at}
use Rattle.cfb_directory.specs.Found.{Child, children_list, child_stream}
use Rattle.msg_tree.specs.Gathering.{in_order}
use Rattle.ole_stores.specs.Levels.{members_of, members_within, store_within, store_below, member_at}

-- the children behind the first so many
abbrev pub behind : ℕ → Children → Children
behind zero c = c
behind (suc k) none = none
behind (suc k) (storage tag below rest) = behind k rest
behind (suc k) (stream tag x rest) = behind k rest

-- members in their order are what a storage means
pub members_sorted : (c : Children) → in_order (members_of c) ≡ sorted (bare c)
members_sorted none = refl
members_sorted (storage tag below rest) = ap (trees.with_storage tag.name tag.class (sorted (bare below))) (members_sorted rest)
members_sorted (stream tag x rest) = ap (trees.with_stream tag.name x.bytes) (members_sorted rest)

abbrev child : List ℕ → Option Files → Child
child name inner = record { name = name; storage = inner }

inner_of : {c d : Child} → Some c ≡ Some d → c.storage ≡ d.storage
inner_of e = ap (λ (o : Option Child). storage_of o) e
  where
    storage_of : Option Child → Option Files
    storage_of None = None
    storage_of (Some c) = c.storage

name_of : {c d : Child} → Some c ≡ Some d → c.name ≡ d.name
name_of e = ap (λ (o : Option Child). called o) e
  where
    called : Option Child → List ℕ
    called None = []
    called (Some c) = c.name

-- ---- the child at a place

pub storage_there : (most : ℕ) (c : Children) (k : ℕ) (name : List ℕ) (s : Files) → slice_get (children_list c) k ≡ Some (child name (Some s)) → member_at most c k ≡ mapped store_at (store_below most s)
storage_there most none k name s e = absurd cc
storage_there most (storage tag below rest) zero name s e = let h = inner_of e in let same : storage_at tag below ≡ s = cc in ap (λ f. mapped store_at (store_below most f)) same
storage_there most (storage tag below rest) (suc k) name s e = storage_there most rest k name s e
storage_there most (stream tag x rest) zero name s e = let h = inner_of e in absurd cc
storage_there most (stream tag x rest) (suc k) name s e = storage_there most rest k name s e

pub stream_there : (most : ℕ) (c : Children) (k : ℕ) (name : List ℕ) → slice_get (children_list c) k ≡ Some (child name None) → (x : Stream) × (child_stream c k ≡ Some x) × (member_at most c k ≡ Ok (bytes_at x.bytes))
stream_there most none k name e = absurd cc
stream_there most (storage tag below rest) zero name e = let h = inner_of e in absurd cc
stream_there most (storage tag below rest) (suc k) name e = stream_there most rest k name e
stream_there most (stream tag x rest) zero name e = (x, refl, refl)
stream_there most (stream tag x rest) (suc k) name e = stream_there most rest k name e

-- ---- one child after the other

abbrev value_of : {A : Type 0} → A → Result A Fault → A
value_of d (Ok x) = x
value_of d (Err g) = d

-- a store in which no storage stands too deep
below_ok : (n : ℕ) (s : Files) (m : Member) → mapped store_at (store_within n s) ≡ Ok m → (deep_place n s.children ≡ None) × (m ≡ store_at (store_of s))
below_ok n s m e = by (deep_place n s.children) refl e
  where
    by : (o : Option ℕ) → deep_place n s.children ≡ o → mapped store_at (shallow o >>= λ fits. Ok (store_of s)) ≡ Ok m → (deep_place n s.children ≡ None) × (m ≡ store_at (store_of s))
    by None h e = (h, ap (value_of m) (sym e))
    by (Some place) h e = absurd cc

below_err : (n : ℕ) (s : Files) (g : Fault) (rest : Option ℕ) → mapped store_at (store_within n s) ≡ Err g → shallow (option_or (deep_place n s.children) rest) ≡ Err g
below_err n s g rest e = by (deep_place n s.children) e
  where
    by : (o : Option ℕ) → mapped store_at (shallow o >>= λ fits. Ok (store_of s)) ≡ Err g → shallow (option_or o rest) ≡ Err g
    by None e = absurd cc
    by (Some place) e = let h : (STORE_TOO_DEEP, place + 66) ≡ g = cc in ap Err h

pub member_fails : (most : ℕ) (c : Children) (k : ℕ) (x : Child) (g : Fault) → slice_get (children_list c) k ≡ Some x → member_at most c k ≡ Err g → shallow (deep_place most (behind k c)) ≡ Err g
member_fails most none k x g at e = absurd cc
member_fails zero (storage tag below rest) zero x g at e = let h : (STORE_TOO_DEEP, tag.place + 66) ≡ g = cc in ap Err h
member_fails (suc n) (storage tag below rest) zero x g at e = below_err n (storage_at tag below) g (deep_place (suc n) rest) e
member_fails most (storage tag below rest) (suc k) x g at e = member_fails most rest k x g at e
member_fails most (stream tag s rest) zero x g at e = absurd cc
member_fails most (stream tag s rest) (suc k) x g at e = member_fails most rest k x g at e

-- the next children are clear of storages that stand too deep
pub member_clear : (most : ℕ) (c : Children) (k : ℕ) (x : Child) (m : Member) → slice_get (children_list c) k ≡ Some x → member_at most c k ≡ Ok m → deep_place most (behind k c) ≡ deep_place most (behind (suc k) c)
member_clear most none k x m at e = absurd cc
member_clear zero (storage tag below rest) zero x m at e = absurd cc
member_clear (suc n) (storage tag below rest) zero x m at e = ap (λ o. option_or o (deep_place (suc n) rest)) (below_ok n (storage_at tag below) m e).0
member_clear most (storage tag below rest) (suc k) x m at e = member_clear most rest k x m at e
member_clear most (stream tag s rest) zero x m at e = refl
member_clear most (stream tag s rest) (suc k) x m at e = member_clear most rest k x m at e

-- the member that the child at a place is
pub member_is : (most : ℕ) (c : Children) (k : ℕ) (x : Child) (m : Member) → slice_get (children_list c) k ≡ Some x → member_at most c k ≡ Ok m → slice_get (members_of c) k ≡ Some (x.name, m)
member_is most none k x m at e = absurd cc
member_is zero (storage tag below rest) zero x m at e = absurd cc
member_is (suc n) (storage tag below rest) zero x m at e = λ i. Some (name_of at i, sym (below_ok n (storage_at tag below) m e).1 i)
member_is most (storage tag below rest) (suc k) x m at e = member_is most rest k x m at e
member_is most (stream tag s rest) zero x m at e = let h : bytes_at s.bytes ≡ m = cc in λ i. Some (name_of at i, h i)
member_is most (stream tag s rest) (suc k) x m at e = member_is most rest k x m at e

-- where no child stands there are no others
pub none_behind : (c : Children) (k : ℕ) → slice_get (children_list c) k ≡ None → behind k c ≡ none
none_behind none zero e = refl
none_behind none (suc k) e = refl
none_behind (storage tag below rest) zero e = absurd cc
none_behind (storage tag below rest) (suc k) e = none_behind rest k e
none_behind (stream tag x rest) zero e = absurd cc
none_behind (stream tag x rest) (suc k) e = none_behind rest k e

pub all_members : (c : Children) (k : ℕ) → slice_get (children_list c) k ≡ None → length (members_of c) ≤ k
all_members none k e = omega arith
all_members (storage tag below rest) zero e = absurd cc
all_members (storage tag below rest) (suc k) e = omega (arith, all_members rest k e)
all_members (stream tag x rest) zero e = absurd cc
all_members (stream tag x rest) (suc k) e = omega (arith, all_members rest k e)

-- ---- all of them

pub stopped_within : {A : Type 0} (o : Option ℕ) (f : Unit {0} → Result A Fault) (g : Fault) → shallow o ≡ Err g → (shallow o >>= f) ≡ Err g
stopped_within None f g e = absurd cc
stopped_within (Some place) f g e = let h : (STORE_TOO_DEEP, place + 66) ≡ g = cc in ap Err h

-- ---- one member more

pub nearer : (n : ℕ) (old new : List Named) (x : Named) → length old < n → new ≡ old ++ x ∷ [] → n - length new < n - length old
nearer n old new x lt e = omega (arith, lt, ap length e, length-append old (x ∷ []))

pub one_more : (old new : List Named) (x : Named) (xs : List Named) → old ≡ take (length old) xs → slice_get xs (length old) ≡ Some x → new ≡ old ++ x ∷ [] → (length new ≡ suc (length old)) × (new ≡ take (length new) xs)
one_more old new x xs is at e =
    let long : length new ≡ length old + 1 = omega (arith, ap length e, length-append old (x ∷ [])) in
    (omega (arith, long), e ∙ (ap (λ l. l ++ x ∷ []) is ∙ (sym (taken_at xs (length old) x at) ∙ ap (λ n. take n xs) (sym long))))

-- all members, and the store of them
pub all_read : (most : ℕ) (s : Files) (x : Store) (xs : List Named) → members_within most s.children ≡ Ok xs → x ≡ record { class = s.class; members = in_order xs } → store_within most s ≡ Ok x
all_read most s x xs e is = by (deep_place most s.children) e
  where
    by : (o : Option ℕ) → (shallow o >>= λ fits. Ok (members_of s.children)) ≡ Ok xs → (shallow o >>= λ fits. Ok (store_of s)) ≡ Ok x
    by None e =
        let same : members_of s.children ≡ xs = ap (value_of xs) e in
        ap Ok (ap (λ f. record { class = s.class; members = f }) (sym (members_sorted s.children) ∙ ap in_order same) ∙ sym is)
    by (Some place) e = absurd cc
