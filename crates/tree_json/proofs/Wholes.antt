-- What is whole, list by list, is a tree of bytes.
use Rattle.std.proofs.Common.{◌≡◌, ℕ, zero, suc, ◌+◌, ◌<◌, ◌≤◌, ◌^◌, List, [], ◌∷◌, length, take, take_all, get_or, Some, sym, subst, arith}
use Rattle.std.specs.Prelude.{slice_get, All, Result, Ok, Err, OnOk}
use Rattle.std.specs.List.{AllByRecursion}
use Rattle.carrier_io.specs.Pieces.{joined}
use Rattle.carrier_model.proofs.Messages.{taken_at}
use Rattle.carrier_model.specs.FileTrees as trees
use Rattle.carrier_model.specs.FileTrees.{FileTree, Named, files_listed}
use Rattle.carrier_model.specs.Tree.{Message, message, Attachments, no_more, attached, Attached, attachments_from, Body, nothing, embedded, stored}
use Rattle.carrier_model.specs.Trees.{KeyHasUnits, IsPropList, HasPropLists, HavePropLists, BodyHasPropLists}
use Rattle.carrier_model.specs.Values.{Prop, IsProp}
use Rattle.json_model.specs.ByteTrees.{AreBytes, PropHasBytes, PropsHaveBytes, FilesHaveBytes, HasBytes, HaveBytes, BodyHasBytes}
use Rattle.json_model.proofs.Meant.{turns_joined}
use Rattle.msg_tree.specs.Keeping.{HasStores, HaveStores, BodyHasStores}
use Rattle.tree_json.specs.Bodies.{MessageIsWhole, StoreIsWhole}
use Rattle.tree_json.specs.Wholes.{IsWholeProp, IsWholeList, MemberHasBytes, IsWhole, AreWhole, BodyIsWhole, AttachedIsWhole}

-- what holds where there is a value, whatever the answer is
pub on_ok : {A E P : Type 0} (r : Result A E) → P → OnOk r P
on_ok (Ok v) p = p
on_ok (Err g) p = tt

-- ---- lists

-- what each place has, told in turn
pub bytes_are : (x : List ℕ) → ((i : ℕ) → get_or x i 0 < 256) → AreBytes x
bytes_are [] h = tt
bytes_are (b ∷ x) h = (h 0, bytes_are x (λ i. h (suc i)))

pub units_are : (x : List ℕ) → ((i : ℕ) → get_or x i 0 < 2 ^ 16) → All (λ u. u < 2 ^ 16) x
units_are [] h k d lt = absurd (omega (arith, lt))
units_are (u ∷ x) h zero d lt = h 0
units_are (u ∷ x) h (suc k) d lt = units_are x (λ i. h (suc i)) k d (omega (arith, lt))

-- one element more
pub whole_more : {A : Type 0} (P : A → Type 0) (xs : List A) (k : ℕ) (x : A) → AllByRecursion P (take k xs) → slice_get xs k ≡ Some x → P x → AllByRecursion P (take (k + 1) xs)
whole_more P xs k x h at one = subst (AllByRecursion P) (sym (taken_at xs k x at)) (turns_joined P (take k xs) (x ∷ []) h (one, tt))

-- all of them
pub whole_all : {A : Type 0} (P : A → Type 0) (xs : List A) (k : ℕ) → AllByRecursion P (take k xs) → length xs ≤ k → AllByRecursion P xs
whole_all P xs k h all = subst (AllByRecursion P) (take_all k xs all) h

by_places : {A : Type 0} (P Q : A → Type 0) → ((x : A) → P x → Q x) → (xs : List A) → AllByRecursion P xs → All Q xs
by_places P Q each [] h k d lt = absurd (omega (arith, lt))
by_places P Q each (x ∷ xs) h zero d lt = each x h.0
by_places P Q each (x ∷ xs) h (suc k) d lt = by_places P Q each xs h.1 k d (omega (arith, lt))

in_turn : {A : Type 0} (P Q : A → Type 0) → ((x : A) → P x → Q x) → (xs : List A) → AllByRecursion P xs → AllByRecursion Q xs
in_turn P Q each [] h = tt
in_turn P Q each (x ∷ xs) h = (each x h.0, in_turn P Q each xs h.1)

-- ---- pieces

-- one more
pub bytes_more : (piece : ℕ → List ℕ) (k : ℕ) (p : List ℕ) → AreBytes (joined piece k) → p ≡ piece k → AreBytes p → AreBytes (joined piece (k + 1))
bytes_more piece k p h e b =
    let s : k + 1 ≡ suc k = omega arith in
    rw s (turns_joined (λ b. b < 256) (joined piece k) (piece k) h (subst AreBytes e b))

-- ---- stores

pub members_have_bytes : (f : FileTree) → AllByRecursion (λ (e : Named). MemberHasBytes e.1) (files_listed f) → FilesHaveBytes f
members_have_bytes trees.no_file h = tt
members_have_bytes (trees.stream name x others) h = (h.0, members_have_bytes others h.1)
members_have_bytes (trees.storage name class inside others) h = (h.0.0, h.0.1, members_have_bytes others h.1)

-- ---- messages

pub body_whole : (b : Body) → MessageIsWhole b → StoreIsWhole b → BodyIsWhole b
body_whole nothing m s = tt
body_whole (embedded inner) m s = m
body_whole (stored store) m s = s

pub attachments_whole : (xs : List Attached) → AllByRecursion AttachedIsWhole xs → AreWhole (attachments_from xs)
attachments_whole [] h = tt
attachments_whole (x ∷ xs) h = (h.0, attachments_whole xs h.1)

list_bytes : (props : List Prop) → IsWholeList props → PropsHaveBytes props
list_bytes props h = in_turn IsWholeProp PropHasBytes (λ p w. (w.0.0, w.1)) props h.0

list_is : (props : List Prop) → IsWholeList props → IsPropList props
list_is props h = record {
  sorted = h.1;
  each = by_places IsWholeProp IsProp (λ p w. w.2) props h.0;
  units = by_places IsWholeProp (λ p. KeyHasUnits p.key) (λ p w. w.0.1) props h.0;
}

mutual
  pub whole_bytes : (t : Message) → IsWhole t → HasBytes t
  whole_bytes (message props recipients attachments) h =
      (list_bytes props h.0, in_turn IsWholeList PropsHaveBytes list_bytes recipients h.1, attached_bytes attachments h.2)

  attached_bytes : (a : Attachments) → AreWhole a → HaveBytes a
  attached_bytes no_more h = tt
  attached_bytes (attached props body others) h = (list_bytes props h.0.0, body_bytes body h.0.1, attached_bytes others h.1)

  body_bytes : (b : Body) → BodyIsWhole b → BodyHasBytes b
  body_bytes nothing h = tt
  body_bytes (embedded inner) h = whole_bytes inner h
  body_bytes (stored store) h = h

mutual
  pub whole_lists : (t : Message) → IsWhole t → HasStores t → HasPropLists t
  whole_lists (message props recipients attachments) h s =
      (list_is props h.0, (by_places IsWholeList IsPropList list_is recipients h.1, attached_lists attachments h.2 s))

  attached_lists : (a : Attachments) → AreWhole a → HaveStores a → HavePropLists a
  attached_lists no_more h s = tt
  attached_lists (attached props body others) h s = (list_is props h.0.0, (body_lists body h.0.1 s.0, attached_lists others h.1 s.1))

  body_lists : (b : Body) → BodyIsWhole b → BodyHasStores b → BodyHasPropLists b
  body_lists nothing h s = tt
  body_lists (embedded inner) h s = whole_lists inner h s
  body_lists (stored store) h s = s
