-- Storages that are added one by one.
use Rattle.std.proofs.Common.{◌≡◌, ℕ, zero, suc, ◌+◌, ◌<◌, List, [], ◌∷◌, ◌++◌, length, take, None, Some, Result, Ok, Err, refl, sym, ap, subst, ◌∙◌, arith}
use Rattle.std.specs.Prelude.{OnOk, slice_get, replicate}
use Rattle.std.specs.List.{flat_map}
use Rattle.std.proofs.lemmas.List.{length-take-le}
use Rattle.std.proofs.lemmas.Option.{slice_get_within}
use Rattle.carrier_io.specs.declared.failures.NoMemory.{NoMemory}
use Rattle.carrier_model.specs.FileTrees as trees
use Rattle.carrier_model.specs.FileTrees.{FileTree, and_files, NO_CLASS}
use Rattle.carrier_model.specs.Keys.{Name}
use Rattle.carrier_model.specs.Tree.{Message, Attached, attachments_from, names_in, names_in_props, names_below, names_at, names_of}
use Rattle.carrier_model.specs.Values.{Prop}
use Rattle.carrier_model.proofs.Messages.{taken_at}
use Rattle.carrier_model.proofs.Orders.{name_exact}
use Rattle.carrier_model.proofs.SortedElements.{all_elements}
use Rattle.cfb_list.specs.Grown.{grown, storages_in}
use Rattle.cfb_list.specs.Listed.{Child, Listed, storage, with_child}
use Rattle.msg_model.specs.NameMap.{pairs_from}
use Rattle.msg_model.specs.ReadBack.{HaveFewParts, BodyHasFewParts}
use Rattle.msg_model.specs.StreamNames.{ATTACHMENT_NAME, RECIPIENT_NAME, numbered_name}
use Rattle.msg_model.specs.WrittenMsg.{attachment_files, list_files, recipient_files}
use Rattle.msg_model.proofs.WrittenMessages.{in_front, in_back}
use Rattle.msg_nameid.specs.Maps.{names_in as names_of_pairs}
use Rattle.msg_storage.specs.Written.{Adds, Known, attachment_tree, inside_attachment, recipient_tree}
use Rattle.msg_tree.specs.Keeping.{HaveStores, BodyHasStores}

-- what laws say
abbrev pub Steps : Type 0
Steps = (storages : List (List Child)) (parent : ℕ) (files more : FileTree) → grown (grown storages parent files) parent more ≡ grown storages parent (and_files files more)

abbrev pub Counted : Type 0
Counted = (storages : List (List Child)) (parent : ℕ) (files : FileTree) → length (grown storages parent files) ≡ length storages + storages_in files

-- what follows where a call answered
pub on_ok : {A E P Q : Type 0} (r : Result A E) → (P → Q) → OnOk r P → OnOk r Q
on_ok (Ok x) f h = f h
on_ok (Err e) f h = tt

-- one tree behind another
pub adds_two : Steps → (old mid new : Listed) (at : ℕ) (f g : FileTree) → Adds old mid at f → Adds mid new at g → Adds old new at (and_files f g)
adds_two steps old mid new at f g p q =
    let root : new.root_class ≡ old.root_class = ap (λ (l : Listed). l.root_class) q ∙ ap (λ (l : Listed). l.root_class) p in
    let all : new.storages ≡ grown old.storages at (and_files f g) = ap (λ (l : Listed). l.storages) q ∙ (ap (λ (l : Listed). grown l.storages at g) p ∙ steps old.storages at f g) in
    λ i. record { root_class = root i; storages = all i }

-- the number of a storage stays one
pub adds_within : Counted → (old new : Listed) (at : ℕ) (f : FileTree) → Adds old new at f → at < length old.storages → at < length new.storages
adds_within counted old new at f p lt =
    let long : length new.storages ≡ length (grown old.storages at f) = ap (λ (l : Listed). length l.storages) p in
    omega (arith, long, counted old.storages at f, lt)

-- a storage, and then what is in it
pub adds_storage : (old mid new : Listed) (at number : ℕ) (name class : List ℕ) (inside : FileTree) → number ≡ length old.storages → mid ≡ record old { storages = with_child old.storages at (storage name class (length old.storages)) ++ [] ∷ [] } → Adds mid new number inside
    → Adds old new at (trees.storage name class inside trees.no_file)
adds_storage old mid new at number name class inside e p q =
    let root : new.root_class ≡ old.root_class = ap (λ (l : Listed). l.root_class) q ∙ ap (λ (l : Listed). l.root_class) p in
    let all : new.storages ≡ grown (with_child old.storages at (storage name class (length old.storages)) ++ [] ∷ []) (length old.storages) inside = ap (λ (l : Listed). l.storages) q ∙ (λ i. grown (p i).storages (e i) inside) in
    λ i. record { root_class = root i; storages = all i }

-- the same where what is in it may have been refused
pub told_storage : (r : Result (Unit {0}) NoMemory) (old mid new : Listed) (at number : ℕ) (name class : List ℕ) (inside : FileTree) → number ≡ length old.storages → mid ≡ record old { storages = with_child old.storages at (storage name class (length old.storages)) ++ [] ∷ [] } → OnOk r (Adds mid new number inside)
    → OnOk r (Adds old new at (trees.storage name class inside trees.no_file))
told_storage (Ok u) old mid new at number name class inside e p q = adds_storage old mid new at number name class inside e p q
told_storage (Err e) old mid new at number name class inside f p q = tt

-- ---- recipients

recipients_more : (names : List Name) (i : ℕ) (xs : List (List Prop)) (y : List Prop) → recipient_files names i (xs ++ y ∷ []) ≡ and_files (recipient_files names i xs) (recipient_tree names (i + length xs) y)
recipients_more names i [] y = let e : i ≡ i + 0 = omega arith in ap (λ k. recipient_tree names k y) e
recipients_more names i (x ∷ xs) y =
    let e : i + 1 + length xs ≡ i + length (x ∷ xs) = omega arith in
    ap (trees.storage (numbered_name RECIPIENT_NAME i) NO_CLASS (list_files names (replicate 8 0) x None)) (recipients_more names (i + 1) xs y ∙ ap (λ k. and_files (recipient_files names (i + 1) xs) (recipient_tree names k y)) e)

pub recipients_taken : (names : List Name) (xs : List (List Prop)) (k : ℕ) (x : List Prop) → slice_get xs k ≡ Some x → and_files (recipient_files names 0 (take k xs)) (recipient_tree names k x) ≡ recipient_files names 0 (take (k + 1) xs)
recipients_taken names xs k x at =
    let lt = slice_get_within xs k x at in
    let long : 0 + length (take k xs) ≡ k = omega (arith, length-take-le k xs (omega (arith, lt))) in
    ap (λ n. and_files (recipient_files names 0 (take k xs)) (recipient_tree names n x)) (sym long) ∙ (sym (recipients_more names 0 (take k xs) x) ∙ ap (recipient_files names 0) (sym (taken_at xs k x at)))

pub recipient_known : (names : List Name) (xs : List (List Prop)) (k : ℕ) (x : List Prop) → slice_get xs k ≡ Some x → Known names (flat_map names_in_props xs) → Known names (names_in_props x)
recipient_known names [] k x at h = cc
recipient_known names (y ∷ xs) zero x at h = let e : y ≡ x = cc in subst (λ (z : List Prop). Known names (names_in_props z)) e (in_front names (names_in_props y) (flat_map names_in_props xs) h)
recipient_known names (y ∷ xs) (suc k) x at h = recipient_known names xs k x at (in_back names (names_in_props y) (flat_map names_in_props xs) h)

-- ---- attachments

attachments_more : (names : List Name) (i : ℕ) (xs : List Attached) (y : Attached) → attachment_files names i (attachments_from (xs ++ y ∷ [])) ≡ and_files (attachment_files names i (attachments_from xs)) (attachment_tree names (i + length xs) y)
attachments_more names i [] y = let e : i ≡ i + 0 = omega arith in ap (λ k. attachment_tree names k y) e
attachments_more names i (x ∷ xs) y =
    let e : i + 1 + length xs ≡ i + length (x ∷ xs) = omega arith in
    ap (trees.storage (numbered_name ATTACHMENT_NAME i) NO_CLASS (inside_attachment names x)) (attachments_more names (i + 1) xs y ∙ ap (λ k. and_files (attachment_files names (i + 1) (attachments_from xs)) (attachment_tree names k y)) e)

pub attachments_taken : (names : List Name) (xs : List Attached) (k : ℕ) (x : Attached) → slice_get xs k ≡ Some x → and_files (attachment_files names 0 (attachments_from (take k xs))) (attachment_tree names k x) ≡ attachment_files names 0 (attachments_from (take (k + 1) xs))
attachments_taken names xs k x at =
    let lt = slice_get_within xs k x at in
    let long : 0 + length (take k xs) ≡ k = omega (arith, length-take-le k xs (omega (arith, lt))) in
    ap (λ n. and_files (attachment_files names 0 (attachments_from (take k xs))) (attachment_tree names n x)) (sym long) ∙ (sym (attachments_more names 0 (take k xs) x) ∙ ap (λ l. attachment_files names 0 (attachments_from l)) (sym (taken_at xs k x at)))

pub attachment_known : (names : List Name) (xs : List Attached) (k : ℕ) (x : Attached) → slice_get xs k ≡ Some x → Known names (names_below (attachments_from xs)) → Known names (names_at x)
attachment_known names [] k x at h = cc
attachment_known names (y ∷ xs) zero x at h = let e : y ≡ x = cc in subst (λ (z : Attached). Known names (names_at z)) e (in_front names (names_at y) (names_below (attachments_from xs)) h)
attachment_known names (y ∷ xs) (suc k) x at h = attachment_known names xs k x at (in_back names (names_at y) (names_below (attachments_from xs)) h)

pub attachment_few : (xs : List Attached) (k : ℕ) (x : Attached) → slice_get xs k ≡ Some x → HaveFewParts (attachments_from xs) → BodyHasFewParts x.1
attachment_few [] k x at h = cc
attachment_few (y ∷ xs) zero x at h = let e : y ≡ x = cc in subst (λ (z : Attached). BodyHasFewParts z.1) e h.0
attachment_few (y ∷ xs) (suc k) x at h = attachment_few xs k x at h.1

pub attachment_stores : (xs : List Attached) (k : ℕ) (x : Attached) → slice_get xs k ≡ Some x → HaveStores (attachments_from xs) → BodyHasStores x.1
attachment_stores [] k x at h = cc
attachment_stores (y ∷ xs) zero x at h = let e : y ≡ x = cc in subst (λ (z : Attached). BodyHasStores z.1) e h.0
attachment_stores (y ∷ xs) (suc k) x at h = attachment_stores xs k x at h.1

-- ---- a whole tree

pub names_of_map : (k : ℕ) (names : List Name) → names_of_pairs (pairs_from k names) ≡ names
names_of_map k [] = refl
names_of_map k (name ∷ names) = ap (λ l. name ∷ l) (names_of_map (k + 1) names)

pub all_known : (t : Message) → Known (names_of t) (names_in t)
all_known t name c = all_elements name_exact (names_in t) [] name c
