-- How much room children need, one after the other.
use Rattle.std.proofs.Common.{◌≡◌, ℕ, zero, suc, ◌+◌, ◌<◌, ◌^◌, List, [], ◌∷◌, ◌++◌, length, get_or, take, map, sym, ap, subst, ◌∙◌, arith}
use Rattle.std.specs.List.{AllByRecursion}
use Rattle.std.specs.Prelude.{flat_map}
use Rattle.std.proofs.lemmas.Grind.{flat_map-append}
use Rattle.std.proofs.lemmas.List.{append-nil, take_more}
use Rattle.carrier_model.specs.FileTrees.{FileTree, entries_in}
use Rattle.carrier_model.specs.Totals.{capped}
use Rattle.cfb_list.specs.Contents.{child_seen, file_seen, name_seen}
use Rattle.cfb_list.specs.Listed.{Child, stream, storage, built, IsChild}
use Rattle.cfb_writer.specs.Laid.{bytes_of}
use Rattle.cfb_writer.specs.Placed.{AreCounted, slot_of}
use Rattle.cfb_writer.specs.Shares.{share_pieces}
use Rattle.cfb_writer.specs.Totals.{AreKnown, totals_of}
use Rattle.cfb_writer.specs.declared.streams.Share.TheVariants.{Short, Long}
use Rattle.cfb_list.specs.Sorting.{siblings_in_order}
use Rattle.cfb_list.specs.Trees.{inside, mini_in, long_in}
use Rattle.cfb_list.specs.declared.views.ContentView.{ContentView}
use Rattle.cfb_list.specs.declared.views.FileView.{FileView}
use Rattle.cfb_list.specs.declared.views.KindView.{KindView}
use Rattle.cfb_list.specs.declared.views.KindView.TheVariants.{Stream, Storage as StorageKind}
use Rattle.cfb_writer.specs.declared.totals.Totals.{Totals}

pub entries_more : (tree : ℕ → FileTree) (xs ys : List Child) → entries_in (built tree (xs ++ ys)) ≡ entries_in (built tree xs) + entries_in (built tree ys)
entries_more tree [] ys = omega arith
entries_more tree (stream name bytes ∷ xs) ys = omega (arith, entries_more tree xs ys)
entries_more tree (storage name class number ∷ xs) ys = omega (arith, entries_more tree xs ys)

mini_more : (tree : ℕ → FileTree) (xs ys : List Child) → mini_in (built tree (xs ++ ys)) ≡ mini_in (built tree xs) + mini_in (built tree ys)
mini_more tree [] ys = omega arith
mini_more tree (stream name bytes ∷ xs) ys = omega (arith, mini_more tree xs ys)
mini_more tree (storage name class number ∷ xs) ys = omega (arith, mini_more tree xs ys)

long_more : (z : ℕ) (tree : ℕ → FileTree) (xs ys : List Child) → long_in z (built tree (xs ++ ys)) ≡ long_in z (built tree xs) + long_in z (built tree ys)
long_more z tree [] ys = omega arith
long_more z tree (stream name bytes ∷ xs) ys = omega (arith, long_more z tree xs ys)
long_more z tree (storage name class number ∷ xs) ys = omega (arith, long_more z tree xs ys)

capped-add : (a b n : ℕ) → n ≡ a + b → capped (capped a + capped b) ≡ capped n
capped-add a b n e = omega (arith, e)

same_totals : (a b : Totals) → a.entries ≡ b.entries → a.mini ≡ b.mini → a.long ≡ b.long → a ≡ b
same_totals a b p q r = λ i. record { entries = p i; mini = q i; long = r i }

-- one child more
pub totals_more : (z : ℕ) (tree : ℕ → FileTree) (xs ys : List Child) (sum one new : Totals) → sum ≡ totals_of z (built tree xs) → one ≡ totals_of z (built tree ys) → new.entries ≡ capped (sum.entries + one.entries) → new.mini ≡ capped (sum.mini + one.mini) → new.long ≡ capped (sum.long + one.long) → new ≡ totals_of z (built tree (xs ++ ys))
totals_more z tree xs ys sum one new s o e m l =
    let a = built tree xs in
    let b = built tree ys in
    same_totals new (totals_of z (built tree (xs ++ ys)))
    (e ∙ ap (λ (t : Totals). capped (t.entries + one.entries)) s ∙ ap (λ (t : Totals). capped (capped (entries_in a) + t.entries)) o ∙ capped-add (entries_in a) (entries_in b) _ (entries_more tree xs ys))
    (m ∙ ap (λ (t : Totals). capped (t.mini + one.mini)) s ∙ ap (λ (t : Totals). capped (capped (mini_in a) + t.mini)) o ∙ capped-add (mini_in a) (mini_in b) _ (mini_more tree xs ys))
    (l ∙ ap (λ (t : Totals). capped (t.long + one.long)) s ∙ ap (λ (t : Totals). capped (capped (long_in z a) + t.long)) o ∙ capped-add (long_in z a) (long_in z b) _ (long_more z tree xs ys))

pub nameless : {B : Type 0} (of : B → List ℕ) (parent count : ℕ) (name : List ℕ) (kind : KindView B) → IsChild parent count (child_seen of name kind) → IsChild parent count (child_seen of [] kind)
nameless of parent count name (Stream content) h = omega arith
nameless of parent count name (StorageKind class number) h = (omega arith, h.1, h.2, h.3)

-- a file that is looked at
pub unnamed : {B : Type 0} (of : B → List ℕ) (parent n m : ℕ) (file : FileView B) → m ≡ n → IsChild parent n (file_seen of file) → IsChild parent m (child_seen of [] file.kind)
unnamed of parent n m file e h = nameless of parent m (name_seen file.name) file.kind (subst (λ (k : ℕ). IsChild parent k (file_seen of file)) (sym e) h)

pub each_at : {X : Type 0} (P : X → Type 0) (xs : List X) (k : ℕ) (d : X) → k < length xs → AllByRecursion P xs → P (get_or xs k d)
each_at P [] k d lt all = absurd (omega (arith, lt))
each_at P (x ∷ xs) zero d lt all = all.0
each_at P (x ∷ xs) (suc k) d lt all = each_at P xs k d (omega (arith, lt)) all.1

each_front : {X : Type 0} (P : X → Type 0) (xs ys : List X) → AllByRecursion P (xs ++ ys) → AllByRecursion P xs
each_front P [] ys all = tt
each_front P (x ∷ xs) ys all = (all.0, each_front P xs ys all.1)

each_behind : {X : Type 0} (P : X → Type 0) (xs ys : List X) → AllByRecursion P (xs ++ ys) → AllByRecursion P ys
each_behind P [] ys all = all
each_behind P (x ∷ xs) ys all = each_behind P xs ys all.1

-- what is so of all children is so of those of a file
pub each_of : {X Y : Type 0} (P : Y → Type 0) (f : X → List Y) (xs : List X) (k : ℕ) (x : X) → k < length xs → x ≡ get_or xs k x → AllByRecursion P (flat_map f xs) → AllByRecursion P (f x)
each_of P f [] k x lt at all = absurd (omega (arith, lt))
each_of P f (y ∷ ys) zero x lt at all = subst (λ z. AllByRecursion P (f z)) (sym at) (each_front P (f y) (flat_map f ys) all)
each_of P f (y ∷ ys) (suc k) x lt at all = each_of P f ys k x (omega (arith, lt)) at (each_behind P (f y) (flat_map f ys) all)

-- and those of one file more
pub files_more : {X Y : Type 0} (f : X → List Y) (xs : List X) (k : ℕ) (x : X) → k < length xs → x ≡ get_or xs k x → flat_map f (take (k + 1) xs) ≡ flat_map f (take k xs) ++ f x
files_more f xs k x lt at =
    ap (flat_map f) (take_more xs k x lt)
    ∙ flat_map-append f (take k xs) (get_or xs k x ∷ [])
    ∙ ap (λ (ys : List _). flat_map f (take k xs) ++ ys) (append-nil (f (get_or xs k x)) ∙ ap f (sym at))

-- what a stream needs, and a storage with what is in it
pub stream_totals : {B : Type 0} (of : B → List ℕ) (z : ℕ) (tree : ℕ → FileTree) (name : List ℕ) (kind : KindView B) (content : ContentView B) (mini long : ℕ) → kind ≡ Stream content → mini < 2 ^ 64 → long < 2 ^ 64 → mini ≡ share_pieces Short 64 (bytes_of (slot_of (child_seen of name kind) 0 0 0)) → long ≡ share_pieces Long z (bytes_of (slot_of (child_seen of name kind) 0 0 0)) → ◌≡◌ {A = Totals} (record { entries = 1; mini = mini; long = long }) (totals_of z (built tree (child_seen of name kind ∷ [])))
stream_totals of z tree name kind content mini long is m l e f =
    let e' = (rw is at e) in
    let f' = (rw is at f) in
    rw is (same_totals (record { entries = 1; mini = mini; long = long }) (totals_of z (built tree (child_seen of name (Stream content) ∷ []))) (omega arith) (omega (arith, m, e')) (omega (arith, l, f')))

pub storage_totals : {B : Type 0} (of : B → List ℕ) (z : ℕ) (tree : ℕ → FileTree) (name : List ℕ) (kind : KindView B) (class : List ℕ) (number mini long : ℕ) (inner new : Totals) → kind ≡ StorageKind class number → inner ≡ totals_of z (tree number) → mini ≡ share_pieces Short 64 (bytes_of (slot_of (child_seen of name kind) 0 0 0)) → long ≡ share_pieces Long z (bytes_of (slot_of (child_seen of name kind) 0 0 0)) → new.entries ≡ capped (1 + inner.entries) → new.mini ≡ capped (mini + inner.mini) → new.long ≡ capped (long + inner.long) → new ≡ totals_of z (built tree (child_seen of name kind ∷ []))
storage_totals of z tree name kind class number mini long inner new is known e f a b c =
    let none : mini ≡ 0 = (rw is at e) in
    let nothing : long ≡ 0 = (rw is at f) in
    rw is (same_totals new (totals_of z (built tree (storage name class number ∷ [])))
    (omega (arith, a, ap (λ (t : Totals). t.entries) known))
    (omega (arith, b, none, ap (λ (t : Totals). t.mini) known))
    (omega (arith, c, nothing, ap (λ (t : Totals). t.long) known)))

-- ---- what storages need in order

module _ (entries : (storages : List (List Child)) (k : ℕ) → entries_in (inside (map siblings_in_order storages) k) ≡ entries_in (inside storages k)) where
  pub counted_in_order : (z : ℕ) (storages ordered : List (List Child)) (totals : List Totals) → ordered ≡ map siblings_in_order storages → AreKnown z (inside storages) 0 totals → AreCounted (inside ordered) 0 totals
  counted_in_order z storages ordered totals e known k d low high = ap (λ (t : Totals). t.entries) (known k d low high) ∙ ap capped (sym (entries storages k) ∙ ap (λ (ss : List (List Child)). entries_in (inside ss k)) (sym e))

  pub needed_in_order : ((storages : List (List Child)) (k : ℕ) → mini_in (inside (map siblings_in_order storages) k) ≡ mini_in (inside storages k)) → ((z : ℕ) (storages : List (List Child)) (k : ℕ) → long_in z (inside (map siblings_in_order storages) k) ≡ long_in z (inside storages k)) → (z : ℕ) (storages : List (List Child)) (k : ℕ) → totals_of z (inside storages k) ≡ totals_of z (inside (map siblings_in_order storages) k)
  needed_in_order mini long z storages k = same_totals (totals_of z (inside storages k)) (totals_of z (inside (map siblings_in_order storages) k)) (ap capped (sym (entries storages k))) (ap capped (sym (mini storages k))) (ap capped (sym (long z storages k)))
