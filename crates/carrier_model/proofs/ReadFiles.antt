-- The streams of a compound file are made of its bytes, and are shorter than it; its names are short, and differ in each
-- storage.
use Rattle.std.proofs.Common.{◌≡◌, ℕ, zero, suc, ◌+◌, ◌-◌, ◌/◌, ◌<◌, ◌≤◌, Bool, true, false, cond, List, [], ◌∷◌, ◌++◌, length, get_or, refl, sym, subst, ◌∙◌, arith}
use Rattle.std.specs.Prelude.{nat_eq, nat_le, ◌||◌, IsTrue, Option, Some, None}
use Rattle.std.specs.Int.{div_ceil}
use Rattle.std.specs.List.{AllByRecursion}
use Rattle.std.proofs.lemmas.List.FromFn.{length-map-range_with_len}
use Rattle.std.proofs.lemmas.List.{length-map}
use Rattle.std.proofs.lemmas.Bool.{eqb-true, eq-eqb, leb-true, leb-false}
use Rattle.std.proofs.lemmas.List.Folds.{list_any-append}
use Rattle.carrier_model.specs.Bytes.{AllBytes}
use Rattle.carrier_model.specs.Chains.{member}
use Rattle.carrier_model.specs.Entries.{Entry}
use Rattle.carrier_model.specs.FileTrees.{IsFileName}
use Rattle.carrier_model.specs.Links.{Directory, Links, leaf, node, ids, is_storage, has_type, has_name}
use Rattle.carrier_model.specs.Loads.{Loaded, Mini, chain_bound, long_stream, short_stream, stream_of}
use Rattle.carrier_model.specs.Sectors.{is_size, sector_count}
use Rattle.carrier_model.specs.Streams.{Stream, place_in, places_of, starts_of, mini_starts, content}
use Rattle.carrier_model.specs.Files.{Children, none, storage, stream, Files, Tag, name_of, directory_in, stream_ids, tree_of}
use Rattle.carrier_model.specs.Holds.{IsStream, Holds, AreApart, child_names, HaveNames}
use Rattle.carrier_model.specs.Lookups.{Found, same_name, storage_at, stream_named, storage_named}
use Rattle.carrier_model.proofs.HoldsLaws.{chain_length, linked_each, stream_member}
use Rattle.carrier_model.proofs.ReadTags.{EntryFits, entry_fits, class_fits, some_entry, linked_named}

-- bytes, and fewer than the greatest input has
pub record Short (x : List ℕ) : Type 0 where
  pub bytes : AllBytes x
  pub few : length x < 0x1000_0000

-- a short name, and a class of 16 bytes
pub record TagFits (tag : Tag) : Type 0 where
  pub name : IsFileName tag.name
  pub class : length tag.class ≡ 16

abbrev EachFitsIn : Children → Type 0
EachFitsIn none = Unit {0}
EachFitsIn (storage tag below rest) = TagFits tag × EachFitsIn below × EachFitsIn rest
EachFitsIn (stream tag s rest) = TagFits tag × Short s.bytes × EachFitsIn rest

abbrev pub ChildrenFit : Children → Type 0
ChildrenFit none = Unit {0}
ChildrenFit (storage tag below rest) = ChildrenFit below × ChildrenFit rest × TagFits tag × AreApart (child_names below)
ChildrenFit (stream tag s rest) = Short s.bytes × ChildrenFit rest × TagFits tag

both_fit : (c : Children) → EachFitsIn c → HaveNames c → ChildrenFit c
both_fit none h n = tt
both_fit (storage tag below rest) h n = (both_fit below h.1 n.1, both_fit rest h.2 n.2, h.0, n.0)
both_fit (stream tag s rest) h n = (h.1, both_fit rest h.2 n, h.0)

-- a storage
pub record FilesFit (s : Files) : Type 0 where
  pub class : length s.class ≡ 16
  pub apart : AreApart (child_names s.children)
  pub children : ChildrenFit s.children

-- ---- one stream

content_bytes : (b places : List ℕ) → AllBytes b → AllBytes (content b places)
content_bytes b [] h i = omega arith
content_bytes b (p ∷ places) h zero = h p
content_bytes b (p ∷ places) h (suc i) = content_bytes b places h i

content_length : (b starts : List ℕ) (each size : ℕ) → length (content b (places_of each starts size)) ≡ size
content_length b starts each size = length-map (places_of each starts size) (λ p. get_or b p 0) ∙ length-map-range_with_len (place_in each starts) 0 size

-- a chain has no room for the header
sectors_short : (z size count len : ℕ) → IsTrue (is_size z) → 4096 ≤ size → div_ceil size z ≤ count → count ≤ (len - z + (z - 1)) / z → size < len
sectors_short z size count len h some enough few = by (nat_eq z 512) (nat_eq z 4096) refl refl h
  where
    by : (p q : Bool) → nat_eq z 512 ≡ p → nat_eq z 4096 ≡ q → IsTrue (p || q) → size < len
    by true q e f g =
        let is : z ≡ 512 = eqb-true z 512 e in
        let a : div_ceil size 512 ≤ count = subst (λ k. div_ceil size k ≤ count) is enough in
        let c : count ≤ (len - 512 + (512 - 1)) / 512 = subst (λ k. count ≤ (len - k + (k - 1)) / k) is few in
        omega (arith, a, c, some)
    by false true e f g =
        let is : z ≡ 4096 = eqb-true z 4096 f in
        let a : div_ceil size 4096 ≤ count = subst (λ k. div_ceil size k ≤ count) is enough in
        let c : count ≤ (len - 4096 + (4096 - 1)) / 4096 = subst (λ k. count ≤ (len - k + (k - 1)) / k) is few in
        omega (arith, a, c, some)
    by false false e f g = absurd cc

long_fits : (z : ℕ) (b : List ℕ) (s : Loaded) (e : Entry) (c : List ℕ) → IsTrue (is_size z) → AllBytes b → length b ≤ 0x1000_0000 → 4096 ≤ e.size → IsStream z b s e c → Short (long_stream z b e.size c).bytes
long_fits z b s e c h bytes short some is =
    let l = is.long some in
    let count : length c ≤ sector_count z b = omega (arith, chain_length s.table.words e.start (chain_bound z b s.table.words) c l.chain) in
    let len = content_length b (starts_of z c) z e.size in
    let lt : e.size < length b = sectors_short z e.size (length c) (length b) h some l.enough count in
    record { bytes = content_bytes b (places_of z (starts_of z c) e.size) bytes; few = omega (arith, len, lt, short) }

short_fits : (z : ℕ) (b : List ℕ) (m : Mini) (size : ℕ) (c : List ℕ) → AllBytes b → size < 4096 → Short (short_stream z b m size c).bytes
short_fits z b m size c bytes lt = record {
  bytes = content_bytes b (places_of 64 (mini_starts z (starts_of z m.stream) c) size) bytes;
  few = omega (arith, content_length b (mini_starts z (starts_of z m.stream) c) 64 size, lt);
}

stream_fits : (z : ℕ) (b : List ℕ) (s : Loaded) (e : Entry) (c : List ℕ) → IsTrue (is_size z) → AllBytes b → length b ≤ 0x1000_0000 → IsStream z b s e c → Short (stream_of z b s e c).bytes
stream_fits z b s e c h bytes short is = by (nat_le 4096 e.size) refl
  where
    by : (l : Bool) → nat_le 4096 e.size ≡ l → Short (cond l (long_stream z b e.size c) (short_stream z b s.mini e.size c)).bytes
    by true f = long_fits z b s e c h bytes short (leb-true 4096 e.size f) is
    by false f = short_fits z b s.mini e.size c bytes (leb-false 4096 e.size f)

-- ---- all streams

found_at : (P : ℕ → Type 0) (xs : List ℕ) (q : ℕ) → AllByRecursion P xs → member q xs ≡ true → P q
found_at P [] q h e = absurd cc
found_at P (x ∷ xs) q h e = by (nat_eq q x) refl (λ g. found_at P xs q h.1 g) e
  where
    by : (b : Bool) → nat_eq q x ≡ b → (member q xs ≡ true → P q) → (b || member q xs) ≡ true → P q
    by true f later g = subst P (sym (eqb-true q x f)) h.0
    by false f later g = later g

member_left : (q : ℕ) (xs ys : List ℕ) → member q xs ≡ true → member q (xs ++ ys) ≡ true
member_left q xs ys e = list_any-append (nat_eq q) xs ys ∙ rw e refl

member_right : (q : ℕ) (xs ys : List ℕ) → member q ys ≡ true → member q (xs ++ ys) ≡ true
member_right q xs ys e = list_any-append (nat_eq q) xs ys ∙ (rw e (or_true (member q xs)))
  where
    or_true : (b : Bool) → (b || true) ≡ true
    or_true true = refl
    or_true false = refl

later_member : (q x : ℕ) (xs : List ℕ) → member q xs ≡ true → member q (x ∷ xs) ≡ true
later_member q x xs e = member_right q (x ∷ []) xs e

first_member : (x : ℕ) (xs : List ℕ) → member x (x ∷ xs) ≡ true
first_member x xs = rw (eq-eqb x x refl) refl

abbrev OneFits : Directory → (ℕ → Stream) → ℕ → Type 0
OneFits d streams q = EntryFits (d.entry q) × (is_storage (d.entry q) ≡ false → Short (streams q).bytes)

abbrev EachFits : Directory → (ℕ → Stream) → List ℕ → Type 0
EachFits d streams xs = (q : ℕ) → member q xs ≡ true → OneFits d streams q

abbrev tag_of : Directory → ℕ → Tag
tag_of d id = record { name = name_of (d.entry id); id = id; place = d.place id; class = (d.entry id).class }

one_child : (d : Directory) (streams : ℕ → Stream) (id : ℕ) (below after : Children) → OneFits d streams id → EachFitsIn below → EachFitsIn after
    → EachFitsIn (cond (is_storage (d.entry id)) (storage (tag_of d id) below after) (stream (tag_of d id) (streams id) after))
one_child d streams id below after h f g = by (is_storage (d.entry id)) refl
  where
    tag : TagFits (tag_of d id)
    tag = record { name = h.0.name; class = h.0.class }

    by : (b : Bool) → is_storage (d.entry id) ≡ b → EachFitsIn (cond b (storage (tag_of d id) below after) (stream (tag_of d id) (streams id) after))
    by true e = (tag, f, g)
    by false e = (tag, h.1 e, g)

tree_fits : (d : Directory) (streams : ℕ → Stream) (t : Links) (rest : Children) → EachFits d streams (ids t) → EachFitsIn rest → EachFitsIn (tree_of d streams t rest)
tree_fits d streams leaf rest h g = g
tree_fits d streams (node id l r c) rest h g =
    let L = ids l in
    let R = ids r in
    let C = ids c in
    let after = tree_fits d streams r rest (λ q e. h q (later_member q id (L ++ (R ++ C)) (member_right q L (R ++ C) (member_left q R C e)))) g in
    let below = tree_fits d streams c none (λ q e. h q (later_member q id (L ++ (R ++ C)) (member_right q L (R ++ C) (member_right q R C e)))) tt in
    tree_fits d streams l (cond (is_storage (d.entry id)) (storage (tag_of d id) (tree_of d streams c none) (tree_of d streams r rest)) (stream (tag_of d id) (streams id) (tree_of d streams r rest)))
    (λ q e. h q (later_member q id (L ++ (R ++ C)) (member_left q L (R ++ C) e))) (one_child d streams id (tree_of d streams c none) (tree_of d streams r rest) (h id (first_member id (L ++ (R ++ C)))) below after)

pub children_fit : (z : ℕ) (b : List ℕ) (f : Files) → IsTrue (is_size z) → AllBytes b → length b ≤ 0x1000_0000 → Holds z b f → ChildrenFit f.children
children_fit z b f h bytes short is =
    let s = is.loaded in
    let d = directory_in z b s.directory in
    let streams : ℕ → Stream = λ id. stream_of z b s (d.entry id) (is.chain id) in
    let there = linked_each d 1 (d.entry 0).child is.links is.linked in
    let named = linked_named d 1 (d.entry 0).child is.links is.linked in
    let each : EachFits d streams (ids is.links) = λ q e. (
    let called = found_at (λ id. (id < d.count) × (has_name (d.entry id) ≡ true)) (ids is.links) q named e in
    let has = found_at (λ id. (id < d.count) × (has_type (d.entry id) ≡ true)) (ids is.links) q there e in
    let claimed : is_storage (d.entry q) ≡ false → IsStream z b s (d.entry q) (is.chain q) = λ other. found_at (λ id. IsStream z b s (d.entry id) (is.chain id)) (stream_ids d is.links) q is.streams (stream_member d is.links q has.0 has.1 other e) in
    (entry_fits z b s.directory q h bytes is.tables.whole called.0 called.1, λ other. stream_fits z b s (d.entry q) (is.chain q) h bytes short (claimed other))) in
    both_fit f.children (subst (λ (g : Files). EachFitsIn g.children) (sym is.is_tree) (tree_fits d streams is.links none each tt)) is.names

-- the root's class is that of the first entry
root_class : (z : ℕ) (b : List ℕ) (f : Files) → IsTrue (is_size z) → Holds z b f → length f.class ≡ 16
root_class z b f h is =
    let d = directory_in z b is.loaded.directory in
    subst (λ (g : Files). length g.class ≡ 16) (sym is.is_tree) (class_fits z b is.loaded.directory 0 h is.tables.whole (some_entry z (length is.loaded.directory) h is.tables.some))

pub files_fit : (z : ℕ) (b : List ℕ) (f : Files) → IsTrue (is_size z) → AllBytes b → length b ≤ 0x1000_0000 → Holds z b f → FilesFit f
files_fit z b f h bytes short is = record { class = root_class z b f h is; apart = is.root_names; children = children_fit z b f h bytes short is }

-- ---- streams by their names

abbrev pub FoundFits : Option Found → Type 0
FoundFits None = Unit {0}
FoundFits (Some f) = Short f.stream.bytes

pub stream_named_fits : (c : Children) (name : List ℕ) → ChildrenFit c → FoundFits (stream_named c name)
stream_named_fits none name h = tt
stream_named_fits (storage tag below rest) name h = stream_named_fits rest name h.1
stream_named_fits (stream tag s rest) name h = by (same_name tag.name name) (stream_named_fits rest name h.1)
  where
    by : (b : Bool) → FoundFits (stream_named rest name) → FoundFits (cond b (Some (record { stream = s; entry = tag.place })) (stream_named rest name))
    by true g = h.0
    by false g = g

abbrev pub StorageFits : Option Files → Type 0
StorageFits None = Unit {0}
StorageFits (Some s) = FilesFit s

pub storage_named_fits : (c : Children) (name : List ℕ) → ChildrenFit c → StorageFits (storage_named c name)
storage_named_fits none name h = tt
storage_named_fits (storage tag below rest) name h = by (same_name tag.name name) (storage_named_fits rest name h.1)
  where
    by : (b : Bool) → StorageFits (storage_named rest name) → StorageFits (cond b (Some (storage_at tag below)) (storage_named rest name))
    by true g = record { class = h.2.class; apart = h.3; children = h.0 }
    by false g = g
storage_named_fits (stream tag s rest) name h = storage_named_fits rest name h.1
