-- What is opened is what the file holds.
use Rattle.std.proofs.Common.{◌≡◌, ℕ, zero, suc, ◌+◌, ◌*◌, ◌/◌, ◌<◌, ◌≤◌, List, [], ◌∷◌, ◌++◌, length, map, Bool, true, false, ◌&&◌, ◌||◌, eqb, leb, cond, refl, sym, ◌∙◌, ap, subst, arith, Ok, Err, Result, inl, inr}
use Rattle.std.specs.Prelude.{IsTrue}
use Rattle.std.specs.List.{range_with_len, list_any, IsDistinct, AllByRecursion}
use Rattle.std.proofs.lemmas.Bool.{ne_eqb, eq-eqb, eqb-true, eqb-false, cases_Bool, cases_eq, or_cases}
use Rattle.std.proofs.lemmas.List.{length-append, length-map}
use Rattle.std.proofs.lemmas.List.FromFn.{length-range_with_len}
use Rattle.std.proofs.lemmas.Map.Steps.{length-le_from_distinct_below}
use Rattle.std.proofs.lemmas.Map.Views.{any-filter_same}
use Rattle.carrier_model.specs.Trail.{Fault}
use Rattle.carrier_model.specs.Outcomes.{mapped}
use Rattle.carrier_model.specs.Chains.{member, Chain, end_word}
use Rattle.carrier_model.specs.Entries.{Entry}
use Rattle.carrier_model.specs.Files.{Children, none, Files, Claim, Opened, directory_in, first_link, all_families, names_of, stream_ids, claims_of, chain_in, files_of, opened_of, open_of, open_file}
use Rattle.carrier_model.specs.Holds.{AreApart, HaveNames, IsStream, IsMini, IsLoaded, Holds, FileHolds, child_names, long_parts, short_parts}
use Rattle.carrier_model.specs.Links.{Directory, Links, leaf, node, no_link, ids, is_storage, has_type, below_depth, below_link, links_of, Linked}
use Rattle.carrier_model.specs.Loads.{Loaded, Mini, load_of, taken_by, chain_bound, mini_bound, long_part, short_part, stream_of}
use Rattle.carrier_model.specs.Sectors.{is_size, u16_of, sector_words, table_words}
use Rattle.carrier_model.specs.Streams.{Stream}
use Rattle.carrier_model.specs.Tables.{Head, is_signature, major, sector_size, header_of}
use Rattle.carrier_model.proofs.Apart.{distinct-split}
use Rattle.carrier_model.proofs.ChildLaws.{each-append, names_ok, names_from, own_names, tree_have, tree_had, tree_same}
use Rattle.carrier_model.proofs.ClaimedLaws.{claims_ok, claims_from, claims_with, chain_with, chain_in-agrees, streams-by_number, parts-by_number, rising-apart}
use Rattle.carrier_model.proofs.LoadedLaws.{load_ok, load_from, few_sectors, few_words}
use Rattle.carrier_model.proofs.PlaceLaws.{size_cases}
use Rattle.carrier_model.proofs.TableLaws.{answered, same_answer, new-apart, apart-new}
use Rattle.carrier_model.proofs.VisitLaws.{bind_ok, check_ok, visit-sound, visit-only, unseen-le}

-- the files of a file whose parts are read
parts_hold : (z : ℕ) (b : List ℕ) (s : Loaded) (t : Links) (cs : List Claim) (u : Unit {0}) → load_of z b ≡ Ok s → links_of (directory_in z b s.directory) (first_link (directory_in z b s.directory)) (0 ∷ []) ≡ Ok t → names_of (directory_in z b s.directory) (all_families t) ≡ Ok u → claims_of z b s (directory_in z b s.directory) (stream_ids (directory_in z b s.directory) t) (taken_by s) [] ≡ Ok cs → Holds z b (files_of z b s (chain_in cs) t)
unfolding IsDistinct
parts_hold z b s t cs u load links names claims =
    let d = directory_in z b s.directory in
    let streams : ℕ → Stream = λ id. stream_of z b s (d.entry id) (chain_in cs id) in
    let l = load_ok z b s load in
    let v = visit-sound (suc d.count) d (first_link d) (0 ∷ []) t (omega (arith, unseen-le d.count (0 ∷ []))) links in
    let n = names_ok d (all_families t) u names in
    let c = claims_ok z b s d (stream_ids d t) (taken_by s) [] cs claims l.1 tt in
    let apart : IsDistinct eqb (map (λ (c : Claim). c.id) cs) = subst (λ (ns : List ℕ). IsDistinct eqb ns) (sym c.numbers) (rising-apart (λ id. member id (ids t) && eqb (d.entry id).kind 2) 0 d.count) in
    let agrees = chain_in-agrees cs apart in
    record {
      loaded = s;
      tables = l.0;
      links = t;
      linked = v.0;
      once = new-apart (0 ∷ []) (ids t) (tt, tt) v.1;
      chain = chain_in cs;
      streams = subst (λ (ns : List ℕ). AllByRecursion (λ id. IsStream z b s (d.entry id) (chain_in cs id)) ns) c.numbers (streams-by_number (λ id c. IsStream z b s (d.entry id) c) (chain_in cs) cs agrees c.streams);
      apart = subst (λ (p : List ℕ). IsDistinct eqb (taken_by s ++ p)) (parts-by_number (λ id c. long_part (d.entry id) c) (chain_in cs) cs agrees ∙ ap (long_parts d (chain_in cs)) c.numbers) c.apart;
      mini_apart = subst (λ (p : List ℕ). IsDistinct eqb p) (parts-by_number (λ id c. short_part (d.entry id) c) (chain_in cs) cs agrees ∙ ap (short_parts d (chain_in cs)) c.numbers) c.mini_apart;
      is_tree = refl;
      root_names = subst AreApart (sym (own_names d streams t)) n.0;
      names = tree_have d streams t none n.1 tt;
    }

pub opened_holds : (z : ℕ) (b : List ℕ) (o : Opened) → opened_of z b ≡ Ok o → Holds z b (files_of z b o.loaded (chain_in o.claims) o.links)
unfolding opened_of
opened_holds z b o is =
    let ps = bind_ok (load_of z b) _ o is in
    let s = ps.0 in
    let d = directory_in z b s.directory in
    let pt = bind_ok (links_of d (first_link d) (0 ∷ [])) _ o ps.2 in
    let t = pt.0 in
    let pn = bind_ok (names_of d (all_families t)) _ o pt.2 in
    let pc = bind_ok (claims_of z b s d (stream_ids d t) (taken_by s) []) _ o pn.2 in
    let cs = pc.0 in
    subst (λ (o : Opened). Holds z b (files_of z b o.loaded (chain_in o.claims) o.links)) (same_answer (record { loaded = s; links = t; claims = cs }) o pc.2)
    (parts_hold z b s t cs pn.0 ps.1 pt.1 pn.1 pc.1)

mapped_ok : {A B : Type 0} (f : A → B) (r : Result A Fault) (y : B) → mapped f r ≡ Ok y → (x : A) × (r ≡ Ok x) × (f x ≡ y)
mapped_ok f (Ok x) y h = (x, refl, same_answer (f x) y h)
mapped_ok f (Err g) y h = absurd (cc)

pub open_sound : (z : ℕ) (b : List ℕ) (f : Files) → open_of z b ≡ Ok f → Holds z b f
open_sound z b f is =
    let p = mapped_ok (λ (o : Opened). files_of z b o.loaded (chain_in o.claims) o.links) (opened_of z b) f is in
    subst (Holds z b) p.2 (opened_holds z b p.0 p.1)

-- ---- the other way round

below_member : (n : ℕ) (c : List ℕ) (q : ℕ) → AllByRecursion (λ k. k < n) c → list_any (eqb q) c ≡ true → q < n
below_member n [] q h k = absurd (cc)
below_member n (x ∷ c) q h k =
    elim (or_cases (eqb q x) (list_any (eqb q) c) k) [
      | inl same ↦ rw (eqb-true q x same) h.0
      | inr later ↦ below_member n c q h.1 later
    ]

pub chain_length : (T : List ℕ) (start bound : ℕ) (c : List ℕ) → Chain T start bound c → length c ≤ bound
chain_length T start bound c is = length-le_from_distinct_below c bound is.distinct (λ q k. below_member bound c q is.below k)

few_in_directory : (z n : ℕ) → IsTrue (is_size z) → n ≤ 524288 → z / 128 * n ≤ no_link
few_in_directory z n h few =
    elim (size_cases z h) [
      | inl a ↦ rw a (omega (arith, few))
      | inr a ↦ rw a (omega (arith, few))
    ]

words_few : (z : ℕ) (b sectors : List ℕ) → z / 4 ≤ 1024 → length (table_words z b sectors) ≤ 1024 * length sectors
words_few z b [] few = omega arith
words_few z b (n ∷ sectors) few =
    let one : length (sector_words z b n) ≤ 1024 = simp (length-map, length-range_with_len) few in
    rw (length-append (sector_words z b n) (table_words z b sectors)) (omega (arith, one, words_few z b sectors few))

few_quarters : (z : ℕ) → IsTrue (is_size z) → z / 4 ≤ 1024
few_quarters z h =
    elim (size_cases z h) [
      | inl a ↦ rw a (omega arith)
      | inr a ↦ rw a (omega arith)
    ]

pub mini_few : (z : ℕ) (b : List ℕ) (s : Loaded) (first : ℕ) (root : Entry) → IsTrue (is_size z) → length b ≤ 268435456 → IsMini z b s.table first root s.mini → mini_bound s.mini ≤ end_word
mini_few z b s first root h short is =
    elim (cases_Bool (eqb root.size 0)) [
      | inl nothing ↦ subst (λ (m : Mini). mini_bound m ≤ end_word) (sym (is.empty (eqb-true root.size 0 nothing))) (omega arith)
      | inr some ↦
          let has = is.some (omega (arith, eqb-false root.size 0 some)) in
          let sectors = chain_length s.table.words first (chain_bound z b s.table.words) s.mini.table.sectors has.chain in
          let words : length s.mini.table.words ≤ 1024 * length s.mini.table.sectors = rw has.words (words_few z b s.mini.table.sectors (few_quarters z h)) in
          omega (arith, words, sectors, few_sectors z b s.table.words h short)
    ]

-- chains have few members
pub loaded_few : (z : ℕ) (b : List ℕ) (s : Loaded) → IsTrue (is_size z) → length b ≤ 268435456 → IsLoaded z b s → (chain_bound z b s.table.words ≤ end_word) × (mini_bound s.mini ≤ end_word)
loaded_few z b s h short is =
    (few_words z b s.table.words h short, mini_few z b s is.head.mini_fat ((directory_in z b s.directory).entry 0) h short is.mini)

-- what is linked is there, and has a type
pub linked_each : (d : Directory) (depth x : ℕ) (t : Links) → Linked d depth x t → AllByRecursion (λ id. (id < d.count) × (has_type (d.entry id) ≡ true)) (ids t)
linked_each d depth x leaf h = tt
linked_each d depth x (node id l r c) h =
    let P : ℕ → Type 0 = λ id. (id < d.count) × (has_type (d.entry id) ≡ true) in
    ((h.1, h.2.typed), each-append P (ids l) (ids r ++ ids c) (linked_each d depth (d.entry id).left l h.3) (each-append P (ids r) (ids c) (linked_each d depth (d.entry id).right r h.4) (linked_each d (below_depth (d.entry id) depth) (below_link (d.entry id)) c h.5)))

member_grows : (x : ℕ) (xs ys : List ℕ) → AllByRecursion (λ y. member y xs ≡ true) ys → AllByRecursion (λ y. member y (x ∷ xs) ≡ true) ys
member_grows x xs [] h = tt
member_grows x xs (y ∷ ys) h = (later (eqb y x) (member y xs) h.0, member_grows x xs ys h.1)
  where
    later : (p q : Bool) → q ≡ true → (p || q) ≡ true
    later true q k = refl
    later false q k = k

each_member : (xs : List ℕ) → AllByRecursion (λ y. member y xs ≡ true) xs
each_member [] = tt
each_member (x ∷ xs) = (rw (eq-eqb x x refl) refl, member_grows x xs xs (each_member xs))

pub in_range : (x a n : ℕ) → a ≤ x → x < a + n → member x (range_with_len a n) ≡ true
in_range x a zero low high = absurd (omega (arith, low, high))
in_range x a (suc n) low high =
    elim (cases_eq x a) [
      | inl same ↦ rw (eq-eqb x a same) refl
      | inr other ↦ rw (ne_eqb x a other) (in_range x (a + 1) n (omega (arith, low, other)) (omega (arith, high)))
    ]

type_two : (e : Entry) → has_type e ≡ true → is_storage e ≡ false → eqb e.kind 2 ≡ true
type_two e h other = rw other at h

pub stream_member : (d : Directory) (t : Links) (id : ℕ) → id < d.count → has_type (d.entry id) ≡ true → is_storage (d.entry id) ≡ false → member id (ids t) ≡ true → member id (stream_ids d t) ≡ true
stream_member d t id below typed other visited =
    let kind : eqb (d.entry id).kind 2 ≡ true = type_two (d.entry id) typed other in
    let test : (k : ℕ) → eqb id k ≡ true → (member k (ids t) && eqb (d.entry k).kind 2) ≡ true = λ k e. rw (← eqb-true id k e, visited, kind) refl in
    any-filter_same (eqb id) (λ k. member k (ids t) && eqb (d.entry k).kind 2) true test (range_with_len 0 d.count) ∙ in_range id 0 d.count (omega arith) (omega (arith, below))

-- the streams of a tree, by chains that are the same where they are asked for
same_streams : (d : Directory) (t : Links) (f g : ℕ → List ℕ) (h : ℕ → List ℕ → Stream) (xs : List ℕ) → AllByRecursion (λ id. (id < d.count) × (has_type (d.entry id) ≡ true)) xs → AllByRecursion (λ id. member id (ids t) ≡ true) xs → ((id : ℕ) → member id (stream_ids d t) ≡ true → f id ≡ g id) → AllByRecursion (λ id. is_storage (d.entry id) ≡ false → h id (f id) ≡ h id (g id)) xs
same_streams d t f g h [] there visited same = tt
same_streams d t f g h (id ∷ xs) there visited same =
    (λ other. ap (h id) (same id (stream_member d t id there.0.0 there.0.1 other visited.0)), same_streams d t f g h xs there.1 visited.1 same)

-- what a file holds is opened
pub holds_opened : (z : ℕ) (b : List ℕ) (f : Files) → IsTrue (is_size z) → length b ≤ 268435456 → Holds z b f → open_of z b ≡ Ok f
unfolding opened_of
holds_opened z b f h short is =
    let s = is.loaded in
    let d = directory_in z b s.directory in
    let t = is.links in
    let streams : ℕ → Stream = λ id. stream_of z b s (d.entry id) (is.chain id) in
    let tree : f ≡ files_of z b s is.chain t = is.is_tree in
    let few : d.count ≤ no_link = few_in_directory z (length s.directory) h (omega (arith, chain_length s.table.words is.tables.head.directory (chain_bound z b s.table.words) s.directory is.tables.directory, few_sectors z b s.table.words h short)) in
    let load = load_from z b s h short is.tables (distinct-split (taken_by s) (long_parts d is.chain (stream_ids d t)) is.apart).0 in
    let links : links_of d (first_link d) (0 ∷ []) ≡ Ok t = visit-only (suc d.count) d (first_link d) (0 ∷ []) t few (omega (arith, unseen-le d.count (0 ∷ []))) is.linked (apart-new (0 ∷ []) (ids t) is.once) in
    let had = tree_had d streams 1 (d.entry 0).child t none few is.linked (subst (λ (f : Files). HaveNames f.children) tree is.names) in
    let root = subst AreApart (ap (λ (f : Files). child_names f.children) tree ∙ own_names d streams t) is.root_names in
    let names = names_from d (all_families t) (root, had.0) in
    let bounds = loaded_few z b s h short is.tables in
    let claims = claims_from z b s d is.chain (stream_ids d t) (taken_by s) [] bounds.0 bounds.1 is.streams is.apart is.mini_apart in
    let opened : opened_of z b ≡ Ok (record { loaded = s; links = t; claims = claims_with is.chain (stream_ids d t) }) = rw (load, links, names, claims) refl in
    let same = tree_same d (λ id. stream_of z b s (d.entry id) (chain_in (claims_with is.chain (stream_ids d t)) id)) streams t none
    (same_streams d t (chain_in (claims_with is.chain (stream_ids d t))) is.chain (λ id c. stream_of z b s (d.entry id) c) (ids t) (linked_each d 1 (d.entry 0).child t is.linked) (each_member (ids t)) (λ id k. chain_with is.chain (stream_ids d t) id k)) in
    ap (mapped (λ (o : Opened). files_of z b o.loaded (chain_in o.claims) o.links)) opened
    ∙ ap (λ (c : Children). answered (files c (d.place 0) (d.entry 0).class)) same ∙ ap answered (sym tree)
  where
    files : Children → ℕ → List ℕ → Files
    files c p class = record { place = p; class = class; children = c }

-- it holds one tree of files alone, and none where there is a fault
pub one_file : (z : ℕ) (b : List ℕ) (f g : Files) → IsTrue (is_size z) → length b ≤ 268435456 → Holds z b f → Holds z b g → f ≡ g
one_file z b f g h short x y = same_answer f g (sym (holds_opened z b f h short x) ∙ holds_opened z b g h short y)

pub no_fault : (z : ℕ) (b : List ℕ) (f : Files) (g : Fault) → IsTrue (is_size z) → length b ≤ 268435456 → open_of z b ≡ Err g → Holds z b f → ⊥
no_fault z b f g h short e x = differ f g (sym (holds_opened z b f h short x) ∙ e)
  where
    differ : (f : Files) (g : Fault) → answered f ≡ Err g → ⊥
    differ f g e = absurd (cc)

-- ---- either version

-- the size that a version says is one of the two
pub size_known : (b : List ℕ) → IsTrue (is_size (sector_size b))
size_known b = either (eqb (u16_of b 26) 4)
  where
    either : (four : Bool) → IsTrue (is_size (cond four 4096 512))
    either true = refl
    either false = refl

-- a header that is read says its size
pub size_said : (z : ℕ) (b : List ℕ) (h : Head) → IsTrue (is_size z) → header_of z b ≡ Ok h → sector_size b ≡ z
unfolding header_of
size_said z b h size is =
    let long = check_ok (leb 512 (length b)) _ _ _ h is in
    let signed = check_ok (is_signature b) _ _ _ h long.1 in
    let version = eqb-true (u16_of b 26) (major z) (check_ok (eqb (u16_of b 26) (major z)) _ _ _ h signed.1).0 in
    elim (size_cases z size) [
      | inl a ↦ ap (λ v. cond (eqb v 4) 4096 512) (version ∙ ap major a) ∙ sym a
      | inr a ↦ ap (λ v. cond (eqb v 4) 4096 512) (version ∙ ap major a) ∙ sym a
    ]

-- what is held in sectors of a size is held in those that the version says
pub file_holds : (z : ℕ) (b : List ℕ) (f : Files) → IsTrue (is_size z) → Holds z b f → FileHolds b f
file_holds z b f size h = subst (λ k. Holds k b f) (sym (size_said z b h.tables.head size h.tables.header)) h

pub file_opened : (b : List ℕ) (f : Files) → length b ≤ 268435456 → FileHolds b f → open_file b ≡ Ok f
file_opened b f short h = holds_opened (sector_size b) b f (size_known b) short h
