-- An opened file, from its parts.
use Rattle.std.proofs.Common.{◌≡◌, ℕ, zero, suc, ◌+◌, ◌<◌, ◌≤◌, List, [], ◌∷◌, ◌++◌, length, get_or, filter, take, ◌-◌, ◌/◌, Bool, true, false, ◌&&◌, ◌||◌, eqb, refl, sym, ◌∙◌, ap, subst, arith, Ok, Err, Result, inl, inr}
use Rattle.std.specs.List.{range_with_len}
use Rattle.std.proofs.lemmas.List.{length-take, length-map}
use Rattle.cfb_sectors.specs.declared.view.StreamView.{StreamView}
use Rattle.std.proofs.lemmas.Bool.{cases_Bool, cases_eq, ne_eqb}
use Rattle.carrier_model.specs.Trail.{Fault}
use Rattle.carrier_model.specs.Outcomes.{◌>>=◌, mapped}
use Rattle.carrier_model.specs.Chains.{member}
use Rattle.carrier_model.specs.Entries.{entry_at}
use Rattle.carrier_model.specs.Files.{Files, none, Opened, Claim, directory_in, first_link, all_families, names_of, stream_ids, claims_of, chain_in, tree_of, files_of, opened_of, open_of, open_file, folded, name_of}
use Rattle.carrier_model.specs.Links.{Directory, Links, leaf, node, ids, Linked, links_of, below_depth, below_link}
use Rattle.carrier_model.specs.Loads.{Loaded, load_of, taken_by, stream_of}
use Rattle.carrier_model.specs.Marks.{Marks}
use Rattle.carrier_model.specs.Streams.{Stream}
use Rattle.carrier_model.specs.Tables.{sector_size}
use Rattle.carrier_io.specs.declared.reasons.Stop.{Stop}
use Rattle.carrier_io.specs.declared.reasons.Stop.TheVariants as stops
use Rattle.carrier_io.specs.Reads.{Fails}
use Rattle.cfb_sectors.specs.States.{State, entries, entry_of, place_of}
use Rattle.cfb_directory.specs.Nodes.{AreStreams, is_wanted, claims_in}
use Rattle.carrier_io.specs.Steps.{stepped}
use Rattle.cfb_directory.specs.Families.{family_at}
use Rattle.cfb_directory.specs.Named.{key_of, are_apart}
use Rattle.cfb_directory.specs.Outlines.{linked_of, IsOutline}
use Rattle.cfb_directory.specs.Shapes.{table_of, deepest, shape}
use Rattle.cfb_directory.specs.Trees.{Table, built, under, ends}
use Rattle.cfb_directory.specs.Walks.{directory_of}
use Rattle.cfb_directory.specs.declared.outline.Outline.{Outline}
use Rattle.cfb_directory.proofs.KidLaws.{in-left, in-right, self}
use Rattle.cfb_directory.proofs.NameLaws.{families_apart}
use Rattle.cfb_directory.proofs.OutlineLaws.{outline_links, outline_own, outline_kids, outline_families, outline_others}
use Rattle.cfb_directory.proofs.TreeLaws.{HasKids, Agrees, levels, levels_bound, tree_built, all_ends}

filter-same : (f g : ℕ → Bool) (a n : ℕ) → ((k : ℕ) → k < a + n → f k ≡ g k) → filter f (range_with_len a n) ≡ filter g (range_with_len a n)
filter-same f g a zero same = refl
filter-same f g a (suc n) same =
    elim (cases_Bool (g a)) [
      | inl ours ↦ rw (same a (omega arith), ours, filter-same f g (a + 1) n (λ k below. same k (omega arith))) refl
      | inr other ↦ rw (same a (omega arith), other, filter-same f g (a + 1) n (λ k below. same k (omega arith))) refl
    ]

and_false : (b : Bool) → (b && false) ≡ false
and_false true = refl
and_false false = refl

wanted_same : (d : Directory) (t : Links) (visited : List Bool) → Marks visited (0 ∷ ids t) → length visited ≡ d.count → (d.entry 0).kind ≡ 5 → (k : ℕ) → k < d.count → is_wanted visited d k ≡ (member k (ids t) && eqb (d.entry k).kind 2)
wanted_same d t visited marks count root k below =
    let inside : k < length visited = rw count below in
    elim (cases_eq k 0) [
      | inl same ↦
          let kind : eqb (d.entry k).kind 2 ≡ false = ne_eqb (d.entry k).kind 2 (λ e. five (d.entry k).kind (subst (λ j. (d.entry j).kind ≡ 5) (sym same) root) e) in
          rw (kind, and_false (get_or visited k false), and_false (member k (ids t))) refl
      | inr other ↦ ap (λ m. m && eqb (d.entry k).kind 2) (marks k inside ∙ rw (ne_eqb k 0 other) refl)
    ]
  where
    five : (n : ℕ) → n ≡ 5 → n ≡ 2 → ⊥
    five n a b = omega arith

-- the streams that are claimed are the visited ones
pub streams_wanted : (d : Directory) (t : Links) (visited : List Bool) → Marks visited (0 ∷ ids t) → length visited ≡ d.count → (d.entry 0).kind ≡ 5 → filter (is_wanted visited d) (range_with_len 0 d.count) ≡ stream_ids d t
streams_wanted d t visited marks count root = filter-same (is_wanted visited d) (λ k. member k (ids t) && eqb (d.entry k).kind 2) 0 d.count (λ k below. wanted_same d t visited marks count root k (omega arith))

-- What stops a part stops the whole.
pub load_stops : (z : ℕ) (b : List ℕ) (e : Stop) → Fails e (load_of z b) → Fails e (open_of z b)
unfolding opened_of
load_stops z b stops.NoMemory h = tt
load_stops z b (stops.Fault g) h = rw h refl

pub linked_stops : (z : ℕ) (b : List ℕ) (s : Loaded) (e : Stop) → load_of z b ≡ Ok s → Fails e (linked_of (directory_in z b s.directory)) → Fails e (open_of z b)
unfolding opened_of
linked_stops z b s stops.NoMemory is h = tt
linked_stops z b s (stops.Fault g) is h = rw is (regroup (links_of (directory_in z b s.directory) (first_link (directory_in z b s.directory)) (0 ∷ [])) _ _ _ _ h)
  where
    regroup : (r : Result Links Fault) (names : Links → Result (Unit {0}) Fault) (next : Links → Result (List Claim) Fault) (f : Opened → Files) (g : Fault) → (r >>= λ t. names t >>= λ _. Ok t) ≡ Err g → mapped f (r >>= λ t. names t >>= λ apart. next t >>= λ claims. Ok (record { loaded = s; links = t; claims = claims })) ≡ Err g
    regroup (Err x) names next f g h = cc
    regroup (Ok t) names next f g h = again (names t) h
      where
        again : (r : Result (Unit {0}) Fault) → (r >>= λ _. Ok t) ≡ Err g → mapped f (r >>= λ apart. next t >>= λ claims. Ok (record { loaded = s; links = t; claims = claims })) ≡ Err g
        again (Err x) h = cc
        again (Ok u) h = absurd (cc)

pub claims_stop : (z : ℕ) (b : List ℕ) (s : Loaded) (t : Links) (e : Stop) → load_of z b ≡ Ok s → links_of (directory_in z b s.directory) (first_link (directory_in z b s.directory)) (0 ∷ []) ≡ Ok t → names_of (directory_in z b s.directory) (all_families t) ≡ Ok tt → Fails e (claims_of z b s (directory_in z b s.directory) (stream_ids (directory_in z b s.directory) t) (taken_by s) []) → Fails e (open_of z b)
unfolding opened_of
claims_stop z b s t stops.NoMemory is linked apart h = tt
claims_stop z b s t (stops.Fault g) is linked apart h = rw (is, linked, apart, h) refl

pub opened_is : (z : ℕ) (b : List ℕ) (s : Loaded) (t : Links) (cs : List Claim) → load_of z b ≡ Ok s → links_of (directory_in z b s.directory) (first_link (directory_in z b s.directory)) (0 ∷ []) ≡ Ok t → names_of (directory_in z b s.directory) (all_families t) ≡ Ok tt → claims_of z b s (directory_in z b s.directory) (stream_ids (directory_in z b s.directory) t) (taken_by s) [] ≡ Ok cs → opened_of z b ≡ Ok (record { loaded = s; links = t; claims = cs })
unfolding opened_of
opened_is z b s t cs is linked apart h = rw (is, linked, apart, h) refl

-- a table that has each linked entry as the directory has it
agrees_from : (T : Table) (d : Directory) (streams : ℕ → Stream) (depth x : ℕ) (t : Links) → Linked d depth x t → HasKids T.kids t → ((id : ℕ) → id < d.count → T.entry id ≡ d.entry id) → ((id : ℕ) → id < d.count → T.place id ≡ d.place id) → ((id : ℕ) → id < d.count → member id (ids t) ≡ true → eqb (d.entry id).kind 2 ≡ true → T.stream id ≡ streams id) → Agrees T d streams t
agrees_from T d streams depth x leaf linked kids entry place stream = tt
agrees_from T d streams depth x (node id l r c) linked kids entry place stream = (
  kids.0,
  entry id linked.1,
  place id linked.1,
  λ other. stream id linked.1 (self id (ids l ++ (ids r ++ ids c))) (second (eqb (d.entry id).kind 1) (eqb (d.entry id).kind 2) other (linked.2).typed),
  agrees_from T d streams depth (d.entry id).left l linked.3 kids.1 entry place (λ q below there. stream q below (in-right q (id ∷ []) (ids l ++ (ids r ++ ids c)) (in-left q (ids l) (ids r ++ ids c) there))),
  agrees_from T d streams depth (d.entry id).right r linked.4 kids.2 entry place (λ q below there. stream q below (in-right q (id ∷ []) (ids l ++ (ids r ++ ids c)) (in-right q (ids l) (ids r ++ ids c) (in-left q (ids r) (ids c) there)))),
  agrees_from T d streams (below_depth (d.entry id) depth) (below_link (d.entry id)) c linked.5 kids.3 entry place (λ q below there. stream q below (in-right q (id ∷ []) (ids l ++ (ids r ++ ids c)) (in-right q (ids l) (ids r ++ ids c) (in-right q (ids r) (ids c) there)))),
)
  where
    second : (a b : Bool) → a ≡ false → (a || b) ≡ true → b ≡ true
    second true b h k = absurd (cc)
    second false b h k = k

-- the streams and families of a file speak of its directory
parts_agree : (s : State) (outline : Outline) (t : Links) (cs : List Claim) (numbers : List ℕ) (views : List StreamView) → IsOutline (directory_of s) outline t → (entry_of s 0).kind ≡ 5 → AreStreams s (is_wanted outline.visited (directory_of s)) cs numbers views → length numbers ≡ (directory_of s).count → Agrees (table_of s numbers views outline.families.items) (directory_of s) (λ id. stream_of s.size s.file s.loaded (entry_of s id) (chain_in cs id)) t
parts_agree s outline t cs numbers views o root are count =
    let d = directory_of s in
    let l = outline_links d t o.linked in
    agrees_from (table_of s numbers views outline.families.items) d _ 1 (d.entry 0).child t l.0 (outline_kids _ t l.1 o.kids)
    (λ id below. refl)
    (λ id below. refl)
    (λ id below there kind. are id (rw count below) (wanted_same d t outline.visited o.marks o.length root id below ∙ rw (there, kind) refl))

pub shape_is : (s : State) (outline : Outline) (t : Links) (cs : List Claim) (numbers : List ℕ) (views : List StreamView) → IsOutline (directory_of s) outline t → (entry_of s 0).kind ≡ 5 → AreStreams s (is_wanted outline.visited (directory_of s)) cs numbers views → length numbers ≡ (directory_of s).count → shape (table_of s numbers views outline.families.items) ≡ files_of s.size s.file s.loaded (chain_in cs) t
unfolding under
shape_is s outline t cs numbers views o root are count =
    let d = directory_of s in
    let T = table_of s numbers views outline.families.items in
    let l = outline_links d t o.linked in
    let deep : levels t + 1 ≤ 102 = levels_bound d 1 (d.entry 0).child t o.few (omega arith) l.0 in
    let tree : under T 102 0 ≡ tree_of d (λ id. stream_of s.size s.file s.loaded (entry_of s id) (chain_in cs id)) t none =
    ap (λ l. built T (under T 101) l none) (outline_own T.kids t l.1 o.kids) ∙ tree_built T d _ t 101 none (omega arith) (parts_agree s outline t cs numbers views o root are count) in
    rw tree refl

pub shape_ends : (s : State) (outline : Outline) (t : Links) → IsOutline (directory_of s) outline t → (id : ℕ) → ends (family_at outline.families.items) deepest id ≡ true
shape_ends s outline t o id =
    let d = directory_of s in
    let l = outline_links d t o.linked in
    let deep : levels t + 1 ≤ 102 = levels_bound d 1 (d.entry 0).child t o.few (omega arith) l.0 in
    all_ends (family_at outline.families.items) t deepest (omega arith) (outline_kids _ t l.1 o.kids) (outline_own _ t l.1 o.kids) (λ p absent. outline_others _ t p o.kids absent) id

pub shape_apart : (s : State) (outline : Outline) (t : Links) → IsOutline (directory_of s) outline t → (p : ℕ) → are_apart (key_of (directory_of s)) (family_at outline.families.items p) ≡ true
shape_apart s outline t o p =
    let d = directory_of s in
    let fam = family_at outline.families.items in
    let l = outline_links d t o.linked in
    let same = outline_families fam t l.1 o.kids in
    elim (cases_Bool (member p (0 ∷ ids t))) [
      | inl there ↦ families_apart d fam (0 ∷ ids t) p (ap (names_of d) same ∙ o.apart) there
      | inr absent ↦ ap (are_apart (key_of d)) (outline_others fam t p o.kids absent)
    ]

short_of : (n : ℕ) (units : List ℕ) → length (folded (take n units)) ≤ length units
short_of n units = rw (length-map, length-take n units) (omega arith)

short_name : (z : ℕ) (b : List ℕ) (o : ℕ) → length (folded (name_of (entry_at z b o))) ≤ 32
short_name z b o = short_of ((entry_at z b o).name_bytes / 2 - 1) (entry_at z b o).units

-- names are short
pub short_key : (s : State) (id : ℕ) → length (key_of (directory_of s) id) ≤ 32
short_key s id = short_name s.size s.file (place_of s id)

-- the whole, where no part stops
pub open_done : (s : State) (outline : Outline) (t : Links) (cs : List Claim) → load_of s.size s.file ≡ Ok s.loaded → IsOutline (directory_of s) outline t → (entry_of s 0).kind ≡ 5 → claims_in s (filter (is_wanted outline.visited (directory_of s)) (range_with_len 0 (entries s))) (taken_by s.loaded) [] ≡ Ok cs → opened_of s.size s.file ≡ Ok (record { loaded = s.loaded; links = t; claims = cs })
open_done s outline t cs load o root claims =
    opened_is s.size s.file s.loaded t cs load o.linked o.apart (ap (λ l. claims_in s l (taken_by s.loaded) []) (sym (streams_wanted (directory_of s) t outline.visited o.marks o.length root)) ∙ claims)

pub open_stops : (s : State) (outline : Outline) (t : Links) (e : Stop) → load_of s.size s.file ≡ Ok s.loaded → IsOutline (directory_of s) outline t → (entry_of s 0).kind ≡ 5 → Fails e (claims_in s (filter (is_wanted outline.visited (directory_of s)) (range_with_len 0 (entries s))) (taken_by s.loaded) []) → Fails e (open_of s.size s.file)
open_stops s outline t e load o root h =
    claims_stop s.size s.file s.loaded t e load o.linked o.apart (subst (λ l. Fails e (claims_in s l (taken_by s.loaded) [])) (streams_wanted (directory_of s) t outline.visited o.marks o.length root) h)

-- the same of a file whose parts are named otherwise
pub load_same : (s : State) (b : List ℕ) → (s.file ≡ b) × (s.size ≡ sector_size b) → load_of (sector_size b) b ≡ Ok s.loaded → load_of s.size s.file ≡ Ok s.loaded
load_same s b h is = rw (h.0, h.1) is

-- the steps of two parts, where they are too few to reach the greatest count
pub exact_steps : (a b c m n sectors mini : ℕ) → b ≡ stepped a m → c ≡ stepped b n → c ≤ a + sectors + mini → sectors ≤ 524288 → mini ≤ 4194304 → a < 9223372036854775808 → c ≡ a + (m + n)
exact_steps a b c m n sectors mini h k bound one two small = omega arith

abbrev answered : Opened → Result Opened Fault
answered o = Ok o

pub opened_once : (x y : Opened) → answered x ≡ answered y → x ≡ y
opened_once x y h = cc

pub stopped_same : (s : State) (b : List ℕ) (e : Stop) → (s.file ≡ b) × (s.size ≡ sector_size b) → Fails e (open_of s.size s.file) → Fails e (open_file b)
stopped_same s b e h is = subst (λ z. Fails e (open_of z b)) h.1 (subst (λ f. Fails e (open_of s.size f)) h.0 is)

pub opened_same : (s : State) (b : List ℕ) (r : Result Opened Fault) → (s.file ≡ b) × (s.size ≡ sector_size b) → opened_of s.size s.file ≡ r → opened_of (sector_size b) b ≡ r
opened_same s b r h is = subst (λ z. opened_of z b ≡ r) h.1 (subst (λ f. opened_of s.size f ≡ r) h.0 is)

pub files_same : (s : State) (b : List ℕ) (cs : List Claim) (t : Links) (f : Files) → (s.file ≡ b) × (s.size ≡ sector_size b) → f ≡ files_of s.size s.file s.loaded (chain_in cs) t → opened_of s.size s.file ≡ Ok (record { loaded = s.loaded; links = t; claims = cs }) → open_file b ≡ Ok f
files_same s b cs t f h is opened =
    subst (λ z. open_of z b ≡ Ok f) h.1 (subst (λ l. open_of s.size l ≡ Ok f) h.0
    (ap (λ (r : Result Opened Fault). mapped (λ o. files_of s.size s.file o.loaded (chain_in o.claims) o.links) r) opened ∙ ap (λ (f : Files). Ok f) (sym is)))
