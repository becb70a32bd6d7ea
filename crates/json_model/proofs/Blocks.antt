-- Entries in turn are those of a tree.
use Rattle.std.proofs.Common.{◌≡◌, ℕ, zero, suc, ◌+◌, ◌-◌, ◌<◌, ◌≤◌, List, [], ◌∷◌, ◌++◌, length, take, Bool, true, false, Ordering, Less, Equal, Greater, refl, ap, sym, ◌∙◌, arith, true≢false, subst, length-append}
use Rattle.std.specs.Prelude.{not, ◌&&◌, ◌==◌, nat_lt, bytes_eq}
use Rattle.std.proofs.lemmas.Bool.Decides.{nat_tests}
use Rattle.std.proofs.lemmas.List.{append-nil, append_assoc}
use Rattle.std.proofs.lemmas.Slice.Eq.{bytes_eq-Decides}
use Rattle.std.specs.Cmp.Lexicographic.{slice_cmp, pointwise}
use Rattle.std.specs.List.{AllByRecursion, list_all}
use Rattle.std.specs.Ordering.{is_lt, ordering_then}
use Rattle.carrier_model.specs.FileTrees.{FileTree, no_file, stream, storage, file_names, sibling_cmp, storage_depth, IsFileName}
use Rattle.carrier_model.specs.Lookups.{same_name}
use Rattle.carrier_model.specs.Sorted.{IsStrictlySorted}
use Rattle.carrier_model.specs.Stores.{PROPERTIES, has_stream, AreInOrder, AreMembers}
use Rattle.carrier_model.proofs.StoreOrder.{sibling_total}
use Rattle.json_model.specs.StoreForms.{Entry, storage_entry, stream_entry, path_of, entries_below, above_of, open_behind, leads_to, follows, last_name, front_below, behind_below, files_within, is_fit}
use Rattle.json_model.proofs.CompleteStores.{Chain, IsIn, same_front, all_but_last, last_is}
use Rattle.json_model.proofs.HexLaws.{and_true}
use Rattle.json_model.proofs.SoundProps.{Rises, rises_sorted}

-- ---- paths

names_same : (xs ys : List (List ℕ)) → pointwise bytes_eq xs ys ≡ true → xs ≡ ys
names_same [] [] h = refl
names_same [] (y ∷ ys) h = absurd (true≢false (sym h))
names_same (x ∷ xs) [] h = absurd (true≢false (sym h))
names_same (x ∷ xs) (y ∷ ys) h =
    let both = and_true (bytes_eq x y) (pointwise bytes_eq xs ys) h in
    let a = (bytes_eq-Decides x y).0 both.0 in
    let b = names_same xs ys both.1 in
    λ i. a i ∷ b i

-- a front of a list that is long enough begins with a shorter one
front_begins : (p m a : List (List ℕ)) (n : ℕ) → a ≡ take n (p ++ m) → length p ≤ length a → (t : List (List ℕ)) × (a ≡ p ++ t)
front_begins [] m a n h le = (a, refl)
front_begins (x ∷ p) m [] n h le = absurd (omega (arith, le))
front_begins (x ∷ p) m (y ∷ a) zero h le = cc
front_begins (x ∷ p) m (y ∷ a) (suc n) h le =
    let same : y ≡ x = cc in
    let rest : a ≡ take n (p ++ m) = cc in
    let (t, e) = front_begins p m a n rest (omega (arith, le)) in
    (t, λ i. same i ∷ e i)

-- a path is what it stands in, and one name more
split_last : (path : List (List ℕ)) → 0 < length path → path ≡ take (length path - 1) path ++ last_name path ∷ []
split_last [] h = absurd (omega (arith, h))
split_last (x ∷ []) h = refl
split_last (x ∷ y ∷ path) h =
    let more = split_last (y ∷ path) (omega arith) in
    let e : suc (suc (length path)) - 1 ≡ suc (suc (length path) - 1) = omega arith in
    rw e (ap (λ l. x ∷ l) more)

-- ---- an entry in a storage

record Inside (p : List (List ℕ)) (e : Entry) : Type 0 where
  name : List ℕ
  tail : List (List ℕ)
  path : path_of e ≡ p ++ name ∷ tail
  is_in : IsIn p e

opened : (p : List (List ℕ)) (e : Entry) (t : List (List ℕ)) → above_of e ≡ p ++ t → path_of e ≡ above_of e ++ last_name (path_of e) ∷ [] → IsIn p e
opened p (storage_entry path class) t a h = record { tail = t ++ last_name path ∷ []; path = h ∙ (ap (λ l. l ++ last_name path ∷ []) a ∙ append_assoc p t (last_name path ∷ [])); more = t ++ last_name path ∷ []; opens = h ∙ (ap (λ l. l ++ last_name path ∷ []) a ∙ append_assoc p t (last_name path ∷ [])) }
opened p (stream_entry path x) t a h = record { tail = t ++ last_name path ∷ []; path = h ∙ (ap (λ l. l ++ last_name path ∷ []) a ∙ append_assoc p t (last_name path ∷ [])); more = t; opens = a }

with_name : (t : List (List ℕ)) (x : List ℕ) → (name : List ℕ) × (tail : List (List ℕ)) × (t ++ x ∷ [] ≡ name ∷ tail)
with_name [] x = (x, [], refl)
with_name (y ∷ t) x = (y, t ++ x ∷ [], refl)

-- behind what is in a storage, a deeper path is in it too
inside_next : (p : List (List ℕ)) (l e : Entry) → IsIn p l → follows l e ≡ true → length p < length (path_of e) → Inside p e
inside_next p l e here h deep =
    let both = and_true (is_lt (slice_cmp sibling_cmp (path_of l) (path_of e))) (leads_to (above_of e) (open_behind l)) h in
    let same = names_same (above_of e) (take (length (above_of e)) (open_behind l)) both.1 ∙ ap (take (length (above_of e))) here.opens in
    let halves = split_last (path_of e) (omega (arith, deep)) in
    let long : length (path_of e) ≡ length (above_of e) + 1 = ap (λ (z : List (List ℕ)). length z) halves ∙ length-append (above_of e) (last_name (path_of e) ∷ []) in
    let (t, begins) = front_begins p here.more (above_of e) (length (above_of e)) same (omega (arith, deep, long)) in
    let (name, tail, cut) = with_name t (last_name (path_of e)) in
    record {
      name = name;
      tail = tail;
      path = halves ∙ (ap (λ l. l ++ last_name (path_of e) ∷ []) begins ∙ (append_assoc p t (last_name (path_of e) ∷ []) ∙ ap (λ l. p ++ l) cut));
      is_in = opened p e t begins halves;
    }

-- ---- what is in a storage, and what is behind

record Parted (p : List (List ℕ)) (l : Entry) (es : List Entry) : Type 0 where
  whole : front_below (length p) es ++ behind_below (length p) es ≡ es
  chain : Chain l (front_below (length p) es)
  inside : AllByRecursion (Inside p) (front_below (length p) es)
  last : Entry
  last_in : IsIn p last
  others : Chain last (behind_below (length p) es)

abbrev BeginsNot : ℕ → List Entry → Type 0
BeginsNot n [] = Unit {0}
BeginsNot n (e ∷ es) = length (path_of e) ≤ n

parted_at : (p : List (List ℕ)) (l e : Entry) (es : List Entry) (b : Bool) → nat_lt (length p) (length (path_of e)) ≡ b → IsIn p l → follows l e ≡ true → Chain e es → (IsIn p e → Parted p e es) → Parted p l (e ∷ es)
parted_at p l e es true is here h chain rest =
    let deep : length p < length (path_of e) = grind (arith, nat_tests) in
    let one = inside_next p l e here h deep in
    let r = rest one.is_in in
    let f : front_below (length p) (e ∷ es) ≡ e ∷ front_below (length p) es = rw is refl in
    let b : behind_below (length p) (e ∷ es) ≡ behind_below (length p) es = rw is refl in
    record {
      whole = (λ i. f i ++ b i) ∙ ap (λ l. e ∷ l) r.whole;
      chain = subst (Chain l) (sym f) (h, r.chain);
      inside = subst (AllByRecursion (Inside p)) (sym f) (one, r.inside);
      last = r.last;
      last_in = r.last_in;
      others = subst (Chain r.last) (sym b) r.others;
    }
parted_at p l e es false is here h chain rest =
    let f : front_below (length p) (e ∷ es) ≡ [] = rw is refl in
    let b : behind_below (length p) (e ∷ es) ≡ e ∷ es = rw is refl in
    record {
      whole = λ i. f i ++ b i;
      chain = subst (Chain l) (sym f) tt;
      inside = subst (AllByRecursion (Inside p)) (sym f) tt;
      last = l;
      last_in = here;
      others = subst (Chain l) (sym b) (h, chain);
    }

parted : (p : List (List ℕ)) (l : Entry) (es : List Entry) → IsIn p l → Chain l es → Parted p l es
parted p l [] here chain = record { whole = refl; chain = tt; inside = tt; last = l; last_in = here; others = tt }
parted p l (e ∷ es) here chain = parted_at p l e es (nat_lt (length p) (length (path_of e))) refl here chain.0 chain.1 (λ k. parted p e es k chain.1)

behind_not : (n : ℕ) (es : List Entry) → BeginsNot n (behind_below n es)
behind_not n [] = tt
behind_not n (e ∷ es) = by n e es (nat_lt n (length (path_of e))) refl (behind_not n es)
  where
    by : (n : ℕ) (e : Entry) (es : List Entry) (b : Bool) → nat_lt n (length (path_of e)) ≡ b → BeginsNot n (behind_below n es) → BeginsNot n (behind_below n (e ∷ es))
    by n e es true is more = rw is more
    by n e es false is more = let le : length (path_of e) ≤ n = grind (arith, nat_tests) in rw is le

-- ---- names in order

abbrev pub OkEntry : Entry → Type 0
OkEntry (storage_entry path class) = AllByRecursion IsFileName path × (length class ≡ 16)
OkEntry (stream_entry path x) = AllByRecursion IsFileName path

less_front : (o : Ordering) (t : List (List ℕ)) → ordering_then o (slice_cmp sibling_cmp t []) ≡ Less → o ≡ Less
less_front Less t h = refl
less_front Equal [] h = cc
less_front Equal (x ∷ t) h = cc
less_front Greater t h = cc

lt_less : (o : Ordering) → is_lt o ≡ true → o ≡ Less
lt_less Less h = refl
lt_less Equal h = absurd (true≢false (sym h))
lt_less Greater h = absurd (true≢false (sym h))

-- behind what is below a name, a member beside it has a greater name
next_name : (above t : List (List ℕ)) (name other : List ℕ) (l e : Entry) → path_of l ≡ (above ++ name ∷ []) ++ t → path_of e ≡ above ++ other ∷ [] → follows l e ≡ true → sibling_cmp name other ≡ Less
next_name above t name other l e here p h =
    let both = and_true (is_lt (slice_cmp sibling_cmp (path_of l) (path_of e))) (leads_to (above_of e) (open_behind l)) h in
    let q = here ∙ append_assoc above (name ∷ []) t in
    let less = sym (λ i. slice_cmp sibling_cmp (q i) (p i)) ∙ lt_less (slice_cmp sibling_cmp (path_of l) (path_of e)) both.0 in
    less_front (sibling_cmp name other) t (sym (same_front above (name ∷ t) (other ∷ [])) ∙ less)

turns_front : {A : Type 0} (P : A → Type 0) (xs ys : List A) → AllByRecursion P (xs ++ ys) → AllByRecursion P xs
turns_front P [] ys h = tt
turns_front P (x ∷ xs) ys h = (h.0, turns_front P xs ys h.1)

turns_behind : {A : Type 0} (P : A → Type 0) (xs ys : List A) → AllByRecursion P (xs ++ ys) → AllByRecursion P ys
turns_behind P [] ys h = h
turns_behind P (x ∷ xs) ys h = turns_behind P xs ys h.1

-- the last name of a path is one of its names
last_ok : (above : List (List ℕ)) (name : List ℕ) → AllByRecursion IsFileName (above ++ name ∷ []) → IsFileName name
last_ok above name h = (turns_behind IsFileName above (name ∷ []) h).0

-- ---- the tree

-- the first is a member of the storage, the others come in turn
abbrev pub Starts : List (List ℕ) → List Entry → Type 0
Starts above [] = Unit {0}
Starts above (e ∷ es) = (length (path_of e) ≤ suc (length above)) × Chain e es

abbrev HeadAbove : List ℕ → List Entry → Type 0
HeadAbove name [] = Unit {0}
HeadAbove name (e ∷ es) = sibling_cmp name (last_name (path_of e)) ≡ Less

pub record Built (above : List (List ℕ)) (es : List Entry) (f : FileTree) : Type 0 where
  pub again : entries_below above f ≡ es
  pub members : AreMembers f
  pub order : AreInOrder f
  pub rises : (name : List ℕ) → HeadAbove name es → Rises sibling_cmp name (file_names f)

no_pairs : IsStrictlySorted sibling_cmp []
no_pairs i j d lt le = absurd (omega (arith, le))

single : (above : List (List ℕ)) (e : Entry) → Inside above e → length (path_of e) ≤ suc (length above) → path_of e ≡ above ++ last_name (path_of e) ∷ []
single above e here le = by above (here.name) (here.tail) (path_of e) here.path le
  where
    by : (above : List (List ℕ)) (name : List ℕ) (tail path : List (List ℕ)) → path ≡ above ++ name ∷ tail → length path ≤ suc (length above) → path ≡ above ++ last_name path ∷ []
    by above name [] path h le = h ∙ ap (λ n. above ++ n ∷ []) (sym (last_is above name) ∙ sym (ap last_name h))
    by above name (x ∷ tail) path h le = let l = length-append above (name ∷ x ∷ tail) in let m = ap (λ (z : List (List ℕ)). length z) h in absurd (omega (arith, l, m, le))

head_above : (above t : List (List ℕ)) (name : List ℕ) (l : Entry) (es : List Entry) → path_of l ≡ (above ++ name ∷ []) ++ t → Chain l es → AllByRecursion (Inside above) es → BeginsNot (suc (length above)) es → HeadAbove name es
head_above above t name l [] here chain all few = tt
head_above above t name l (e ∷ es) here chain all few = next_name above t name (last_name (path_of e)) l e here (single above e all.0 few) chain.0

starts_behind : (above : List (List ℕ)) (l : Entry) (es : List Entry) → Chain l es → BeginsNot (suc (length above)) es → Starts above es
starts_behind above l [] chain few = tt
starts_behind above l (e ∷ es) chain few = (few, chain.1)

take_short : (n : ℕ) (xs : List (List ℕ)) → length (take n xs) ≤ length xs
take_short zero xs = omega arith
take_short (suc n) [] = omega arith
take_short (suc n) (x ∷ xs) = omega (arith, take_short n xs)

begins_few : (above : List (List ℕ)) (es : List Entry) → Starts above es → BeginsNot (suc (length above)) es
begins_few above [] h = tt
begins_few above (e ∷ es) h = h.0

-- what stands right behind a storage and in it is a member of it
starts_in : (p : List (List ℕ)) (l : Entry) (es : List Entry) → open_behind l ≡ p → Chain l es → AllByRecursion (Inside p) es → Starts p es
starts_in p l [] o chain all = tt
starts_in p l (e ∷ es) o chain all =
    let both = and_true (is_lt (slice_cmp sibling_cmp (path_of l) (path_of e))) (leads_to (above_of e) (open_behind l)) chain.0 in
    let same = names_same (above_of e) (take (length (above_of e)) (open_behind l)) both.1 ∙ ap (take (length (above_of e))) o in
    let m = ap (λ (z : List (List ℕ)). length z) same in
    let n = take_short (length (above_of e)) p in
    let k = ap (λ (z : List (List ℕ)). length z) (split_last (path_of e) (some_path p e all.0)) in
    let j = length-append (above_of e) (last_name (path_of e) ∷ []) in
    (omega (arith, m, n, k, j), chain.1)
  where
    some_path : (p : List (List ℕ)) (e : Entry) → Inside p e → 0 < length (path_of e)
    some_path p e here = let l = length-append p (here.name ∷ here.tail) in let m = ap (λ (z : List (List ℕ)). length z) here.path in omega (arith, l, m)

built : (most : ℕ) (above : List (List ℕ)) (es : List Entry) → length es ≤ most → AllByRecursion (Inside above) es → Starts above es → AllByRecursion OkEntry es → Built above es (files_within most (length above) es)
built zero above [] few all starts ok = record { again = refl; members = tt; order = no_pairs; rises = λ name h. tt }
built (suc most) above [] few all starts ok = record { again = refl; members = tt; order = no_pairs; rises = λ name h. tt }
built zero above (e ∷ es) few all starts ok = absurd (omega (arith, few))
built (suc most) above (stream_entry path x ∷ es) few all starts ok =
    let name = last_name path in
    let e = stream_entry path x in
    let p : path ≡ above ++ name ∷ [] = single above e all.0 starts.0 in
    let o : open_behind e ≡ above = ap (λ q. take (length q - 1) q) p ∙ all_but_last above name in
    let next = starts_in above e es o starts.1 all.1 in
    let r = built most above es (omega (arith, few)) all.1 next ok.1 in
    let head = head_above above [] name e es (p ∙ sym (append-nil (above ++ name ∷ []))) starts.1 all.1 (begins_few above es next) in
    let rises = r.rises name head in
    record {
      again = λ i. stream_entry (sym p i) x ∷ r.again i;
      members = (last_ok above name (subst (AllByRecursion IsFileName) p ok.0), r.members);
      order = rises_sorted sibling_cmp sibling_total name (file_names (files_within most (length above) es)) rises;
      rises = λ n h. (h, rises);
    }
built (suc most) above (storage_entry path class ∷ es) few all starts ok =
    let name = last_name path in
    let e = storage_entry path class in
    let p : path ≡ above ++ name ∷ [] = single above e all.0 starts.0 in
    let lv : length path ≡ suc (length above) = ap (λ (z : List (List ℕ)). length z) p ∙ (let l = length-append above (name ∷ []) in omega (arith, l)) in
    let d = parted path e es (record { tail = []; path = sym (append-nil path); more = []; opens = sym (append-nil path) }) starts.1 in
    let n = length path in
    let front = front_below n es in
    let behind = behind_below n es in
    let count = ap (λ (z : List Entry). length z) d.whole in
    let joined = length-append front behind in
    let inner = built most path front (omega (arith, few, count, joined)) d.inside (starts_in path e front refl d.chain d.inside) (turns_front OkEntry front behind (subst (AllByRecursion OkEntry) (sym d.whole) ok.1)) in
    let others_in = turns_behind (Inside above) front behind (subst (AllByRecursion (Inside above)) (sym d.whole) all.1) in
    let few_behind : BeginsNot (suc (length above)) behind = subst (λ m. BeginsNot m behind) lv (behind_not n es) in
    let outer = built most above behind (omega (arith, few, count, joined)) others_in (starts_behind above d.last behind d.others few_behind) (turns_behind OkEntry front behind (subst (AllByRecursion OkEntry) (sym d.whole) ok.1)) in
    let head = head_above above d.last_in.tail name d.last behind (d.last_in.path ∙ ap (λ q. q ++ d.last_in.tail) p) d.others others_in few_behind in
    let rises = outer.rises name head in
    let inside = files_within most n front in
    let others = files_within most (length above) behind in
    let entries = (λ i. entries_below (sym p i) inside ++ outer.again i) ∙ (ap (λ l. l ++ behind) inner.again ∙ d.whole) in
    let all_of : Built above (e ∷ es) (storage name class inside others) = record {
      again = λ i. storage_entry (sym p i) class ∷ entries i;
      members = (last_ok above name (subst (AllByRecursion IsFileName) p ok.0.0), ok.0.1, inner.order, inner.members, outer.members);
      order = rises_sorted sibling_cmp sibling_total name (file_names others) rises;
      rises = λ m h. (h, rises);
    } in
    subst (λ m. Built above (e ∷ es) (storage name class (files_within most m (front_below m es)) (files_within most (length above) (behind_below m es)))) lv all_of

-- ---- what fits

all_split : (xs ys : List Entry) → list_all is_fit (xs ++ ys) ≡ true → (list_all is_fit xs ≡ true) × (list_all is_fit ys ≡ true)
all_split [] ys h = (refl, h)
all_split (x ∷ xs) ys h =
    let both = and_true (is_fit x) (list_all is_fit (xs ++ ys)) h in
    let more = all_split xs ys both.1 in
    (rw (both.0) more.0, more.1)

pub depth_fits : (above : List (List ℕ)) (f : FileTree) → list_all is_fit (entries_below above f) ≡ true → length above ≤ 32 → length above + storage_depth f ≤ 32
depth_fits above no_file h le = omega (arith, le)
depth_fits above (stream name x others) h le = depth_fits above others (and_true (is_fit (stream_entry (above ++ name ∷ []) x)) (list_all is_fit (entries_below above others)) h).1 le
depth_fits above (storage name class inside others) h le =
    let path = above ++ name ∷ [] in
    let both = and_true (is_fit (storage_entry path class)) (list_all is_fit (entries_below path inside ++ entries_below above others)) h in
    let halves = all_split (entries_below path inside) (entries_below above others) both.1 in
    let l = length-append above (name ∷ []) in
    let few : length path ≤ 32 = let z = both.0 in grind (arith, nat_tests) in
    let a = depth_fits path inside halves.0 few in
    let b = depth_fits above others halves.1 le in
    omega (arith, l, a, b)

not_list : (name : List ℕ) → not ((1 == 1) && same_name name PROPERTIES) ≡ true → same_name name PROPERTIES ≡ false
not_list name h = by (same_name name PROPERTIES) h
  where
    by : (b : Bool) → not b ≡ true → b ≡ false
    by true h = absurd (true≢false (sym h))
    by false h = refl

pub no_list : (f : FileTree) → list_all is_fit (entries_below [] f) ≡ true → has_stream f PROPERTIES ≡ false
no_list no_file h = refl
no_list (stream name x others) h =
    let both = and_true (is_fit (stream_entry (name ∷ []) x)) (list_all is_fit (entries_below [] others)) h in
    rw (not_list name both.0) (no_list others both.1)
no_list (storage name class inside others) h =
    let both = and_true (is_fit (storage_entry (name ∷ []) class)) (list_all is_fit (entries_below (name ∷ []) inside ++ entries_below [] others)) h in
    no_list others (all_split (entries_below (name ∷ []) inside) (entries_below [] others) both.1).1

-- ---- a whole store

some_names : (e : Entry) → 0 < length (path_of e) → Inside [] e
some_names (storage_entry [] class) h = absurd (omega (arith, h))
some_names (stream_entry [] x) h = absurd (omega (arith, h))
some_names (storage_entry (name ∷ tail) class) h = record { name = name; tail = tail; path = refl; is_in = record { tail = name ∷ tail; path = refl; more = name ∷ tail; opens = refl } }
some_names (stream_entry (name ∷ tail) x) h = record { name = name; tail = tail; path = refl; is_in = record { tail = name ∷ tail; path = refl; more = take (length (name ∷ tail) - 1) (name ∷ tail); opens = refl } }

all_inside : (es : List Entry) → AllByRecursion (λ e. 0 < length (path_of e)) es → AllByRecursion (Inside []) es
all_inside [] h = tt
all_inside (e ∷ es) h = (some_names e h.0, all_inside es h.1)

pub whole_built : (es : List Entry) → AllByRecursion (λ e. 0 < length (path_of e)) es → AllByRecursion OkEntry es → Starts [] es → Built [] es (files_within (length es) 0 es)
whole_built es some ok starts = built (length es) [] es (omega arith) (all_inside es some) starts ok
