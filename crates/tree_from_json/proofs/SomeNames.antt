-- Stores as they are read: each entry has a name, so that all of them stand in the store.
use Rattle.std.proofs.Common.{◌≡◌, ◌∙◌, refl, sym, ap, subst, ℕ, ◌<◌, Bool, true, List, [], ◌∷◌, ◌++◌, length, map, cond, false, arith}
use Rattle.std.specs.Prelude.{codes, nat_lt, Ok, Err}
use Rattle.std.specs.List.{AllByRecursion, list_all}
use Rattle.std.proofs.lemmas.Bool.Decides.{nat_tests}
use Rattle.serde_json.specs.Data.{Data, Items, no_items, item}
use Rattle.carrier_model.specs.FileTrees.{sorted}
use Rattle.carrier_model.proofs.StoreOrder.{sorted-again}
use Rattle.json_model.specs.Digits.{read_guid, read_hex}
use Rattle.json_model.specs.Faults.{◌>>=◌, check, under, mapped, fault_here, form, order, deep}
use Rattle.json_model.specs.Parts.{has_members, member_at, in_turn, read_each, items_at}
use Rattle.json_model.specs.StoreForms.{Entry, storage_entry, stream_entry, path_of, comes_next, front_below, read_path, read_storage_entry, read_stream_entry, read_entry, read_next_entry, read_entries, files_of, is_fit, read_store, MOST_NAME, STORAGE, STREAM, STORE}
use Rattle.json_model.specs.Texts.{read_name}
use Rattle.json_model.proofs.Sound.{bind_was, under_was, check_was}
use Rattle.json_model.proofs.SoundStores.{store_is}
use Rattle.tree_from_json.specs.Entries.{shortened, tree_at}
use Rattle.tree_from_json.proofs.Reading.{under_mapped}
use Rattle.tree_from_json.proofs.Shortened.{fits_same, tree_same}

abbrev HasName : Entry → Type 0
HasName e = 0 < length (path_of e)

path_some : (v : Data) (path : List (List ℕ)) → read_path v ≡ Ok path → 0 < length path
path_some v path h =
    let (p, got, rest) = bind_was (read_each (read_name MOST_NAME) v) _ path h in
    let (u, ok, end) = bind_was (check (nat_lt 0 (length p)) form) _ path rest in
    let any = check_was (nat_lt 0 (length p)) form u ok in
    let some : 0 < length p = grind (arith, nat_tests) in
    let same : p ≡ path = cc in
    subst (λ (q : List (List ℕ)). 0 < length q) same some

entry_by : (v : Data) (e : Entry) (a b : Bool) → cond a (read_storage_entry v) (cond b (read_stream_entry v) (Err (fault_here form))) ≡ Ok e → HasName e
entry_by v e true b h =
    let (x, at, h1) = bind_was (member_at (codes "class") v) _ e h in
    let (class, is, h2) = bind_was (under 0 (read_guid x)) _ e h1 in
    let (y, to, h3) = bind_was (member_at (codes "path") v) _ e h2 in
    let (path, are, h4) = bind_was (under 1 (read_path y)) _ e h3 in
    let same : storage_entry path class ≡ e = cc in
    subst HasName same (path_some y path (under_was 1 (read_path y) path are))
entry_by v e false true h =
    let (x, at, h1) = bind_was (member_at (codes "data") v) _ e h in
    let (bytes, is, h2) = bind_was (under 0 (read_hex x)) _ e h1 in
    let (y, to, h3) = bind_was (member_at (codes "path") v) _ e h2 in
    let (path, are, h4) = bind_was (under 1 (read_path y)) _ e h3 in
    let same : stream_entry path bytes ≡ e = cc in
    subst HasName same (path_some y path (under_was 1 (read_path y) path are))
entry_by v e false false h = cc

entry_some : (before : List Entry) (v : Data) (e : Entry) → read_next_entry before v ≡ Ok e → HasName e
entry_some before v e h =
    let (r, read, next) = bind_was (read_entry v) _ e h in
    let (u, after, end) = bind_was (check (comes_next before r) order) _ e next in
    let same : r ≡ e = cc in
    subst HasName same (entry_by v r (has_members STORAGE v) (has_members STREAM v) read)

and_one : (before : List Entry) (e : Entry) → AllByRecursion HasName before → HasName e → AllByRecursion HasName (before ++ e ∷ [])
and_one [] e all here = (here, tt)
and_one (x ∷ before) e all here = (all.0, and_one before e all.1 here)

entries_some : (before : List Entry) (ds : Items) (all : List Entry) → AllByRecursion HasName before → in_turn read_next_entry before ds ≡ Ok all → AllByRecursion HasName all
entries_some before no_items all h is = let same : before ≡ all = cc in subst (AllByRecursion HasName) same h
entries_some before (item d ds) all h is =
    let (e, got, rest) = bind_was (under (length before) (read_next_entry before d)) (λ x. in_turn read_next_entry (before ++ x ∷ []) ds) all is in
    entries_some (before ++ e ∷ []) ds all (and_one before e h (entry_some before d e (under_was (length before) (read_next_entry before d) e got))) rest

all_below : (es : List Entry) → AllByRecursion HasName es → front_below 0 es ≡ es
all_below [] h = refl
all_below (e ∷ es) h =
    let below : nat_lt 0 (length (path_of e)) ≡ true = let here = h.0 in grind (arith, nat_tests) in
    rw below (ap (λ l. e ∷ l) (all_below es h.1))

-- the store of the entries is that of all of them, and it is in order
store_read : (v a b : Data) (class : List ℕ) (es : List Entry) → has_members STORE v ≡ true → member_at (codes "class") v ≡ Ok a → under 0 (read_guid a) ≡ Ok class → member_at (codes "members") v ≡ Ok b → under 1 (read_entries b) ≡ Ok es → list_all is_fit es ≡ true
    → read_store v ≡ Ok (record { class = class; members = sorted (tree_at 0 (front_below 0 es)) })
store_read v a b class es has at is to are fit =
    let read : read_store v ≡ Ok (record { class = class; members = files_of es }) =
    ap (λ t. check t form >>= (λ u. member_at (codes "class") v >>= (λ x. under 0 (read_guid x) >>= (λ c. member_at (codes "members") v >>= (λ y. under 1 (read_entries y) >>= (λ l. check (list_all is_fit l) deep >>= (λ w. Ok (record { class = c; members = files_of l })))))))) has
    ∙ (ap (λ r. r >>= (λ x. under 0 (read_guid x) >>= (λ c. member_at (codes "members") v >>= (λ y. under 1 (read_entries y) >>= (λ l. check (list_all is_fit l) deep >>= (λ w. Ok (record { class = c; members = files_of l }))))))) at
    ∙ (ap (λ r. r >>= (λ c. member_at (codes "members") v >>= (λ y. under 1 (read_entries y) >>= (λ l. check (list_all is_fit l) deep >>= (λ w. Ok (record { class = c; members = files_of l })))))) is
    ∙ (ap (λ r. r >>= (λ y. under 1 (read_entries y) >>= (λ l. check (list_all is_fit l) deep >>= (λ w. Ok (record { class = class; members = files_of l }))))) to
    ∙ (ap (λ r. r >>= (λ l. check (list_all is_fit l) deep >>= (λ w. Ok (record { class = class; members = files_of l })))) are
    ∙ ap (λ t. check t deep >>= (λ w. Ok (record { class = class; members = files_of es }))) fit)))) in
    let keeps = (store_is v (record { class = class; members = files_of es }) read).1 in
    let (ds, list, turn) = bind_was (items_at b) (in_turn read_next_entry []) es (under_was 1 (read_entries b) es are) in
    let whole : tree_at 0 (front_below 0 es) ≡ files_of es = ap (tree_at 0) (all_below es (entries_some [] ds es tt turn)) in
    let order = ap sorted whole ∙ sorted-again (files_of es) keeps.order keeps.members in
    read ∙ ap (λ m. Ok (record { class = class; members = m })) (sym order)

-- the same of entries that were shortened
pub short_read : (v a b : Data) (class : List ℕ) (es : List Entry) → has_members STORE v ≡ true → member_at (codes "class") v ≡ Ok a → under 0 (read_guid a) ≡ Ok class → member_at (codes "members") v ≡ Ok b → under 1 (mapped (map shortened) (read_entries b)) ≡ Ok es → list_all is_fit es ≡ true
    → read_store v ≡ Ok (record { class = class; members = sorted (tree_at 0 (front_below 0 es)) })
short_read v a b class es has at is to are fit =
    let (whole, read, short) = under_mapped (map shortened) 1 (read_entries b) es are in
    let fits = sym (fits_same whole) ∙ (ap (list_all is_fit) short ∙ fit) in
    let tree = ap (λ l. tree_at 0 (front_below 0 l)) (sym short) ∙ tree_same 0 whole in
    store_read v a b class whole has at is to read fits ∙ ap (λ f. Ok (record { class = class; members = sorted f })) (sym tree)

-- entries that do not fit
pub unfit_read : (v a b : Data) (class : List ℕ) (es : List Entry) → has_members STORE v ≡ true → member_at (codes "class") v ≡ Ok a → under 0 (read_guid a) ≡ Ok class → member_at (codes "members") v ≡ Ok b → under 1 (mapped (map shortened) (read_entries b)) ≡ Ok es → list_all is_fit es ≡ false
    → read_store v ≡ Err (fault_here deep)
unfit_read v a b class es has at is to are unfit =
    let (whole, read, short) = under_mapped (map shortened) 1 (read_entries b) es are in
    let fits : list_all is_fit whole ≡ false = sym (fits_same whole) ∙ (ap (list_all is_fit) short ∙ unfit) in
    rw (has, at, is, to, read, fits) refl
