-- What is read is meant: stores.
use Rattle.std.proofs.Common.{◌≡◌, ℕ, ◌<◌, List, [], ◌∷◌, ◌++◌, length, Bool, true, false, cond, refl, ap, sym, ◌∙◌, arith, subst}
use Rattle.std.specs.Prelude.{◌==◌, codes, nat_lt, Ok, Err}
use Rattle.std.proofs.lemmas.Bool.Decides.{nat_tests}
use Rattle.std.proofs.lemmas.List.{append-nil, append_assoc}
use Rattle.std.specs.List.{AllByRecursion, list_all}
use Rattle.serde_json.specs.Data.{Data, Items, no_items, item}
use Rattle.carrier_model.specs.FileTrees.{Store, IsFileName}
use Rattle.carrier_model.specs.Stores.{IsStore}
use Rattle.json_model.specs.Digits.{read_guid, read_hex}
use Rattle.json_model.specs.Faults.{check, under, fault_here, form, order, deep}
use Rattle.json_model.specs.JsonMeanings.{NameMeans, PathMeans, EntryMeans, ItemsMean, StoreMeans}
use Rattle.json_model.specs.Parts.{has_members, member_at, in_turn, read_each, items_at}
use Rattle.json_model.specs.StoreForms.{Entry, storage_entry, stream_entry, path_of, comes_next, read_path, read_storage_entry, read_stream_entry, read_entry, read_next_entry, read_entries, files_of, is_fit, read_store, MOST_NAME, STORAGE, STREAM, STORE}
use Rattle.json_model.specs.Texts.{read_name}
use Rattle.json_model.proofs.Blocks.{OkEntry, Starts, whole_built, depth_fits, no_list}
use Rattle.json_model.proofs.CompleteStores.{Chain, next_is}
use Rattle.json_model.proofs.Sound.{bind_was, under_was, check_was, formed_was, array_was, hex_meant, guid_meant, each_is, name_is}

path_name : (v : Data) (name : List ℕ) → read_name MOST_NAME v ≡ Ok name → NameMeans v name × IsFileName name
path_name v name h = let r = name_is MOST_NAME v name h in (r.means, record { few = r.short; units = r.small })

record IsPath (v : Data) (path : List (List ℕ)) : Type 0 where
  means : PathMeans v path
  names : AllByRecursion IsFileName path
  some : 0 < length path

path_is : (v : Data) (path : List (List ℕ)) → read_path v ≡ Ok path → IsPath v path
path_is v path h =
    let (p, got, rest) = bind_was (read_each (read_name MOST_NAME) v) _ path h in
    let (u, ok, end) = bind_was (check (nat_lt 0 (length p)) form) _ path rest in
    let any = check_was (nat_lt 0 (length p)) form u ok in
    let some : 0 < length p = grind (arith, nat_tests) in
    let same : p ≡ path = cc in
    let (means, names) = each_is (read_name MOST_NAME) NameMeans IsFileName path_name v p got in
    subst (IsPath v) same (record { means = means; names = names; some = some })

record IsEntry (v : Data) (e : Entry) : Type 0 where
  means : EntryMeans v e
  ok : OkEntry e
  some : 0 < length (path_of e)

entry_by : (v : Data) (e : Entry) (a b : Bool) → has_members STORAGE v ≡ a → has_members STREAM v ≡ b → cond a (read_storage_entry v) (cond b (read_stream_entry v) (Err (fault_here form))) ≡ Ok e → IsEntry v e
entry_by v e true b p q h =
    let (x, at, h1) = bind_was (member_at (codes "class") v) _ e h in
    let (class, is, h2) = bind_was (under 0 (read_guid x)) _ e h1 in
    let (y, to, h3) = bind_was (member_at (codes "path") v) _ e h2 in
    let (path, are, h4) = bind_was (under 1 (read_path y)) _ e h3 in
    let (hexes, long) = guid_meant x class (under_was 0 (read_guid x) class is) in
    let way = path_is y path (under_was 1 (read_path y) path are) in
    let same : storage_entry path class ≡ e = cc in
    subst (IsEntry v) same (record { means = (p, (x, formed_was _ x at, hexes), (y, formed_was _ y to, way.means)); ok = (way.names, long); some = way.some })
entry_by v e false true p q h =
    let (x, at, h1) = bind_was (member_at (codes "data") v) _ e h in
    let (data_bytes, is, h2) = bind_was (under 0 (read_hex x)) _ e h1 in
    let (y, to, h3) = bind_was (member_at (codes "path") v) _ e h2 in
    let (path, are, h4) = bind_was (under 1 (read_path y)) _ e h3 in
    let way = path_is y path (under_was 1 (read_path y) path are) in
    let same : stream_entry path data_bytes ≡ e = cc in
    subst (IsEntry v) same (record { means = (q, (x, formed_was _ x at, hex_meant x data_bytes (under_was 0 (read_hex x) data_bytes is)), (y, formed_was _ y to, way.means)); ok = way.names; some = way.some })
entry_by v e false false p q h = cc

entry_is : (v : Data) (e : Entry) → read_entry v ≡ Ok e → IsEntry v e
entry_is v e h = entry_by v e (has_members STORAGE v) (has_members STREAM v) refl refl h

record AreNext (l : Entry) (ds : Items) (es : List Entry) : Type 0 where
  items : ItemsMean EntryMeans ds es
  ok : AllByRecursion OkEntry es
  some : AllByRecursion (λ e. 0 < length (path_of e)) es
  chain : Chain l es

entries_behind : (before : List Entry) (l : Entry) (ds : Items) (all : List Entry) → in_turn read_next_entry (before ++ l ∷ []) ds ≡ Ok all → (es : List Entry) × (all ≡ (before ++ l ∷ []) ++ es) × AreNext l ds es
entries_behind before l no_items all h = let same : before ++ l ∷ [] ≡ all = cc in ([], sym same ∙ sym (append-nil (before ++ l ∷ [])), record { items = tt; ok = tt; some = tt; chain = tt })
entries_behind before l (item d ds) all h =
    let (e, is, rest) = bind_was (under (length (before ++ l ∷ [])) (read_next_entry (before ++ l ∷ []) d)) (λ x. in_turn read_next_entry ((before ++ l ∷ []) ++ x ∷ []) ds) all h in
    let (r, read, next) = bind_was (read_entry d) _ e (under_was (length (before ++ l ∷ [])) (read_next_entry (before ++ l ∷ []) d) e is) in
    let (u, after, end) = bind_was (check (comes_next (before ++ l ∷ []) r) order) _ e next in
    let same : r ≡ e = cc in
    let one = entry_is d e (read ∙ ap Ok same) in
    let follow = sym (next_is before l e) ∙ (ap (comes_next (before ++ l ∷ [])) (sym same) ∙ check_was (comes_next (before ++ l ∷ []) r) order u after) in
    let (es, whole, more) = entries_behind (before ++ l ∷ []) e ds all rest in
    (e ∷ es, whole ∙ append_assoc (before ++ l ∷ []) (e ∷ []) es, record { items = (one.means, more.items); ok = (one.ok, more.ok); some = (one.some, more.some); chain = (follow, more.chain) })

record AreEntries (ds : Items) (es : List Entry) : Type 0 where
  items : ItemsMean EntryMeans ds es
  ok : AllByRecursion OkEntry es
  some : AllByRecursion (λ e. 0 < length (path_of e)) es
  starts : Starts [] es

entries_all : (ds : Items) (all : List Entry) → in_turn read_next_entry [] ds ≡ Ok all → AreEntries ds all
entries_all no_items all h = let same : [] ≡ all = cc in subst (AreEntries no_items) same (record { items = tt; ok = tt; some = tt; starts = tt })
entries_all (item d ds) all h =
    let (e, is, rest) = bind_was (under 0 (read_next_entry [] d)) (λ x. in_turn read_next_entry (x ∷ []) ds) all h in
    let (r, read, next) = bind_was (read_entry d) _ e (under_was 0 (read_next_entry [] d) e is) in
    let (u, after, end) = bind_was (check (length (path_of r) == 1) order) _ e next in
    let same : r ≡ e = cc in
    let one = entry_is d e (read ∙ ap Ok same) in
    let single = check_was (length (path_of r) == 1) order u after in
    let long : length (path_of r) ≡ 1 = grind (arith, nat_tests) in
    let few = ap (λ z. length (path_of z)) same in
    let (es, whole, more) = entries_behind [] e ds all rest in
    subst (AreEntries (item d ds)) (sym whole) (record { items = (one.means, more.items); ok = (one.ok, more.ok); some = (one.some, more.some); starts = (omega (arith, long, few), more.chain) })

pub store_is : (v : Data) (s : Store) → read_store v ≡ Ok s → StoreMeans v s × IsStore s
store_is v s h =
    let (u, whole, h1) = bind_was (check (has_members STORE v) form) _ s h in
    let (x, at, h2) = bind_was (member_at (codes "class") v) _ s h1 in
    let (class, is, h3) = bind_was (under 0 (read_guid x)) _ s h2 in
    let (y, to, h4) = bind_was (member_at (codes "members") v) _ s h3 in
    let (es, are, h5) = bind_was (under 1 (read_entries y)) _ s h4 in
    let (w, ok, h6) = bind_was (check (list_all is_fit es) deep) _ s h5 in
    let (hexes, long) = guid_meant x class (under_was 0 (read_guid x) class is) in
    let (ds, list, turn) = bind_was (items_at y) (in_turn read_next_entry []) es (under_was 1 (read_entries y) es are) in
    let all = entries_all ds es turn in
    let b = whole_built es all.some all.ok all.starts in
    let fits = ap (list_all is_fit) b.again ∙ check_was (list_all is_fit es) deep w ok in
    let low = depth_fits [] (files_of es) fits (omega arith) in
    let same : record { class = class; members = files_of es } ≡ s = cc in
    subst (λ z. StoreMeans v z × IsStore z) same (
      record {
        members = check_was (has_members STORE v) form u whole;
        class = (x, formed_was _ x at, hexes);
        list = (y, formed_was _ y to, (ds, array_was y ds list, subst (ItemsMean EntryMeans ds) (sym b.again) all.items));
      },
      record { class = long; order = b.order; members = b.members; depth = omega (arith, low); no_message = no_list (files_of es) fits },
    )
