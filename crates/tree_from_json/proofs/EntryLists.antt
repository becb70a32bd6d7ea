-- Entries that were read, of which all but the last are kept shortened.
use Rattle.std.proofs.Common.{◌≡◌, ◌∙◌, refl, sym, ap, subst, ℕ, ◌+◌, ◌<◌, ◌≤◌, List, [], ◌∷◌, ◌++◌, length, length-append, map, get_or, Option, Some, option_to_list, Result, Ok, Err, arith}
use Rattle.std.proofs.lemmas.List.{map-append}
use Rattle.serde_json.specs.Data.{Data}
use Rattle.json_values.specs.View.{view, items_view}
use Rattle.json_values.specs.declared.value.Value.{Value}
use Rattle.json_model.specs.Faults.{◌>>=◌, check, mapped, order}
use Rattle.json_model.specs.Parts.{in_turn}
use Rattle.json_model.specs.StoreForms as plain
use Rattle.json_model.specs.StoreForms.{read_entry, read_next_entry, comes_next, follows}
use Rattle.tree_from_json.specs.Ends.{Reads, ReadsBelow}
use Rattle.tree_from_json.specs.Entries.{entry_of, placed_of, shortened}
use Rattle.tree_from_json.specs.declared.entries.Entry.{Entry}
use Rattle.tree_from_json.specs.declared.entries.Placed.{Placed}
use Rattle.tree_from_json.specs.declared.read_ends.ReadEnd.{ReadEnd}
use Rattle.tree_from_json.proofs.Turns.{InTurn, turn_ok, turn_err, turn_end}

-- what may stand behind entries goes by the last of them
behind_last : (es : List plain.Entry) (last e : plain.Entry) → comes_next (es ++ last ∷ []) e ≡ follows last e
behind_last [] last e = refl
behind_last (one ∷ []) last e = refl
behind_last (one ∷ other ∷ es) last e = behind_last (other ∷ es) last e

pub next_same : (es : List plain.Entry) (last : plain.Entry) (v : Data) → read_next_entry (last ∷ []) v ≡ read_next_entry (es ++ last ∷ []) v
next_same es last v = λ i. read_entry v >>= (λ e. check (sym (behind_last es last e) i) order >>= (λ next. Ok e))

abbrev pub whole : Option Entry → List plain.Entry
whole last = map entry_of (option_to_list last)

-- So many entries were read. What is kept are those before the last, which is whole and decides what may come next.
pub record AreHeld (kept : List Placed) (last : Option Entry) (k : ℕ) (vs : List Value) : Type 0 where
  pub entries : List plain.Entry
  pub count : length entries ≡ k
  pub turns : InTurn read_next_entry entries k vs
  pub held : map placed_of kept ++ map shortened (whole last) ≡ map shortened entries
  pub next : (v : Data) → read_next_entry (whole last) v ≡ read_next_entry entries v

-- the next entry, where the last one is kept
pub held_more : (kept more : List Placed) (last : Option Entry) (e : Entry) (k : ℕ) (vs : List Value) (v : Value) (inner : Result Entry ReadEnd)
    → k < length vs → v ≡ get_or vs k v → Reads entry_of (read_next_entry (whole last) (view v)) inner → ReadsBelow k inner (Ok e)
    → map placed_of more ≡ map placed_of kept ++ map shortened (whole last) → AreHeld kept last k vs → AreHeld more (Some e) (k + 1) vs
held_more kept more last e k vs v inner lt at read below is h =
    let read = subst (λ model. Reads entry_of model inner) (h.next (view v)) read in
    let below = subst (λ n. ReadsBelow n inner (Ok e)) (sym h.count) below in
    record {
      entries = h.entries ++ entry_of e ∷ [];
      count = omega (arith, h.count, length-append h.entries (entry_of e ∷ []));
      turns = turn_ok entry_of read_next_entry h.entries k vs v inner e (h.entries ++ entry_of e ∷ []) lt at read below refl h.turns;
      held = ap (λ l. l ++ shortened (entry_of e) ∷ []) (is ∙ h.held) ∙ sym (map-append shortened h.entries (entry_of e ∷ []));
      next = next_same h.entries (entry_of e);
    }

-- an entry that is not read
pub held_err : (kept : List Placed) (last : Option Entry) (k : ℕ) (vs : List Value) (v : Value) (inner : Result Entry ReadEnd) (e : ReadEnd)
    → k < length vs → v ≡ get_or vs k v → Reads entry_of (read_next_entry (whole last) (view v)) inner → ReadsBelow k inner (Err e) → AreHeld kept last k vs
    → Reads (λ (es : List plain.Entry). es) (in_turn read_next_entry [] (items_view vs)) (Err e)
held_err kept last k vs v inner e lt at read below h =
    let read = subst (λ model. Reads entry_of model inner) (h.next (view v)) read in
    let below = subst (λ n. ReadsBelow n inner (Err e)) (sym h.count) below in
    turn_err entry_of (λ (es : List plain.Entry). es) read_next_entry h.entries k vs v inner e lt at read below h.turns

-- all of them, where the last one is kept too
pub held_all : (kept all : List Placed) (last : Option Entry) (k : ℕ) (vs : List Value) → length vs ≤ k → map placed_of all ≡ map placed_of kept ++ map shortened (whole last) → AreHeld kept last k vs
    → mapped (map shortened) (in_turn read_next_entry [] (items_view vs)) ≡ Ok (map placed_of all)
held_all kept all last k vs end is h = ap (mapped (map shortened)) (turn_end read_next_entry h.entries k vs end h.turns) ∙ ap Ok (sym (is ∙ h.held))
