-- Entries placed level by level.
use Rattle.std.proofs.Common.{◌≡◌, ℕ, ◌+◌, ◌*◌, ◌<◌, ◌≤◌, List, [], ◌∷◌, ◌++◌, length, get_or, drop, sym, ap, subst, ◌∙◌, append_assoc, arith}
use Rattle.std.specs.Prelude.{All, Some, slice_get}
use Rattle.std.specs.List.{AllByRecursion}
use Rattle.std.proofs.lemmas.List.{append-nil, drop_more, drop_all, length-append, map-append}
use Rattle.std.proofs.lemmas.Option.{get_or_from_slice_get}
use Rattle.carrier_model.specs.FileTrees.{entries_in}
use Rattle.carrier_model.specs.Links.{no_link}
use Rattle.carrier_model.specs.Layout.{Slot, slots_from, links_of_siblings, sibling_numbers, top_of}
use Rattle.cfb_list.specs.Contents.{child_seen, file_seen, name_seen}
use Rattle.cfb_writer.specs.Levels.{IsLevel, IsWhole, Proceeds, entries_left, files_left, slots_left}
use Rattle.cfb_list.specs.Listed.{Child, stream, storage, built, children_at}
use Rattle.cfb_writer.specs.Placed.{slot_of, slot_at, slots_at, child_at, IsPlace}
use Rattle.cfb_list.specs.Trees.{inside}
use Rattle.cfb_list.specs.declared.views.FileView.{FileView}
use Rattle.cfb_list.specs.declared.views.KindView.{KindView}
use Rattle.cfb_writer.specs.declared.placing.Level.{Level}
use Rattle.cfb_writer.specs.declared.placing.Place.{Place}
use Rattle.cfb_writer.proofs.Numbered.{left_more, room_then, slots_then}

pub entries_both : (st : List (List Child)) (xs ys : List Level) → entries_left st (xs ++ ys) ≡ entries_left st xs + entries_left st ys
entries_both st [] ys = omega arith
entries_both st (x ∷ xs) ys = omega (arith, entries_both st xs ys)

level_slots : List (List Child) → ℕ → Level → List Slot
level_slots st n l = slots_from n (drop l.file l.links.items) (built (inside st) (files_left st l))

slots_both : (st : List (List Child)) (n : ℕ) (xs ys : List Level) → slots_left st n (xs ++ ys) ≡ slots_left st n ys ++ slots_left st (n + entries_left st ys) xs
unfolding level_slots
slots_both st n [] ys = sym (append-nil (slots_left st n ys))
slots_both st n (x ∷ xs) ys =
    let place : n + entries_left st (xs ++ ys) ≡ n + entries_left st ys + entries_left st xs = omega (arith, entries_both st xs ys) in
    ap (λ (s : List Slot). s ++ level_slots st (n + entries_left st (xs ++ ys)) x) (slots_both st n xs ys)
    ∙ ap (λ (k : ℕ). (slots_left st n ys ++ slots_left st (n + entries_left st ys) xs) ++ level_slots st k x) place
    ∙ append_assoc (slots_left st n ys) (slots_left st (n + entries_left st ys) xs) (level_slots st (n + entries_left st ys + entries_left st xs) x)

slots_one : (st : List (List Child)) (n : ℕ) (l : Level) → slots_left st n (l ∷ []) ≡ level_slots st n l
unfolding level_slots
slots_one st n l = let none : n + 0 ≡ n = omega arith in ap (λ (k : ℕ). level_slots st k l) none

-- ---- a storage's entry, and those of what is in it

storage_step : (st : List (List Child)) (old new : List Slot) (n m number : ℕ) (name class : List ℕ) (link : ℕ × ℕ) (inner : Level) → m ≡ n + 1 → new ≡ old ++ slot_of (storage name class number) link.0 link.1 inner.top ∷ [] → IsWhole st number m inner → new ++ slots_left st m (inner ∷ []) ≡ old ++ slots_from n (link ∷ []) (built (inside st) (storage name class number ∷ []))
unfolding level_slots
storage_step st old new n m number name class link inner at e is =
    let t = inside st number in
    ap (λ (s : List Slot). s ++ slots_left st m (inner ∷ [])) e
    ∙ append_assoc old (slot_of (storage name class number) link.0 link.1 inner.top ∷ []) (slots_left st m (inner ∷ []))
    ∙ ap (λ (s : List Slot). old ++ (slot_of (storage name class number) link.0 link.1 inner.top ∷ s)) (slots_one st m inner ∙ ap (λ (ls : List (ℕ × ℕ)). slots_from m ls (built (inside st) (files_left st inner))) is.links ∙ ap (slots_from m (links_of_siblings (sibling_numbers m t))) is.left ∙ sym (append-nil (slots_from m (links_of_siblings (sibling_numbers m t)) t)))
    ∙ ap (λ (k : ℕ). old ++ (slot_of (storage name class number) link.0 link.1 k ∷ (slots_from m (links_of_siblings (sibling_numbers m t)) t ++ []))) is.top
    ∙ ap (λ (k : ℕ). old ++ (slot_of (storage name class number) link.0 link.1 (top_of (sibling_numbers k t)) ∷ (slots_from k (links_of_siblings (sibling_numbers k t)) t ++ []))) at

-- the place of a file, which stands in this storage at this number
module _ (st : List (List Child)) (old new : List Place) (p : Place) (at file n : ℕ) (e : new ≡ old ++ p ∷ []) where
  placed_at : (c : Child) (link : ℕ) → p.child ≡ link → p.storage ≡ at → p.file ≡ file → child_at st at file ≡ c → slots_at st new ≡ slots_at st old ++ slot_of c p.left p.right link ∷ []
  placed_at c link top s f child =
      let here : child_at st p.storage p.file ≡ c = ap (λ (k : ℕ). child_at st k p.file) s ∙ ap (child_at st at) f ∙ child in
      let slot : slot_at st p ≡ slot_of c p.left p.right link = ap (λ (x : Child). slot_of x p.left p.right p.child) here ∙ ap (slot_of c p.left p.right) top in
      ap (slots_at st) e ∙ map-append (slot_at st) old (p ∷ []) ∙ ap (λ (x : Slot). slots_at st old ++ x ∷ []) slot

  pub storage_placed : (m number : ℕ) (name class : List ℕ) (inner : Level) → m ≡ n + 1 → p.child ≡ inner.top → p.storage ≡ at → p.file ≡ file → child_at st at file ≡ storage name class number → IsWhole st number m inner → slots_at st new ++ slots_left st m (inner ∷ []) ≡ slots_at st old ++ slots_from n ((p.left, p.right) ∷ []) (built (inside st) (child_at st at file ∷ []))
  storage_placed m number name class inner next top s f child is =
      storage_step st (slots_at st old) (slots_at st new) n m number name class (p.left, p.right) inner next (placed_at (storage name class number) inner.top top s f child) is
      ∙ ap (λ (c : Child). slots_at st old ++ slots_from n ((p.left, p.right) ∷ []) (built (inside st) (c ∷ []))) (sym child)

  pub stream_placed : (name bytes : List ℕ) → p.child ≡ no_link → p.storage ≡ at → p.file ≡ file → child_at st at file ≡ stream name bytes → slots_at st new ++ [] ≡ slots_at st old ++ slots_from n ((p.left, p.right) ∷ []) (built (inside st) (child_at st at file ∷ []))
  stream_placed name bytes none s f child =
      append-nil (slots_at st new)
      ∙ placed_at (stream name bytes) no_link none s f child
      ∙ ap (λ (c : Child). slots_at st old ++ slots_from n ((p.left, p.right) ∷ []) (built (inside st) (c ∷ []))) (sym child)

-- the file at a place, by its kind
pub kind_at : {B : Type 0} (of : B → List ℕ) (cs : List Child) (k : ℕ) (file : FileView B) (kind : KindView B) → slice_get cs k ≡ Some (file_seen of file) → file.kind ≡ kind → get_or cs k (stream [] []) ≡ child_seen of (name_seen file.name) kind
kind_at of cs k file kind at is = get_or_from_slice_get cs k (file_seen of file) (stream [] []) at ∙ ap (child_seen of (name_seen file.name)) is

-- ---- a level goes on

each_last : {X : Type 0} (P : X → Type 0) (xs : List X) (y : X) → AllByRecursion P (xs ++ y ∷ []) → P y
each_last P [] y all = all.0
each_last P (x ∷ xs) y all = each_last P xs y all.1

each_front : {X : Type 0} (P : X → Type 0) (xs ys : List X) → AllByRecursion P (xs ++ ys) → AllByRecursion P xs
each_front P [] ys all = tt
each_front P (x ∷ xs) ys all = (all.0, each_front P xs ys all.1)

each_both : {X : Type 0} (P : X → Type 0) (xs ys : List X) → AllByRecursion P xs → AllByRecursion P ys → AllByRecursion P (xs ++ ys)
each_both P [] ys a b = b
each_both P (x ∷ xs) ys a b = (a.0, each_both P xs ys a.1 b)

pub last_level : (st : List (List Child)) (before : List Level) (l : Level) → AllByRecursion (IsLevel st) (before ++ l ∷ []) → IsLevel st l
last_level st before l all = each_last (IsLevel st) before l all

abbrev pub moved : Level → Level
moved l = record l { file = l.file + 1 }

-- nothing is left of the last level
pub finished : (st : List (List Child)) (places : List Place) (before : List Level) (l : Level) → All (IsPlace st) places → AllByRecursion (IsLevel st) (before ++ l ∷ []) → length (children_at st l.storage) ≤ l.file → Proceeds st places places (before ++ l ∷ []) before
unfolding level_slots
finished st places before l valid all past =
    let none : files_left st l ≡ [] = drop_all l.file (children_at st l.storage) past in
    let zero_left : entries_left st (l ∷ []) ≡ 0 = omega (arith, ap (λ (cs : List Child). entries_in (built (inside st) cs)) none) in
    let no_slot : slots_left st (length places + 1) (l ∷ []) ≡ [] = slots_one st (length places + 1) l ∙ ap (λ (cs : List Child). slots_from (length places + 1) (drop l.file l.links.items) (built (inside st) cs)) none in
    record {
      valid = valid;
      levels = each_front (IsLevel st) before (l ∷ []) all;
      slots = ap (λ (s : List Slot). slots_at st places ++ s) (sym (slots_both st (length places + 1) before (l ∷ []) ∙ ap (λ (s : List Slot). s ++ slots_left st (length places + 1 + entries_left st (l ∷ [])) before) no_slot ∙ ap (λ (k : ℕ). slots_left st k before) (omega (arith, zero_left))));
      room = omega (arith, entries_both st before (l ∷ []), zero_left);
    }

-- the next file of the last level, and what is in it
module _ (st : List (List Child)) (before extra : List Level) (l : Level) (link : ℕ × ℕ) (lt : l.file < length (children_at st l.storage)) (at : link ≡ get_or l.links.items l.file link) (last : IsLevel st l) where
  next_file : files_left st l ≡ child_at st l.storage l.file ∷ files_left st (moved l)
  next_file = left_more (children_at st l.storage) l.file (stream [] []) lt

  next_links : drop l.file l.links.items ≡ link ∷ drop (l.file + 1) l.links.items
  next_links = drop_more l.links.items l.file link (omega (arith, lt, last.linked)) ∙ ap (λ (x : ℕ × ℕ). x ∷ drop (l.file + 1) l.links.items) (sym at)

  pub room_next : entries_left st (l ∷ []) ≡ entries_in (built (inside st) (child_at st l.storage l.file ∷ [])) + entries_left st (moved l ∷ [])
  room_next = omega (arith, ap (λ (cs : List Child). entries_in (built (inside st) cs)) next_file, room_then (inside st) (child_at st l.storage l.file) (files_left st (moved l)))

  slots_next : (n : ℕ) → slots_left st n (l ∷ []) ≡ slots_from n (link ∷ []) (built (inside st) (child_at st l.storage l.file ∷ [])) ++ slots_left st (n + entries_in (built (inside st) (child_at st l.storage l.file ∷ []))) (moved l ∷ [])
  unfolding level_slots
  slots_next n =
      let c = child_at st l.storage l.file in
      let rest = files_left st (moved l) in
      let links = drop (l.file + 1) l.links.items in
      slots_one st n l
      ∙ ap (λ (cs : List Child). slots_from n (drop l.file l.links.items) (built (inside st) cs)) next_file
      ∙ ap (λ (ls : List (ℕ × ℕ)). slots_from n ls (built (inside st) (c ∷ rest))) next_links
      ∙ slots_then (inside st) n link links c rest
      ∙ ap (λ (s : List Slot). slots_from n (link ∷ []) (built (inside st) (c ∷ [])) ++ s) (sym (slots_one st (n + entries_in (built (inside st) (c ∷ []))) (moved l)))

  pub fewer_left : 1 + entries_left st extra ≡ entries_in (built (inside st) (child_at st l.storage l.file ∷ [])) → 1 + entries_left st ((before ++ moved l ∷ []) ++ extra) ≡ entries_left st (before ++ l ∷ [])
  fewer_left h = omega (arith, h, room_next, entries_both st (before ++ moved l ∷ []) extra, entries_both st before (moved l ∷ []), entries_both st before (l ∷ []))

  pub placed_next : (old new : List Slot) (n m : ℕ) → m ≡ n + 1 → 1 + entries_left st extra ≡ entries_in (built (inside st) (child_at st l.storage l.file ∷ [])) → new ++ slots_left st m extra ≡ old ++ slots_from n (link ∷ []) (built (inside st) (child_at st l.storage l.file ∷ [])) → new ++ slots_left st m ((before ++ moved l ∷ []) ++ extra) ≡ old ++ slots_left st n (before ++ l ∷ [])
  placed_next old new n m more h e =
      let one = entries_in (built (inside st) (child_at st l.storage l.file ∷ [])) in
      let first = slots_from n (link ∷ []) (built (inside st) (child_at st l.storage l.file ∷ [])) in
      let rest = moved l ∷ [] in
      let far : m + entries_left st extra ≡ n + one = omega (arith, more, h) in
      let end : n + one + entries_left st rest ≡ n + entries_left st (l ∷ []) = omega (arith, room_next) in
      ap (λ (s : List Slot). new ++ s) (slots_both st m (before ++ rest) extra)
      ∙ sym (append_assoc new (slots_left st m extra) (slots_left st (m + entries_left st extra) (before ++ rest)))
      ∙ ap (λ (s : List Slot). s ++ slots_left st (m + entries_left st extra) (before ++ rest)) e
      ∙ ap (λ (k : ℕ). (old ++ first) ++ slots_left st k (before ++ rest)) far
      ∙ append_assoc old first (slots_left st (n + one) (before ++ rest))
      ∙ ap (λ (s : List Slot). old ++ (first ++ s)) (slots_both st (n + one) before rest ∙ ap (λ (k : ℕ). slots_left st (n + one) rest ++ slots_left st k before) end)
      ∙ ap (λ (s : List Slot). old ++ s) (sym (append_assoc first (slots_left st (n + one) rest) (slots_left st (n + entries_left st (l ∷ [])) before)) ∙ ap (λ (s : List Slot). s ++ slots_left st (n + entries_left st (l ∷ [])) before) (sym (slots_next n)) ∙ sym (slots_both st n before (l ∷ [])))

-- its entry was placed, and what is in it lies above
pub proceeds : (st : List (List Child)) (old new : List Place) (n : ℕ) (before extra now : List Level) (l : Level) (link : ℕ × ℕ) → n ≡ length old → length new ≡ n + 1 → l.file < length (children_at st l.storage) → link ≡ get_or l.links.items l.file link → AllByRecursion (IsLevel st) (before ++ l ∷ []) → AllByRecursion (IsLevel st) extra → All (IsPlace st) new → 1 + entries_left st extra ≡ entries_in (built (inside st) (child_at st l.storage l.file ∷ [])) → slots_at st new ++ slots_left st (n + 2) extra ≡ slots_at st old ++ slots_from (n + 1) (link ∷ []) (built (inside st) (child_at st l.storage l.file ∷ [])) → now ≡ (before ++ moved l ∷ []) ++ extra → Proceeds st old new (before ++ l ∷ []) now
proceeds st old new n before extra now l link long count lt at all above valid room slots e =
    let last = last_level st before l all in
    let next : IsLevel st (moved l) = record { exists = last.exists; linked = last.linked } in
    let place : n + 2 ≡ length new + 1 = omega (arith, count) in
    let start : n + 1 ≡ length old + 1 = omega (arith, long) in
    let here : n + 2 ≡ n + 1 + 1 = omega arith in
    record {
      valid = valid;
      levels = subst (AllByRecursion (IsLevel st)) (sym e) (each_both (IsLevel st) (before ++ moved l ∷ []) extra (each_both (IsLevel st) before (moved l ∷ []) (each_front (IsLevel st) before (l ∷ []) all) (next, tt)) above);
      slots =
          ap (λ (x : List Level). slots_at st new ++ slots_left st (length new + 1) x) e
          ∙ ap (λ (k : ℕ). slots_at st new ++ slots_left st k ((before ++ moved l ∷ []) ++ extra)) (sym place)
          ∙ placed_next st before extra l link lt at last (slots_at st old) (slots_at st new) (n + 1) (n + 2) here room slots
          ∙ ap (λ (k : ℕ). slots_at st old ++ slots_left st k (before ++ l ∷ [])) start;
      room = omega (arith, long, count, fewer_left st before extra l link lt at last room, ap (entries_left st) e);
    }

pub fewer : (st : List (List Child)) (old new : List Place) (before extra now : List Level) (l : Level) → Proceeds st old new (before ++ l ∷ []) now → length new ≡ length old + 1 → length extra ≤ 1 → now ≡ (before ++ moved l ∷ []) ++ extra → 2 * entries_left st now + length now ≤ 2 * entries_left st (before ++ l ∷ []) + length before
fewer st old new before extra now l is count few e =
    omega (arith, is.room, count, few, ap length e, length-append (before ++ moved l ∷ []) extra, length-append before (moved l ∷ []))
