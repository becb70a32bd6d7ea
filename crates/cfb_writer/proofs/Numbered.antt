-- Children numbered and placed, one after the other.
use Rattle.std.proofs.Common.{◌≡◌, ℕ, zero, suc, ◌+◌, ◌-◌, ◌<◌, ◌≤◌, List, [], ◌∷◌, ◌++◌, length, get_or, take, drop, refl, sym, ap, ◌∙◌, append_assoc, arith}
use Rattle.std.specs.Prelude.{Some, slice_get}
use Rattle.std.proofs.lemmas.List.{drop_more, length-append, length-take-le, length-drop}
use Rattle.std.proofs.lemmas.Option.{get_or_from_slice_get}
use Rattle.carrier_model.specs.FileTrees as trees
use Rattle.carrier_model.specs.FileTrees.{FileTree, entries_in}
use Rattle.carrier_model.specs.Layout.{Slot, sibling_numbers, slots_from, middle, top_of, side_links, links_of_siblings}
use Rattle.cfb_list.specs.Listed.{Child, stream, storage, built}

-- one sibling, and those behind it
pub numbers_then : (tree : ℕ → FileTree) (n : ℕ) (c : Child) (cs : List Child) → sibling_numbers n (built tree (c ∷ cs)) ≡ n ∷ sibling_numbers (n + entries_in (built tree (c ∷ []))) (built tree cs)
numbers_then tree n (stream name bytes) cs = refl
numbers_then tree n (storage name class number) cs = ap (λ (m : ℕ). n ∷ sibling_numbers m (built tree cs)) (omega arith)

pub room_then : (tree : ℕ → FileTree) (c : Child) (cs : List Child) → entries_in (built tree (c ∷ cs)) ≡ entries_in (built tree (c ∷ [])) + entries_in (built tree cs)
room_then tree (stream name bytes) cs = omega arith
room_then tree (storage name class number) cs = omega arith

pub slots_then : (tree : ℕ → FileTree) (n : ℕ) (l : ℕ × ℕ) (ls : List (ℕ × ℕ)) (c : Child) (cs : List Child) → slots_from n (l ∷ ls) (built tree (c ∷ cs)) ≡ slots_from n (l ∷ []) (built tree (c ∷ [])) ++ slots_from (n + entries_in (built tree (c ∷ []))) ls (built tree cs)
slots_then tree n l ls (stream name bytes) cs = refl
slots_then tree n l ls (storage name class number) cs =
    let inner = slots_from (n + 1) (links_of_siblings (sibling_numbers (n + 1) (tree number))) (tree number) in
    ap (λ (x : List Slot). record { name = name; class = class; kind = 1; left = l.0; right = l.1; child = top_of (sibling_numbers (n + 1) (tree number)); bytes = [] } ∷ x)
    (ap (λ (m : ℕ). inner ++ slots_from m ls (built tree cs)) (omega arith) ∙ sym (append_assoc inner [] (slots_from (n + suc (entries_in (tree number) + 0)) ls (built tree cs))))

pub slots_count : (n : ℕ) (ls : List (ℕ × ℕ)) (t : FileTree) → length (slots_from n ls t) ≡ entries_in t
slots_count n ls trees.no_file = refl
slots_count n ls (trees.stream name bytes others) = ap suc (slots_count (n + 1) (drop 1 ls) others)
slots_count n ls (trees.storage name class below others) =
    omega (arith, length-append (slots_from (n + 1) (links_of_siblings (sibling_numbers (n + 1) below)) below) (slots_from (n + 1 + entries_in below) (drop 1 ls) others), slots_count (n + 1) (links_of_siblings (sibling_numbers (n + 1) below)) below, slots_count (n + 1 + entries_in below) (drop 1 ls) others)

pub numbers_count : (tree : ℕ → FileTree) (n : ℕ) (cs : List Child) → length (sibling_numbers n (built tree cs)) ≡ length cs
numbers_count tree n [] = refl
numbers_count tree n (stream name bytes ∷ cs) = ap suc (numbers_count tree (n + 1) cs)
numbers_count tree n (storage name class number ∷ cs) = ap suc (numbers_count tree (n + 1 + entries_in (tree number)) cs)

sides_count : (levels : ℕ) (ns : List ℕ) → length ns ≤ levels → length (side_links levels ns) ≡ length ns
sides_count zero [] h = refl
sides_count zero (n ∷ ns) h = absurd (omega (arith, h))
sides_count (suc levels) [] h = refl
sides_count (suc levels) (n ∷ ns) h =
    let all = n ∷ ns in
    let before : length (take (middle all) all) ≡ middle all = length-take-le (middle all) all (omega arith) in
    let behind : length (drop (middle all + 1) all) ≡ length all - (middle all + 1) = length-drop (middle all + 1) all in
    omega (arith, length-append (side_links levels (take (middle all) all)) ((top_of (take (middle all) all), top_of (drop (middle all + 1) all)) ∷ side_links levels (drop (middle all + 1) all)), sides_count levels (take (middle all) all) (omega (arith, before, h)), sides_count levels (drop (middle all + 1) all) (omega (arith, behind, h)), before, behind)

pub links_count : (ns : List ℕ) → length (links_of_siblings ns) ≡ length ns
links_count ns = sides_count (length ns) ns (omega arith)

-- what is left of some children, with the number of the next
pub record Numbering (tree : ℕ → FileTree) (first : ℕ) (cs : List Child) (k number : ℕ) (numbers : List ℕ) : Type 0 where
  pub parts : numbers ++ sibling_numbers number (built tree (drop k cs)) ≡ sibling_numbers first (built tree cs)
  pub room : number + entries_in (built tree (drop k cs)) ≡ first + entries_in (built tree cs)

pub numbered_more : (tree : ℕ → FileTree) (first : ℕ) (cs : List Child) (k number next : ℕ) (numbers more : List ℕ) (c : Child) → drop k cs ≡ c ∷ drop (k + 1) cs → more ≡ numbers ++ number ∷ [] → next ≡ number + entries_in (built tree (c ∷ [])) → Numbering tree first cs k number numbers → Numbering tree first cs (k + 1) next more
numbered_more tree first cs k number next numbers more c at e n is =
    let rest = drop (k + 1) cs in
    record {
      parts =
          ap (λ (x : List ℕ). x ++ sibling_numbers next (built tree rest)) e
          ∙ append_assoc numbers (number ∷ []) (sibling_numbers next (built tree rest))
          ∙ ap (λ (m : ℕ). numbers ++ (number ∷ sibling_numbers m (built tree rest))) n
          ∙ ap (λ (x : List ℕ). numbers ++ x) (sym (ap (λ (x : List Child). sibling_numbers number (built tree x)) at ∙ numbers_then tree number c rest))
          ∙ is.parts;
      room = omega (arith, is.room, n, ap (λ (x : List Child). entries_in (built tree x)) at, room_then tree c rest);
    }

pub dropped_more : (cs : List Child) (k : ℕ) (c : Child) → k < length cs → slice_get cs k ≡ Some c → drop k cs ≡ c ∷ drop (k + 1) cs
dropped_more cs k c lt at = drop_more cs k c lt ∙ ap (λ (x : Child). x ∷ drop (k + 1) cs) (get_or_from_slice_get cs k c c at)

-- there is room for the next one
pub room_here : (tree : ℕ → FileTree) (first : ℕ) (cs : List Child) (k number most : ℕ) (numbers : List ℕ) (c : Child) → Numbering tree first cs k number numbers → drop k cs ≡ c ∷ drop (k + 1) cs → first + entries_in (built tree cs) ≤ most → number + entries_in (built tree (c ∷ [])) ≤ most
room_here tree first cs k number most numbers c is at few = omega (arith, is.room, few, ap (λ (x : List Child). entries_in (built tree x)) at, room_then tree c (drop (k + 1) cs))

-- ---- entries placed

pub left_more : (cs : List Child) (k : ℕ) (d : Child) → k < length cs → drop k cs ≡ get_or cs k d ∷ drop (k + 1) cs
left_more cs k d lt = drop_more cs k d lt
