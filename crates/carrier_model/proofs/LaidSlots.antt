-- The entries of a tree of storages and streams that may be written.
use Rattle.std.proofs.Common.{◌≡◌, ℕ, zero, suc, ◌+◌, ◌<◌, ◌≤◌, ◌^◌, List, [], ◌∷◌, length, get_or, take, drop, refl, sym, subst, arith, inl, inr}
use Rattle.std.specs.Prelude.{codes}
use Rattle.std.specs.List.{AllByRecursion}
use Rattle.std.proofs.lemmas.List.{take-append-drop}
use Rattle.carrier_model.specs.FileTrees as trees
use Rattle.carrier_model.specs.FileTrees.{FileTree, entries_in}
use Rattle.carrier_model.specs.Layout.{Slot, ROOT, middle, top_of, side_links, links_of_siblings, sibling_numbers, first_links, slots_from}
use Rattle.carrier_model.specs.LayoutHolds.{MayBeWrittenAt}
use Rattle.carrier_model.specs.Links.{no_link}
use Rattle.carrier_model.proofs.ChildLaws.{each-append, each-split}
use Rattle.carrier_model.proofs.LaidEntries.{IsSlot}
use Rattle.carrier_model.proofs.LaidParts.{IsFit}
use Rattle.carrier_model.proofs.LaidStreams.{IsGood}

-- ---- numbers that fit

abbrev AreSmall : List ℕ → Type 0
AreSmall ns = AllByRecursion (λ n. n < 2 ^ 32) ns

abbrev pub ArePairs : List (ℕ × ℕ) → Type 0
ArePairs ls = AllByRecursion (λ (l : ℕ × ℕ). (l.0 < 2 ^ 32) × (l.1 < 2 ^ 32)) ls

small-at : (ns : List ℕ) (i : ℕ) → AreSmall ns → get_or ns i no_link < 2 ^ 32
small-at [] i h = omega arith
small-at (n ∷ ns) zero h = h.0
small-at (n ∷ ns) (suc i) h = small-at ns i h.1

pub top-small : (ns : List ℕ) → AreSmall ns → top_of ns < 2 ^ 32
top-small ns h = small-at ns (middle ns) h

small-parts : (k : ℕ) (ns : List ℕ) → AreSmall ns → AreSmall (take k ns) × AreSmall (drop k ns)
small-parts k ns h = each-split (λ n. n < 2 ^ 32) (take k ns) (drop k ns) (subst AreSmall (sym (take-append-drop k ns)) h)

pub sides-small : (levels : ℕ) (ns : List ℕ) → AreSmall ns → ArePairs (side_links levels ns)
sides-small zero ns h = tt
sides-small (suc levels) [] h = tt
sides-small (suc levels) (n ∷ ns) h =
    let all = n ∷ ns in
    let a = (small-parts (middle all) all h).0 in
    let b = (small-parts (middle all + 1) all h).1 in
    each-append (λ (l : ℕ × ℕ). (l.0 < 2 ^ 32) × (l.1 < 2 ^ 32)) (side_links levels (take (middle all) all)) _ (sides-small levels (take (middle all) all) a) ((top-small (take (middle all) all) a, top-small (drop (middle all + 1) all) b), sides-small levels (drop (middle all + 1) all) b)

pub numbers-small : (n : ℕ) (files : FileTree) → n + entries_in files ≤ 2 ^ 32 → AreSmall (sibling_numbers n files)
numbers-small n trees.no_file h = tt
numbers-small n (trees.stream name bytes others) h = (omega (arith, h), numbers-small (n + 1) others (omega (arith, h)))
numbers-small n (trees.storage name class inside others) h = (omega (arith, h), numbers-small (n + 1 + entries_in inside) others (omega (arith, h)))

-- ---- the entries

pub slots-fit : (depth n : ℕ) (ls : List (ℕ × ℕ)) (files : FileTree) → MayBeWrittenAt depth files → AllByRecursion IsFit (slots_from n ls files)
slots-fit depth n ls trees.no_file may = tt
slots-fit depth n ls (trees.stream name bytes others) may = (record { name = may.0.few; class = refl }, slots-fit depth (n + 1) (drop 1 ls) others may.2)
slots-fit depth n ls (trees.storage name class inside others) may =
    (record { name = may.0.few; class = may.1 }, each-append IsFit (slots_from (n + 1) (links_of_siblings (sibling_numbers (n + 1) inside)) inside) (slots_from (n + 1 + entries_in inside) (drop 1 ls) others) (slots-fit (depth + 1) (n + 1) (links_of_siblings (sibling_numbers (n + 1) inside)) inside may.4) (slots-fit depth (n + 1 + entries_in inside) (drop 1 ls) others may.5))

first-small : (ls : List (ℕ × ℕ)) → ArePairs ls → ((first_links ls).0 < 2 ^ 32) × ((first_links ls).1 < 2 ^ 32) × ArePairs (drop 1 ls)
first-small [] h = (omega arith, omega arith, tt)
first-small (l ∷ ls) h = (h.0.0, h.0.1, h.1)

pub slots-good : (depth n : ℕ) (ls : List (ℕ × ℕ)) (files : FileTree) → ArePairs ls → n + entries_in files ≤ 2 ^ 32 → MayBeWrittenAt depth files → AllByRecursion IsGood (slots_from n ls files)
slots-good depth n ls trees.no_file pairs few may = tt
slots-good depth n ls (trees.stream name bytes others) pairs few may =
    let first = first-small ls pairs in (
      record {
        slot = record { fit = record { name = may.0.few; class = refl }; units = may.0.units; kind = omega arith; left = first.0; right = first.1; child = omega arith };
        size = may.1;
        kind = inl refl;
      },
      slots-good depth (n + 1) (drop 1 ls) others first.2 (omega (arith, few)) may.2,
    )
slots-good depth n ls (trees.storage name class inside others) pairs few may =
    let first = first-small ls pairs in
    let numbers = numbers-small (n + 1) inside (omega (arith, few)) in
    let links = links_of_siblings (sibling_numbers (n + 1) inside) in (
      record {
        slot = record { fit = record { name = may.0.few; class = may.1 }; units = may.0.units; kind = omega arith; left = first.0; right = first.1; child = top-small (sibling_numbers (n + 1) inside) numbers };
        size = omega arith;
        kind = inr (refl, refl);
      },
      each-append IsGood (slots_from (n + 1) links inside) (slots_from (n + 1 + entries_in inside) (drop 1 ls) others)
          (slots-good (depth + 1) (n + 1) links inside (sides-small (length (sibling_numbers (n + 1) inside)) (sibling_numbers (n + 1) inside) numbers) (omega (arith, few)) may.4)
          (slots-good depth (n + 1 + entries_in inside) (drop 1 ls) others first.2 (omega (arith, few)) may.5),
    )

-- the root's entry
abbrev pub root_slot : List ℕ → FileTree → Slot
root_slot class files = record { name = codes "Root Entry"; class = class; kind = ROOT; left = no_link; right = no_link; child = top_of (sibling_numbers 1 files); bytes = [] }

abbrev pub other_slots : FileTree → List Slot
other_slots files = slots_from 1 (links_of_siblings (sibling_numbers 1 files)) files

pub root-good : (class : List ℕ) (files : FileTree) → length class ≡ 16 → 1 + entries_in files ≤ 2 ^ 32 → IsSlot (root_slot class files)
root-good class files whole few = record {
  fit = record { name = omega arith; class = whole };
  units = (omega arith, (omega arith, (omega arith, (omega arith, (omega arith, (omega arith, (omega arith, (omega arith, (omega arith, (omega arith, tt))))))))));
  kind = omega arith;
  left = omega arith;
  right = omega arith;
  child = top-small (sibling_numbers 1 files) (numbers-small 1 files few);
}
