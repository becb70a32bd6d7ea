-- The numbers of a layout, from the totals of its tree.
use Rattle.std.proofs.Common.{◌≡◌, ℕ, suc, ◌+◌, ◌*◌, List, [], ◌∷◌, ◌++◌, length, drop, refl, ap, ◌∙◌, arith}
use Rattle.std.specs.Int.{div_ceil}
use Rattle.carrier_model.specs.FileTrees as trees
use Rattle.carrier_model.specs.FileTrees.{FileTree, entries_in, NO_CLASS}
use Rattle.carrier_model.specs.Layout.{MINI, Plan, STREAM, Sizes, Slot, fat_count, first_links, links_of_siblings, plan_of, rest_of, sibling_numbers, slots_from}
use Rattle.carrier_model.specs.Links.{no_link}
use Rattle.carrier_model.specs.Tables.{difat_count}
use Rattle.cfb_writer.specs.Laid.{slots_in}
use Rattle.cfb_writer.specs.Planned.{laid_of, planned}
use Rattle.cfb_writer.specs.Shares.{share_total}
use Rattle.cfb_list.specs.Trees.{long_in, mini_in}
use Rattle.cfb_writer.specs.declared.streams.Share.{Share}
use Rattle.cfb_writer.specs.declared.streams.Share.TheVariants.{Short, Long}
use Rattle.cfb_writer.proofs.Numbered.{slots_count}
use Rattle.cfb_writer.proofs.Shared.{total_then}

both : (share : Share) (size : ℕ) (xs ys : List Slot) → share_total share size (xs ++ ys) ≡ share_total share size xs + share_total share size ys
both Short size [] ys = omega arith
both Long size [] ys = omega arith
both share size (x ∷ xs) ys = omega (arith, both share size xs ys, total_then share size x xs, total_then share size x (xs ++ ys))

pub mini_total : (n : ℕ) (ls : List (ℕ × ℕ)) (files : FileTree) → share_total Short 64 (slots_from n ls files) ≡ mini_in files
mini_total n ls trees.no_file = refl
mini_total n ls (trees.stream name bytes others) =
    let s : Slot = record { name = name; class = NO_CLASS; kind = STREAM; left = (first_links ls).0; right = (first_links ls).1; child = no_link; bytes = bytes } in
    omega (arith, total_then Short 64 s (slots_from (n + 1) (drop 1 ls) others), mini_total (n + 1) (drop 1 ls) others)
mini_total n ls (trees.storage name class below others) =
    let inner = links_of_siblings (sibling_numbers (n + 1) below) in
    both Short 64 (slots_from (n + 1) inner below) (slots_from (n + 1 + entries_in below) (drop 1 ls) others)
    ∙ omega (arith, mini_total (n + 1) inner below, mini_total (n + 1 + entries_in below) (drop 1 ls) others)

pub long_total : (z n : ℕ) (ls : List (ℕ × ℕ)) (files : FileTree) → share_total Long z (slots_from n ls files) ≡ long_in z files
long_total z n ls trees.no_file = refl
long_total z n ls (trees.stream name bytes others) =
    let s : Slot = record { name = name; class = NO_CLASS; kind = STREAM; left = (first_links ls).0; right = (first_links ls).1; child = no_link; bytes = bytes } in
    omega (arith, total_then Long z s (slots_from (n + 1) (drop 1 ls) others), long_total z (n + 1) (drop 1 ls) others)
long_total z n ls (trees.storage name class below others) =
    let inner = links_of_siblings (sibling_numbers (n + 1) below) in
    both Long z (slots_from (n + 1) inner below) (slots_from (n + 1 + entries_in below) (drop 1 ls) others)
    ∙ omega (arith, long_total z (n + 1) inner below, long_total z (n + 1 + entries_in below) (drop 1 ls) others)

abbrev from_counts : ℕ → ℕ → ℕ → ℕ → Plan
from_counts z count mini long =
    let sizes : Sizes = record { directory = div_ceil (128 * count) z; mini_fat = div_ceil (4 * mini) z; mini_sectors = mini; mini_stream = div_ceil (MINI * mini) z; long = long } in
    let f = fat_count z (rest_of sizes) in
    record { sizes = sizes; fat = f; difat = difat_count z f }

-- the totals of a tree give the numbers of its layout
pub plan_is : (z : ℕ) (class : List ℕ) (files : FileTree) → plan_of z (slots_in (laid_of class files)) ≡ planned z (entries_in files) (mini_in files) (long_in z files)
plan_is z class files =
    let ls = links_of_siblings (sibling_numbers 1 files) in
    let count : suc (length (slots_from 1 ls files)) ≡ entries_in files + 1 = omega (arith, slots_count 1 ls files) in
    ap (λ (n : ℕ). from_counts z n (share_total Short 64 (slots_from 1 ls files)) (share_total Long z (slots_from 1 ls files))) count
    ∙ ap (λ (m : ℕ). from_counts z (entries_in files + 1) m (share_total Long z (slots_from 1 ls files))) (mini_total 1 ls files)
    ∙ ap (λ (l : ℕ). from_counts z (entries_in files + 1) (mini_in files) l) (long_total z 1 ls files)
