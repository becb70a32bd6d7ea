-- The file of a tree, with the class of its root.
use Rattle.std.specs.Prelude.{ℕ, ◌+◌, ◌*◌, List}
use Rattle.std.specs.Int.{div_ceil}
use Rattle.carrier_model.specs.Tables.{difat_count}
use Rattle.carrier_model.specs.FileTrees.{FileTree, sorted}
use Rattle.carrier_model.specs.Layout.{MINI, Plan, Sizes, fat_count, file_bytes, links_of_siblings, plan_of, rest_of, sibling_numbers, slots_from, top_of}
use Rattle.cfb_writer.specs.Laid.{Laid, slots_in}

-- the entries of a tree whose storages are in order
abbrev pub laid_of : List ℕ → FileTree → Laid
laid_of class files = record { root_class = class; top = top_of (sibling_numbers 1 files); others = slots_from 1 (links_of_siblings (sibling_numbers 1 files)) files }

-- the one compound file that a tree is written as, for sectors of z bytes and this class of the root
abbrev pub layout_of : ℕ → List ℕ → FileTree → List ℕ
layout_of z class files =
    let slots = slots_in (laid_of class (sorted files)) in
    file_bytes z (plan_of z slots) slots

-- the numbers of a layout with so many entries beside the root, mini sectors and sectors of long streams
abbrev pub planned : ℕ → ℕ → ℕ → ℕ → Plan
planned z entries mini long =
    let sizes : Sizes = record { directory = div_ceil (128 * (entries + 1)) z; mini_fat = div_ceil (4 * mini) z; mini_sectors = mini; mini_stream = div_ceil (MINI * mini) z; long = long } in
    let f = fat_count z (rest_of sizes) in
    record { sizes = sizes; fat = f; difat = difat_count z f }
