-- The numbers of a layout, and what they say of its parts.
use Rattle.std.specs.Prelude.{◌≡◌, ℕ, ◌+◌, ◌++◌, List, replicate, ◌==◌, if◌then◌else◌}
use Rattle.carrier_model.specs.Chains.{end_word}
use Rattle.carrier_model.specs.Layout.{Plan, Slot, plan_of, FAT_SECTOR, DIFAT_SECTOR, run_words, directory_start, mini_fat_start, mini_stream_start}

-- the numbers of the layout of these entries
abbrev pub IsPlanFor : ℕ → Plan → List Slot → Type 0
IsPlanFor z p slots = p ≡ plan_of z slots

-- the words of all parts before the streams with sectors of their own
abbrev pub front_words : Plan → List ℕ
front_words p =
    replicate p.fat FAT_SECTOR
    ++ (replicate p.difat DIFAT_SECTOR
    ++ (run_words (directory_start p) p.sizes.directory
    ++ (run_words (mini_fat_start p) p.sizes.mini_fat
    ++ run_words (mini_stream_start p) p.sizes.mini_stream)))

-- the DIFAT sector behind the k-th
abbrev pub next_list : Plan → ℕ → ℕ
next_list p k = if k + 1 == p.difat then end_word else p.fat + k + 1
