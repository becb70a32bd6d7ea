-- Words of the FAT, the mini FAT and the DIFAT, run by run.
use Rattle.std.specs.Prelude.{ℕ, ◌+◌, ◌-◌, ◌==◌, List, replicate, if◌then◌else◌}
use Rattle.std.specs.List.{range_with_len}
use Rattle.carrier_model.specs.Chains.{end_word}
use Rattle.carrier_model.specs.Layout.{run_words}
use Rattle.cfb_writer.specs.declared.runs.Run.{Run}
use Rattle.cfb_writer.specs.declared.runs.Run.TheVariants.{Same, Chain, Numbers}

-- so many words
abbrev pub words_of : Run → ℕ → List ℕ
words_of (Same word) count = replicate count word
words_of (Chain first) count = run_words first count
words_of (Numbers first) count = range_with_len first count

-- the word at a place of so many
abbrev pub word_at : Run → ℕ → ℕ → ℕ
word_at (Same word) count k = word
word_at (Chain first) count k = if k + 1 == count then end_word else first + k + 1
word_at (Numbers first) count k = first + k

-- a number that no word but the end is above
abbrev pub last_of : Run → ℕ → ℕ
last_of (Same word) count = word
last_of (Chain first) count = first + count
last_of (Numbers first) count = first + count

-- the words from a place on
abbrev pub words_from : Run → ℕ → ℕ → List ℕ
words_from (Same word) count k = replicate (count - k) word
words_from (Chain first) count k = run_words (first + k) (count - k)
words_from (Numbers first) count k = range_with_len (first + k) (count - k)
