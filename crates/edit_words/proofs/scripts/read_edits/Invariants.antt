use Rattle.std.proofs.Common.{◌≡◌, ◌-◌, drop, length, map, Some}
use Rattle.edit_model.specs.EditWords.{edits_behind, edits_of}
use Rattle.edit_words.specs.Meaning.{said, said_at, texts}
use Rattle.edit_words.proofs.scripts.read_edits.Given as goal

abbrev pub invariant-loop-at : goal.invariant-loop-at
invariant-loop-at l = record {
  done : edits_behind (said (texts l.words) l.starts.items) 0 (drop l.at (texts l.words)) ≡ edits_of (texts l.words);
  each : map Some (said (texts l.words) l.starts.items) ≡ map (said_at (texts l.words)) l.starts.items;
}

abbrev pub decreases-loop-at : goal.decreases-loop-at
decreases-loop-at l = length l.words - l.at
