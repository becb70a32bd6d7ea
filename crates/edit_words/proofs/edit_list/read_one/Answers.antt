use Rattle.std.proofs.Common.{◌∙◌, sym, arith, refl, get_or}
use Rattle.edit_words.specs.Meaning.{texts, said}
use Rattle.edit_words.proofs.Said.{edit_there, start_within}
use Rattle.edit_words.proofs.edit_list.read_one.Goals as goal

pub read_at-requires-clause-place : goal.read_at-requires-clause-place
read_at-requires-clause-place c = omega (arith, start_within c.args.words.now c.args.starts.now (said (texts c.args.words.now) c.args.starts.now) c.args.k (get_or c.args.starts.now c.args.k 0) 0 c.requires.all refl c.requires.place refl)

pub unreachable-requires : goal.unreachable-requires
unreachable-requires c =
    let T = texts c.args.words.now in
    let (e, there, says) = edit_there T c.args.starts.now (said T c.args.starts.now) c.args.k (get_or c.args.starts.now c.args.k 0) 0 c.requires.all refl c.requires.place refl in
    let none = rw c.in-None.is at c.in_ok-edit.ensures in
    absurd cc

pub returns : goal.returns
returns c =
    let T = texts c.args.words.now in
    let (e, there, says) = edit_there T c.args.starts.now (said T c.args.starts.now) c.args.k (get_or c.args.starts.now c.args.k 0) 0 c.requires.all refl c.requires.place refl in
    let some = rw c.in-Some.is at c.in_ok-edit.ensures in
    there ∙ (sym says ∙ sym some)
