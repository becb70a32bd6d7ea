use Rattle.std.proofs.Common.{◌≡◌, ◌∙◌, ◌+◌, ◌∷◌, sym, ap, subst, drop}
use Rattle.std.specs.Prelude.{string_bytes, IfOk}
use Rattle.std.specs.Option.{option_map}
use Rattle.edit_words.specs.Meaning.{texts, edit_of}
use Rattle.edit_words.specs.Verbs.{word_of}
use Rattle.edit_words.proofs.EditSteps.{verb_at}
use Rattle.edit_words.proofs.Said.{said_here, none_here}
use Rattle.edit_words.proofs.scripts.read_at.Goals as goal

pub returns-in-Some : goal.returns-in-Some
returns-in-Some c =
    let T = texts c.args.words.now in
    let here = verb_at string_bytes c.args.words.now c.args.at c.index-words-at.result c.index-words-at.is c.requires.place ∙ ap (λ v. v ∷ drop (c.args.at + 1) T) (sym c.as_str.ensures.value ∙ c.in-Some.ensures) in
    subst (λ o. IfOk c.read_edit.result (λ r. option_map edit_of r ≡ o)) (said_here T c.args.at (word_of c.in-Some.verb) (texts c.own_words.result.now) here c.own_words.ensures) c.read_edit.ensures

pub returns-in-None : goal.returns-in-None
returns-in-None c =
    let T = texts c.args.words.now in
    let here = verb_at string_bytes c.args.words.now c.args.at c.index-words-at.result c.index-words-at.is c.requires.place ∙ ap (λ v. v ∷ drop (c.args.at + 1) T) (sym c.as_str.ensures.value) in
    none_here T c.args.at c.as_str.result.now here c.in-None.ensures
