use Rattle.std.proofs.Common.{◌≡◌, ◌∙◌, sym, ap, ◌+◌, ◌∷◌, ◌++◌, [], Some, length, drop, refl, rules}
use Rattle.std.specs.Prelude.{string_bytes}
use Rattle.std.proofs.lemmas.List.{length-map}
use Rattle.edit_model.specs.EditWords.{edits_behind, words_behind}
use Rattle.edit_model.proofs.WordsFit.{short_are}
use Rattle.edit_words.specs.Meaning.{texts, edit_of, said, said_at}
use Rattle.edit_words.specs.Verbs.{word_of}
use Rattle.edit_words.proofs.EditSteps.{own_short, verb_at, edits_stuck, edits_next, edits_unknown}
use Rattle.edit_words.proofs.Said.{said_here, said_more, each_more}
use Rattle.edit_words.proofs.scripts.read_edits.Goals as goal

pub returns-in_default : goal.returns-in_default
returns-in_default c =
    let T = texts c.args.words.now in
    let here = verb_at string_bytes c.args.words.now c.loop-at.at c.index-words-at.result c.index-words-at.is c.loop-at-test.true ∙ ap (λ v. v ∷ drop (c.loop-at.at + 1) T) (sym c.as_str.ensures.value) in
    sym (edits_unknown (said T c.loop-at.starts.items) T c.loop-at.at c.as_str.result.now here c.in_default.ensures) ∙ c.loop-at.invariant.done

pub read_edit-requires : goal.read_edit-requires
read_edit-requires c = own_short (texts c.args.words.now) c.loop-at.at (words_behind (word_of c.in-Some.verb)) _ (sym c.if-not-are_short.false ∙ c.are_short.ensures) c.own_words-own.ensures

pub returns-in-None : goal.returns-in-None
returns-in-None c =
    let T = texts c.args.words.now in
    let verb = word_of c.in-Some.verb in
    let here = verb_at string_bytes c.args.words.now c.loop-at.at c.index-words-at.result c.index-words-at.is c.loop-at-test.true ∙ ap (λ v. v ∷ drop (c.loop-at.at + 1) T) (sym c.as_str.ensures.value ∙ c.in-Some.ensures) in
    let fails = rw c.in-None.is at c.in_ok-edit.ensures in
    sym (edits_stuck (said T c.loop-at.starts.items) T c.loop-at.at (words_behind verb) verb _ here refl c.own_words-own.ensures fails) ∙ c.loop-at.invariant.done

pub loop-at-preserved : goal.loop-at-preserved
loop-at-preserved c =
    let T = texts c.args.words.now in
    let at = c.loop-at.at in
    let starts = c.loop-at.starts.items in
    let verb = word_of c.in-Some.verb in
    let own = c.own_words-own.result.now in
    let e = edit_of c.in-Some-2.edit in
    let here = verb_at string_bytes c.args.words.now at c.index-words-at.result c.index-words-at.is c.loop-at-test.true ∙ ap (λ v. v ∷ drop (at + 1) T) (sym c.as_str.ensures.value ∙ c.in-Some.ensures) in
    let made = rw c.in-Some-2.is at c.in_ok-edit.ensures in
    let is : said_at T at ≡ Some e = sym (said_here T at verb (texts own) here c.own_words-own.ensures) ∙ sym made in
    let start : c.in-Ok.start ≡ at = search rules in
    let items : c.push.new.self.items ≡ starts ++ at ∷ [] = c.in_ok-push.ensures.items ∙ ap (λ n. starts ++ n ∷ []) start in
    record {
      done = ap (λ s. edits_behind (said T s) 0 (drop (at + 1 + length own) T)) items
          ∙ (ap (λ es. edits_behind es 0 (drop (at + 1 + length own) T)) (said_more T starts at e is)
          ∙ (ap (λ n. edits_behind (said T starts ++ e ∷ []) 0 (drop (at + 1 + n) T)) (sym (length-map own string_bytes))
          ∙ (sym (edits_next (said T starts) T at (words_behind verb) verb (texts own) e here refl c.own_words-own.ensures made) ∙ c.loop-at.invariant.done)));
      each = rw items (each_more T starts at e is c.loop-at.invariant.each);
    }

pub new-requires : goal.new-requires
new-requires c = record {
  each = c.loop-at.invariant.each;
  short = short_are (texts c.args.words.now) (sym c.are_short.ensures ∙ c.if-not-are_short.false);
}
