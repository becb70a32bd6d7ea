use Rattle.std.proofs.Common.{◌≡◌, ◌++◌, [], List, ℕ, sym, ap, ◌∙◌, append_assoc}
use Rattle.std.proofs.lemmas.List.{append-nil}
use Rattle.mail_model.specs.Lines.{lines, text_of}
use Rattle.mail_model.specs.Entities.{continued}
use Rattle.mail_model.proofs.Entities.{continued-none, continued-stop, continued-more}
use Rattle.mime_envelope.proofs.Coded.{none_left}
use Rattle.mime_envelope.proofs.header.unfolded.Goals as goal
use Rattle.mime_envelope.proofs.header.unfolded.Goals.{else-loop-rest-test, then-loop-rest-test+then-not-begins_blank}

pub loop-rest-preserved : goal.loop-rest-preserved
loop-rest-preserved c =
    let more = continued-more c.loop-rest.rest.now c.split_line.result.0.now c.split_line.result.1.now c.split_line.ensures.lines (sym c.if-not-begins_blank.false ∙ c.begins_blank.ensures) in
    let grown : c.extend_from_slice.new.self.items ≡ c.loop-rest.value.items ++ text_of c.split_line.result.0.now = c.in_ok-extend_from_slice.ensures.items ∙ ap (λ (z : List ℕ). c.loop-rest.value.items ++ z) c.without_end.ensures in
    ap (λ (z : List ℕ). z ++ continued (lines c.split_line.result.1.now)) grown
    ∙ append_assoc c.loop-rest.value.items (text_of c.split_line.result.0.now) (continued (lines c.split_line.result.1.now))
    ∙ ap (λ (z : List ℕ). c.loop-rest.value.items ++ z) (sym more)
    ∙ c.loop-rest.invariant

pub returns : goal.returns
returns c =
    let stop : continued (lines c.loop-rest.rest.now) ≡ [] =
    elim c.loop-rest-test.branch [
      | else-loop-rest-test w ↦ continued-none c.loop-rest.rest.now (none_left _ _ c.is_empty.ensures w.loop-rest-test.false)
      | then-loop-rest-test+then-not-begins_blank w ↦ continued-stop c.loop-rest.rest.now w.split_line.result.0.now w.split_line.result.1.now w.split_line.ensures.lines (sym w.if-not-begins_blank.true ∙ w.begins_blank.ensures)
    ] in
    sym (append-nil c.loop-rest.value.items) ∙ ap (λ (z : List ℕ). c.loop-rest.value.items ++ z) (sym stop) ∙ c.loop-rest.invariant
