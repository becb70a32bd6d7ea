use Rattle.std.proofs.Common.{sym, ◌∙◌, arith}
use Rattle.std.proofs.lemmas.List.Sums.{suffix_len-take_no}
use Rattle.mail_model.specs.Lines.{is_blank}
use Rattle.mime_envelope.proofs.Texts.{trimmed_is, suffix_none}
use Rattle.mime_envelope.proofs.text.trim.Goals as goal
use Rattle.mime_envelope.proofs.text.trim.Goals.{then-loop-end-test+else-is_blank, else-loop-end-test}

pub returns : goal.returns
returns c =
    trimmed_is c.args.bytes.now c.split_at.result.1.now c.count_blanks.result c.loop-end.end c.count_blanks.ensures.value c.split_at.ensures.back c.loop-end.invariant.within
    (elim c.loop-end-test.branch [
      | then-loop-end-test+else-is_blank w ↦
          let none = suffix_len-take_no is_blank c.split_at.result.1.now c.loop-end.end 0 w.loop-end-test.true c.loop-end.invariant.within (sym w.is_blank.ensures ∙ w.if-is_blank.false) in
          omega (arith, none, c.loop-end.invariant.counted)
      | else-loop-end-test w ↦ suffix_none c.split_at.result.1.now c.loop-end.end w.loop-end-test.false c.loop-end.invariant.counted
    ])
