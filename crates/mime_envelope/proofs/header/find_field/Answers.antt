use Rattle.std.proofs.Common.{◌≡◌, ◌++◌, List, ℕ, true, false, Some, sym, ap, ◌∙◌, arith}
use Rattle.mail_model.specs.Lines.{lines, behind, text_of}
use Rattle.mail_model.specs.Entities.{continued}
use Rattle.mail_model.proofs.Entities.{field-none, field-end, field-found, field-other, field-blank}
use Rattle.mime_envelope.proofs.Coded.{none_left}
use Rattle.mime_envelope.proofs.Texts.{word_before}
use Rattle.mime_envelope.proofs.header.find_field.Goals as goal
use Rattle.mime_envelope.proofs.header.find_field.Goals.{else-not-begins_blank-via-then-not-begins_blank+else-is_word, else-not-begins_blank-via-else-not-begins_blank, else-loop-rest-test, then-loop-rest-test+then-is_empty}

pub returns-then-is_word : goal.returns-then-is_word
returns-then-is_word c =
    let word = word_before c.args.name.now c.split_line.result.0.now c.split_at.result.0.now c.find.result true c.find.ensures.value c.split_at.ensures.front c.if-is_word.ensures in
    let found = field-found c.args.name.now c.loop-rest.place c.loop-rest.rest.now c.split_line.result.0.now c.split_line.result.1.now c.split_line.ensures.lines c.if-is_empty.ensures (sym c.if-not-begins_blank.true ∙ c.begins_blank.ensures) word in
    let value : c.in_ok-value.value.items ≡ behind 58 (text_of c.split_line.result.0.now) ++ continued (lines c.split_line.result.1.now) =
    c.in_ok-value.ensures ∙ ap (λ (z : List ℕ). z ++ continued (lines c.split_line.result.1.now)) (c.behind.ensures ∙ ap (behind 58) c.without_end.ensures) in
    ap (λ (z : List ℕ). Some (c.loop-rest.place, z)) value ∙ sym (c.loop-rest.invariant.same ∙ found)

pub loop-rest-preserved : goal.loop-rest-preserved
loop-rest-preserved c = record {
  same = c.loop-rest.invariant.same ∙ elim c.else-not-begins_blank.branch [
    | else-not-begins_blank-via-then-not-begins_blank+else-is_word w ↦
        field-other c.args.name.now c.loop-rest.place c.loop-rest.rest.now c.split_line.result.0.now c.split_line.result.1.now c.split_line.ensures.lines c.if-is_empty.ensures
        (word_before c.args.name.now c.split_line.result.0.now c.split_at.result.0.now c.find.result false c.find.ensures.value c.split_at.ensures.front w.if-is_word.ensures)
    | else-not-begins_blank-via-else-not-begins_blank w ↦
        field-blank c.args.name.now c.loop-rest.place c.loop-rest.rest.now c.split_line.result.0.now c.split_line.result.1.now c.split_line.ensures.lines c.if-is_empty.ensures (sym w.if-not-begins_blank.false ∙ c.begins_blank.ensures)
  ];
  within = omega arith;
}

pub returns : goal.returns
returns c = sym (c.loop-rest.invariant.same ∙ elim c.loop-rest-test.branch [
  | else-loop-rest-test w ↦ field-none c.args.name.now c.loop-rest.place c.loop-rest.rest.now (none_left _ _ c.is_empty.ensures w.loop-rest-test.false)
  | then-loop-rest-test+then-is_empty w ↦ field-end c.args.name.now c.loop-rest.place c.loop-rest.rest.now w.split_line.result.0.now w.split_line.result.1.now w.split_line.ensures.lines w.if-is_empty.ensures
])
