use Rattle.std.proofs.Common.{Option, Ok, refl, ap, ◌∙◌}
use Rattle.std.proofs.lemmas.Result.{err_from_is_err_and}
use Rattle.mime_envelope.specs.Parts.{found_view, part_view}
use Rattle.mime_envelope.proofs.Readings.{text_stop, text_none, text_encoding, text_character, text_good}
use Rattle.mime_envelope.proofs.reading.coded_part.Goals as goal

pub returns-in_err-part-clause-value : goal.returns-in_err-part-clause-value
returns-in_err-part-clause-value c =
    let p = err_from_is_err_and c.from_residual.result c.from_residual.ensures.1 in
    rw (p.1, p.2) (text_stop _ c.args.bytes.now c.in_err-part.ensures.value)

pub returns-in_default-clause-value : goal.returns-in_default-clause-value
returns-in_default-clause-value c = text_none c.args.bytes.now (c.in_ok-part.ensures.value ∙ ap (λ (o : Option _). Ok (found_view o)) c.in_default.is)

pub returns-in_err-test_encoding-clause-value : goal.returns-in_err-test_encoding-clause-value
returns-in_err-test_encoding-clause-value c =
    let p = err_from_is_err_and c.from_residual-in_err-test_encoding.result c.from_residual-in_err-test_encoding.ensures.1 in
    rw (p.1, p.2) (text_encoding c.args.bytes.now (part_view c.in-Some.part) _ (c.in_ok-part.ensures.value ∙ ap (λ (o : Option _). Ok (found_view o)) c.in-Some.is) c.in_err-test_encoding.ensures)

pub returns-in_err-test_characters-clause-value : goal.returns-in_err-test_characters-clause-value
returns-in_err-test_characters-clause-value c =
    let p = err_from_is_err_and c.from_residual-in_err-test_characters.result c.from_residual-in_err-test_characters.ensures.1 in
    rw (p.1, p.2) (text_character c.args.bytes.now (part_view c.in-Some.part) _ (c.in_ok-part.ensures.value ∙ ap (λ (o : Option _). Ok (found_view o)) c.in-Some.is) c.in_ok-test_encoding.ensures c.in_err-test_characters.ensures)

pub returns-clause-value : goal.returns-clause-value
returns-clause-value c = text_good c.args.bytes.now (part_view c.in-Some.part) _ (c.in_ok-part.ensures.value ∙ ap (λ (o : Option _). Ok (found_view o)) c.in-Some.is) c.in_ok-test_encoding.ensures c.in_ok-test_characters.ensures refl
