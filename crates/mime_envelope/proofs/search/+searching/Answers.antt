use Rattle.std.proofs.Common.{◌+◌, ◌-◌, length, Option, Ok, sym, ap, ◌∙◌, arith}
use Rattle.std.proofs.lemmas.Result.{err_from_is_err_and}
use Rattle.mail_model.specs.Lines.{lines}
use Rattle.mail_model.specs.Entities.{is_tnef, is_multipart, boundary, parts}
use Rattle.mail_model.specs.Envelope.{first_of, search}
use Rattle.mime_envelope.specs.Views.{field_view}
use Rattle.mime_envelope.specs.Parts.{found_view}
use Rattle.mime_envelope.proofs.Coded.{none_left}
use Rattle.mime_envelope.proofs.Searches.{search_fault, search_none, search_tnef, search_other, search_deep, search_multipart, good_boundary, missing_close, closed, first_none, first_closing, first_part, here, fails_marks, fails_here, found_here, not_here, tnef_part}
use Rattle.mime_envelope.proofs.search.+searching.Goals as goal

pub search-returns-in_err-place-clause-value : goal.search-returns-in_err-place-clause-value
search-returns-in_err-place-clause-value t c =
    let p = err_from_is_err_and c.from_residual.result c.from_residual.ensures.1 in
    rw (p.1, p.2) (search_fault c.args.more c.args.at c.args.bytes.now _ c.in_err-place.ensures.value)

pub search-returns-in_default-clause-value : goal.search-returns-in_default-clause-value
search-returns-in_default-clause-value t c = search_none c.args.more c.args.at c.args.bytes.now _ c.in_ok-place.ensures.value (sym (ap field_view c.in_default.is) ∙ c.in_ok-kind.ensures)

pub search-returns-then-is_tnef-clause-value : goal.search-returns-then-is_tnef-clause-value
search-returns-then-is_tnef-clause-value t c =
    let kind = sym (ap field_view c.in-Some.is) ∙ c.in_ok-kind.ensures in
    search_tnef c.args.more c.args.at c.args.bytes.now _ (c.in-Some.kind.at, c.in-Some.kind.value.items) c.in_ok-place.ensures.value kind (c.if-is_tnef.ensures ∙ ap is_tnef c.deref.ensures.value)
    ∙ tnef_part _ _ c.in_ok-place.place c.in_ok-place.body.now c.in_ok-encoding.ensures

pub search-returns-then-not-is_multipart-clause-value : goal.search-returns-then-not-is_multipart-clause-value
search-returns-then-not-is_multipart-clause-value t c =
    let kind = sym (ap field_view c.in-Some.is) ∙ c.in_ok-kind.ensures in
    search_other c.args.more c.args.at c.args.bytes.now _ (c.in-Some.kind.at, c.in-Some.kind.value.items) c.in_ok-place.ensures.value kind (c.if-is_tnef.ensures ∙ ap is_tnef c.deref.ensures.value) (sym c.if-not-is_multipart.true ∙ c.is_multipart.ensures ∙ ap is_multipart c.deref-2.ensures.value)

pub search-returns-then-more-eq0-clause-value : goal.search-returns-then-more-eq0-clause-value
search-returns-then-more-eq0-clause-value t c =
    let kind = sym (ap field_view c.in-Some.is) ∙ c.in_ok-kind.ensures in
    search_deep c.args.more c.args.at c.args.bytes.now _ (c.in-Some.kind.at, c.in-Some.kind.value.items) c.if-more-eq0.true c.in_ok-place.ensures.value kind (c.if-is_tnef.ensures ∙ ap is_tnef c.deref.ensures.value) (sym c.if-not-is_multipart.false ∙ c.is_multipart.ensures ∙ ap is_multipart c.deref-2.ensures.value)

pub search-returns-in_err-marks-clause-value : goal.search-returns-in_err-marks-clause-value
search-returns-in_err-marks-clause-value t c =
    let p = err_from_is_err_and c.from_residual-in_err-marks.result c.from_residual-in_err-marks.ensures.1 in
    let kind = sym (ap field_view c.in-Some.is) ∙ c.in_ok-kind.ensures in
    let is = search_multipart c.args.more (c.args.more - 1) c.args.at c.args.bytes.now _ (c.in-Some.kind.at, c.in-Some.kind.value.items) (omega arith) c.in_ok-place.ensures.value kind (c.if-is_tnef.ensures ∙ ap is_tnef c.deref.ensures.value) (sym c.if-not-is_multipart.false ∙ c.is_multipart.ensures ∙ ap is_multipart c.deref-2.ensures.value) in
    rw (p.1, p.2) (fails_marks _ (search (c.args.more - 1)) c.in-Some.kind.at (boundary 0 c.in-Some.kind.value.items) c.in_ok-place.place (lines c.in_ok-place.body.now) _ c.in_err-marks.ensures is)

pub search-returns-then-not-has_closing-clause-value : goal.search-returns-then-not-has_closing-clause-value
search-returns-then-not-has_closing-clause-value t c =
    let kind = sym (ap field_view c.in-Some.is) ∙ c.in_ok-kind.ensures in
    let is = search_multipart c.args.more (c.args.more - 1) c.args.at c.args.bytes.now _ (c.in-Some.kind.at, c.in-Some.kind.value.items) (omega arith) c.in_ok-place.ensures.value kind (c.if-is_tnef.ensures ∙ ap is_tnef c.deref.ensures.value) (sym c.if-not-is_multipart.false ∙ c.is_multipart.ensures ∙ ap is_multipart c.deref-2.ensures.value) in
    is ∙ good_boundary (search (c.args.more - 1)) c.in-Some.kind.at (boundary 0 c.in-Some.kind.value.items) c.in_ok-place.place (lines c.in_ok-place.body.now) c.in_ok-marks.marks.boundary.items c.in_ok-marks.ensures ∙ missing_close (search (c.args.more - 1)) c.in_ok-marks.marks.boundary.items c.in_ok-place.place c.in_ok-place.body.now (sym c.if-not-has_closing.true ∙ c.has_closing.ensures)

pub search-returns-clause-value : goal.search-returns-clause-value
search-returns-clause-value t c =
    let kind = sym (ap field_view c.in-Some.is) ∙ c.in_ok-kind.ensures in
    let is = search_multipart c.args.more (c.args.more - 1) c.args.at c.args.bytes.now _ (c.in-Some.kind.at, c.in-Some.kind.value.items) (omega arith) c.in_ok-place.ensures.value kind (c.if-is_tnef.ensures ∙ ap is_tnef c.deref.ensures.value) (sym c.if-not-is_multipart.false ∙ c.is_multipart.ensures ∙ ap is_multipart c.deref-2.ensures.value) in
    let all = is ∙ good_boundary (search (c.args.more - 1)) c.in-Some.kind.at (boundary 0 c.in-Some.kind.value.items) c.in_ok-place.place (lines c.in_ok-place.body.now) c.in_ok-marks.marks.boundary.items c.in_ok-marks.ensures ∙ closed (search (c.args.more - 1)) c.in_ok-marks.marks.boundary.items c.in_ok-place.place (lines c.in_ok-place.body.now) (sym c.if-not-has_closing.false ∙ c.has_closing.ensures) in
    rw all c.search_parts.ensures.value

pub search_parts-returns-then-closes-clause-value : goal.search_parts-returns-then-closes-clause-value
search_parts-returns-then-closes-clause-value t c = c.loop-rest.invariant.same ∙ first_closing (search c.args.more) c.args.marks.now.boundary.items c.loop-rest.place c.loop-rest.rest.now c.split_line.result.0.now c.split_line.result.1.now c.split_line.ensures.lines c.if-closes.ensures

pub search_parts-returns-in_err-found-clause-value : goal.search_parts-returns-in_err-found-clause-value
search_parts-returns-in_err-found-clause-value t c =
    let p = err_from_is_err_and c.from_residual.result c.from_residual.ensures.1 in
    let s = search c.args.more in
    let b = c.args.marks.now.boundary.items in
    let line = c.split_line.result.0.now in
    let after = c.split_line.result.1.now in
    let part = c.split_at.result.0.now in
    let others = c.split_at.result.1.now in
    let next = c.loop-rest.place + length line in
    let first = here s c.delimits.result next part in
    let later = first_of s (parts b (next + length part) (lines others)) in
    let is = c.loop-rest.invariant.same ∙ first_part s b c.loop-rest.place c.loop-rest.rest.now line after part others c.part_size.result c.delimits.result c.split_line.ensures.lines c.if-closes.ensures c.delimits.ensures c.part_size.ensures.value c.part_size.ensures.others c.split_at.ensures.front c.split_at.ensures.back c.split_at.ensures.front_len in
    rw (p.1, p.2) (fails_here _ first later _ c.in_err-found.ensures.value is)

pub search_parts-returns-in-Some-clause-value : goal.search_parts-returns-in-Some-clause-value
search_parts-returns-in-Some-clause-value t c =
    let s = search c.args.more in
    let b = c.args.marks.now.boundary.items in
    let line = c.split_line.result.0.now in
    let after = c.split_line.result.1.now in
    let part = c.split_at.result.0.now in
    let others = c.split_at.result.1.now in
    let next = c.loop-rest.place + length line in
    let first = here s c.delimits.result next part in
    let later = first_of s (parts b (next + length part) (lines others)) in
    let is = c.loop-rest.invariant.same ∙ first_part s b c.loop-rest.place c.loop-rest.rest.now line after part others c.part_size.result c.delimits.result c.split_line.ensures.lines c.if-closes.ensures c.delimits.ensures c.part_size.ensures.value c.part_size.ensures.others c.split_at.ensures.front c.split_at.ensures.back c.split_at.ensures.front_len in
    found_here first later _ _ (c.in_ok-found.ensures.value ∙ ap (λ (o : Option _). Ok (found_view o)) c.in-Some.is) is

pub search_parts-loop-rest-preserved : goal.search_parts-loop-rest-preserved
search_parts-loop-rest-preserved t c =
    let s = search c.args.more in
    let b = c.args.marks.now.boundary.items in
    let line = c.split_line.result.0.now in
    let after = c.split_line.result.1.now in
    let part = c.split_at.result.0.now in
    let others = c.split_at.result.1.now in
    let next = c.loop-rest.place + length line in
    let first = here s c.delimits.result next part in
    let later = first_of s (parts b (next + length part) (lines others)) in
    let is = c.loop-rest.invariant.same ∙ first_part s b c.loop-rest.place c.loop-rest.rest.now line after part others c.part_size.result c.delimits.result c.split_line.ensures.lines c.if-closes.ensures c.delimits.ensures c.part_size.ensures.value c.part_size.ensures.others c.split_at.ensures.front c.split_at.ensures.back c.split_at.ensures.front_len in
    record {
      same = not_here first later _ (c.in_ok-found.ensures.value ∙ ap (λ (o : Option _). Ok (found_view o)) c.in_default.is) is;
      within = omega arith;
    }

pub search_parts-returns-clause-value : goal.search_parts-returns-clause-value
search_parts-returns-clause-value t c = c.loop-rest.invariant.same ∙ first_none (search c.args.more) c.args.marks.now.boundary.items c.loop-rest.place c.loop-rest.rest.now (none_left _ _ c.is_empty.ensures c.loop-rest-test.false)
