use Rattle.std.proofs.Common.{◌≡◌, ◌∙◌, sym, ap, Ok}
use Rattle.std.proofs.lemmas.Result.{err_from_is_err_and}
use Rattle.cfb_sectors.specs.Seen.{bytes_of}
use Rattle.msg_model.specs.NameMap as model
use Rattle.msg_nameid.specs.Read.{streams_seen, entry_seen}
use Rattle.msg_nameid.proofs.NameLaws.{fails_with, set_fails, text_fails, text_gives, number_gives}
use Rattle.msg_nameid.proofs.entry.name_in_set.Goals as goal

pub returns-then-not-has_set-clause-answer : goal.returns-then-not-has_set-clause-answer
returns-then-not-has_set-clause-answer c = set_fails (streams_seen c.args.streams) (entry_seen c.args.entry) c.has_set.result (c.has_set.ensures ∙ ap (model.has_set (bytes_of c.args.streams.guids.now)) c.set_index-index.ensures) c.if-not-has_set.true

pub returns-in_err-units-clause-answer : goal.returns-in_err-units-clause-answer
returns-in_err-units-clause-answer c =
    let p = err_from_is_err_and c.from_residual.result c.from_residual.ensures.1 in
    let s = streams_seen c.args.streams in
    let e = entry_seen c.args.entry in
    let is : c.has_set.result ≡ model.has_set s.guids.bytes (model.set_index e) = c.has_set.ensures ∙ ap (model.has_set s.guids.bytes) c.set_index-index.ensures in
    rw (p.1, p.2) (fails_with c.in_err-units.field-0.0 (model.text_at s.texts e.identifier e.place) (model.name_of s e) (text_fails s e c.has_set.result is c.if-not-has_set.false (sym c.is_text.ensures ∙ c.if-is_text.true)) c.in_err-units.ensures.answer)

pub returns-then-is_text-clause-answer : goal.returns-then-is_text-clause-answer
returns-then-is_text-clause-answer c =
    let s = streams_seen c.args.streams in
    let e = entry_seen c.args.entry in
    let is : c.has_set.result ≡ model.has_set s.guids.bytes (model.set_index e) = c.has_set.ensures ∙ ap (model.has_set s.guids.bytes) c.set_index-index.ensures in
    let set : c.set_at-set.result.0 ≡ model.set_at s.guids.bytes (model.set_index e) = c.set_at-set.ensures ∙ ap (model.set_at s.guids.bytes) c.set_index-index.ensures in
    text_gives s e c.has_set.result is c.if-not-has_set.false (sym c.is_text.ensures ∙ c.if-is_text.true) c.set_at-set.result.0 c.in_ok-units.units set c.in_ok-units.ensures.answer ∙ ap Ok (sym c.in_ok-of_text.ensures)

pub returns-clause-answer : goal.returns-clause-answer
returns-clause-answer c =
    let s = streams_seen c.args.streams in
    let e = entry_seen c.args.entry in
    let is : c.has_set.result ≡ model.has_set s.guids.bytes (model.set_index e) = c.has_set.ensures ∙ ap (model.has_set s.guids.bytes) c.set_index-index.ensures in
    let set : c.set_at-set.result.0 ≡ model.set_at s.guids.bytes (model.set_index e) = c.set_at-set.ensures ∙ ap (model.set_at s.guids.bytes) c.set_index-index.ensures in
    number_gives s e c.has_set.result is c.if-not-has_set.false (sym c.is_text.ensures ∙ c.if-is_text.false) c.set_at-set.result.0 set
