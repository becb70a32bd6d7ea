use Rattle.std.proofs.Common.{◌∙◌, sym}
use Rattle.std.proofs.lemmas.Result.{err_from_is_err_and}
use Rattle.msg_model.specs.NameMap as model
use Rattle.prop_names.specs.Meaning.{name_of}
use Rattle.msg_nameid.specs.Read.{streams_seen, entry_seen}
use Rattle.msg_nameid.proofs.NameLaws.{fails_with, nameless, named_fails, named_gives}
use Rattle.msg_nameid.proofs.entry.name_at.Goals as goal

pub returns-then-set_index-eq0-clause-answer : goal.returns-then-set_index-eq0-clause-answer
returns-then-set_index-eq0-clause-answer c = nameless (streams_seen c.args.streams) (entry_seen c.args.entry) (sym c.set_index.ensures ∙ c.if-set_index-eq0.true)

pub returns-in_err-name_in_set-clause-answer : goal.returns-in_err-name_in_set-clause-answer
returns-in_err-name_in_set-clause-answer c =
    let p = err_from_is_err_and c.from_residual.result c.from_residual.ensures.1 in
    let s = streams_seen c.args.streams in
    let e = entry_seen c.args.entry in
    rw (p.1, p.2) (fails_with c.in_err-name_in_set.field-0.0 (model.name_of s e) (model.named_by s e) (named_fails s e (λ z. c.if-set_index-eq0.false (c.set_index.ensures ∙ z))) c.in_err-name_in_set.ensures.answer)

pub returns-clause-answer : goal.returns-clause-answer
returns-clause-answer c = named_gives (streams_seen c.args.streams) (entry_seen c.args.entry) (λ z. c.if-set_index-eq0.false (c.set_index.ensures ∙ z)) (name_of c.in_ok-name_in_set.field-0) c.in_ok-name_in_set.ensures.answer
