use Rattle.std.proofs.Common.{Result, Ok, Err}
use Rattle.std.specs.Prelude.{OnOk}
use Rattle.tnef_attributes.specs.Views.{view}
use Rattle.tnef_message.proofs.Drafting.{draft_own, draft_new, draft_current, draft_unknown, current_ids}
use Rattle.tnef_message.proofs.drafts.Draft.enter.Goals as goal

on_ok : {A E P Q : Type 0} (r : Result A E) → (P → Q) → OnOk r P → OnOk r Q
on_ok (Ok a) f p = f p
on_ok (Err e) f p = p

pub returns-in-Message : goal.returns-in-Message
returns-in-Message c =
    let f = c.in-Message.ensures in
    on_ok c.enter_own.result (λ en reads p here passes given. draft_own reads c.args.self.now c.enter_own.new.self (view c.args.attribute.now) p c.args.gift c.requires.fits here passes given f.0 f.1 f.2 en) c.enter_own.ensures

pub open-requires-clause-ids : goal.open-requires-clause-ids
open-requires-clause-ids c = current_ids c.requires.known.0 _ c.args.self.now.current c.requires.known.1.attached

pub returns-in-NewAttachment : goal.returns-in-NewAttachment
returns-in-NewAttachment c =
    on_ok c.open.result (λ en reads p here passes given. draft_new reads c.args.self.now c.open.new.self (view c.args.attribute.now) p c.args.gift c.requires.fits here passes given c.in-NewAttachment.ensures en) c.open.ensures

pub returns-in-Attachment : goal.returns-in-Attachment
returns-in-Attachment c =
    let f = c.in-Attachment.ensures in
    on_ok c.enter_current.result (λ en reads p here passes given. draft_current reads c.args.self.now c.enter_current.new.self (view c.args.attribute.now) p c.args.gift c.requires.fits here passes given f.0 f.1 f.2 en) c.enter_current.ensures

pub returns-in-Unknown : goal.returns-in-Unknown
returns-in-Unknown c = λ reads p here passes given.
    let f = c.in-Unknown.ensures in
    draft_unknown reads c.args.self.now c.args.self.now (view c.args.attribute.now) p c.args.gift c.requires.fits here passes given f.0 f.1 f.2
