use Rattle.std.proofs.Common.{List, subst, Option}
use Rattle.tnef_model.specs.LegacyAttributes.{MESSAGE_PROPS}
use Rattle.tnef_model.specs.TnefMessage.{Read}
use Rattle.msg_tree.specs.Meaning.{list_of, body_of}
use Rattle.tnef_message.specs.HeldBytes.{held_bytes}
use Rattle.tnef_attributes.specs.Views.{view}
use Rattle.tnef_message.specs.Drafts.{IsDraft, IsAttached, OneOpen, NoneYet}
use Rattle.tnef_message.specs.declared.drafts.Pending.{Pending}
use Rattle.tnef_message.proofs.Placing.{message_tests, attachment_tests, no_attachment}
use Rattle.tnef_message.proofs.drafts.Draft.test.Goals as goal

pub returns-in-Message : goal.returns-in-Message
returns-in-Message c = λ (reads : List Read) (d : IsDraft reads c.args.self.now).
    let e = c.in-Message.ensures in
    message_tests reads (view c.args.attribute.now) MESSAGE_PROPS c.args.self.now.own.seen.items c.args.self.now.own.list c.args.self.now.own.derived.items _ e.0 e.1 e.2 d.own c.test_once.ensures

pub returns-in-Some : goal.returns-in-Some
returns-in-Some c = λ (reads : List Read) (d : IsDraft reads c.args.self.now).
    let e = c.in-Attachment.ensures in
    let p = c.in-Some.pending in
    let o : OneOpen reads (list_of held_bytes c.args.self.now.attachments) p.section.seen.items p.section.list p.section.derived.items (body_of held_bytes p.body) =
    subst (λ (z : Option Pending). IsAttached reads (list_of held_bytes c.args.self.now.attachments) z) c.in-Some.is d.attached in
    attachment_tests reads (view c.args.attribute.now) (list_of held_bytes c.args.self.now.attachments) p.section.seen.items p.section.list p.section.derived.items (body_of held_bytes p.body) _ e.0 e.1 e.2 o c.test_once-in-Some.ensures

pub returns-in-None : goal.returns-in-None
returns-in-None c = λ (reads : List Read) (d : IsDraft reads c.args.self.now).
    let e = c.in-Attachment.ensures in
    let o : NoneYet reads (list_of held_bytes c.args.self.now.attachments) =
    subst (λ (z : Option Pending). IsAttached reads (list_of held_bytes c.args.self.now.attachments) z) c.in-None.is d.attached in
    no_attachment reads (view c.args.attribute.now) (list_of held_bytes c.args.self.now.attachments) e.1 e.2 o
