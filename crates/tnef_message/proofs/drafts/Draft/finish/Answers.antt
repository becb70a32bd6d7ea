use Rattle.std.proofs.Common.{List, ◌∙◌, ap, subst, sym}
use Rattle.std.specs.Prelude.{All}
use Rattle.tnef_model.specs.TnefMessage.{Read, joined}
use Rattle.msg_tree.specs.Meaning.{list_of}
use Rattle.tnef_message.specs.HeldBytes.{held_bytes}
use Rattle.tnef_message.specs.Drafts.{IsDraft}
use Rattle.tnef_message.specs.Sections.{HasId}
use Rattle.tnef_message.specs.declared.sections.Section.{Section}
use Rattle.tnef_message.proofs.Drafting.{current_ids, own_ids, finished}
use Rattle.tnef_message.proofs.drafts.Draft.finish.Goals as goal

pub close-requires : goal.close-requires
close-requires c = current_ids c.requires.0 _ c.args.self.current c.requires.1.attached

pub join-requires : goal.join-requires
join-requires c = subst (λ (z : Section). All HasId z.derived.items) (sym c.in_ok-close.ensures.own) (own_ids c.requires.0 c.args.self c.requires.1)

pub returns : goal.returns
returns c = λ (reads : List Read) (here : IsDraft reads c.args.self).
    c.message_of.ensures ∙ finished reads c.args.self c.in_ok-props.props c.close.new.self.recipients (list_of held_bytes c.close.new.self.attachments) here
    (c.in_ok-props.ensures ∙ ap (λ (z : Section). joined z.list z.derived.items) c.in_ok-close.ensures.own) c.in_ok-close.ensures.recipients c.in_ok-close.ensures.attachments
