use Rattle.std.proofs.Common.{◌∙◌, ◌++◌, Ok, ap, sym}
use Rattle.std.proofs.Math.Bridge.{le_prop}
use Rattle.std.proofs.Math.Logic.{∥∥₁_elim}
use Rattle.std.proofs.lemmas.Result.{err_from_is_err_and}
use Rattle.carrier_model.specs.Tree.{GREATEST_LEVEL}
use Rattle.cfb_directory.specs.Found.{storage_seen}
use Rattle.cfb_directory.specs.Shown.{files}
use Rattle.msg_model.specs.MsgMessage.{files_meaning, message_in, name_streams}
use Rattle.msg_model.specs.MsgProps.{top}
use Rattle.msg_model.specs.NameMap.{pairs_of}
use Rattle.msg_storage.proofs.Carriers.{is_tree}
use Rattle.msg_storage.proofs.Turned.{fails_with}
use Rattle.msg_storage.proofs.WholeFiles.{both_sides, names_known, names_stop}
use Rattle.msg_tree.specs.Keeping.{HasStores-prop}
use Rattle.msg_tree.specs.Whole.{meaning_in}
use Rattle.msg_storage.proofs.reading.read_msg.Goals as goal

pub returns-in_err-names-clause-answer : goal.returns-in_err-names-clause-answer
returns-in_err-names-clause-answer c =
    let p = err_from_is_err_and c.from_residual.result c.from_residual.ensures.1 in
    let root = files c.args.files.now in
    rw (p.1, p.2) (fails_with c.in_err-names.field-0.0 (pairs_of (name_streams root)) (files_meaning root) (λ g h. names_stop root g h) c.in_err-names.ensures.answer)

pub returns-in_err-names-clause-both : goal.returns-in_err-names-clause-both
returns-in_err-names-clause-both c = both_sides meaning_in c.from_residual.result (files c.args.files.now) (returns-in_err-names-clause-answer c)

pub returns-in_err-message-clause-answer : goal.returns-in_err-message-clause-answer
returns-in_err-message-clause-answer c =
    let p = err_from_is_err_and c.from_residual-in_err-message.result c.from_residual-in_err-message.ensures.1 in
    let root = files c.args.files.now in
    let seen = c.root-root.ensures.seen in
    let names = c.in_ok-names.names in
    rw (p.1, p.2) (fails_with c.in_err-message.field-0.0 (message_in GREATEST_LEVEL names top (storage_seen c.args.files.now c.root-root.result)) (files_meaning root)
    (λ g h. names_known root names c.in_ok-names.ensures.answer ∙ (ap (message_in GREATEST_LEVEL names top) (sym seen) ∙ h))
    c.in_err-message.ensures)

pub returns-in_err-message-clause-both : goal.returns-in_err-message-clause-both
returns-in_err-message-clause-both c = both_sides meaning_in c.from_residual-in_err-message.result (files c.args.files.now) (returns-in_err-message-clause-answer c)

pub from_shallow-tree-requires-clause-shallow : goal.from_shallow-tree-requires-clause-shallow
from_shallow-tree-requires-clause-shallow c =
    let root = files c.args.files.now in
    let names = c.in_ok-names.names in
    let y = c.in_ok-message.ensures in
    let means = names_known root names c.in_ok-names.ensures.answer ∙ (ap (message_in GREATEST_LEVEL names top) (sym c.root-root.ensures.seen) ∙ y.gives) in
    ∥∥₁_elim c.root-root.ensures.opened le_prop (λ opened. (is_tree root _ y.more opened means).0)

pub from_shallow-tree-requires-clause-stores : goal.from_shallow-tree-requires-clause-stores
from_shallow-tree-requires-clause-stores c =
    let root = files c.args.files.now in
    let names = c.in_ok-names.names in
    let y = c.in_ok-message.ensures in
    let means = names_known root names c.in_ok-names.ensures.answer ∙ (ap (message_in GREATEST_LEVEL names top) (sym c.root-root.ensures.seen) ∙ y.gives) in
    ∥∥₁_elim c.root-root.ensures.opened (HasStores-prop _) (λ opened. (is_tree root _ y.more opened means).1)

pub returns-clause-answer : goal.returns-clause-answer
returns-clause-answer c =
    let root = files c.args.files.now in
    let names = c.in_ok-names.names in
    let y = c.in_ok-message.ensures in
    let passed = y.passed ∙ ap (λ l. l ++ y.more) c.new-passed.ensures in
    names_known root names c.in_ok-names.ensures.answer ∙ (ap (message_in GREATEST_LEVEL names top) (sym c.root-root.ensures.seen) ∙ (y.gives ∙ (λ i. Ok (record { message = sym c.from_shallow-tree.ensures i; passed = sym passed i }))))

pub returns-clause-both : goal.returns-clause-both
returns-clause-both c = both_sides meaning_in (Ok (record { tree = c.from_shallow-tree.result; passed = c.read_message.new.passed })) (files c.args.files.now) (returns-clause-answer c)
