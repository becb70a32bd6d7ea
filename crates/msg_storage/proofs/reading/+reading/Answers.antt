use Rattle.std.proofs.Common.{◌≡◌, ◌∙◌, ◌≤◌, ◌++◌, [], List, Ok, Err, Some, ap, append_assoc, arith, false, length, subst, sym, true, Bool}
use Rattle.std.specs.Prelude.{slice_get}
use Rattle.std.specs.List.{flat_map}
use Rattle.std.proofs.lemmas.List.{append-nil}
use Rattle.std.proofs.lemmas.Result.{err_from_is_err_and}
use Rattle.carrier_model.specs.Files as plain
use Rattle.carrier_model.specs.Kinds.{ATTACHED_OBJECT}
use Rattle.carrier_model.specs.Lookups.{stream_named}
use Rattle.carrier_model.specs.Meanings.{held_message, held_store}
use Rattle.carrier_model.specs.Outcomes.{mapped}
use Rattle.carrier_model.specs.Stores.{PROPERTIES, store_in}
use Rattle.carrier_model.specs.Turns.{each}
use Rattle.cfb_directory.specs.Found.{storage_seen}
use Rattle.cfb_sectors.specs.Seen.{bytes_of}
use Rattle.msg_model.specs.MsgMessage.{Carried, attachment_in, held_by, held_in, is_message, list_in, message_in, numbered}
use Rattle.msg_model.specs.MsgProps as props
use Rattle.msg_model.specs.StreamNames.{ATTACHMENT_NAME, value_name}
use Rattle.msg_props.specs.Sections.{part_of}
use Rattle.msg_storage.specs.Beside.{GivesBeside, carried_beside, held_beside, rows_beside, pieces_beside}
use Rattle.msg_storage.specs.Levels.{attachments_in, inner_at, pieces_of, recipients_in}
use Rattle.msg_storage.proofs.Below.{inner_below}
use Rattle.msg_storage.proofs.Bodies.{message_made, plain_made, store_made}
use Rattle.msg_storage.proofs.Messages.{held_below, held_missing, holding, message_in-is, plain_attachment, stops_attached, stops_held, stops_list, stops_pieces, stops_rows, whole_message}
use Rattle.msg_storage.proofs.Rows.{seen_length, seen_storages, storage_there, storages_are}
use Rattle.msg_storage.proofs.Turned.{fails_with, list_read, passed_thrice, progress_all, progress_more, progress_none, progress_stops, section_beside}
use Rattle.msg_storage.proofs.WholeFiles.{none_there, object_text, properties_text, some_there}
use Rattle.carrier_model.specs.Tree.{embedded}
use Rattle.msg_tree.specs.Meaning.{list_of, tree_of}
use Rattle.msg_storage.proofs.reading.+reading.Goals as goal

-- ---- an attachment

pub read_attachment-returns-in_err-list : goal.read_attachment-returns-in_err-list
read_attachment-returns-in_err-list t c =
    let p = err_from_is_err_and c.from_residual.result c.from_residual.ensures.1 in
    let names = c.args.names.now in
    let s = storage_seen c.args.files.now c.args.at in
    let inner = inner_at c.args.levels names in
    rw (p.1, p.2) (fails_with c.in_err-list.field-0.0 (list_in props.attachment names s) (attachment_in names inner s) (λ g h. stops_attached names inner s g h) c.in_err-list.ensures.answer)

pub read_attachment-returns-in_err-body-in-Some : goal.read_attachment-returns-in_err-body-in-Some
read_attachment-returns-in_err-body-in-Some t c =
    let p = err_from_is_err_and c.from_residual-in_err-body-in-Some.result c.from_residual-in_err-body-in-Some.ensures.1 in
    let names = c.args.names.now in
    let s = storage_seen c.args.files.now c.args.at in
    let inner = inner_at c.args.levels names in
    let y = list_read c.args.passed.now c.read_props.new.passed c.in_ok-list.list (list_in props.attachment names s) c.in_ok-list.ensures.answer c.in_ok-list.ensures.added in
    rw (p.1, p.2) (fails_with c.in_err-body-in-Some.field-0.0 (held_in inner s c.in-Some.place) (attachment_in names inner s)
    (λ g h. stops_held names inner s (section_beside c.in_ok-list.list y.more) y.gives c.in-Some.place g c.in-Some.is h)
    c.in_err-body-in-Some.ensures)

pub read_attachment-returns-in_ok-body-in-Some : goal.read_attachment-returns-in_ok-body-in-Some
read_attachment-returns-in_ok-body-in-Some t c =
    let names = c.args.names.now in
    let s = storage_seen c.args.files.now c.args.at in
    let inner = inner_at c.args.levels names in
    let y = list_read c.args.passed.now c.read_props.new.passed c.in_ok-list.list (list_in props.attachment names s) c.in_ok-list.ensures.answer c.in_ok-list.ensures.added in
    let z = c.in_ok-body-in-Some.ensures in
    record {
      more = y.more ++ z.more;
      passed = z.passed ∙ (ap (λ l. l ++ z.more) y.passed ∙ append_assoc c.args.passed.now y.more z.more);
      gives = holding names inner s (section_beside c.in_ok-list.list y.more) y.gives c.in-Some.place (held_beside c.in_ok-body-in-Some.body z.more) c.in-Some.is z.gives ∙ (λ i. Ok (record { attached = sym c.attachment_of.ensures i; passed = y.more ++ z.more }));
    }

pub read_attachment-returns-in-None : goal.read_attachment-returns-in-None
read_attachment-returns-in-None t c =
    let names = c.args.names.now in
    let s = storage_seen c.args.files.now c.args.at in
    let inner = inner_at c.args.levels names in
    let y = list_read c.args.passed.now c.read_props.new.passed c.in_ok-list.list (list_in props.attachment names s) c.in_ok-list.ensures.answer c.in_ok-list.ensures.added in
    let made = c.attachment_of-in-None.ensures ∙ (λ i. (c.in_ok-list.list.props, plain_made bytes_of i)) in
    record {
      more = y.more;
      passed = y.passed;
      gives = plain_attachment names inner s (section_beside c.in_ok-list.list y.more) y.gives c.in-None.is ∙ (λ i. Ok (record { attached = sym made i; passed = y.more }));
    }

-- ---- attachments

pub read_attachments-loop-k-init : goal.read_attachments-loop-k-init
read_attachments-loop-k-init t c = progress_none (attachment_in c.args.names.now (inner_at c.args.levels c.args.names.now)) (λ (a : Carried). a.attached) (λ (a : Carried). a.passed) (seen_storages c.args.files.now c.in_ok-storages.storages.items) c.args.passed.now (list_of bytes_of c.in_ok-attachments.attachments) c.in_ok-attachments.ensures

pub read_attachments-returns-in_err-attachment : goal.read_attachments-returns-in_err-attachment
read_attachments-returns-in_err-attachment t c =
    let p = err_from_is_err_and c.from_residual-in_err-attachment.result c.from_residual-in_err-attachment.ensures.1 in
    let f = c.args.files.now in
    let items = c.in_ok-storages.storages.items in
    let s = storage_seen f c.args.at in
    let inner = inner_at c.args.levels c.args.names.now in
    let read = attachment_in c.args.names.now inner in
    let l = c.loop-k in
    let x = storage_seen f c.index.result.now.storage in
    let at : slice_get (seen_storages f items) l.k ≡ Some x = storage_there f items l.k c.index.result.now c.index.ensures (omega (arith, c.loop-k-test.true, c.len-k-end.ensures)) in
    let same : seen_storages f items ≡ numbered ATTACHMENT_NAME s = storages_are f items ATTACHMENT_NAME s c.in_ok-storages.ensures.seen in
    rw (p.1, p.2) (fails_with c.in_err-attachment.field-0.0 (read x) (attachments_in c.args.names.now inner s)
    (λ g h. subst (λ (xs : List plain.Files). mapped pieces_of (each read xs) ≡ Err g) same (progress_stops read (λ (a : Carried). a.attached) (λ (a : Carried). a.passed) (seen_storages f items) c.args.passed.now l.k l.passed (list_of bytes_of l.attachments) l.invariant x at pieces_of g h))
    c.in_err-attachment.ensures)

pub read_attachments-loop-k-preserved : goal.read_attachments-loop-k-preserved
read_attachments-loop-k-preserved t c =
    let f = c.args.files.now in
    let items = c.in_ok-storages.storages.items in
    let read = attachment_in c.args.names.now (inner_at c.args.levels c.args.names.now) in
    let l = c.loop-k in
    let x = storage_seen f c.index.result.now.storage in
    let at : slice_get (seen_storages f items) l.k ≡ Some x = storage_there f items l.k c.index.result.now c.index.ensures (omega (arith, c.loop-k-test.true, c.len-k-end.ensures)) in
    let y = c.in_ok-attachment.ensures in
    progress_more read (λ (a : Carried). a.attached) (λ (a : Carried). a.passed) (seen_storages f items) c.args.passed.now l.k l.passed (list_of bytes_of l.attachments) l.invariant x at c.read_attachment.new.passed (list_of bytes_of c.push.new.self) (carried_beside c.in_ok-attachment.attachment y.more) y.gives y.passed c.in_ok-push.ensures.ok

pub read_attachments-returns : goal.read_attachments-returns
read_attachments-returns t c =
    let f = c.args.files.now in
    let items = c.in_ok-storages.storages.items in
    let s = storage_seen f c.args.at in
    let read = attachment_in c.args.names.now (inner_at c.args.levels c.args.names.now) in
    let l = c.loop-k in
    let same : seen_storages f items ≡ numbered ATTACHMENT_NAME s = storages_are f items ATTACHMENT_NAME s c.in_ok-storages.ensures.seen in
    let le : length (seen_storages f items) ≤ l.k = omega (arith, c.loop-k-test.false, c.len-k-end.ensures, seen_length f items) in
    let all = progress_all read (λ (a : Carried). a.attached) (λ (a : Carried). a.passed) (seen_storages f items) c.args.passed.now pieces_of l.k l.passed (list_of bytes_of l.attachments) l.invariant le in
    record {
      more = flat_map (λ (a : Carried). a.passed) l.invariant.given;
      passed = l.invariant.passed_are;
      gives = ap (λ (xs : List plain.Files). mapped pieces_of (each read xs)) (sym same) ∙ (all ∙ (λ i. Ok (record { list = sym l.invariant.parts_are i; passed = flat_map (λ (a : Carried). a.passed) l.invariant.given })));
    }

-- ---- what an attachment holds

pub read_body-returns-in_err-read_store-in-None : goal.read_body-returns-in_err-read_store-in-None
read_body-returns-in_err-read_store-in-None t c =
    let p = err_from_is_err_and c.from_residual.result c.from_residual.ensures.1 in
    let s = storage_seen c.args.files.now c.args.at in
    let inner = inner_at c.args.levels c.args.names.now in
    let no : is_message s ≡ false = none_there (λ f. f.stream) (stream_named s.children PROPERTIES) (c.in-None.ensures.found PROPERTIES properties_text) in
    rw (p.1, p.2) (fails_with c.in_err-read_store-in-None.field-0.0 (store_in s) (held_by inner (is_message s) c.args.place s)
    (λ g h. ap (λ b. held_by inner b c.args.place s) no ∙ ap (mapped held_store) h)
    c.in_err-read_store-in-None.ensures.answer)

pub read_body-returns-in-Some : goal.read_body-returns-in-Some
read_body-returns-in-Some t c =
    let s = storage_seen c.args.files.now c.args.at in
    let inner = inner_at c.args.levels c.args.names.now in
    let yes : is_message s ≡ true = some_there (λ f. f.stream) (stream_named s.children PROPERTIES) _ (c.in-Some.ensures.found PROPERTIES properties_text) in
    subst (λ (b : Bool). GivesBeside held_beside c.args.passed.now c.read_inner.new.passed c.read_inner.result (held_by inner b c.args.place s)) (sym yes) c.read_inner.ensures

pub read_body-returns-in_ok-read_store-in-None : goal.read_body-returns-in_ok-read_store-in-None
read_body-returns-in_ok-read_store-in-None t c =
    let s = storage_seen c.args.files.now c.args.at in
    let inner = inner_at c.args.levels c.args.names.now in
    let no : is_message s ≡ false = none_there (λ f. f.stream) (stream_named s.children PROPERTIES) (c.in-None.ensures.found PROPERTIES properties_text) in
    record {
      more = [];
      passed = sym (append-nil c.args.passed.now);
      gives = ap (λ b. held_by inner b c.args.place s) no ∙ (ap (mapped held_store) c.in_ok-read_store-in-None.ensures.answer ∙ (λ i. Ok (record { body = sym (store_made bytes_of c.in_ok-read_store-in-None.field-0) i; passed = [] })));
    }

pub read_held-returns-in-Some : goal.read_held-returns-in-Some
read_held-returns-in-Some t c =
    let f = c.args.files.now in
    let s = storage_seen f c.args.at in
    let below = storage_seen f c.in-Some.below in
    let inner = inner_at c.args.levels c.args.names.now in
    let there = sym (c.in-Some.ensures.found (value_name ATTACHED_OBJECT) object_text) in
    subst (GivesBeside held_beside c.args.passed.now c.read_body.new.passed c.read_body.result) (sym (held_below inner s c.args.place below there)) c.read_body.ensures

pub read_held-returns-in-None : goal.read_held-returns-in-None
read_held-returns-in-None t c =
    let s = storage_seen c.args.files.now c.args.at in
    held_missing (inner_at c.args.levels c.args.names.now) s c.args.place (sym (c.in-None.ensures.found (value_name ATTACHED_OBJECT) object_text))

pub read_inner-returns : goal.read_inner-returns
read_inner-returns t c =
    let names = c.args.names.now in
    let s = storage_seen c.args.files.now c.args.at in
    let y = c.in_ok-message.ensures in
    let made = message_made bytes_of c.in_ok-new.field-0 ∙ ap (λ m. embedded (tree_of bytes_of m)) c.in_ok-new.ensures.ok in
    record {
      more = y.more;
      passed = y.passed;
      gives = ap (mapped held_message) (inner_below c.args.levels names c.args.entry s c.if-levels-eq0.false ∙ y.gives) ∙ (λ i. Ok (record { body = sym made i; passed = y.more }));
    }

-- ---- a message

pub read_message-returns-in_err-list : goal.read_message-returns-in_err-list
read_message-returns-in_err-list t c =
    let p = err_from_is_err_and c.from_residual.result c.from_residual.ensures.1 in
    let names = c.args.names.now in
    let s = storage_seen c.args.files.now c.args.at in
    let part = part_of c.args.part in
    rw (p.1, p.2) (fails_with c.in_err-list.field-0.0 (list_in part names s) (message_in c.args.levels names part s)
    (λ g h. message_in-is c.args.levels names part s ∙ stops_list names (inner_at c.args.levels names) part s g h)
    c.in_err-list.ensures.answer)

pub read_message-returns-in_err-recipients : goal.read_message-returns-in_err-recipients
read_message-returns-in_err-recipients t c =
    let p = err_from_is_err_and c.from_residual-in_err-recipients.result c.from_residual-in_err-recipients.ensures.1 in
    let names = c.args.names.now in
    let s = storage_seen c.args.files.now c.args.at in
    let part = part_of c.args.part in
    let y = list_read c.args.passed.now c.read_props.new.passed c.in_ok-list.list (list_in part names s) c.in_ok-list.ensures.answer c.in_ok-list.ensures.added in
    rw (p.1, p.2) (fails_with c.in_err-recipients.field-0.0 (recipients_in names s) (message_in c.args.levels names part s)
    (λ g h. message_in-is c.args.levels names part s ∙ stops_rows names (inner_at c.args.levels names) part s (section_beside c.in_ok-list.list y.more) g y.gives h)
    c.in_err-recipients.ensures)

pub read_message-returns-in_err-attachments : goal.read_message-returns-in_err-attachments
read_message-returns-in_err-attachments t c =
    let p = err_from_is_err_and c.from_residual-in_err-attachments.result c.from_residual-in_err-attachments.ensures.1 in
    let names = c.args.names.now in
    let s = storage_seen c.args.files.now c.args.at in
    let part = part_of c.args.part in
    let inner = inner_at c.args.levels names in
    let y = list_read c.args.passed.now c.read_props.new.passed c.in_ok-list.list (list_in part names s) c.in_ok-list.ensures.answer c.in_ok-list.ensures.added in
    let z = c.in_ok-recipients.ensures in
    rw (p.1, p.2) (fails_with c.in_err-attachments.field-0.0 (attachments_in names inner s) (message_in c.args.levels names part s)
    (λ g h. message_in-is c.args.levels names part s ∙ stops_pieces names inner part s (section_beside c.in_ok-list.list y.more) (rows_beside c.in_ok-recipients.recipients z.more) g y.gives z.gives h)
    c.in_err-attachments.ensures)

pub read_message-returns : goal.read_message-returns
read_message-returns t c =
    let names = c.args.names.now in
    let s = storage_seen c.args.files.now c.args.at in
    let part = part_of c.args.part in
    let inner = inner_at c.args.levels names in
    let y = list_read c.args.passed.now c.read_props.new.passed c.in_ok-list.list (list_in part names s) c.in_ok-list.ensures.answer c.in_ok-list.ensures.added in
    let z = c.in_ok-recipients.ensures in
    let w = c.in_ok-attachments.ensures in
    record {
      more = y.more ++ (z.more ++ w.more);
      passed = passed_thrice c.args.passed.now c.read_props.new.passed c.read_recipients.new.passed c.read_attachments.new.passed y.more z.more w.more y.passed z.passed w.passed;
      gives = message_in-is c.args.levels names part s ∙ (whole_message names inner part s (section_beside c.in_ok-list.list y.more) (rows_beside c.in_ok-recipients.recipients z.more) (pieces_beside c.in_ok-attachments.attachments w.more) y.gives z.gives w.gives
          ∙ (λ i. Ok (record { message = sym c.message_of.ensures i; passed = y.more ++ (z.more ++ w.more) })));
    }
