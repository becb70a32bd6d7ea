use Rattle.std.proofs.Common.{◌≡◌, ◌∙◌, ◌≤◌, Err, List, Ok, Some, ap, arith, length, subst, sym}
use Rattle.std.specs.Prelude.{slice_get}
use Rattle.std.specs.List.{flat_map}
use Rattle.std.proofs.lemmas.Result.{err_from_is_err_and}
use Rattle.carrier_model.specs.Files as plain
use Rattle.carrier_model.specs.Outcomes.{mapped}
use Rattle.carrier_model.specs.Turns.{each}
use Rattle.cfb_directory.specs.Found.{storage_seen}
use Rattle.msg_model.specs.MsgMessage.{list_in, numbered}
use Rattle.msg_model.specs.MsgProps.{Section, recipient}
use Rattle.msg_model.specs.StreamNames.{RECIPIENT_NAME}
use Rattle.msg_storage.specs.Levels.{recipients_in, rows_of}
use Rattle.msg_storage.proofs.Rows.{seen_length, seen_storages, storage_there, storages_are}
use Rattle.msg_storage.proofs.Turned.{fails_with, list_read, progress_all, progress_more, progress_none, progress_stops, section_beside}
use Rattle.msg_storage.proofs.reading.read_recipients.Goals as goal

pub loop-k-init : goal.loop-k-init
loop-k-init c = progress_none (list_in recipient c.args.names.now) (λ (s : Section). s.props) (λ (s : Section). s.passed) (seen_storages c.args.files.now c.in_ok-storages.storages.items) c.args.passed.now c.in_ok-recipients.recipients c.in_ok-recipients.ensures

pub returns-in_err-list : goal.returns-in_err-list
returns-in_err-list c =
    let p = err_from_is_err_and c.from_residual-in_err-list.result c.from_residual-in_err-list.ensures.1 in
    let f = c.args.files.now in
    let items = c.in_ok-storages.storages.items in
    let s = storage_seen f c.args.at in
    let read = list_in recipient c.args.names.now in
    let l = c.loop-k in
    let x = storage_seen f c.index.result.now.storage in
    let at : slice_get (seen_storages f items) l.k ≡ Some x = storage_there f items l.k c.index.result.now c.index.ensures (omega (arith, c.loop-k-test.true, c.len-k-end.ensures)) in
    let same : seen_storages f items ≡ numbered RECIPIENT_NAME s = storages_are f items RECIPIENT_NAME s c.in_ok-storages.ensures.seen in
    rw (p.1, p.2) (fails_with c.in_err-list.field-0.0 (read x) (recipients_in c.args.names.now s)
    (λ g h. subst (λ (xs : List plain.Files). mapped rows_of (each read xs) ≡ Err g) same (progress_stops read (λ (b : Section). b.props) (λ (b : Section). b.passed) (seen_storages f items) c.args.passed.now l.k l.passed l.recipients l.invariant x at rows_of g h))
    c.in_err-list.ensures.answer)

pub loop-k-preserved : goal.loop-k-preserved
loop-k-preserved c =
    let f = c.args.files.now in
    let items = c.in_ok-storages.storages.items in
    let read = list_in recipient c.args.names.now in
    let l = c.loop-k in
    let x = storage_seen f c.index.result.now.storage in
    let at : slice_get (seen_storages f items) l.k ≡ Some x = storage_there f items l.k c.index.result.now c.index.ensures (omega (arith, c.loop-k-test.true, c.len-k-end.ensures)) in
    let y = list_read l.passed c.read_props.new.passed c.in_ok-list.list (read x) c.in_ok-list.ensures.answer c.in_ok-list.ensures.added in
    progress_more read (λ (b : Section). b.props) (λ (b : Section). b.passed) (seen_storages f items) c.args.passed.now l.k l.passed l.recipients l.invariant x at c.read_props.new.passed c.push.new.self (section_beside c.in_ok-list.list y.more) y.gives y.passed c.in_ok-push.ensures.ok

pub returns : goal.returns
returns c =
    let f = c.args.files.now in
    let items = c.in_ok-storages.storages.items in
    let s = storage_seen f c.args.at in
    let read = list_in recipient c.args.names.now in
    let l = c.loop-k in
    let same : seen_storages f items ≡ numbered RECIPIENT_NAME s = storages_are f items RECIPIENT_NAME s c.in_ok-storages.ensures.seen in
    let le : length (seen_storages f items) ≤ l.k = omega (arith, c.loop-k-test.false, c.len-k-end.ensures, seen_length f items) in
    let all = progress_all read (λ (b : Section). b.props) (λ (b : Section). b.passed) (seen_storages f items) c.args.passed.now rows_of l.k l.passed l.recipients l.invariant le in
    record {
      more = flat_map (λ (b : Section). b.passed) l.invariant.given;
      passed = l.invariant.passed_are;
      gives = ap (λ (xs : List plain.Files). mapped rows_of (each read xs)) (sym same) ∙ (all ∙ (λ i. Ok (record { lists = sym l.invariant.parts_are i; passed = flat_map (λ (b : Section). b.passed) l.invariant.given })));
    }
