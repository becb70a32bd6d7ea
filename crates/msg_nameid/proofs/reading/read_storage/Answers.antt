use Rattle.std.proofs.Common.{◌≡◌, ◌∙◌, List, ap, subst}
use Rattle.std.specs.Prelude.{Some}
use Rattle.carrier_io.specs.Reads.{Gives}
use Rattle.carrier_model.specs.Lookups.{stream_named}
use Rattle.cfb_directory.specs.Found.{storage_seen}
use Rattle.cfb_sectors.specs.Seen.{stream as stream_seen}
use Rattle.msg_model.specs.MsgMessage.{stream_or_empty, name_streams_in, streams_of}
use Rattle.msg_model.specs.NameMap.{NameStreams, Pair, pairs_of}
use Rattle.msg_model.specs.StreamNames.{GUID_STREAM, ENTRY_STREAM, TEXT_STREAM}
use Rattle.msg_nameid.specs.Read.{stream_or_none}
use Rattle.msg_nameid.proofs.StreamLaws.{found_or_none, guid_text, entry_text, text_text}
use Rattle.msg_nameid.proofs.reading.read_storage.Goals as goal

pub returns : goal.returns
returns c =
    let s = storage_seen c.args.files.now c.args.at in
    let guids : stream_seen c.or_empty.result.now ≡ stream_or_empty (stream_named s.children GUID_STREAM) =
    c.or_empty.ensures ∙ (ap stream_or_none (c.stream.ensures.found GUID_STREAM guid_text) ∙ found_or_none (stream_named s.children GUID_STREAM)) in
    let entries : stream_seen c.or_empty-2.result.now ≡ stream_or_empty (stream_named s.children ENTRY_STREAM) =
    c.or_empty-2.ensures ∙ (ap stream_or_none (c.stream-2.ensures.found ENTRY_STREAM entry_text) ∙ found_or_none (stream_named s.children ENTRY_STREAM)) in
    let texts : stream_seen c.or_empty-3.result.now ≡ stream_or_empty (stream_named s.children TEXT_STREAM) =
    c.or_empty-3.ensures ∙ (ap stream_or_none (c.stream-3.ensures.found TEXT_STREAM text_text) ∙ found_or_none (stream_named s.children TEXT_STREAM)) in
    let all : record { guids = stream_seen c.or_empty.result.now; entries = stream_seen c.or_empty-2.result.now; texts = stream_seen c.or_empty-3.result.now } ≡ name_streams_in (streams_of (Some s)) = λ i. record { guids = guids i; entries = entries i; texts = texts i } in
    subst (λ (n : NameStreams). Gives (λ (m : List Pair). m) c.read_entries.result (pairs_of n)) all c.read_entries.ensures
