-- The streams of a name map.
use Rattle.std.proofs.Common.{◌≡◌, refl}
use Rattle.std.specs.Prelude.{Option, Some, None}
use Rattle.std.specs.Option.{option_map}
use Rattle.std.specs.String.{IsUtf16Of}
use Rattle.carrier_model.specs.Lookups.{Found}
use Rattle.msg_model.specs.MsgMessage.{stream_or_empty}
use Rattle.msg_model.specs.StreamNames.{NAME_MAP, GUID_STREAM, ENTRY_STREAM, TEXT_STREAM}
use Rattle.msg_nameid.specs.Read.{stream_or_none}

pub found_or_none : (o : Option Found) → stream_or_none (option_map (λ (f : Found). f.stream) o) ≡ stream_or_empty o
found_or_none None = refl
found_or_none (Some f) = refl

pub map_text : IsUtf16Of NAME_MAP NAME_MAP
unfolding lib.Utf8.encode
map_text = (NAME_MAP, refl, refl)

pub guid_text : IsUtf16Of GUID_STREAM GUID_STREAM
unfolding lib.Utf8.encode
guid_text = (GUID_STREAM, refl, refl)

pub entry_text : IsUtf16Of ENTRY_STREAM ENTRY_STREAM
unfolding lib.Utf8.encode
entry_text = (ENTRY_STREAM, refl, refl)

pub text_text : IsUtf16Of TEXT_STREAM TEXT_STREAM
unfolding lib.Utf8.encode
text_text = (TEXT_STREAM, refl, refl)
