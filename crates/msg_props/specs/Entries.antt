-- Entries and what their streams give, as plain data.
use Rattle.carrier_model.specs.Lookups.{stream_named}
use Rattle.carrier_model.specs.Values as plain
use Rattle.cfb_directory.specs.Found.{storage_seen}
use Rattle.cfb_directory.specs.declared.files.Files.{Files}
use Rattle.cfb_directory.specs.declared.lookups.StorageId.{StorageId}
use Rattle.cfb_sectors.specs.Seen.{bytes_of}
use Rattle.cfb_sectors.specs.declared.view.StreamView.{StreamView}
use Rattle.msg_model.specs.MsgValues.{PropEntry, Streams}
use Rattle.msg_props.specs.declared.entries.Entry.{Entry}
use Rattle.prop_values.specs.Meaning.{value_of}
use Rattle.prop_values.specs.declared.values.Value.{Value}

abbrev pub entry_of : Entry → PropEntry
entry_of e = record { tag = e.tag; field = e.field; place = e.place }

-- the streams of a storage
abbrev pub streams_in : Files → StorageId → Streams
streams_in files at = stream_named (storage_seen files at).children

-- the plain value of a value over views
abbrev pub seen : Value StreamView → plain.Value
seen = value_of bytes_of
