-- Which carrier of a tree the bytes are.
use Rattle.text_model.specs.TreeTexts.{Carrier, msg_file, tnef_stream}
use Rattle.tree_texts.specs.declared.check.TreeCarrier.{TreeCarrier}
use Rattle.tree_texts.specs.declared.check.TreeCarrier.TheVariants.{Msg, Tnef}

abbrev pub carrier_of : TreeCarrier → Carrier
carrier_of Msg = msg_file
carrier_of Tnef = tnef_stream
