use Rattle.std.proofs.Common.{refl}
use Rattle.carrier_model.specs.Sectors.{u16_of, u32_of, word_offset}
use Rattle.carrier_model.specs.Tables.{header_of, sector_of, difat_of, fat_sectors_of}
use Rattle.carrier_model.specs.Chains.{longest, chain_of}
use Rattle.carrier_model.specs.Loads.{tables_of, long_chain_of, short_chain_of, mini_of, load_of, claim_of}
use Rattle.carrier_model.specs.Links.{visited, visit}
use Rattle.carrier_model.specs.Files.{family_names, names_of, claims_of, opened_of}
use Rattle.carrier_model.specs.Turns.{in_turn}
use Rattle.msg_model.specs.NameMap.{pairs_of, given_by, named_by, name_of, text_at}
use Rattle.msg_model.specs.MsgValues.{parts_of, streamed_value, stored_value, value_of}
use Rattle.msg_model.specs.MsgProps.{key_of, prop_of, item_of, next_item, props_of}
use Rattle.msg_model.specs.MsgMessage.{held_in, body_in, attachment_in, message_with, message_in, files_meaning, file_meaning}
use Rattle.msg_model.proofs.msg_read_rows.files_are_read_back.Goals as goal

pub returns-clause-texts : goal.returns-clause-texts
unfolding u16_of u32_of word_offset header_of sector_of difat_of fat_sectors_of longest chain_of tables_of long_chain_of short_chain_of mini_of load_of claim_of visited visit family_names names_of claims_of opened_of in_turn pairs_of given_by named_by name_of text_at parts_of streamed_value stored_value value_of key_of prop_of item_of next_item props_of held_in body_in attachment_in message_with message_in files_meaning file_meaning
returns-clause-texts c = refl

pub returns-clause-numbers : goal.returns-clause-numbers
unfolding u16_of u32_of word_offset header_of sector_of difat_of fat_sectors_of longest chain_of tables_of long_chain_of short_chain_of mini_of load_of claim_of visited visit family_names names_of claims_of opened_of in_turn pairs_of given_by named_by name_of text_at parts_of streamed_value stored_value value_of key_of prop_of item_of next_item props_of held_in body_in attachment_in message_with message_in files_meaning file_meaning
returns-clause-numbers c = refl

pub returns-clause-parts : goal.returns-clause-parts
unfolding u16_of u32_of word_offset header_of sector_of difat_of fat_sectors_of longest chain_of tables_of long_chain_of short_chain_of mini_of load_of claim_of visited visit family_names names_of claims_of opened_of in_turn pairs_of given_by named_by name_of text_at parts_of streamed_value stored_value value_of key_of prop_of item_of next_item props_of held_in body_in attachment_in message_with message_in files_meaning file_meaning
returns-clause-parts c = refl

pub returns-clause-names : goal.returns-clause-names
unfolding u16_of u32_of word_offset header_of sector_of difat_of fat_sectors_of longest chain_of tables_of long_chain_of short_chain_of mini_of load_of claim_of visited visit family_names names_of claims_of opened_of in_turn pairs_of given_by named_by name_of text_at parts_of streamed_value stored_value value_of key_of prop_of item_of next_item props_of held_in body_in attachment_in message_with message_in files_meaning file_meaning
returns-clause-names c = refl

pub returns-clause-nested : goal.returns-clause-nested
unfolding u16_of u32_of word_offset header_of sector_of difat_of fat_sectors_of longest chain_of tables_of long_chain_of short_chain_of mini_of load_of claim_of visited visit family_names names_of claims_of opened_of in_turn pairs_of given_by named_by name_of text_at parts_of streamed_value stored_value value_of key_of prop_of item_of next_item props_of held_in body_in attachment_in message_with message_in files_meaning file_meaning
returns-clause-nested c = refl
