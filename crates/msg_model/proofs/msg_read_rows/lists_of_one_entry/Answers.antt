use Rattle.std.proofs.Common.{refl}
use Rattle.carrier_model.specs.Sectors.{u16_of, u32_of, word_offset}
use Rattle.carrier_model.specs.Tables.{header_of, sector_of, difat_of, fat_sectors_of}
use Rattle.carrier_model.specs.Chains.{longest, chain_of}
use Rattle.carrier_model.specs.Loads.{tables_of, long_chain_of, short_chain_of, mini_of, load_of, claim_of}
use Rattle.carrier_model.specs.Links.{visited, visit}
use Rattle.carrier_model.specs.Files.{family_names, names_of, claims_of, opened_of}
use Rattle.carrier_model.specs.Turns.{in_turn}
use Rattle.msg_model.specs.NameMap.{pairs_of, given_by, named_by, name_of, text_at}
use Rattle.msg_model.specs.MsgValues.{parts_of, streamed_value, stored_value, value_of}
use Rattle.msg_model.specs.MsgProps.{key_of, prop_of, item_of, next_item, props_of}
use Rattle.msg_model.specs.MsgMessage.{held_in, body_in, attachment_in, message_with, message_in, files_meaning, file_meaning}
use Rattle.msg_model.proofs.msg_read_rows.lists_of_one_entry.Goals as goal

pub returns-clause-integer : goal.returns-clause-integer
unfolding u16_of u32_of word_offset header_of sector_of difat_of fat_sectors_of longest chain_of tables_of long_chain_of short_chain_of mini_of load_of claim_of visited visit family_names names_of claims_of opened_of in_turn pairs_of given_by named_by name_of text_at parts_of streamed_value stored_value value_of key_of prop_of item_of next_item props_of held_in body_in attachment_in message_with message_in files_meaning file_meaning
returns-clause-integer c = refl

pub returns-clause-unmapped : goal.returns-clause-unmapped
unfolding u16_of u32_of word_offset header_of sector_of difat_of fat_sectors_of longest chain_of tables_of long_chain_of short_chain_of mini_of load_of claim_of visited visit family_names names_of claims_of opened_of in_turn pairs_of given_by named_by name_of text_at parts_of streamed_value stored_value value_of key_of prop_of item_of next_item props_of held_in body_in attachment_in message_with message_in files_meaning file_meaning
returns-clause-unmapped c = refl

pub returns-clause-unknown : goal.returns-clause-unknown
unfolding u16_of u32_of word_offset header_of sector_of difat_of fat_sectors_of longest chain_of tables_of long_chain_of short_chain_of mini_of load_of claim_of visited visit family_names names_of claims_of opened_of in_turn pairs_of given_by named_by name_of text_at parts_of streamed_value stored_value value_of key_of prop_of item_of next_item props_of held_in body_in attachment_in message_with message_in files_meaning file_meaning
returns-clause-unknown c = refl

pub returns-clause-missing : goal.returns-clause-missing
unfolding u16_of u32_of word_offset header_of sector_of difat_of fat_sectors_of longest chain_of tables_of long_chain_of short_chain_of mini_of load_of claim_of visited visit family_names names_of claims_of opened_of in_turn pairs_of given_by named_by name_of text_at parts_of streamed_value stored_value value_of key_of prop_of item_of next_item props_of held_in body_in attachment_in message_with message_in files_meaning file_meaning
returns-clause-missing c = refl

pub returns-clause-empty : goal.returns-clause-empty
unfolding u16_of u32_of word_offset header_of sector_of difat_of fat_sectors_of longest chain_of tables_of long_chain_of short_chain_of mini_of load_of claim_of visited visit family_names names_of claims_of opened_of in_turn pairs_of given_by named_by name_of text_at parts_of streamed_value stored_value value_of key_of prop_of item_of next_item props_of held_in body_in attachment_in message_with message_in files_meaning file_meaning
returns-clause-empty c = refl

pub returns-clause-object : goal.returns-clause-object
unfolding u16_of u32_of word_offset header_of sector_of difat_of fat_sectors_of longest chain_of tables_of long_chain_of short_chain_of mini_of load_of claim_of visited visit family_names names_of claims_of opened_of in_turn pairs_of given_by named_by name_of text_at parts_of streamed_value stored_value value_of key_of prop_of item_of next_item props_of held_in body_in attachment_in message_with message_in files_meaning file_meaning
returns-clause-object c = refl

pub returns-clause-short : goal.returns-clause-short
unfolding u16_of u32_of word_offset header_of sector_of difat_of fat_sectors_of longest chain_of tables_of long_chain_of short_chain_of mini_of load_of claim_of visited visit family_names names_of claims_of opened_of in_turn pairs_of given_by named_by name_of text_at parts_of streamed_value stored_value value_of key_of prop_of item_of next_item props_of held_in body_in attachment_in message_with message_in files_meaning file_meaning
returns-clause-short c = refl
