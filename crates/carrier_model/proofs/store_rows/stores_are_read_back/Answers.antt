use Rattle.std.specs.Prelude.{refl}
use Rattle.carrier_model.specs.Chains.{longest, chain_of}
use Rattle.carrier_model.specs.Files.{family_names, names_of, claims_of, opened_of}
use Rattle.carrier_model.specs.Links.{visited, visit}
use Rattle.carrier_model.specs.Loads.{tables_of, long_chain_of, short_chain_of, mini_of, load_of, claim_of}
use Rattle.carrier_model.specs.Sectors.{u16_of, u32_of, word_offset}
use Rattle.carrier_model.specs.Tables.{header_of, sector_of, difat_of, fat_sectors_of}
use Rattle.carrier_model.specs.Stores.{store_in, store_file}
use Rattle.carrier_model.proofs.store_rows.stores_are_read_back.Goals as goal

pub returns-clause-empty : goal.returns-clause-empty
unfolding longest chain_of family_names names_of claims_of opened_of visited visit tables_of long_chain_of short_chain_of mini_of load_of claim_of u16_of u32_of word_offset header_of sector_of difat_of fat_sectors_of store_in store_file
returns-clause-empty c = refl

pub returns-clause-small : goal.returns-clause-small
unfolding longest chain_of family_names names_of claims_of opened_of visited visit tables_of long_chain_of short_chain_of mini_of load_of claim_of u16_of u32_of word_offset header_of sector_of difat_of fat_sectors_of store_in store_file
returns-clause-small c = refl
