use Rattle.std.specs.Prelude.{refl}
use Rattle.carrier_model.specs.Chains.{longest, chain_of}
use Rattle.carrier_model.specs.Files.{family_names, names_of, claims_of, opened_of}
use Rattle.carrier_model.specs.Links.{visited, visit}
use Rattle.carrier_model.specs.Loads.{tables_of, long_chain_of, short_chain_of, mini_of, load_of, claim_of}
use Rattle.carrier_model.specs.Sectors.{u16_of, u32_of, word_offset}
use Rattle.carrier_model.specs.Tables.{header_of, sector_of, difat_of, fat_sectors_of}
use Rattle.carrier_model.proofs.file_rows.faults_of_changed_versions.Goals as goal

pub returns-clause-ignored : goal.returns-clause-ignored
unfolding longest chain_of family_names names_of claims_of opened_of visited visit tables_of long_chain_of short_chain_of mini_of load_of claim_of u16_of u32_of word_offset header_of sector_of difat_of fat_sectors_of
returns-clause-ignored c = refl

pub returns-clause-unknown : goal.returns-clause-unknown
unfolding longest chain_of family_names names_of claims_of opened_of visited visit tables_of long_chain_of short_chain_of mini_of load_of claim_of u16_of u32_of word_offset header_of sector_of difat_of fat_sectors_of
returns-clause-unknown c = refl

pub returns-clause-size : goal.returns-clause-size
unfolding longest chain_of family_names names_of claims_of opened_of visited visit tables_of long_chain_of short_chain_of mini_of load_of claim_of u16_of u32_of word_offset header_of sector_of difat_of fat_sectors_of
returns-clause-size c = refl

pub returns-clause-cut : goal.returns-clause-cut
unfolding longest chain_of family_names names_of claims_of opened_of visited visit tables_of long_chain_of short_chain_of mini_of load_of claim_of u16_of u32_of word_offset header_of sector_of difat_of fat_sectors_of
returns-clause-cut c = refl
