use Rattle.std.proofs.Common.{refl}
use Rattle.carrier_model.specs.Sectors.{u32_of}
use Rattle.carrier_model.specs.Turns.{in_turn}
use Rattle.msg_model.specs.NameMap.{pairs_of, given_by, named_by, name_of, text_at}
use Rattle.msg_model.proofs.msg_read_rows.one_name_is_read.Goals as goal

pub returns : goal.returns
unfolding pairs_of in_turn given_by named_by name_of text_at u32_of
returns c = refl
