use Rattle.msg_model.proofs.WrittenTop.{canonical_carries, canonical_alone, canonical_faultless}
use Rattle.msg_model.proofs.WrittenFile.{found}
use Rattle.msg_model.proofs.written_laws.written_files_carry_their_message.Goals as goal

pub returns-clause-carries : goal.returns-clause-carries
returns-clause-carries c = λ z t size tree few parts short. canonical_carries z t tree few parts (found z t size tree few parts short)

pub returns-clause-alone : goal.returns-clause-alone
returns-clause-alone c = λ z t other passed size tree few parts short m. canonical_alone z t other passed tree few parts (found z t size tree few parts short) short m

pub returns-clause-faultless : goal.returns-clause-faultless
returns-clause-faultless c = λ z t g size tree few parts short e. canonical_faultless z t g tree few parts (found z t size tree few parts short) short e
