use Rattle.std.proofs.Common.{ap, sym}
use Rattle.text_model.specs.TreeTexts.{carrier_word, line}
use Rattle.tree_texts.specs.Carriers.{carrier_of}
use Rattle.tree_texts.proofs.Partly.{writes_as}
use Rattle.tree_texts.proofs.check.write_carrier.Goals as goal

pub returns-in-Msg : goal.returns-in-Msg
returns-in-Msg g c = writes_as _ (ap (λ k. line 0 (carrier_word (carrier_of k))) (sym c.in-Msg.is)) c.write_word_line.ensures
