use Rattle.std.proofs.Common.{ap, sym}
use Rattle.text_model.specs.ValueTexts.{number_text}
use Rattle.prop_values.specs.Kinds.{kind_number}
use Rattle.tree_texts.proofs.Partly.{writes_as}
use Rattle.tree_texts.proofs.numbers.write_number.Goals as goal

pub returns-in-Integer16 : goal.returns-in-Integer16
returns-in-Integer16 g c = writes_as _ (ap (λ k. number_text (kind_number k) c.args.bits) (sym c.in-Integer16.is)) c.write_signed16.ensures

pub returns-in-Integer32 : goal.returns-in-Integer32
returns-in-Integer32 g c = writes_as _ (ap (λ k. number_text (kind_number k) c.args.bits) (sym c.in-Integer32.is)) c.write_signed32.ensures

pub returns-in-Currency : goal.returns-in-Currency
returns-in-Currency g c = writes_as _ (ap (λ k. number_text (kind_number k) c.args.bits) (sym c.in-Currency.is)) c.write_signed64.ensures

pub returns-in-Integer64 : goal.returns-in-Integer64
returns-in-Integer64 g c = writes_as _ (ap (λ k. number_text (kind_number k) c.args.bits) (sym c.in-Integer64.is)) c.write_signed64-in-Integer64.ensures
