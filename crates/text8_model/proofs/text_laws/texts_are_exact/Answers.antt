use Rattle.std.proofs.Common.{subst, sym}
use Rattle.text8_model.specs.Texts.{TextOf}
use Rattle.text8_model.proofs.TextLaws.{text_means, text_found, first_bad, text_short}
use Rattle.text8_model.proofs.text_laws.texts_are_exact.Goals as goal

pub returns : goal.returns
returns c = record {
  units = λ page x u. (text_means page x u, λ h. subst (TextOf page x) (sym h.1) (text_found page x h.0));
  bad = first_bad;
  short = text_short;
}
