use Rattle.std.proofs.Common.{◌∙◌}
use Rattle.mail_model.specs.Base64.{alphabet}
use Rattle.mime_envelope.proofs.coder.Coder.new.Goals as goal

pub invariant_of-result : goal.invariant_of-result
unfolding alphabet
invariant_of-result c =
    let made = c.new-3.ensures in
    let is = c.new-2.ensures in
    record {
      standard = (
        made.symbols ∙ c.in-Ok.ensures.ok.0,
        made.padding ∙ c.in-Ok.ensures.ok.1,
        (rw made.config is.0, rw made.config is.1, rw made.config is.2),
      );
    }
