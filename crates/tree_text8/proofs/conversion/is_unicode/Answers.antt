use Rattle.std.proofs.Common.{◌∙◌, sym, ap, true, false, ◌≡◌}
use Rattle.msg_tree.specs.Whole.{plain_of}
use Rattle.text8_model.specs.Unicode.{FIRST_PAGE}
use Rattle.tree_text8.specs.Narrow.{is_narrow}
use Rattle.tree_text8.proofs.Selves.{message_stays, message_stayed, is_not, is_so}
use Rattle.tree_text8.proofs.conversion.is_unicode.Goals as goal

pub returns-clause-yes : goal.returns-clause-yes
returns-clause-yes g c =
    let t = plain_of c.args.tree.now in
    λ wide. message_stays FIRST_PAGE t (ap is_narrow (sym c.top.ensures.message) ∙ (sym c.is_narrow.ensures ∙ is_not c.is_narrow.result wide))

pub returns-clause-no : goal.returns-clause-no
returns-clause-no g c =
    let t = plain_of c.args.tree.now in
    λ narrow own.
    let wrong : true ≡ false = sym (is_so c.is_narrow.result narrow) ∙ (c.is_narrow.ensures ∙ (ap is_narrow c.top.ensures.message ∙ message_stayed FIRST_PAGE t own)) in cc
