use Rattle.std.proofs.Common.{◌≡◌, ◌∙◌, sym, ap, subst, [], arith}
use Rattle.std.proofs.lemmas.Result.{err_from_is_err_and}
use Rattle.carrier_model.specs.Tree.{depth}
use Rattle.msg_tree.specs.Keeping.{HasStores}
use Rattle.msg_tree.specs.Meaning.{tree_of}
use Rattle.msg_tree.specs.Whole.{plain_of}
use Rattle.text8_model.specs.Become.{UnicodeOf}
use Rattle.text8_model.specs.Unicode.{converted, unmapped_in}
use Rattle.text8_model.proofs.TreeLaws.{unicode_means}
use Rattle.tree_text8.proofs.Whole.{converted_stores, converted_depth, becomes, end_is_first}
use Rattle.tree_text8.proofs.conversion.unicode_in_place.Goals as goal

pub returns-in_err-convert_message-clause-first : goal.returns-in_err-convert_message-clause-first
returns-in_err-convert_message-clause-first g c =
    let p = err_from_is_err_and c.from_residual.result c.from_residual.ensures.1 in
    rw (p.1, p.2, ← c.into_message-message.ensures.message) (end_is_first (tree_of g.C.Blob.bytes c.into_message-message.result) c.in_err-convert_message.field-0.0 c.in_err-convert_message.ensures.end)

pub from_shallow-requires-clause-shallow : goal.from_shallow-requires-clause-shallow
from_shallow-requires-clause-shallow g c =
    let t = tree_of g.C.Blob.bytes c.into_message-message.result in
    let made : tree_of g.C.Blob.bytes c.convert_message.new.message ≡ converted t = c.in_ok-convert_message.ensures.ok in
    let deep : depth (tree_of g.C.Blob.bytes c.convert_message.new.message) ≡ depth t = ap depth made ∙ converted_depth t c.in_ok-convert_message.ensures.good in
    omega (arith, deep, c.into_message-message.ensures.shallow)

pub from_shallow-requires-clause-stores : goal.from_shallow-requires-clause-stores
from_shallow-requires-clause-stores g c =
    let t = tree_of g.C.Blob.bytes c.into_message-message.result in
    subst HasStores (sym c.in_ok-convert_message.ensures.ok) (converted_stores t c.into_message-message.ensures.stores)

pub returns-clause-ok : goal.returns-clause-ok
returns-clause-ok g c =
    let t = plain_of c.args.tree in
    let is : plain_of c.from_shallow.result ≡ converted t = c.from_shallow.ensures ∙ (c.in_ok-convert_message.ensures.ok ∙ ap converted c.into_message-message.ensures.message) in
    let good : unmapped_in t ≡ [] = ap unmapped_in (sym c.into_message-message.ensures.message) ∙ c.in_ok-convert_message.ensures.good in
    subst (UnicodeOf t) (sym is) (becomes t good)

pub returns-clause-only : goal.returns-clause-only
returns-clause-only g c =
    let t = plain_of c.args.tree in
    let is : plain_of c.from_shallow.result ≡ converted t = c.from_shallow.ensures ∙ (c.in_ok-convert_message.ensures.ok ∙ ap converted c.into_message-message.ensures.message) in
    λ u b. (unicode_means t u b).1 ∙ sym is
