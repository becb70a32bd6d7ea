use Rattle.std.proofs.Common.{subst, ap, arith}
use Rattle.carrier_model.specs.Tree as plain
use Rattle.carrier_model.specs.Trees.{IsTree}
use Rattle.json_model.specs.MessageForms.{json_of, json_text}
use Rattle.json_model.proofs.Meant.{json_meant}
use Rattle.msg_tree.specs.Keeping.{HasStores}
use Rattle.msg_tree.specs.Whole.{plain_of}
use Rattle.tree_json.specs.Wholes.{IsWhole}
use Rattle.tree_json.proofs.Clean.{text_utf8, text_tokens}
use Rattle.tree_json.proofs.ReadBack.{read_back}
use Rattle.tree_json.proofs.Wholes.{whole_bytes, whole_lists}
use Rattle.tree_json.proofs.json_text.json_length.Goals as goal

pub returns-in-Ok-clause-means : goal.returns-in-Ok-clause-means
returns-in-Ok-clause-means g c =
    let t = plain_of c.args.tree.now in
    let whole : IsWhole t = subst IsWhole c.top.ensures.message c.in-Ok.ensures.whole in
    let stores : HasStores t = subst HasStores c.top.ensures.message c.top.ensures.stores in
    let bytes = whole_bytes t whole in
    let lists = whole_lists t whole stores in
    let tree : IsTree t = record { lists = lists; levels = omega (arith, c.top.ensures.shallow, ap plain.depth c.top.ensures.message) } in
    (json_of t, (text_utf8 t lists bytes, read_back t (json_text t) tree (text_tokens t lists bytes)), json_meant t bytes tree)
