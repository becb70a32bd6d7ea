use Rattle.std.proofs.Common.{◌≡◌, ◌∙◌, [], ◌∷◌, List, true, ap, subst, sym}
use Rattle.carrier_model.specs.FileTrees.{FileTree, and_files, no_file, storage, NO_CLASS}
use Rattle.carrier_model.specs.Keys.{Name}
use Rattle.carrier_model.specs.Layout.{MESSAGE_CLASS}
use Rattle.carrier_model.specs.Tree.{names_in, names_of}
use Rattle.cfb_list.specs.Grown.{grown}
use Rattle.cfb_list.specs.Listed.{Listed}
use Rattle.msg_model.specs.StreamNames.{NAME_MAP}
use Rattle.msg_model.specs.WrittenMsg as plain
use Rattle.msg_model.specs.WrittenNames.{name_map_files}
use Rattle.msg_nameid.specs.Maps as maps
use Rattle.msg_storage.specs.Written.{Adds, Known}
use Rattle.msg_storage.proofs.Adding.{adds_two, all_known, names_of_map}
use Rattle.msg_tree.specs.Meaning.{tree_of}
use Rattle.msg_tree.specs.Whole.{plain_of}
use Rattle.msg_storage.proofs.writing.files_of.Goals as goal

pub add_message-requires-clause-known : goal.add_message-requires-clause-known
add_message-requires-clause-known g c =
    let t = plain_of c.args.tree.now in
    let names : maps.names_in c.in_ok-map.map ≡ names_of t = ap maps.names_in c.in_ok-map.ensures.pairs ∙ (names_of_map 0 c.args.names.now ∙ c.requires.names) in
    subst (λ (u : _). Known (maps.names_in c.in_ok-map.map) (names_in u)) (sym c.top.ensures.message) (subst (λ (l : List Name). Known l (names_in t)) (sym names) (all_known t))

pub returns : goal.returns
returns g c =
    let t = plain_of c.args.tree.now in
    let names : maps.names_in c.in_ok-map.map ≡ names_of t = ap maps.names_in c.in_ok-map.ensures.pairs ∙ (names_of_map 0 c.args.names.now ∙ c.requires.names) in
    let front : FileTree = storage NAME_MAP NO_CLASS (name_map_files (maps.names_in c.in_ok-map.map)) no_file in
    let back : FileTree = plain.message_files (maps.names_in c.in_ok-map.map) true (tree_of g.B.Blob.bytes c.top.result.now) in
    let both : Adds c.in_ok-files.files c.add_message.new.files 0 (and_files front back) = adds_two c.grown_lists_are_trees.ensures.steps c.in_ok-files.files c.add_streams.new.files c.add_message.new.files 0 front back c.in_ok-add_streams.ensures c.in_ok-add_message.ensures in
    let same : and_files front back ≡ plain.files_of t = λ i. storage NAME_MAP NO_CLASS (name_map_files (names i)) (plain.message_files (names i) true (c.top.ensures.message i)) in
    both ∙ ((λ i. record (c.in_ok-files.ensures i) { storages = grown (c.in_ok-files.ensures i).storages 0 (and_files front back) }) ∙ ap one same)
  where
    one : FileTree → Listed
    one f = record { root_class = MESSAGE_CLASS; storages = grown ([] ∷ []) 0 f }
