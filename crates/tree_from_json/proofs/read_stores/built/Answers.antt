use Rattle.std.proofs.Common.{◌≡◌, ◌∙◌, ap, subst, map, List, ℕ, Vec, Global}
use Rattle.std.specs.Prelude.{IfOk}
use Rattle.carrier_model.specs.FileTrees.{FileTree, sorted}
use Rattle.json_model.specs.StoreForms.{front_below}
use Rattle.msg_tree.specs.Gathering.{gathered, in_order}
use Rattle.msg_tree.specs.StoreMeaning.{store_of}
use Rattle.tree_from_json.specs.Entries.{placed_of, tree_at}
use Rattle.tree_from_json.proofs.Building.{in_order_is}
use Rattle.tree_from_json.proofs.read_stores.built.Goals as goal

abbrev items_of : Vec ℕ Global → List ℕ
items_of b = b.items

pub returns : goal.returns
returns c =
    let queue = c.from_vec-entries.result.items in
    let whole : in_order (gathered items_of c.in_ok-take_members.field-0) ≡ sorted (tree_at 0 (front_below 0 (map placed_of c.args.entries.items))) =
    ap in_order c.in_ok-take_members.ensures.ok
    ∙ (in_order_is (tree_at 0 (front_below 0 (map placed_of queue))) ∙ ap (λ xs. sorted (tree_at 0 (front_below 0 (map placed_of xs)))) c.from_vec-entries.ensures.items) in
    subst (λ (f : FileTree). IfOk c.into_store.result (λ s. store_of items_of s ≡ record { class = c.args.class; members = f })) whole c.into_store.ensures
