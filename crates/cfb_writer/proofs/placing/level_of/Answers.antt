use Rattle.std.proofs.Common.{◌≡◌, ◌++◌, ℕ, List, length, sym, ap, ◌∙◌}
use Rattle.carrier_model.specs.Layout.{links_of_siblings, sibling_numbers, top_of}
use Rattle.cfb_list.specs.Listed.{children_at}
use Rattle.cfb_list.specs.Trees.{inside}
use Rattle.cfb_writer.proofs.Numbered.{links_count, numbers_count}
use Rattle.cfb_writer.proofs.placing.level_of.Goals as goal

pub returns : goal.returns
returns g c =
    let st = c.args.list.now in
    let cs = children_at st c.args.storage in
    let numbers = sibling_numbers c.args.first (inside st c.args.storage) in
    let are : c.append_links.new.links.items ≡ links_of_siblings numbers = c.in_ok-append_links.ensures ∙ ap (λ (ls : List (ℕ × ℕ)). ls ++ links_of_siblings c.deref.result.now) c.in_ok-links.ensures.items ∙ ap links_of_siblings (c.deref.ensures.value ∙ c.in_ok-numbers.ensures) in
    let many : length (links_of_siblings numbers) ≡ length cs = links_count numbers ∙ ap (λ t. length (sibling_numbers c.args.first t)) c.count_in.ensures.tree ∙ numbers_count (inside st) c.args.first cs in
    record {
      level = record { exists = c.requires.storage; linked = ap length are ∙ many };
      top = c.top_of.ensures ∙ ap top_of (c.deref-2.ensures.value ∙ c.in_ok-numbers.ensures);
      links = are;
      left = sym c.count_in.ensures.tree;
    }
