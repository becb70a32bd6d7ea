use Rattle.std.proofs.Common.{◌≡◌, List, ℕ, ◌++◌, ◌∷◌, [], ◌<◌, ◌+◌, length, take, drop, ap, ◌∙◌, arith}
use Rattle.carrier_model.specs.Layout.{links_of_siblings, top_of, middle}
use Rattle.cfb_layout.proofs.Sides.{three_steps, on_ok}
use Rattle.cfb_layout.proofs.links.+append_links.Goals as goal

pub returns : goal.returns
returns t c =
    let some : 0 < length c.args.numbers.now = grind (arith, c.is_empty.ensures, c.if-is_empty.false) in
    let before = take (middle c.args.numbers.now) c.args.numbers.now in
    let behind = drop (middle c.args.numbers.now + 1) c.args.numbers.now in
    let second : c.top_of-2.result ≡ top_of behind = c.top_of-2.ensures ∙ ap top_of c.split_at.ensures.back in
    let step : c.push.new.self.items ≡ c.append_links.new.links.items ++ (top_of before, top_of behind) ∷ [] =
    c.in_ok-push.ensures.items
    ∙ ap (λ (x : ℕ). c.append_links.new.links.items ++ (x, c.top_of-2.result) ∷ []) c.top_of.ensures
    ∙ ap (λ (y : ℕ). c.append_links.new.links.items ++ (top_of before, y) ∷ []) second
    in
    on_ok c.append_links-2.result (λ h. three_steps c.args.links.now.items c.args.numbers.now c.append_links.new.links.items c.push.new.self.items c.append_links-2.new.links.items some c.in_ok-append_links.ensures step (h ∙ ap (λ (ns : List ℕ). c.push.new.self.items ++ links_of_siblings ns) c.split_at.ensures.back))
    c.append_links-2.ensures
