use Rattle.std.proofs.Common.{◌≡◌, ℕ, take, drop, map}
use Rattle.text8_model.specs.Unicode.{wide_bytes, bad_elements}
use Rattle.tree_text8.specs.Meaning.{plain_page}
use Rattle.tree_text8.proofs.values.wide_parts.Given as goal

abbrev pub invariant-loop-k : goal.invariant-loop-k
invariant-loop-k g l = record {
  good : (code n : ℕ) → bad_elements code n (plain_page l.page) 0 l.list ≡ bad_elements code n (plain_page l.page) l.k (drop l.k l.list);
  made : l.all ≡ map (wide_bytes (plain_page l.page)) (take l.k l.list);
}
