use Rattle.std.proofs.Common.{List, ℕ, ◌++◌, arith, ap, ◌∙◌}
use Rattle.msg_nameid.specs.Gathered.{with_hash}
use Rattle.std.proofs.lemmas.Result.{on_ok_weaker}
use Rattle.msg_nameid.proofs.HashSteps.{hash_pushed}
use Rattle.msg_nameid.proofs.hashes.Hashes.push.Goals as goal

pub returns : goal.returns
returns c =
    let pair : List ℕ = c.le32.result ++ c.le32-2.result in
    on_ok_weaker c.push_pair.result
    (λ e. hash_pushed (λ v. v.items) c.self.inside.streams.items c.args.bucket c.index_mut.result.now c.push_pair.new.bytes pair (omega (arith, c.self.invariant)) c.index_mut.ensures.value e ∙ (ap (λ l. with_hash l c.args.bucket pair) c.self.view_is ∙ (λ i. with_hash c.args.self.now c.args.bucket (c.le32.ensures i ++ c.le32-2.ensures i))))
    c.push_pair.ensures
