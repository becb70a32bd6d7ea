use Rattle.std.proofs.Common.{◌≡◌, List, ℕ, OnOk, subst, ◌∙◌}
use Rattle.cfb_list.specs.Listed as listed
use Rattle.msg_nameid.proofs.writing.add_stream.Goals as goal

pub returns : goal.returns
returns g c =
    subst (λ (n : List ℕ). OnOk c.add_stream.result (c.add_stream.new.self ≡ record c.args.files.now { storages = listed.with_child c.args.files.now.storages c.args.at (listed.stream n c.args.bytes.items) })) (c.text_of.ensures.bytes ∙ c.value_name-name.ensures.name) c.add_stream.ensures.ok
