use Rattle.msg_tree.specs.StoreMeaning.{store_of}
use Rattle.ole_stores.proofs.StoreFiles.{file_is, plan_as, end_as}
use Rattle.ole_stores.proofs.writing.store_plan.Goals as goal

pub returns-clause-ok : goal.returns-clause-ok
returns-clause-ok g c =
    let e = file_is c.grown_lists_are_trees.ensures.tree c.sorted_lists_are_laid_out.ensures.same (store_of g.B.Blob.bytes c.args.store.now) c.in_ok-files.files c.set_root_class.new.self c.add_store.new.files c.class.result c.in_ok-files.ensures c.class.ensures c.set_root_class.ensures c.in_ok-add_store.ensures in
    plan_as c.new-2.result _ _ e c.new-2.ensures.ok

pub returns-clause-end : goal.returns-clause-end
returns-clause-end g c =
    let e = file_is c.grown_lists_are_trees.ensures.tree c.sorted_lists_are_laid_out.ensures.same (store_of g.B.Blob.bytes c.args.store.now) c.in_ok-files.files c.set_root_class.new.self c.add_store.new.files c.class.result c.in_ok-files.ensures c.class.ensures c.set_root_class.ensures c.in_ok-add_store.ensures in
    end_as c.new-2.result _ _ e c.new-2.ensures.end
