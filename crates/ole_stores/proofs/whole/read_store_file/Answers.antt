use Rattle.std.proofs.Common.{◌≡◌, ap, subst, Err, arith}
use Rattle.carrier_io.specs.Reads.{Fails}
use Rattle.carrier_io.specs.Reasons.{fault_of}
use Rattle.carrier_model.specs.Outcomes.{moved}
use Rattle.carrier_model.specs.Stores.{store_file}
use Rattle.cfb_sectors.specs.Seen.{bytes_of}
use Rattle.msg_tree.specs.StoreMeaning.{store_of}
use Rattle.ole_stores.proofs.WholeFiles.{fault_fits, found_only, fault_only}
use Rattle.ole_stores.proofs.whole.read_store_file.Goals as goal

pub overflow_add-result : goal.overflow_add-result
overflow_add-result c = omega (arith, fault_fits c.args.bytes.now c.args.at (fault_of c.in-Err-Fault.g) c.requires (subst (λ stop. Fails stop (store_file c.args.bytes.now)) c.in-Err-Fault.field-0-is c.in-Err-Fault.ensures))

pub returns-in-Ok-clause-both : goal.returns-in-Ok-clause-both
returns-in-Ok-clause-both c = found_only c.args.bytes.now c.args.at (store_of bytes_of c.in-Ok.store) (omega (arith, c.requires)) c.in-Ok.ensures

pub returns-in-Err-Fault-clause-both : goal.returns-in-Err-Fault-clause-both
returns-in-Err-Fault-clause-both c =
    let failed : store_file c.args.bytes.now ≡ Err (fault_of c.in-Err-Fault.g) = subst (λ stop. Fails stop (store_file c.args.bytes.now)) c.in-Err-Fault.field-0-is c.in-Err-Fault.ensures in
    fault_only c.args.bytes.now c.args.at _ (ap (moved c.args.at) failed)
