use Rattle.std.proofs.Common.{◌-◌, length, arith, vec_len}
use Rattle.std.proofs.lemmas.Grind.{common_steps}
use Rattle.carrier_model.proofs.EntryLaws.{few_entries}
use Rattle.cfb_sectors.proofs.sectors.Sectors.entries.Goals as goal

pub overflow_cast-result : goal.overflow_cast-result
overflow_cast-result c =
    let few = few_entries c.self.inside.fat.size (vec_len c.self.inside.directory) (length c.self.inside.bytes.now) c.self.inside.fat.sized (omega (arith, c.self.invariant.0.few)) c.self.invariant.0.short in
    omega (arith, few.0)

pub overflow_mul-result : goal.overflow_mul-result
overflow_mul-result c =
    let few = few_entries c.self.inside.fat.size (vec_len c.self.inside.directory) (length c.self.inside.bytes.now) c.self.inside.fat.sized (omega (arith, c.self.invariant.0.few)) c.self.invariant.0.short in
    grind (arith, common_steps, few)
