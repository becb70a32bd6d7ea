use Rattle.std.proofs.Common.{ℕ, sym, subst}
use Rattle.carrier_io.specs.Reads.{Gives}
use Rattle.cfb_sectors.specs.Seen.{bytes_of}
use Rattle.msg_props.specs.Entries.{entry_of, streams_in, seen}
use Rattle.msg_props.proofs.StoredForms.{streamed_parts}
use Rattle.prop_values.specs.Kinds.{kind_number}
use Rattle.prop_values.specs.Shapes.{HasShape}
use Rattle.prop_values.specs.declared.shapes.Shape.TheVariants.{Parts}
use Rattle.msg_props.proofs.stored.streamed_value.Goals as goal

pub returns-in-Parts-clause-value : goal.returns-in-Parts-clause-value
returns-in-Parts-clause-value c =
    let shape = subst (λ (n : ℕ). HasShape n (Parts c.in-Parts.single)) c.requires.kind (subst (HasShape (kind_number c.args.kind)) c.in-Parts.is c.requires.shape) in
    subst (Gives seen c.parts_value.result) (sym (streamed_parts (streams_in c.args.files.now c.args.at) (entry_of c.args.entry.now) (bytes_of c.args.view.now) (kind_number c.args.kind) c.in-Parts.single c.requires.kind shape)) c.parts_value.ensures.value
