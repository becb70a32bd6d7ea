use Rattle.std.proofs.Common.{sym}
use Rattle.edit_model.specs.EditWords.{edit_kinds}
use Rattle.edit_model.proofs.WordsFit.{key_is, kind_fits, row_fits}
use Rattle.prop_names.specs.Meaning.{key_of}
use Rattle.prop_values.specs.Kinds.{kind_number}
use Rattle.prop_values.specs.Meaning.{value_of}
use Rattle.edit_words.proofs.scripts.read_set.Goals as goal

pub invariant_of-prop : goal.invariant_of-prop
invariant_of-prop c =
    let read = rw c.in-Some-2.is at c.in_ok-value.ensures in
    record {
      key = (key_is c.as_bytes.result.now (key_of c.in-Some-read_key.key) (sym c.in-Some-read_key.ensures)).0;
      value = kind_fits edit_kinds c.args.kind.now (kind_number c.in-Some-read_kind.kind) row_fits (sym c.in-Some-read_kind.ensures.kind) c.args.value.now (value_of (λ v. v.items) c.in-Some-2.value) c.requires (sym read);
    }
