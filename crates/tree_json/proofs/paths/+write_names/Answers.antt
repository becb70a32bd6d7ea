use Rattle.std.proofs.Common.{◌∙◌, ap, sym, map, false, List, ℕ}
use Rattle.json_model.specs.Texts.{name_json}
use Rattle.json_writer.proofs.Counted.{andthen, failing, counts_as}
use Rattle.tree_json.specs.Lists.{behind}
use Rattle.tree_json.specs.Paths.{names_in}
use Rattle.tree_json.proofs.Lists.{behind_last}
use Rattle.tree_json.proofs.paths.+write_names.Goals as goal

pub returns-in_err-write_names-in-Under : goal.returns-in_err-write_names-in-Under
returns-in_err-write_names-in-Under g t c =
    let text = behind_last name_json (names_in c.in-Under.above.now) c.in-Under.name.now in
    counts_as _ (text ∙ ap (λ (p : List (List ℕ)). behind false (map name_json p)) (sym (ap names_in c.in-Under.is))) (failing _ c.from_residual.ensures.0 c.in_err-write_names-in-Under.ensures)

pub returns-in_err-append-in-Under : goal.returns-in_err-append-in-Under
returns-in_err-append-in-Under g t c =
    let text = behind_last name_json (names_in c.in-Under.above.now) c.in-Under.name.now in
    counts_as _ (text ∙ ap (λ (p : List (List ℕ)). behind false (map name_json p)) (sym (ap names_in c.in-Under.is)))
    (andthen c.in_ok-write_names-in-Under.ensures (failing _ c.from_residual-in_err-append-in-Under.ensures.0 (rw (c.separator.ensures, c.has_names.ensures) at c.in_err-append-in-Under.ensures)))

pub returns-in_ok-append-in-Under : goal.returns-in_ok-append-in-Under
returns-in_ok-append-in-Under g t c =
    let text = behind_last name_json (names_in c.in-Under.above.now) c.in-Under.name.now in
    counts_as _ (text ∙ ap (λ (p : List (List ℕ)). behind false (map name_json p)) (sym (ap names_in c.in-Under.is)))
    (andthen c.in_ok-write_names-in-Under.ensures (andthen (rw (c.separator.ensures, c.has_names.ensures) at c.in_ok-append-in-Under.ensures) c.append_name.ensures))
