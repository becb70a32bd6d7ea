use Rattle.std.proofs.Common.{◌≡◌, ◌+◌, ◌-◌, [], ◌++◌, refl, sym, ◌∙◌, ap, subst, arith}
use Rattle.std.proofs.lemmas.Grind.{common_steps}
use Rattle.std.proofs.lemmas.Result.{err_from_is_err_and}
use Rattle.std.proofs.Common.{Ok}
use Rattle.carrier_model.specs.Sectors.{table_words}
use Rattle.carrier_model.specs.Tables.{header_of, difat_of, difat_count, fat_sectors_of}
use Rattle.carrier_model.specs.Loads.{tables_of}
use Rattle.carrier_io.specs.Reads.{Fails}
use Rattle.cfb_sectors.specs.Views.{head}
use Rattle.cfb_sectors.proofs.LoadLaws.{tables_fat_stops, tables_directory_stops, tables_ok, tables_moved}
use Rattle.cfb_sectors.proofs.loading.load_tables.Goals as goal

pub returns-in_err-sectors-clause-answer : goal.returns-in_err-sectors-clause-answer
returns-in_err-sectors-clause-answer c =
    let said = c.in_ok-header.ensures.size in
    let header : header_of c.in_ok-header.header.size c.args.bytes.now ≡ Ok (head c.in_ok-header.header) = subst (λ z. header_of z c.args.bytes.now ≡ Ok (head c.in_ok-header.header)) (sym said) c.in_ok-header.ensures.answer in
    let p = err_from_is_err_and c.from_residual-in_err-sectors.result c.from_residual-in_err-sectors.ensures.1 in
    let none = c.in_ok-marks.ensures.none in
    let one = c.in_ok-difat.ensures.marked [] none in
    let difat : difat_of (difat_count c.in_ok-header.header.size c.in_ok-header.header.fat_count) 68 c.in_ok-header.header.size c.args.bytes.now [] ≡ Ok c.in_ok-difat.difat.items =
    ap (λ k. difat_of k 68 c.in_ok-header.header.size c.args.bytes.now []) (sym c.difat_count-count.ensures) ∙ c.in_ok-difat.ensures.answer [] none in
    let here = c.in_err-sectors.ensures.answer c.in_ok-difat.difat.items one in
    rw (p.1, p.2) (subst (λ z. Fails c.in_err-sectors.field-0.0 (tables_of z c.args.bytes.now)) said (tables_fat_stops c.in_ok-header.header.size c.args.bytes.now (head c.in_ok-header.header) c.in_ok-difat.difat.items c.in_err-sectors.field-0.0 header difat (rw c.deref.ensures.value at here)))

pub returns-in_err-directory-clause-answer : goal.returns-in_err-directory-clause-answer
returns-in_err-directory-clause-answer c =
    let said = c.in_ok-header.ensures.size in
    let header : header_of c.in_ok-header.header.size c.args.bytes.now ≡ Ok (head c.in_ok-header.header) = subst (λ z. header_of z c.args.bytes.now ≡ Ok (head c.in_ok-header.header)) (sym said) c.in_ok-header.ensures.answer in
    let p = err_from_is_err_and c.from_residual-in_err-directory.result c.from_residual-in_err-directory.ensures.1 in
    let none = c.in_ok-marks.ensures.none in
    let one = c.in_ok-difat.ensures.marked [] none in
    let difat : difat_of (difat_count c.in_ok-header.header.size c.in_ok-header.header.fat_count) 68 c.in_ok-header.header.size c.args.bytes.now [] ≡ Ok c.in_ok-difat.difat.items =
    ap (λ k. difat_of k 68 c.in_ok-header.header.size c.args.bytes.now []) (sym c.difat_count-count.ensures) ∙ c.in_ok-difat.ensures.answer [] none in
    let two = c.in_ok-sectors.ensures.marked c.in_ok-difat.difat.items one in
    let fat : fat_sectors_of c.in_ok-header.header.fat_count 0 c.in_ok-header.header.size c.args.bytes.now c.in_ok-difat.difat.items c.in_ok-difat.difat.items ≡ Ok c.in_ok-sectors.sectors.items =
    ap (λ l. fat_sectors_of c.in_ok-header.header.fat_count 0 c.in_ok-header.header.size c.args.bytes.now l c.in_ok-difat.difat.items) (sym c.deref.ensures.value) ∙ c.in_ok-sectors.ensures.answer c.in_ok-difat.difat.items one in
    let words : c.in_ok-words.words.items ≡ table_words c.in_ok-header.header.size c.args.bytes.now c.in_ok-sectors.sectors.items =
    c.in_ok-words.ensures.words ∙ ap (table_words c.in_ok-header.header.size c.args.bytes.now) c.deref-2.ensures.value in
    let here = rw (c.new-fat.ensures.size, c.new-fat.ensures.words, c.new-fat.ensures.sectors) at c.in_err-directory.ensures.answer (c.in_ok-difat.difat.items ++ c.in_ok-sectors.sectors.items) two in
    rw (p.1, p.2) (subst (λ z. Fails c.in_err-directory.field-0.0 (tables_of z c.args.bytes.now)) said (tables_directory_stops c.in_ok-header.header.size c.args.bytes.now (head c.in_ok-header.header) c.in_ok-difat.difat.items c.in_ok-sectors.sectors.items c.in_ok-words.words.items _ _ c.in_err-directory.field-0.0 header difat fat words (grind (arith, common_steps)) refl here))

pub returns-clause-answer : goal.returns-clause-answer
returns-clause-answer c =
    let said = c.in_ok-header.ensures.size in
    let header : header_of c.in_ok-header.header.size c.args.bytes.now ≡ Ok (head c.in_ok-header.header) = subst (λ z. header_of z c.args.bytes.now ≡ Ok (head c.in_ok-header.header)) (sym said) c.in_ok-header.ensures.answer in
    let none = c.in_ok-marks.ensures.none in
    let one = c.in_ok-difat.ensures.marked [] none in
    let difat : difat_of (difat_count c.in_ok-header.header.size c.in_ok-header.header.fat_count) 68 c.in_ok-header.header.size c.args.bytes.now [] ≡ Ok c.in_ok-difat.difat.items =
    ap (λ k. difat_of k 68 c.in_ok-header.header.size c.args.bytes.now []) (sym c.difat_count-count.ensures) ∙ c.in_ok-difat.ensures.answer [] none in
    let two = c.in_ok-sectors.ensures.marked c.in_ok-difat.difat.items one in
    let fat : fat_sectors_of c.in_ok-header.header.fat_count 0 c.in_ok-header.header.size c.args.bytes.now c.in_ok-difat.difat.items c.in_ok-difat.difat.items ≡ Ok c.in_ok-sectors.sectors.items =
    ap (λ l. fat_sectors_of c.in_ok-header.header.fat_count 0 c.in_ok-header.header.size c.args.bytes.now l c.in_ok-difat.difat.items) (sym c.deref.ensures.value) ∙ c.in_ok-sectors.ensures.answer c.in_ok-difat.difat.items one in
    let words : c.in_ok-words.words.items ≡ table_words c.in_ok-header.header.size c.args.bytes.now c.in_ok-sectors.sectors.items =
    c.in_ok-words.ensures.words ∙ ap (table_words c.in_ok-header.header.size c.args.bytes.now) c.deref-2.ensures.value in
    let here = rw (c.new-fat.ensures.size, c.new-fat.ensures.words, c.new-fat.ensures.sectors) at c.in_ok-directory.ensures.answer (c.in_ok-difat.difat.items ++ c.in_ok-sectors.sectors.items) two in
    rw (c.new-fat.ensures.words, c.new-fat.ensures.sectors) (tables_moved c.in_ok-header.header.size _ c.args.bytes.now _ said (tables_ok c.in_ok-header.header.size c.args.bytes.now (head c.in_ok-header.header) c.in_ok-difat.difat.items c.in_ok-sectors.sectors.items c.in_ok-words.words.items c.in_ok-directory.directory.items _ _ header difat fat words (grind (arith, common_steps)) refl here))

pub returns-clause-marks : goal.returns-clause-marks
returns-clause-marks c =
    let none = c.in_ok-marks.ensures.none in
    let one = c.in_ok-difat.ensures.marked [] none in
    let two = c.in_ok-sectors.ensures.marked c.in_ok-difat.difat.items one in
    rw c.new-fat.ensures.sectors (c.in_ok-directory.ensures.marked (c.in_ok-difat.difat.items ++ c.in_ok-sectors.sectors.items) two)
