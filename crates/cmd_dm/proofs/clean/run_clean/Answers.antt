use Rattle.std.proofs.Common.{◌≡◌, ◌∙◌, ap, subst, ℕ, List, ◌∷◌}
use Rattle.std.specs.Prelude.{map}
use Rattle.std.proofs.lemmas.Result.{err_from_is_err_and}
use Rattle.outside_dm.specs.declared.files.NamedFile.{NamedFile}
use Rattle.table_csv.specs.Cells.{Row}
use Rattle.clean_dm.specs.Removing.{IsLeft}
use Rattle.clean_dm.specs.declared.removal.Removal.{Removal}
use Rattle.clean_dm.proofs.RowsLeft.{rows_fit}
use Rattle.cmd_dm.specs.Clean.{clean_text, clean_work}
use Rattle.cmd_dm.specs.Ending.{Ends, result_status, to_both}
use Rattle.cmd_dm.specs.Folder.{entry_of, schema_file, shape_of}
use Rattle.cmd_dm.specs.Questions.{files_of, left_of, removals_of}
use Rattle.cmd_dm.specs.Script.{Script, Work, ask, write}
use Rattle.cmd_dm.specs.declared.steps.LoadedFolder.{LoadedFolder}
use Rattle.cmd_dm.proofs.Endings.{ends_after, ends_memory, leads_ask}
use Rattle.cmd_dm.proofs.FileLemmas.{shapes_fit, text_columns}
use Rattle.cmd_dm.proofs.Found.{removed_tables}
use Rattle.cmd_dm.proofs.clean.run_clean.Goals as goal

pub returns-in_err-schema : goal.returns-in_err-schema
returns-in_err-schema g c =
    let error = err_from_is_err_and c.from_residual.result c.from_residual.ensures.1 in
    rw (error.1, error.2) (c.in_err-schema.ensures _ _ _)

pub returns-in_err-removals : goal.returns-in_err-removals
returns-in_err-removals g c =
    let error = err_from_is_err_and c.from_residual-in_err-removals.result c.from_residual-in_err-removals.ensures.1 in
    rw (error.1, error.2) (ends_after (c.in_ok-schema.ensures _) (ends_memory _ _ _ _))

pub returns-in_err-rows : goal.returns-in_err-rows
returns-in_err-rows g c =
    let error = err_from_is_err_and c.from_residual-in_err-rows.result c.from_residual-in_err-rows.ensures.1 in
    rw (error.1, error.2) (ends_after (c.in_ok-schema.ensures _) (ends_memory _ _ _ _))

pub returns-in_err-shapes : goal.returns-in_err-shapes
returns-in_err-shapes g c =
    let error = err_from_is_err_and c.from_residual-in_err-shapes.result c.from_residual-in_err-shapes.ensures.1 in
    rw (error.1, error.2) (ends_after (c.in_ok-schema.ensures _) (ends_memory _ _ _ _))

pub returns-in_err-text : goal.returns-in_err-text
returns-in_err-text g c =
    let error = err_from_is_err_and c.from_residual-in_err-text.result c.from_residual-in_err-text.ensures.1 in
    rw (error.1, error.2) (ends_after (c.in_ok-schema.ensures _) (ends_memory _ _ _ _))

pub returns-in_err-files : goal.returns-in_err-files
returns-in_err-files g c =
    let error = err_from_is_err_and c.from_residual-in_err-files.result c.from_residual-in_err-files.ensures.1 in
    rw (error.1, error.2) (ends_after (c.in_ok-schema.ensures _) (ends_memory _ _ _ _))

pub clean_text-requires : goal.clean_text-requires
clean_text-requires g c =
    rw (c.as_slice.ensures, c.tables-tables.ensures.value, c.schema.ensures.value) (removed_tables c.in_ok-schema.field-0.database c.in_ok-removals.removals c.in_ok-removals.ensures.exist)

pub folder_files-requires-clause-columns : goal.folder_files-requires-clause-columns
folder_files-requires-clause-columns g c =
    rw (c.as_slice-2.ensures, c.in_ok-shapes.ensures, c.tables-tables.ensures.value, c.schema.ensures.value) (text_columns c.in_ok-schema.field-0.database.tables c.schema.ensures.fits.schema)

pub folder_files-requires-clause-rows : goal.folder_files-requires-clause-rows
folder_files-requires-clause-rows g c =
    let D = c.in_ok-schema.field-0.database in
    rw (c.as_slice-2.ensures, c.in_ok-shapes.ensures, c.tables-tables.ensures.value, c.schema.ensures.value, c.as_slice-3.ensures)
    (shapes_fit D.tables c.in_ok-rows.rows (rows_fit D (IsLeft c.in_ok-removals.removals) c.in_ok-rows.rows c.schema.ensures.fits c.in_ok-rows.ensures.rows))

pub returns : goal.returns
returns g c =
    let D = c.in_ok-schema.field-0.database in
    let out = c.args.stored.now in
    let loaded : LoadedFolder = c.in_ok-schema.field-0 in
    let removals = c.in_ok-removals.removals in
    let rows = c.in_ok-rows.rows in
    let shapes : c.as_slice-2.result.now ≡ map shape_of D.tables = rw (c.tables-tables.ensures.value, c.schema.ensures.value) at (c.as_slice-2.ensures ∙ c.in_ok-shapes.ensures) in
    let made = rw (shapes, c.as_slice-3.ensures) at c.in_ok-files.ensures in
    let text : c.as_bytes.result.now ≡ clean_text D.tables removals =
    c.as_bytes.ensures.value ∙ rw (c.as_slice.ensures, c.tables-tables.ensures.value, c.schema.ensures.value) at c.in_ok-text.ensures in
    let files : map entry_of c.as_slice-4.result.now ≡ (schema_file out, loaded.schema) ∷ made.0 = ap (map entry_of) c.as_slice-4.ensures ∙ made.2 in
    let stored : List NamedFile = c.as_slice-4.result.now in
    let put : List ℕ = c.as_bytes.result.now in
    let work : ◌≡◌ {A = Work} (record { files = map entry_of stored; text = put }) (clean_work out loaded removals made.0) = λ i. record { files = files i; text = text i } in
    let behind_rows : List (List Row) → Script = λ rows. ask (files_of out (map shape_of D.tables) rows) (λ files. write (clean_work out loaded removals files)) in
    let behind_removals : List Removal → Script = λ removals. ask (left_of D removals) (λ rows. ask (files_of out (map shape_of D.tables) rows) (λ files. write (clean_work out loaded removals files))) in
    ends_after (c.in_ok-schema.ensures _)
    (ends_after (leads_ask (removals_of D) removals behind_removals _ c.in_ok-removals.ensures.cleaned)
    (ends_after (leads_ask (left_of D removals) rows behind_rows _ c.in_ok-rows.ensures.rows)
    (ends_after (leads_ask (files_of out (map shape_of D.tables) rows) made.0 (λ files. write (clean_work out loaded removals files)) _ made.1)
    (subst (λ (w : Work). Ends to_both (write w) (g.S.Shelf.state c.read_folder.new.shelf) (g.S.Shelf.state c.write_work.new.shelf) (g.K.Sink.state c.args.out.now) (g.K.Sink.state c.write_work.new.out) (result_status c.write_work.result))
    work c.write_work.ensures))))
