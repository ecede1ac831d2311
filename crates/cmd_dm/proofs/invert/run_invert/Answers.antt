use Rattle.std.proofs.Common.{◌≡◌, ap, subst}
use Rattle.std.specs.Prelude.{map}
use Rattle.std.proofs.lemmas.Result.{err_from_is_err_and}
use Rattle.outside_dm.specs.Storing.{Batch}
use Rattle.inverse_dm.specs.Answers.{StandsWithin}
use Rattle.cmd_dm.specs.Ending.{Ends, result_status, to_shelf}
use Rattle.cmd_dm.specs.Folder.{entry_of}
use Rattle.cmd_dm.specs.Invert.{files_work}
use Rattle.cmd_dm.specs.Questions.{AreInverse}
use Rattle.cmd_dm.specs.Script.{write}
use Rattle.cmd_dm.proofs.Endings.{ends_after, ends_memory}
use Rattle.cmd_dm.proofs.StepLaws.{ends_without, inverse_gives}
use Rattle.cmd_dm.proofs.invert.run_invert.Goals as goal

pub returns-in_err-base : goal.returns-in_err-base
returns-in_err-base g c =
    let error = err_from_is_err_and c.from_residual.result c.from_residual.ensures.1 in
    λ out. rw (error.1, error.2) (c.in_err-base.ensures _ _ _ out)

pub returns-in_err-triples : goal.returns-in_err-triples
returns-in_err-triples g c =
    let error = err_from_is_err_and c.from_residual-in_err-triples.result c.from_residual-in_err-triples.ensures.1 in
    λ out. rw (error.1, error.2) (ends_after (c.in_ok-base.ensures _ _) (c.in_err-triples.ensures.step _ _ out))

pub returns-in_err-tables : goal.returns-in_err-tables
returns-in_err-tables g c =
    let error = err_from_is_err_and c.from_residual-in_err-tables.result c.from_residual-in_err-tables.ensures.1 in
    let base = c.in_ok-base.base in
    let triples = c.in_ok-triples.triples in
    let told = rw c.as_slice.ensures at c.in_err-tables.ensures.err in
    λ out. rw (error.1, error.2)
    (ends_after (c.in_ok-base.ensures _ _) (ends_after (c.in_ok-triples.ensures.step _) (ends_without base c.in_err-tables.ensures.good triples c.args.stored.now _ told _ to_shelf (λ files. write (files_work files)) out)))

pub returns-in_err-files : goal.returns-in_err-files
returns-in_err-files g c =
    let error = err_from_is_err_and c.from_residual-in_err-files.result c.from_residual-in_err-files.ensures.1 in
    λ out. rw (error.1, error.2) (ends_after (c.in_ok-base.ensures _ _) (ends_after (c.in_ok-triples.ensures.step _) (ends_memory _ _ _ out)))

pub returns : goal.returns
returns g c =
    let base = c.in_ok-base.base in
    let triples = c.in_ok-triples.triples in
    let made : Batch = map entry_of c.in_ok-files.files in
    let stands : StandsWithin base triples c.in_ok-tables.tables = rw c.as_slice.ensures at c.in_ok-tables.ensures.ok in
    let are : AreInverse base triples c.args.stored.now made = record { tables = c.in_ok-tables.tables; stands = stands; of_tables = c.in_ok-files.ensures } in
    let files : map entry_of c.as_slice-2.result.now ≡ made = ap (map entry_of) c.as_slice-2.ensures in
    λ out. ends_after (c.in_ok-base.ensures _ _) (ends_after (c.in_ok-triples.ensures.step _)
    (ends_after (inverse_gives base c.in_ok-tables.ensures.good triples c.args.stored.now made are _ (λ files. write (files_work files)))
    (subst (λ (batch : Batch). Ends to_shelf (write (files_work batch)) (g.S.Shelf.state c.load_graph.new.shelf) (g.S.Shelf.state c.store_work.new.shelf) out out (result_status c.store_work.result)) files (c.store_work.ensures out))))
