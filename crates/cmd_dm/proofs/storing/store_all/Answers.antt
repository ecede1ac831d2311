use Rattle.std.proofs.lemmas.Result.{err_from_is_err_and}
use Rattle.outside_dm.proofs.Storing.{Stored-turn, Stores-cut_at}
use Rattle.cmd_dm.specs.Folder.{entry_of}
use Rattle.cmd_dm.proofs.storing.store_all.Goals as goal

pub returns-in_err-store : goal.returns-in_err-store
returns-in_err-store g c =
    let error = err_from_is_err_and c.from_residual.result c.from_residual.ensures.1 in
    rw (error.1, error.2)
    (Stores-cut_at entry_of c.args.files.now c.loop-file.file-index c.file-item.result c.loop-file-test.true c.file-item.is
    c.as_str.ensures.bytes c.as_slice.ensures c.loop-file.invariant c.in_err-store.ensures.kept _ c.in_err-store.ensures.ends)

pub loop-file-preserved : goal.loop-file-preserved
loop-file-preserved g c =
    Stored-turn entry_of c.args.files.now c.loop-file.file-index c.file-item.result c.loop-file-test.true c.file-item.is
    c.as_str.ensures.bytes c.as_slice.ensures c.loop-file.invariant c.in_ok-store.ensures.kept c.in_ok-store.ensures.ends
