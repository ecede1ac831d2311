use Rattle.std.proofs.Common.{◌≡◌, true, false, sym, subst}
use Rattle.table_csv.specs.Databases.{Data, IsDatabase}
use Rattle.bench_dm.specs.Generated.{generated}
use Rattle.bench_dm.proofs.GeneratedRows.{is_database}
use Rattle.bench_dm.proofs.GeneratedKeys.{keeps_keys}
use Rattle.bench_dm.proofs.database.make_database.Goals as goal

pub unreachable-requires : goal.unreachable-requires
unreachable-requires c =
    let whole : ◌≡◌ {A = Data} (record { tables = c.in_ok-schema.schema; rows = c.in_ok-lists.lists }) (generated c.args.n) =
    λ i. record { tables = c.in_ok-schema.ensures i; rows = c.in_ok-lists.ensures i } in
    let none : false ≡ true = c.in-None.ensures.fits.1 (subst IsDatabase (sym whole) (is_database c.args.n c.requires)) in
    cc

pub returns-in_err-schema-clause-fits : goal.returns-in_err-schema-clause-fits
returns-in_err-schema-clause-fits c = is_database c.args.n c.requires

pub returns-in_err-schema-clause-kept : goal.returns-in_err-schema-clause-kept
returns-in_err-schema-clause-kept c = keeps_keys c.args.n

pub returns-in_err-lists-clause-fits : goal.returns-in_err-lists-clause-fits
returns-in_err-lists-clause-fits c = is_database c.args.n c.requires

pub returns-in_err-lists-clause-kept : goal.returns-in_err-lists-clause-kept
returns-in_err-lists-clause-kept c = keeps_keys c.args.n

pub returns-clause-kept : goal.returns-clause-kept
returns-clause-kept c = keeps_keys c.args.n
