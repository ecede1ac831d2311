use Rattle.std.proofs.Common.{◌≡◌, ◌∙◌, ap, arith, true, ℕ}
use Rattle.std.specs.Prelude.{None}
use Rattle.members_dm.specs.Membership.{IsIn}
use Rattle.table_csv.specs.Cells.{cells_at}
use Rattle.table_csv.specs.Databases.{rows_at}
use Rattle.keys_dm.specs.KeyCells.{row_at}
use Rattle.keys_dm.specs.declared.index.Entry.{Entry}
use Rattle.clean_dm.proofs.CheckingLemmas.{dangles_with, first_with, lone_with}
use Rattle.clean_dm.proofs.checking.dangles_from.Goals as goal

abbrev no_entry : Entry
no_entry = record { hash = 0; row = 0 }

pub group_gone_from-requires-clause-first : goal.group_gone_from-requires-clause-first
group_gone_from-requires-clause-first c =
    let key = c.args.key.now in
    let with = first_with (rows_at c.args.database.now.rows key.target) key.target_columns (cells_at key.columns c.args.row.now) c.referenced-entries.result.now no_entry c.in-len1-up.len_at_least c.referenced-entries.ensures in
    let below = with.0 in
    let many = c.requires.many in
    rw c.position-first.ensures (omega arith)

pub returns-in-empty-clause-from : goal.returns-in-empty-clause-from
returns-in-empty-clause-from c =
    let whole : ¬ IsIn None (cells_at c.args.key.now.columns c.args.row.now) = λ null. let told : c.has_null_at.result ≡ true = c.has_null_at.ensures.1 null in let no = c.if-has_null_at.false in cc in
    lone_with c.args.database.now c.args.removals.now c.args.key.now c.args.row.now c.referenced-entries.result.now c.in-empty.len_below whole c.referenced-entries.ensures

pub returns-in-len1-up-clause-from : goal.returns-in-len1-up-clause-from
returns-in-len1-up-clause-from c =
    let whole : ¬ IsIn None (cells_at c.args.key.now.columns c.args.row.now) = λ null. let told : c.has_null_at.result ≡ true = c.has_null_at.ensures.1 null in let no = c.if-has_null_at.false in cc in
    let key = c.args.key.now in
    let rows = rows_at c.args.database.now.rows key.target in
    let with = first_with rows key.target_columns (cells_at key.columns c.args.row.now) c.referenced-entries.result.now no_entry c.in-len1-up.len_at_least c.referenced-entries.ensures in
    let same : cells_at key.target_columns (row_at rows c.position-first.result) ≡ cells_at key.columns c.args.row.now = ap (λ (p : ℕ). cells_at key.target_columns (row_at rows p)) c.position-first.ensures ∙ with.1 in
    dangles_with c.args.database.now c.args.removals.now key c.args.row.now (cells_at key.target_columns (row_at rows c.position-first.result)) c.group_gone_from.result whole same c.group_gone_from.ensures.from
