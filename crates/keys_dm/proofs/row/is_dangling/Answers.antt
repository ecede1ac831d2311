use Rattle.std.proofs.Common.{◌≡◌, ◌∙◌, true, length, sym}
use Rattle.std.specs.Bool.{Decides}
use Rattle.std.specs.Prelude.{◌==◌}
use Rattle.std.proofs.lemmas.Bool.Decides.{Decides-eqb}
use Rattle.table_csv.specs.Databases.{rows_at}
use Rattle.keys_dm.proofs.RowTests.{dangling_by_entries}
use Rattle.keys_dm.proofs.row.is_dangling.Goals as goal

pub returns-then-not-has_null_at : goal.returns-then-not-has_null_at
returns-then-not-has_null_at c =
    let found = dangling_by_entries (rows_at c.args.database.now.rows c.args.key.now.target) c.args.key.now c.args.row.now c.referenced.result.now c.referenced.ensures
    (λ h. let told : c.has_null_at.result ≡ true = c.has_null_at.ensures.1 h in cc) in
    let test : Decides (length c.referenced.result.now == 0) (length c.referenced.result.now ≡ 0) = Decides-eqb (length c.referenced.result.now) 0 in (
      (λ h. found.0 (test.0 (sym c.is_empty.ensures ∙ h))),
      (λ d. c.is_empty.ensures ∙ test.1 (found.1 d)),
    )
