use Rattle.std.proofs.Common.{◌≡◌, ◌∙◌, ◌≤◌, List, length, subst}
use Rattle.members_dm.specs.Places.{IsListing}
use Rattle.keys_dm.specs.Adding.{Adds}
use Rattle.keys_dm.specs.Violations.{ViolatesAt}
use Rattle.keys_dm.specs.declared.violation.Violation.{Violation}
use Rattle.keys_dm.proofs.AddingLemmas.{adds_level}
use Rattle.keys_dm.proofs.DatabaseLevels.{all_tables, listed, none_listed}
use Rattle.keys_dm.proofs.OneMatch.{kept_matches}
use Rattle.keys_dm.proofs.database.violations_by.Goals as goal

pub loop-table-preserved : goal.loop-table-preserved
loop-table-preserved c =
    adds_level (ViolatesAt c.args.database.now) c.loop-table.table c.new-found.result c.loop-table.found c.push_of_table.new.found c.loop-table.invariant c.in_ok-push_of_table.ensures

pub returns : goal.returns
returns c =
    let same : c.tables-table-end.result.now ≡ c.args.database.now.tables = c.tables-table-end.ensures.value ∙ c.schema.ensures.value in
    let whole : length c.args.database.now.tables ≤ c.loop-table.table = rw same at c.loop-table-test.false in
    let adds = all_tables c.args.database.now c.loop-table.table c.new-found.result c.loop-table.found whole c.loop-table.invariant in
    let listing : IsListing (ViolatesAt c.args.database.now) c.loop-table.found =
    listed c.args.database.now c.loop-table.found (subst (λ (xs : List Violation). Adds (ViolatesAt c.args.database.now) xs c.loop-table.found) c.new-found.ensures adds) in
    let none = none_listed c.args.database.now c.loop-table.found listing in
    record {
      listed = listing;
      kept = none;
      matched = λ empty. kept_matches c.args.database.now c.schema.ensures.fits.schema (none.0 empty);
    }
