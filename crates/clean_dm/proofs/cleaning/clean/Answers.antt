use Rattle.std.proofs.Common.{subst, sym, List}
use Rattle.clean_dm.specs.Working.{IsUnderWay}
use Rattle.clean_dm.specs.declared.removal.Removal.{Removal}
use Rattle.clean_dm.proofs.OneCleaning.{certificate_of, cleaning_is_largest, one_cleaning, way_at_first}
use Rattle.clean_dm.proofs.KeptLoops.{rows_exist}
use Rattle.clean_dm.proofs.cleaning.clean.Goals as goal

pub remove_repeated-requires : goal.remove_repeated-requires
remove_repeated-requires c =
    let way = way_at_first c.args.database.now c.in_ok-all_rows.field-0 c.in_ok-all_rows.ensures.fits c.in_ok-all_rows.ensures.each in
    record {
      indexed = c.in_ok-indexes.ensures;
      fits = c.in_ok-all_rows.ensures.fits;
      rows = λ t i h. (c.in_ok-all_rows.ensures.each t i).0 h;
      way = subst (λ (removals : List Removal). IsUnderWay c.args.database.now removals c.in_ok-all_rows.field-0) (sym c.new.ensures) way;
    }

pub returns-clause-only : goal.returns-clause-only
returns-clause-only c = λ other h. one_cleaning c.args.database.now other c.remove_dangling.new.cleaning.removals h (record { chain = c.in_ok-remove_dangling.ensures.way.chain; done = c.in_ok-remove_dangling.ensures.done })

pub returns-clause-largest : goal.returns-clause-largest
returns-clause-largest c = cleaning_is_largest c.args.database.now c.remove_dangling.new.cleaning.removals (record { chain = c.in_ok-remove_dangling.ensures.way.chain; done = c.in_ok-remove_dangling.ensures.done })

pub returns-clause-exist : goal.returns-clause-exist
returns-clause-exist c = rows_exist c.args.database.now c.remove_dangling.new.cleaning.removals c.in_ok-all_rows.ensures.fits (certificate_of c.args.database.now c.remove_dangling.new.cleaning.removals (record { chain = c.in_ok-remove_dangling.ensures.way.chain; done = c.in_ok-remove_dangling.ensures.done })).chain
