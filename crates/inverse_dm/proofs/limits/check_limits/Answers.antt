use Rattle.std.proofs.Common.{arith}
use Rattle.inverse_dm.proofs.MadeLimits.{long_back, long_made, many_back, wide_back, wide_made}
use Rattle.inverse_dm.proofs.limits.check_limits.Goals as goal

pub returns-then-has_wide_table : goal.returns-then-has_wide_table
returns-then-has_wide_table c = (
  (λ many. let above = many_back c.args.tables.now many in omega arith),
  wide_made c.args.tables.now (c.has_wide_table.ensures.0 c.if-has_wide_table.true),
)

pub returns-then-has_long_table : goal.returns-then-has_long_table
returns-then-has_long_table c = (
  (λ many. let above = many_back c.args.tables.now many in omega arith),
  (λ wide. cc (c.has_wide_table.ensures.1 (wide_back c.args.tables.now wide), c.if-has_wide_table.false)),
  long_made c.args.tables.now (c.has_long_table.ensures.0 c.if-has_long_table.true),
)

pub returns : goal.returns
returns c = record {
  few_tables = λ many. let above = many_back c.args.tables.now many in omega arith;
  few_columns = λ wide. cc (c.has_wide_table.ensures.1 (wide_back c.args.tables.now wide), c.if-has_wide_table.false);
  few_rows = λ long. cc (c.has_long_table.ensures.1 (long_back c.args.tables.now long), c.if-has_long_table.false);
}
