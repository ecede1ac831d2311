use Rattle.std.proofs.Common.{subst}
use Rattle.schema_dm.specs.declared.table.Table.{Table}
use Rattle.table_patterns_dm.specs.TablePatterns.{AreAttributesOf}
use Rattle.table_translation_dm.proofs.tables.table_pattern.Goals as goal

pub pattern_with-requires-clause-attributes : goal.pattern_with-requires-clause-attributes
pattern_with-requires-clause-attributes c =
    rw c.as_slice.ensures (subst (λ (t : Table). AreAttributesOf t c.in_ok-attributes.attributes) c.table_of-table.ensures c.in_ok-attributes.ensures)

pub returns : goal.returns
returns c = c.pattern_with.ensures
