use Rattle.std.proofs.Common.{◌≡◌, ◌∙◌, ap, subst, sym}
use Rattle.std.proofs.lemmas.Result.{IfOk-weaker}
use Rattle.members_dm.specs.Membership.{NoRepeats}
use Rattle.schema_dm.specs.Naming.{column_names}
use Rattle.schema_dm.specs.declared.table.Table.{Table}
use Rattle.pattern_dm.specs.declared.pattern.Pattern.{Pattern}
use Rattle.query_rows_dm.proofs.EvaluationLemmas.{names_once}
use Rattle.table_patterns_dm.specs.TablePatterns.{IsTablePattern, class_pattern, of_class}
use Rattle.table_translation_dm.specs.Parts.{AreParted}
use Rattle.table_translation_dm.proofs.NamedLemmas.{certain_named, columns_named, others_named}
use Rattle.table_translation_dm.proofs.tables.pattern_of_class.Goals as goal

pub parted_columns-requires : goal.parted_columns-requires
parted_columns-requires c =
    subst (λ (t : Table). NoRepeats (column_names t.columns)) (sym c.table_of-table.ensures) (names_once c.args.schema.now c.requires.schema c.args.place c.requires.place)

pub class_pattern-requires-clause-certain : goal.class_pattern-requires-clause-certain
class_pattern-requires-clause-certain c =
    certain_named c.args.schema.now c.requires.schema c.args.place c.requires.place c.args.mode c.in_ok-columns.columns (subst (λ (t : Table). AreParted c.args.mode t c.in_ok-columns.columns) c.table_of-table.ensures c.in_ok-columns.ensures)

pub class_pattern-requires-clause-others : goal.class_pattern-requires-clause-others
class_pattern-requires-clause-others c =
    others_named c.args.schema.now c.requires.schema c.args.place c.requires.place c.args.mode c.in_ok-columns.columns (subst (λ (t : Table). AreParted c.args.mode t c.in_ok-columns.columns) c.table_of-table.ensures c.in_ok-columns.ensures)

pub class_pattern-requires-clause-attributes : goal.class_pattern-requires-clause-attributes
class_pattern-requires-clause-attributes c = columns_named c.args.schema.now c.requires.schema c.args.place c.requires.place c.args.attributes.now c.requires.attributes

pub returns : goal.returns
returns c =
    let parts = c.in_ok-columns.columns in
    let attributes = c.args.attributes.now in
    let base = c.args.base.now in
    let parted = subst (λ (t : Table). AreParted c.args.mode t parts) c.table_of-table.ensures c.in_ok-columns.ensures in
    IfOk-weaker c.class_pattern.result (λ (p : Pattern). p ≡ class_pattern base c.table_of-table.result.now.name parts.certain parts.others attributes) (IsTablePattern c.args.mode base c.args.schema.now c.args.place)
    (λ p e. of_class c.requires.class parts.certain parts.others attributes parted.certain parted.others c.requires.attributes
    (e ∙ ap (λ (t : Table). class_pattern base t.name parts.certain parts.others attributes) c.table_of-table.ensures))
    c.class_pattern.ensures
