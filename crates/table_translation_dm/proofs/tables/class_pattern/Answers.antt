use Rattle.std.proofs.Common.{◌≡◌, ◌∙◌, ap}
use Rattle.std.proofs.lemmas.Result.{IfOk-weaker}
use Rattle.pattern_dm.specs.declared.pattern.Pattern.{Pattern}
use Rattle.pattern_dm.specs.declared.pattern.Pattern.TheVariants as patterns
use Rattle.keeping_dm.specs.Guards.{same_names}
use Rattle.table_patterns_dm.specs.TablePatterns.{class_pattern, type_triple, with_columns, with_optional}
use Rattle.table_translation_dm.proofs.tables.class_pattern.Goals as goal

pub with_columns-requires : goal.with_columns-requires
with_columns-requires c = rw c.as_slice.ensures c.requires.certain

pub with_optional-requires : goal.with_optional-requires
with_optional-requires c = rw c.as_slice-2.ensures c.requires.others

pub returns : goal.returns
returns c =
    let base = c.args.base.now in
    let table = c.args.table.now in
    let parts = c.args.columns.now in
    let attributes = c.args.attributes.now in
    let joined : c.in_ok-certain.certain ≡ with_columns base table (type_triple base table) parts.certain = c.in_ok-certain.ensures ∙ (λ i. with_columns base table (c.in_ok-row.ensures i) (c.as_slice.ensures i)) in
    let all : c.in_ok-all.all ≡ with_optional base table (with_columns base table (type_triple base table) parts.certain) parts.others = c.in_ok-all.ensures ∙ (λ i. with_optional base table (joined i) (c.as_slice-2.ensures i)) in
    IfOk-weaker c.projected.result (λ (p : Pattern). p ≡ patterns.Select c.in_ok-all.all (same_names attributes)) (λ (p : Pattern). p ≡ class_pattern base table parts.certain parts.others attributes)
    (λ p e. e ∙ ap (λ (q : Pattern). patterns.Select q (same_names attributes)) all) c.projected.ensures
