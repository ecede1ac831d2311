use Rattle.std.proofs.Common.{◌≡◌, ◌∙◌, List, ap, subst, sym}
use Rattle.std.proofs.lemmas.Result.{IfOk-weaker}
use Rattle.schema_dm.specs.Relations.{IsBinaryRelation}
use Rattle.schema_dm.specs.declared.table.Table.{Table}
use Rattle.pattern_dm.specs.declared.pattern.Pattern.{Pattern}
use Rattle.table_patterns_dm.specs.TablePatterns.{IsTablePattern, of_relation, relation_pattern}
use Rattle.table_translation_dm.proofs.NamedLemmas.{columns_named}
use Rattle.table_translation_dm.proofs.RelationLemmas.{counts_binary}
use Rattle.table_translation_dm.proofs.tables.pattern_with.Goals as goal

pub pattern_of_class-requires-clause-class : goal.pattern_of_class-requires-clause-class
pattern_of_class-requires-clause-class c = rw c.in-None.is at c.sides_in.ensures.none

pub relation_pattern-requires-clause-relation : goal.relation_pattern-requires-clause-relation
relation_pattern-requires-clause-relation c =
    subst (λ (ts : List Table). IsBinaryRelation ts c.args.place c.in-Some.sides) (sym c.tables.ensures.value) (counts_binary c.args.mode c.args.schema.now c.args.place c.in-Some.sides (rw c.in-Some.is at c.sides_in.ensures.found))

pub relation_pattern-requires-clause-named : goal.relation_pattern-requires-clause-named
relation_pattern-requires-clause-named c = columns_named c.args.schema.now c.requires.schema c.args.place c.requires.place c.args.attributes.now c.requires.attributes

pub returns-in-None : goal.returns-in-None
returns-in-None c = c.pattern_of_class.ensures

pub returns-in-Some : goal.returns-in-Some
returns-in-Some c =
    let tables = c.args.schema.now in
    let sides = c.in-Some.sides in
    let attributes = c.args.attributes.now in
    let base = c.args.base.now in
    IfOk-weaker c.relation_pattern.result (λ (p : Pattern). p ≡ relation_pattern base c.tables.result.now c.args.place sides attributes) (IsTablePattern c.args.mode base tables c.args.place)
    (λ p e. of_relation sides (rw c.in-Some.is at c.sides_in.ensures.found) attributes c.requires.attributes
    (e ∙ ap (λ (ts : List Table). relation_pattern base ts c.args.place sides attributes) c.tables.ensures.value))
    c.relation_pattern.ensures
