use Rattle.std.proofs.Common.{◌∙◌, List, ap, map, subst, sym}
use Rattle.algebra_dm.specs.Nodes.{IsWellFormed}
use Rattle.schema_dm.specs.declared.table.Table.{Table}
use Rattle.translate_dm.specs.Steps.{IsMade}
use Rattle.translate_dm.specs.Translation.{Translates}
use Rattle.translate_dm.proofs.FormedLemmas.{pattern_formed}
use Rattle.translate_dm.proofs.translation.translate.Goals as goal

pub translated-requires : goal.translated-requires
translated-requires c = record {
  ready = record {
    schema = c.tables.ensures.valid;
    named = c.in_ok-names.ensures ∙ c.in_ok-table_names.ensures ∙ ap (map (λ (t : Table). t.name)) c.tables.ensures.value;
    marker = c.in_ok-class.ensures;
  };
  formed = c.requires;
}

pub returns-clause-pattern : goal.returns-clause-pattern
returns-clause-pattern c = (subst (IsMade c.args.mode c.args.base.now c.args.schema.now c.args.query.now) (sym c.into_inner.ensures) c.in_ok-made.ensures).0

pub returns-clause-only : goal.returns-clause-only
returns-clause-only c =
    let is = (subst (IsMade c.args.mode c.args.base.now c.args.schema.now c.args.query.now) (sym c.into_inner.ensures) c.in_ok-made.ensures).0 in
    λ other h. c.queries_are_kept.ensures.one c.args.mode c.args.schema.now c.args.query.now other c.into_inner.result c.tables.ensures.valid h is

pub returns-clause-formed : goal.returns-clause-formed
returns-clause-formed c =
    let is = (subst (IsMade c.args.mode c.args.base.now c.args.schema.now c.args.query.now) (sym c.into_inner.ensures) c.in_ok-made.ensures).0 in
    pattern_formed c.args.mode c.args.base.now c.args.schema.now c.tables.ensures.valid c.args.query.now c.into_inner.result c.requires.faultless is

pub returns-clause-keeps : goal.returns-clause-keeps
returns-clause-keeps c =
    let is = subst (IsMade c.args.mode c.args.base.now c.args.schema.now c.args.query.now) (sym c.into_inner.ensures) c.in_ok-made.ensures in
    λ D db e keys. c.queries_are_kept.ensures.keeps c.args.mode D c.args.query.now c.into_inner.result db keys
    (subst (λ (ts : List Table). IsWellFormed ts c.args.query.now) (sym e) c.requires) is.1
    (subst (λ (ts : List Table). Translates c.args.mode c.args.base.now ts c.args.query.now c.into_inner.result) (sym e) is.0)
