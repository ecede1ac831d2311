use Rattle.std.proofs.lemmas.Result.{IfOk-weaker}
use Rattle.pattern_dm.specs.declared.pattern.Pattern.{Pattern}
use Rattle.query_rows_dm.proofs.EvaluationLemmas.{below, name_in}
use Rattle.table_patterns_dm.specs.TablePatterns.{IsTablePattern}
use Rattle.translate_dm.specs.Translation.{IsNamedPattern}
use Rattle.translate_dm.proofs.MadeLemmas.{named_made}
use Rattle.translate_dm.proofs.translation.table.Goals as goal

pub place_of-place-requires : goal.place_of-place-requires
place_of-place-requires c = name_in c.args.context.now.schema.now c.args.context.now.names.now c.args.name.now c.requires.ready.named c.requires.there

pub table_pattern-requires-clause-place : goal.table_pattern-requires-clause-place
table_pattern-requires-clause-place c = below c.args.context.now.names.now c.args.context.now.schema.now c.place_of-place.result c.args.name.now c.requires.ready.named c.place_of-place.ensures

pub returns : goal.returns
returns c =
    let at = c.args.context.now in
    let place = c.place_of-place.result in
    let l = below at.names.now at.schema.now place c.args.name.now c.requires.ready.named c.place_of-place.ensures in
    IfOk-weaker c.table_pattern.result (λ (p : Pattern). IsTablePattern at.mode at.base.now at.schema.now place p) (λ (p : Pattern). IsNamedPattern at.mode at.base.now at.schema.now c.args.name.now p)
    (λ p h. named_made at.mode at.base.now at.schema.now at.names.now c.args.name.now place p c.requires.ready.named l c.place_of-place.ensures h) c.table_pattern.ensures
