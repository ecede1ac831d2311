use Rattle.std.proofs.Common.{◌∙◌, ap}
use Rattle.schema_dm.specs.declared.table.Table.{Table}
use Rattle.table_translation_dm.proofs.RelationLemmas.{key_target}
use Rattle.table_translation_dm.proofs.relations.key_at.Goals as goal

pub returns-clause-target : goal.returns-clause-target
returns-clause-target c = key_target c.args.tables.now c.requires.schema c.args.place c.requires.place c.args.number c.requires.number c.as_slice.result.now c.index-as_slice-number.result
    (c.as_slice.ensures ∙ ap (λ (t : Table). t.foreign) c.table_at.ensures) c.index-as_slice-number.is
