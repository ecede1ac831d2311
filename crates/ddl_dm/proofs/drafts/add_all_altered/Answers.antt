use Rattle.std.proofs.Common.{◌∙◌, List, [], ap, map, sym, take}
use Rattle.schema_dm.specs.declared.draft.TableDraft.{TableDraft}
use Rattle.ddl_dm.proofs.Altering.{all_drafts, altered_more, own_with, same_names}
use Rattle.ddl_dm.proofs.drafts.add_all_altered.Goals as goal

pub loop-statement-init : goal.loop-statement-init
loop-statement-init c = c.requires.own ∙ sym (own_with [] c.args.statements.now)

pub add_altered-requires : goal.add_altered-requires
add_altered-requires c =
    c.requires.created ∙ sym (same_names (take c.loop-statement.statement-index c.args.statements.now) [] c.args.statements.now)
    ∙ ap (λ (drafts : List TableDraft). map (λ (draft : TableDraft). draft.name) drafts) (sym c.loop-statement.invariant)

pub loop-statement-preserved : goal.loop-statement-preserved
loop-statement-preserved c =
    altered_more c.args.statements.now c.loop-statement.statement-index c.statement-item.result c.loop-statement.drafts.items c.add_altered.new.drafts.items c.loop-statement-test.true
    c.statement-item.is c.loop-statement.invariant c.in_ok-add_altered.ensures

pub returns : goal.returns
returns c = all_drafts c.args.statements.now c.loop-statement.statement-index c.loop-statement.drafts.items c.loop-statement-test.false c.loop-statement.invariant
