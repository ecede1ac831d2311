use Rattle.members_dm.proofs.AnyLemmas.{none_at_all, none_so_far}
use Rattle.schema_dm.specs.Drafts.{ReferencesNoKey, target_of}
use Rattle.schema_dm.specs.declared.draft.ForeignDraft.{ForeignDraft}
use Rattle.schema_dm.proofs.keys.any_no_key.Goals as goal

pub loop-key-preserved : goal.loop-key-preserved
loop-key-preserved c =
    none_so_far (λ (key : ForeignDraft). ReferencesNoKey key (target_of c.args.drafts.now key)) c.args.keys.now c.loop-key.key-index c.key-item.result c.loop-key-test.true c.key-item.is
    (λ holds. (let yes = c.in_ok-references_no_key.ensures.1 holds in let other = c.if-branch.false in cc)) c.loop-key.invariant

pub returns : goal.returns
returns c = (
  (λ other. cc),
  (λ found. absurd (none_at_all (λ (key : ForeignDraft). ReferencesNoKey key (target_of c.args.drafts.now key)) c.args.keys.now c.loop-key.key-index c.loop-key-test.false c.loop-key.invariant found)),
)
