use Rattle.std.proofs.Common.{◌≡◌, ◌≤◌, ◌<◌, List, Option, get_or, length, subst}
use Rattle.std.specs.Prelude.{IfNone, IfSome}
use Rattle.schema_dm.specs.Drafts.{Holds, IsSound, NoneEarlier}
use Rattle.schema_dm.specs.declared.draft.TableDraft.{TableDraft}
use Rattle.schema_dm.specs.declared.refusal.SchemaCause.{SchemaCause}
use Rattle.schema_dm.proofs.FirstTable.{refused_here, sound_so_far, sound_throughout}
use Rattle.schema_dm.proofs.verdict.first_error.Goals as goal

pub returns-in-Some-clause-refused : goal.returns-in-Some-clause-refused
returns-in-Some-clause-refused c =
    let below : c.loop-place.place < length c.args.drafts.now = subst (λ (ds : List TableDraft). c.loop-place.place < length ds) c.as_slice-draft-items.ensures c.loop-place-test.true in
    let is : c.draft-item.result ≡ get_or c.args.drafts.now c.loop-place.place c.draft-item.result =
    subst (λ (ds : List TableDraft). c.draft-item.result ≡ get_or ds c.loop-place.place c.draft-item.result) c.as_slice-draft-items.ensures c.draft-item.is in
    refused_here c.args.drafts.now c.loop-place.place c.draft-item.result below is c.loop-place.invariant c.in-Some.cause c.requires.some c.requires.few
    (subst (λ (told : Option SchemaCause). IfSome told (λ cause. Holds cause c.args.drafts.now c.loop-place.place c.draft-item.result)) c.in-Some.is c.in_ok-first_cause.ensures.holds)
    (subst (λ (told : Option SchemaCause). IfSome told (λ cause. NoneEarlier cause c.args.drafts.now c.loop-place.place c.draft-item.result)) c.in-Some.is c.in_ok-first_cause.ensures.first)

pub loop-place-preserved : goal.loop-place-preserved
loop-place-preserved c =
    let below : c.loop-place.place < length c.args.drafts.now = subst (λ (ds : List TableDraft). c.loop-place.place < length ds) c.as_slice-draft-items.ensures c.loop-place-test.true in
    let is : c.draft-item.result ≡ get_or c.args.drafts.now c.loop-place.place c.draft-item.result =
    subst (λ (ds : List TableDraft). c.draft-item.result ≡ get_or ds c.loop-place.place c.draft-item.result) c.as_slice-draft-items.ensures c.draft-item.is in
    sound_so_far c.args.drafts.now c.loop-place.place c.draft-item.result below is c.loop-place.invariant
    (subst (λ (told : Option SchemaCause). IfNone told (IsSound c.args.drafts.now c.loop-place.place c.draft-item.result)) c.in-None.is c.in_ok-first_cause.ensures.sound)

pub returns-clause-sound : goal.returns-clause-sound
returns-clause-sound c =
    sound_throughout c.args.drafts.now c.loop-place.place (subst (λ (ds : List TableDraft). length ds ≤ c.loop-place.place) c.as_slice-draft-items.ensures c.loop-place-test.false) c.loop-place.invariant
