use Rattle.std.proofs.Common.{ℕ, Option, Some, subst}
use Rattle.std.specs.Prelude.{◌≡◌, IfNone, IfSome, slice_get}
use Rattle.schema_dm.specs.Drafts.{IsRefusedFor, IsSound}
use Rattle.schema_dm.specs.declared.draft.TableDraft.{TableDraft}
use Rattle.schema_dm.specs.declared.refusal.SchemaError.{SchemaError}
use Rattle.schema_dm.proofs.Lawful.{few_columns, lawful_schema}
use Rattle.schema_dm.proofs.Refusals.{lawful_by_parts}
use Rattle.schema_dm.proofs.schema.Schema.of_drafts.Goals as goal

pub returns-in-Some-clause-refused : goal.returns-in-Some-clause-refused
returns-in-Some-clause-refused c = subst (λ drafts. IsRefusedFor drafts c.in-Some.error) c.as_slice.ensures c.in-Some.ensures.refused

pub returns-in-Some-2-clause-refused : goal.returns-in-Some-2-clause-refused
returns-in-Some-2-clause-refused c =
    subst (λ drafts. IsRefusedFor drafts c.in-Some-2.error) c.in_ok-indexed.ensures
    (subst (λ (told : Option SchemaError). IfSome told (IsRefusedFor c.in_ok-indexed.indexed)) c.in-Some-2.is c.in_ok-first_error.ensures.refused)

pub tables_of-requires-clause-few_columns : goal.tables_of-requires-clause-few_columns
tables_of-requires-clause-few_columns c =
    few_columns c.in_ok-indexed.indexed
    (lawful_by_parts c.as_slice.result.now c.args.drafts c.in_ok-indexed.indexed c.as_slice.ensures c.in_ok-indexed.ensures c.in-None.ensures.some c.in-None.ensures.few
    (subst (λ (told : Option SchemaError). IfNone told ((place : ℕ) (draft : TableDraft) → slice_get c.in_ok-indexed.indexed place ≡ Some draft → IsSound c.in_ok-indexed.indexed place draft)) c.in-None-2.is
    c.in_ok-first_error.ensures.sound))

pub invariant_of-result : goal.invariant_of-result
invariant_of-result c =
    rw c.in_ok-tables_of.ensures
    (lawful_schema c.in_ok-indexed.indexed
    (lawful_by_parts c.as_slice.result.now c.args.drafts c.in_ok-indexed.indexed c.as_slice.ensures c.in_ok-indexed.ensures c.in-None.ensures.some c.in-None.ensures.few
    (subst (λ (told : Option SchemaError). IfNone told ((place : ℕ) (draft : TableDraft) → slice_get c.in_ok-indexed.indexed place ≡ Some draft → IsSound c.in_ok-indexed.indexed place draft)) c.in-None-2.is
    c.in_ok-first_error.ensures.sound)))
