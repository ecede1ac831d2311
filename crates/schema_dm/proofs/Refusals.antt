-- Drafts are lawful or refused for one error, and not both.
use Rattle.std.proofs.Common.{◌≡◌, ◌⊎◌, ◌∙◌, ℕ, ◌+◌, ◌<◌, ◌≤◌, List, [], ◌∷◌, length, get_or, Some, refl, sym, ap, subst, inl, inr, arith}
use Rattle.std.specs.Prelude.{slice_get, IfErr, IfOk, MatchResult, OnOk, Result, Ok, Err}
use Rattle.std.proofs.lemmas.Bool.{cases_order}
use Rattle.schema_dm.specs.declared.draft.TableDraft.{TableDraft}
use Rattle.schema_dm.specs.declared.refusal.SchemaCause.{SchemaCause}
use Rattle.schema_dm.specs.declared.refusal.SchemaCause.TheVariants.{NoTable, TooManyTables, BadName, NoColumn, TooManyColumns, DuplicateTable, DuplicateColumn, UnknownColumn, UnknownTable, TwoPrimaryKeys, NotAKey, KindMismatch, SameColumnsTwice, NameClash}
use Rattle.schema_dm.specs.declared.refusal.SchemaError.{SchemaError}
use Rattle.schema_dm.specs.declared.refusal.SchemaFault.{SchemaFault}
use Rattle.schema_dm.specs.declared.refusal.SchemaFault.TheVariants.{Bad, Memory}
use Rattle.schema_dm.specs.declared.table.Table.{Table}
use Rattle.schema_dm.specs.Schemas.{IsRefusedWith, schema_of}
use Rattle.schema_dm.specs.Drafts.{Holds, rank, IsFirst, IsSound, IsRefusedFor, without_tables, with_too_many_tables, at_table, AreLawful}

abbrev cause_of_rank : ℕ → SchemaCause
cause_of_rank n =
    get_or (NoTable ∷ TooManyTables ∷ BadName ∷ NoColumn ∷ TooManyColumns ∷ DuplicateTable ∷ DuplicateColumn ∷ UnknownColumn ∷ UnknownTable ∷ TwoPrimaryKeys ∷ NotAKey ∷ KindMismatch ∷ SameColumnsTwice ∷ NameClash ∷ []) n NoTable

cause_of_rank-rank : (cause : SchemaCause) → cause_of_rank (rank cause) ≡ cause
cause_of_rank-rank NoTable = refl
cause_of_rank-rank TooManyTables = refl
cause_of_rank-rank BadName = refl
cause_of_rank-rank NoColumn = refl
cause_of_rank-rank TooManyColumns = refl
cause_of_rank-rank DuplicateTable = refl
cause_of_rank-rank DuplicateColumn = refl
cause_of_rank-rank UnknownColumn = refl
cause_of_rank-rank UnknownTable = refl
cause_of_rank-rank TwoPrimaryKeys = refl
cause_of_rank-rank NotAKey = refl
cause_of_rank-rank KindMismatch = refl
cause_of_rank-rank SameColumnsTwice = refl
cause_of_rank-rank NameClash = refl

rank_injective : (cause other : SchemaCause) → rank cause ≡ rank other → cause ≡ other
rank_injective cause other e = sym (cause_of_rank-rank cause) ∙ ap cause_of_rank e ∙ cause_of_rank-rank other

pub lawful_by_parts : (counted drafts looked_at : List TableDraft) → counted ≡ drafts → looked_at ≡ drafts → 0 < length counted → length counted ≤ 4096
    → ((place : ℕ) (draft : TableDraft) → slice_get looked_at place ≡ Some draft → IsSound looked_at place draft) → AreLawful looked_at
lawful_by_parts counted drafts looked_at same one some few sound =
    let here : counted ≡ looked_at = same ∙ sym one in
    record { some = subst (λ ds. 0 < length ds) here some; few = subst (λ ds. length ds ≤ 4096) here few; sound = sound }

pub lawful_not_refused : (drafts : List TableDraft) (error : SchemaError) → AreLawful drafts → ¬ IsRefusedFor drafts error
lawful_not_refused drafts error lawful (without_tables none cause table) =
    let some : 0 < length drafts = lawful.some in let empty : length drafts ≡ 0 = ap length none in omega arith
lawful_not_refused drafts error lawful (with_too_many_tables many cause table) = let few : length drafts ≤ 4096 = lawful.few in omega arith
lawful_not_refused drafts error lawful (at_table place draft some few table first) = lawful.sound place draft first.stands error.cause first.holds

-- the first cause of the first draft with one is one
first_unique : (drafts : List TableDraft) (cause other : SchemaCause) (place j : ℕ) (draft second : TableDraft) → IsFirst cause drafts place draft → IsFirst other drafts j second → (place ≡ j) × (cause ≡ other)
first_unique drafts cause other place j draft second a b = elim (cases_order place j) [
  | inl same ↦ (
    same,
    elim (cases_order (rank cause) (rank other)) [
      | inl equal ↦ rank_injective cause other equal
      | inr apart ↦ elim apart [
        | inl before ↦ absurd (b.none_earlier cause before (there same (a.holds)))
        | inr after ↦ absurd (a.none_earlier other after (back same (b.holds)))
      ]
    ],
  )
  | inr apart ↦ elim apart [
    | inl before ↦ absurd (b.sound_before place draft before a.stands cause a.holds)
    | inr after ↦ absurd (a.sound_before j second after b.stands other b.holds)
  ]
]
  where
    one : place ≡ j → draft ≡ second
    one same = let both : Some draft ≡ Some second = sym a.stands ∙ ap (slice_get drafts) same ∙ b.stands in cc

    there : place ≡ j → Holds cause drafts place draft → Holds cause drafts j second
    there same h = subst (λ k. Holds cause drafts k second) same (subst (Holds cause drafts place) (one same) h)

    back : place ≡ j → Holds other drafts j second → Holds other drafts place draft
    back same h = subst (λ k. Holds other drafts k draft) (sym same) (subst (Holds other drafts j) (sym (one same)) h)

same_error : (error other : SchemaError) → error.cause ≡ other.cause → error.table ≡ other.table → error ≡ other
same_error error other c t = λ i. record { cause = c i; table = t i }

pub refusal_unique : (drafts : List TableDraft) (error other : SchemaError) → IsRefusedFor drafts error → IsRefusedFor drafts other → error ≡ other
refusal_unique drafts error other (without_tables none c t) (without_tables none' c' t') = same_error error other (c ∙ sym c') (t ∙ sym t')
refusal_unique drafts error other (without_tables none c t) (with_too_many_tables many c' t') = absurd (let empty : length drafts ≡ 0 = ap length none in omega arith)
refusal_unique drafts error other (without_tables none c t) (at_table place draft some few t' first) = absurd (let empty : length drafts ≡ 0 = ap length none in omega arith)
refusal_unique drafts error other (with_too_many_tables many c t) (without_tables none c' t') = absurd (let empty : length drafts ≡ 0 = ap length none in omega arith)
refusal_unique drafts error other (with_too_many_tables many c t) (with_too_many_tables many' c' t') = same_error error other (c ∙ sym c') (t ∙ sym t')
refusal_unique drafts error other (with_too_many_tables many c t) (at_table place draft some few t' first) = absurd (omega arith)
refusal_unique drafts error other (at_table place draft some few t first) (without_tables none c' t') = absurd (let empty : length drafts ≡ 0 = ap length none in omega arith)
refusal_unique drafts error other (at_table place draft some few t first) (with_too_many_tables many c' t') = absurd (omega arith)
refusal_unique drafts error other (at_table place draft some few t first) (at_table j second some' few' t' first') =
    let one = first_unique drafts error.cause other.cause place j draft second first first' in
    same_error error other one.1 (t ∙ ap (λ k. k + 1) one.0 ∙ sym t')

-- ---- the one answer

pub lawful_answer : (drafts : List TableDraft) (answer : Result (List Table) SchemaFault) → IfOk answer (λ tables. tables ≡ schema_of drafts) → IfErr answer (IsRefusedWith drafts) → AreLawful drafts
    → MatchResult answer (λ tables. tables ≡ schema_of drafts) (λ fault. fault ≡ Memory)
lawful_answer drafts (Ok tables) made refused lawful = made
lawful_answer drafts (Err Memory) made refused lawful = refl
lawful_answer drafts (Err (Bad error)) made refused lawful = absurd (lawful_not_refused drafts error lawful refused)

pub refused_answer : (drafts : List TableDraft) (answer : Result (List Table) SchemaFault) → OnOk answer (AreLawful drafts) → IfErr answer (IsRefusedWith drafts) → (error : SchemaError) → IsRefusedFor drafts error
    → MatchResult answer (λ tables. ⊥) (λ fault. (fault ≡ Bad error) ⊎ (fault ≡ Memory))
refused_answer drafts (Ok tables) lawful refused error told = lawful_not_refused drafts error lawful told
refused_answer drafts (Err Memory) lawful refused error told = inr refl
refused_answer drafts (Err (Bad other)) lawful refused error told = inl (ap (λ e. Bad e) (refusal_unique drafts other error refused told))
