-- Lists with the same tables are beyond the same limits.
use Rattle.std.proofs.Common.{◌≡◌, ℕ, ◌<◌, ◌⊎◌, List, [], ◌∷◌, length, refl, sym, ap, ◌∙◌, subst, inl, inr, arith}
use Rattle.std.specs.List.{AllZip}
use Rattle.std.proofs.lemmas.List.Sorted.{length_permutation}
use Rattle.schema_dm.specs.declared.draft.Column.{Column}
use Rattle.table_csv.specs.Plain.{PlainTable}
use Rattle.members_dm.specs.Membership.{IsIn}
use Rattle.layouts_dm.specs.LayoutTables.{SamePlain}
use Rattle.inverse_dm.specs.Limits.{Exceeds, HasLongTable, HasManyTables, HasWideTable}
use Rattle.inverse_dm.specs.declared.error.InverseError.{InverseError}
use Rattle.inverse_dm.specs.declared.error.InverseError.TheVariants.{NoTables, Unexplained, TwoValues, TwoTables, NoKeyValue, TooManyTables, TooManyColumns, TooManyRows, Memory}

abbrev AreSame : List PlainTable → List PlainTable → Type 0
AreSame tables others = AllZip SamePlain tables others

-- each table stands in the other list too
same_item : (tables others : List PlainTable) → AreSame tables others → (plain : PlainTable) → IsIn plain tables → (other : PlainTable) × IsIn other others × SamePlain plain other
same_item [] others same plain h = absurd h
same_item (x ∷ tables) [] same plain h = absurd same
same_item (x ∷ tables) (y ∷ others) same plain (inl is) = (y, inl refl, subst (λ (w : PlainTable). SamePlain w y) is same.0)
same_item (x ∷ tables) (y ∷ others) same plain (inr h) = let found = same_item tables others same.1 plain h in (found.0, inr found.1, found.2)

same_count : (tables others : List PlainTable) → AreSame tables others → length tables ≡ length others
same_count [] [] same = refl
same_count [] (y ∷ others) same = absurd same
same_count (x ∷ tables) [] same = absurd same
same_count (x ∷ tables) (y ∷ others) same = let rest = same_count tables others same.1 in omega arith

many_same : (tables others : List PlainTable) → AreSame tables others → HasManyTables tables → HasManyTables others
many_same tables others same h = let count = same_count tables others same in omega arith

wide_same : (tables others : List PlainTable) → AreSame tables others → HasWideTable tables → HasWideTable others
wide_same tables others same h =
    let found = same_item tables others same h.0 h.1 in
    let count : length h.0.shape.columns ≡ length found.0.shape.columns = ap (λ (columns : List Column). length columns) found.2.columns in
    (found.0, found.1, subst (λ (n : ℕ). 256 < n) count h.2)

long_same : (tables others : List PlainTable) → AreSame tables others → HasLongTable tables → HasLongTable others
long_same tables others same h =
    let found = same_item tables others same h.0 h.1 in
    let count : length found.0.rows ≡ length h.0.rows = length_permutation h.0.rows found.0.rows found.2.rows in
    (found.0, found.1, subst (λ (n : ℕ). 4194304 < n) (sym count) h.2)

pub exceeds_same : (error : InverseError) (tables others : List PlainTable) → AreSame tables others → AreSame others tables → Exceeds error tables → Exceeds error others
exceeds_same NoTables tables others same back h = h
exceeds_same (Unexplained place) tables others same back h = h
exceeds_same (TwoValues place) tables others same back h = h
exceeds_same (TwoTables place) tables others same back h = h
exceeds_same (NoKeyValue place) tables others same back h = h
exceeds_same TooManyTables tables others same back h = many_same tables others same h
exceeds_same TooManyColumns tables others same back h = ((λ many. h.0 (many_same others tables back many)), wide_same tables others same h.1)
exceeds_same TooManyRows tables others same back h = (
  (λ many. h.0 (many_same others tables back many)),
  (λ wide. h.1 (wide_same others tables back wide)),
  long_same tables others same h.2,
)
exceeds_same Memory tables others same back h = h

-- ---- one limit counts

-- the limit that tables exceed
abbrev Limit : InverseError → List PlainTable → Type 0
Limit error tables =
    ((error ≡ TooManyTables) × HasManyTables tables)
    ⊎ (((error ≡ TooManyColumns) × (¬ HasManyTables tables) × HasWideTable tables)
    ⊎ ((error ≡ TooManyRows) × (¬ HasManyTables tables) × (¬ HasWideTable tables) × HasLongTable tables))

limit_of : (error : InverseError) (tables : List PlainTable) → Exceeds error tables → Limit error tables
limit_of NoTables tables h = absurd h
limit_of (Unexplained place) tables h = absurd h
limit_of (TwoValues place) tables h = absurd h
limit_of (TwoTables place) tables h = absurd h
limit_of (NoKeyValue place) tables h = absurd h
limit_of TooManyTables tables h = inl (refl, h)
limit_of TooManyColumns tables h = inr (inl (refl, h.0, h.1))
limit_of TooManyRows tables h = inr (inr (refl, h.0, h.1, h.2))
limit_of Memory tables h = absurd h

one_limit : (e f : InverseError) (tables : List PlainTable) → Limit e tables → Limit f tables → e ≡ f
one_limit e f tables (inl h) (inl k) = h.0 ∙ sym k.0
one_limit e f tables (inl h) (inr (inl k)) = absurd (k.1 h.1)
one_limit e f tables (inl h) (inr (inr k)) = absurd (k.1 h.1)
one_limit e f tables (inr (inl h)) (inl k) = absurd (h.1 k.1)
one_limit e f tables (inr (inl h)) (inr (inl k)) = h.0 ∙ sym k.0
one_limit e f tables (inr (inl h)) (inr (inr k)) = absurd (k.2 h.2)
one_limit e f tables (inr (inr h)) (inl k) = absurd (h.1 k.1)
one_limit e f tables (inr (inr h)) (inr (inl k)) = absurd (h.2 k.2)
one_limit e f tables (inr (inr h)) (inr (inr k)) = h.0 ∙ sym k.0

pub exceeds_one : (e f : InverseError) (tables : List PlainTable) → Exceeds e tables → Exceeds f tables → e ≡ f
exceeds_one e f tables h k = one_limit e f tables (limit_of e tables h) (limit_of f tables k)
