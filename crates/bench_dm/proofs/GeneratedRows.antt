-- The rows of the benchmark's database are such that its columns allow.
use Rattle.std.proofs.Common.{◌≡◌, ◌∙◌, ◌+◌, ◌*◌, ◌/◌, ◌%◌, ◌<◌, ◌≤◌, ◌^◌, ℕ, zero, suc, Bool, true, false, cond, List, [], ◌∷◌, ◌++◌, None, length, get_or, refl, sym, ap, inl, inr, arith, All}
use Rattle.std.specs.Prelude.{FitsSigned, codes, pos, ◌==◌}
use Rattle.std.specs.Int.{w64}
use Rattle.std.proofs.lemmas.Bool.{cases_lt}
use Rattle.std.proofs.lemmas.List.{get_or_append_left, length_push, map_push}
use Rattle.std.proofs.lemmas.List.Elements.{All-nil, All-push, All-same}
use Rattle.members_dm.specs.InOrder.{positions_below}
use Rattle.value_dm.specs.declared.kind.Kind.{Kind}
use Rattle.value_dm.specs.declared.kind.Kind.TheVariants.{Integer, Text}
use Rattle.schema_dm.specs.declared.draft.Column.{Column}
use Rattle.schema_dm.specs.Naming.{Name}
use Rattle.table_csv.specs.Cells.{AreRowsOf, Cell, IsCellOf, IsRowOf, Row}
use Rattle.table_csv.specs.Databases.{IsDatabase}
use Rattle.bench_dm.specs.Tables.{column, dept, member, note, person}
use Rattle.bench_dm.specs.Rows.{dept_row, integer, member_row, note_row, numbered, person_row, rows_to}
use Rattle.bench_dm.specs.Generated.{departments, generated}
use Rattle.bench_dm.proofs.AcceptedDrafts.{are_schema}
use Rattle.bench_dm.proofs.Texts.{AreLetters, text_numbered}

-- ---- rows by their numbers

-- one row more
pub rows-more : (row : ℕ → Row) (last : ℕ) → rows_to row (suc last) ≡ rows_to row last ++ row (last + 1) ∷ []
rows-more row last = map_push (λ k. row (k + 1)) (positions_below last) last

pub rows-next : (row : ℕ → Row) (last : ℕ) → rows_to row (last + 1) ≡ rows_to row last ++ row (last + 1) ∷ []
rows-next row last = let one : last + 1 ≡ suc last = omega arith in ap (rows_to row) one ∙ rows-more row last

pub length-rows : (row : ℕ → Row) (last : ℕ) → length (rows_to row last) ≡ last
length-rows row zero = refl
length-rows row (suc last) =
    let long = ap (λ (rows : List Row). length rows) (rows-more row last) ∙ length_push (rows_to row last) (row (last + 1)) in
    let before = length-rows row last in
    omega arith

last_row : (rows : List Row) (row d : Row) (i : ℕ) → i ≡ length rows → get_or (rows ++ row ∷ []) i d ≡ row
last_row [] row d zero e = refl
last_row [] row d (suc i) e = absurd (omega arith)
last_row (r ∷ rows) row d zero e = absurd (omega arith)
last_row (r ∷ rows) row d (suc i) e = last_row rows row d i (omega arith)

pub row-at : (row : ℕ → Row) (last i : ℕ) (d : Row) → i < last → get_or (rows_to row last) i d ≡ row (i + 1)
row-at row zero i d below = absurd (omega arith)
row-at row (suc last) i d below = ap (λ (rows : List Row). get_or rows i d) (rows-more row last) ∙ elim (cases_lt i last) [
  | inl less ↦
      let long = length-rows row last in
      get_or_append_left (rows_to row last) (row (last + 1) ∷ []) d i (omega arith) ∙ row-at row last i d less
  | inr more ↦
      let is : i ≡ last = omega arith in
      let long : i ≡ length (rows_to row last) = is ∙ sym (length-rows row last) in
      last_row (rows_to row last) (row (last + 1)) d i long ∙ ap (λ k. row (k + 1)) (sym is)
]

all_rows : (P : Row → Type 0) (row : ℕ → Row) (last : ℕ) → ((i : ℕ) → i ≤ last → P (row i)) → All P (rows_to row last)
all_rows P row zero each = All-nil P
all_rows P row (suc last) each =
    All-same P (rows_to row (suc last)) (rows_to row last ++ row (last + 1) ∷ []) (rows-more row last)
    (All-push P (rows_to row last) (row (last + 1)) (all_rows P row last (λ i h. each i (omega arith))) (each (last + 1) (omega arith)))

-- ---- cells

fits : (number : ℕ) → number ≤ 200000 → FitsSigned w64 (pos number)
fits number small = record { sfits = omega arith }

integer_fits : (name : Name) (number : ℕ) → number ≤ 200000 → IsCellOf (column Integer name) (integer number)
integer_fits name number small = (refl, fits number small)

numbered_fits : (name letter : Name) (number : ℕ) → AreLetters letter → number ≤ 200000 → IsCellOf (column Text name) (numbered letter number)
numbered_fits name letter number h small = let below : number < 2 ^ 64 = omega arith in (refl, text_numbered letter number h below)

null_fits : (kind : Kind) (name : Name) (cell : Cell) (null : Bool) → IsCellOf (column kind name) cell → IsCellOf (column kind name) (cond null None cell)
null_fits kind name cell true h = refl
null_fits kind name cell false h = h

-- ---- rows

dept_fits : (j : ℕ) → j ≤ 200000 → IsRowOf dept.columns (dept_row j)
dept_fits j small = (integer_fits (codes "id") j small, (numbered_fits (codes "name") (codes "d") j refl small, tt))

module _ (many : ℕ) (some : 0 < many) (few : many ≤ 100000) where
  remainder_fits : (i : ℕ) → 1 + i % many ≤ 200000
  remainder_fits i = omega arith

  person_fits : (i : ℕ) → i ≤ 50000 → IsRowOf person.columns (person_row many i)
  person_fits i small =
      let name = null_fits Text (codes "name") (numbered (codes "p") i) (i % 7 == 0) (numbered_fits (codes "name") (codes "p") i refl (omega arith)) in
      let group = null_fits Integer (codes "dept") (integer (1 + i % many)) (i % 5 == 0) (integer_fits (codes "dept") (1 + i % many) (remainder_fits i)) in
      let boss = null_fits Integer (codes "boss") (integer (i / 2)) (i == 1) (integer_fits (codes "boss") (i / 2) (omega arith)) in
      (integer_fits (codes "id") i (omega arith), (name, (group, (boss, tt))))

  member_fits : (i : ℕ) → i ≤ 50000 → IsRowOf member.columns (member_row many i)
  member_fits i small = (integer_fits (codes "person") i (omega arith), (integer_fits (codes "dept") (1 + (3 * i) % many) (remainder_fits (3 * i)), tt))

note_fits : (i : ℕ) → i ≤ 50000 → IsRowOf note.columns (note_row i)
note_fits i small =
    let size = null_fits Integer (codes "size") (integer (i % 3)) (i % 3 == 0) (integer_fits (codes "size") (i % 3) (omega arith)) in
    (numbered_fits (codes "text") (codes "n") (i % 10) refl (omega arith), (size, tt))

-- ---- the database

rows_fit : (columns : List Column) (row : ℕ → Row) (last : ℕ) → last ≤ 200000 → ((i : ℕ) → i ≤ last → IsRowOf columns (row i)) → AreRowsOf columns (rows_to row last)
rows_fit columns row last small each =
    let long = length-rows row last in
    record { few = omega arith; each = all_rows (IsRowOf columns) row last each }

pub is_database : (n : ℕ) → n ≤ 50000 → IsDatabase (generated n)
is_database n small =
    let some : 0 < departments n = omega arith in
    let few : departments n ≤ 100000 = omega arith in
    let depts = rows_fit dept.columns dept_row (departments n) (omega arith) (λ j h. dept_fits j (omega arith)) in
    let persons = rows_fit person.columns (person_row (departments n)) n (omega arith) (λ i h. person_fits (departments n) some few i (omega arith)) in
    let members = rows_fit member.columns (member_row (departments n)) n (omega arith) (λ i h. member_fits (departments n) some few i (omega arith)) in
    let notes = rows_fit note.columns note_row n (omega arith) (λ i h. note_fits i (omega arith)) in
    record { schema = are_schema; rows = (depts, (persons, (members, (notes, tt)))) }
