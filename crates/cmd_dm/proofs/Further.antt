-- The steps that read further rows.
use Rattle.std.proofs.Common.{◌≡◌, ◌∙◌, refl, sym, ap, subst, arith, ℕ, suc, zero, ◌+◌, ◌<◌, ◌≤◌, List, [], ◌∷◌, ◌++◌, drop, take, length, Some, Bool, cond, append-nil}
use Rattle.std.specs.Prelude.{slice_get}
use Rattle.std.specs.List.{AllZip}
use Rattle.std.proofs.lemmas.Bool.{le-ltb, lt-ltb}
use Rattle.std.proofs.lemmas.List.{append_assoc, drop_all}
use Rattle.value_dm.specs.declared.mode.NullMode.{NullMode}
use Rattle.schema_dm.specs.declared.table.Table.{Table}
use Rattle.outside_dm.specs.Shelves.{ShelfState}
use Rattle.outside_dm.specs.Sinks.{SinkState}
use Rattle.table_csv.specs.Cells.{Row}
use Rattle.table_csv.specs.Databases.{Data, IsDatabase, rows_at}
use Rattle.cmd_dm.specs.Append.{few_step, further_rows_step, further_tables_step}
use Rattle.cmd_dm.specs.Ending.{Ends, Leads, Target}
use Rattle.cmd_dm.specs.Folder.{table_file}
use Rattle.cmd_dm.specs.Reasons.{reason}
use Rattle.cmd_dm.specs.Script.{Script, load, refuse}
use Rattle.cmd_dm.proofs.Endings.{ends_refused, leads_refl}
use Rattle.bench_lines_dm.proofs.PlainLimits.{few_rows}
use Rattle.cmd_dm.proofs.StepLaws.{drop_from}
use Rattle.cmd_dm.specs.declared.status.File.TheVariants as file
use Rattle.cmd_dm.specs.declared.status.Status.TheVariants.{Refused}

-- ---- the number of rows

module _ (number count : ℕ) where
  pub few_leads : count ≤ 4194304 → (state : ShelfState) (next : Unit {0} → Script) → Leads (few_step number count next) state (next tt) state
  unfolding few_step
  few_leads within state next =
      subst (λ (b : Bool). Leads (cond b (refuse (reason 25 number 0 0)) (next tt)) state (next tt) state) (sym (le-ltb 4194304 count within)) (leads_refl (next tt) state)

  pub few_ends : 4194304 < count → (state : ShelfState) (target : Target) (next : Unit {0} → Script) (out : SinkState) → Ends target (few_step number count next) state state out out (Refused (reason 25 number 0 0))
  unfolding few_step
  few_ends above state target next out =
      subst (λ (b : Bool). Ends target (cond b (refuse (reason 25 number 0 0)) (next tt)) state state out out (Refused (reason 25 number 0 0))) (sym (lt-ltb 4194304 count above)) (ends_refused target (reason 25 number 0 0) state out)

-- from this table on, no table has too many rows with those of the list behind its own
abbrev pub FewBehind : List (List Row) → ℕ → List (List Row) → Type 0
FewBehind held before list = (t : ℕ) → length (rows_at held (before + t)) + length (rows_at list t) ≤ 4194304

-- no table has too many rows with those of the list behind its own
abbrev pub FewInAll : List (List Row) → List (List Row) → Type 0
FewInAll held list = (t : ℕ) → length (rows_at held t) + length (rows_at list t) ≤ 4194304

few_pushed : (count : ℕ → ℕ) (list : List (List Row)) (rows : List Row) → ((t : ℕ) → count t + length (rows_at list t) ≤ 4194304) → count (length list) + length rows ≤ 4194304
    → (t : ℕ) → count t + length (rows_at (list ++ rows ∷ []) t) ≤ 4194304
few_pushed count [] rows before few zero = few
few_pushed count [] rows before few (suc t) = before (suc t)
few_pushed count (r ∷ list) rows before few zero = before zero
few_pushed count (r ∷ list) rows before few (suc t) = few_pushed (λ n. count (suc n)) list rows (λ n. before (suc n)) few t

-- one more table's rows
pub few_more : (held list : List (List Row)) (rows : List Row) (place : ℕ) → place ≡ length list → FewInAll held list → length (rows_at held place) + length rows ≤ 4194304 → FewInAll held (list ++ rows ∷ [])
few_more held list rows place at before few =
    few_pushed (λ t. length (rows_at held t)) list rows before (subst (λ (n : ℕ). length (rows_at held n) + length rows ≤ 4194304) at few)

-- so many items have one of the other list each
pub counted : {A B : Type 0} (R : A → B → Type 0) (xs : List A) (ys : List B) (n : ℕ) → n ≤ length xs → AllZip R (take n xs) ys → n ≡ length ys
counted R xs [] zero below h = refl
counted R xs (y ∷ ys) zero below h = absurd h
counted R [] ys (suc n) below h = absurd (omega arith)
counted R (x ∷ xs) [] (suc n) below h = absurd h
counted R (x ∷ xs) (y ∷ ys) (suc n) below h = ap suc (counted R xs ys n (omega arith) h.1)

-- a database alone has not too many
pub few_alone : (D : Data) → IsDatabase D → FewInAll D.rows []
few_alone D database t = let few = few_rows D.tables D.rows t database.rows in omega (arith, few)

-- and the same from a table on
pub few_cons : (held : List (List Row)) (before : ℕ) (rows : List Row) (others : List (List Row)) → length (rows_at held before) + length rows ≤ 4194304 → FewBehind held (before + 1) others → FewBehind held before (rows ∷ others)
few_cons held before rows others few fews zero =
    let at : before ≡ before + zero = omega arith in
    subst (λ (n : ℕ). length (rows_at held n) + length rows ≤ 4194304) at few
few_cons held before rows others few fews (suc t) =
    let at : before + 1 + t ≡ before + suc t = omega arith in
    subst (λ (n : ℕ). length (rows_at held n) + length (rows_at others t) ≤ 4194304) at (fews t)

pub few_first : (held : List (List Row)) (before : ℕ) (rows : List Row) (others : List (List Row)) → FewBehind held before (rows ∷ others) → length (rows_at held before) + length rows ≤ 4194304
few_first held before rows others fews =
    let at : before + zero ≡ before = omega arith in
    subst (λ (n : ℕ). length (rows_at held n) + length rows ≤ 4194304) at (fews zero)

pub few_rest : (held : List (List Row)) (before : ℕ) (rows : List Row) (others : List (List Row)) → FewBehind held before (rows ∷ others) → FewBehind held (before + 1) others
few_rest held before rows others fews t =
    let at : before + suc t ≡ before + 1 + t = omega arith in
    subst (λ (n : ℕ). length (rows_at held n) + length (rows_at others t) ≤ 4194304) at (fews (suc t))

pub from_first : (held list : List (List Row)) → FewInAll held list → FewBehind held 0 list
from_first held list few t =
    let at : t ≡ 0 + t = omega arith in
    subst (λ (n : ℕ). length (rows_at held n) + length (rows_at list t) ≤ 4194304) at (few t)

pub in_all : (held list : List (List Row)) → FewBehind held 0 list → FewInAll held list
in_all held list few t =
    let at : 0 + t ≡ t = omega arith in
    subst (λ (n : ℕ). length (rows_at held n) + length (rows_at list t) ≤ 4194304) at (few t)

-- ---- tables

module _ (folder : List ℕ) (mode : NullMode) (held : List (List Row)) (tables : List Table) (old : ShelfState) where
  -- the further rows of the first tables have been read: this is what is left
  abbrev pub FurtherSoFar : ℕ → List (List Row) → ShelfState → Type 0
  FurtherSoFar place list state =
      (next : List (List Row) → Script) → Leads (further_tables_step folder mode (length tables) held 0 tables next) old
      (further_tables_step folder mode (length tables) held place (drop place tables) (λ others. next (list ++ others))) state

  pub none_further : FurtherSoFar 0 [] old
  none_further = λ next. leads_refl (further_tables_step folder mode (length tables) held 0 tables next) old

  -- what comes behind the file of the table at the place
  abbrev pub beyond : ℕ → List (List Row) → (List (List Row) → Script) → List Row → Script
  beyond place list next = λ rows. further_tables_step folder mode (length tables) held (place + 1) (drop (place + 1) tables) (λ others. next (list ++ rows ∷ others))

  -- the next step is to load the file of the table at the place
  pub leads_to_further : (place : ℕ) (list : List (List Row)) (state : ShelfState) (at : Table) → slice_get tables place ≡ Some at → FurtherSoFar place list state → (next : List (List Row) → Script) →
      Leads (further_tables_step folder mode (length tables) held 0 tables next) old
      (load (file.More (place + 1)) (table_file folder at.name) (λ bytes. further_rows_step at.columns mode (place + 1 + length tables) (length (rows_at held place)) bytes (beyond place list next))) state
  unfolding further_tables_step
  leads_to_further place list state at is so_far next =
      subst (λ (rest : List Table). Leads (further_tables_step folder mode (length tables) held 0 tables next) old (further_tables_step folder mode (length tables) held place rest (λ others. next (list ++ others))) state)
      (drop_from tables place at is ∙ ap (λ n. at ∷ drop n tables) one_on) (so_far next)
    where
      one_on : suc place ≡ place + 1
      one_on = omega arith

  -- and with its rows one more table has been read
  pub one_more_further : (place : ℕ) (list : List (List Row)) (rows : List Row) (state : ShelfState) →
      ((next : List (List Row) → Script) → Leads (further_tables_step folder mode (length tables) held 0 tables next) old (beyond place list next rows) state) → FurtherSoFar (place + 1) (list ++ rows ∷ []) state
  one_more_further place list rows state leads next =
      subst (λ (go : List (List Row) → Script). Leads (further_tables_step folder mode (length tables) held 0 tables next) old (further_tables_step folder mode (length tables) held (place + 1) (drop (place + 1) tables) go) state)
      (λ i. λ others. next (sym (append_assoc list (rows ∷ []) others) i)) (leads next)

  pub all_further : (place : ℕ) (list : List (List Row)) (state : ShelfState) → place ≡ length tables → FurtherSoFar place list state
      → (next : List (List Row) → Script) → Leads (further_tables_step folder mode (length tables) held 0 tables next) old (next list) state
  unfolding further_tables_step
  all_further place list state whole so_far next =
      subst (λ (l : List (List Row)). Leads (further_tables_step folder mode (length tables) held 0 tables next) old (next l) state) (append-nil list)
      (subst (λ (rest : List Table). Leads (further_tables_step folder mode (length tables) held 0 tables next) old (further_tables_step folder mode (length tables) held place rest (λ others. next (list ++ others))) state)
      (drop_all place tables (omega (arith, whole))) (so_far next))
