-- Each graph has a plan.
use Rattle.std.proofs.Common.{◌≡◌, ◌<◌, ◌++◌, ℕ, suc, zero, Bool, true, false, List, [], ◌∷◌, length, get_or, Option, Some, None, refl, inl, inr, arith}
use Rattle.std.specs.Prelude.{◌↔◌}
use Rattle.std.proofs.lemmas.List.{length_push}
use Rattle.schema_dm.specs.declared.table.Binary.{Binary}
use Rattle.schema_dm.specs.declared.table.Table.{Table}
use Rattle.table_csv.specs.Databases.{Data, rows_at}
use Rattle.keys_dm.specs.Violations.{Violates}
use Rattle.keys_dm.specs.declared.violation.ViolationKind.{ViolationKind}
use Rattle.graphs_dm.specs.Plans.{AreAllFlags, AreFlags, AreMarks, IsChoice, IsPlanOf}
use Rattle.graphs_dm.specs.declared.graph_name.GraphName.{GraphName}
use Rattle.graphs_dm.specs.declared.graph_name.GraphName.TheVariants.{Direct, Map, MapKeys}
use Rattle.graphs_dm.specs.declared.plan.Plan.{Plan}
use Rattle.graphs_dm.proofs.Decisions.{flag, flag_is, told_violates}
use Rattle.graphs_dm.proofs.RelationTests.{told_counts}
use Rattle.graphs_dm.proofs.PlanSteps.{marks_are, no_marks, push_each}

-- a list with an item for each place below n
a_list : {X : Type 0} (d : X) (P : ℕ → X → Type 0) → ((k : ℕ) → (x : X) × P k x) → (n : ℕ) → (xs : List X) × (length xs ≡ n) × ((k : ℕ) → k < n → P k (get_or xs k d))
a_list d P make zero = ([], refl, λ k l. absurd (omega arith))
a_list d P make (suc n) =
    let before = a_list d P make n in
    let last = make n in
    let more = length_push before.0 last.0 in
    let many : length before.0 ≡ n = before.1 in (
      before.0 ++ last.0 ∷ [],
      omega (arith, more, many),
      λ k l. push_each before.0 (before.0 ++ last.0 ∷ []) last.0 d n P before.1 refl before.2 last.1 k (omega arith),
    )

choice_for : (name : GraphName) (tables : List Table) (t : ℕ) → (choice : Option Binary) × IsChoice name tables t choice
choice_for name tables t = elim (told_counts name tables t) [
  | inl h ↦ (Some h.0, h.1)
  | inr none ↦ (None, λ sides h. none (sides, h))
]

flags_for : (D : Data) (t : ℕ) → (flags : List Bool) × AreFlags D t (length (rows_at D.rows t)) flags
flags_for D t =
    let made = a_list false (λ i b. (b ≡ true) ↔ ((kind : ViolationKind) × Violates D t i kind)) (λ i. (flag (told_violates D t i), flag_is (told_violates D t i))) (length (rows_at D.rows t)) in
    (made.0, record { many = made.1; each = made.2 })

all_flags : (D : Data) → (marks : List (List Bool)) × AreAllFlags D (length D.tables) marks
all_flags D =
    let made = a_list [] (λ t flags. AreFlags D t (length (rows_at D.rows t)) flags) (flags_for D) (length D.tables) in
    (made.0, record { many = made.1; each = made.2 })

marks_for : (name : GraphName) (D : Data) → (marks : List (List Bool)) × AreMarks name D marks
marks_for Direct D = ([], no_marks Direct D (λ h. h))
marks_for Map D = ([], no_marks Map D (λ h. h))
marks_for MapKeys D = let made = all_flags D in (made.0, marks_are D made.0 made.1)

pub some_plan : (name : GraphName) (D : Data) → (plan : Plan) × IsPlanOf name D plan
some_plan name D =
    let relations = a_list None (IsChoice name D.tables) (choice_for name D.tables) (length D.tables) in
    let marks = marks_for name D in
    (record { relations = relations.0; marks = marks.0 }, record { relations = record { many = relations.1; each = relations.2 }; marks = marks.1 })
