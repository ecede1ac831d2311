-- Lists of choices and flags, one item more at a time.
use Rattle.std.proofs.Common.{◌≡◌, ◌∙◌, ◌<◌, ◌+◌, ◌++◌, ℕ, Bool, true, false, List, [], ◌∷◌, length, get_or, Option, Some, None, sym, ap, subst, inl, inr, arith}
use Rattle.std.specs.Prelude.{◌↔◌, IfNone, IfSome}
use Rattle.std.proofs.lemmas.Bool.{cases_lt}
use Rattle.std.proofs.lemmas.List.{get_or_push, get_or_append_left, length_push}
use Rattle.keys_dm.specs.Violations.{Violates}
use Rattle.keys_dm.specs.declared.violation.ViolationKind.{ViolationKind}
use Rattle.schema_dm.specs.Relations.{IsBinaryRelation}
use Rattle.schema_dm.specs.declared.table.Binary.{Binary}
use Rattle.schema_dm.specs.declared.table.Table.{Table}
use Rattle.table_csv.specs.Databases.{Data, rows_at}
use Rattle.graphs_dm.specs.Graphs.{MarksViolations}
use Rattle.graphs_dm.specs.Plans.{AreAllFlags, AreFlags, AreBinaries, AreMarks, IsChoice, IsPlanOf}
use Rattle.graphs_dm.specs.Relations.{CountsAsRelation}
use Rattle.graphs_dm.specs.declared.graph_name.GraphName.{GraphName}
use Rattle.graphs_dm.specs.declared.graph_name.GraphName.TheVariants.{Direct, Map, MapKeys}
use Rattle.graphs_dm.specs.declared.plan.Plan.{Plan}

pub push_each : {X : Type 0} (xs new : List X) (x d : X) (n : ℕ) (P : ℕ → X → Type 0) → length xs ≡ n → new ≡ xs ++ x ∷ [] → ((k : ℕ) → k < n → P k (get_or xs k d)) → P n x
    → (k : ℕ) → k < n + 1 → P k (get_or new k d)
push_each {X} xs new x d n P many pushed before last k below =
    subst (λ (ys : List X). P k (get_or ys k d)) (sym pushed)
    (elim (cases_lt k n) [
      | inl low ↦ subst (P k) (sym (get_or_append_left xs (x ∷ []) d k (omega (arith, low, many)))) (before k low)
      | inr high ↦
          (let here : n ≡ k = omega (arith, below, high) in
          subst (λ j. P j (get_or (xs ++ x ∷ []) j d)) here (subst (P n) (sym (get_or_push xs x d n many)) last))
    ])

pub flags_more : (D : Data) (t i : ℕ) (old new : List Bool) (b : Bool) → AreFlags D t i old → (b ≡ true) ↔ ((kind : ViolationKind) × Violates D t i kind) → new ≡ old ++ b ∷ [] → AreFlags D t (i + 1) new
flags_more D t i old new b before told pushed = record {
  many = ap length pushed ∙ length_push old b ∙ ap (λ n. n + 1) before.many;
  each = push_each old new b false i (λ k flag. (flag ≡ true) ↔ ((kind : ViolationKind) × Violates D t k kind)) before.many pushed before.each told;
}

pub all_flags_more : (D : Data) (t : ℕ) (old new : List (List Bool)) (flags : List Bool) → AreAllFlags D t old → AreFlags D t (length (rows_at D.rows t)) flags → new ≡ old ++ flags ∷ [] → AreAllFlags D (t + 1) new
all_flags_more D t old new flags before told pushed = record {
  many = ap length pushed ∙ length_push old flags ∙ ap (λ n. n + 1) before.many;
  each = push_each old new flags [] t (λ k list. AreFlags D k (length (rows_at D.rows k)) list) before.many pushed before.each told;
}

-- where a graph marks nothing no flags are needed
pub no_marks : (name : GraphName) (D : Data) → (MarksViolations name → ⊥) → AreMarks name D []
no_marks name D none t i has = ((λ h. cc h), (λ h. absurd (none h.0)))

-- the flags of all rows are the marks of the map-keys graph
pub marks_are : (D : Data) (marks : List (List Bool)) → AreAllFlags D (length D.tables) marks → AreMarks MapKeys D marks
marks_are D marks all t i has =
    let told = (all.each t has.table).each i has.row in
    ((λ h. (tt, told.0 h)), (λ h. told.1 h.1))

pub binary_of : (name : GraphName) (tables : List Table) (t : ℕ) (sides : Binary) → CountsAsRelation name tables t sides → IsBinaryRelation tables t sides
binary_of Map tables t sides h = h
binary_of Direct tables t sides h = absurd h
binary_of MapKeys tables t sides h = absurd h

choice_binary : (name : GraphName) (tables : List Table) (t : ℕ) (choice : Option Binary) → IsChoice name tables t choice → IfSome choice (IsBinaryRelation tables t)
choice_binary name tables t None h = tt
choice_binary name tables t (Some sides) h = binary_of name tables t sides h

-- the relations of a plan are binary ones
pub plan_binaries : (name : GraphName) (D : Data) (plan : Plan) → IsPlanOf name D plan → AreBinaries D.tables plan
plan_binaries name D plan is t below = choice_binary name D.tables t (get_or plan.relations t None) (is.relations.each t below)

choice_of_map : (tables : List Table) (t : ℕ) (told : Option Binary) → IfSome told (IsBinaryRelation tables t) → IfNone told ((sides : Binary) → ¬ IsBinaryRelation tables t sides) → IsChoice Map tables t told
choice_of_map tables t None some none = none
choice_of_map tables t (Some sides) some none = some

pub choice_is : (name : GraphName) → name ≡ Map → (tables : List Table) (t : ℕ) (told : Option Binary) → IfSome told (IsBinaryRelation tables t) → IfNone told ((sides : Binary) → ¬ IsBinaryRelation tables t sides) → IsChoice name tables t told
choice_is name is tables t told some none = subst (λ (n : GraphName). IsChoice n tables t told) (sym is) (choice_of_map tables t told some none)
