-- Tests of renames, and tests of two parts.
use Rattle.std.proofs.Common.{◌≡◌, ◌≤◌, ◌-◌, ◌↔◌, ℕ, List, Bool, ◌&&◌, ◌||◌, IsTrue, length, get_or, take, drop, sym, ap, ◌∙◌}
use Rattle.std.proofs.lemmas.Slice.Eq.{bytes_eq-Decides}
use Rattle.std.proofs.lemmas.Bool.{and_parts, and_from, false_from_ne_true}
use Rattle.solutions_dm.specs.declared.selects.Rename.{Rename}
use Rattle.solutions_dm.specs.Selects.{is_target}
use Rattle.solutions_dm.proofs.ColumnLemmas.{opened}

pub target_rest : (r : Rename) (rs : List Rename) (x : List ℕ) → 1 ≤ length rs → r ≡ get_or rs 0 r → (r.to ≡ x → ⊥) → is_target (take (length rs - 1) (drop 1 rs)) x ≡ is_target rs x
target_rest r rs x l e n = sym (ap (λ (qs : List Rename). is_target qs x) (opened r rs l e) ∙ ap (λ b. b || is_target (take (length rs - 1) (drop 1 rs)) x) (false_from_ne_true _ (λ s. n ((bytes_eq-Decides r.to x).0 s))))

pub both_are : (b r s : Bool) (A B : Type 0) → b ≡ (r && s) → (IsTrue r ↔ A) → (IsTrue s ↔ B) → IsTrue b ↔ (A × B)
both_are b r s A B e f g = ((λ h. let k = and_parts r s (sym e ∙ h) in (f.0 k.0, g.0 k.1)), (λ h. e ∙ and_from r s (f.1 h.0) (g.1 h.1)))

pub iff_along : (b : Bool) (A B : Type 0) → A ↔ B → (IsTrue b ↔ B) → IsTrue b ↔ A
iff_along b A B e f = ((λ h. e.1 (f.0 h)), (λ h. f.1 (e.0 h)))
