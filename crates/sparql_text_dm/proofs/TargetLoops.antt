-- The loop over targets.
use Rattle.std.proofs.Common.{◌≡◌, ◌∙◌, ℕ, zero, suc, ◌<◌, Bool, true, false, List, [], ◌∷◌, ◌++◌, length, Ok, Err, refl, sym, ap, subst, arith, append_assoc}
use Rattle.std.proofs.lemmas.List.{append-nil}
use Rattle.solutions_dm.specs.declared.selects.Rename.{Rename}
use Rattle.grammar_dm.specs.Exits.{Fails}
use Rattle.grammar_dm.specs.Reading.{◌>>=◌, Answer, starts, through}
use Rattle.grammar_dm.specs.declared.read_error.ReadError.{ReadError}
use Rattle.grammar_dm.proofs.Laws.{Stands}
use Rattle.sparql_tokens_dm.specs.declared.token.Placed.{Placed}
use Rattle.sparql_text_dm.specs.Grammar.{target}
use Rattle.sparql_text_dm.specs.Reading.{all_targets_at, begins_target, target_at, targets_at}
use Rattle.sparql_text_dm.proofs.Exits.{fails_first}
use Rattle.sparql_text_dm.proofs.PatternReaders.{target_reads, target_takes}

pub shorter : (taken : List Rename) (ts mid : List Placed) (r : Rename) → target_at taken ts ≡ Ok (r, mid) → length mid < length ts
shorter taken ts mid r e = target_takes taken ts mid r (subst (λ (a : Answer Placed Rename). Stands (target taken) ts a) e (target_reads taken ts).stands)

abbrev more_by : ℕ → List Rename → Answer Placed Rename → Answer Placed (List Rename)
more_by n taken read = read >>= λ r. targets_at n (taken ++ r.0 ∷ []) r.1 >>= λ rs. Ok (r.0 ∷ rs.0, rs.1)

abbrev step_by : ℕ → List Rename → List Placed → Bool → Answer Placed (List Rename)
step_by n taken ts b = elim b [ true ↦ more_by n taken (target_at taken ts) | false ↦ Ok ([], ts) ]

step_is : (n : ℕ) (taken : List Rename) (ts : List Placed) → targets_at (suc n) taken ts ≡ step_by n taken ts (starts begins_target ts)
unfolding targets_at
step_is n taken ts = refl

-- enough steps are enough
module _ (n m : ℕ) (same : (taken : List Rename) (ts : List Placed) → length ts < n → length ts < m → targets_at n taken ts ≡ targets_at m taken ts) where
  more_same : (taken : List Rename) (ts : List Placed) (read : Answer Placed Rename) → target_at taken ts ≡ read → length ts < suc n → length ts < suc m → more_by n taken read ≡ more_by m taken read
  more_same taken ts (Err fault) e ln lm = refl
  more_same taken ts (Ok x) e ln lm =
      let less = shorter taken ts x.1 x.0 e in
      ap (λ (a : Answer Placed (List Rename)). a >>= λ rs. Ok (x.0 ∷ rs.0, rs.1)) (same (taken ++ x.0 ∷ []) x.1 (omega (arith, less, ln)) (omega (arith, less, lm)))

  both_same : (taken : List Rename) (ts : List Placed) (b : Bool) → length ts < suc n → length ts < suc m → step_by n taken ts b ≡ step_by m taken ts b
  both_same taken ts true ln lm = more_same taken ts (target_at taken ts) refl ln lm
  both_same taken ts false ln lm = refl

fuel_same : (n m : ℕ) (taken : List Rename) (ts : List Placed) → length ts < n → length ts < m → targets_at n taken ts ≡ targets_at m taken ts
fuel_same zero m taken ts ln lm = absurd (omega (arith, ln))
fuel_same (suc n) zero taken ts ln lm = absurd (omega (arith, lm))
fuel_same (suc n) (suc m) taken ts ln lm = step_is n taken ts ∙ both_same n m (fuel_same n m) taken ts (starts begins_target ts) ln lm ∙ sym (step_is m taken ts)

-- what was read of the front, and what is read behind it
pub record TargetWalk (found : List Rename) (rest : List Placed) (total : Answer Placed (List Rename)) : Type 0 where
  pub so_far : (n : ℕ) → length rest < n → through (λ rs. found ++ rs) (targets_at n found rest) ≡ total

through_append : (found : List Rename) (v : Rename) (a : Answer Placed (List Rename)) → through (λ rs. found ++ rs) (a >>= λ rs. Ok (v ∷ rs.0, rs.1)) ≡ through (λ rs. (found ++ v ∷ []) ++ rs) a
through_append found v (Err fault) = refl
through_append found v (Ok x) = ap (λ rs. a_list rs x.1) (sym (append_assoc found (v ∷ []) x.0))
  where
    a_list : List Rename → List Placed → Answer Placed (List Rename)
    a_list rs rest = Ok (rs, rest)

pub walk_on : (found new : List Rename) (rest after : List Placed) (v : Rename) (total : Answer Placed (List Rename)) → TargetWalk found rest total → starts begins_target rest ≡ true → target_at found rest ≡ Ok (v, after)
    → new ≡ found ++ v ∷ [] → TargetWalk new after total
walk_on found new rest after v total walk begins read made = record {
  so_far = λ n le. (
      let m : ℕ = suc (length rest) in
      let less = shorter found rest after v read in
      let one = step_is m found rest ∙ ap (step_by m found rest) begins ∙ ap (more_by m found) read in
      ap (λ us. through (λ rs. us ++ rs) (targets_at n us after)) made
      ∙ ap (through (λ rs. (found ++ v ∷ []) ++ rs)) (fuel_same n m (found ++ v ∷ []) after le (omega (arith, less)))
      ∙ sym (through_append found v (targets_at m (found ++ v ∷ []) after))
      ∙ sym (ap (through (λ rs. found ++ rs)) one) ∙ walk.so_far (suc m) (omega arith));
}

pub walk_stops : (found : List Rename) (rest : List Placed) (total : Answer Placed (List Rename)) → TargetWalk found rest total → starts begins_target rest ≡ false → total ≡ Ok (found, rest)
walk_stops found rest total walk ends =
    let m : ℕ = length rest in
    sym (walk.so_far (suc m) (omega arith)) ∙ ap (through (λ rs. found ++ rs)) (step_is m found rest ∙ ap (step_by m found rest) ends) ∙ ap (λ rs. a_list rs rest) (append-nil found)
  where
    a_list : List Rename → List Placed → Answer Placed (List Rename)
    a_list rs us = Ok (rs, us)

pub walk_fails : (found : List Rename) (rest : List Placed) (total : Answer Placed (List Rename)) (e : ReadError Placed) → TargetWalk found rest total → starts begins_target rest ≡ true → Fails e (target_at found rest) → Fails e total
walk_fails found rest total e walk begins h =
    let m : ℕ = length rest in
    subst (λ (a : Answer Placed (List Rename)). Fails e a) (walk.so_far (suc m) (omega arith))
    (fails_first e (targets_at (suc m) found rest) _ (subst (λ (a : Answer Placed (List Rename)). Fails e a) (sym (step_is m found rest ∙ ap (step_by m found rest) begins)) (fails_first e (target_at found rest) _ h)))

-- behind the first target
pub walk_begins : (none found : List Rename) (tokens rest : List Placed) (v : Rename) → none ≡ [] → target_at none tokens ≡ Ok (v, rest) → found ≡ none ++ v ∷ [] → TargetWalk found rest (all_targets_at tokens)
unfolding all_targets_at
walk_begins none found tokens rest v empty read made = record {
  so_far = λ n le.
      ap (λ us. through (λ rs. us ++ rs) (targets_at n us rest)) (made ∙ ap (λ us. us ++ v ∷ []) empty)
      ∙ ap (through (λ rs. v ∷ rs)) (fuel_same n (suc (length rest)) (v ∷ []) rest le (omega arith))
      ∙ sym (ap (λ (a : Answer Placed Rename). a >>= λ r. targets_at (suc (length r.1)) (r.0 ∷ []) r.1 >>= λ rs. Ok (r.0 ∷ rs.0, rs.1)) (ap (λ us. target_at us tokens) (sym empty) ∙ read));
}

pub first_fails : (none : List Rename) (tokens : List Placed) (e : ReadError Placed) → none ≡ [] → Fails e (target_at none tokens) → Fails e (all_targets_at tokens)
unfolding all_targets_at
first_fails none tokens e empty h =
    fails_first e (target_at [] tokens) (λ r. targets_at (suc (length r.1)) (r.0 ∷ []) r.1 >>= λ rs. Ok (r.0 ∷ rs.0, rs.1)) (subst (λ (us : List Rename). Fails e (target_at us tokens)) empty h)

pub walk_less : (found : List Rename) (rest after : List Placed) (v : Rename) → target_at found rest ≡ Ok (v, after) → length after < length rest
walk_less found rest after v read = shorter found rest after v read

pub ruleset targets_loop = (walk_begins, first_fails, walk_on, walk_stops, walk_fails, walk_less)
