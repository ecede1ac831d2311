-- The new names of renames, in a set.
use Rattle.std.specs.Prelude.{◌≡◌, ℕ, List, encode_utf8_all, String}
use Rattle.std.specs.BTreeSet.{BTreeSet, contains_text}
use Rattle.solutions_dm.specs.declared.selects.Rename.{Rename}
use Rattle.solutions_dm.specs.Selects.{is_target}

-- the set has exactly the renames' new names
pub record AreNewNames {A : Type 0} (renames : List Rename) (names : BTreeSet (String A)) : Type 0 where
  pub each : (name : List ℕ) → contains_text names (encode_utf8_all name) ≡ is_target renames name
