-- The set of the new names of renames, as renames come in.
use Rattle.std.proofs.Common.{◌≡◌, ◌∙◌, ℕ, Bool, true, false, cond, List, [], ◌∷◌, ◌++◌, ap, refl, sym}
use Rattle.std.specs.Prelude.{◌||◌, bytes_eq, encode_utf8_all, String}
use Rattle.std.specs.Bool.{one_answer}
use Rattle.std.specs.BTreeSet.{BTreeSet, contains_text}
use Rattle.std.specs.Cmp.Lexicographic.{bytes_decides}
use Rattle.std.proofs.lemmas.Str.{encodes_same}
use Rattle.solutions_dm.specs.declared.selects.Rename.{Rename}
use Rattle.solutions_dm.specs.Selects.{is_target}
use Rattle.sparql_text_dm.specs.NewNames.{AreNewNames}

-- texts are the same where their bytes are
same_bytes : (x y : List ℕ) → bytes_eq (encode_utf8_all x) (encode_utf8_all y) ≡ bytes_eq x y
same_bytes x y =
    one_answer {P = encode_utf8_all x ≡ encode_utf8_all y} _ _ (bytes_decides (encode_utf8_all x) (encode_utf8_all y)) (
      λ h. ap encode_utf8_all ((bytes_decides x y).0 h),
      λ e. (bytes_decides x y).1 (encodes_same x y e),
    )

choose_or : (a b : Bool) → cond a true b ≡ (a || b)
choose_or true b = refl
choose_or false b = refl

or_last : (a b c : Bool) → (b || cond a true c) ≡ cond a true (b || c)
or_last a true true = by a
  where
    by : (a : Bool) → true ≡ cond a true true
    by true = refl
    by false = refl
or_last a true false = by a
  where
    by : (a : Bool) → true ≡ cond a true true
    by true = refl
    by false = refl
or_last a false c = refl

-- one more rename has one more new name
pub target_last : (renames : List Rename) (r : Rename) (x : List ℕ) → is_target (renames ++ r ∷ []) x ≡ cond (bytes_eq r.to x) true (is_target renames x)
target_last [] r x = by (bytes_eq r.to x)
  where
    by : (b : Bool) → (b || false) ≡ cond b true false
    by true = refl
    by false = refl
target_last (s ∷ renames) r x = ap (λ b. bytes_eq s.to x || b) (target_last renames r x) ∙ or_last (bytes_eq r.to x) (bytes_eq s.to x) (is_target renames x)

pub none_new : {A : Type 0} (renames : List Rename) (names : BTreeSet (String A)) → renames ≡ [] → names.keys ≡ [] → AreNewNames renames names
none_new renames names none empty = record { each = λ name. rw (empty, none) refl }

pub one_more : {A : Type 0} (renames more : List Rename) (r : Rename) (names next : BTreeSet (String A)) → AreNewNames renames names → more ≡ renames ++ r ∷ []
    → ((bytes : List ℕ) → contains_text next bytes ≡ cond (bytes_eq (encode_utf8_all r.to) bytes) true (contains_text names bytes)) → AreNewNames more next
one_more renames more r names next h made gains = record {
  each = λ name.
      gains (encode_utf8_all name) ∙ ap (λ b. cond b true (contains_text names (encode_utf8_all name))) (same_bytes r.to name) ∙ ap (λ b. cond (bytes_eq r.to name) true b) (h.each name)
      ∙ sym (target_last renames r name) ∙ ap (λ rs. is_target rs name) (sym made);
}
