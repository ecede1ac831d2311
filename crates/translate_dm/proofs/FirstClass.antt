-- What is told of a table, and the first table that is a class.
use Rattle.std.proofs.Common.{◌≡◌, ◌↔◌, ◌<◌, ◌+◌, ℕ, List, Bool, true, false, not, Option, Some, None, IsTrue, refl, sym, subst, arith}
use Rattle.std.specs.Prelude.{IfNone, IfSome, IsSome, is_some}
use Rattle.std.proofs.lemmas.Bool.{false≢true}
use Rattle.schema_dm.specs.Schemas.{IsSchema}
use Rattle.schema_dm.specs.declared.table.Binary.{Binary}
use Rattle.schema_dm.specs.declared.table.Table.{Table}
use Rattle.algebra_dm.specs.declared.query.Mode.{Mode}
use Rattle.translate_dm.specs.Translation.{AreAllRelations}
use Rattle.translate_dm.proofs.ClassLemmas.{not_all_relations}

pub told_class : (r : Option Binary) (b : Bool) (R : Binary → Type 0) → is_some r ≡ not b → IfSome r R → IfNone r ((sides : Binary) → ¬ R sides) → IsTrue b ↔ ((sides : Binary) → ¬ R sides)
told_class None false R e found none = absurd (false≢true e)
told_class None true R e found none = ((λ t. none), (λ k. refl))
told_class (Some sides) false R e found none = ((λ t. absurd (false≢true t)), (λ k. absurd (k sides found)))
told_class (Some sides) true R e found none = absurd (false≢true (sym e))

-- the first place with a property, or none so far
pub none_before : (P : ℕ → Type 0) (i : ℕ) → ((s : ℕ) → s < i → ¬ P s) → ¬ P i → (s : ℕ) → s < i + 1 → ¬ P s
none_before P i before n s l p = go (s < i) (λ m. before s m p)
  where
    go : (A : Type 0) → (s < i → ⊥) → ⊥
    go A below = n (subst P (let same : s ≡ i = omega (arith, l, below) in same) p)

-- one of the tables is a class
pub some_class : (mode : Mode) (tables : List Table) (o : Option ℕ) → IsSchema tables → IfNone o (AreAllRelations mode tables) → IsSome o
some_class mode tables None schema h = absurd (not_all_relations tables schema mode h)
some_class mode tables (Some k) schema h = refl

pub class_read : (P : ℕ → Type 0) (o : Option ℕ) (k : ℕ) → o ≡ Some k → IfSome o P → P k
class_read P o k e h = subst (λ r. IfSome r P) e h
