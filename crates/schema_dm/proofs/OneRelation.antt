-- A table is a binary relation in one way.
use Rattle.std.proofs.Common.{◌≡◌, ◌∙◌, ℕ, zero, suc, List, [], ◌∷◌, Option, None, Some, map, ap}
use Rattle.std.specs.Prelude.{slice_get, IfNone, IfSome}
use Rattle.members_dm.specs.Membership.{NoRepeats}
use Rattle.members_dm.proofs.ElementsLemmas.{one_index}
use Rattle.schema_dm.specs.declared.table.Table.{Table}
use Rattle.schema_dm.specs.declared.table.ForeignKey.{ForeignKey}
use Rattle.schema_dm.specs.declared.table.Binary.{Binary}
use Rattle.schema_dm.specs.Schemas.{table_at}
use Rattle.schema_dm.specs.Relations.{IsSideAt, IsBinaryRelation}

mapped : {X Y : Type 0} (f : X → Y) (xs : List X) (k : ℕ) (x : X) → slice_get xs k ≡ Some x → slice_get (map f xs) k ≡ Some (f x)
mapped f [] k x e = absurd (cc)
mapped f (y ∷ ys) zero x e = ap (λ z. Some (f z)) (let g : Some y ≡ Some x = e in cc)
mapped f (y ∷ ys) (suc k) x e = mapped f ys k x e

one_side : (tables : List Table) (keys : List ForeignKey) (place i j : ℕ) → NoRepeats (map (λ key. key.columns) keys) → IsSideAt tables keys place i → IsSideAt tables keys place j → i ≡ j
one_side tables keys place i j apart a b =
    one_index (map (λ key. key.columns) keys) (place ∷ []) i j apart
    (mapped (λ key. key.columns) keys i a.0 a.1 ∙ ap (λ ps. Some ps) a.2.0)
    (mapped (λ key. key.columns) keys j b.0 b.1 ∙ ap (λ ps. Some ps) b.2.0)

pub sides_unique : (tables : List Table) (place : ℕ) (sides other : Binary) → NoRepeats (map (λ key. key.columns) (table_at tables place).foreign) → IsBinaryRelation tables place sides → IsBinaryRelation tables place other → sides ≡ other
sides_unique tables place sides other apart a b =
    let left : sides.left ≡ other.left = one_side tables (table_at tables place).foreign 0 sides.left other.left apart a.left b.left in
    let right : sides.right ≡ other.right = one_side tables (table_at tables place).foreign 1 sides.right other.right apart a.right b.right in
    λ i. record { left = left i; right = right i }

pub only_sides : (tables : List Table) (place : ℕ) (told : Option Binary) → IfSome told (IsBinaryRelation tables place) → IfNone told ((sides : Binary) → ¬ IsBinaryRelation tables place sides)
    → NoRepeats (map (λ key. key.columns) (table_at tables place).foreign) → (sides : Binary) → IsBinaryRelation tables place sides → told ≡ Some sides
only_sides tables place None found none apart sides relation = absurd (none sides relation)
only_sides tables place (Some other) found none apart sides relation = ap (λ s. Some s) (sides_unique tables place other sides apart found relation)
