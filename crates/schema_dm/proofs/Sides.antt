-- The loop that looks for the foreign key on a column alone.
use Rattle.std.proofs.Common.{◌≡◌, ◌∙◌, ℕ, zero, suc, ◌+◌, ◌<◌, ◌≤◌, List, [], ◌∷◌, length, get_or, Option, None, Some, refl, sym, ap, subst, inl, inr, arith}
use Rattle.std.specs.Prelude.{slice_get, IfNone}
use Rattle.std.proofs.lemmas.Bool.{cases_lt}
use Rattle.std.proofs.lemmas.List.{get_or_default}
use Rattle.std.proofs.lemmas.Option.{slice_get_read}
use Rattle.schema_dm.specs.declared.table.Table.{Table}
use Rattle.schema_dm.specs.declared.table.ForeignKey.{ForeignKey}
use Rattle.schema_dm.specs.declared.table.Binary.{Binary}
use Rattle.schema_dm.specs.Schemas.{no_table, table_at}
use Rattle.schema_dm.specs.Relations.{IsBinaryRelation, IsSide, IsSideAt}

-- an item that stands somewhere stands within the list
pub stands_within : {X : Type 0} (x : X) (xs : List X) (k : ℕ) → slice_get xs k ≡ Some x → k < length xs
stands_within x [] k e = absurd (cc)
stands_within x (y ∷ ys) zero e = omega arith
stands_within x (y ∷ ys) (suc k) e = let rest : k < length ys = stands_within x ys k e in omega arith

pub no_side_so_far : (tables : List Table) (keys : List ForeignKey) (place number : ℕ) (key : ForeignKey) → number < length keys → key ≡ get_or keys number key → ¬ IsSide tables key place
    → ((j : ℕ) → j < number → ¬ IsSideAt tables keys place j) → (j : ℕ) → j < number + 1 → ¬ IsSideAt tables keys place j
no_side_so_far tables keys place number key below is none before j h side = elim (cases_lt j number) [
  | inl earlier ↦ before j earlier side
  | inr not_earlier ↦
      (let here : j ≡ number = omega arith in
      let both : Some side.0 ≡ Some key = sym side.1 ∙ ap (slice_get keys) here ∙ slice_get_read keys (length keys) number key refl below is in
      let one : side.0 ≡ key = cc in
      none (subst (λ k. IsSide tables k place) one side.2))
]

pub no_side_at_all : (tables : List Table) (keys : List ForeignKey) (place number : ℕ) → length keys ≤ number → ((j : ℕ) → j < number → ¬ IsSideAt tables keys place j) → (j : ℕ) → ¬ IsSideAt tables keys place j
no_side_at_all tables keys place number past before j side = before j (let within : j < length keys = stands_within side.0 keys j side.1 in omega arith) side

-- what the code reads of a table is the table at its place
read_table : (tables : List Table) (place : ℕ) (table : Table) → place < length tables → table ≡ get_or tables place table → table_at tables place ≡ table
read_table tables place table below is = get_or_default tables place no_table table below ∙ sym is

-- a table without a foreign key on one of its columns alone is no binary relation
module _ (tables : List Table) (place : ℕ) (table : Table) (keys : List ForeignKey) (below : place < length tables) (is : table ≡ get_or tables place table) (foreign : keys ≡ table.foreign) where
  keys_at : (table_at tables place).foreign ≡ keys
  keys_at = ap (λ t. t.foreign) (read_table tables place table below is) ∙ sym foreign

  pub without_left : ((number : ℕ) → ¬ IsSideAt tables keys 0 number) → (sides : Binary) → ¬ IsBinaryRelation tables place sides
  without_left none sides relation = none sides.left (subst (λ ks. IsSideAt tables ks 0 sides.left) keys_at relation.left)

  pub without_right : ((number : ℕ) → ¬ IsSideAt tables keys 1 number) → (sides : Binary) → ¬ IsBinaryRelation tables place sides
  without_right none sides relation = none sides.right (subst (λ ks. IsSideAt tables ks 1 sides.right) keys_at relation.right)

pub if_none : {T : Type 0} {P : Type 0} (r : Option T) → P → IfNone r P
if_none None p = p
if_none (Some x) p = tt
