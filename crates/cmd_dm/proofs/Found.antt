-- The tables of violations that are found.
use Rattle.std.proofs.Common.{◌≡◌, ◌≤◌, ◌<◌, ◌+◌, ℕ, List, length, arith, subst}
use Rattle.std.specs.Prelude.{All}
use Rattle.members_dm.specs.Membership.{IsIn}
use Rattle.members_dm.specs.Places.{Place, IsListing}
use Rattle.members_dm.proofs.AnyLemmas.{all_from_items}
use Rattle.members_dm.proofs.MembershipLemmas.{IsIn-map}
use Rattle.table_csv.specs.Databases.{Data}
use Rattle.clean_dm.specs.Kept.{RowsExist}
use Rattle.clean_dm.specs.declared.removal.Removal.{Removal}
use Rattle.keys_dm.specs.Violations.{ViolatesAt}
use Rattle.keys_dm.specs.declared.violation.Violation.{Violation}

-- the number of the table is one of the database's, from 1
abbrev IsOfTable : Data → Violation → Type 0
IsOfTable D violation = (0 < violation.table) × (violation.table ≤ length D.tables)

pub listed_tables : (D : Data) (found : List Violation) → IsListing (ViolatesAt D) found → All (λ violation. (0 < violation.table) × (violation.table ≤ length D.tables)) found
listed_tables D found h = all_from_items (IsOfTable D) found (λ violation m.
    let there : (a : Place × Violation) × IsIn {X = Place × Violation} a h.placed × (a.1 ≡ violation) =
    IsIn-map (λ (a : Place × Violation). a.1) violation h.placed (subst (λ (l : List Violation). IsIn violation l) h.items m) in
    let at : ViolatesAt D there.0.0 there.0.1 = (h.exact there.0.0 there.0.1).0 there.1 in
    subst (IsOfTable D) there.2 (of_table there.0.1 at.t at.in_table at.violates.table))
  where
    of_table : (violation : Violation) (t : ℕ) → t < length D.tables → violation.table ≡ t + 1 → IsOfTable D violation
    of_table violation t below is = (omega (arith, is), omega (arith, below, is))

-- the same of a removal
abbrev IsRemovedFrom : Data → Removal → Type 0
IsRemovedFrom D removal = (0 < removal.table) × (removal.table ≤ length D.tables)

pub removed_tables : (D : Data) (removals : List Removal) → RowsExist D removals → All (λ removal. (0 < removal.table) × (removal.table ≤ length D.tables)) removals
removed_tables D removals exist = all_from_items (IsRemovedFrom D) removals (λ removal m.
    let found = exist removal m in
    let table : removal.table ≡ found.0 + 1 = found.2.0 in
    let below : found.0 < length D.tables = found.3 in
    (omega arith, omega arith))
