-- The limits of the tables that were made.
use Rattle.std.proofs.Common.{ℕ, ◌<◌, List, length, map, sym, subst, Any}
use Rattle.std.proofs.lemmas.List.{length-map}
use Rattle.members_dm.proofs.AnyLemmas.{any_from_item, item_from_any}
use Rattle.members_dm.proofs.MembershipLemmas.{IsIn-map, map-IsIn}
use Rattle.table_csv.specs.Plain.{PlainTable}
use Rattle.graph_tables_dm.specs.TableReadings.{plain_of}
use Rattle.graph_tables_dm.specs.declared.table.GraphTable.{GraphTable}
use Rattle.inverse_dm.specs.Limits.{HasLongTable, HasManyTables, HasWideTable}

pub many_made : (made : List GraphTable) → 4096 < length made → HasManyTables (map plain_of made)
many_made made h = subst (λ (n : ℕ). 4096 < n) (sym (length-map made plain_of)) h

pub many_back : (made : List GraphTable) → HasManyTables (map plain_of made) → 4096 < length made
many_back made h = subst (λ (n : ℕ). 4096 < n) (length-map made plain_of) h

pub wide_made : (made : List GraphTable) → Any (λ (m : GraphTable). 256 < length m.table.columns) made → HasWideTable (map plain_of made)
wide_made made h = let found = item_from_any (λ (m : GraphTable). 256 < length m.table.columns) made h in (plain_of found.0, map-IsIn plain_of found.0 made found.1, found.2)

pub wide_back : (made : List GraphTable) → HasWideTable (map plain_of made) → Any (λ (m : GraphTable). 256 < length m.table.columns) made
wide_back made h =
    let found = IsIn-map plain_of h.0 made h.1 in
    any_from_item (λ (m : GraphTable). 256 < length m.table.columns) found.0 made found.1 (subst (λ (p : PlainTable). 256 < length p.shape.columns) (sym found.2) h.2)

pub long_made : (made : List GraphTable) → Any (λ (m : GraphTable). 4194304 < length m.rows) made → HasLongTable (map plain_of made)
long_made made h = let found = item_from_any (λ (m : GraphTable). 4194304 < length m.rows) made h in (plain_of found.0, map-IsIn plain_of found.0 made found.1, found.2)

pub long_back : (made : List GraphTable) → HasLongTable (map plain_of made) → Any (λ (m : GraphTable). 4194304 < length m.rows) made
long_back made h =
    let found = IsIn-map plain_of h.0 made h.1 in
    any_from_item (λ (m : GraphTable). 4194304 < length m.rows) found.0 made found.1 (subst (λ (p : PlainTable). 4194304 < length p.rows) (sym found.2) h.2)
