-- A query has one text of lines.
use Rattle.std.proofs.Common.{◌≡◌, ◌∙◌, ℕ, List, ◌++◌, map, ap, subst, sym}
use Rattle.std.specs.Cmp.{IsTotalOrder, nat_cmp_total}
use Rattle.std.specs.Cmp.Lexicographic.{lists_total, slice_cmp}
use Rattle.std.specs.List.{flat_map}
use Rattle.std.specs.Ordering.{nat_cmp, ordering_reverse}
use Rattle.std.specs.declared.cmp.Ordering.TheVariants.{Less}
use Rattle.members_dm.specs.Membership.{IsIn}
use Rattle.members_dm.proofs.MembershipLemmas.{IsIn-map, map-IsIn, rising_unique}
use Rattle.names_dm.specs.Variables.{variable_of}
use Rattle.schema_dm.specs.Naming.{Name}
use Rattle.table_csv.specs.Databases.{Data}
use Rattle.algebra_dm.specs.Attributes.{HasAttribute}
use Rattle.algebra_dm.specs.declared.query.Query.{Query}
use Rattle.algebra_dm.proofs.RisingLemmas.{lists_unique}
use Rattle.tsv_dm.specs.Cells.{cell_text, name_cell}
use Rattle.tsv_dm.specs.Lines.{IsBefore, Row, line}
use Rattle.query_lines_dm.specs.Lines.{AreLinesOf, AreQueryLines, IsTermRow, TermRow}

one_way : (x y : Row) → IsBefore x y → ¬ IsBefore y x
unfolding IsBefore
one_way x y a b =
    let o : IsTotalOrder (slice_cmp (slice_cmp nat_cmp)) = lists_total (lists_total nat_cmp_total) in
    let s : Less ≡ ordering_reverse Less = sym a ∙ o.antisymm x y ∙ ap ordering_reverse b in cc

-- the same rows of terms have the same rows of texts
same_texts : (rows others : List TermRow) → ((row : TermRow) → IsIn row rows → IsIn row others) → (x : Row) → IsIn x (map (map cell_text) rows) → IsIn x (map (map cell_text) others)
same_texts rows others within x h =
    let found = IsIn-map (map cell_text) x rows h in
    subst (λ (y : Row). IsIn y (map (map cell_text) others)) found.2 (map-IsIn (map cell_text) found.0 others (within found.0 found.1))

pub lines_one : (header : List (List ℕ)) (IsRow : TermRow → Type 0) (text other : List ℕ) → AreLinesOf header IsRow text → AreLinesOf header IsRow other → text ≡ other
lines_one header IsRow text other h k =
    let there = same_texts h.rows k.rows (λ row m. (k.exact row).1 ((h.exact row).0 m)) in
    let back = same_texts k.rows h.rows (λ row m. (h.exact row).1 ((k.exact row).0 m)) in
    let a = h.lines.are_rising in
    let b = k.lines.are_rising in
    let rows : h.lines.rows ≡ k.lines.rows = rising_unique IsBefore one_way h.lines.rows k.lines.rows a.rising b.rising (λ x. (
      (λ m. (b.same x).1 (there x ((a.same x).0 m))),
      (λ m. (a.same x).1 (back x ((b.same x).0 m))),
    )) in
    h.lines.lines ∙ ap (λ (rows : List Row). line (map name_cell header) ++ flat_map line rows) rows ∙ sym k.lines.lines

pub query_lines_one : (D : Data) (q : Query) (text other : List ℕ) → AreQueryLines D q text → AreQueryLines D q other → text ≡ other
query_lines_one D q text other h k =
    let names : k.names ≡ h.names = lists_unique (HasAttribute D.tables q) k.names h.names k.attributes h.attributes in
    lines_one (map variable_of h.names) (IsTermRow D q h.names) text other h.lines (subst (λ (ns : List Name). AreLinesOf (map variable_of ns) (IsTermRow D q ns) other) names k.lines)
