use Rattle.std.proofs.Common.{◌≡◌, ◌∙◌, ◌+◌, ◌<◌, ap, get_or, length, List, [], ℕ, subst, true, false}
use Rattle.table_csv.specs.Cells.{Row}
use Rattle.table_csv.specs.Databases.{rows_at}
use Rattle.table_csv.proofs.Zips.{one_read}
use Rattle.keys_dm.specs.KeyCells.{row_at}
use Rattle.clean_dm.specs.Checking.{HoldsFrom, RowAgrees}
use Rattle.clean_dm.specs.Parts.{DanglesIn}
use Rattle.clean_dm.specs.Removing.{IsLeft}
use Rattle.clean_dm.proofs.CheckingLemmas.{below_one_more, row_agrees, turn_below}
use Rattle.clean_dm.proofs.checking.key_agrees.Goals as goal

pub agrees_at-requires : goal.agrees_at-requires
agrees_at-requires c = turn_below c.args.removals.now c.args.turns.now c.requires.turns c.args.table c.loop-position.position c.get.result c.get.ensures

pub returns-then-not-agrees_at : goal.returns-then-not-agrees_at
returns-then-not-agrees_at c =
    let D = c.args.database.now in
    let key = c.args.key.now in
    let removals = c.args.removals.now in
    let turns = c.args.turns.now in
    let position = c.loop-position.position in
    let items : c.as_slice-row-items.result.now ≡ rows_at D.rows c.args.table = c.as_slice-row-items.ensures ∙ c.rows_of-2.ensures.value in
    let below : position < length (rows_at D.rows c.args.table) = rw items at c.loop-position-test.true in
    let row : c.as_slice-cells.result.now ≡ row_at (rows_at D.rows c.args.table) position =
    c.as_slice-cells.ensures ∙ c.row-item.is ∙ ap (λ (rows : List Row). get_or rows position c.row-item.result) items ∙ one_read (rows_at D.rows c.args.table) position c.row-item.result [] below in
    let holds = subst (λ (r : Row). HoldsFrom removals (λ made. DanglesIn (IsLeft made key.target) (rows_at D.rows key.target) key r) c.dangles_from-from.result) row c.dangles_from-from.ensures.from in
    let agrees = row_agrees D removals turns c.args.table position (c.args.place + 1) c.dangles_from-from.result key holds c.requires.turns in
    let tells = rw (c.get.ensures, c.requires.number) at c.agrees_at.ensures in (
      (λ h. absurd (let no : false ≡ true = h in cc)),
      (λ all. absurd (let yes : c.agrees_at.result ≡ true = tells.1 (agrees.1 (all position below)) in let no = c.if-not-agrees_at.true in cc)),
    )

pub loop-position-preserved : goal.loop-position-preserved
loop-position-preserved c =
    let D = c.args.database.now in
    let key = c.args.key.now in
    let removals = c.args.removals.now in
    let turns = c.args.turns.now in
    let position = c.loop-position.position in
    let items : c.as_slice-row-items.result.now ≡ rows_at D.rows c.args.table = c.as_slice-row-items.ensures ∙ c.rows_of-2.ensures.value in
    let below : position < length (rows_at D.rows c.args.table) = rw items at c.loop-position-test.true in
    let row : c.as_slice-cells.result.now ≡ row_at (rows_at D.rows c.args.table) position =
    c.as_slice-cells.ensures ∙ c.row-item.is ∙ ap (λ (rows : List Row). get_or rows position c.row-item.result) items ∙ one_read (rows_at D.rows c.args.table) position c.row-item.result [] below in
    let holds = subst (λ (r : Row). HoldsFrom removals (λ made. DanglesIn (IsLeft made key.target) (rows_at D.rows key.target) key r) c.dangles_from-from.result) row c.dangles_from-from.ensures.from in
    let agrees = row_agrees D removals turns c.args.table position (c.args.place + 1) c.dangles_from-from.result key holds c.requires.turns in
    let tells = rw (c.get.ensures, c.requires.number) at c.agrees_at.ensures in (
      below_one_more (λ (i : ℕ). RowAgrees D removals turns c.args.table i (c.args.place + 1) key) position c.loop-position.invariant.0 (agrees.0 (tells.0 c.if-not-agrees_at.false)),
      c.dangles_from-from.ensures.known,
      c.dangles_from-from.ensures.many ∙ c.loop-position.invariant.2,
    )
