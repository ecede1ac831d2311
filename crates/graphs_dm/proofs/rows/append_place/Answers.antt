use Rattle.std.proofs.Common.{◌≡◌, ◌∙◌, None, Some, sym}
use Rattle.std.specs.Prelude.{slice_index_or}
use Rattle.std.proofs.lemmas.List.{get_or_default}
use Rattle.graphs_dm.specs.Heads.{part_head}
use Rattle.graphs_dm.proofs.rows.append_place.Goals as goal
use Rattle.schema_dm.specs.Naming.{name_at}

pub returns-clause-text : goal.returns-clause-text
unfolding part_head
returns-clause-text c =
    let cell : slice_index_or c.args.row.now c.args.place None ≡ Some c.in-Some-Some.value =
    sym (get_or_default c.args.row.now c.args.place c.in-Some-Some.field-0.now None c.in-Some-Some.ensures.lookup.3.0) ∙ sym c.in-Some-Some.ensures.lookup.1 ∙ c.in-Some-Some.field-0-is in
    rw cell (c.in_ok-append_part.ensures (name_at c.args._columns.now c.args.place) c.requires)
