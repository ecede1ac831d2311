use Rattle.outside_dm.proofs.Named.{lacks_where_none}
use Rattle.outside_dm.proofs.files.FileList.lacks.Goals as goal

pub returns : goal.returns
returns c =
    rw (← c.self.view_is, ← c.as_slice.ensures.value)
    (lacks_where_none _ _ c.place_of.result c.is_none.result c.place_of.ensures.found c.place_of.ensures.none c.is_none.ensures)
