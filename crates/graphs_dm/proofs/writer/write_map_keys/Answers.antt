use Rattle.graphs_dm.proofs.GraphLevels.{marks_rows}
use Rattle.graphs_dm.proofs.writer.write_map_keys.Goals as goal

pub returns-clause-marks : goal.returns-clause-marks
returns-clause-marks g c = marks_rows c.args.base.now c.args.database.now c.naming_laws.ensures
