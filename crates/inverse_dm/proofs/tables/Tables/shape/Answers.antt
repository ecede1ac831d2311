use Rattle.std.proofs.Common.{sym}
use Rattle.inverse_dm.proofs.TableParts.{shape_seen}
use Rattle.inverse_dm.proofs.tables.Tables.shape.Goals as goal

pub returns : goal.returns
returns c = shape_seen c.args.self.now c.self.inside.shape c.self.inside.rows (sym c.self.view_is) c.self.invariant
