use Rattle.std.proofs.Common.{◌∙◌, sym}
use Rattle.inverse_dm.proofs.TableParts.{fit_seen, rows_seen}
use Rattle.inverse_dm.proofs.tables.Tables.rows.Goals as goal

pub returns-clause-value : goal.returns-clause-value
returns-clause-value c = c.as_slice.ensures ∙ rows_seen c.args.self.now c.self.inside.shape c.self.inside.rows (sym c.self.view_is) c.self.invariant

pub returns-clause-fits : goal.returns-clause-fits
returns-clause-fits c = fit_seen c.args.self.now c.self.inside.shape c.self.inside.rows (sym c.self.view_is) c.self.invariant
