use Rattle.cmd_dm.proofs.Lines.{passes_same, refusal_line}
use Rattle.cmd_dm.proofs.fault_line.put_refusal.Goals as goal

pub returns : goal.returns
returns g c = passes_same (refusal_line c.args.reason.now _ _ c.from.ensures c.cause_name.ensures) (record { writes = c.put_pieces.ensures.writes; short = c.put_pieces.ensures.short })
