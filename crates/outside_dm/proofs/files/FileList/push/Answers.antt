use Rattle.std.specs.Prelude.{is_ok}
use Rattle.outside_dm.proofs.Named.{HasDistinctNames-pushed}
use Rattle.outside_dm.proofs.files.FileList.push.Goals as goal

pub invariant_of-self : goal.invariant_of-self
invariant_of-self c = HasDistinctNames-pushed (is_ok c.push.result) _ _ c.args.item c.push.ensures.items c.self.invariant (rw (← c.self.view_is) at c.requires)
