use Rattle.outside_dm.proofs.Named.{NoneNamed-take}
use Rattle.outside_dm.proofs.files.place_of.Goals as goal

pub loop-place-preserved : goal.loop-place-preserved
loop-place-preserved c = NoneNamed-take _ _ _ _ c.loop-place-test.true c.index-files-place.is (λ e. cc (c.has_name.ensures.1 e)) c.loop-place.invariant
