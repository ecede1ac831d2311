use Rattle.translate_dm.proofs.translation.+translated.Given as goal

abbrev pub decreases-translated : goal.decreases-translated
decreases-translated l = goal.size-translated l
