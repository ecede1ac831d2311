use Rattle.query_rows_dm.proofs.evaluation.+relation_of.Given as goal

abbrev pub decreases-relation_of : goal.decreases-relation_of
decreases-relation_of l = goal.size-relation_of l
