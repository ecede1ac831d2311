use Rattle.value_dm.proofs.forms.+push_short_fraction.Given as goal

abbrev pub decreases-push_short_fraction : goal.decreases-push_short_fraction
decreases-push_short_fraction l = l.count
