use Rattle.std.proofs.Common.{◌∙◌, IsTrue, List, ℕ, subst, sym}
use Rattle.names_dm.specs.Terminals.{is_variable}
use Rattle.pattern_parts_dm.proofs.TextLemmas.{second_text, second_is_variable}
use Rattle.pattern_parts_dm.proofs.variables.second_variable.Goals as goal

pub reserved-requires : goal.reserved-requires
reserved-requires c = subst (λ (t : List ℕ). IsTrue (is_variable t)) (sym (c.in_ok-from_str.ensures.chars ∙ second_text)) second_is_variable

pub returns : goal.returns
returns c = c.reserved.ensures ∙ c.in_ok-from_str.ensures.chars ∙ second_text
