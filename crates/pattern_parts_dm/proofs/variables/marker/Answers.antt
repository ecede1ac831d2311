use Rattle.std.proofs.Common.{◌∙◌, IsTrue, List, ℕ, subst, sym}
use Rattle.names_dm.specs.Terminals.{is_variable}
use Rattle.pattern_parts_dm.proofs.TextLemmas.{marker_text, marker_variable}
use Rattle.pattern_parts_dm.proofs.variables.marker.Goals as goal

pub reserved-requires : goal.reserved-requires
reserved-requires c = subst (λ (t : List ℕ). IsTrue (is_variable t)) (sym (c.in_ok-from_str.ensures.chars ∙ marker_text)) marker_variable

pub returns : goal.returns
returns c = c.reserved.ensures ∙ c.in_ok-from_str.ensures.chars ∙ marker_text
