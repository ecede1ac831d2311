use Rattle.std.proofs.Common.{List, map, subst, sym, ap, ◌∙◌}
use Rattle.roles_dm.proofs.NumberLemmas.{contains_from_in, in_from_contains}
use Rattle.roles_dm.proofs.NumberedLemmas.{named_numbers}
use Rattle.roles_dm.specs.Numbered.{AreNumbers, of_triad}
use Rattle.roles_dm.specs.declared.numbered.Numbered.{Numbered}
use Rattle.roles_dm.proofs.numbers.graph_of.Goals as goal

pub returns-clause-graph : goal.returns-clause-graph
returns-clause-graph c =
    let same = c.in_ok-graph.ensures.built in
    record {
      lawful = c.len-count.ensures.lawful;
      same = λ t. ((λ h. in_from_contains t c.args.triples.now ((same t).0 h)), (λ h. (same t).1 (contains_from_in t c.args.triples.now h)));
    }

pub returns-clause-numbers : goal.returns-clause-numbers
returns-clause-numbers c =
    let g = c.in_ok-graph.field-0.graph in
    subst (λ (numbers : List Numbered). AreNumbers g c.args.triples.now numbers) (sym (c.in_ok-numbers.ensures ∙ ap (map of_triad) c.as_slice.ensures.value))
    (named_numbers g c.in_ok-graph.field-0.triads.items c.args.triples.now c.in_ok-graph.ensures.numbers)
