use Rattle.std.proofs.Common.{◌∙◌, ap, map}
use Rattle.store_dm.specs.declared.matches.Beginning.TheVariants.{Predicate, Object}
use Rattle.store_dm.specs.Turns.{turn}
use Rattle.store_dm.proofs.TurnLemmas.{turned_same}
use Rattle.store_dm.proofs.graph.graph_of.Goals as goal

pub invariant_of-result : goal.invariant_of-result
invariant_of-result c =
    let triads = c.args.triads.items in
    record {
      turned = record {
        predicates = turned_same Predicate triads c.in_ok-predicates.predicates.items c.in_ok-by_subject.by_subject c.in_ok-by_predicate.by_predicate
            (c.in_ok-predicates.ensures ∙ ap (map (turn Predicate)) c.as_slice.ensures.value) c.in_ok-by_predicate.ensures c.in_ok-by_subject.ensures;
        objects = turned_same Object triads c.in_ok-objects.objects.items c.in_ok-by_subject.by_subject c.in_ok-by_object.by_object
            (c.in_ok-objects.ensures ∙ ap (map (turn Object)) c.as_slice-2.ensures.value) c.in_ok-by_object.ensures c.in_ok-by_subject.ensures;
      };
      used = λ x m. let r = c.requires.used x m in (r.0, (c.in_ok-by_subject.ensures r.0).1 r.1, r.2);
      named = λ n m. c.requires.named n ((c.in_ok-by_subject.ensures n).0 m);
      small = c.requires.small;
      apart = c.requires.apart;
    }
