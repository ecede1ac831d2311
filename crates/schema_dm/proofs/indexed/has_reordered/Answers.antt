use Rattle.std.proofs.Common.{refl}
use Rattle.schema_dm.proofs.SortedLists.{none_reordered, reordered_found}
use Rattle.schema_dm.proofs.indexed.has_reordered.Goals as goal

pub returns-in-None : goal.returns-in-None
returns-in-None c = λ names all form forms. ((λ no. cc), (λ found. absurd (none_reordered names c.args.sorted.now form all c.args.lists.now forms c.in-None.ensures found)))

pub returns-in-Some : goal.returns-in-Some
returns-in-Some c = λ names all form forms. ((λ _. reordered_found names c.args.sorted.now form all c.args.lists.now _ forms c.in-Some.ensures.0), (λ _. refl))
