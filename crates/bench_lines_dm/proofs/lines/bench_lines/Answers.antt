use Rattle.std.proofs.Common.{◌∙◌, subst, sym}
use Rattle.table_csv.specs.Databases.{Data}
use Rattle.keys_dm.specs.Violations.{KeepsKeys}
use Rattle.algebra_dm.specs.Nodes.{IsWellFormed}
use Rattle.algebra_dm.specs.declared.query.Query.{Query}
use Rattle.bench_lines_dm.specs.Bench.{answer_query, joined_query}
use Rattle.bench_lines_dm.proofs.FormedQueries.{answer_formed, joined_formed}
use Rattle.bench_lines_dm.proofs.lines.bench_lines.Goals as goal

pub map_triples-requires : goal.map_triples-requires
map_triples-requires c = subst (λ (D : Data). KeepsKeys D) (sym c.in_ok-database.ensures.made) c.in_ok-database.ensures.kept

pub is_inverted-requires-clause-kept : goal.is_inverted-requires-clause-kept
is_inverted-requires-clause-kept c = subst (λ (D : Data). KeepsKeys D) (sym c.in_ok-database.ensures.made) c.in_ok-database.ensures.kept

pub answer_of-requires-clause-formed : goal.answer_of-requires-clause-formed
answer_of-requires-clause-formed c =
    subst (λ (q : Query). IsWellFormed c.in_ok-database.database.tables q) (sym (c.get.ensures ∙ c.in_ok-answer.ensures))
    (subst (λ (D : Data). IsWellFormed D.tables answer_query) (sym c.in_ok-database.ensures.made) answer_formed)

pub answer_of-requires-clause-kept : goal.answer_of-requires-clause-kept
answer_of-requires-clause-kept c = subst (λ (D : Data). KeepsKeys D) (sym c.in_ok-database.ensures.made) c.in_ok-database.ensures.kept

pub answer_of-requires-2-clause-formed : goal.answer_of-requires-2-clause-formed
answer_of-requires-2-clause-formed c =
    subst (λ (q : Query). IsWellFormed c.in_ok-database.database.tables q) (sym (c.get-2.ensures ∙ c.in_ok-join.ensures))
    (subst (λ (D : Data). IsWellFormed D.tables joined_query) (sym c.in_ok-database.ensures.made) joined_formed)

pub answer_of-requires-2-clause-kept : goal.answer_of-requires-2-clause-kept
answer_of-requires-2-clause-kept c = subst (λ (D : Data). KeepsKeys D) (sym c.in_ok-database.ensures.made) c.in_ok-database.ensures.kept
