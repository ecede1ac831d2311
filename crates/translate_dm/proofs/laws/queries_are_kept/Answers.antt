use Rattle.graphs_dm.specs.Graphs.{IsTripleOf}
use Rattle.algebra_dm.specs.Tuples.{IsTuple}
use Rattle.keeping_dm.proofs.KeepLemmas.{keeps_exact}
use Rattle.table_patterns_dm.specs.TablePatterns.{graph_of}
use Rattle.translate_dm.proofs.PreservationLemmas.{query_kept}
use Rattle.translate_dm.proofs.SomeTranslation.{translation_some}
use Rattle.translate_dm.proofs.UniqueLemmas.{translates_unique}
use Rattle.translate_dm.proofs.laws.queries_are_kept.Goals as goal

pub returns-clause-keeps : goal.returns-clause-keeps
returns-clause-keeps c = λ mode D q p db keys wf lawful is. keeps_exact (IsTripleOf (graph_of mode) c.args.base.now D) p (IsTuple D q)
    (query_kept mode c.args.base.now D db c.naming_laws.ensures keys q p wf.faultless lawful is)

pub returns-clause-some : goal.returns-clause-some
returns-clause-some c = λ mode tables q schema formed. translation_some mode c.args.base.now tables q schema formed

pub returns-clause-one : goal.returns-clause-one
returns-clause-one c = λ mode tables q p other schema is also. translates_unique mode c.args.base.now tables schema q p other is also
