use Rattle.std.proofs.Common.{◌≡◌, ◌∙◌, List, Some, None, Option, sym, ap, subst}
use Rattle.std.proofs.lemmas.Result.{IfOk-weaker}
use Rattle.names_dm.specs.Statements.{Statement}
use Rattle.names_dm.specs.declared.term.Term.{Term}
use Rattle.facts_dm.specs.Facts.{link_iri, rel_link}
use Rattle.facts_dm.specs.Vocabulary.{word_iri}
use Rattle.facts_dm.specs.declared.word.Word.TheVariants.{RdfsDomain, RdfsRange}
use Rattle.store_dm.specs.Terms.{term_at}
use Rattle.roles_dm.specs.Links.{TellsEnds, TellsOnlyClass, TellsRelation}
use Rattle.roles_dm.specs.Naming.{NamesRelation}
use Rattle.roles_dm.specs.Numbers.{AreDatatypes, AreWords, IsGraphOf}
use Rattle.roles_dm.specs.Relations.{AreRelations}
use Rattle.roles_dm.specs.declared.role.LinkRole.{LinkRole}
use Rattle.roles_dm.proofs.ColumnLemmas.{fails}
use Rattle.roles_dm.proofs.LinkLemmas.{ended, no_relation, relation_not_sole, relation_without_domain, relation_without_range, stated}
use Rattle.roles_dm.proofs.links.relation_of.Goals as goal

unsome : (x y : Term) → Some x ≡ Some y → x ≡ y
unsome x y e = cc

pub returns-in_default : goal.returns-in_default
returns-in_default c G x is words datatypes relations at = subst (λ y. TellsRelation c.args.base.now c.args.graph.now G y None) (unsome c.term_of.result.now x (sym c.term_of.ensures ∙ at)) (no_relation c.args.base.now c.naming_laws.ensures c.args.graph.now G is c.args.words.now words c.term_of.result.now c.args.number c.term_of.ensures (subst (NamesRelation c.args.base.now c.term_of.result.now) c.in_default.is c.in_ok-name.ensures))

pub returns-then-not-sole : goal.returns-then-not-sole
returns-then-not-sole c G x is words datatypes relations at =
    let told = subst (NamesRelation c.args.base.now c.term_of.result.now) c.in-Some.is c.in_ok-name.ensures in
    subst (λ y. TellsRelation c.args.base.now c.args.graph.now G y None) (unsome c.term_of.result.now x (sym c.term_of.ensures ∙ at)) (relation_not_sole c.args.base.now c.naming_laws.ensures c.args.graph.now G is c.args.words.now words c.term_of.result.now c.args.number c.term_of.ensures c.in-Some.name told.1 (fails c.in_ok-sole.sole (c.in_ok-sole.ensures G is words relations (stated c.args.base.now c.naming_laws.ensures c.args.graph.now G is c.args.words.now words c.term_of.result.now c.args.number c.term_of.ensures c.in-Some.name told.1 c.requires.typed told)) c.if-not-sole.true))

pub returns-in_default-2 : goal.returns-in_default-2
returns-in_default-2 c G x is words datatypes relations at =
    let told = subst (NamesRelation c.args.base.now c.term_of.result.now) c.in-Some.is c.in_ok-name.ensures in
    subst (λ y. TellsRelation c.args.base.now c.args.graph.now G y None) (unsome c.term_of.result.now x (sym c.term_of.ensures ∙ at)) (relation_without_domain c.args.base.now c.naming_laws.ensures c.args.graph.now G is c.args.words.now words c.term_of.result.now c.args.number c.term_of.ensures c.in-Some.name told.1 (subst (TellsOnlyClass c.args.base.now c.args.graph.now G (link_iri c.args.base.now (rel_link c.in-Some.name)) (word_iri RdfsDomain)) c.in_default-2.is (c.in_ok-from.ensures G (link_iri c.args.base.now (rel_link c.in-Some.name)) (word_iri RdfsDomain) is words (c.term_of.ensures ∙ ap Some told.1) words.domain)))

pub returns-in_default-3 : goal.returns-in_default-3
returns-in_default-3 c G x is words datatypes relations at =
    let told = subst (NamesRelation c.args.base.now c.term_of.result.now) c.in-Some.is c.in_ok-name.ensures in
    subst (λ y. TellsRelation c.args.base.now c.args.graph.now G y None) (unsome c.term_of.result.now x (sym c.term_of.ensures ∙ at)) (relation_without_range c.args.base.now c.naming_laws.ensures c.args.graph.now G is c.args.words.now words c.term_of.result.now c.args.number c.term_of.ensures c.in-Some.name told.1 (subst (TellsOnlyClass c.args.base.now c.args.graph.now G (link_iri c.args.base.now (rel_link c.in-Some.name)) (word_iri RdfsRange)) c.in_default-3.is (c.in_ok-to.ensures G (link_iri c.args.base.now (rel_link c.in-Some.name)) (word_iri RdfsRange) is words (c.term_of.ensures ∙ ap Some told.1) words.range)))

pub returns : goal.returns
returns c = IfOk-weaker c.with_ends.result
    (λ (found : Option LinkRole). (G : List Statement) → IsGraphOf c.args.graph.now G → AreWords c.args.graph.now c.args.words.now → AreDatatypes c.args.graph.now c.args.datatypes.now → TellsEnds c.args.base.now c.args.graph.now G c.in-Some.name c.in-Some-2.from c.in-Some-3.to found)
    (λ (found : Option LinkRole). (G : List Statement) (x : Term) → IsGraphOf c.args.graph.now G → AreWords c.args.graph.now c.args.words.now → AreDatatypes c.args.graph.now c.args.datatypes.now → AreRelations c.args.base.now c.args.graph.now G c.args.relations.now → term_at c.args.graph.now.terms c.args.number ≡ Some x → TellsRelation c.args.base.now c.args.graph.now G x found)
    (λ found ends G x is words datatypes relations at.
    let told = subst (NamesRelation c.args.base.now c.term_of.result.now) c.in-Some.is c.in_ok-name.ensures in
    subst (λ y. TellsRelation c.args.base.now c.args.graph.now G y found) (unsome c.term_of.result.now x (sym c.term_of.ensures ∙ at))
    (ended c.args.base.now c.naming_laws.ensures c.args.graph.now G is c.args.words.now words c.term_of.result.now c.args.number c.term_of.ensures c.in-Some.name told.1 c.in-Some-2.from c.in-Some-3.to (subst (TellsOnlyClass c.args.base.now c.args.graph.now G (link_iri c.args.base.now (rel_link c.in-Some.name)) (word_iri RdfsDomain)) c.in-Some-2.is (c.in_ok-from.ensures G (link_iri c.args.base.now (rel_link c.in-Some.name)) (word_iri RdfsDomain) is words (c.term_of.ensures ∙ ap Some told.1) words.domain)) (subst (TellsOnlyClass c.args.base.now c.args.graph.now G (link_iri c.args.base.now (rel_link c.in-Some.name)) (word_iri RdfsRange)) c.in-Some-3.is (c.in_ok-to.ensures G (link_iri c.args.base.now (rel_link c.in-Some.name)) (word_iri RdfsRange) is words (c.term_of.ensures ∙ ap Some told.1) words.range)) found told c.requires.typed
    ((c.in_ok-sole.ensures G is words relations (stated c.args.base.now c.naming_laws.ensures c.args.graph.now G is c.args.words.now words c.term_of.result.now c.args.number c.term_of.ensures c.in-Some.name told.1 c.requires.typed told)).0 c.if-not-sole.false) (ends G is words datatypes)))
    c.with_ends.ensures
