use Rattle.std.proofs.Common.{◌≡◌, ◌∙◌, Some, None, sym, ap, subst}
use Rattle.names_dm.specs.declared.term.Term.{Term}
use Rattle.facts_dm.specs.Facts.{link_iri, ref_link}
use Rattle.facts_dm.specs.Vocabulary.{word_iri}
use Rattle.facts_dm.specs.declared.word.Word.TheVariants.{RdfsRange}
use Rattle.roles_dm.specs.Links.{TellsOnlyClass, TellsReference}
use Rattle.roles_dm.specs.Naming.{NamesReference}
use Rattle.roles_dm.specs.Roles.{IsLinkRole, TellsClassNumber}
use Rattle.roles_dm.specs.declared.role.LinkName.TheVariants.{Reference}
use Rattle.roles_dm.proofs.ColumnLemmas.{fails}
use Rattle.roles_dm.proofs.LinkLemmas.{no_reference, reference_told, reference_without_class, reference_without_columns, reference_without_domain, reference_without_range}
use Rattle.roles_dm.proofs.links.reference_of.Goals as goal

unsome : (x y : Term) → Some x ≡ Some y → x ≡ y
unsome x y e = cc

pub returns-in_default : goal.returns-in_default
returns-in_default c G x is words datatypes at = subst (λ y. TellsReference c.args.base.now c.args.graph.now G y None) (unsome c.term_of.result.now x (sym c.term_of.ensures ∙ at)) (no_reference c.args.base.now c.naming_laws.ensures c.args.graph.now G is c.args.words.now words c.term_of.result.now c.args.number c.term_of.ensures (subst (NamesReference c.args.base.now c.term_of.result.now) c.in_default.is c.in_ok-name.ensures))

pub returns-in_default-2 : goal.returns-in_default-2
returns-in_default-2 c G x is words datatypes at =
    let told = subst (NamesReference c.args.base.now c.term_of.result.now) c.in-Some.is c.in_ok-name.ensures in
    subst (λ y. TellsReference c.args.base.now c.args.graph.now G y None) (unsome c.term_of.result.now x (sym c.term_of.ensures ∙ at)) (reference_without_class c.args.base.now c.naming_laws.ensures c.args.graph.now G is c.args.words.now words c.term_of.result.now c.args.number c.term_of.ensures c.in-Some.name told.1 (subst (TellsClassNumber c.args.base.now c.args.graph.now G c.in-Some.name.table) c.in_default-2.is (c.in_ok-from.ensures G is words)))

pub returns-then-not-has : goal.returns-then-not-has
returns-then-not-has c G x is words datatypes at =
    let told = subst (NamesReference c.args.base.now c.term_of.result.now) c.in-Some.is c.in_ok-name.ensures in
    let class = subst (TellsClassNumber c.args.base.now c.args.graph.now G c.in-Some.name.table) c.in-Some-2.is (c.in_ok-from.ensures G is words) in
    subst (λ y. TellsReference c.args.base.now c.args.graph.now G y None) (unsome c.term_of.result.now x (sym c.term_of.ensures ∙ at)) (reference_without_domain c.args.base.now c.naming_laws.ensures c.args.graph.now G is c.args.words.now words c.term_of.result.now c.args.number c.term_of.ensures c.in-Some.name told.1 c.in-Some-2.from class.0 (fails c.has.result c.has.ensures c.if-not-has.true))

pub returns-in_default-3 : goal.returns-in_default-3
returns-in_default-3 c G x is words datatypes at =
    let told = subst (NamesReference c.args.base.now c.term_of.result.now) c.in-Some.is c.in_ok-name.ensures in
    subst (λ y. TellsReference c.args.base.now c.args.graph.now G y None) (unsome c.term_of.result.now x (sym c.term_of.ensures ∙ at)) (reference_without_range c.args.base.now c.naming_laws.ensures c.args.graph.now G is c.args.words.now words c.term_of.result.now c.args.number c.term_of.ensures c.in-Some.name told.1 (subst (TellsOnlyClass c.args.base.now c.args.graph.now G (link_iri c.args.base.now (ref_link c.in-Some.name)) (word_iri RdfsRange)) c.in_default-3.is (c.in_ok-to.ensures G (link_iri c.args.base.now (ref_link c.in-Some.name)) (word_iri RdfsRange) is words (c.term_of.ensures ∙ ap Some told.1) words.range)))

pub returns-then-not-good : goal.returns-then-not-good
returns-then-not-good c G x is words datatypes at =
    let told = subst (NamesReference c.args.base.now c.term_of.result.now) c.in-Some.is c.in_ok-name.ensures in
    subst (λ y. TellsReference c.args.base.now c.args.graph.now G y None) (unsome c.term_of.result.now x (sym c.term_of.ensures ∙ at)) (reference_without_columns c.args.base.now c.naming_laws.ensures c.args.graph.now G is c.args.words.now words c.term_of.result.now c.args.number c.term_of.ensures c.in-Some.name told.1 (fails c.in_ok-good.good (c.in_ok-good.ensures G is words datatypes) c.if-not-good.true))

pub returns : goal.returns
returns c G x is words datatypes at =
    let told = subst (NamesReference c.args.base.now c.term_of.result.now) c.in-Some.is c.in_ok-name.ensures in
    let class = subst (TellsClassNumber c.args.base.now c.args.graph.now G c.in-Some.name.table) c.in-Some-2.is (c.in_ok-from.ensures G is words) in
    subst (λ y. IsLinkRole c.args.base.now c.args.graph.now G y (record { name = Reference c.in-Some.name; from = c.in-Some-2.from; to = c.in-Some-3.to.0; left = 0; right = 0 })) (unsome c.term_of.result.now x (sym c.term_of.ensures ∙ at))
    (reference_told c.args.base.now c.naming_laws.ensures c.args.graph.now G is c.args.words.now words c.term_of.result.now c.args.number c.term_of.ensures c.in-Some.name told.1 c.in-Some-2.from c.in-Some-3.to.0 c.in-Some-3.to.1 told.0 c.requires.typed class (c.has.ensures.0 c.if-not-has.false) (subst (TellsOnlyClass c.args.base.now c.args.graph.now G (link_iri c.args.base.now (ref_link c.in-Some.name)) (word_iri RdfsRange)) c.in-Some-3.is (c.in_ok-to.ensures G (link_iri c.args.base.now (ref_link c.in-Some.name)) (word_iri RdfsRange) is words (c.term_of.ensures ∙ ap Some told.1) words.range)) ((c.in_ok-good.ensures G is words datatypes).0 c.if-not-good.false))
