use Rattle.std.proofs.Common.{◌∙◌, Some, ap, subst}
use Rattle.names_dm.specs.Names.{column_iri}
use Rattle.roles_dm.specs.Roles.{TellsDomain, TellsProperty}
use Rattle.roles_dm.proofs.ColumnLemmas.{role_told, unnamed, without_domain, without_kind}
use Rattle.roles_dm.proofs.columns.column_of.Goals as goal

pub returns-in_default : goal.returns-in_default
returns-in_default c G x is words datatypes at = unnamed c.args.base.now c.args.graph.now G is c.args.words.now words c.naming_laws.ensures x (subst (TellsProperty c.args.base.now G x) c.in_default.is (c.in_ok-name.ensures G x is words at))

pub returns-in_default-2 : goal.returns-in_default-2
returns-in_default-2 c G x is words datatypes at =
    let told = subst (TellsProperty c.args.base.now G x) c.in-Some.is (c.in_ok-name.ensures G x is words at) in
    without_domain c.args.base.now c.args.graph.now G is c.args.words.now words c.naming_laws.ensures x c.in-Some.name told.1 (subst (TellsDomain c.args.base.now c.args.graph.now G c.in-Some.name) c.in_default-2.is (c.in_ok-class.ensures G is words (at ∙ ap Some told.1)))

pub returns-in_default-one_kind : goal.returns-in_default-one_kind
returns-in_default-one_kind c G x is words datatypes at =
    let told = subst (TellsProperty c.args.base.now G x) c.in-Some.is (c.in_ok-name.ensures G x is words at) in
    without_kind c.args.base.now c.args.graph.now G is c.args.words.now words c.naming_laws.ensures x c.in-Some.name told.1 (c.in_default-one_kind.ensures c.args.base.now G (column_iri c.args.base.now c.in-Some.name) is words datatypes (at ∙ ap Some told.1))

pub returns : goal.returns
returns c G x is words datatypes at =
    let told = subst (TellsProperty c.args.base.now G x) c.in-Some.is (c.in_ok-name.ensures G x is words at) in
    let domain = subst (TellsDomain c.args.base.now c.args.graph.now G c.in-Some.name) c.in-Some-2.is (c.in_ok-class.ensures G is words (at ∙ ap Some told.1)) in
    let kind = c.in-Some-one_kind.ensures c.args.base.now G (column_iri c.args.base.now c.in-Some.name) is words datatypes (at ∙ ap Some told.1) in
    role_told c.args.base.now c.args.graph.now G is c.args.words.now words c.naming_laws.ensures x (record { name = c.in-Some.name; class = c.in-Some-2.class; kind = c.in-Some-one_kind.kind }) told domain kind
