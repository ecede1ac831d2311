use Rattle.std.proofs.Common.{subst}
use Rattle.names_dm.specs.Names.{ref_iri}
use Rattle.names_dm.specs.Reading.{Tells, is_ref_name}
use Rattle.roles_dm.proofs.NameLemmas.{reference_found, reference_missing}
use Rattle.roles_dm.proofs.naming.reference_in.Goals as goal

pub returns-in_default : goal.returns-in_default
returns-in_default c = reference_missing c.args.base.now c.args.iri.now (subst (Tells is_ref_name (ref_iri c.args.base.now) c.args.iri.now) c.in_default.is c.in_ok-name.ensures.names)

pub returns : goal.returns
returns c =
    reference_found c.args.base.now c.args.iri.now c.in-Some.name (subst (Tells is_ref_name (ref_iri c.args.base.now) c.args.iri.now) c.in-Some.is c.in_ok-name.ensures.names) c.as_str-characters.ensures.scalars c.are_texts.ensures
