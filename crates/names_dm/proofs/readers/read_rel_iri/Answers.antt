use Rattle.std.proofs.Common.{◌≡◌, ◌∙◌, ap, sym, subst}
use Rattle.names_dm.specs.Names.{rel_iri}
use Rattle.names_dm.specs.Reading.{Tells, is_rel_name, only, read_rel}
use Rattle.names_dm.proofs.Read.{tells_rel}
use Rattle.names_dm.proofs.readers.read_rel_iri.Goals as goal

pub returns-clause-value : goal.returns-clause-value
unfolding read_rel
returns-clause-value c = c.only_rel.ensures ∙ ap (only is_rel_name) c.in_ok-told.ensures

pub returns-clause-names : goal.returns-clause-names
unfolding read_rel
returns-clause-names c =
    let value : c.only_rel.result ≡ read_rel c.args.base.now c.args.iri.now = c.only_rel.ensures ∙ ap (only is_rel_name) c.in_ok-told.ensures in
    subst (Tells is_rel_name (rel_iri c.args.base.now) c.args.iri.now) (sym value) (tells_rel c.args.base.now c.args.iri.now)
