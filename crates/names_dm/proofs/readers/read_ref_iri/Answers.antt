use Rattle.std.proofs.Common.{◌≡◌, ◌∙◌, ap, sym, subst}
use Rattle.names_dm.specs.Names.{ref_iri}
use Rattle.names_dm.specs.Reading.{Tells, is_ref_name, only, read_ref}
use Rattle.names_dm.proofs.Read.{tells_ref}
use Rattle.names_dm.proofs.readers.read_ref_iri.Goals as goal

pub returns-clause-value : goal.returns-clause-value
unfolding read_ref
returns-clause-value c = c.only_ref.ensures ∙ ap (only is_ref_name) c.in_ok-told.ensures

pub returns-clause-names : goal.returns-clause-names
unfolding read_ref
returns-clause-names c =
    let value : c.only_ref.result ≡ read_ref c.args.base.now c.args.iri.now = c.only_ref.ensures ∙ ap (only is_ref_name) c.in_ok-told.ensures in
    subst (Tells is_ref_name (ref_iri c.args.base.now) c.args.iri.now) (sym value) (tells_ref c.args.base.now c.args.iri.now)
