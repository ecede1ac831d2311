use Rattle.std.proofs.Common.{◌≡◌, ◌∙◌, ap, sym, subst}
use Rattle.names_dm.specs.Names.{column_iri}
use Rattle.names_dm.specs.Reading.{Tells, is_column_name, only, read_column}
use Rattle.names_dm.proofs.Read.{tells_column}
use Rattle.names_dm.proofs.readers.read_column_iri.Goals as goal

pub returns-clause-value : goal.returns-clause-value
unfolding read_column
returns-clause-value c = c.only_column.ensures ∙ ap (only is_column_name) c.in_ok-told.ensures

pub returns-clause-names : goal.returns-clause-names
unfolding read_column
returns-clause-names c =
    let value : c.only_column.result ≡ read_column c.args.base.now c.args.iri.now = c.only_column.ensures ∙ ap (only is_column_name) c.in_ok-told.ensures in
    subst (Tells is_column_name (column_iri c.args.base.now) c.args.iri.now) (sym value) (tells_column c.args.base.now c.args.iri.now)
