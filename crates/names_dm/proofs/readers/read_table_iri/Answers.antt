use Rattle.std.proofs.Common.{◌≡◌, ◌∙◌, ap, sym, subst}
use Rattle.names_dm.specs.Names.{table_iri}
use Rattle.names_dm.specs.Reading.{Tells, is_name, only, read_table}
use Rattle.names_dm.proofs.Read.{tells_table}
use Rattle.names_dm.proofs.readers.read_table_iri.Goals as goal

pub returns-clause-value : goal.returns-clause-value
unfolding read_table
returns-clause-value c = c.only_table.ensures ∙ ap (only is_name) c.in_ok-told.ensures

pub returns-clause-names : goal.returns-clause-names
unfolding read_table
returns-clause-names c =
    let value : c.only_table.result ≡ read_table c.args.base.now c.args.iri.now = c.only_table.ensures ∙ ap (only is_name) c.in_ok-told.ensures in
    subst (Tells is_name (table_iri c.args.base.now) c.args.iri.now) (sym value) (tells_table c.args.base.now c.args.iri.now)
