use Rattle.std.proofs.Common.{◌∙◌, chars, ap}
use Rattle.std.proofs.lemmas.Str.{chars-IsAscii}
use Rattle.names_dm.proofs.RowLabels.{row_label_ascii, row_label_is}
use Rattle.names_dm.proofs.label.row_label.Goals as goal

pub invariant_of-result : goal.invariant_of-result
invariant_of-result c =
    let ascii = row_label_ascii c.args.table c.args.row c.ranges.table.fits c.ranges.row.fits in
    rw (c.in_ok-from_str.ensures.chars, c.as_str.ensures.value, c.in_ok-text.ensures.ok, chars-IsAscii _ ascii)
    (row_label_is c.args.table c.args.row c.ranges.table.fits c.ranges.row.fits)

pub returns : goal.returns
returns c =
    let ascii = row_label_ascii c.args.table c.args.row c.ranges.table.fits c.ranges.row.fits in
    c.in_ok-from_str.ensures.chars ∙ ap chars (c.as_str.ensures.value ∙ c.in_ok-text.ensures.ok) ∙ chars-IsAscii _ ascii
