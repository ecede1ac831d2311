use Rattle.std.proofs.Common.{◌≡◌, ◌∙◌, ◌∷◌, [], chars}
use Rattle.names_dm.specs.IriSafe.{safe_form}
use Rattle.names_dm.specs.Rows.{key_list, row_iri, slash}
use Rattle.names_dm.proofs.Keys.{rows_apart, same_row}
use Rattle.names_dm.proofs.Lists.{four_parts}
use Rattle.names_dm.proofs.key.row_iri.Goals as goal

pub returns-clause-text : goal.returns-clause-text
returns-clause-text c =
    rw (c.in_ok-iri.ensures, c.in_ok-whole.ensures.text, c.in_ok-start.ensures, c.in_ok-with_safe.ensures, c.in_ok-new.ensures)
    (four_parts c.args.base.now (safe_form (chars c.args.table.now)) (slash ∷ []) (key_list c.args.key.now))

pub returns-clause-apart : goal.returns-clause-apart
returns-clause-apart c = λ other others lawful kinds same.
    let text : c.in_ok-iri.iri ≡ row_iri c.args.base.now (chars c.args.table.now) c.args.key.now =
    rw (c.in_ok-iri.ensures, c.in_ok-whole.ensures.text, c.in_ok-start.ensures, c.in_ok-with_safe.ensures, c.in_ok-new.ensures)
    (four_parts c.args.base.now (safe_form (chars c.args.table.now)) (slash ∷ []) (key_list c.args.key.now)) in
    same_row c.args.base.now other (chars c.args.table.now) others c.args.key.now lawful c.in_ok-whole.ensures.lawful kinds (same ∙ text)

pub returns-clause-rows : goal.returns-clause-rows
returns-clause-rows c = rows_apart c.args.base.now
