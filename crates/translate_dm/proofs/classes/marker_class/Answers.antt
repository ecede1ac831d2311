use Rattle.std.proofs.Common.{◌≡◌, ◌∙◌, ◌<◌, List, ℕ, ap, length, subst, sym}
use Rattle.std.specs.Str.{chars}
use Rattle.std.proofs.lemmas.Result.{IfOk-weaker}
use Rattle.names_dm.specs.Names.{table_iri}
use Rattle.schema_dm.specs.Schemas.{table_at}
use Rattle.schema_dm.specs.declared.table.Table.{Table}
use Rattle.translate_dm.specs.Translation.{IsMarkerClass}
use Rattle.translate_dm.proofs.classes.marker_class.Goals as goal

pub table_at-table-requires : goal.table_at-table-requires
table_at-table-requires c = subst (λ (ts : List Table). c.first_class.result < length ts) (sym c.tables.ensures.value) c.first_class.ensures.within

pub returns : goal.returns
returns c =
    let place = c.first_class.result in
    let same = c.table_at-table.ensures ∙ ap (λ (ts : List Table). table_at ts place) c.tables.ensures.value in
    let named = c.as_str.ensures.chars ∙ ap (λ (t : Table). t.name) same in
    IfOk-weaker c.table_iri.result (λ (iri : List ℕ). iri ≡ table_iri c.args.base.now (chars c.as_str.result.now)) (IsMarkerClass c.args.mode c.args.base.now c.args.schema.now)
    (λ iri e. (place, c.first_class.ensures, e ∙ ap (λ (n : List ℕ). table_iri c.args.base.now n) named)) c.table_iri.ensures.text
