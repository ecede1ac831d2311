use Rattle.std.proofs.Common.{◌≡◌, ◌↔◌, IsTrue, List, Some, get_or, ap, subst, sym}
use Rattle.std.specs.Prelude.{slice_get, slice_index_or}
use Rattle.std.proofs.lemmas.Option.{slice_get-get_or}
use Rattle.schema_dm.specs.Naming.{Name, name_at}
use Rattle.schema_dm.specs.declared.draft.Column.{Column}
use Rattle.algebra_dm.specs.Certain.{IsCertainColumn}
use Rattle.algebra_dm.specs.declared.query.Mode.{Mode}
use Rattle.algebra_dm.specs.declared.query.Mode.TheVariants.{Map, MapKeys}
use Rattle.graph_layouts_dm.proofs.Columns.{name_at_is}
use Rattle.table_translation_dm.proofs.PartLemmas.{certain_in_keys, certain_in_map}
use Rattle.table_translation_dm.proofs.columns.is_certain.Goals as goal

pub returns-in-Map : goal.returns-in-Map
returns-in-Map c =
    let table = c.args.table.now in
    let place = c.args.place in
    let d = c.index-as_slice-place.result in
    let column : Column = get_or table.columns place d in
    let at : slice_get table.columns place ≡ Some column = slice_get-get_or table.columns place d c.requires.place in
    let same = ap (λ (cs : List Column). (slice_index_or cs place d).not_null) c.as_slice.ensures in
    subst (λ (m : Mode). IsTrue c.either.result ↔ IsCertainColumn m table (name_at table.columns place)) (sym c.in-Map.is)
    (subst (λ (n : Name). IsTrue c.either.result ↔ IsCertainColumn Map table n) (sym (name_at_is table.columns place column at))
    (certain_in_map table c.requires.once place column at _ c.is_of_key.result c.either.result c.either.ensures same c.is_of_key.ensures))

pub returns-in-MapKeys : goal.returns-in-MapKeys
returns-in-MapKeys c =
    let table = c.args.table.now in
    let place = c.args.place in
    let d = c.index-as_slice-place.result in
    let r = (slice_index_or c.as_slice.result.now place d).not_null in
    let column : Column = get_or table.columns place d in
    let at : slice_get table.columns place ≡ Some column = slice_get-get_or table.columns place d c.requires.place in
    let same = ap (λ (cs : List Column). (slice_index_or cs place d).not_null) c.as_slice.ensures in
    subst (λ (m : Mode). IsTrue r ↔ IsCertainColumn m table (name_at table.columns place)) (sym c.in-MapKeys.is)
    (subst (λ (n : Name). IsTrue r ↔ IsCertainColumn MapKeys table n) (sym (name_at_is table.columns place column at))
    (certain_in_keys table c.requires.once place column at r same))
