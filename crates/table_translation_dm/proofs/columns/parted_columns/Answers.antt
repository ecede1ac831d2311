use Rattle.std.proofs.Common.{◌≡◌, ◌↔◌, ◌∙◌, ◌≤◌, List, Some, IsTrue, get_or, length, subst, sym}
use Rattle.std.specs.Prelude.{slice_get}
use Rattle.std.proofs.lemmas.Bool.{false≢true}
use Rattle.std.proofs.lemmas.Option.{slice_get-get_or}
use Rattle.schema_dm.specs.Naming.{Name}
use Rattle.schema_dm.specs.declared.draft.Column.{Column}
use Rattle.algebra_dm.specs.Certain.{IsCertainColumn}
use Rattle.graph_layouts_dm.proofs.Columns.{name_at_is}
use Rattle.table_translation_dm.proofs.PartLemmas.{all_declared, none_more_declared, one_more_declared}
use Rattle.table_translation_dm.proofs.columns.parted_columns.Goals as goal
use Rattle.table_translation_dm.proofs.columns.parted_columns.Goals.{then-is_certain+in_ok-push, else-is_certain+in_ok-push-2}

pub loop-place-preserved : goal.loop-place-preserved
loop-place-preserved c =
    let table = c.args.table.now in
    let place = c.loop-place.place in
    let columns = c.as_slice-columns.result.now in
    let column : Column = get_or columns place c.index-columns-place.result in
    let read : slice_get columns place ≡ Some column = slice_get-get_or columns place c.index-columns-place.result c.loop-place-test.true in
    let at : slice_get table.columns place ≡ Some column = subst (λ (cs : List Column). slice_get cs place ≡ Some column) c.as_slice-columns.ensures read in
    let sure : IsTrue c.is_certain.result ↔ IsCertainColumn c.args.mode table column.name =
    subst (λ (n : Name). IsTrue c.is_certain.result ↔ IsCertainColumn c.args.mode table n) (name_at_is table.columns place column at) c.is_certain.ensures in
    elim c.if-is_certain.branch [
      | then-is_certain+in_ok-push w ↦ rw (w.certain-is, w.others-is, w.in_ok-push.ensures.ok, c.in_ok-name.ensures) (
        one_more_declared table.columns (IsCertainColumn c.args.mode table) c.requires place column at c.loop-place.certain c.loop-place.invariant.0 (sure.0 w.if-is_certain.true),
        none_more_declared table.columns (λ a. ¬ IsCertainColumn c.args.mode table a) c.requires place column at c.loop-place.others c.loop-place.invariant.1 (λ n. n (sure.0 w.if-is_certain.true)),
      )
      | else-is_certain+in_ok-push-2 w ↦ rw (w.certain-is, w.others-is, w.in_ok-push-2.ensures.ok, c.in_ok-name.ensures) (
        none_more_declared table.columns (IsCertainColumn c.args.mode table) c.requires place column at c.loop-place.certain c.loop-place.invariant.0 (λ is. false≢true (sym w.if-is_certain.false ∙ sure.1 is)),
        one_more_declared table.columns (λ a. ¬ IsCertainColumn c.args.mode table a) c.requires place column at c.loop-place.others c.loop-place.invariant.1 (λ is. false≢true (sym w.if-is_certain.false ∙ sure.1 is)),
      )
    ]

pub returns : goal.returns
returns c =
    let table = c.args.table.now in
    let past = subst (λ (cs : List Column). length cs ≤ c.loop-place.place) c.as_slice-columns.ensures c.loop-place-test.false in
    record {
      certain = all_declared table.columns (IsCertainColumn c.args.mode table) c.loop-place.place c.loop-place.certain past c.loop-place.invariant.0;
      others = all_declared table.columns (λ a. ¬ IsCertainColumn c.args.mode table a) c.loop-place.place c.loop-place.others past c.loop-place.invariant.1;
    }
