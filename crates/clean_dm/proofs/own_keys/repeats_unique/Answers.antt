use Rattle.std.proofs.Common.{◌≡◌, ◌∙◌, ◌-◌, ap, arith, length, List, ℕ, Some, subst, sym, refl, true, false}
use Rattle.std.specs.Prelude.{slice_get}
use Rattle.std.proofs.lemmas.Bool.{ltb-true}
use Rattle.std.proofs.lemmas.Option.{slice_get_read}
use Rattle.std.proofs.Math.Dec.{ltb}
use Rattle.table_csv.proofs.Zips.{zipped_length}
use Rattle.schema_dm.specs.Schemas.{table_at}
use Rattle.schema_dm.specs.declared.table.Table.{Table}
use Rattle.table_csv.specs.Databases.{rows_at}
use Rattle.keys_dm.specs.Indexes.{IsIndexOf}
use Rattle.keys_dm.specs.Violations.{IsRepeated}
use Rattle.keys_dm.specs.declared.index.KeyIndex.{KeyIndex}
use Rattle.clean_dm.proofs.CheckingLemmas.{no_number, one_number, unique_index}
use Rattle.clean_dm.proofs.own_keys.repeats_unique.Goals as goal

pub is_repeated-requires-clause-index : goal.is_repeated-requires-clause-index
is_repeated-requires-clause-index c =
    let D = c.args.database.now in
    let keys : c.as_slice.result.now ≡ (table_at D.tables c.args.table).uniques = c.as_slice.ensures ∙ ap (λ (table : Table). table.uniques) c.table_of.ensures.value in
    let got : slice_get (table_at D.tables c.args.table).uniques (c.args.number - 1) ≡ Some c.in-Some.places.now =
    subst (λ (ks : List (List ℕ)). slice_get ks (c.args.number - 1) ≡ Some c.in-Some.places.now) keys
    (slice_get_read c.as_slice.result.now (length c.as_slice.result.now) (c.args.number - 1) c.in-Some.places.now refl (ltb-true (c.args.number - 1) (length c.as_slice.result.now) (sym c.in-Some.ensures.lookup.0)) c.in-Some.ensures.lookup.1) in
    let index : slice_get c.of_table.result.now.uniques (c.args.number - 1) ≡ Some c.in-Some-get.index.now =
    subst (λ (is : List KeyIndex). slice_get is (c.args.number - 1) ≡ Some c.in-Some-get.index.now) c.as_slice-in-Some.ensures
    (slice_get_read c.as_slice-in-Some.result.now (length c.as_slice-in-Some.result.now) (c.args.number - 1) c.in-Some-get.index.now refl (ltb-true (c.args.number - 1) (length c.as_slice-in-Some.result.now) (sym c.in-Some-get.ensures.lookup.0)) c.in-Some-get.ensures.lookup.1) in
    rw c.rows_of.ensures.value (unique_index (rows_at D.rows c.args.table) (table_at D.tables c.args.table).uniques c.of_table.result.now.uniques (c.args.number - 1) c.in-Some.places.now c.in-Some-get.index.now c.of_table.ensures.uniques got index)

pub returns-in-None : goal.returns-in-None
returns-in-None c =
    let D = c.args.database.now in
    let keys : c.as_slice.result.now ≡ (table_at D.tables c.args.table).uniques = c.as_slice.ensures ∙ ap (λ (table : Table). table.uniques) c.table_of.ensures.value in (
      (λ h. absurd (let no : false ≡ true = h in cc)),
      (λ h. absurd (no_number (table_at D.tables c.args.table).uniques c.args.number h.0 (subst (λ (ks : List (List ℕ)). false ≡ ltb (c.args.number - 1) (length ks)) keys c.in-None.ensures.lookup.0) h.1)),
    )

pub returns-in-None-get : goal.returns-in-None-get
returns-in-None-get c =
    let D = c.args.database.now in
    let keys : c.as_slice.result.now ≡ (table_at D.tables c.args.table).uniques = c.as_slice.ensures ∙ ap (λ (table : Table). table.uniques) c.table_of.ensures.value in
    let many = zipped_length (IsIndexOf (rows_at D.rows c.args.table)) (table_at D.tables c.args.table).uniques c.of_table.result.now.uniques c.of_table.ensures.uniques in
    let told : false ≡ ltb (c.args.number - 1) (length (table_at D.tables c.args.table).uniques) = c.in-None-get.ensures.lookup.0 ∙ ap (λ (n : ℕ). ltb (c.args.number - 1) n) (ap length c.as_slice-in-Some.ensures ∙ sym many) in (
      (λ h. absurd (let no : false ≡ true = h in cc)),
      (λ h. absurd (no_number (table_at D.tables c.args.table).uniques c.args.number h.0 told h.1)),
    )

pub returns-in-Some-get : goal.returns-in-Some-get
returns-in-Some-get c =
    let D = c.args.database.now in
    let keys : c.as_slice.result.now ≡ (table_at D.tables c.args.table).uniques = c.as_slice.ensures ∙ ap (λ (table : Table). table.uniques) c.table_of.ensures.value in
    let got : slice_get (table_at D.tables c.args.table).uniques (c.args.number - 1) ≡ Some c.in-Some.places.now =
    subst (λ (ks : List (List ℕ)). slice_get ks (c.args.number - 1) ≡ Some c.in-Some.places.now) keys
    (slice_get_read c.as_slice.result.now (length c.as_slice.result.now) (c.args.number - 1) c.in-Some.places.now refl (ltb-true (c.args.number - 1) (length c.as_slice.result.now) (sym c.in-Some.ensures.lookup.0)) c.in-Some.ensures.lookup.1) in
    let tells = rw c.rows_of.ensures.value at c.is_repeated.ensures in (
      (λ h. (c.in-Some.places.now, (c.args.number - 1, omega (arith, c.if-number-eq0.false), got), tells.0 h)),
      (λ h. tells.1 (subst (λ (ps : List ℕ). IsRepeated (rows_at D.rows c.args.table) ps c.args.row) (one_number (table_at D.tables c.args.table).uniques c.args.number h.0 c.in-Some.places.now h.1 got) h.2)),
    )
