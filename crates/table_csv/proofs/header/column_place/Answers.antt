use Rattle.std.proofs.Common.{◌∙◌, sym}
use Rattle.std.specs.Cmp.Lexicographic.{bytes_decides}
use Rattle.table_csv.proofs.HeaderLemmas.{name_read, other_name}
use Rattle.table_csv.proofs.header.column_place.Goals as goal

pub returns-then-eq-clause-found : goal.returns-then-eq-clause-found
returns-then-eq-clause-found c = (
  c.loop-place-test.true,
  name_read c.args.columns.now c.loop-place.place c.index-columns-place.result c.loop-place-test.true c.index-columns-place.is
      ∙ (sym (c.as_bytes.ensures.value ∙ c.as_str.ensures.bytes) ∙ (bytes_decides c.as_bytes.result.now c.args.field.now).0 (sym c.eq.ensures ∙ c.if-eq.true)),
)

pub loop-place-preserved : goal.loop-place-preserved
loop-place-preserved c =
    other_name c.args.columns.now c.loop-place.place c.index-columns-place.result c.args.field.now c.loop-place-test.true c.index-columns-place.is
    (λ same. cc (c.if-eq.false, c.eq.ensures, (bytes_decides c.as_bytes.result.now c.args.field.now).1 (c.as_bytes.ensures.value ∙ (c.as_str.ensures.bytes ∙ same)))) c.loop-place.invariant
