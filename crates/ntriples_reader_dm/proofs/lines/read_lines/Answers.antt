use Rattle.std.proofs.Common.{◌∙◌, ◌∷◌, [], Option, Some, None, sym, ap, subst, length, arith, length-append}
use Rattle.std.proofs.lemmas.List.{append-nil}
use Rattle.names_dm.specs.Statements.{Statement}
use Rattle.ntriples_reader_dm.specs.Grammar.{IsLine}
use Rattle.ntriples_reader_dm.proofs.Cuts.{so_far_more, too_many}
use Rattle.ntriples_reader_dm.proofs.lines.read_lines.Goals as goal

pub returns-then-len-eq-LIMIT : goal.returns-then-len-eq-LIMIT
returns-then-len-eq-LIMIT c =
    too_many c.args.bytes.now c.lines.triples c.lines.number c.lines.rest.now c.in-Some.text.now c.in-Some.behind.now c.in-Ok-Some.triple c.lines.invariant.0 c.in-Some.ensures.lines (subst (λ (x : Option Statement). IsLine c.in-Some.text.now x) c.in-Ok-Some.field-0-is c.in-Ok-Some.ensures) (sym c.len.ensures ∙ c.if-len-eq-LIMIT.true)

pub lines-preserved-in-Ok-None : goal.lines-preserved-in-Ok-None
lines-preserved-in-Ok-None c = (
  so_far_more c.args.bytes.now c.lines.triples c.lines.triples c.lines.number c.lines.rest.now c.in-Some.text.now c.in-Some.behind.now None c.lines.invariant.0 c.in-Some.ensures.lines (subst (λ (x : Option Statement). IsLine c.in-Some.text.now x) c.in-Ok-None.field-0-is c.in-Ok-None.ensures) (sym (append-nil c.lines.triples)) c.lines.invariant.0.within,
  omega (arith, c.lines.invariant.1, c.in-Some.ensures.shorter),
)

pub lines-preserved : goal.lines-preserved
lines-preserved c = (
  so_far_more c.args.bytes.now c.lines.triples c.push.new.self c.lines.number c.lines.rest.now c.in-Some.text.now c.in-Some.behind.now (Some c.in-Ok-Some.triple) c.lines.invariant.0 c.in-Some.ensures.lines (subst (λ (x : Option Statement). IsLine c.in-Some.text.now x) c.in-Ok-Some.field-0-is c.in-Ok-Some.ensures)
      c.in_ok-push-in-Ok-Some.ensures.ok (omega (arith, ap length c.in_ok-push-in-Ok-Some.ensures.ok, length-append c.lines.triples (c.in-Ok-Some.triple ∷ []), c.lines.invariant.0.within, c.len.ensures, c.if-len-eq-LIMIT.false)),
  omega (arith, c.lines.invariant.1, c.in-Some.ensures.shorter),
)
