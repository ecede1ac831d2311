use Rattle.std.proofs.Common.{ℕ, List, subst}
use Rattle.pattern_dm.specs.declared.pattern.Pattern.{Pattern}
use Rattle.pattern_lines_dm.specs.Lines.{AreSolutionLines}
use Rattle.cmd_dm.proofs.ask.answer_lines.Goals as goal

pub returns : goal.returns
returns c =
    let vars = c.in_ok-header.ensures.are in
    let text = c.in_ok-text.text.items in
    let lines = subst (λ (p : Pattern). AreSolutionLines c.args.triples p c.in_ok-header.header text) c.get.ensures c.in_ok-text.ensures in (
      c.in_ok-header.ensures.schema,
      record {
        pattern = c.in_ok-pattern.pattern;
        translates = c.in_ok-pattern.ensures.pattern;
        names = vars.names;
        attributes = vars.attributes;
        lines = subst (λ (header : List (List ℕ)). AreSolutionLines c.args.triples c.in_ok-pattern.pattern header text) vars.are lines;
      },
    )
