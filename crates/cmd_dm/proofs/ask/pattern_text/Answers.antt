use Rattle.std.proofs.Common.{◌∙◌, ap, ◌++◌}
use Rattle.std.specs.Prelude.{codes}
use Rattle.pattern_dm.specs.Texts.{query_text}
use Rattle.cmd_dm.proofs.ask.pattern_text.Goals as goal

pub returns : goal.returns
returns c =
    let vars = c.in_ok-header.ensures.are in
    let pattern = c.in_ok-pattern.pattern in
    let written = c.in_ok-text.ensures ∙ ap (λ p. query_text c.in_ok-header.header p) c.get.ensures ∙ ap (λ hs. query_text hs pattern) vars.are in (
      c.in_ok-header.ensures.schema,
      record {
        pattern = pattern;
        translates = c.in_ok-pattern.ensures.pattern;
        names = vars.names;
        attributes = vars.attributes;
        is = c.in_ok-push_str.ensures.bytes ∙ ap (λ t. t ++ codes "\n") written;
      },
    )
