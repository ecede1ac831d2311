use Rattle.std.proofs.Common.{◌∙◌, ap, sym}
use Rattle.std.specs.List.{flat_map}
use Rattle.ntriples_dm.specs.Written.{escaped}
use Rattle.ntriples_dm.proofs.Quotes.{quoted_bytes}
use Rattle.lines_dm.proofs.Appending.{on_more}
use Rattle.lines_dm.proofs.literals.append_quoted.Goals as goal

pub returns : goal.returns
returns c =
    on_more c.append_escaped.result c.append_escaped.new.out.items c.args.out.now.items _ _ c.append_escaped.ensures
    (ap (flat_map escaped) (c.as_bytes.ensures.value ∙ c.as_str.ensures.bytes) ∙ sym (quoted_bytes c.args.text.now))
