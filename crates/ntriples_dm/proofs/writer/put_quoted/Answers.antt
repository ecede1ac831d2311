use Rattle.std.proofs.Common.{◌∙◌, sym, ap}
use Rattle.std.specs.List.{flat_map}
use Rattle.ntriples_dm.specs.Written.{escaped}
use Rattle.ntriples_dm.proofs.Pieces.{passes_same}
use Rattle.ntriples_dm.proofs.Quotes.{quoted_bytes}
use Rattle.ntriples_dm.proofs.writer.put_quoted.Goals as goal

pub returns : goal.returns
returns g c =
    passes_same (ap (flat_map escaped) (c.as_bytes.ensures.value ∙ c.as_str.ensures.bytes) ∙ sym (quoted_bytes c.args.text.now))
    (record { writes = c.put_escaped.ensures.writes; short = c.put_escaped.ensures.short })
