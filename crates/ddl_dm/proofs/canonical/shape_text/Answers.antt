use Rattle.std.proofs.Common.{◌≡◌, ◌++◌, ap, ◌∙◌, string_bytes}
use Rattle.std.specs.Prelude.{encode_utf8_all}
use Rattle.std.specs.List.{flat_map}
use Rattle.std.proofs.lemmas.Str.{IsUtf8-string_bytes}
use Rattle.ddl_dm.specs.Canonical.{table_text, canonical_text}
use Rattle.ddl_dm.proofs.BackTokens.{reads_back}
use Rattle.ddl_dm.proofs.canonical.shape_text.Goals as goal

pub returns : goal.returns
unfolding canonical_text
returns c =
    let written : string_bytes c.push_tables.new.text ≡ encode_utf8_all (canonical_text c.args.shape.now) =
    c.in_ok-push_tables.ensures ∙ ap (λ bs. bs ++ encode_utf8_all (flat_map table_text c.as_slice.result.now)) c.new-text.ensures.bytes
    ∙ ap (λ ts. encode_utf8_all (flat_map table_text ts)) c.as_slice.ensures.value in
    record {
      bytes = written;
      reads_back = reads_back c.args.shape.now (string_bytes c.push_tables.new.text) c.as_slice.ensures.shape (IsUtf8-string_bytes c.push_tables.new.text) written;
    }
