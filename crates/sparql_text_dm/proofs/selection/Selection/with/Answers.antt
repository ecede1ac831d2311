use Rattle.std.proofs.Common.{◌∙◌, ap, cond, true}
use Rattle.std.specs.BTreeSet.{contains_text}
use Rattle.std.specs.Str.{bytes_eq}
use Rattle.std.proofs.lemmas.Map.Text.{btree_set_updates_text}
use Rattle.sparql_text_dm.proofs.NewNames.{one_more}
use Rattle.sparql_text_dm.proofs.selection.Selection.with.Goals as goal

pub invariant_of-result : goal.invariant_of-result
invariant_of-result c =
    one_more c.self.inside.renames c.push.new.self c.args.rename c.self.inside.names c.insert.new.self c.self.invariant c.in_ok-push.ensures.ok (λ bytes.
    btree_set_updates_text _ c.self.inside.names c.insert.new.self true c.in_ok-insert.ensures.updates bytes
    ∙ ap (λ name. cond (bytes_eq name bytes) true (contains_text c.self.inside.names bytes)) (c.in_ok-from_str.ensures.ok ∙ c.as_str.ensures.bytes))
