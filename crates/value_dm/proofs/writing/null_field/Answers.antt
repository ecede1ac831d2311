use Rattle.std.proofs.lemmas.Result.{IfOk-weaker}
use Rattle.value_dm.proofs.Texts.{null_written}
use Rattle.value_dm.proofs.writing.null_field.Goals as goal

pub returns : goal.returns
returns c = IfOk-weaker c.from_str.result _ _ (λ field e. null_written _ e) c.from_str.ensures.ok
