use Rattle.std.proofs.Common.{◌∙◌}
use Rattle.schema_dm.proofs.ReferenceNames.{reference_by_bytes}
use Rattle.schema_dm.proofs.causes.is_reference_name.Goals as goal

pub returns : goal.returns
returns c =
    reference_by_bytes c.are_reference_bytes.result c.args.name.now c.args.column.now _ _ (c.as_bytes.ensures.value ∙ c.as_str.ensures.bytes) (c.as_bytes-2.ensures.value ∙ c.as_str-2.ensures.bytes)
    c.are_reference_bytes.ensures
