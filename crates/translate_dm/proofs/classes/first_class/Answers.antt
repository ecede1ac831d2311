use Rattle.translate_dm.specs.Translation.{IsFirstClass}
use Rattle.translate_dm.proofs.FirstClass.{class_read, some_class}
use Rattle.translate_dm.proofs.classes.first_class.Goals as goal

pub unwrap-requires : goal.unwrap-requires
unwrap-requires c = some_class c.args.mode c.args.schema.now c.first_class_in.result c.requires c.first_class_in.ensures.none

pub returns : goal.returns
returns c = class_read (IsFirstClass c.args.mode c.args.schema.now) c.first_class_in.result c.unwrap.result c.unwrap.ensures c.first_class_in.ensures.found
