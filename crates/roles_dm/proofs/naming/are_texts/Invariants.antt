use Rattle.std.proofs.Common.{All, take}
use Rattle.value_dm.specs.Texts.{IsText}
use Rattle.roles_dm.proofs.naming.are_texts.Given as goal

abbrev pub invariant-loop-name : goal.invariant-loop-name
invariant-loop-name l = All IsText (take l.name-index l.names)
