-- The parts of a line.
use Rattle.std.specs.Prelude.{ℕ, List, decimal}
use Rattle.cmd_dm.specs.FaultLine.{field_text}
use Rattle.cmd_dm.specs.declared.fault_line.Piece.{Piece}
use Rattle.cmd_dm.specs.declared.fault_line.Piece.TheVariants.{Text, Number, Field}

abbrev pub piece_text : Piece → List ℕ
piece_text (Text text) = text.now
piece_text (Number number) = decimal number
piece_text (Field label number) = field_text label.now number
