-- The labels of rows' blank nodes.
use Rattle.std.specs.Prelude.{ℕ, List, ◌++◌, codes}
use Rattle.std.specs.Fmt.{decimal}

-- the label `t<table>r<row>`, the numbers written in decimal
abbrev pub row_label : ℕ → ℕ → List ℕ
row_label table row = codes "t" ++ (decimal table ++ (codes "r" ++ decimal row))
