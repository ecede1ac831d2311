use Rattle.std.proofs.Common.{◌≡◌, ◌++◌}
use Rattle.std.specs.Prelude.{slice_get}
use Rattle.schema_dm.specs.Schemas.{table_at}
use Rattle.graphs_dm.specs.Heads.{up_to}
use Rattle.graphs_dm.specs.Lines.{keys_line}
use Rattle.graphs_dm.proofs.rows.append_keys.Given as goal

-- the lines of references by the first keys
abbrev pub invariant-loop-k : goal.invariant-loop-k
invariant-loop-k l =
    l.out.items ≡ l.initial.out.items ++ up_to l.k (λ k. keys_line l.source.base.now l.source.database.now l.subject (slice_get l.heads k) (slice_get (table_at l.source.database.now.tables l.t).foreign k) l.row)
