use Rattle.std.proofs.Common.{◌≡◌, ◌++◌, take}
use Rattle.std.specs.List.{flat_map}
use Rattle.keys_dm.specs.declared.index.Entry.{Entry}
use Rattle.graphs_dm.specs.Lines.{link_line}
use Rattle.graphs_dm.proofs.rows.append_links.Given as goal

-- the lines of the first references
abbrev pub invariant-loop-entry : goal.invariant-loop-entry
invariant-loop-entry l =
    l.out.items ≡ l.initial.out.items ++ flat_map (λ (entry : Entry). link_line l.source.base.now l.source.database.now l.subject l.head l.t entry.row) (take l.entry-index l.entries)
