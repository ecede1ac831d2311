use Rattle.std.proofs.Common.{◌≡◌, ◌∙◌, ◌++◌, ℕ, List, ap, append_assoc}
use Rattle.std.specs.Prelude.{codes}
use Rattle.ntriples_dm.specs.Written.{term_text}
use Rattle.lines_dm.proofs.Appending.{appended}
use Rattle.graphs_dm.specs.Lines.{link_line}
use Rattle.graphs_dm.specs.Nodes.{row_node}
use Rattle.graphs_dm.proofs.rows.append_link.Goals as goal
use Rattle.facts_dm.specs.Facts.{node_term}

join : (old s h n e : List ℕ) → (((old ++ s) ++ h) ++ n) ++ e ≡ old ++ (s ++ (h ++ (n ++ e)))
join old s h n e = append_assoc ((old ++ s) ++ h) n e ∙ append_assoc (old ++ s) h (n ++ e) ∙ append_assoc old s (h ++ (n ++ e))

pub returns : goal.returns
unfolding link_line
returns c =
    let node = term_text (node_term (row_node c.args.source.now.base.now c.args.source.now.database.now c.args.t c.args.j)) in
    appended c.extend_from_slice-3.result c.extend_from_slice-3.new.self.items _ (codes " .\n") _ c.extend_from_slice-3.ensures.items
    (ap (λ (l : List ℕ). l ++ codes " .\n") (c.in_ok-append_node.ensures
    ∙ ap (λ (l : List ℕ). l ++ node) (c.in_ok-extend_from_slice-2.ensures.items ∙ ap (λ (l : List ℕ). l ++ c.args.head.now) c.in_ok-extend_from_slice.ensures.items))
    ∙ join c.args.out.now.items c.args.subject.now c.args.head.now node (codes " .\n"))
