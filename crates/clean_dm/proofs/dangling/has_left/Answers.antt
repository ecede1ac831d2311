use Rattle.std.proofs.Common.{◌≡◌, ◌≤◌, true, false, length, arith}
use Rattle.std.proofs.lemmas.List.{length-map}
use Rattle.keys_dm.specs.declared.index.Entry.{Entry}
use Rattle.keys_dm.specs.Entries.{positions_of}
use Rattle.clean_dm.specs.RowSets.{Has}
use Rattle.clean_dm.proofs.LoneRows.{not_lone}
use Rattle.clean_dm.proofs.dangling.has_left.Goals as goal

pub returns-in_default-2 : goal.returns-in_default-2
returns-in_default-2 c = (
  (λ h. absurd (let no : false ≡ true = h in cc)),
  (λ h. absurd (not_lone (Has c.args.left.now c.args.target) (positions_of c.args.entries.now) c.requires (let two : 2 ≤ length c.args.entries.now = c.in_default.len_at_least in let long = length-map c.args.entries.now (λ (entry : Entry). entry.row) in omega (arith, two, long)) h)),
)
