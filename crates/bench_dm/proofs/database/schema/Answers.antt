use Rattle.std.proofs.Common.{sym, subst}
use Rattle.schema_dm.specs.Drafts.{AreLawful}
use Rattle.bench_dm.proofs.AcceptedDrafts.{are_lawful}
use Rattle.bench_dm.proofs.database.schema.Goals as goal

pub unreachable-requires : goal.unreachable-requires
unreachable-requires c =
    let only = c.in-Err-Bad.ensures.only (subst AreLawful (sym c.in_ok-drafts.ensures) are_lawful) in
    absurd (cc)
