use Rattle.std.proofs.Common.{◌≡◌, Err, Result, inl, inr}
use Rattle.inverse_dm.specs.declared.error.InverseError.{InverseError}
use Rattle.inverse_dm.specs.declared.error.InverseError.TheVariants.{Memory}
use Rattle.bench_lines_dm.proofs.PlainTables.{plain_same}
use Rattle.bench_lines_dm.proofs.PlainLimits.{plain_within}
use Rattle.bench_lines_dm.proofs.inverted.is_inverted.Goals as goal

pub are_plain-requires : goal.are_plain-requires
are_plain-requires c =
    let plain = c.graphs_stand.ensures.some in
    plain_same c.args.database.now c.in-Ok.tables plain.0 (c.in-Ok.ensures.determined plain.0 (c.graphs_stand.ensures.map c.args.triples.now plain.0 c.requires.kept plain.1 c.requires.triples)) plain.1

same_error : {T : Type 0} (e f : InverseError) → ◌≡◌ {A = Result T InverseError} (Err e) (Err f) → e ≡ f
same_error e f h = cc

pub shortage-requires : goal.shortage-requires
shortage-requires c =
    let plain = c.graphs_stand.ensures.some in
    let stands = c.graphs_stand.ensures.map c.args.triples.now plain.0 c.requires.kept plain.1 c.requires.triples in
    elim (c.in-Err.ensures.accepted plain.0 (record { stands = stands; limits = plain_within c.args.database.now c.schema-schema.ensures.fits plain.0 plain.1 })) [
      | inl none ↦ absurd (cc none)
      | inr is ↦ same_error c.in-Err.error Memory is
    ]
