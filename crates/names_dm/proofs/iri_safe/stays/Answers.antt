use Rattle.std.proofs.Common.{◌||◌}
use Rattle.names_dm.specs.IriSafe.{is_iri_character, is_no_character, is_unreserved, stays}
use Rattle.names_dm.proofs.Escapes.{no_character-scalar, or_nothing}
use Rattle.names_dm.proofs.iri_safe.stays.Goals as goal

pub returns : goal.returns
unfolding stays
returns c =
    rw (c.is_unreserved.ensures, c.is_iri_character.ensures)
    (or_nothing (is_unreserved c.args.c || is_iri_character c.args.c) (is_no_character c.args.c) (no_character-scalar c.args.c c.ranges.c.0))
