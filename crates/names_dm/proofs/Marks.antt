-- The marks in IRIs, as texts.
use Rattle.std.proofs.Common.{◌≡◌, refl}
use Rattle.std.specs.Prelude.{codes}
use Rattle.std.specs.Str.{chars}

pub ref_mark : chars (codes "ref-") ≡ codes "ref-"
unfolding chars
ref_mark = refl

pub rel_mark : chars (codes "rel-") ≡ codes "rel-"
unfolding chars
rel_mark = refl
