use Rattle.std.proofs.Common.{◌∷◌, []}
use Rattle.value_dm.specs.Lexical.{lexical_form}
use Rattle.names_dm.specs.IriSafe.{safe_form}
use Rattle.names_dm.specs.Names.{equals_sign}
use Rattle.names_dm.specs.Rows.{key_pair}
use Rattle.names_dm.proofs.Lists.{four_parts}
use Rattle.names_dm.proofs.key.with_part.Goals as goal

pub returns-clause-text : goal.returns-clause-text
unfolding key_pair
returns-clause-text c =
    rw (
      c.in_ok-longer.ensures,
      c.in_ok-with.ensures,
      c.in_ok-with_safe.ensures,
      c.as_str.ensures.chars,
      c.as_str-2.ensures.value,
      c.in_ok-form.ensures.characters,
    )
    (four_parts c.args.spelling (safe_form c.args.part.now.column) (equals_sign ∷ []) (safe_form (lexical_form c.args.part.now.value)))
