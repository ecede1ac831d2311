-- The kinds of characters of runs.
use Rattle.std.specs.Prelude.{ℕ, Bool}
use Rattle.ddl_tokens_dm.specs.declared.text.Kind.{Kind}
use Rattle.ddl_tokens_dm.specs.declared.text.Kind.TheVariants.{Line, Digit, Word}
use Rattle.ddl_tokens_dm.specs.Characters.{in_line, is_digit, in_word}

abbrev pub kind_test : Kind → ℕ → Bool
kind_test Line c = in_line c
kind_test Digit c = is_digit c
kind_test Word c = in_word c
