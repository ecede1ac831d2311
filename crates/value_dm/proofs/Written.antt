-- The bytes of canonical forms.
use Rattle.std.proofs.Common.{◌≡◌, ◌≢◌, List, ℕ}
use Rattle.value_dm.specs.Kinds.{kind_of}
use Rattle.value_dm.specs.Lawful.{IsLawful}
use Rattle.value_dm.specs.Lexical.{lexical_form}
use Rattle.value_dm.specs.Written.{Writes}
use Rattle.value_dm.specs.declared.kind.Kind.TheVariants as kind
use Rattle.value_dm.specs.declared.value.Value.{Value}
use Rattle.value_dm.proofs.Ascii.{spelled_ascii, ascii_written}
use Rattle.value_dm.proofs.CanonicalForms.{lexical_form_spells}

pub written_form : {bytes : List ℕ} (v : Value) → IsLawful v → kind_of v ≢ kind.Text → bytes ≡ lexical_form v → Writes bytes (lexical_form v)
written_form v lawful other e = ascii_written (lexical_form v) _ (spelled_ascii (lexical_form v) v other (lexical_form_spells v lawful)) e
