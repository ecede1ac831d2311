-- What tokens stand for.
use Rattle.std.specs.Prelude.{ℕ, List, Option, Some, None, Bool, is_some, bytes_eq, if◌then◌else◌}
use Rattle.std.specs.Borrow.{Bor}
use Rattle.solutions_dm.specs.declared.selects.Rename.{Rename}
use Rattle.solutions_dm.specs.Selects.{is_target}
use Rattle.sparql_tokens_dm.specs.declared.token.Keyword.{Keyword}
use Rattle.sparql_tokens_dm.specs.declared.token.Sign.{Sign}
use Rattle.sparql_tokens_dm.specs.declared.token.Sign.TheVariants as signs
use Rattle.sparql_tokens_dm.specs.declared.token.Token.{Token}
use Rattle.sparql_tokens_dm.specs.declared.token.Token.TheVariants as tokens
use Rattle.sparql_tokens_dm.specs.declared.token.Placed.{Placed}
use Rattle.sparql_tokens_dm.specs.Characters.{sign_text, spelling}
use Rattle.sparql_text_dm.specs.declared.connective.Connective.{Connective}
use Rattle.sparql_text_dm.specs.declared.connective.Connective.TheVariants as connectives
use Rattle.pattern_dm.specs.declared.pattern.Operand.{Operand}
use Rattle.pattern_dm.specs.declared.pattern.Operand.TheVariants as operands

-- that a token without a value is there
abbrev pub Mark : Type 0
Mark = Unit {0}

abbrev pub asked : Bool → Option Mark
asked b = if b then Some tt else None

abbrev pub sign_of : Sign → Token → Option Mark
sign_of sign (tokens.Sign s) = asked (bytes_eq (sign_text s) (sign_text sign))
sign_of sign _ = None

abbrev pub word_of : Keyword → Token → Option Mark
word_of word (tokens.Word w) = asked (bytes_eq (spelling w) (spelling word))
word_of word _ = None

abbrev pub connective_of : Token → Option Connective
connective_of (tokens.Sign signs.And) = Some connectives.And
connective_of (tokens.Sign signs.Or) = Some connectives.Or
connective_of _ = None

abbrev pub variable_of : Token → Option (List ℕ)
variable_of (tokens.Var x) = Some x
variable_of _ = None

abbrev pub operand_of : Token → Option Operand
operand_of (tokens.Var x) = Some (operands.Var x)
operand_of (tokens.Iri i) = Some (operands.Iri i)
operand_of (tokens.Literal l) = Some (operands.Literal l)
operand_of _ = None

-- the variable, where it is the new name of none of the renames
abbrev pub unless_target : List Rename → Option (List ℕ) → Option (List ℕ)
unless_target taken None = None
unless_target taken (Some x) = if is_target taken x then None else Some x

abbrev pub new_name_of : List Rename → Token → Option (List ℕ)
new_name_of taken t = unless_target taken (variable_of t)

-- the variable, where it isn't this one
abbrev pub unless_named : List ℕ → Option (List ℕ) → Option (List ℕ)
unless_named x None = None
unless_named x (Some y) = if bytes_eq x y then None else Some y

abbrev pub other_name_of : List Rename → List ℕ → Token → Option (List ℕ)
other_name_of taken x t = unless_named x (new_name_of taken t)

abbrev pub is_sign : Sign → Placed → Bool
is_sign s t = is_some (sign_of s t.token)

abbrev pub is_word : Keyword → Placed → Bool
is_word w t = is_some (word_of w t.token)

abbrev pub is_variable_token : Placed → Bool
is_variable_token t = is_some (variable_of t.token)

abbrev pub is_operand : Placed → Bool
is_operand t = is_some (operand_of t.token)

abbrev pub named : Option (Bor (List ℕ)) → Option (List ℕ)
named None = None
named (Some name) = Some name.now
