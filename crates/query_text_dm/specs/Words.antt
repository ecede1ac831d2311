-- The words of a query, and what tokens stand for.
use Rattle.std.specs.Prelude.{ℕ, List, [], ◌∷◌, Option, Some, None, codes, if◌then◌else◌}
use Rattle.std.specs.Borrow.{Bor}
use Rattle.query_tokens_dm.specs.declared.token.Token.{Token}
use Rattle.query_tokens_dm.specs.declared.token.Token.TheVariants.{Open, Close, Word, Quoted}
use Rattle.query_tokens_dm.specs.Tokens.{is_named}
use Rattle.query_text_dm.specs.declared.operator.Operator.{Operator}
use Rattle.query_text_dm.specs.declared.operator.Operator.TheVariants as operator

-- that a token without a value is there
abbrev pub Mark : Type 0
Mark = Unit {0}

abbrev pub open_of : Token → Option Mark
open_of Open = Some tt
open_of _ = None

abbrev pub close_of : Token → Option Mark
close_of Close = Some tt
close_of _ = None

abbrev pub operator_named : List ℕ → Option Operator
operator_named name =
    if is_named name (codes "table") then Some operator.Table else
    if is_named name (codes "null") then Some operator.Null else
    if is_named name (codes "eq") then Some operator.Eq else
    if is_named name (codes "ne") then Some operator.Ne else
    if is_named name (codes "isnull") then Some operator.IsNull else
    if is_named name (codes "notnull") then Some operator.NotNull else
    if is_named name (codes "project") then Some operator.Project else
    if is_named name (codes "rename") then Some operator.Rename else
    if is_named name (codes "join") then Some operator.Join else
    if is_named name (codes "union") then Some operator.Union else
    if is_named name (codes "diff") then Some operator.Diff else None

-- the operator whose word the token is
abbrev pub operator_of : Token → Option Operator
operator_of (Word name) = operator_named name
operator_of _ = None

-- a name is a bare word or a quoted text, and isn't empty
abbrev pub some_name : List ℕ → Option (List ℕ)
some_name [] = None
some_name (c ∷ cs) = Some (c ∷ cs)

abbrev pub name_of : Token → Option (List ℕ)
name_of (Word name) = some_name name
name_of (Quoted name) = some_name name
name_of _ = None

abbrev pub named : Option (Bor (List ℕ)) → Option (List ℕ)
named None = None
named (Some name) = Some name.now
