-- Which tokens the grammar asks for (ISO/IEC 9075-2, 5.2 <token> and <separator>, 5.4 Names and identifiers,
-- 6.1 <data type>).
use Rattle.std.specs.Prelude.{ℕ, List, Option, Some, None, Bool, true, false, ◌==◌, ◌||◌, if◌then◌else◌, encode_utf8_all, codes}
use Rattle.std.specs.Str.{str_eq_ignore_ascii_case}
use Rattle.ddl_syntax_dm.specs.declared.token.Keyword.{Keyword}
use Rattle.ddl_syntax_dm.specs.declared.token.Keyword.TheVariants as keywords
use Rattle.ddl_tokens_dm.specs.declared.token.Sign.{Sign}
use Rattle.ddl_tokens_dm.specs.Characters.{character}
use Rattle.ddl_tokens_dm.specs.declared.token.Token.{Token}
use Rattle.ddl_tokens_dm.specs.declared.token.Token.TheVariants as tokens
use Rattle.ddl_syntax_dm.specs.declared.token.TypeWord.{TypeWord}
use Rattle.ddl_syntax_dm.specs.declared.syntax.ColumnType.{ColumnType}
use Rattle.ddl_syntax_dm.specs.declared.syntax.ColumnType.TheVariants as kinds

-- a text as its characters
abbrev pub Name : Type 0
Name = List ℕ

-- a token that is there, and no more
abbrev pub Mark : Type 0
Mark = Unit {0}

abbrev pub spelling : Keyword → List ℕ
spelling keywords.Create = codes "CREATE"
spelling keywords.Table = codes "TABLE"
spelling keywords.If = codes "IF"
spelling keywords.Not = codes "NOT"
spelling keywords.Exists = codes "EXISTS"
spelling keywords.Alter = codes "ALTER"
spelling keywords.Only = codes "ONLY"
spelling keywords.Add = codes "ADD"
spelling keywords.Constraint = codes "CONSTRAINT"
spelling keywords.Primary = codes "PRIMARY"
spelling keywords.Key = codes "KEY"
spelling keywords.Unique = codes "UNIQUE"
spelling keywords.Foreign = codes "FOREIGN"
spelling keywords.References = codes "REFERENCES"
spelling keywords.On = codes "ON"
spelling keywords.Delete = codes "DELETE"
spelling keywords.Update = codes "UPDATE"
spelling keywords.No = codes "NO"
spelling keywords.Action = codes "ACTION"
spelling keywords.Restrict = codes "RESTRICT"
spelling keywords.Cascade = codes "CASCADE"
spelling keywords.Set = codes "SET"
spelling keywords.Null = codes "NULL"
spelling keywords.Default = codes "DEFAULT"
spelling keywords.Varying = codes "VARYING"
spelling keywords.Without = codes "WITHOUT"
spelling keywords.Time = codes "TIME"
spelling keywords.Zone = codes "ZONE"

-- the name is the word, but for the case of ASCII letters
unfoldable pub spells_word : List ℕ → Name → Bool
spells_word word name = str_eq_ignore_ascii_case (encode_utf8_all name) word

abbrev pub asked : Bool → Option Mark
asked b = if b then Some tt else None

abbrev pub sign_of : Sign → Token → Option Mark
sign_of sign (tokens.Sign s) = asked (character s == character sign)
sign_of sign _ = None

-- key words are bare words
abbrev pub word_of : Keyword → Token → Option Mark
word_of word (tokens.Word name) = asked (spells_word (spelling word) name)
word_of word _ = None

abbrev pub number_of : Token → Option Mark
number_of tokens.Number = Some tt
number_of _ = None

-- any bare word or quoted identifier
abbrev pub name_of : Token → Option Name
name_of (tokens.Word name) = Some name
name_of (tokens.Quoted name) = Some name
name_of _ = None

abbrev pub begins_key : Name → Bool
begins_key name =
    spells_word (spelling keywords.Constraint) name || spells_word (spelling keywords.Primary) name
    || spells_word (spelling keywords.Unique) name || spells_word (spelling keywords.Foreign) name

-- a name that is none of the bare words with which a key begins
abbrev pub column_name_of : Token → Option Name
column_name_of (tokens.Word name) = if begins_key name then None else Some name
column_name_of (tokens.Quoted name) = Some name
column_name_of _ = None

-- ---- the first word of a type

abbrev pub is_varying_text : Name → Bool
is_varying_text name = spells_word (codes "CHAR") name || spells_word (codes "CHARACTER") name

abbrev pub is_text : Name → Bool
is_text name = spells_word (codes "TEXT") name || spells_word (codes "VARCHAR") name || spells_word (codes "CLOB") name

abbrev pub is_integer : Name → Bool
is_integer name =
    spells_word (codes "INTEGER") name || spells_word (codes "INT") name || spells_word (codes "SMALLINT") name
    || spells_word (codes "BIGINT") name || spells_word (codes "TINYINT") name

abbrev pub is_decimal : Name → Bool
is_decimal name = spells_word (codes "DECIMAL") name || spells_word (codes "NUMERIC") name

abbrev pub is_boolean : Name → Bool
is_boolean name = spells_word (codes "BOOLEAN") name || spells_word (codes "BOOL") name

abbrev pub is_binary : Name → Bool
is_binary name = spells_word (codes "VARBINARY") name || spells_word (codes "BLOB") name || spells_word (codes "BYTEA") name

abbrev pub of_kind : ColumnType → Bool → Bool → Option TypeWord
of_kind kind varies zoned = Some (record { kind = kind; varies = varies; zoned = zoned })

-- CHAR, CHARACTER and BINARY may go on with VARYING, TIME and TIMESTAMP with WITHOUT TIME ZONE
unfoldable pub type_word : Name → Option TypeWord
type_word name =
    if is_varying_text name then of_kind kinds.Text true false
    else (if is_text name then of_kind kinds.Text false false
    else (if is_integer name then of_kind kinds.Integer false false
    else (if is_decimal name then of_kind kinds.Decimal false false
    else (if is_boolean name then of_kind kinds.Boolean false false
    else (if spells_word (codes "DATE") name then of_kind kinds.Date false false
    else (if spells_word (codes "TIME") name then of_kind kinds.Time false true
    else (if spells_word (codes "TIMESTAMP") name then of_kind kinds.DateTime false true
    else (if spells_word (codes "DATETIME") name then of_kind kinds.DateTime false false
    else (if spells_word (codes "BINARY") name then of_kind kinds.Binary true false
    else (if is_binary name then of_kind kinds.Binary false false
    else None))))))))))

abbrev pub type_word_of : Token → Option TypeWord
type_word_of (tokens.Word name) = type_word name
type_word_of _ = None
