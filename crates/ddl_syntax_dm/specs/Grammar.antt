-- The grammar of the statements, the part of ISO/IEC 9075-2, 11.3 <table definition> and 11.10 <alter table
-- statement>, that is read:
--   file      = { [ statement ] ";" } [ statement ]
--   statement = CREATE TABLE [ IF NOT EXISTS ] name "(" item { "," item } ")"
--             | ALTER TABLE [ ONLY ] name ADD [ CONSTRAINT name ] key
--   item      = [ CONSTRAINT name ] key | column
--   key       = PRIMARY KEY list | UNIQUE list | FOREIGN KEY list target
--   target    = REFERENCES name [ list ] { ON ( DELETE | UPDATE ) action }
--   action    = NO ACTION | RESTRICT | CASCADE | SET NULL | SET DEFAULT
--   list      = "(" name { "," name } ")"
--   column    = name type { [ CONSTRAINT name ] ( PRIMARY KEY | UNIQUE | NOT NULL | NULL | target ) }
--   type      = type words [ "(" number [ "," number ] ")" ] [ WITHOUT TIME ZONE ]
-- Constraint names, lengths, precisions and actions have no effect.
use Rattle.std.specs.Prelude.{List, [], ◌∷◌, Option, Some, None, Bool, true, false}
use Rattle.grammar_dm.specs.Part.{Part, ended_by, separated_by, skip}
use Rattle.grammar_dm.specs.Part.Part.{token, give, then, or, optional, repeated, marked}
use Rattle.ddl_syntax_dm.specs.declared.token.Keyword.{Keyword}
use Rattle.ddl_syntax_dm.specs.declared.token.Keyword.TheVariants as keywords
use Rattle.ddl_tokens_dm.specs.declared.token.Sign.{Sign}
use Rattle.ddl_tokens_dm.specs.declared.token.Sign.TheVariants as signs
use Rattle.ddl_tokens_dm.specs.declared.token.Placed.{Placed}
use Rattle.ddl_syntax_dm.specs.declared.token.TypeWord.{TypeWord}
use Rattle.ddl_syntax_dm.specs.declared.syntax.ColumnType.{ColumnType}
use Rattle.ddl_syntax_dm.specs.declared.syntax.Target.{Target}
use Rattle.ddl_syntax_dm.specs.declared.syntax.Key.{Key}
use Rattle.ddl_syntax_dm.specs.declared.syntax.Key.TheVariants as keys
use Rattle.ddl_syntax_dm.specs.declared.syntax.Constraint.{Constraint}
use Rattle.ddl_syntax_dm.specs.declared.syntax.Constraint.TheVariants as constraints
use Rattle.ddl_syntax_dm.specs.declared.syntax.Column.{Column}
use Rattle.ddl_syntax_dm.specs.declared.syntax.Item.{Item}
use Rattle.ddl_syntax_dm.specs.declared.syntax.Item.TheVariants as items
use Rattle.ddl_syntax_dm.specs.declared.syntax.Statement.{Statement}
use Rattle.ddl_syntax_dm.specs.declared.syntax.Statement.TheVariants as statements
use Rattle.ddl_syntax_dm.specs.Words.{Name, Mark, sign_of, word_of, number_of, name_of, column_name_of, type_word_of}

abbrev pub sign : Sign → Part Placed Mark
sign s = token (λ t. sign_of s t.token)

abbrev pub word : Keyword → Part Placed Mark
word k = token (λ t. word_of k t.token)

abbrev pub number : Part Placed Mark
number = token (λ t. number_of t.token)

abbrev pub name : Part Placed Name
name = token (λ t. name_of t.token)

-- an item that begins with CONSTRAINT, PRIMARY, UNIQUE or FOREIGN is a key, so no column has such a bare name
abbrev pub column_name : Part Placed Name
column_name = token (λ t. column_name_of t.token)

-- ---- list

unfoldable pub list : Part Placed (List Name)
list =
    then (sign signs.Open) (λ _.
    then (separated_by name (sign signs.Comma)) (λ names.
    then (sign signs.Close) (λ _.
    give names)))

-- ---- action and target

unfoldable pub action : Part Placed Mark
action = or
    (then (word keywords.No) (λ _. word keywords.Action)) (or
    (word keywords.Restrict) (or
    (word keywords.Cascade)
    (then (word keywords.Set) (λ _. or (word keywords.Null) (word keywords.Default)))))

unfoldable pub rule : Part Placed Mark
rule =
    then (word keywords.On) (λ _.
    then (or (word keywords.Delete) (word keywords.Update)) (λ _.
    action))

unfoldable pub target : Part Placed Target
target =
    then (word keywords.References) (λ _.
    then name (λ table.
    then (optional list) (λ columns.
    then (skip (repeated rule)) (λ _.
    give (record { table = table; columns = columns })))))

-- ---- key

unfoldable pub primary : Part Placed Key
primary =
    then (word keywords.Primary) (λ _.
    then (word keywords.Key) (λ _.
    then list (λ names.
    give (keys.Primary names))))

unfoldable pub unique : Part Placed Key
unique =
    then (word keywords.Unique) (λ _.
    then list (λ names.
    give (keys.Unique names)))

unfoldable pub foreign : Part Placed Key
foreign =
    then (word keywords.Foreign) (λ _.
    then (word keywords.Key) (λ _.
    then list (λ names.
    then target (λ to.
    give (keys.Foreign (record { columns = names; target = to }))))))

unfoldable pub key : Part Placed Key
key = or primary (or unique foreign)

unfoldable pub constraint_name : Part Placed Mark
constraint_name = then (word keywords.Constraint) (λ _. skip name)

unfoldable pub named_key : Part Placed Key
named_key = then (skip (optional constraint_name)) (λ _. key)

-- ---- type

-- a part, where it is allowed
abbrev pub where_allowed : Bool → Part Placed Mark → Part Placed Mark
where_allowed true part = skip (optional part)
where_allowed false part = give tt

unfoldable pub length : Part Placed Mark
length =
    then (sign signs.Open) (λ _.
    then number (λ _.
    then (skip (optional (then (sign signs.Comma) (λ _. number)))) (λ _.
    sign signs.Close)))

unfoldable pub without_time_zone : Part Placed Mark
without_time_zone =
    then (word keywords.Without) (λ _.
    then (word keywords.Time) (λ _.
    word keywords.Zone))

-- behind the first word
unfoldable pub type_end : TypeWord → Part Placed ColumnType
type_end first =
    then (where_allowed first.varies (word keywords.Varying)) (λ _.
    then (skip (optional length)) (λ _.
    then (where_allowed first.zoned without_time_zone) (λ _.
    give first.kind)))

unfoldable pub column_type : Part Placed ColumnType
column_type = then (token (λ t. type_word_of t.token)) type_end

-- ---- column

unfoldable pub bare_constraint : Part Placed Constraint
bare_constraint = or
    (then (word keywords.Primary) (λ _. then (word keywords.Key) (λ _. give constraints.PrimaryKey))) (or
    (then (word keywords.Unique) (λ _. give constraints.Unique)) (or
    (then (word keywords.Not) (λ _. then (word keywords.Null) (λ _. give constraints.NotNull))) (or
    (then (word keywords.Null) (λ _. give constraints.Null))
    (then target (λ to. give (constraints.References to))))))

unfoldable pub constraint : Part Placed Constraint
constraint = then (skip (optional constraint_name)) (λ _. bare_constraint)

-- the place of a type is marked
unfoldable pub column : Part Placed Column
column =
    then column_name (λ name.
    then (marked column_type) (λ kind.
    then (repeated constraint) (λ constraints.
    give (record { name = name; kind = kind; constraints = constraints }))))

-- ---- item and statement

unfoldable pub item : Part Placed Item
item = or
    (then named_key (λ key. give (items.Key key)))
    (then column (λ column. give (items.Column column)))

unfoldable pub table_body : Part Placed Statement
table_body =
    then name (λ name.
    then (sign signs.Open) (λ _.
    then (separated_by item (sign signs.Comma)) (λ items.
    then (sign signs.Close) (λ _.
    give (statements.Create (record { name = name; items = items }))))))

unfoldable pub if_not_exists : Part Placed Mark
if_not_exists =
    then (word keywords.If) (λ _.
    then (word keywords.Not) (λ _.
    word keywords.Exists))

unfoldable pub create : Part Placed Statement
create =
    then (word keywords.Create) (λ _.
    then (word keywords.Table) (λ _.
    then (optional if_not_exists) (λ _.
    table_body)))

unfoldable pub added_key : Part Placed Statement
added_key =
    then name (λ name.
    then (word keywords.Add) (λ _.
    then named_key (λ key.
    give (statements.Alter (record { name = name; key = key })))))

unfoldable pub alter : Part Placed Statement
alter =
    then (word keywords.Alter) (λ _.
    then (word keywords.Table) (λ _.
    then (optional (word keywords.Only)) (λ _.
    added_key)))

unfoldable pub statement : Part Placed Statement
statement = or create alter

-- ---- file

-- those that are there
abbrev pub present : {A : Type 0} → List (Option A) → List A
present [] = []
present (Some x ∷ xs) = x ∷ present xs
present (None ∷ xs) = present xs

unfoldable pub file : Part Placed (List Statement)
file = then (ended_by (optional statement) (sign signs.Semicolon)) (λ statements. give (present statements))
