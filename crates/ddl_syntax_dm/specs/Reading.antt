-- How the statements are read, from left to right.
use Rattle.std.specs.Prelude.{List, [], ◌∷◌, Option, Ok, Bool, true, false, is_some, ◌&&◌, ◌||◌, not}
use Rattle.grammar_dm.specs.Reading.{Answer, ◌>>=◌, token_at, starts, many_at, optional_at, skip_optional_at, skip_many_at, behind_at, separated_at, marked_at, through}
use Rattle.ddl_syntax_dm.specs.declared.token.Keyword.{Keyword}
use Rattle.ddl_syntax_dm.specs.declared.token.Keyword.TheVariants as keywords
use Rattle.ddl_tokens_dm.specs.declared.token.Sign.{Sign}
use Rattle.ddl_tokens_dm.specs.declared.token.Sign.TheVariants as signs
use Rattle.ddl_tokens_dm.specs.declared.token.Placed.{Placed}
use Rattle.ddl_syntax_dm.specs.declared.token.TypeWord.{TypeWord}
use Rattle.ddl_syntax_dm.specs.declared.syntax.ColumnType.{ColumnType}
use Rattle.ddl_syntax_dm.specs.declared.syntax.Target.{Target}
use Rattle.ddl_syntax_dm.specs.declared.syntax.Key.{Key}
use Rattle.ddl_syntax_dm.specs.declared.syntax.Key.TheVariants as keys
use Rattle.ddl_syntax_dm.specs.declared.syntax.Constraint.{Constraint}
use Rattle.ddl_syntax_dm.specs.declared.syntax.Constraint.TheVariants as constraints
use Rattle.ddl_syntax_dm.specs.declared.syntax.Column.{Column}
use Rattle.ddl_syntax_dm.specs.declared.syntax.Item.{Item}
use Rattle.ddl_syntax_dm.specs.declared.syntax.Item.TheVariants as items
use Rattle.ddl_syntax_dm.specs.declared.syntax.Statement.{Statement}
use Rattle.ddl_syntax_dm.specs.declared.syntax.Statement.TheVariants as statements
use Rattle.ddl_syntax_dm.specs.Words.{Name, Mark, sign_of, word_of, number_of, name_of, column_name_of, type_word_of}
use Rattle.ddl_syntax_dm.specs.Grammar.{present}

abbrev pub Read : Type 0 → Type 0
Read V = Answer Placed V

-- ---- single tokens

abbrev pub sign_at : Sign → List Placed → Read Mark
sign_at s = token_at (λ t. sign_of s t.token)

abbrev pub word_at : Keyword → List Placed → Read Mark
word_at k = token_at (λ t. word_of k t.token)

abbrev pub number_at : List Placed → Read Mark
number_at = token_at (λ t. number_of t.token)

abbrev pub name_at : List Placed → Read Name
name_at = token_at (λ t. name_of t.token)

abbrev pub skip_name_at : List Placed → Read Mark
skip_name_at ts = through (λ _. tt) (name_at ts)

abbrev pub column_name_at : List Placed → Read Name
column_name_at = token_at (λ t. column_name_of t.token)

abbrev pub type_word_at : List Placed → Read TypeWord
type_word_at = token_at (λ t. type_word_of t.token)

abbrev pub is_sign : Sign → Placed → Bool
is_sign s t = is_some (sign_of s t.token)

abbrev pub is_word : Keyword → Placed → Bool
is_word k t = is_some (word_of k t.token)

-- a word or a mark that comes first
pub data First : Type 0 where
  a_word : Keyword → First
  a_sign : Sign → First

abbrev pub is_first : First → Placed → Bool
is_first (a_word k) t = is_word k t
is_first (a_sign s) t = is_sign s t

abbrev pub is_one_of : List First → Placed → Bool
is_one_of [] t = false
is_one_of (f ∷ fs) t = is_first f t || is_one_of fs t

-- ---- list

unfoldable pub next_name_at : List Placed → Read Name
next_name_at = behind_at (λ t. sign_of signs.Comma t.token) name_at

unfoldable pub names_at : List Placed → Read (List Name)
names_at = separated_at (is_sign signs.Comma) name_at next_name_at

unfoldable pub list_at : List Placed → Read (List Name)
list_at ts = do
  open' ← sign_at signs.Open ts
  names ← names_at open'.1
  close ← sign_at signs.Close names.1
  Ok (names.0, close.1)

-- ---- action and target

unfoldable pub set_action_at : List Placed → Read Mark
set_action_at ts = elim (starts (is_word keywords.Null) ts) [
  | true ↦ word_at keywords.Null ts
  | false ↦ word_at keywords.Default ts
]

unfoldable pub action_at : List Placed → Read Mark
action_at ts = elim (starts (is_word keywords.No) ts) [
  | true ↦ (word_at keywords.No ts >>= λ no. word_at keywords.Action no.1)
  | false ↦ elim (starts (is_word keywords.Restrict) ts) [
    | true ↦ word_at keywords.Restrict ts
    | false ↦ elim (starts (is_word keywords.Cascade) ts) [
      | true ↦ word_at keywords.Cascade ts
      | false ↦ (word_at keywords.Set ts >>= λ set. set_action_at set.1)
    ]
  ]
]

unfoldable pub event_at : List Placed → Read Mark
event_at ts = elim (starts (is_word keywords.Delete) ts) [
  | true ↦ word_at keywords.Delete ts
  | false ↦ word_at keywords.Update ts
]

unfoldable pub rule_at : List Placed → Read Mark
rule_at ts = do
  on ← word_at keywords.On ts
  event ← event_at on.1
  action_at event.1

unfoldable pub rules_at : List Placed → Read Mark
rules_at = skip_many_at (is_word keywords.On) rule_at

unfoldable pub given_list_at : List Placed → Read (Option (List Name))
given_list_at = optional_at (is_sign signs.Open) list_at

unfoldable pub target_at : List Placed → Read Target
target_at ts = do
  references ← word_at keywords.References ts
  table ← name_at references.1
  columns ← given_list_at table.1
  rules ← rules_at columns.1
  Ok (record { table = table.0; columns = columns.0 }, rules.1)

-- ---- key

unfoldable pub primary_at : List Placed → Read Key
primary_at ts = do
  primary ← word_at keywords.Primary ts
  key ← word_at keywords.Key primary.1
  names ← list_at key.1
  Ok (keys.Primary names.0, names.1)

unfoldable pub unique_at : List Placed → Read Key
unique_at ts = do
  unique ← word_at keywords.Unique ts
  names ← list_at unique.1
  Ok (keys.Unique names.0, names.1)

unfoldable pub foreign_at : List Placed → Read Key
foreign_at ts = do
  foreign ← word_at keywords.Foreign ts
  key ← word_at keywords.Key foreign.1
  names ← list_at key.1
  to ← target_at names.1
  Ok (keys.Foreign (record { columns = names.0; target = to.0 }), to.1)

unfoldable pub key_at : List Placed → Read Key
key_at ts = elim (starts (is_word keywords.Primary) ts) [
  | true ↦ primary_at ts
  | false ↦ elim (starts (is_word keywords.Unique) ts) [
    | true ↦ unique_at ts
    | false ↦ foreign_at ts
  ]
]

unfoldable pub constraint_name_at : List Placed → Read Mark
constraint_name_at ts = do
  constraint ← word_at keywords.Constraint ts
  skip_name_at constraint.1

unfoldable pub after_name_at : List Placed → Read Mark
after_name_at = skip_optional_at (is_word keywords.Constraint) constraint_name_at

unfoldable pub named_key_at : List Placed → Read Key
named_key_at ts = do
  name ← after_name_at ts
  key_at name.1

-- ---- type

unfoldable pub scale_at : List Placed → Read Mark
scale_at ts = do
  comma ← sign_at signs.Comma ts
  number_at comma.1

unfoldable pub after_scale_at : List Placed → Read Mark
after_scale_at = skip_optional_at (is_sign signs.Comma) scale_at

unfoldable pub length_at : List Placed → Read Mark
length_at ts = do
  open' ← sign_at signs.Open ts
  number ← number_at open'.1
  scale ← after_scale_at number.1
  sign_at signs.Close scale.1

unfoldable pub after_length_at : List Placed → Read Mark
after_length_at = skip_optional_at (is_sign signs.Open) length_at

unfoldable pub after_varying_at : Bool → List Placed → Read Mark
after_varying_at true ts = skip_optional_at (is_word keywords.Varying) (word_at keywords.Varying) ts
after_varying_at false ts = Ok (tt, ts)

unfoldable pub zone_at : List Placed → Read Mark
zone_at ts = do
  without ← word_at keywords.Without ts
  time ← word_at keywords.Time without.1
  word_at keywords.Zone time.1

unfoldable pub after_zone_at : Bool → List Placed → Read Mark
after_zone_at true ts = skip_optional_at (is_word keywords.Without) zone_at ts
after_zone_at false ts = Ok (tt, ts)

unfoldable pub bare_type_at : List Placed → Read ColumnType
bare_type_at ts = do
  first ← type_word_at ts
  varying ← after_varying_at first.0.varies first.1
  length ← after_length_at varying.1
  zone ← after_zone_at first.0.zoned length.1
  Ok (first.0.kind, zone.1)

unfoldable pub column_type_at : List Placed → Read ColumnType
column_type_at ts = marked_at ts (bare_type_at ts)

-- ---- column

unfoldable pub references_at : List Placed → Read Constraint
references_at ts = do
  to ← target_at ts
  Ok (constraints.References to.0, to.1)

unfoldable pub primary_key_at : List Placed → Read Constraint
primary_key_at ts = do
  primary ← word_at keywords.Primary ts
  key ← word_at keywords.Key primary.1
  Ok (constraints.PrimaryKey, key.1)

unfoldable pub is_unique_at : List Placed → Read Constraint
is_unique_at ts = do
  unique ← word_at keywords.Unique ts
  Ok (constraints.Unique, unique.1)

unfoldable pub not_null_at : List Placed → Read Constraint
not_null_at ts = do
  not ← word_at keywords.Not ts
  null ← word_at keywords.Null not.1
  Ok (constraints.NotNull, null.1)

unfoldable pub null_at : List Placed → Read Constraint
null_at ts = do
  null ← word_at keywords.Null ts
  Ok (constraints.Null, null.1)

unfoldable pub bare_constraint_at : List Placed → Read Constraint
bare_constraint_at ts = elim (starts (is_word keywords.Primary) ts) [
  | true ↦ primary_key_at ts
  | false ↦ elim (starts (is_word keywords.Unique) ts) [
    | true ↦ is_unique_at ts
    | false ↦ elim (starts (is_word keywords.Not) ts) [
      | true ↦ not_null_at ts
      | false ↦ elim (starts (is_word keywords.Null) ts) [
        | true ↦ null_at ts
        | false ↦ references_at ts
      ]
    ]
  ]
]

unfoldable pub constraint_at : List Placed → Read Constraint
constraint_at ts = do
  name ← after_name_at ts
  bare_constraint_at name.1

abbrev pub constraint_firsts : List First
constraint_firsts =
    a_word keywords.Constraint ∷ a_word keywords.Primary ∷ a_word keywords.Unique ∷ a_word keywords.Not ∷ a_word keywords.Null ∷ a_word keywords.References ∷ []

unfoldable pub begins_constraint : Placed → Bool
begins_constraint t = is_one_of constraint_firsts t

unfoldable pub constraints_at : List Placed → Read (List Constraint)
constraints_at = many_at begins_constraint constraint_at

unfoldable pub column_at : List Placed → Read Column
column_at ts = do
  name ← column_name_at ts
  kind ← column_type_at name.1
  constraints ← constraints_at kind.1
  Ok (record { name = name.0; kind = kind.0; constraints = constraints.0 }, constraints.1)

-- ---- item and statement

abbrev pub key_firsts : List First
key_firsts = a_word keywords.Constraint ∷ a_word keywords.Primary ∷ a_word keywords.Unique ∷ a_word keywords.Foreign ∷ []

unfoldable pub begins_named_key : Placed → Bool
begins_named_key t = is_one_of key_firsts t

unfoldable pub item_at : List Placed → Read Item
item_at ts = elim (starts begins_named_key ts) [
  | true ↦ (named_key_at ts >>= λ key. Ok (items.Key key.0, key.1))
  | false ↦ (column_at ts >>= λ column. Ok (items.Column column.0, column.1))
]

unfoldable pub next_item_at : List Placed → Read Item
next_item_at = behind_at (λ t. sign_of signs.Comma t.token) item_at

unfoldable pub items_at : List Placed → Read (List Item)
items_at = separated_at (is_sign signs.Comma) item_at next_item_at

unfoldable pub table_body_at : List Placed → Read Statement
table_body_at ts = do
  name ← name_at ts
  open' ← sign_at signs.Open name.1
  items ← items_at open'.1
  close ← sign_at signs.Close items.1
  Ok (statements.Create (record { name = name.0; items = items.0 }), close.1)

-- IF is a key word here, and no name
abbrev pub takes_if : List Placed → Bool
takes_if [] = false
takes_if (t ∷ ts) = is_word keywords.If t && starts (is_word keywords.Not) ts

unfoldable pub if_not_exists_at : List Placed → Read Mark
if_not_exists_at ts = do
  if' ← word_at keywords.If ts
  not ← word_at keywords.Not if'.1
  word_at keywords.Exists not.1

unfoldable pub created_at : List Placed → Read Statement
created_at ts = elim (takes_if ts) [
  | true ↦ (if_not_exists_at ts >>= λ exists. table_body_at exists.1)
  | false ↦ table_body_at ts
]

unfoldable pub create_at : List Placed → Read Statement
create_at ts = do
  create ← word_at keywords.Create ts
  table ← word_at keywords.Table create.1
  created_at table.1

unfoldable pub added_key_at : List Placed → Read Statement
added_key_at ts = do
  name ← name_at ts
  add ← word_at keywords.Add name.1
  key ← named_key_at add.1
  Ok (statements.Alter (record { name = name.0; key = key.0 }), key.1)

-- ONLY is a key word here, and no name: what follows is no ADD, or another ADD follows that
abbrev pub not_added : List Placed → Bool
not_added [] = true
not_added (t ∷ ts) = not (is_word keywords.Add t) || starts (is_word keywords.Add) ts

abbrev pub takes_only : List Placed → Bool
takes_only [] = false
takes_only (t ∷ ts) = is_word keywords.Only t && not_added ts

unfoldable pub altered_at : List Placed → Read Statement
altered_at ts = elim (takes_only ts) [
  | true ↦ (word_at keywords.Only ts >>= λ only. added_key_at only.1)
  | false ↦ added_key_at ts
]

unfoldable pub alter_at : List Placed → Read Statement
alter_at ts = do
  alter ← word_at keywords.Alter ts
  table ← word_at keywords.Table alter.1
  altered_at table.1

unfoldable pub statement_at : List Placed → Read Statement
statement_at ts = elim (starts (is_word keywords.Create) ts) [
  | true ↦ create_at ts
  | false ↦ alter_at ts
]

-- ---- file

abbrev pub statement_firsts : List First
statement_firsts = a_word keywords.Create ∷ a_word keywords.Alter ∷ []

unfoldable pub begins_statement : Placed → Bool
begins_statement t = is_one_of statement_firsts t

unfoldable pub optional_statement_at : List Placed → Read (Option Statement)
optional_statement_at = optional_at begins_statement statement_at

unfoldable pub next_statement_at : List Placed → Read (Option Statement)
next_statement_at = behind_at (λ t. sign_of signs.Semicolon t.token) optional_statement_at

unfoldable pub file_at : List Placed → Read (List Statement)
file_at ts = through present (separated_at (is_sign signs.Semicolon) optional_statement_at next_statement_at ts)
