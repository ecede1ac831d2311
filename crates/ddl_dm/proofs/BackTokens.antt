-- The canonical statements of a shape, read back: their tokens, and the statements that these spell.
use Rattle.std.proofs.Common.{◌≡◌, ◌<◌, ◌+◌, ◌-◌, ℕ, Bool, true, false, List, [], ◌∷◌, ◌++◌, inl, inr, Option, Some, None, map, length, refl, sym, ap, subst, ◌∙◌, append_assoc, arith}
use Rattle.std.specs.Prelude.{codes, encode_utf8_all, chars, IsUtf8, ◌==◌}
use Rattle.std.specs.Char.{encode_utf8}
use Rattle.std.proofs.lemmas.Str.{encodes_same, encodes-chars}
use Rattle.std.specs.List.{flat_map, list_all}
use Rattle.grammar_dm.specs.Part.{Part, Spells, Repeats, separated_by, skip}
use Rattle.grammar_dm.specs.Part.Part.{give, then, optional}
use Rattle.grammar_dm.specs.Part.Repeats.{no_repeat, one_more}
use Rattle.grammar_dm.specs.Reading.{starts}
use Rattle.value_dm.specs.declared.kind.Kind.{Kind}
use Rattle.value_dm.specs.declared.kind.Kind.TheVariants as kinds
use Rattle.schema_dm.specs.declared.draft.Column.{Column as ColumnDraft}
use Rattle.schema_dm.specs.declared.table.ShapeTable.{ShapeTable}
use Rattle.schema_dm.specs.Naming.{Name, IsBadName}
use Rattle.schema_dm.specs.Shapes.{IsShapeColumn, IsShapeTable, IsShape}
use Rattle.members_dm.specs.Membership.{IsIn}
use Rattle.ddl_tokens_dm.specs.declared.token.Token.{Token}
use Rattle.ddl_tokens_dm.specs.declared.token.Token.TheVariants as tokens
use Rattle.ddl_tokens_dm.specs.declared.token.Sign.{Sign}
use Rattle.ddl_tokens_dm.specs.declared.token.Sign.TheVariants as signs
use Rattle.ddl_tokens_dm.specs.declared.token.Placed.{Placed}
use Rattle.ddl_tokens_dm.specs.Characters.{character, is_space, begins_word, in_word}
use Rattle.ddl_tokens_dm.specs.Tokens.{doubled, IsIdentifier, Consists, unmarked}
use Rattle.ddl_tokens_dm.specs.Tokens.Consists.{nothing, between, token}
use Rattle.ddl_syntax_dm.specs.declared.token.Keyword.TheVariants as keywords
use Rattle.ddl_syntax_dm.specs.declared.token.TypeWord.{TypeWord}
use Rattle.ddl_syntax_dm.specs.declared.syntax.ColumnType.{ColumnType}
use Rattle.ddl_syntax_dm.specs.declared.syntax.Item.{Item}
use Rattle.ddl_syntax_dm.specs.declared.syntax.Statement.{Statement}
use Rattle.ddl_syntax_dm.specs.Words.{Mark, spells_word, type_word, type_word_of, word_of, column_name_of}
use Rattle.ddl_syntax_dm.specs.Grammar.{sign, word, item, length as length_part, without_time_zone, column as column_part, column_type, where_allowed, type_end, statement, create, table_body, file, present}
use Rattle.ddl_dm.specs.Canonical.{quoted, type_text, column_text, further_text, columns_text, table_text, canonical_text, plain_table}
use Rattle.ddl_dm.specs.Schema.{IsDdl}
use Rattle.ddl_dm.proofs.BackSchema.{type_of, column_item, statement_of, declares_back}

-- ---- single tokens, in front of a text whose tokens are known

module _ (total : ℕ) where
  abbrev pub Text : List ℕ → List Placed → Type 0
  Text ts found = Consists total ts found []

  abbrev at : Token → List ℕ → Placed
  at t ts = record { token = t; place = total - length (encode_utf8_all ts) + 1 }

  space_on : (c : ℕ) (rest : List ℕ) (more : List Placed) → is_space c ≡ true → Text rest more → Text (c ∷ rest) more
  space_on c rest more is h = between (inl (c, refl, is)) h

  sign_on : (s : Sign) (rest : List ℕ) (more : List Placed) → Text rest more → Text (character s ∷ rest) (at (tokens.Sign s) (character s ∷ rest) ∷ more)
  sign_on s rest more h = token {token = tokens.Sign s} refl h

  word_on : (c : ℕ) (cs rest : List ℕ) (more : List Placed) → begins_word c ≡ true → list_all in_word cs ≡ true → starts in_word rest ≡ false → Text rest more
      → Text ((c ∷ cs) ++ rest) (at (tokens.Word (c ∷ cs)) ((c ∷ cs) ++ rest) ∷ more)
  word_on c cs rest more begins all ends h =
      token {token = tokens.Word (c ∷ cs)} (c, cs, cs ++ rest, refl, refl, begins, record { whole = refl; pass = all; ends = ends }) h

  quoted_on : (name rest : List ℕ) (more : List Placed) → IsIdentifier name → starts (λ c. c == 34) rest ≡ false → Text rest more
      → Text (quoted name ++ rest) (at (tokens.Quoted name) (quoted name ++ rest) ∷ more)
  quoted_on name rest more good ends h =
      token {token = tokens.Quoted name} (ap (λ cs. 34 ∷ cs) (append_assoc (doubled name) (34 ∷ []) rest), ends, good) h

text_along : (total : ℕ) {x y : List ℕ} {found : List Placed} → x ≡ y → Consists total x found [] → Consists total y found []
text_along total {x} {y} {found} e h = let P : List ℕ → Type 0 = λ ts. Consists total ts found [] in subst P e h

identifier : (name : Name) → ¬ IsBadName name → IsIdentifier name
identifier [] good = absurd (good (inr tt))
identifier (c ∷ cs) good = (c, cs, refl, λ e. good (inr e))

-- ---- words

create_known : word_of keywords.Create (tokens.Word (codes "CREATE")) ≡ Some tt
unfolding spells_word encode_utf8
create_known = refl

table_known : word_of keywords.Table (tokens.Word (codes "TABLE")) ≡ Some tt
unfolding spells_word encode_utf8
table_known = refl

abbrev first_of : Kind → TypeWord
first_of kinds.Text = record { kind = type_of kinds.Text; varies = false; zoned = false }
first_of kinds.Integer = record { kind = type_of kinds.Integer; varies = false; zoned = false }
first_of kinds.Decimal = record { kind = type_of kinds.Decimal; varies = false; zoned = false }
first_of kinds.Boolean = record { kind = type_of kinds.Boolean; varies = false; zoned = false }
first_of kinds.Date = record { kind = type_of kinds.Date; varies = false; zoned = false }
first_of kinds.Time = record { kind = type_of kinds.Time; varies = false; zoned = true }
first_of kinds.DateTime = record { kind = type_of kinds.DateTime; varies = false; zoned = true }
first_of kinds.Binary = record { kind = type_of kinds.Binary; varies = true; zoned = false }

type_known : (kind : Kind) → type_word (type_text kind) ≡ Some (first_of kind)
unfolding spells_word type_word encode_utf8
type_known kinds.Text = refl
type_known kinds.Integer = refl
type_known kinds.Decimal = refl
type_known kinds.Boolean = refl
type_known kinds.Date = refl
type_known kinds.Time = refl
type_known kinds.DateTime = refl
type_known kinds.Binary = refl

first_kind : (kind : Kind) → type_of kind ≡ (first_of kind).kind
first_kind kinds.Text = refl
first_kind kinds.Integer = refl
first_kind kinds.Decimal = refl
first_kind kinds.Boolean = refl
first_kind kinds.Date = refl
first_kind kinds.Time = refl
first_kind kinds.DateTime = refl
first_kind kinds.Binary = refl

is_word : (kind : Kind) → (c : ℕ) × (cs : List ℕ) × (type_text kind ≡ c ∷ cs) × (begins_word c ≡ true) × (list_all in_word cs ≡ true)
is_word kinds.Text = (84, codes "EXT", refl, refl, refl)
is_word kinds.Integer = (73, codes "NTEGER", refl, refl, refl)
is_word kinds.Decimal = (68, codes "ECIMAL", refl, refl, refl)
is_word kinds.Boolean = (66, codes "OOLEAN", refl, refl, refl)
is_word kinds.Date = (68, codes "ATE", refl, refl, refl)
is_word kinds.Time = (84, codes "IME", refl, refl, refl)
is_word kinds.DateTime = (84, codes "IMESTAMP", refl, refl, refl)
is_word kinds.Binary = (66, codes "INARY", refl, refl, refl)

-- ---- columns

skipped : {V : Type 0} (part : Part Placed V) (ts : List Placed) → Spells (skip (optional part)) ts ts tt
skipped part ts = (ts, None, inr (refl, refl), (refl, refl))

allowed : (b : Bool) (part : Part Placed Mark) (ts : List Placed) → Spells (where_allowed b part) ts ts tt
allowed true part ts = skipped part ts
allowed false part ts = (refl, refl)

type_end_on : (first : TypeWord) (ts : List Placed) → Spells (type_end first) ts ts first.kind
unfolding type_end
type_end_on first ts = (ts, tt, allowed first.varies (word keywords.Varying) ts, (ts, tt, skipped length_part ts, (ts, tt, allowed first.zoned without_time_zone ts, (refl, refl))))

item_on : (column : ColumnDraft) (name kind : Placed) (more : List Placed) → name.token ≡ tokens.Quoted column.name → kind.token ≡ tokens.Word (type_text column.kind)
    → Spells item (name ∷ kind ∷ more) more (column_item column)
unfolding item column_part column_type
item_on column name kind more is_name is_kind =
    inr (
      more,
      record { name = column.name; kind = type_of column.kind; constraints = [] },
      (
        kind ∷ more,
        column.name,
        (name, refl, ap column_name_of is_name),
        (
          more,
          type_of column.kind,
          (more, first_of column.kind, (kind, refl, ap type_word_of is_kind ∙ type_known column.kind), ended),
          (more, [], no_repeat, (refl, refl)),
        ),
      ),
      (refl, refl),
    )
  where
    ended : Spells (type_end (first_of column.kind)) more more (type_of column.kind)
    ended = let P : ColumnType → Type 0 = λ k. Spells (type_end (first_of column.kind)) more more k in subst P (sym (first_kind column.kind)) (type_end_on (first_of column.kind) more)

module _ (total : ℕ) where
  abbrev Read : {V : Type 0} → Part Placed V → List ℕ → List Placed → V → Type 0
  Read part text more v = (all : List Placed) × Text total text all × Spells part all more v

  column_on : (column : ColumnDraft) (rest : List ℕ) (more : List Placed) → ¬ IsBadName column.name → starts in_word rest ≡ false → Text total rest more
      → Read item (column_text column ++ rest) more (column_item column)
  unfolding column_text
  column_on column rest more good ends h =
      let word = is_word column.kind in
      let P : List ℕ → Type 0 = λ w. Text total (w ++ rest) (at total (tokens.Word w) (w ++ rest) ∷ more) in
      let kind = type_text column.kind in
      let typed : Text total (kind ++ rest) (at total (tokens.Word kind) (kind ++ rest) ∷ more) = subst P (sym word.2) (word_on total word.0 word.1 rest more word.3 word.4 ends h) in
      let behind = 32 ∷ (kind ++ rest) in
      let named = quoted_on total column.name behind _ (identifier column.name good) refl (space_on total 32 (kind ++ rest) _ refl typed) in
      let same : quoted column.name ++ behind ≡ (quoted column.name ++ codes " " ++ kind) ++ rest =
      sym (append_assoc (quoted column.name ++ codes " ") kind rest ∙ append_assoc (quoted column.name) (codes " ") (kind ++ rest)) in (
        at total (tokens.Quoted column.name) (quoted column.name ++ behind) ∷ at total (tokens.Word kind) (kind ++ rest) ∷ more,
        text_along total same named,
        item_on column _ _ more refl refl,
      )

  ends_columns : (columns : List ColumnDraft) (rest : List ℕ) → starts in_word rest ≡ false → starts in_word (flat_map further_text columns ++ rest) ≡ false
  unfolding further_text
  ends_columns [] rest ends = ends
  ends_columns (c ∷ cs) rest ends = refl

  abbrev Further : Part Placed Item
  Further = then (sign signs.Comma) (λ _. item)

  further_on : (columns : List ColumnDraft) (rest : List ℕ) (more : List Placed) → ((column : ColumnDraft) → IsIn column columns → IsShapeColumn column) → starts in_word rest ≡ false → Text total rest more
      → (all : List Placed) × Text total (flat_map further_text columns ++ rest) all × Repeats (Spells Further) all more (map column_item columns)
  unfolding further_text
  further_on [] rest more good ends h = (more, h, no_repeat)
  further_on (c ∷ cs) rest more good ends h =
      let behind = further_on cs rest more (λ d k. good d (inr k)) ends h in
      let after = flat_map further_text cs ++ rest in
      let here = column_on c after behind.0 (good c (inl refl)).0 (ends_columns cs rest ends) behind.1 in
      let comma = sign_on total signs.Comma (32 ∷ (column_text c ++ after)) here.0 (space_on total 32 (column_text c ++ after) here.0 refl here.1) in (
        _ ∷ here.0,
        text_along total (ap (λ ts. 44 ∷ 32 ∷ ts) (sym (append_assoc (column_text c) (flat_map further_text cs) rest))) comma,
        one_more (here.0, tt, (_, refl, refl), here.2) behind.2,
      )

  columns_on : (columns : List ColumnDraft) (rest : List ℕ) (more : List Placed) → ((column : ColumnDraft) → IsIn column columns → IsShapeColumn column) → 0 < length columns → starts in_word rest ≡ false
      → Text total rest more → Read (separated_by item (sign signs.Comma)) (columns_text columns ++ rest) more (map column_item columns)
  unfolding columns_text
  columns_on [] rest more good some ends h = absurd (omega arith)
  columns_on (c ∷ cs) rest more good some ends h =
      let behind = further_on cs rest more (λ d k. good d (inr k)) ends h in
      let after = flat_map further_text cs ++ rest in
      let here = column_on c after behind.0 (good c (inl refl)).0 (ends_columns cs rest ends) behind.1 in (
        here.0,
        text_along total (sym (append_assoc (column_text c) (flat_map further_text cs) rest)) here.1,
        (behind.0, column_item c, here.2, (more, map column_item cs, behind.2, (refl, refl))),
      )

  -- ---- tables

  abbrev Ended : Part Placed (Option Statement)
  Ended = then (optional statement) (λ x. then (sign signs.Semicolon) (λ _. give x))

  table_on : (table : ShapeTable) (rest : List ℕ) (more : List Placed) → IsShapeTable table → Text total rest more → Read Ended (table_text table ++ rest) more (Some (statement_of table))
  unfolding table_text statement create table_body
  table_on table rest more shape h =
      let end = sign_on total signs.Semicolon (10 ∷ rest) more (space_on total 10 rest more refl h) in
      let close = sign_on total signs.Close (59 ∷ 10 ∷ rest) _ end in
      let columns = columns_on table.columns (41 ∷ 59 ∷ 10 ∷ rest) _ shape.columns shape.some refl close in
      let behind = columns_text table.columns ++ 41 ∷ 59 ∷ 10 ∷ rest in
      let opened = sign_on total signs.Open behind columns.0 columns.1 in
      let named = quoted_on total table.name (32 ∷ 40 ∷ behind) _ (identifier table.name shape.name) refl (space_on total 32 (40 ∷ behind) _ refl opened) in
      let from_name = quoted table.name ++ 32 ∷ 40 ∷ behind in
      let tabled = word_on total 84 (codes "ABLE") (32 ∷ from_name) _ refl refl refl (space_on total 32 from_name _ refl named) in
      let made = word_on total 67 (codes "REATE") (32 ∷ (codes "TABLE" ++ 32 ∷ from_name)) _ refl refl refl (space_on total 32 (codes "TABLE" ++ 32 ∷ from_name) _ refl tabled) in (
        _,
        text_along total (sym (whole (quoted table.name) (columns_text table.columns) rest)) made,
        (
          _,
          Some (statement_of table),
          inl (
            statement_of table,
            inl (
              _,
              tt,
              (_, refl, create_known),
              (
                _,
                tt,
                (_, refl, table_known),
                (
                  _,
                  None,
                  inr (refl, refl),
                  (_, table.name, (_, refl, refl), (columns.0, tt, (_, refl, refl), (_, map column_item table.columns, columns.2, (_, tt, (_, refl, refl), (refl, refl))))),
                ),
              ),
            ),
            refl,
          ),
          (more, tt, (_, refl, refl), (refl, refl)),
        ),
      )
    where
      whole : (name columns rest : List ℕ) → (codes "CREATE TABLE " ++ name ++ codes " (" ++ columns ++ codes ");\n") ++ rest ≡ codes "CREATE TABLE " ++ (name ++ 32 ∷ 40 ∷ (columns ++ 41 ∷ 59 ∷ 10 ∷ rest))
      whole name columns rest =
          append_assoc (codes "CREATE TABLE " ++ name ++ codes " (" ++ columns) (codes ");\n") rest
          ∙ append_assoc (codes "CREATE TABLE " ++ name ++ codes " (") columns (codes ");\n" ++ rest)
          ∙ append_assoc (codes "CREATE TABLE " ++ name) (codes " (") (columns ++ (codes ");\n" ++ rest))
          ∙ append_assoc (codes "CREATE TABLE ") name (codes " (" ++ (columns ++ (codes ");\n" ++ rest)))

  abbrev present_of : ShapeTable → Option Statement
  present_of table = Some (statement_of table)

  tables_on : (tables : List ShapeTable) → ((table : ShapeTable) → IsIn table tables → IsShapeTable table)
      → (all : List Placed) × Text total (flat_map table_text tables) all × Repeats (Spells Ended) all [] (map present_of tables)
  tables_on [] good = ([], nothing, no_repeat)
  tables_on (t ∷ ts) good =
      let behind = tables_on ts (λ u k. good u (inr k)) in
      let here = table_on t (flat_map table_text ts) behind.0 (good t (inl refl)) behind.1 in
      (here.0, here.1, one_more here.2 behind.2)

  present_back : (tables : List ShapeTable) → map statement_of tables ≡ present (map present_of tables ++ None ∷ [])
  present_back [] = refl
  present_back (t ∷ ts) = ap (λ xs. statement_of t ∷ xs) (present_back ts)

  file_on : (tables : List ShapeTable) → IsShape tables → Read file (canonical_text tables) [] (map statement_of tables)
  unfolding canonical_text file
  file_on tables shape =
      let found = tables_on tables shape.each in
      (found.0, found.1, ([], map present_of tables ++ None ∷ [], ([], map present_of tables, found.2, ([], None, inr (refl, refl), (refl, refl))), (refl, present_back tables)))

-- ---- the bytes

unmarked_back : (tables : List ShapeTable) → unmarked (canonical_text tables) ≡ canonical_text tables
unfolding canonical_text table_text
unmarked_back [] = refl
unmarked_back (t ∷ ts) = refl

pub reads_back : (tables : List ShapeTable) (bytes : List ℕ) → IsShape tables → IsUtf8 bytes → bytes ≡ encode_utf8_all (canonical_text tables) → IsDdl bytes (map plain_table tables)
reads_back tables bytes shape text is =
    let characters : chars bytes ≡ canonical_text tables = encodes_same (chars bytes) (canonical_text tables) (encodes-chars bytes text ∙ is) in
    let found = file_on (length bytes) tables shape in
    let P : List ℕ → Type 0 = λ ts. Consists (length bytes) ts found.0 [] in
    (map statement_of tables, (text, (found.0, subst P (sym (ap unmarked characters ∙ unmarked_back tables)) found.1, found.2)), declares_back tables shape)
