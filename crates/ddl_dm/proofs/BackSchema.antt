-- The statements of a shape declare its tables.
use Rattle.std.proofs.Common.{◌≡◌, ◌<◌, ◌≤◌, ◌+◌, ℕ, zero, suc, Bool, true, false, List, [], ◌∷◌, ◌++◌, inl, inr, Some, None, map, length, take, refl, sym, ap, subst, ◌∙◌, arith, cond, nat_lt, if◌then◌else◌}
use Rattle.std.specs.List.{flat_map, enumerate_from, position_or_len, slice_get}
use Rattle.std.proofs.lemmas.List.{length-map}
use Rattle.std.specs.Prelude.{encode_utf8_all}
use Rattle.std.specs.declared.cmp.Ordering.TheVariants.{Less, Greater}
use Rattle.std.specs.Ordering.{ordering_reverse}
use Rattle.std.specs.Cmp.{nat_cmp_total}
use Rattle.std.specs.Cmp.Lexicographic.{lists_total}
use borrow.Author.Tests.{ltb-true}
use Rattle.value_dm.specs.declared.kind.Kind.{Kind}
use Rattle.value_dm.specs.declared.kind.Kind.TheVariants as kinds
use Rattle.members_dm.specs.Membership.{IsIn, NoRepeats}
use Rattle.members_dm.specs.Elements.{HasSome}
use Rattle.members_dm.proofs.AnyLemmas.{Any-nil, item_from_any, some_from_any}
use Rattle.members_dm.proofs.ElementsLemmas.{item_at_index, not-from_NoRepeats}
use Rattle.members_dm.proofs.MembershipLemmas.{map-IsIn, IsIn-map, rising-NoRepeats}
use Rattle.schema_dm.specs.declared.draft.Column.{Column as ColumnDraft}
use Rattle.schema_dm.specs.declared.draft.TableDraft.{TableDraft}
use Rattle.schema_dm.specs.declared.table.ShapeTable.{ShapeTable}
use Rattle.schema_dm.specs.declared.refusal.SchemaCause.{SchemaCause}
use Rattle.schema_dm.specs.declared.refusal.SchemaCause.TheVariants.{NoTable, TooManyTables, BadName, NoColumn, TooManyColumns, DuplicateTable, DuplicateColumn, UnknownColumn, UnknownTable, TwoPrimaryKeys, NotAKey, KindMismatch, SameColumnsTwice, NameClash}
use Rattle.schema_dm.specs.Naming.{Name}
use Rattle.schema_dm.specs.Drafts.{AnyOwnList, DeclaresTable, Holds, AreLawful}
use Rattle.schema_dm.specs.Schemas.{table_of, schema_of}
use Rattle.schema_dm.specs.Shapes.{IsBefore, IsShapeColumn, IsShapeTable, IsShape}
use Rattle.ddl_syntax_dm.specs.declared.syntax.ColumnType.{ColumnType}
use Rattle.ddl_syntax_dm.specs.declared.syntax.ColumnType.TheVariants as types
use Rattle.ddl_syntax_dm.specs.declared.syntax.Key.{Key}
use Rattle.ddl_syntax_dm.specs.declared.syntax.Item.{Item}
use Rattle.ddl_syntax_dm.specs.declared.syntax.Item.TheVariants as items
use Rattle.ddl_syntax_dm.specs.declared.syntax.CreateTable.{CreateTable}
use Rattle.ddl_syntax_dm.specs.declared.syntax.Statement.{Statement}
use Rattle.ddl_syntax_dm.specs.declared.syntax.Statement.TheVariants.{Create}
use Rattle.ddl_dm.specs.Meaning.{kind_of, item_columns, item_keys, altered_keys, is_created, added_keys, draft_with, draft_of, numbered_drafts, drafts_of, alters_unknown, unknown_alter}
use Rattle.ddl_dm.specs.Schema.{Declare}
use Rattle.ddl_dm.specs.Canonical.{plain_table}
use Rattle.ddl_dm.proofs.Growth.{made_column}

-- ---- the statements

abbrev pub type_of : Kind → ColumnType
type_of kinds.Text = types.Text
type_of kinds.Integer = types.Integer
type_of kinds.Decimal = types.Decimal
type_of kinds.Boolean = types.Boolean
type_of kinds.Date = types.Date
type_of kinds.Time = types.Time
type_of kinds.DateTime = types.DateTime
type_of kinds.Binary = types.Binary

abbrev pub column_item : ColumnDraft → Item
column_item column = items.Column (record { name = column.name; kind = type_of column.kind; constraints = [] })

abbrev pub created : ShapeTable → CreateTable
created table = record { name = table.name; items = map column_item table.columns }

abbrev pub statement_of : ShapeTable → Statement
statement_of table = Create (created table)

abbrev plain_draft : ShapeTable → TableDraft
plain_draft table = draft_with table.name table.columns []

-- ---- their drafts

kind_back : (kind : Kind) → kind_of (type_of kind) ≡ kind
kind_back kinds.Text = refl
kind_back kinds.Integer = refl
kind_back kinds.Decimal = refl
kind_back kinds.Boolean = refl
kind_back kinds.Date = refl
kind_back kinds.Time = refl
kind_back kinds.DateTime = refl
kind_back kinds.Binary = refl

columns_back : (columns : List ColumnDraft) → ((column : ColumnDraft) → IsIn column columns → IsShapeColumn column) → flat_map item_columns (map column_item columns) ≡ columns
columns_back [] h = refl
columns_back (c ∷ cs) h =
    ap (λ x. x ∷ flat_map item_columns (map column_item cs)) (ap (λ k. made_column c.name k false) (kind_back c.kind) ∙ ap (λ n. made_column c.name c.kind n) (sym (h c (inl refl)).1))
    ∙ ap (λ xs. c ∷ xs) (columns_back cs (λ d k. h d (inr k)))

keys_back : (columns : List ColumnDraft) → flat_map item_keys (map column_item columns) ≡ []
keys_back [] = refl
keys_back (c ∷ cs) = keys_back cs

no_altered : (name : Name) (tables : List ShapeTable) → flat_map (altered_keys name) (map statement_of tables) ≡ []
no_altered name [] = refl
no_altered name (t ∷ ts) = no_altered name ts

no_added : (tables : List ShapeTable) (earlier : List Statement) (name : Name) → added_keys (map statement_of tables) earlier name ≡ []
no_added tables earlier name = by_test (is_created earlier name)
  where
    by_test : (b : Bool) → (if b then [] else flat_map (altered_keys name) (map statement_of tables)) ≡ []
    by_test true = refl
    by_test false = no_altered name tables

draft_back : (tables : List ShapeTable) (earlier : List Statement) (table : ShapeTable) → IsShapeTable table → draft_of (map statement_of tables) earlier (created table) ≡ plain_draft table
draft_back tables earlier table shape =
    let added : List Key = added_keys (map statement_of tables) earlier table.name in
    ap (λ c. draft_with table.name c (flat_map item_keys (map column_item table.columns) ++ added)) (columns_back table.columns shape.columns)
    ∙ ap (λ k. draft_with table.name table.columns (k ++ added)) (keys_back table.columns)
    ∙ ap (λ k. draft_with table.name table.columns k) (no_added tables earlier table.name)

drafts_from : (tables more : List ShapeTable) (n : ℕ) → ((table : ShapeTable) → IsIn table more → IsShapeTable table)
    → flat_map (numbered_drafts (map statement_of tables)) (enumerate_from n (map statement_of more)) ≡ map plain_draft more
drafts_from tables [] n h = refl
drafts_from tables (t ∷ more) n h =
    ap (λ d. d ∷ flat_map (numbered_drafts (map statement_of tables)) (enumerate_from (n + 1) (map statement_of more))) (draft_back tables (take n (map statement_of tables)) t (h t (inl refl)))
    ∙ ap (λ ds. plain_draft t ∷ ds) (drafts_from tables more (n + 1) (λ u k. h u (inr k)))

drafts_back : (tables : List ShapeTable) → IsShape tables → drafts_of (map statement_of tables) ≡ map plain_draft tables
unfolding drafts_of
drafts_back tables shape = drafts_from tables tables 0 shape.each

-- ---- no ALTER

none_unknown : (all : List Statement) (tables : List ShapeTable) → position_or_len (alters_unknown all) (map statement_of tables) ≡ length (map statement_of tables)
none_unknown all [] = refl
none_unknown all (t ∷ ts) = let rest = none_unknown all ts in omega (arith, rest)

past_end : (n : ℕ) → cond (nat_lt n n) (Some n) None ≡ None
past_end n = by_test (nat_lt n n) refl
  where
    by_test : (b : Bool) → nat_lt n n ≡ b → cond b (Some n) None ≡ None
    by_test true e = let less = ltb-true n n e in absurd (omega (arith, less))
    by_test false e = refl

known : (tables : List ShapeTable) → unknown_alter (map statement_of tables) ≡ None
known tables =
    let n = length (map statement_of tables) in
    let P : ℕ → Type 0 = λ place. cond (nat_lt place n) (Some place) None ≡ None in
    subst P (sym (none_unknown (map statement_of tables) tables)) (past_end n)

-- ---- no cause of refusal

less_greater : Less ≡ Greater → ⊥
less_greater e = absurd cc

before_one_way : (x y : Name) → IsBefore x y → ¬ IsBefore y x
unfolding IsBefore
before_one_way x y a b = less_greater (sym a ∙ (lists_total nat_cmp_total).antisymm (encode_utf8_all x) (encode_utf8_all y) ∙ ap ordering_reverse b)

no_own : (P : List Name → Type 0) (table : ShapeTable) → AnyOwnList P (plain_draft table) → ⊥
no_own P table (inl (inl h)) = Any-nil P h
no_own P table (inl (inr h)) = Any-nil P h
no_own P table (inr h) = Any-nil _ h

no_cause : (cause : SchemaCause) (drafts : List TableDraft) (place : ℕ) (table : ShapeTable) → IsShapeTable table → ¬ DeclaresTable (take place drafts) table.name → Holds cause drafts place (plain_draft table) → ⊥
no_cause NoTable drafts place table shape other h = h
no_cause TooManyTables drafts place table shape other h = h
no_cause BadName drafts place table shape other (inl h) = shape.name h
no_cause BadName drafts place table shape other (inr h) = let bad = item_from_any _ table.columns h in (shape.columns bad.0 bad.1).0 bad.2
no_cause NoColumn drafts place table shape other (inl h) = let some = shape.some in omega (arith, some, h)
no_cause NoColumn drafts place table shape other (inr h) = no_own (λ names. length names ≡ 0) table h
no_cause TooManyColumns drafts place table shape other h = let few = shape.few in omega (arith, few, h)
no_cause DuplicateTable drafts place table shape other h = other h
no_cause DuplicateColumn drafts place table shape other (inl h) = not-from_NoRepeats _ (rising-NoRepeats IsBefore before_one_way _ shape.rising) h
no_cause DuplicateColumn drafts place table shape other (inr h) = no_own _ table h
no_cause UnknownColumn drafts place table shape other h = no_own _ table h
no_cause UnknownTable drafts place table shape other h = Any-nil _ h
no_cause TwoPrimaryKeys drafts place table shape other h = omega (arith, h)
no_cause NotAKey drafts place table shape other h = Any-nil _ h
no_cause KindMismatch drafts place table shape other h = Any-nil _ h
no_cause SameColumnsTwice drafts place table shape other h = h
no_cause NameClash drafts place table shape other h = Any-nil _ h

abbrev name_of_table : ShapeTable → Name
name_of_table table = table.name

none_some : {W : Type 0} (d : TableDraft) → None ≡ Some d → W
none_some d e = absurd cc

none_before : (tables : List ShapeTable) (place : ℕ) (draft : TableDraft) → NoRepeats (map name_of_table tables) → slice_get (map plain_draft tables) place ≡ Some draft
    → HasSome (λ other. other.name ≡ draft.name) (take place (map plain_draft tables)) → ⊥
none_before [] place draft once stands h = none_some draft stands
none_before (t ∷ ts) zero draft once stands h = h
none_before (t ∷ ts) (suc place) draft once stands (inl same) =
    let found = IsIn-map plain_draft draft ts (item_at_index draft (map plain_draft ts) place stands) in
    let names : name_of_table found.0 ≡ t.name = ap (λ (d : TableDraft). d.name) found.2 ∙ sym same in
    once.0 (subst (λ name. IsIn name (map name_of_table ts)) names (map-IsIn name_of_table found.0 ts found.1))
none_before (t ∷ ts) (suc place) draft once stands (inr h) = none_before ts place draft once.1 stands h

lawful : (tables : List ShapeTable) → IsShape tables → AreLawful (map plain_draft tables)
lawful tables shape = record {
  some = subst (λ n. 0 < n) (sym (length-map tables plain_draft)) shape.some;
  few = subst (λ n. n ≤ 4096) (sym (length-map tables plain_draft)) shape.few;
  sound = λ place draft stands cause holds.
      let drafts = map plain_draft tables in
      let found = IsIn-map plain_draft draft tables (item_at_index draft drafts place stands) in
      let P : TableDraft → Type 0 = λ d. Holds cause drafts place d in
      let once = rising-NoRepeats IsBefore before_one_way _ shape.rising in
      let other : ¬ DeclaresTable (take place drafts) draft.name = λ h. none_before tables place draft once stands (some_from_any _ _ h) in
      let Q : Name → Type 0 = λ name. ¬ DeclaresTable (take place drafts) name in
      no_cause cause drafts place found.0 (shape.each found.0 found.1) (subst Q (sym (ap (λ (d : TableDraft). d.name) found.2)) other) (subst P (sym found.2) holds);
}

-- ---- the tables

tables_back : (drafts : List TableDraft) (tables : List ShapeTable) → map (table_of drafts) (map plain_draft tables) ≡ map plain_table tables
tables_back drafts [] = refl
tables_back drafts (t ∷ ts) = ap (λ xs. plain_table t ∷ xs) (tables_back drafts ts)

pub declares_back : (tables : List ShapeTable) → IsShape tables → Declare (map statement_of tables) (map plain_table tables)
declares_back tables shape =
    let drafts : drafts_of (map statement_of tables) ≡ map plain_draft tables = drafts_back tables shape in
    (known tables, subst AreLawful (sym drafts) (lawful tables shape), sym (ap schema_of drafts ∙ tables_back (map plain_draft tables) tables))
