-- A certain attribute is NULL in no tuple.
use Rattle.std.proofs.Common.{◌≡◌, ◌≢◌, ◌∙◌, ◌⊎◌, ℕ, zero, suc, ◌<◌, List, [], ◌∷◌, Option, Some, None, Bool, true, false, refl, sym, ap, subst, inl, inr, get_or, length, map}
use Rattle.std.specs.Prelude.{slice_get, slice_index_or}
use Rattle.std.specs.List.{AllZip}
use Rattle.std.specs.Option.{option_map}
use Rattle.std.proofs.lemmas.Option.{none-some, same_Some, get_or_from_slice_get, slice_get_within, slice_get-map}
use Rattle.members_dm.specs.Membership.{IsIn}
use Rattle.members_dm.proofs.AnyLemmas.{item_from_all}
use Rattle.members_dm.proofs.ElementsLemmas.{index_of_item, item_at_index, one_by_key}
use Rattle.members_dm.proofs.MembershipLemmas.{map-IsIn}
use Rattle.value_dm.specs.declared.value.Value.{Value}
use Rattle.schema_dm.specs.Naming.{Name, column_names}
use Rattle.schema_dm.specs.Schemas.{no_table}
use Rattle.schema_dm.specs.declared.draft.Column.{Column}
use Rattle.schema_dm.specs.declared.table.Table.{Table as SchemaTable}
use Rattle.table_csv.specs.Cells.{Cell, Row, AreRowsOf, IsCellOf, IsRowOf, cells_at}
use Rattle.table_csv.specs.Databases.{Data, IsDatabase, rows_at}
use Rattle.keys_dm.specs.Violations.{KeepsKeys, Violates}
use Rattle.keys_dm.specs.KeyCells.{row_at}
use Rattle.keys_dm.specs.declared.violation.ViolationKind.TheVariants.{NullKey}
use Rattle.algebra_dm.specs.Attributes.{Lists}
use Rattle.algebra_dm.specs.Certain.{IsCertain, IsCertainColumn, IsNeverNull, IsNotNull, IsOfPrimaryKey, KeepsKeysOf}
use Rattle.algebra_dm.specs.Tuples.{Tuple, IsTuple, IsRowOfTable, IsUnder, first_of}
use Rattle.algebra_dm.specs.declared.query.Mode.{Mode}
use Rattle.algebra_dm.specs.declared.query.Mode.TheVariants.{Map, MapKeys}
use Rattle.algebra_dm.specs.declared.query.Query.{Query, end_of-Query, more_of-Query}
use Rattle.algebra_dm.specs.declared.query.Query.TheVariants.{Table, Null, Eq', Ne', IsNull', NotNull', Project', Rename', Join', Union', Diff'}

some_is : (c : Cell) (x : Value) → c ≡ Some x → c ≢ None
some_is c x e n = none-some x (sym n ∙ e)

along : (c d : Cell) → c ≡ d → d ≢ None → c ≢ None
along c d e h n = h (sym e ∙ n)

first_there : (c d : Cell) → c ≢ None → first_of c d ≢ None
first_there None d h n = h refl
first_there (Some x) d h n = h n

second_there : (c d : Cell) → d ≢ None → first_of c d ≢ None
second_there None d h n = h n
second_there (Some x) d h n = none-some x (sym n)

zipped : {A B : Type 0} (R : A → B → Type 0) (xs : List A) (ys : List B) (k : ℕ) (x : A) (d : B) → AllZip R xs ys → slice_get xs k ≡ Some x → R x (slice_index_or ys k d)
zipped R [] ys k x d h e = absurd (cc)
zipped R (z ∷ xs) [] k x d h e = absurd h
zipped R (z ∷ xs) (y ∷ ys) zero x d h e = subst (λ w. R w y) (same_Some z x e) h.0
zipped R (z ∷ xs) (y ∷ ys) (suc k) x d h e = zipped R xs ys k x d h.1 e

-- a cell that a column with NOT NULL allows
not_null_cell : (column : Column) (c : Cell) → column.not_null ≡ true → IsCellOf column c → c ≢ None
not_null_cell column None e fits n = (let both : false ≡ true = sym fits ∙ e in absurd (cc))
not_null_cell column (Some x) e fits n = none-some x (sym n)

module _ (D : Data) (t : ℕ) (table : SchemaTable) (row : Row) (db : IsDatabase D) (here : slice_get D.tables t ≡ Some table) (is_row : IsIn row (rows_at D.rows t)) where
  row_fits : IsRowOf table.columns row
  row_fits =
      let rows : AreRowsOf table.columns (rows_at D.rows t) = zipped (λ table rows. AreRowsOf table.columns rows) D.tables D.rows t table [] db.rows here in
      item_from_all (IsRowOf table.columns) (rows_at D.rows t) rows.each row is_row

  module _ (w : Tuple) (under : IsUnder (column_names table.columns) row w) (a : Name) where
    not_null_there : IsNotNull table a → w a ≢ None
    not_null_there n =
        let k = index_of_item n.0 table.columns n.1 in
        let at : slice_get (column_names table.columns) k.0 ≡ Some a =
        slice_get-map (λ (c : Column). c.name) table.columns k.0 ∙ ap (option_map (λ (c : Column). c.name)) k.2 ∙ ap (λ (x : Name). Some x) n.2 in
        along (w a) (slice_index_or row k.0 None) (under.named k.0 a at)
        (not_null_cell n.0 (slice_index_or row k.0 None) n.3 (zipped IsCellOf table.columns row k.0 n.0 None row_fits k.2))

    key_there : KeepsKeys D → IsOfPrimaryKey table a → w a ≢ None
    key_there keeps n = λ none.
        let cell : slice_index_or row n.1 None ≡ None = sym (under.named n.1 a n.4) ∙ none in
        let i = index_of_item row (rows_at D.rows t) is_row in
        let is_table : get_or D.tables t no_table ≡ table = get_or_from_slice_get D.tables t table no_table here in
        let is_this : get_or (rows_at D.rows t) i.0 [] ≡ row = get_or_from_slice_get (rows_at D.rows t) i.0 row [] i.2 in
        let found : IsIn None (cells_at n.0 row) = subst (λ (c : Cell). IsIn c (cells_at n.0 row)) cell (map-IsIn (λ p. slice_index_or row p None) n.1 n.0 n.3) in
        keeps t i.0 NullKey (slice_get_within D.tables t table here) i.1
        (n.0, ap (λ (z : SchemaTable). z.primary) is_table ∙ n.2, subst (λ (r : Row). IsIn None (cells_at n.0 r)) (sym is_this) found)

    column_there : (mode : Mode) → KeepsKeysOf mode D → IsCertainColumn mode table a → w a ≢ None
    column_there Map keeps (inl h) = not_null_there h
    column_there Map keeps (inr h) = key_there keeps h
    column_there MapKeys keeps h = not_null_there h

table_there : (mode : Mode) (D : Data) (name : Name) (w : Tuple) (a : Name) → IsDatabase D → KeepsKeysOf mode D → IsCertain mode D.tables (Table name) a → IsRowOfTable D name w → w a ≢ None
table_there mode D name w a db keeps c h =
    let one : c.0 ≡ h.1 = one_by_key (λ (t : SchemaTable). t.name) D.tables db.schema.names c.0 h.1 c.1.0 (item_at_index h.1 D.tables h.0 h.3) (c.1.1 ∙ sym h.4) in
    column_there D h.0 h.1 h.2 db h.3 h.5 w h.6 a mode keeps (subst (λ t. IsCertainColumn mode t a) one c.2)

pub never_null : (mode : Mode) (D : Data) (q : Query) (w : Tuple) (a : Name) → IsDatabase D → KeepsKeysOf mode D → IsCertain mode D.tables q a → IsTuple D q w → w a ≢ None
never_null mode D (Table t) w a db keeps c h = table_there mode D t w a db keeps c h
never_null mode D (Null n) w a db keeps c h = absurd c
never_null mode D (Eq' s (more_of-Query p end_of-Query) n v) w a db keeps (inl is) h = subst (λ b. w b ≢ None) is (some_is (w n) v h.1)
never_null mode D (Eq' s (more_of-Query p end_of-Query) n v) w a db keeps (inr c) h = never_null mode D p w a db keeps c h.0
never_null mode D (Ne' s (more_of-Query p end_of-Query) n v) w a db keeps (inl is) h = subst (λ b. w b ≢ None) is (some_is (w n) h.1.0 h.1.1)
never_null mode D (Ne' s (more_of-Query p end_of-Query) n v) w a db keeps (inr c) h = never_null mode D p w a db keeps c h.0
never_null mode D (IsNull' s (more_of-Query p end_of-Query) n) w a db keeps c h = never_null mode D p w a db keeps c h.0
never_null mode D (NotNull' s (more_of-Query p end_of-Query) n) w a db keeps (inl is) h = subst (λ b. w b ≢ None) is h.1
never_null mode D (NotNull' s (more_of-Query p end_of-Query) n) w a db keeps (inr c) h = never_null mode D p w a db keeps c h.0
never_null mode D (Project' s (more_of-Query p end_of-Query) names) w a db keeps c h = along (w a) (h.0 a) (h.2.kept a c.1) (never_null mode D p h.0 a db keeps c.0 h.1)
never_null mode D (Rename' s (more_of-Query p end_of-Query) from to) w a db keeps (inl c) h = subst (λ b. w b ≢ None) c.0 (along (w to) (h.0 from) h.2.new (never_null mode D p h.0 from db keeps c.1 h.1))
never_null mode D (Rename' s (more_of-Query p end_of-Query) from to) w a db keeps (inr c) h = along (w a) (h.0 a) (h.2.others a c.1 c.2) (never_null mode D p h.0 a db keeps c.0 h.1)
never_null mode D (Join' s (more_of-Query p end_of-Query) s' (more_of-Query q end_of-Query)) w a db keeps (inl c) h =
    along (w a) (first_of (h.0 a) (h.1 a)) (h.5 a) (first_there (h.0 a) (h.1 a) (never_null mode D p h.0 a db keeps c h.2))
never_null mode D (Join' s (more_of-Query p end_of-Query) s' (more_of-Query q end_of-Query)) w a db keeps (inr (inl c)) h =
    along (w a) (first_of (h.0 a) (h.1 a)) (h.5 a) (second_there (h.0 a) (h.1 a) (never_null mode D q h.1 a db keeps c h.3))
never_null mode D (Join' s (more_of-Query p end_of-Query) s' (more_of-Query q end_of-Query)) w a db keeps (inr (inr c)) h =
    along (w a) (first_of (h.0 a) (h.1 a)) (h.5 a) (first_there (h.0 a) (h.1 a) (let m = h.4 a c.0 c.1 in some_is (h.0 a) m.0 m.1))
never_null mode D (Union' s (more_of-Query p end_of-Query) s' (more_of-Query q end_of-Query)) w a db keeps c (inl h) = never_null mode D p w a db keeps c.0 h
never_null mode D (Union' s (more_of-Query p end_of-Query) s' (more_of-Query q end_of-Query)) w a db keeps c (inr h) = never_null mode D q w a db keeps c.1 h
never_null mode D (Diff' s (more_of-Query p end_of-Query) s' (more_of-Query q end_of-Query)) w a db keeps c h = never_null mode D p w a db keeps c h.0

pub certain_never_null : (mode : Mode) (tables : List SchemaTable) (q : Query) (names : List Name) → Lists (IsCertain mode tables q) names → (a : Name) → IsIn a names → IsNeverNull mode tables q a
certain_never_null mode tables q names are a is_in = λ D w same db keeps tuple.
    never_null mode D q w a db keeps (subst (λ (ts : List SchemaTable). IsCertain mode ts q a) (sym same) ((are.exact a).0 is_in)) tuple
