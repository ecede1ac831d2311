-- The tuples of a query have values in its attributes alone, and over a database these obey the rules of their types.
use Rattle.std.proofs.Common.{◌≡◌, ◌∙◌, ◌++◌, ℕ, zero, suc, List, [], ◌∷◌, Some, None, sym, subst, inl, inr, ⊎_elim}
use Rattle.std.specs.Prelude.{slice_get, slice_index_or}
use Rattle.std.specs.List.{AllZip}
use Rattle.std.proofs.lemmas.Option.{none-some, same_Some}
use Rattle.members_dm.specs.Elements.{Each}
use Rattle.members_dm.proofs.AnyLemmas.{item_from_all}
use Rattle.members_dm.proofs.ElementsLemmas.{index_of_item, item_at_index}
use Rattle.value_dm.specs.Lawful.{IsLawful}
use Rattle.schema_dm.specs.Naming.{Name, column_names}
use Rattle.schema_dm.specs.declared.draft.Column.{Column}
use Rattle.schema_dm.specs.declared.table.Table.{Table as SchemaTable}
use Rattle.table_csv.specs.Cells.{Cell, Row, AreRowsOf, IsCellOf, IsRowOf}
use Rattle.table_csv.specs.Databases.{Data, IsDatabase, rows_at}
use Rattle.algebra_dm.specs.Attributes.{HasAttribute}
use Rattle.algebra_dm.specs.Causes.{HasNoCause}
use Rattle.algebra_dm.specs.Nodes.{IsFaultless, nodes}
use Rattle.algebra_dm.specs.Tuples.{Tuple, IsTuple, IsRowOfTable, first_of}
use Rattle.algebra_dm.specs.declared.query.Query.{Query, end_of-Query, more_of-Query}
use Rattle.algebra_dm.specs.declared.query.Query.TheVariants.{Table, Null, Eq', Ne', IsNull', NotNull', Project', Rename', Join', Union', Diff'}
use Rattle.algebra_dm.proofs.FirstLemmas.{Each-front}
use Rattle.query_rows_dm.proofs.EvaluationLemmas.{Each-back}
use Rattle.query_rows_dm.proofs.RowLemmas.{in_or_not, same_or_not}
use Rattle.keeping_dm.specs.Keeping.{IsLawfulTuple}
use Rattle.keeping_dm.proofs.TermLemmas.{IsLawfulCell}

-- ---- nothing but in the attributes

module _ (tables : List SchemaTable) where
  pub part : (p q : Query) → Each (HasNoCause tables) (nodes p ++ q ∷ []) → IsFaultless tables p
  part p q h = Each-front (HasNoCause tables) (nodes p) (q ∷ []) h

  pub node : (p q : Query) → Each (HasNoCause tables) (nodes p ++ q ∷ []) → HasNoCause tables q
  node p q h = (Each-back (HasNoCause tables) (nodes p) (q ∷ []) h).0

  pub left_part : (p r q : Query) → Each (HasNoCause tables) (nodes p ++ nodes r ++ q ∷ []) → IsFaultless tables p
  left_part p r q h = Each-front (HasNoCause tables) (nodes p) (nodes r) (Each-front (HasNoCause tables) (nodes p ++ nodes r) (q ∷ []) h)

  pub right_part : (p r q : Query) → Each (HasNoCause tables) (nodes p ++ nodes r ++ q ∷ []) → IsFaultless tables r
  right_part p r q h = Each-back (HasNoCause tables) (nodes p) (nodes r) (Each-front (HasNoCause tables) (nodes p ++ nodes r) (q ∷ []) h)

  pub whole : (p r q : Query) → Each (HasNoCause tables) (nodes p ++ nodes r ++ q ∷ []) → HasNoCause tables q
  whole p r q h = (Each-back (HasNoCause tables) (nodes p ++ nodes r) (q ∷ []) h).0

module _ (D : Data) where
  pub within : (q : Query) → IsFaultless D.tables q → (w : Tuple) → IsTuple D q w → (a : Name) → ¬ HasAttribute D.tables q a → w a ≡ None
  within (Table t) f w h a n = h.6.others a (λ i. n (h.1, (item_at_index h.1 D.tables h.0 h.3, h.4), i))
  within (Null m) f w h a n = h a
  within (Eq' s (more_of-Query p end_of-Query) m v) f w h a n = within p (part D.tables p _ f) w h.0 a n
  within (Ne' s (more_of-Query p end_of-Query) m v) f w h a n = within p (part D.tables p _ f) w h.0 a n
  within (IsNull' s (more_of-Query p end_of-Query) m) f w h a n = within p (part D.tables p _ f) w h.0 a n
  within (NotNull' s (more_of-Query p end_of-Query) m) f w h a n = within p (part D.tables p _ f) w h.0 a n
  within (Project' s (more_of-Query p end_of-Query) names) f w h a n = h.2.others a n
  within (Rename' s (more_of-Query p end_of-Query) from to) f w h a n = ⊎_elim
      (λ is. subst (λ b. w b ≡ None) is (h.2.old (λ e. n (inl (sym e ∙ is)))))
      (λ other. h.2.others a other (λ e. n (inl e)) ∙ within p (part D.tables p _ f) h.0 h.1 a (λ k. n (inr (k, other))))
      (same_or_not from a)
  within (Join' s (more_of-Query p end_of-Query) s' (more_of-Query q end_of-Query)) f w h a n =
      h.5 a ∙ (λ i. first_of (within p (left_part D.tables p q _ f) h.0 h.2 a (λ k. n (inl k)) i) (within q (right_part D.tables p q _ f) h.1 h.3 a (λ k. n (inr k)) i))
  within (Union' s (more_of-Query p end_of-Query) s' (more_of-Query q end_of-Query)) f w (inl h) a n = within p (left_part D.tables p q _ f) w h a n
  within (Union' s (more_of-Query p end_of-Query) s' (more_of-Query q end_of-Query)) f w (inr h) a n =
      within q (right_part D.tables p q _ f) w h a (λ k. (whole D.tables p q _ f).1.1.1.1.0 (λ same. n ((same a).1 k)))
  within (Diff' s (more_of-Query p end_of-Query) s' (more_of-Query q end_of-Query)) f w h a n = within p (left_part D.tables p q _ f) w h.0 a n

-- ---- lawful values

zipped : {A B : Type 0} (R : A → B → Type 0) (xs : List A) (ys : List B) (k : ℕ) (x : A) (d : B) → AllZip R xs ys → slice_get xs k ≡ Some x → R x (slice_index_or ys k d)
zipped R [] ys k x d h e = absurd (cc)
zipped R (z ∷ xs) [] k x d h e = absurd h
zipped R (z ∷ xs) (y ∷ ys) zero x d h e = subst (λ w. R w y) (same_Some z x e) h.0
zipped R (z ∷ xs) (y ∷ ys) (suc k) x d h e = zipped R xs ys k x d h.1 e

lawful_cell : (column : Column) (c : Cell) → IsCellOf column c → IsLawfulCell c
lawful_cell column None h v e = absurd (none-some v e)
lawful_cell column (Some x) h v e = subst IsLawful (same_Some x v e) h.1

row_lawful : (columns : List Column) (row : Row) → IsRowOf columns row → (k : ℕ) → IsLawfulCell (slice_index_or row k None)
row_lawful [] [] h k = λ v e. absurd (none-some v e)
row_lawful [] (c ∷ row) h k = absurd h
row_lawful (column ∷ columns) [] h k = absurd h
row_lawful (column ∷ columns) (c ∷ row) h zero = lawful_cell column c h.0
row_lawful (column ∷ columns) (c ∷ row) h (suc k) = row_lawful columns row h.1 k

first_lawful : (c d : Cell) → IsLawfulCell c → IsLawfulCell d → IsLawfulCell (first_of c d)
first_lawful None d h k = k
first_lawful (Some v) d h k = h

cell_along : (c d : Cell) → c ≡ d → IsLawfulCell d → IsLawfulCell c
cell_along c d e h = subst IsLawfulCell (sym e) h

none_lawful : (c : Cell) → c ≡ None → IsLawfulCell c
none_lawful c e v i = absurd (none-some v (sym e ∙ i))

module _ (D : Data) (db : IsDatabase D) where
  table_lawful : (name : Name) (w : Tuple) → IsRowOfTable D name w → IsLawfulTuple w
  table_lawful name w h a = ⊎_elim
      (λ i. let k = index_of_item a (column_names h.1.columns) i in
      cell_along (w a) (slice_index_or h.2 k.0 None) (h.6.named k.0 a k.2) (row_lawful h.1.columns h.2 fits k.0))
      (λ n. none_lawful (w a) (h.6.others a n))
      (in_or_not a (column_names h.1.columns))
    where
      fits : IsRowOf h.1.columns h.2
      fits =
          let rows : AreRowsOf h.1.columns (rows_at D.rows h.0) = zipped (λ table rows. AreRowsOf table.columns rows) D.tables D.rows h.0 h.1 [] db.rows h.3 in
          item_from_all (IsRowOf h.1.columns) (rows_at D.rows h.0) rows.each h.2 h.5

  pub lawful : (q : Query) (w : Tuple) → IsTuple D q w → IsLawfulTuple w
  lawful (Table t) w h a = table_lawful t w h a
  lawful (Null m) w h a = none_lawful (w a) (h a)
  lawful (Eq' s (more_of-Query p end_of-Query) m v) w h a = lawful p w h.0 a
  lawful (Ne' s (more_of-Query p end_of-Query) m v) w h a = lawful p w h.0 a
  lawful (IsNull' s (more_of-Query p end_of-Query) m) w h a = lawful p w h.0 a
  lawful (NotNull' s (more_of-Query p end_of-Query) m) w h a = lawful p w h.0 a
  lawful (Project' s (more_of-Query p end_of-Query) names) w h a = ⊎_elim
      (λ i. cell_along (w a) (h.0 a) (h.2.kept a i) (lawful p h.0 h.1 a))
      (λ n. none_lawful (w a) (h.2.others a n))
      (in_or_not a names)
  lawful (Rename' s (more_of-Query p end_of-Query) from to) w h a = ⊎_elim
      (λ is. subst (λ b. IsLawfulCell (w b)) is (cell_along (w to) (h.0 from) h.2.new (lawful p h.0 h.1 from)))
      (λ not_to. ⊎_elim
      (λ is. subst (λ b. IsLawfulCell (w b)) is (none_lawful (w from) (h.2.old (λ e. not_to (sym e ∙ is)))))
      (λ not_from. cell_along (w a) (h.0 a) (h.2.others a not_from not_to) (lawful p h.0 h.1 a))
      (same_or_not from a))
      (same_or_not to a)
  lawful (Join' s (more_of-Query p end_of-Query) s' (more_of-Query q end_of-Query)) w h a =
      cell_along (w a) (first_of (h.0 a) (h.1 a)) (h.5 a) (first_lawful (h.0 a) (h.1 a) (lawful p h.0 h.2 a) (lawful q h.1 h.3 a))
  lawful (Union' s (more_of-Query p end_of-Query) s' (more_of-Query q end_of-Query)) w (inl h) a = lawful p w h a
  lawful (Union' s (more_of-Query p end_of-Query) s' (more_of-Query q end_of-Query)) w (inr h) a = lawful q w h a
  lawful (Diff' s (more_of-Query p end_of-Query) s' (more_of-Query q end_of-Query)) w h a = lawful p w h.0 a
