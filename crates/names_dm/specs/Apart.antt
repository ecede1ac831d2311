-- Different names have different IRIs.
use Rattle.std.specs.Prelude.{ℕ, ◌≡◌, ◌≢◌, ◌++◌, List, [], ◌∷◌, codes}
use Rattle.names_dm.specs.declared.names.ColumnName.{ColumnName}
use Rattle.names_dm.specs.declared.names.RefName.{RefName}
use Rattle.names_dm.specs.declared.names.RelName.{RelName}
use Rattle.names_dm.specs.Names.{column_iri, ref_iri, rel_iri, table_iri}

-- One maker gives different names different IRIs, and so do two makers, but that the column `ref-x` and the reference on
-- x alone have one.
pub record NamesApart (base : List ℕ) : Type 0 where
  pub tables : (a b : List ℕ) → table_iri base a ≡ table_iri base b → a ≡ b
  pub columns : (a b : ColumnName) → column_iri base a ≡ column_iri base b → a ≡ b
  pub refs : (a b : RefName) → a.columns ≢ [] → b.columns ≢ [] → ref_iri base a ≡ ref_iri base b → a ≡ b
  pub rels : (a b : RelName) → rel_iri base a ≡ rel_iri base b → a ≡ b
  pub table_column : (a : List ℕ) (b : ColumnName) → table_iri base a ≢ column_iri base b
  pub table_ref : (a : List ℕ) (b : RefName) → table_iri base a ≢ ref_iri base b
  pub table_rel : (a : List ℕ) (b : RelName) → table_iri base a ≢ rel_iri base b
  pub column_ref : (a : ColumnName) (b : RefName) → b.columns ≢ [] → column_iri base a ≡ ref_iri base b
      → (column : List ℕ) × (b.columns ≡ column ∷ []) × (a ≡ record { table = b.table; column = codes "ref-" ++ column })
  pub column_rel : (a : ColumnName) (b : RelName) → column_iri base a ≢ rel_iri base b
  pub ref_rel : (a : RefName) (b : RelName) → ref_iri base a ≢ rel_iri base b
