-- Lists of names in the order of the names, by which lists of the same names are found.
use Rattle.std.specs.Prelude.{List, IsPermutation, IsSorted}
use Rattle.std.specs.List.{AllZip}
use Rattle.value_dm.specs.Order.{byte_cmp}
use Rattle.schema_dm.specs.Naming.{Name}

-- the same names, each as often, in the order of their bytes
pub record IsSortedForm (names sorted : List Name) : Type 0 where
  pub moved : IsPermutation names sorted
  pub rising : IsSorted byte_cmp sorted

-- one for each of the lists
abbrev pub AreSortedForms : List (List Name) → List (List Name) → Type 0
AreSortedForms lists forms = AllZip IsSortedForm lists forms
