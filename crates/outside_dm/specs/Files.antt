-- Files in a list, as a finite map.
use Rattle.std.specs.Prelude.{◌≡◌, ◌≢◌, ℕ, List, [], ◌∷◌, take, slice_get, Some, encode_utf8_all, ⊤}
use Rattle.std.specs.FinMap.{empty, insert}
use Rattle.outside_dm.specs.Shelves.{Files}
use Rattle.outside_dm.specs.declared.files.NamedFile.{NamedFile}

-- the name of a file as the bytes of its text
abbrev pub name_of : NamedFile → List ℕ
name_of file = encode_utf8_all file.name

-- the map of a list of files; of two with one name the first counts
abbrev pub files_of : List NamedFile → Files
files_of [] = empty
files_of (file ∷ files) = insert (files_of files) (name_of file) file.bytes

-- no file of the list has this name
abbrev pub NoneNamed : List ℕ → List NamedFile → Type 0
NoneNamed name [] = ⊤
NoneNamed name (file ∷ files) = (name_of file ≢ name) × NoneNamed name files

-- no two files of the list have one name
abbrev pub HasDistinctNames : List NamedFile → Type 0
HasDistinctNames [] = ⊤
HasDistinctNames (file ∷ files) = NoneNamed (name_of file) files × HasDistinctNames files

-- the first file with this name stands at this place
pub record IsFirstNamed (files : List NamedFile) (name : List ℕ) (place : ℕ) : Type 0 where
  pub file : NamedFile
  pub at : slice_get files place ≡ Some file
  pub named : name_of file ≡ name
  pub first : NoneNamed name (take place files)
