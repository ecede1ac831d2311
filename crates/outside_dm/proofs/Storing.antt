-- How files that are stored one after another join.
use Rattle.std.specs.Prelude.{◌≡◌, ◌≢◌, ℕ, ◌+◌, ◌<◌, List, [], ◌∷◌, ◌++◌, length, take, drop, map, slice_get, Option, Some, None, Result, Ok, Err, MatchOption, ⊤}
use Rattle.std.proofs.Common.{refl, sym, ap, subst, ◌∙◌, arith, get_or, drop-cons, add-one}
use Rattle.std.proofs.lemmas.List.{take-append-drop, map-append}
use Rattle.std.proofs.Math.Seq.{take-append_seam, take-suc}
use Rattle.std.specs.FinMap.{get, insert}
use Rattle.outside_dm.specs.Shelves.{Files, ShelfState, StoreEnds, StoreKeeps, Replaces, KeepsOthers}
use Rattle.outside_dm.specs.Storing.{Batch, insert_all, StoresAll, StoresFirst, IsOther, Stores, Stored}
use Rattle.outside_dm.specs.declared.shelf.StoreError.{StoreError}
use Rattle.outside_dm.specs.declared.shelf.StoreError.TheVariants.{Failed, Memory}
use Rattle.outside_dm.proofs.Named.{get-insert_same, get-insert_other}
use Rattle.outside_dm.proofs.Putting.{Rose-earlier}

-- ---- the counts of a shelf

pub StoreKeeps-refl : (a : ShelfState) → StoreKeeps a a
StoreKeeps-refl a = record { failed = refl; store_faults = omega arith; load_faults = refl; absences = refl; overlongs = refl }

pub StoreKeeps-trans : {a b c : ShelfState} → StoreKeeps a b → StoreKeeps b c → StoreKeeps a c
StoreKeeps-trans first second = record {
  failed = second.failed ∙ first.failed;
  store_faults = omega (arith, first.store_faults, second.store_faults);
  load_faults = second.load_faults ∙ first.load_faults;
  absences = second.absences ∙ first.absences;
  overlongs = second.overlongs ∙ first.overlongs;
}

-- ---- all of a batch

pub insert_all-append : (front back : Batch) (files : Files) → insert_all (front ++ back) files ≡ insert_all back (insert_all front files)
insert_all-append [] back files = refl
insert_all-append (entry ∷ front) back files = insert_all-append front back (insert files entry.0 entry.1)

-- no entry of the batch has this name
abbrev pub NotNamed : List ℕ → Batch → Type 0
NotNamed name [] = ⊤
NotNamed name (entry ∷ batch) = (name ≢ entry.0) × NotNamed name batch

-- a name that no entry has keeps what it held
pub get-insert_all_other : (batch : Batch) (files : Files) (name : List ℕ) → NotNamed name batch → get (insert_all batch files) name ≡ get files name
get-insert_all_other [] files name absent = refl
get-insert_all_other (entry ∷ batch) files name absent =
    get-insert_all_other batch (insert files entry.0 entry.1) name absent.1 ∙ get-insert_other files entry.0 entry.1 name absent.0

-- an entry whose name no later one has is found
pub get-insert_all_found : (front back : Batch) (files : Files) (name bytes : List ℕ) → NotNamed name back → get (insert_all (front ++ (name, bytes) ∷ back) files) name ≡ Some bytes
get-insert_all_found front back files name bytes last =
    ap (λ m. get m name) (insert_all-append front ((name, bytes) ∷ back) files)
    ∙ get-insert_all_other back _ name last
    ∙ get-insert_same _ name bytes name refl

StoresAll-nil : (a : Option Files) → StoresAll [] a a
StoresAll-nil None = tt
StoresAll-nil (Some files) = refl

StoresAll-then : (a b c : Option Files) (batch : Batch) (name bytes : List ℕ) → StoresAll batch a b → Replaces b c name bytes → StoresAll (batch ++ (name, bytes) ∷ []) a c
StoresAll-then None b c batch name bytes before next = tt
StoresAll-then (Some files) None c batch name bytes before next = absurd before
StoresAll-then (Some files) (Some now) None batch name bytes before next = absurd next
StoresAll-then (Some files) (Some now) (Some after) batch name bytes before next =
    next ∙ ap (λ (m : Files). insert m name bytes) before ∙ sym (insert_all-append batch ((name, bytes) ∷ []) files)

slice_get-seam : (front back : Batch) (entry : List ℕ × List ℕ) → slice_get (front ++ entry ∷ back) (length front) ≡ Some entry
slice_get-seam [] back entry = refl
slice_get-seam (first ∷ front) back entry = slice_get-seam front back entry

StoresFirst-then : (a b c : Option Files) (front back : Batch) (name bytes : List ℕ) → StoresAll front a b → KeepsOthers b c name → StoresFirst (front ++ (name, bytes) ∷ back) a c
StoresFirst-then None b c front back name bytes before next = tt
StoresFirst-then (Some files) None c front back name bytes before next = absurd before
StoresFirst-then (Some files) (Some now) None front back name bytes before next = absurd next
StoresFirst-then (Some files) (Some now) (Some after) front back name bytes before next =
    let differs : (other : List ℕ) → IsOther (front ++ (name, bytes) ∷ back) (length front) other → other ≢ name =
    λ other is. subst (λ (o : Option (List ℕ × List ℕ)). MatchOption o ⊤ (λ entry. other ≢ entry.0)) (slice_get-seam front back (name, bytes)) is in (
      length front,
      λ other is.
          next other (differs other is)
          ∙ ap (λ (m : Files). get m other) (before ∙ ap (λ (l : Batch). insert_all l files) (sym (take-append_seam front ((name, bytes) ∷ back)))),
    )

-- memory ran out before the next file: nothing is open
StoresFirst-front : (a b : Option Files) (front back : Batch) → StoresAll front a b → StoresFirst (front ++ back) a b
StoresFirst-front None b front back before = tt
StoresFirst-front (Some files) None front back before = absurd before
StoresFirst-front (Some files) (Some now) front back before =
    (length front, λ other is. ap (λ (m : Files). get m other) (before ∙ ap (λ (l : Batch). insert_all l files) (sym (take-append_seam front back))))

-- ---- what was stored so far

-- nothing yet
pub Stored-nothing : (a : ShelfState) → Stored [] a a
Stored-nothing a = record { all = StoresAll-nil a.files; kept = StoreKeeps-refl a }

module _ {front : Batch} {a b c : ShelfState} (name bytes : List ℕ) (before : Stored front a b) (kept : StoreKeeps b c) where
  -- one file more
  pub Stored-then : Replaces b.files c.files name bytes → Stored (front ++ (name, bytes) ∷ []) a c
  Stored-then next = record { all = StoresAll-then _ _ _ front name bytes before.all next; kept = StoreKeeps-trans before.kept kept }

  -- the next store is refused
  pub Stores-cut : (back : Batch) (error : StoreError) → StoreEnds {T = Unit {0}} b c name bytes (Err error) → Stores (front ++ (name, bytes) ∷ back) a c (Err error)
  Stores-cut back Failed ends = record {
    ends = (Rose-earlier _ _ _ before.kept.store_faults ends.0, StoresFirst-then _ _ _ front back name bytes before.all ends.1);
    kept = StoreKeeps-trans before.kept kept;
  }
  Stores-cut back Memory ends = record { ends = StoresFirst-then _ _ _ front back name bytes before.all ends; kept = StoreKeeps-trans before.kept kept }

-- all is stored
pub Stores-all : {batch : Batch} {a b : ShelfState} (done : Unit {0}) → Stored batch a b → Stores batch a b (Ok done)
Stores-all done before = record { ends = before.all; kept = before.kept }

-- memory ran out between two stores
pub Stores-short : {front : Batch} {a b : ShelfState} (back : Batch) → Stored front a b → Stores (front ++ back) a b (Err Memory)
Stores-short {front = front} back before = record { ends = StoresFirst-front _ _ front back before.all; kept = before.kept }

-- the same batch by another name
pub Stores-same : {xs ys : Batch} {a b : ShelfState} {result : Result (Unit {0}) StoreError} → xs ≡ ys → Stores xs a b result → Stores ys a b result
Stores-same {a = a} {b = b} {result = result} same stores = subst (λ (l : Batch). Stores l a b result) same stores

pub Stored-same : {xs ys : Batch} {a b : ShelfState} → xs ≡ ys → Stored xs a b → Stored ys a b
Stored-same {a = a} {b = b} same stored = subst (λ (l : Batch). Stored l a b) same stored

-- ---- over a loop

module _ {A : Type 0} (entry_of : A → List ℕ × List ℕ) (items : List A) (i : ℕ) (item : A) (below : i < length items) (is : item ≡ get_or items i item) where
  -- the entries before the place, the entry there and those behind it
  pub map_at : map entry_of items ≡ map entry_of (take i items) ++ entry_of item ∷ map entry_of (drop (i + 1) items)
  map_at =
      let at : drop i items ≡ item ∷ drop (i + 1) items = rw (drop-cons items i item below, ← is, add-one) refl in
      ap (map entry_of) (sym (take-append-drop i items)) ∙ map-append entry_of (take i items) (drop i items) ∙ ap (λ l. map entry_of (take i items) ++ map entry_of l) at

  -- the entries up to the place and the entry there
  pub map_to : map entry_of (take (i + 1) items) ≡ map entry_of (take i items) ++ entry_of item ∷ []
  map_to = rw (add-one, take-suc items i item below, ← is) (map-append entry_of (take i items) (item ∷ []))

  module _ {a b c : ShelfState} {name bytes : List ℕ} (named : name ≡ (entry_of item).0) (holds : bytes ≡ (entry_of item).1) (before : Stored (map entry_of (take i items)) a b) (kept : StoreKeeps b c) where
    entry_is : (name, bytes) ≡ entry_of item
    entry_is = λ j. (named j, holds j)

    -- the file at the place was stored
    pub Stored-turn : Replaces b.files c.files name bytes → Stored (map entry_of (take (i + 1) items)) a c
    Stored-turn next = Stored-same (ap (λ (e : List ℕ × List ℕ). map entry_of (take i items) ++ e ∷ []) entry_is ∙ sym map_to) (Stored-then name bytes before kept next)

    -- the store of the file at the place is refused
    pub Stores-cut_at : (error : StoreError) → StoreEnds {T = Unit {0}} b c name bytes (Err error) → Stores (map entry_of items) a c (Err error)
    Stores-cut_at error ends =
        Stores-same (ap (λ (e : List ℕ × List ℕ). map entry_of (take i items) ++ e ∷ map entry_of (drop (i + 1) items)) entry_is ∙ sym map_at)
        (Stores-cut name bytes before kept (map entry_of (drop (i + 1) items)) error ends)
