-- Items that were read from lists.
use Rattle.std.proofs.Common.{◌≡◌, ◌∙◌, ◌<◌, ◌+◌, ◌++◌, ℕ, List, [], ◌∷◌, Some, refl, sym, ap, subst, get_or, length, take}
use Rattle.std.specs.Prelude.{slice_get}
use Rattle.std.specs.List.{AllZip}
use Rattle.std.proofs.lemmas.List.{get_or_default, take_more}
use Rattle.std.proofs.lemmas.Option.{slice_get_read}
use Rattle.members_dm.specs.Membership.{IsIn}
use Rattle.members_dm.proofs.ElementsLemmas.{item_at_index}
use Rattle.schema_dm.specs.Schemas.{no_table, table_at}
use Rattle.schema_dm.specs.declared.table.Table.{Table}
use Rattle.table_csv.proofs.Zips.{zipped_at}
use Rattle.graphs_dm.specs.Heads.{AreAllHeads, AreHeads}
use Rattle.graphs_dm.specs.declared.heads.TableHeads.{TableHeads}

-- the item that a loop has read from a list
pub item_in : {X : Type 0} (read items : List X) (i : ℕ) (item : X) → read ≡ items → i < length read → item ≡ get_or read i item → IsIn item items
item_in read items i item same below is = subst (λ xs. IsIn item xs) same (item_at_index item read i (slice_get_read read (length read) i item refl below is))

pub item_read : {X : Type 0} (read items : List X) (i : ℕ) (item : X) → read ≡ items → i < length read → item ≡ get_or read i item → slice_get items i ≡ Some item
item_read read items i item same below is = ap (λ xs. slice_get xs i) (sym same) ∙ slice_get_read read (length read) i item refl below is

zip_push : {A B : Type 0} (R : A → B → Type 0) (xs : List A) (ys : List B) (x : A) (y : B) → AllZip R xs ys → R x y → AllZip R (xs ++ x ∷ []) (ys ++ y ∷ [])
zip_push R [] [] x y h r = (r, tt)
zip_push R [] (b ∷ ys) x y h r = absurd h
zip_push R (a ∷ xs) [] x y h r = absurd h
zip_push R (a ∷ xs) (b ∷ ys) x y h r = (h.0, zip_push R xs ys x y h.1 r)

-- both items at a place
pub zip_at : {A B : Type 0} (R : A → B → Type 0) (xs read : List A) (ys also_read : List B) (i : ℕ) (x : A) (y : B) → read ≡ xs → i < length xs → x ≡ get_or read i x
    → AllZip R xs ys → also_read ≡ ys → y ≡ get_or also_read i y → R x y
zip_at {A = A} {B = B} R xs read ys also_read i x y same within here all also_same there =
    let P : A → Type 0 = λ a. R a y in
    let Q : B → Type 0 = λ b. R (get_or xs i x) b in
    let at_x : x ≡ get_or xs i x = here ∙ ap (λ (l : List A). get_or l i x) same in
    let at_y : y ≡ get_or ys i y = there ∙ ap (λ (l : List B). get_or l i y) also_same in
    subst P (sym at_x) (subst Q (sym at_y) (zipped_at R xs ys i x y all within))

-- one more of both
pub zip_more : {A B : Type 0} (R : A → B → Type 0) (items : List A) (i : ℕ) (x : A) (old new : List B) (y : B) → i < length items → x ≡ get_or items i x
    → AllZip R (take i items) old → R x y → new ≡ old ++ y ∷ [] → AllZip R (take (i + 1) items) new
zip_more R items i x old new y within here before one pushed = rw (take_more items i x within, ← here, pushed) (zip_push R (take i items) old x y before one)

-- the table that was read from the schema
pub table_is : (read tables : List Table) (t : ℕ) (table : Table) → read ≡ tables → t < length tables → table ≡ get_or read t table → table ≡ table_at tables t
table_is read tables t table same below is = is ∙ ap (λ xs. get_or xs t table) same ∙ get_or_default tables t table no_table below

-- the prepared texts that were read for a table
pub heads_at : (base : List ℕ) (tables : List Table) (heads read : List TableHeads) (t : ℕ) (own : TableHeads) → t < length tables → AreAllHeads base tables heads → read ≡ heads → own ≡ get_or read t own → AreHeads base (table_at tables t) own
heads_at base tables heads read t own within all same there =
    let at : own ≡ get_or heads t own = there ∙ ap (λ (l : List TableHeads). get_or l t own) same in
    subst (AreHeads base (table_at tables t)) (sym at) (subst (λ (table : Table). AreHeads base table (get_or heads t own)) (get_or_default tables t no_table no_table within) (zipped_at (AreHeads base) tables heads t no_table own all within))
