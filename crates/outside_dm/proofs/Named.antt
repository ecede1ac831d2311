-- What finite maps of files answer under a name.
use Rattle.std.specs.Prelude.{slice_get, slice_set, unwrap_or, is_some, IfSome, IfNone}
use Rattle.std.proofs.Common.{◌≡◌, ◌≢◌, ◌∙◌, refl, sym, ap, subst, ℕ, zero, suc, ◌+◌, ◌<◌, Bool, true, false, not, List, [], ◌∷◌, ◌++◌, take, length, get_or, Option, Some, None, cond, add-one, arith}
use Rattle.std.proofs.Math.Seq.{take-suc}
use Rattle.std.specs.Ordering.{nat_cmp, eq_by_cmp}
use Rattle.std.specs.FinMap.{get, insert, get-insert, get-empty, same_map, slice_cmp-IsAntisymmetric, nat_cmp-IsAntisymmetric}
use Rattle.std.specs.Cmp.Lexicographic.{slice_cmp, bytes_decides, texts_ties, nat_list_cmp_total}
use Rattle.outside_dm.specs.Shelves.{Files}
use Rattle.outside_dm.specs.Files.{files_of, name_of, NoneNamed, HasDistinctNames, IsFirstNamed}
use Rattle.outside_dm.specs.declared.files.NamedFile.{NamedFile}

none≢some : {A : Type 0} {x : A} → None ≡ Some x → ⊥
none≢some e = grind (arith, e)

some_same : {A : Type 0} {x y : A} → Some x ≡ Some y → x ≡ y
some_same {x = x} e = ap (λ o. unwrap_or o x) e

slice_get_at : {A : Type 0} (items : List A) (i : ℕ) (d : A) → i < length items → slice_get items i ≡ Some (get_or items i d)
slice_get_at [] i d below = absurd (omega (arith, below))
slice_get_at (item ∷ items) zero d below = refl
slice_get_at (item ∷ items) (suc i) d below = slice_get_at items i d (omega (arith, below))

-- ---- maps

is_false : (b : Bool) → (b ≡ true → ⊥) → b ≡ false
is_false true never = absurd (never refl)
is_false false never = refl

-- under the name that was inserted
pub get-insert_same : (files : Files) (name bytes other : List ℕ) → other ≡ name → get (insert files name bytes) other ≡ Some bytes
get-insert_same files name bytes other same =
    get-insert nat_list_cmp_total files name bytes other
    ∙ ap (λ b. cond b (Some bytes) (get files other)) (sym (texts_ties other name) ∙ (bytes_decides other name).1 same)

-- under any other name
pub get-insert_other : (files : Files) (name bytes other : List ℕ) → other ≢ name → get (insert files name bytes) other ≡ get files other
get-insert_other files name bytes other differs =
    get-insert nat_list_cmp_total files name bytes other
    ∙ ap (λ b. cond b (Some bytes) (get files other)) (is_false _ (λ ties. differs ((bytes_decides other name).0 (texts_ties other name ∙ ties))))

-- two maps that answer alike are one
pub same_files : (xs ys : Files) → ((name : List ℕ) → get xs name ≡ get ys name) → xs ≡ ys
same_files xs ys alike = same_map nat_list_cmp_total (slice_cmp-IsAntisymmetric nat_cmp-IsAntisymmetric) xs ys alike

shadowed : {A : Type 0} (b : Bool) (x y z : A) → cond b x (cond b y z) ≡ cond b x z
shadowed true x y z = refl
shadowed false x y z = refl

swapped : {A : Type 0} (b c : Bool) (x y z : A) → (b ≡ true → c ≡ true → ⊥) → cond b x (cond c y z) ≡ cond c y (cond b x z)
swapped true true x y z never = absurd (never refl refl)
swapped true false x y z never = refl
swapped false c x y z never = refl

-- of two contents under one name the later stands
pub insert-insert_same : (files : Files) (name bytes before : List ℕ) → insert (insert files name before) name bytes ≡ insert files name bytes
insert-insert_same files name bytes before =
    same_files _ _ (λ other.
    get-insert nat_list_cmp_total _ name bytes other
    ∙ ap (λ (o : Option (List ℕ)). cond (eq_by_cmp (slice_cmp nat_cmp) other name) (Some bytes) o) (get-insert nat_list_cmp_total files name before other)
    ∙ shadowed (eq_by_cmp (slice_cmp nat_cmp) other name) (Some bytes) (Some before) (get files other)
    ∙ sym (get-insert nat_list_cmp_total files name bytes other))

-- contents under two names may come in either order
pub insert-insert_other : (files : Files) (name bytes other text : List ℕ) → name ≢ other → insert (insert files name bytes) other text ≡ insert (insert files other text) name bytes
insert-insert_other files name bytes other text differs =
    let R : List ℕ → List ℕ → Bool = λ xs ys. eq_by_cmp (slice_cmp nat_cmp) xs ys in
    let ties : (xs ys : List ℕ) → R xs ys ≡ true → xs ≡ ys = λ xs ys h. (bytes_decides xs ys).0 (texts_ties xs ys ∙ h) in
    same_files _ _ (λ q.
    get-insert nat_list_cmp_total _ other text q
    ∙ ap (λ (o : Option (List ℕ)). cond (R q other) (Some text) o) (get-insert nat_list_cmp_total files name bytes q)
    ∙ swapped (R q other) (R q name) (Some text) (Some bytes) (get files q) (λ h k. differs (sym (ties q name k) ∙ ties q other h))
    ∙ sym (get-insert nat_list_cmp_total _ name bytes q
    ∙ ap (λ (o : Option (List ℕ)). cond (R q name) (Some bytes) o) (get-insert nat_list_cmp_total files other text q)))

-- ---- lists of files

-- a name that no file has
pub get-files_of_none : (files : List NamedFile) (name : List ℕ) → NoneNamed name files → get (files_of files) name ≡ None
get-files_of_none [] name none = get-empty _ name
get-files_of_none (file ∷ files) name none =
    get-insert_other (files_of files) (name_of file) file.bytes name (λ e. none.0 (sym e)) ∙ get-files_of_none files name none.1

found_at : (files : List NamedFile) (place : ℕ) (name : List ℕ) (file : NamedFile) → slice_get files place ≡ Some file → name_of file ≡ name → NoneNamed name (take place files)
    → get (files_of files) name ≡ Some file.bytes
found_at [] place name file at named first = absurd (none≢some at)
found_at (other ∷ files) zero name file at named first =
    let same : other ≡ file = some_same at in
    get-insert_same (files_of files) (name_of other) other.bytes name (sym (ap name_of same ∙ named)) ∙ ap (λ (f : NamedFile). Some f.bytes) same
found_at (other ∷ files) (suc place) name file at named first =
    get-insert_other (files_of files) (name_of other) other.bytes name (λ e. first.0 (sym e)) ∙ found_at files place name file at named first.1

-- the first file that has the name
pub get-files_of_first : (files : List NamedFile) (name : List ℕ) (place : ℕ) (first : IsFirstNamed files name place) → get (files_of files) name ≡ Some first.file.bytes
get-files_of_first files name place first = found_at files place name first.file first.at first.named first.first

set_at : (files : List NamedFile) (place : ℕ) (name : List ℕ) (file new : NamedFile) → slice_get files place ≡ Some file → name_of file ≡ name → NoneNamed name (take place files) → name_of new ≡ name
    → files_of (slice_set files place new) ≡ insert (files_of files) name new.bytes
set_at [] place name file new at named first renamed = absurd (none≢some at)
set_at (other ∷ files) zero name file new at named first renamed =
    let is : name_of other ≡ name = ap name_of (some_same at) ∙ named in
    ap (λ (l : List ℕ). insert (files_of files) l new.bytes) renamed
    ∙ sym (insert-insert_same (files_of files) name new.bytes other.bytes)
    ∙ ap (λ (l : List ℕ). insert (insert (files_of files) l other.bytes) name new.bytes) (sym is)
set_at (other ∷ files) (suc place) name file new at named first renamed =
    ap (λ (m : Files). insert m (name_of other) other.bytes) (set_at files place name file new at named first.1 renamed)
    ∙ insert-insert_other (files_of files) name new.bytes (name_of other) other.bytes (λ e. first.0 (sym e))

-- other bytes in the first file that has the name
pub files_of-set : (files : List NamedFile) (name : List ℕ) (place : ℕ) (new : NamedFile) → IsFirstNamed files name place → name_of new ≡ name → files_of (slice_set files place new) ≡ insert (files_of files) name new.bytes
files_of-set files name place new first renamed = set_at files place name first.file new first.at first.named first.first renamed

-- a file behind the others, with a name that none of them has
pub files_of-push : (files : List NamedFile) (name : List ℕ) (new : NamedFile) → NoneNamed name files → name_of new ≡ name → files_of (files ++ new ∷ []) ≡ insert (files_of files) name new.bytes
files_of-push [] name new none renamed = ap (λ (l : List ℕ). insert (files_of []) l new.bytes) renamed
files_of-push (file ∷ files) name new none renamed =
    ap (λ (m : Files). insert m (name_of file) file.bytes) (files_of-push files name new none.1 renamed)
    ∙ insert-insert_other (files_of files) name new.bytes (name_of file) file.bytes (λ e. none.0 (sym e))

-- ---- distinct names

pub NoneNamed-push : (files : List NamedFile) (name : List ℕ) (new : NamedFile) → NoneNamed name files → name_of new ≢ name → NoneNamed name (files ++ new ∷ [])
NoneNamed-push [] name new none other = (other, tt)
NoneNamed-push (file ∷ files) name new none other = (none.0, NoneNamed-push files name new none.1 other)

pub HasDistinctNames-push : (files : List NamedFile) (new : NamedFile) → HasDistinctNames files → NoneNamed (name_of new) files → HasDistinctNames (files ++ new ∷ [])
HasDistinctNames-push [] new distinct none = (tt, tt)
HasDistinctNames-push (file ∷ files) new distinct none =
    (NoneNamed-push files (name_of file) new distinct.0 (λ e. none.0 (sym e)), HasDistinctNames-push files new distinct.1 none.1)

NoneNamed-set : (files : List NamedFile) (place : ℕ) (name : List ℕ) (file new : NamedFile) → slice_get files place ≡ Some file → name_of new ≡ name_of file → NoneNamed name files → NoneNamed name (slice_set files place new)
NoneNamed-set [] place name file new at same none = tt
NoneNamed-set (other ∷ files) zero name file new at same none = ((λ e. none.0 (ap name_of (some_same at) ∙ sym same ∙ e)), none.1)
NoneNamed-set (other ∷ files) (suc place) name file new at same none = (none.0, NoneNamed-set files place name file new at same none.1)

-- other bytes under the same name
pub HasDistinctNames-set : (files : List NamedFile) (place : ℕ) (file new : NamedFile) → slice_get files place ≡ Some file → name_of new ≡ name_of file → HasDistinctNames files → HasDistinctNames (slice_set files place new)
HasDistinctNames-set [] place file new at same distinct = tt
HasDistinctNames-set (other ∷ files) zero file new at same distinct =
    (subst (λ (l : List ℕ). NoneNamed l files) (ap name_of (some_same at) ∙ sym same) distinct.0, distinct.1)
HasDistinctNames-set (other ∷ files) (suc place) file new at same distinct =
    (NoneNamed-set files place (name_of other) file new at same distinct.0, HasDistinctNames-set files place file new at same distinct.1)

-- ---- over a loop

-- the file at the place has another name
pub NoneNamed-take : (files : List NamedFile) (place : ℕ) (name : List ℕ) (file : NamedFile) → place < length files → file ≡ get_or files place file → name_of file ≢ name
    → NoneNamed name (take place files) → NoneNamed name (take (place + 1) files)
NoneNamed-take files place name file below is other none = rw (add-one, take-suc files place file below, ← is) (NoneNamed-push (take place files) name file none other)

-- the file at the place has the name
pub IsFirstNamed-here : (files : List NamedFile) (place : ℕ) (name : List ℕ) (file : NamedFile) → place < length files → file ≡ get_or files place file → name_of file ≡ name
    → NoneNamed name (take place files) → IsFirstNamed files name place
IsFirstNamed-here files place name file below is named none = record { file = file; at = slice_get_at files place file below ∙ ap Some (sym is); named = named; first = none }

-- a push that may be refused
pub HasDistinctNames-pushed : (stood : Bool) (files after : List NamedFile) (new : NamedFile) → after ≡ cond stood (files ++ new ∷ []) files → HasDistinctNames files → NoneNamed (name_of new) files → HasDistinctNames after
HasDistinctNames-pushed true files after new is distinct none = subst HasDistinctNames (sym is) (HasDistinctNames-push files new distinct none)
HasDistinctNames-pushed false files after new is distinct none = subst HasDistinctNames (sym is) distinct

-- what stands at a place
pub get_or-at : {A : Type 0} (items : List A) (i : ℕ) (item d : A) → slice_get items i ≡ Some item → get_or items i d ≡ item
get_or-at [] i item d at = absurd (none≢some at)
get_or-at (first ∷ items) zero item d at = some_same at
get_or-at (first ∷ items) (suc i) item d at = get_or-at items i item d at

not_both : (files : List NamedFile) (name : List ℕ) (place : ℕ) → IsFirstNamed files name place → NoneNamed name files → ⊥
not_both files name place first none = none≢some (sym (get-files_of_none files name none) ∙ get-files_of_first files name place first)

-- the search for the name found nothing exactly where no file has it
pub lacks_where_none : (files : List NamedFile) (name : List ℕ) (found : Option ℕ) (lacks : Bool) → IfSome found (λ place. IsFirstNamed files name place) → IfNone found (NoneNamed name files)
    → is_some found ≡ not lacks → (lacks ≡ true → NoneNamed name files) × (NoneNamed name files → lacks ≡ true)
lacks_where_none files name None true some none is = ((λ _. none), λ _. refl)
lacks_where_none files name None false some none is = absurd (grind (arith, is))
lacks_where_none files name (Some place) true some none is = absurd (grind (arith, is))
lacks_where_none files name (Some place) false some none is = ((λ h. absurd (grind (arith, h))), λ h. absurd (not_both files name place some h))
