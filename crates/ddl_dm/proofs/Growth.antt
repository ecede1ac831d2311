-- Drafts that grow by columns and keys.
use Rattle.std.proofs.Common.{◌≡◌, ℕ, ◌+◌, ◌<◌, List, [], ◌∷◌, ◌++◌, refl, sym, ap, ◌∙◌, take, get_or, length, append_assoc, Bool}
use Rattle.std.specs.List.{flat_map, list_any}
use Rattle.value_dm.specs.declared.kind.Kind.{Kind}
use Rattle.std.proofs.lemmas.List.{append-nil, flat_map_more, take_more}
use Rattle.std.proofs.lemmas.List.Concat.{flat_map-append}
use Rattle.schema_dm.specs.declared.draft.Column.{Column as ColumnDraft}
use Rattle.schema_dm.specs.declared.draft.ForeignDraft.{ForeignDraft}
use Rattle.schema_dm.specs.declared.draft.TableDraft.{TableDraft}
use Rattle.ddl_syntax_dm.specs.declared.syntax.Key.{Key}
use Rattle.ddl_syntax_dm.specs.declared.syntax.Key.TheVariants as keys
use Rattle.ddl_syntax_dm.specs.declared.syntax.Target.{Target}
use Rattle.ddl_syntax_dm.specs.Words.{Name}
use Rattle.ddl_syntax_dm.specs.declared.syntax.Column.{Column}
use Rattle.ddl_dm.specs.Meaning.{primary_columns, unique_columns, foreign_drafts, foreign_draft, draft_with, kind_of, is_not_null, column_of}
use Rattle.ddl_dm.specs.Building.{extended}

abbrev pub made : Name → List ColumnDraft → List (List Name) → List (List Name) → List ForeignDraft → TableDraft
made name columns primaries uniques foreign = record { name = name; columns = columns; primaries = primaries; uniques = uniques; foreign = foreign }

same_made : (name : Name) (c d : List ColumnDraft) (p q u v : List (List Name)) (f g : List ForeignDraft) → c ≡ d → p ≡ q → u ≡ v → f ≡ g → made name c p u f ≡ made name d q v g
same_made name c d p q u v f g columns primaries uniques foreign =
    ap (λ x. made name x p u f) columns ∙ ap (λ x. made name d x u f) primaries ∙ ap (λ x. made name d q x f) uniques ∙ ap (λ x. made name d q v x) foreign

pub extended_by_nothing : (draft : TableDraft) → draft ≡ extended draft [] []
unfolding extended
extended_by_nothing draft =
    same_made draft.name _ _ _ _ _ _ _ _ (sym (append-nil draft.columns)) (sym (append-nil draft.primaries)) (sym (append-nil draft.uniques)) (sym (append-nil draft.foreign))

more_of : {A : Type 0} (own : List A) (f : Key → List A) (k l : List Key) → (own ++ flat_map f k) ++ flat_map f l ≡ own ++ flat_map f (k ++ l)
more_of own f k l = append_assoc own (flat_map f k) (flat_map f l) ∙ ap (λ x. own ++ x) (sym (flat_map-append f k l))

pub extended_twice : (draft : TableDraft) (c d : List ColumnDraft) (k l : List Key) → extended (extended draft c k) d l ≡ extended draft (c ++ d) (k ++ l)
unfolding extended
extended_twice draft c d k l =
    same_made draft.name _ _ _ _ _ _ _ _ (append_assoc draft.columns c d) (more_of draft.primaries primary_columns k l) (more_of draft.uniques unique_columns k l)
    (more_of draft.foreign foreign_drafts k l)

pub extended_empty : (name : Name) (c : List ColumnDraft) (k : List Key) → extended (draft_with name [] []) c k ≡ draft_with name c k
unfolding extended
extended_empty name c k = refl

pub primary_added : (draft : TableDraft) (names : List Name) (new : List (List Name)) → new ≡ draft.primaries ++ names ∷ []
    → made draft.name draft.columns new draft.uniques draft.foreign ≡ extended draft [] (keys.Primary names ∷ [])
unfolding extended
primary_added draft names new e = same_made draft.name _ _ _ _ _ _ _ _ (sym (append-nil draft.columns)) e (sym (append-nil draft.uniques)) (sym (append-nil draft.foreign))

pub unique_added : (draft : TableDraft) (names : List Name) (new : List (List Name)) → new ≡ draft.uniques ++ names ∷ []
    → made draft.name draft.columns draft.primaries new draft.foreign ≡ extended draft [] (keys.Unique names ∷ [])
unfolding extended
unique_added draft names new e = same_made draft.name _ _ _ _ _ _ _ _ (sym (append-nil draft.columns)) (sym (append-nil draft.primaries)) e (sym (append-nil draft.foreign))

pub foreign_added : (draft : TableDraft) (columns : List Name) (target : Target) (made_key : ForeignDraft) (new : List ForeignDraft) → made_key ≡ foreign_draft columns target
    → new ≡ draft.foreign ++ made_key ∷ [] → made draft.name draft.columns draft.primaries draft.uniques new ≡ extended draft [] (keys.Foreign (record { columns = columns; target = target }) ∷ [])
unfolding extended
foreign_added draft columns target made_key new is e =
    same_made draft.name _ _ _ _ _ _ _ _ (sym (append-nil draft.columns)) (sym (append-nil draft.primaries)) (sym (append-nil draft.uniques)) (e ∙ ap (λ x. draft.foreign ++ x ∷ []) is)

abbrev pub made_column : Name → Kind → Bool → ColumnDraft
made_column name kind not_null = record { name = name; kind = kind; not_null = not_null }

pub column_added : (draft : TableDraft) (column : Column) (name : Name) (kind : Kind) (not_null : Bool) (new : List ColumnDraft) → name ≡ column.name → kind ≡ kind_of column.kind
    → not_null ≡ list_any is_not_null column.constraints → new ≡ draft.columns ++ made_column name kind not_null ∷ []
    → made draft.name new draft.primaries draft.uniques draft.foreign ≡ extended draft (column_of column ∷ []) []
unfolding extended
column_added draft column name kind not_null new names kinds marks e =
    same_made draft.name _ _ _ _ _ _ _ _ (e ∙ ap (λ x. draft.columns ++ x ∷ []) same) (sym (append-nil draft.primaries)) (sym (append-nil draft.uniques)) (sym (append-nil draft.foreign))
  where
    same : made_column name kind not_null ≡ column_of column
    same = ap (λ x. made_column x kind not_null) names ∙ ap (λ x. made_column column.name x not_null) kinds ∙ ap (λ x. made_column column.name (kind_of column.kind) x) marks

-- ---- loops

more_at : {X A : Type 0} (f : X → List A) (xs : List X) (i : ℕ) (x : X) → i < length xs → x ≡ get_or xs i x → flat_map f (take i xs) ++ f x ≡ flat_map f (take (i + 1) xs)
more_at f xs i x within is = flat_map_more f [] (take i xs) x ∙ ap (λ ys. flat_map f ys) (ap (λ y. take i xs ++ y ∷ []) is ∙ sym (take_more xs i x within))

pub both_more : {X : Type 0} (f : X → List ColumnDraft) (g : X → List Key) (first draft new : TableDraft) (xs : List X) (i : ℕ) (x : X) → i < length xs → x ≡ get_or xs i x
    → draft ≡ extended first (flat_map f (take i xs)) (flat_map g (take i xs)) → new ≡ extended draft (f x) (g x) → new ≡ extended first (flat_map f (take (i + 1) xs)) (flat_map g (take (i + 1) xs))
both_more f g first draft new xs i x within is before step =
    step ∙ ap (λ d. extended d (f x) (g x)) before ∙ extended_twice first (flat_map f (take i xs)) (f x) (flat_map g (take i xs)) (g x)
    ∙ ap (λ c. extended first c (flat_map g (take i xs) ++ g x)) (more_at f xs i x within is) ∙ ap (λ k. extended first (flat_map f (take (i + 1) xs)) k) (more_at g xs i x within is)

pub keys_more : {X : Type 0} (g : X → List Key) (first draft new : TableDraft) (xs : List X) (i : ℕ) (x : X) → i < length xs → x ≡ get_or xs i x
    → draft ≡ extended first [] (flat_map g (take i xs)) → new ≡ extended draft [] (g x) → new ≡ extended first [] (flat_map g (take (i + 1) xs))
keys_more g first draft new xs i x within is before step =
    step ∙ ap (λ d. extended d [] (g x)) before ∙ extended_twice first [] [] (flat_map g (take i xs)) (g x) ∙ ap (λ k. extended first [] k) (more_at g xs i x within is)
