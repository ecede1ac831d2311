-- The drafts of all statements, made by adding the keys of ALTERs one after the other.
use Rattle.std.proofs.Common.{◌≡◌, ◌∙◌, ◌||◌, ℕ, zero, suc, ◌+◌, ◌<◌, ◌≤◌, List, [], ◌∷◌, ◌++◌, map, length, take, set, get_or, Bool, true, false, None, Some, refl, sym, ap, inl, inr, arith, append_assoc}
use Rattle.std.specs.Prelude.{slice_get, if◌then◌else◌}
use Rattle.std.specs.Cmp.Lexicographic.{bytes_decides}
use Rattle.std.specs.List.{flat_map, list_any, enumerate_from}
use Rattle.std.proofs.lemmas.Bool.{cases_Bool, both_ways}
use Rattle.std.proofs.lemmas.List.{append-nil, take_all, take_more}
use Rattle.std.proofs.lemmas.List.Concat.{flat_map-append}
use Rattle.std.proofs.lemmas.List.Folds.{list_any-append}
use Rattle.members_dm.specs.InOrder.{IsFirstPlace}
use Rattle.schema_dm.specs.Naming.{same_name}
use Rattle.schema_dm.specs.declared.draft.TableDraft.{TableDraft}
use Rattle.ddl_syntax_dm.specs.declared.syntax.AlterTable.{AlterTable}
use Rattle.ddl_syntax_dm.specs.declared.syntax.CreateTable.{CreateTable}
use Rattle.ddl_syntax_dm.specs.declared.syntax.Key.{Key}
use Rattle.ddl_syntax_dm.specs.declared.syntax.Statement.{Statement}
use Rattle.ddl_syntax_dm.specs.declared.syntax.Statement.TheVariants.{Create, Alter}
use Rattle.ddl_syntax_dm.specs.Words.{Name}
use Rattle.ddl_dm.specs.Building.{extended, created_names, own_draft, own_drafts, with_key, altered}
use Rattle.ddl_dm.specs.Meaning.{draft_with, item_columns, item_keys, creates, is_created, altered_keys, added_keys, draft_of, drafts_at, numbered_drafts, drafts_of}
use Rattle.ddl_dm.proofs.Growth.{extended_twice, extended_empty}

-- ---- the drafts of the CREATEs behind others, where these ALTERs add their keys

pub drafts_with : List Statement → List Statement → List Statement → List TableDraft
drafts_with alters earlier [] = []
drafts_with alters earlier (s ∷ rest) = drafts_at alters earlier s ++ drafts_with alters (earlier ++ s ∷ []) rest

pub same_names : (alters earlier rest : List Statement) → map (λ (draft : TableDraft). draft.name) (drafts_with alters earlier rest) ≡ created_names rest
unfolding drafts_with
same_names alters earlier [] = refl
same_names alters earlier (Create table ∷ rest) = ap (λ names. table.name ∷ names) (same_names alters (earlier ++ Create table ∷ []) rest)
same_names alters earlier (Alter table ∷ rest) = same_names alters (earlier ++ Alter table ∷ []) rest

-- without ALTERs they are the CREATEs' own
own_is : (earlier : List Statement) (table : CreateTable) → draft_of [] earlier table ≡ own_draft table
own_is earlier table = ap (λ keys. draft_with table.name (flat_map item_columns table.items) keys) (go (is_created earlier table.name))
  where
    go : (b : Bool) → flat_map item_keys table.items ++ (if b then [] else flat_map (altered_keys table.name) []) ≡ flat_map item_keys table.items
    go true = append-nil (flat_map item_keys table.items)
    go false = append-nil (flat_map item_keys table.items)

pub own_with : (earlier rest : List Statement) → drafts_with [] earlier rest ≡ flat_map own_drafts rest
unfolding drafts_with
own_with earlier [] = refl
own_with earlier (Create table ∷ rest) =
    ap (λ draft. draft ∷ drafts_with [] (earlier ++ Create table ∷ []) rest) (own_is earlier table) ∙ ap (λ drafts. own_draft table ∷ drafts) (own_with (earlier ++ Create table ∷ []) rest)
own_with earlier (Alter table ∷ rest) = own_with (earlier ++ Alter table ∷ []) rest

-- ---- what is created

created_more : (earlier : List Statement) (s : Statement) (name : Name) → is_created (earlier ++ s ∷ []) name ≡ (is_created earlier name || list_any (creates name) (s ∷ []))
created_more earlier s name = list_any-append (creates name) earlier (s ∷ [])

still_created : (earlier : List Statement) (s : Statement) (name : Name) → is_created earlier name ≡ true → is_created (earlier ++ s ∷ []) name ≡ true
still_created earlier s name e = created_more earlier s name ∙ ap (λ b. b || list_any (creates name) (s ∷ [])) e

-- ---- one more ALTER

-- the keys that one more statement adds to a table
added_more : (alters earlier : List Statement) (s : Statement) (name : Name) → added_keys (alters ++ s ∷ []) earlier name ≡ added_keys alters earlier name ++ (if is_created earlier name then [] else altered_keys name s)
added_more alters earlier s name = go (is_created earlier name)
  where
    go : (b : Bool) → (if b then [] else flat_map (altered_keys name) (alters ++ s ∷ [])) ≡ (if b then [] else flat_map (altered_keys name) alters) ++ (if b then [] else altered_keys name s)
    go true = refl
    go false = flat_map-append (altered_keys name) alters (s ∷ []) ∙ ap (λ keys. flat_map (altered_keys name) alters ++ keys) (append-nil (altered_keys name s))

keys_as_before : (alters earlier : List Statement) (s : Statement) (table : CreateTable) → (if is_created earlier table.name then [] else altered_keys table.name s) ≡ []
    → draft_of (alters ++ s ∷ []) earlier table ≡ draft_of alters earlier table
keys_as_before alters earlier s table none =
    ap (λ keys. draft_with table.name (flat_map item_columns table.items) (flat_map item_keys table.items ++ keys))
    (added_more alters earlier s table.name ∙ ap (λ keys. added_keys alters earlier table.name ++ keys) none ∙ append-nil (added_keys alters earlier table.name))

-- a CREATE adds no key
pub as_before : (alters earlier : List Statement) (table : CreateTable) (rest : List Statement) → drafts_with (alters ++ Create table ∷ []) earlier rest ≡ drafts_with alters earlier rest
unfolding drafts_with
as_before alters earlier table [] = refl
as_before alters earlier table (Create other ∷ rest) =
    ap (λ draft. draft ∷ drafts_with (alters ++ Create table ∷ []) (earlier ++ Create other ∷ []) rest) (keys_as_before alters earlier (Create table) other (go (is_created earlier other.name)))
    ∙ ap (λ drafts. draft_of alters earlier other ∷ drafts) (as_before alters (earlier ++ Create other ∷ []) table rest)
  where
    go : (b : Bool) → (if b then [] else altered_keys other.name (Create table)) ≡ []
    go true = refl
    go false = refl
as_before alters earlier table (Alter other ∷ rest) = as_before alters (earlier ++ Alter other ∷ []) table rest

module _ (alter : AlterTable) where
  others_key : (name : Name) → same_name alter.name name ≡ false → altered_keys name (Alter alter) ≡ []
  others_key name e = ap (λ b. if b then alter.key ∷ [] else []) e

  own_key : (name : Name) → same_name alter.name name ≡ true → altered_keys name (Alter alter) ≡ alter.key ∷ []
  own_key name e = ap (λ b. if b then alter.key ∷ [] else []) e

  turned : (name : Name) (b : Bool) → same_name name alter.name ≡ b → same_name alter.name name ≡ b
  turned name true e = (bytes_decides alter.name name).1 (sym ((bytes_decides name alter.name).0 e))
  turned name false e = elim (cases_Bool (same_name alter.name name)) [
    | inl t ↦ absurd (both_ways _ e ((bytes_decides name alter.name).1 (sym ((bytes_decides alter.name name).0 t))))
    | inr f ↦ f
  ]

  -- where the name was created before, none behind has the key
  past : (alters earlier rest : List Statement) → is_created earlier alter.name ≡ true → drafts_with (alters ++ Alter alter ∷ []) earlier rest ≡ drafts_with alters earlier rest
  unfolding drafts_with
  past alters earlier [] created = refl
  past alters earlier (Create table ∷ rest) created =
      ap (λ draft. draft ∷ drafts_with (alters ++ Alter alter ∷ []) (earlier ++ Create table ∷ []) rest)
      (keys_as_before alters earlier (Alter alter) table (go (same_name table.name alter.name) refl))
      ∙ ap (λ drafts. draft_of alters earlier table ∷ drafts) (past alters (earlier ++ Create table ∷ []) rest (still_created earlier (Create table) alter.name created))
    where
      created_too : (b : Bool) → b ≡ true → (if b then [] else altered_keys table.name (Alter alter)) ≡ []
      created_too true e = refl
      created_too false e = cc e

      not_own : (b : Bool) → altered_keys table.name (Alter alter) ≡ [] → (if b then [] else altered_keys table.name (Alter alter)) ≡ []
      not_own true e = refl
      not_own false e = e

      go : (b : Bool) → same_name table.name alter.name ≡ b → (if is_created earlier table.name then [] else altered_keys table.name (Alter alter)) ≡ []
      go true e = created_too (is_created earlier table.name) (ap (is_created earlier) ((bytes_decides table.name alter.name).0 e) ∙ created)
      go false e = not_own (is_created earlier table.name) (others_key table.name (turned table.name false e))
  past alters earlier (Alter table ∷ rest) created = past alters (earlier ++ Alter table ∷ []) rest (still_created earlier (Alter table) alter.name created)

  -- else the first behind has it
  pub first_behind : (alters earlier rest : List Statement) → is_created earlier alter.name ≡ false
      → drafts_with (alters ++ Alter alter ∷ []) earlier rest ≡ with_key alter.name alter.key (drafts_with alters earlier rest)
  unfolding drafts_with
  first_behind alters earlier [] fresh = refl
  first_behind alters earlier (Create table ∷ rest) fresh =
      go (same_name table.name alter.name) refl (first_behind alters (earlier ++ Create table ∷ []) rest)
    where
      grown : same_name table.name alter.name ≡ true → draft_of (alters ++ Alter alter ∷ []) earlier table ≡ extended (draft_of alters earlier table) [] (alter.key ∷ [])
      grown e =
          let here : is_created earlier table.name ≡ false = ap (is_created earlier) ((bytes_decides table.name alter.name).0 e) ∙ fresh in
          let columns = flat_map item_columns table.items in
          let keys = flat_map item_keys table.items in
          let added = added_keys alters earlier table.name in
          ap (λ more. draft_with table.name columns (keys ++ more))
          (added_more alters earlier (Alter alter) table.name
          ∙ ap (λ b. added ++ (if b then [] else altered_keys table.name (Alter alter))) here
          ∙ ap (λ more. added ++ more) (own_key table.name (turned table.name true e)))
          ∙ ap (λ all. draft_with table.name columns all) (sym (append_assoc keys added (alter.key ∷ [])))
          ∙ sym (extended_empty table.name columns ((keys ++ added) ++ alter.key ∷ []))
          ∙ sym (ap (λ cs. extended (draft_with table.name [] []) cs ((keys ++ added) ++ alter.key ∷ [])) (append-nil columns))
          ∙ sym (extended_twice (draft_with table.name [] []) columns [] (keys ++ added) (alter.key ∷ []))
          ∙ ap (λ draft. extended draft [] (alter.key ∷ [])) (extended_empty table.name columns (keys ++ added))

      not_own : (b : Bool) → altered_keys table.name (Alter alter) ≡ [] → (if b then [] else altered_keys table.name (Alter alter)) ≡ []
      not_own true e = refl
      not_own false e = e

      other_fresh : same_name table.name alter.name ≡ false → is_created (earlier ++ Create table ∷ []) alter.name ≡ false
      other_fresh e = created_more earlier (Create table) alter.name ∙ ap (λ b. b || list_any (creates alter.name) (Create table ∷ [])) fresh ∙ ap (λ b. b || false) e

      now_created : same_name table.name alter.name ≡ true → is_created (earlier ++ Create table ∷ []) alter.name ≡ true
      now_created e = created_more earlier (Create table) alter.name ∙ ap (λ b. b || list_any (creates alter.name) (Create table ∷ [])) fresh ∙ ap (λ b. b || false) e

      go : (b : Bool) → same_name table.name alter.name ≡ b
          → (is_created (earlier ++ Create table ∷ []) alter.name ≡ false
          → drafts_with (alters ++ Alter alter ∷ []) (earlier ++ Create table ∷ []) rest ≡ with_key alter.name alter.key (drafts_with alters (earlier ++ Create table ∷ []) rest))
          → draft_of (alters ++ Alter alter ∷ []) earlier table ∷ drafts_with (alters ++ Alter alter ∷ []) (earlier ++ Create table ∷ []) rest
          ≡ (if same_name table.name alter.name then extended (draft_of alters earlier table) [] (alter.key ∷ []) ∷ drafts_with alters (earlier ++ Create table ∷ []) rest
          else draft_of alters earlier table ∷ with_key alter.name alter.key (drafts_with alters (earlier ++ Create table ∷ []) rest))
      go true e later =
          ap (λ draft. draft ∷ drafts_with (alters ++ Alter alter ∷ []) (earlier ++ Create table ∷ []) rest) (grown e)
          ∙ ap (λ drafts. extended (draft_of alters earlier table) [] (alter.key ∷ []) ∷ drafts) (past alters (earlier ++ Create table ∷ []) rest (now_created e))
          ∙ sym (ap (λ b. if b then extended (draft_of alters earlier table) [] (alter.key ∷ []) ∷ drafts_with alters (earlier ++ Create table ∷ []) rest
          else draft_of alters earlier table ∷ with_key alter.name alter.key (drafts_with alters (earlier ++ Create table ∷ []) rest)) e)
      go false e later =
          ap (λ draft. draft ∷ drafts_with (alters ++ Alter alter ∷ []) (earlier ++ Create table ∷ []) rest)
          (keys_as_before alters earlier (Alter alter) table (not_own (is_created earlier table.name) (others_key table.name (turned table.name false e))))
          ∙ ap (λ drafts. draft_of alters earlier table ∷ drafts) (later (other_fresh e))
          ∙ sym (ap (λ b. if b then extended (draft_of alters earlier table) [] (alter.key ∷ []) ∷ drafts_with alters (earlier ++ Create table ∷ []) rest
          else draft_of alters earlier table ∷ with_key alter.name alter.key (drafts_with alters (earlier ++ Create table ∷ []) rest)) e)
  first_behind alters earlier (Alter table ∷ rest) fresh =
      first_behind alters (earlier ++ Alter table ∷ []) rest
      (created_more earlier (Alter table) alter.name ∙ ap (λ b. b || list_any (creates alter.name) (Alter table ∷ [])) fresh)

-- ---- the loop over the ALTERs

pub altered_step : (statements : List Statement) (alters : List Statement) (s : Statement) → drafts_with (alters ++ s ∷ []) [] statements ≡ altered (drafts_with alters [] statements) s
altered_step statements alters (Create table) = as_before alters [] table statements
altered_step statements alters (Alter alter) = first_behind alter alters [] statements refl

pub altered_more : (statements : List Statement) (i : ℕ) (s : Statement) (before new : List TableDraft) → i < length statements → s ≡ get_or statements i s
    → before ≡ drafts_with (take i statements) [] statements → new ≡ altered before s → new ≡ drafts_with (take (i + 1) statements) [] statements
altered_more statements i s before new below is so_far step =
    step ∙ ap (λ drafts. altered drafts s) so_far ∙ sym (altered_step statements (take i statements) s)
    ∙ ap (λ alters. drafts_with alters [] statements) (ap (λ x. take i statements ++ x ∷ []) is ∙ sym (take_more statements i s below))

-- the first draft of the name, by its place among the names
pub key_at_first : (drafts : List TableDraft) (name : Name) (key : Key) (number : ℕ) (d : TableDraft) → IsFirstPlace (map (λ (draft : TableDraft). draft.name) drafts) name (Some number)
    → set drafts number (extended (get_or drafts number d) [] (key ∷ [])) ≡ with_key name key drafts
key_at_first [] name key number d first = absurd (let none : None ≡ Some name = first.0 in cc)
key_at_first (x ∷ xs) name key number d first = at (same_name x.name name) (bytes_decides x.name name) number first (λ k h. key_at_first xs name key k d h)
  where
    at : (b : Bool) → (b ≡ true → x.name ≡ name) × (x.name ≡ name → b ≡ true) → (k : ℕ) → IsFirstPlace (map (λ (draft : TableDraft). draft.name) (x ∷ xs)) name (Some k)
        → ((k : ℕ) → IsFirstPlace (map (λ (draft : TableDraft). draft.name) xs) name (Some k) → set xs k (extended (get_or xs k d) [] (key ∷ [])) ≡ with_key name key xs)
        → set (x ∷ xs) k (extended (get_or (x ∷ xs) k d) [] (key ∷ [])) ≡ (if b then extended x [] (key ∷ []) ∷ xs else x ∷ with_key name key xs)
    at true test zero h later = refl
    at true test (suc k) h later = absurd (h.1 0 (omega arith) (ap (λ n. Some n) (test.0 refl)))
    at false test zero h later = absurd (let one : x.name ≡ name = (let both : Some x.name ≡ Some name = h.0 in cc) in let no_such = test.1 one in cc)
    at false test (suc k) h later = ap (λ drafts. x ∷ drafts) (later k (h.0, (λ place l is. h.1 (suc place) (omega arith) is)))

pub no_first : (drafts : List TableDraft) (name : Name) (key : Key) → IsFirstPlace (map (λ (draft : TableDraft). draft.name) drafts) name None → drafts ≡ with_key name key drafts
no_first [] name key none = refl
no_first (x ∷ xs) name key none = at (same_name x.name name) (bytes_decides x.name name) (no_first xs name key (λ place is. none (suc place) is))
  where
    at : (b : Bool) → (b ≡ true → x.name ≡ name) × (x.name ≡ name → b ≡ true) → xs ≡ with_key name key xs → x ∷ xs ≡ (if b then extended x [] (key ∷ []) ∷ xs else x ∷ with_key name key xs)
    at true test later = absurd (none 0 (ap (λ n. Some n) (test.0 refl)))
    at false test later = ap (λ drafts. x ∷ drafts) later

-- ---- all statements

numbered_from : (all earlier rest : List Statement) → all ≡ earlier ++ rest → drafts_with all earlier rest ≡ flat_map (numbered_drafts all) (enumerate_from (length earlier) rest)
unfolding drafts_with
numbered_from all earlier [] parts = refl
numbered_from all earlier (s ∷ rest) parts =
    ap (λ front. drafts_at all front s ++ drafts_with all (earlier ++ s ∷ []) rest) (sym (front_of all earlier (s ∷ rest) parts))
    ∙ ap (λ drafts. drafts_at all (take (length earlier) all) s ++ drafts)
    (numbered_from all (earlier ++ s ∷ []) rest (parts ∙ sym (append_assoc earlier (s ∷ []) rest))
    ∙ ap (λ n. flat_map (numbered_drafts all) (enumerate_from n rest)) (one_longer earlier s))
  where
    front_of : (xs front back : List Statement) → xs ≡ front ++ back → take (length front) xs ≡ front
    front_of xs front back e = ap (take (length front)) e ∙ go front
      where
        go : (ys : List Statement) → take (length ys) (ys ++ back) ≡ ys
        go [] = refl
        go (y ∷ ys) = ap (λ zs. y ∷ zs) (go ys)

    one_longer : (xs : List Statement) (x : Statement) → length (xs ++ x ∷ []) ≡ length xs + 1
    one_longer [] x = refl
    one_longer (y ∷ ys) x = (let rest : length (ys ++ x ∷ []) ≡ length ys + 1 = one_longer ys x in omega arith)

pub all_drafts : (statements : List Statement) (n : ℕ) (drafts : List TableDraft) → length statements ≤ n → drafts ≡ drafts_with (take n statements) [] statements → drafts ≡ drafts_of statements
unfolding drafts_of
all_drafts statements n drafts past so_far =
    so_far ∙ ap (λ alters. drafts_with alters [] statements) (take_all n statements past) ∙ numbered_from statements [] statements refl

-- ---- unknown names

pub created_from_place : (statements : List Statement) (name : Name) (place : ℕ) → slice_get (created_names statements) place ≡ Some name → is_created statements name ≡ true
created_from_place [] name place is = absurd (let none : None ≡ Some name = is in cc)
created_from_place (Create table ∷ rest) name zero is = ap (λ b. b || is_created rest name) ((bytes_decides table.name name).1 (let both : Some table.name ≡ Some name = is in cc))
created_from_place (Create table ∷ rest) name (suc place) is = either (same_name table.name name) (is_created rest name) (created_from_place rest name place is)
  where
    either : (a b : Bool) → b ≡ true → (a || b) ≡ true
    either true b e = refl
    either false b e = e
created_from_place (Alter table ∷ rest) name place is = created_from_place rest name place is

pub not_created : (statements : List Statement) (name : Name) → IsFirstPlace (created_names statements) name None → is_created statements name ≡ false
not_created [] name none = refl
not_created (Create table ∷ rest) name none =
    at (same_name table.name name) (bytes_decides table.name name) (not_created rest name (λ place is. none (suc place) is))
  where
    at : (b : Bool) → (b ≡ true → table.name ≡ name) × (table.name ≡ name → b ≡ true) → is_created rest name ≡ false → (b || is_created rest name) ≡ false
    at true test later = absurd (none 0 (ap (λ n. Some n) (test.0 refl)))
    at false test later = later
not_created (Alter table ∷ rest) name none = not_created rest name none
