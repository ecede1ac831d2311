-- Tables of values: what a graph stands for is determined, since the literal of a lawful value tells it.
use Rattle.std.proofs.Common.{false, ◌≡◌, ℕ, zero, suc, List, [], ◌∷◌, map, length, get_or, refl, sym, ap, ◌∙◌, subst, inl, inr, Some, None}
use Rattle.std.specs.Option.{option_map}
use Rattle.std.specs.List.{swap}
use Rattle.std.specs.List.Sorted.{IsPermutation, SwapsInRange, apply_swaps}
use Rattle.std.proofs.lemmas.List.{length-map, map-set}
use Rattle.std.proofs.Common.{set}
use Rattle.std.proofs.lemmas.List.Sorted.{All-permutation}
use Rattle.members_dm.specs.Membership.{IsIn}
use Rattle.members_dm.specs.Elements.{Each}
use Rattle.members_dm.proofs.AnyLemmas.{all_from_items, item_from_all}
use Rattle.members_dm.proofs.ElementsLemmas.{each_from_items, item_from_each}
use Rattle.value_dm.specs.Lawful.{IsLawful}
use Rattle.value_dm.specs.declared.value.Value.{Value}
use Rattle.value_dm.proofs.Values.{lexical_form_one}
use Rattle.std.specs.List.{AllZip}
use Rattle.schema_dm.specs.declared.draft.Column.{Column}
use Rattle.facts_dm.specs.Meanings.{NamingLaws}
use Rattle.names_dm.specs.Statements.{Statement}
use Rattle.table_csv.specs.Plain.{PlainTable}
use Rattle.layouts_dm.specs.Layouts.{ClassColumn}
use Rattle.layouts_dm.specs.LayoutTables.{IsOfShape, SamePlain, SameTable, StandsFor, class_column, literal_table, value_text}
use Rattle.layouts_dm.proofs.Outcomes.{literals_once}
use Rattle.facts_dm.specs.Facts.{KindText}
use Rattle.table_csv.specs.Cells.{Cell, IsRowOf, Row}

abbrev pub IsLawfulCell : Cell → Type 0
IsLawfulCell None = Unit {0}
IsLawfulCell (Some v) = IsLawful v

-- the literal of a lawful value tells it
pub one_value : (v w : Value) → IsLawful v → IsLawful w → value_text v ≡ value_text w → v ≡ w
one_value v w a b e = lexical_form_one v w a b (ap (λ (x : KindText). x.kind) e) (ap (λ (x : KindText). x.text) e)

pub one_cell : (c d : Cell) → IsLawfulCell c → IsLawfulCell d → option_map value_text c ≡ option_map value_text d → c ≡ d
one_cell None None a b e = refl
one_cell None (Some w) a b e = absurd (let f : None ≡ Some (value_text w) = e in cc)
one_cell (Some v) None a b e = absurd (let f : Some (value_text v) ≡ None = e in cc)
one_cell (Some v) (Some w) a b e = ap Some (one_value v w a b (unsome (value_text v) (value_text w) e))
  where
    unsome : (x y : KindText) → Some x ≡ Some y → x ≡ y
    unsome x y f = cc

-- lists whose images are one are one, where items with one image are
pub one_list : {X Y : Type 0} (P : X → Type 0) (f : X → Y) → ((x y : X) → P x → P y → f x ≡ f y → x ≡ y) → (xs ys : List X) → Each P xs → Each P ys → map f xs ≡ map f ys → xs ≡ ys
one_list P f one [] [] a b e = refl
one_list P f one [] (y ∷ ys) a b e = absurd (cc)
one_list P f one (x ∷ xs) [] a b e = absurd (cc)
one_list P f one (x ∷ xs) (y ∷ ys) a b e =
    let heads : f x ≡ f y = cc in
    let tails : map f xs ≡ map f ys = cc in
    let head : x ≡ y = one x y a.0 b.0 heads in
    let tail : xs ≡ ys = one_list P f one xs ys a.1 b.1 tails in
    λ i. head i ∷ tail i

pub one_literal_row : (r s : Row) → Each IsLawfulCell r → Each IsLawfulCell s → map (option_map value_text) r ≡ map (option_map value_text) s → r ≡ s
one_literal_row r s a b e = one_list IsLawfulCell (option_map value_text) one_cell r s a b e

-- ---- lists in another order

read_map : {X Y : Type 0} (f : X → Y) (xs : List X) (i : ℕ) (d : X) → get_or (map f xs) i (f d) ≡ f (get_or xs i d)
read_map f [] i d = refl
read_map f (x ∷ xs) zero d = refl
read_map f (x ∷ xs) (suc i) d = read_map f xs i d

swap_map : {X Y : Type 0} (f : X → Y) (xs : List X) (i j : ℕ) → map f (swap xs i j) ≡ swap (map f xs) i j
swap_map f [] i j = refl
swap_map f (d ∷ ys) i j =
    let l = d ∷ ys in
    map-set f (set l i (get_or l j d)) j (get_or l i d)
    ∙ (λ t. set ((map-set f l i (get_or l j d) ∙ ap (set (map f l) i) (sym (read_map f l j d))) t) j (sym (read_map f l i d) t))

swaps_map : {X Y : Type 0} (f : X → Y) (xs : List X) (moves : List (ℕ × ℕ)) → map f (apply_swaps xs moves) ≡ apply_swaps (map f xs) moves
swaps_map f xs [] = refl
swaps_map f xs (p ∷ ps) = swap_map f (apply_swaps xs ps) p.0 p.1 ∙ ap (λ zs. swap zs p.0 p.1) (swaps_map f xs ps)

-- lists whose images are one in another order are one in another order
pub permutation_back : {X Y : Type 0} (P : X → Type 0) (f : X → Y) → ((x y : X) → P x → P y → f x ≡ f y → x ≡ y) → (xs ys : List X) → Each P xs → Each P ys
    → IsPermutation (map f xs) (map f ys) → IsPermutation xs ys
permutation_back {X} P f one xs ys a b h =
    let below : SwapsInRange (length xs) h.moves = subst (λ n. SwapsInRange n h.moves) (length-map xs f) h.below in
    let moved : IsPermutation xs (apply_swaps xs h.moves) = record { moves = h.moves; below = below; is = refl } in
    let kept : Each P (apply_swaps xs h.moves) = each_from_items P (apply_swaps xs h.moves)
    (item_from_all P (apply_swaps xs h.moves) (All-permutation P xs (apply_swaps xs h.moves) moved (all_from_items P xs (item_from_each P xs a)))) in
    record { moves = h.moves; below = below; is = one_list P f one ys (apply_swaps xs h.moves) b kept (h.is ∙ sym (swaps_map f xs h.moves)) }

-- ---- tables

one_column : (c d : Column) → c.not_null ≡ false → d.not_null ≡ false → class_column c ≡ class_column d → c ≡ d
one_column c d a b e =
    let name : c.name ≡ d.name = ap (λ (x : ClassColumn). x.name) e in
    let kind : c.kind ≡ d.kind = ap (λ (x : ClassColumn). x.kind) e in
    let not_null : c.not_null ≡ d.not_null = a ∙ sym b in
    λ i. record { name = name i; kind = kind i; not_null = not_null i }

-- the columns of a shape's table have no NOT NULL, and the cells of its rows are lawful
no_not_null : (p : PlainTable) → IsOfShape p → Each (λ (c : Column). c.not_null ≡ false) p.shape.columns
no_not_null p s = each_from_items (λ (c : Column). c.not_null ≡ false) p.shape.columns (λ c i. (s.columns c i).1)

lawful_row : (columns : List Column) (row : Row) → IsRowOf columns row → Each IsLawfulCell row
lawful_row [] [] h = tt
lawful_row [] (c ∷ cs) h = absurd h
lawful_row (x ∷ xs) [] h = absurd h
lawful_row (x ∷ xs) (None ∷ cs) h = (tt, lawful_row xs cs h.1)
lawful_row (x ∷ xs) (Some v ∷ cs) h = (h.0.1, lawful_row xs cs h.1)

lawful_rows : (p : PlainTable) → IsOfShape p → Each (Each IsLawfulCell) p.rows
lawful_rows p s = each_from_items (Each IsLawfulCell) p.rows (λ r i. lawful_row p.shape.columns r (item_from_each (IsRowOf p.shape.columns) p.rows s.rows r i))

same_plain : (a b : PlainTable) → IsOfShape a → IsOfShape b → SameTable (literal_table a) (literal_table b) → SamePlain a b
same_plain a b p q s = record {
  name = s.name;
  columns = one_list (λ (c : Column). c.not_null ≡ false) class_column one_column a.shape.columns b.shape.columns (no_not_null a p) (no_not_null b q) s.columns;
  rows = permutation_back (Each IsLawfulCell) (map (option_map value_text)) one_literal_row a.rows b.rows (lawful_rows a p) (lawful_rows b q) s.rows;
}

all_plain : (xs ys : List PlainTable) → ((x : PlainTable) → IsIn x xs → IsOfShape x) → ((y : PlainTable) → IsIn y ys → IsOfShape y) → AllZip SameTable (map literal_table xs) (map literal_table ys) → AllZip SamePlain xs ys
all_plain [] [] a b h = tt
all_plain [] (y ∷ ys) a b h = absurd h
all_plain (x ∷ xs) [] a b h = absurd h
all_plain (x ∷ xs) (y ∷ ys) a b h = (same_plain x y (a x (inl refl)) (b y (inl refl)) h.0, all_plain xs ys (λ z i. a z (inr i)) (λ z i. b z (inr i)) h.1)

-- the tables that a graph stands for are determined, up to the order of rows
pub stands_for_one : (base : List ℕ) → NamingLaws base → (G : List Statement) (xs ys : List PlainTable) → StandsFor base G xs → StandsFor base G ys → AllZip SamePlain xs ys
stands_for_one base laws G xs ys s r = all_plain xs ys s.of_shape.each r.of_shape.each (literals_once base laws G xs ys s r)
