-- The plain table of a binary relation.
use Rattle.std.proofs.Common.{◌≡◌, ◌⊎◌, ℕ, zero, suc, ◌<◌, Bool, true, false, List, [], ◌∷◌, map, length, refl, sym, ap, ◌∙◌, subst, inl, inr, arith, Some}
use Rattle.std.specs.Prelude.{slice_get}
use Rattle.std.specs.List.{AllZip}
use Rattle.members_dm.specs.Membership.{IsIn, IsRising, NoRepeats}
use Rattle.schema_dm.specs.Naming.{Name}
use Rattle.schema_dm.specs.Shapes.{IsBefore}
use Rattle.schema_dm.specs.declared.draft.Column.{Column}
use Rattle.schema_dm.specs.declared.table.Table.{Table}
use Rattle.table_csv.specs.Plain.{IsColumnAt, plain_column}
use Rattle.layouts_dm.specs.LayoutTables.{class_column, in_order, is_before}
use Rattle.layouts_dm.proofs.Sorting.{before_false, before_true}
use Rattle.graph_layouts_dm.proofs.Plains.{column_at}

pub two_places : (places : List ℕ) → length places ≡ 2 → NoRepeats places → ((p : ℕ) → IsIn p places → p < 2) → (places ≡ 0 ∷ 1 ∷ []) ⊎ (places ≡ 1 ∷ 0 ∷ [])
two_places [] e once below = absurd (omega arith)
two_places (p ∷ []) e once below = absurd (omega arith)
two_places (p ∷ q ∷ r ∷ places) e once below = absurd (omega arith)
two_places (zero ∷ zero ∷ []) e once below = absurd (once.0 (inl refl))
two_places (zero ∷ suc zero ∷ []) e once below = inl refl
two_places (suc zero ∷ zero ∷ []) e once below = inr refl
two_places (suc zero ∷ suc zero ∷ []) e once below = absurd (once.0 (inl refl))
two_places (zero ∷ suc (suc q) ∷ []) e once below = (let l : suc (suc q) < 2 = below (suc (suc q)) (inr (inl refl)) in absurd (omega arith))
two_places (suc zero ∷ suc (suc q) ∷ []) e once below = (let l : suc (suc q) < 2 = below (suc (suc q)) (inr (inl refl)) in absurd (omega arith))
two_places (suc (suc p) ∷ q ∷ []) e once below = (let l : suc (suc p) < 2 = below (suc (suc p)) (inl refl) in absurd (omega arith))

unsome : {X : Type 0} (x y : X) → Some x ≡ Some y → x ≡ y
unsome x y e = cc

module _ (table : Table) (c d : Column) (first : slice_get table.columns 0 ≡ Some c) (second : slice_get table.columns 1 ≡ Some d) where
  column_is : (p : ℕ) (x e : Column) → slice_get table.columns p ≡ Some e → IsColumnAt table p x → x ≡ plain_column e
  column_is p x e at h = let f = column_at table p x h in sym f.2 ∙ ap plain_column (unsome f.0 e (sym f.1 ∙ at))

  -- the two columns of a relation in the order of their names
  pub order_of : (places : List ℕ) (columns : List Column) → AllZip (IsColumnAt table) places columns → IsRising IsBefore (map (λ (x : Column). x.name) columns)
      → (places ≡ 0 ∷ 1 ∷ []) ⊎ (places ≡ 1 ∷ 0 ∷ []) → map class_column columns ≡ in_order (is_before c.name d.name) (class_column c) (class_column d)
  order_of places columns zip rise (inl e) = go columns (subst (λ ps. AllZip (IsColumnAt table) ps columns) e zip) rise
    where
      go : (columns : List Column) → AllZip (IsColumnAt table) (0 ∷ 1 ∷ []) columns → IsRising IsBefore (map (λ (x : Column). x.name) columns) → map class_column columns ≡ in_order (is_before c.name d.name) (class_column c) (class_column d)
      go [] h r = absurd h
      go (x ∷ []) h r = absurd h.1
      go (x ∷ y ∷ z ∷ zs) h r = absurd h.1.1
      go (x ∷ y ∷ []) h r =
          let a = column_is 0 x c first h.0 in
          let b = column_is 1 y d second h.1.0 in
          let before : IsBefore c.name d.name = subst (λ (n : Name). IsBefore n d.name) (ap (λ (w : Column). w.name) a) (subst (λ (n : Name). IsBefore x.name n) (ap (λ (w : Column). w.name) b) (r.0 y.name (inl refl))) in
          (λ i. class_column (a i) ∷ class_column (b i) ∷ []) ∙ ap (λ f. in_order f (class_column c) (class_column d)) (sym (before_true c.name d.name before))
  order_of places columns zip rise (inr e) = go columns (subst (λ ps. AllZip (IsColumnAt table) ps columns) e zip) rise
    where
      go : (columns : List Column) → AllZip (IsColumnAt table) (1 ∷ 0 ∷ []) columns → IsRising IsBefore (map (λ (x : Column). x.name) columns) → map class_column columns ≡ in_order (is_before c.name d.name) (class_column c) (class_column d)
      go [] h r = absurd h
      go (x ∷ []) h r = absurd h.1
      go (x ∷ y ∷ z ∷ zs) h r = absurd h.1.1
      go (x ∷ y ∷ []) h r =
          let a = column_is 1 x d second h.0 in
          let b = column_is 0 y c first h.1.0 in
          let before : IsBefore d.name c.name = subst (λ (n : Name). IsBefore n c.name) (ap (λ (w : Column). w.name) a) (subst (λ (n : Name). IsBefore x.name n) (ap (λ (w : Column). w.name) b) (r.0 y.name (inl refl))) in
          (λ i. class_column (a i) ∷ class_column (b i) ∷ []) ∙ ap (λ f. in_order f (class_column c) (class_column d)) (sym (before_false c.name d.name before))

pub map_in_order : {X Y : Type 0} (f : X → Y) (b : Bool) (x y : X) → map f (in_order b x y) ≡ in_order b (f x) (f y)
map_in_order f true x y = refl
map_in_order f false x y = refl
