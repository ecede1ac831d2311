-- Which rows violate a key can be told.
use Rattle.std.proofs.Common.{◌≡◌, ◌⊎◌, ◌+◌, ℕ, zero, suc, ◌<◌, Bool, true, false, List, [], ◌∷◌, length, refl, sym, ◌∙◌, subst, inl, inr, arith, Some, None, Option}
use Rattle.std.specs.Prelude.{◌≢◌, ◌↔◌, slice_get}
use Rattle.std.specs.Option.{option_eq}
use Rattle.std.proofs.lemmas.Bool.{cases_lt, cases_Bool}
use Rattle.std.proofs.lemmas.Bool.Decides.{eqb_tells}
use Rattle.value_dm.specs.Equality.{DecidesEqual, lists_decide}
use Rattle.value_dm.specs.ValueEquality.{values_decide}
use Rattle.value_dm.specs.contracts.value.ValuePartialEq.TheImpl.{eq-value}
use Rattle.members_dm.specs.Membership.{IsIn}
use Rattle.schema_dm.specs.Sameness.{options_decide}
use Rattle.schema_dm.specs.Schemas.{table_at}
use Rattle.schema_dm.specs.declared.table.ForeignKey.{ForeignKey}
use Rattle.table_csv.specs.Cells.{Cell, Row, cells_at}
use Rattle.table_csv.specs.Databases.{Data, rows_at}
use Rattle.keys_dm.specs.KeyCells.{IsRowWith, row_at}
use Rattle.keys_dm.specs.Violations.{IsDangling, IsRepeated, Violates}
use Rattle.keys_dm.specs.declared.violation.ViolationKind.{ViolationKind}
use Rattle.keys_dm.specs.declared.violation.ViolationKind.TheVariants.{NullKey, RepeatedKey, RepeatedUnique, Dangling}
use Rattle.graphs_dm.specs.Nodes.{same_cells}
use Rattle.graphs_dm.specs.RowFacts.{References}

-- it holds or it doesn't
abbrev pub Told : Type 0 → Type 0
Told P = P ⊎ (¬ P)

abbrev pub flag : {P : Type 0} → Told P → Bool
flag (inl p) = true
flag (inr n) = false

pub flag_is : {P : Type 0} (told : Told P) → (flag told ≡ true) ↔ P
flag_is (inl p) = ((λ e. p), (λ q. refl))
flag_is (inr n) = ((λ e. absurd (let f : false ≡ true = e in cc)), (λ q. absurd (n q)))

pub told_both : {P Q : Type 0} → Told P → Told Q → Told (P × Q)
told_both (inl p) (inl q) = inl (p, q)
told_both (inl p) (inr n) = inr (λ h. n h.1)
told_both (inr n) q = inr (λ h. n h.0)

pub told_not : {P : Type 0} → Told P → Told (¬ P)
told_not (inl p) = inr (λ n. n p)
told_not (inr n) = inl n

pub told_below : (n : ℕ) (P : ℕ → Type 0) → ((j : ℕ) → Told (P j)) → Told ((j : ℕ) × (j < n) × P j)
told_below zero P told = inr (λ h. let l = h.1 in omega arith)
told_below (suc n) P told = elim (told n) [
  | inl p ↦ inl (n, omega arith, p)
  | inr not_here ↦ elim (told_below n P told) [
    | inl h ↦ (let l = h.1 in inl (h.0, omega arith, h.2))
    | inr none ↦ inr (λ h. elim (eqb_tells h.0 n) [ inl e ↦ not_here (subst P e.1 h.2) | inr e ↦ none (h.0, omega (arith, h.1, e.1), h.2) ])
  ]
]

unsome : {X : Type 0} (x y : X) → Some x ≡ Some y → x ≡ y
unsome x y e = cc

pub told_item : {X : Type 0} (xs : List X) (P : X → Type 0) → ((x : X) → Told (P x)) → Told ((k : ℕ) × (x : X) × (slice_get xs k ≡ Some x) × P x)
told_item [] P told = inr (λ h. let e : None ≡ Some h.1 = h.2 in cc)
told_item {X} (x ∷ xs) P told = elim (told x) [
  | inl p ↦ inl (0, x, refl, p)
  | inr not_here ↦ elim (told_item xs P told) [
    | inl h ↦ inl (suc h.0, h.1, h.2, h.3)
    | inr none ↦ inr (λ h. go not_here none h.0 h.1 h.2 h.3)
  ]
]
  where
    go : (¬ P x) → (¬ ((k : ℕ) × (y : X) × (slice_get xs k ≡ Some y) × P y)) → (k : ℕ) (y : X) → slice_get (x ∷ xs) k ≡ Some y → P y → ⊥
    go other none zero y e p = other (subst P (sym (unsome x y e)) p)
    go other none (suc k) y e p = none (k, y, e, p)

-- ---- cells

pub told_null : (cells : List Cell) → Told (IsIn None cells)
told_null [] = inr (λ h. h)
told_null (None ∷ cells) = inl (inl refl)
told_null (Some v ∷ cells) = elim (told_null cells) [ inl h ↦ inl (inr h) | inr n ↦ inr (λ h. elim h [ inl e ↦ (let f : Some v ≡ None = e in cc) | inr k ↦ n k ]) ]

cells_decide : DecidesEqual {K = List Cell} same_cells
cells_decide = lists_decide {test = option_eq eq-value.it} (options_decide values_decide)

told_cells : (a b : List Cell) → Told (a ≡ b)
told_cells a b = elim (cases_Bool (same_cells a b)) [
  | inl h ↦ inl ((cells_decide a b).0 h)
  | inr h ↦ inr (λ e. let f : true ≡ false = sym ((cells_decide a b).1 e) ∙ h in cc)
]

told_lt : (i n : ℕ) → Told (i < n)
told_lt i n = elim (cases_lt i n) [ inl l ↦ inl l | inr l ↦ inr (λ h. omega (arith, h, l)) ]

told_row : (rows : List Row) (places : List ℕ) (key : List Cell) (j : ℕ) → Told (IsRowWith rows places key j)
told_row rows places key j = told_both (told_lt j (length rows)) (told_cells (cells_at places (row_at rows j)) key)

pub told_match : (D : Data) (t i j : ℕ) (key : ForeignKey) → Told (References D t i key j)
told_match D t i j key = told_both (told_not (told_null (cells_at key.columns (row_at (rows_at D.rows t) i)))) (told_row (rows_at D.rows key.target) key.target_columns (cells_at key.columns (row_at (rows_at D.rows t) i)) j)

told_apart : (j i : ℕ) → Told (j ≢ i)
told_apart j i = elim (eqb_tells j i) [ inl e ↦ inr (λ n. n e.1) | inr e ↦ inl e.1 ]

told_repeated : (rows : List Row) (places : List ℕ) (i : ℕ) → Told (IsRepeated rows places i)
told_repeated rows places i =
    told_both (told_not (told_null (cells_at places (row_at rows i))))
    (elim (told_below (length rows) (λ j. (j ≢ i) × IsRowWith rows places (cells_at places (row_at rows i)) j) (λ j. told_both (told_apart j i) (told_row rows places (cells_at places (row_at rows i)) j))) [
      | inl h ↦ inl (h.0, h.2.0, h.2.1)
      | inr n ↦ inr (λ h. n (h.0, h.2.0, (h.1, h.2)))
    ])

told_dangling : (targets : List Row) (key : ForeignKey) (row : Row) → Told (IsDangling targets key row)
told_dangling targets key row =
    told_both (told_not (told_null (cells_at key.columns row)))
    (elim (told_below (length targets) (λ j. IsRowWith targets key.target_columns (cells_at key.columns row) j) (told_row targets key.target_columns (cells_at key.columns row))) [
      | inl h ↦ inr (λ n. n h.0 h.2)
      | inr n ↦ inl (λ j h. n (j, h.0, h))
    ])

-- ---- violations

told_primary : (primary : Option (List ℕ)) (P : List ℕ → Type 0) → ((places : List ℕ) → Told (P places)) → Told ((places : List ℕ) × (primary ≡ Some places) × P places)
told_primary None P told = inr (λ h. let e : None ≡ Some h.0 = h.1 in cc)
told_primary (Some places) P told = elim (told places) [
  | inl p ↦ inl (places, refl, p)
  | inr n ↦ inr (λ h. n (subst P (sym (unsome places h.0 h.1)) h.2))
]

pub told_violates : (D : Data) (t i : ℕ) → Told ((kind : ViolationKind) × Violates D t i kind)
told_violates D t i = elim (told_primary (table_at D.tables t).primary (λ places. IsIn None (cells_at places (row_at (rows_at D.rows t) i))) (λ places. told_null (cells_at places (row_at (rows_at D.rows t) i)))) [
  | inl h ↦ inl (NullKey, h)
  | inr no_null ↦ elim (told_primary (table_at D.tables t).primary (λ places. IsRepeated (rows_at D.rows t) places i) (λ places. told_repeated (rows_at D.rows t) places i)) [
    | inl h ↦ inl (RepeatedKey, h)
    | inr no_repeat ↦ elim (told_item (table_at D.tables t).uniques (λ places. IsRepeated (rows_at D.rows t) places i) (λ places. told_repeated (rows_at D.rows t) places i)) [
      | inl h ↦ inl (RepeatedUnique (h.0 + 1), (h.1, (h.0, refl, h.2), h.3))
      | inr no_unique ↦ elim (told_item (table_at D.tables t).foreign (λ key. IsDangling (rows_at D.rows key.target) key (row_at (rows_at D.rows t) i)) (λ key. told_dangling (rows_at D.rows key.target) key (row_at (rows_at D.rows t) i))) [
        | inl h ↦ inl (Dangling (h.0 + 1), (h.1, (h.0, refl, h.2), h.3))
        | inr no_dangling ↦ inr (λ h. none no_null no_repeat no_unique no_dangling h.0 h.1)
      ]
    ]
  ]
]
  where
    none : (¬ ((places : List ℕ) × ((table_at D.tables t).primary ≡ Some places) × IsIn None (cells_at places (row_at (rows_at D.rows t) i))))
        → (¬ ((places : List ℕ) × ((table_at D.tables t).primary ≡ Some places) × IsRepeated (rows_at D.rows t) places i))
        → (¬ ((k : ℕ) × (places : List ℕ) × (slice_get (table_at D.tables t).uniques k ≡ Some places) × IsRepeated (rows_at D.rows t) places i))
        → (¬ ((k : ℕ) × (key : ForeignKey) × (slice_get (table_at D.tables t).foreign k ≡ Some key) × IsDangling (rows_at D.rows key.target) key (row_at (rows_at D.rows t) i)))
        → (kind : ViolationKind) → Violates D t i kind → ⊥
    none a b c d NullKey h = a h
    none a b c d RepeatedKey h = b h
    none a b c d (RepeatedUnique number) h = c (h.1.0, h.0, h.1.2, h.2)
    none a b c d (Dangling number) h = d (h.1.0, h.0, h.1.2, h.2)
