-- One answer comes of a graph.
use Rattle.std.proofs.Common.{◌≡◌, ℕ, zero, suc, ◌⊎◌, List, [], Some, Result, Ok, Err, refl, sym, ap, ◌∙◌, subst, inl, inr, slice_get, IfOk, IfErr, IsOk, IsErrOf, MatchResult}
use Rattle.names_dm.specs.Statements.{Statement}
use Rattle.facts_dm.specs.Meanings.{NamingLaws}
use Rattle.table_csv.specs.Plain.{PlainTable}
use Rattle.layouts_dm.specs.LayoutTables.{StandsFor}
use Rattle.layouts_dm.specs.Outcomes.{Applies, Cause, FirstBad}
use Rattle.layouts_dm.specs.Outcomes as cause
use Rattle.layouts_dm.proofs.Outcomes.{by_later, empty_stands_for_nothing, one_cause, stands_without_cause}
use Rattle.layouts_dm.proofs.Values.{stands_for_one}
use Rattle.inverse_dm.specs.Answers.{IsDetermined, IsFirstBadAt, Refuses, StandsForSuch, StandsWithin}
use Rattle.inverse_dm.specs.Limits.{Exceeds, IsWithinLimits}
use Rattle.inverse_dm.specs.declared.error.InverseError.{InverseError}
use Rattle.inverse_dm.specs.declared.error.InverseError.TheVariants.{NoTables, Unexplained, TwoValues, TwoTables, NoKeyValue, TooManyTables, TooManyColumns, TooManyRows, Memory}
use Rattle.inverse_dm.proofs.SameLimits.{exceeds_one, exceeds_same}

-- the error of a cause at a place
abbrev pub error_at : Cause → ℕ → InverseError
error_at cause.Unexplained place = Unexplained place
error_at cause.TwoValues place = TwoValues place
error_at cause.TwoTables place = TwoTables place
error_at cause.NoKeyValue place = NoKeyValue place

-- the tables are not within the limits where one is exceeded
within_none : (error : InverseError) (tables : List PlainTable) → IsWithinLimits tables → ¬ Exceeds error tables
within_none NoTables tables w h = h
within_none (Unexplained place) tables w h = h
within_none (TwoValues place) tables w h = h
within_none (TwoTables place) tables w h = h
within_none (NoKeyValue place) tables w h = h
within_none TooManyTables tables w h = w.few_tables h
within_none TooManyColumns tables w h = w.few_columns h.1
within_none TooManyRows tables w h = w.few_rows h.2
within_none Memory tables w h = h

nothing_at : (i : ℕ) (x : Statement) → ¬ (slice_get [] i ≡ Some x)
nothing_at zero x e = absurd cc
nothing_at (suc i) x e = absurd cc

module _ (base : List ℕ) (laws : NamingLaws base) (G : List Statement) where
  pub determined : (tables : List PlainTable) → StandsFor base G tables → IsDetermined base G tables
  determined tables s = λ others r. stands_for_one base laws G tables others s r

  such_tables : (error : InverseError) (tables : List PlainTable) → StandsFor base G tables → Exceeds error tables → StandsForSuch base G (Exceeds error)
  such_tables error tables s h = record {
    tables = tables;
    stands = s;
    such = λ others r. exceeds_same error tables others (stands_for_one base laws G tables others s r) (stands_for_one base laws G others tables r s) h;
  }

  -- a graph is refused for the limit that its tables exceed
  pub refuses_beyond : (error : InverseError) (tables : List PlainTable) → StandsFor base G tables → Exceeds error tables → Refuses base G error
  refuses_beyond NoTables tables s h = absurd h
  refuses_beyond (Unexplained place) tables s h = absurd h
  refuses_beyond (TwoValues place) tables s h = absurd h
  refuses_beyond (TwoTables place) tables s h = absurd h
  refuses_beyond (NoKeyValue place) tables s h = absurd h
  refuses_beyond TooManyTables tables s h = such_tables TooManyTables tables s h
  refuses_beyond TooManyColumns tables s h = such_tables TooManyColumns tables s h
  refuses_beyond TooManyRows tables s h = such_tables TooManyRows tables s h
  refuses_beyond Memory tables s h = absurd h

  -- the reason of a refusal, by sort
  abbrev Sort : InverseError → Type 0
  Sort error =
      ((error ≡ NoTables) × (G ≡ []))
      ⊎ (((i : ℕ) × (c : Cause) × (error ≡ error_at c (suc i)) × FirstBad base G i c)
      ⊎ StandsForSuch base G (Exceeds error))

  bad_sort : (error : InverseError) (place : ℕ) (c : Cause) → error ≡ error_at c place → IsFirstBadAt base G place c → Sort error
  bad_sort error place c e h = inr (inl (h.0, c, e ∙ ap (λ (n : ℕ). error_at c n) h.1, h.2))

  sort_of : (error : InverseError) → Refuses base G error → Sort error
  sort_of NoTables h = inl (refl, h)
  sort_of (Unexplained place) h = bad_sort (Unexplained place) place cause.Unexplained refl h
  sort_of (TwoValues place) h = bad_sort (TwoValues place) place cause.TwoValues refl h
  sort_of (TwoTables place) h = bad_sort (TwoTables place) place cause.TwoTables refl h
  sort_of (NoKeyValue place) h = bad_sort (NoKeyValue place) place cause.NoKeyValue refl h
  sort_of TooManyTables h = inr (inr h)
  sort_of TooManyColumns h = inr (inr h)
  sort_of TooManyRows h = inr (inr h)
  sort_of Memory h = absurd h

  -- no cause applies to a triple of no triples
  empty_none : G ≡ [] → (i : ℕ) (c : Cause) → ¬ Applies base G i c
  empty_none e i cause.Unexplained h = nothing_at i h.0 (sym (ap (λ (H : List Statement). slice_get H i) e) ∙ h.1)
  empty_none e i cause.TwoValues h = nothing_at i _ (sym (ap (λ (H : List Statement). slice_get H i) e) ∙ h.9)
  empty_none e i cause.TwoTables h = nothing_at i _ (sym (ap (λ (H : List Statement). slice_get H i) e) ∙ h.7)
  empty_none e i cause.NoKeyValue h = nothing_at i _ (sym (ap (λ (H : List Statement). slice_get H i) e) ∙ h.6)

  -- one triple is the first bad one, and for one cause
  one_first : (i j : ℕ) (c d : Cause) → FirstBad base G i c → FirstBad base G j d → error_at c (suc i) ≡ error_at d (suc j)
  one_first i j c d h k =
      by_later (error_at c (suc i) ≡ error_at d (suc j)) i j
      (λ below. absurd (k.before i c below h.applies))
      (λ below. absurd (h.before j d below k.applies))
      (λ same.
      let there : Applies base G j c = subst (λ (n : ℕ). Applies base G n c) same h.applies in
      let one : c ≡ d = one_cause base laws G j c d there k.applies in
      ap (λ (n : ℕ). error_at c (suc n)) same ∙ ap (λ (x : Cause). error_at x (suc j)) one)

  -- a graph is refused for one reason alone
  one_sort : (e f : InverseError) → Sort e → Sort f → e ≡ f
  one_sort e f (inl h) (inl k) = h.0 ∙ sym k.0
  one_sort e f (inl h) (inr (inl k)) = absurd (empty_none h.1 k.0 k.1 k.3.applies)
  one_sort e f (inl h) (inr (inr k)) = absurd (empty_stands_for_nothing base laws G k.tables h.1 k.stands)
  one_sort e f (inr (inl h)) (inl k) = absurd (empty_none k.1 h.0 h.1 h.3.applies)
  one_sort e f (inr (inl h)) (inr (inl k)) = h.2 ∙ one_first h.0 k.0 h.1 k.1 h.3 k.3 ∙ sym k.2
  one_sort e f (inr (inl h)) (inr (inr k)) = absurd (stands_without_cause base laws G k.tables k.stands h.0 h.1 h.3.applies)
  one_sort e f (inr (inr h)) (inl k) = absurd (empty_stands_for_nothing base laws G h.tables k.1 h.stands)
  one_sort e f (inr (inr h)) (inr (inl k)) = absurd (stands_without_cause base laws G h.tables h.stands k.0 k.1 k.3.applies)
  one_sort e f (inr (inr h)) (inr (inr k)) = exceeds_one e f h.tables (h.such h.tables h.stands) (k.such h.tables h.stands)

  pub refuses_one : (e f : InverseError) → Refuses base G e → Refuses base G f → e ≡ f
  refuses_one e f h k = one_sort e f (sort_of e h) (sort_of f k)

  no_stand : (error : InverseError) (tables : List PlainTable) → StandsWithin base G tables → ¬ Sort error
  no_stand error tables w (inl h) = empty_stands_for_nothing base laws G tables h.1 w.stands
  no_stand error tables w (inr (inl h)) = stands_without_cause base laws G tables w.stands h.0 h.1 h.3.applies
  no_stand error tables w (inr (inr h)) = within_none error tables w.limits (h.such tables w.stands)

  -- a graph that stands for tables within the limits isn't refused
  pub refuses_not : (error : InverseError) (tables : List PlainTable) → StandsWithin base G tables → ¬ Refuses base G error
  refuses_not error tables w h = no_stand error tables w (sort_of error h)

  -- tables are what the graph stands for once they are within the limits, or the graph is refused for a limit
  abbrev Limited : List PlainTable → Result (List PlainTable) InverseError → Type 0
  Limited made result = MatchResult result (λ tables. (tables ≡ made) × IsWithinLimits made) (λ error. (error ≡ Memory) ⊎ Exceeds error made)

  pub limited_ok : (made : List PlainTable) (result : Result (List PlainTable) InverseError) → StandsFor base G made → Limited made result → IfOk result (λ tables. StandsWithin base G tables)
  limited_ok made (Ok tables) s h = subst (λ (t : List PlainTable). StandsWithin base G t) (sym h.0) (record { stands = s; limits = h.1 })
  limited_ok made (Err error) s h = tt

  pub limited_err : (made : List PlainTable) (result : Result (List PlainTable) InverseError) → StandsFor base G made → Limited made result → IfErr result (λ error. (error ≡ Memory) ⊎ Refuses base G error)
  limited_err made (Ok tables) s h = tt
  limited_err made (Err error) s (inl memory) = inl memory
  limited_err made (Err error) s (inr beyond) = inr (refuses_beyond error made s beyond)

  abbrev Answer : Type 0
  Answer = Result (List PlainTable) InverseError

  -- the answer is a right one, or want of memory
  abbrev pub IsRight : Answer → Type 0
  IsRight (Ok tables) = StandsWithin base G tables
  IsRight (Err error) = (error ≡ Memory) ⊎ Refuses base G error

  right_is : (result : Answer) → IfOk result (λ tables. StandsWithin base G tables) → IfErr result (λ error. (error ≡ Memory) ⊎ Refuses base G error) → IsRight result
  right_is (Ok tables) ok err = ok
  right_is (Err error) ok err = err

  by_refused : (result : Answer) → IsRight result → (error : InverseError) → Refuses base G error → IsErrOf result error ⊎ IsErrOf result Memory
  by_refused (Ok tables) right error h = absurd (refuses_not error tables right h)
  by_refused (Err other) (inl memory) error h = inr (ap Err memory)
  by_refused (Err other) (inr reason) error h = inl (ap Err (refuses_one other error reason h))

  by_accepted : (result : Answer) → IsRight result → (tables : List PlainTable) → StandsWithin base G tables → IsOk result ⊎ IsErrOf result Memory
  by_accepted (Ok others) right tables w = inl refl
  by_accepted (Err other) (inl memory) tables w = inr (ap Err memory)
  by_accepted (Err other) (inr reason) tables w = absurd (refuses_not other tables w reason)

  pub refused : (result : Answer) → IfOk result (λ tables. StandsWithin base G tables) → IfErr result (λ error. (error ≡ Memory) ⊎ Refuses base G error)
      → (error : InverseError) → Refuses base G error → IsErrOf result error ⊎ IsErrOf result Memory
  refused result ok err = by_refused result (right_is result ok err)

  pub accepted : (result : Answer) → IfOk result (λ tables. StandsWithin base G tables) → IfErr result (λ error. (error ≡ Memory) ⊎ Refuses base G error)
      → (tables : List PlainTable) → StandsWithin base G tables → IsOk result ⊎ IsErrOf result Memory
  accepted result ok err = by_accepted result (right_is result ok err)

  pub determined_of : (result : Answer) → IfOk result (λ tables. StandsWithin base G tables) → IfOk result (λ tables. IsDetermined base G tables)
  determined_of (Ok tables) w = determined tables w.stands
  determined_of (Err error) w = tt
