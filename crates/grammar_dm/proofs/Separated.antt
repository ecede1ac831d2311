-- { a s } a is a { s a }.
use Rattle.std.proofs.Common.{◌≡◌, List, [], ◌∷◌, ◌++◌, refl, sym, ap, subst, inl, inr}
use Rattle.grammar_dm.specs.Part.{Part, Repeats, Spells, Begins, Marks, ended_by, separated_by}
use Rattle.grammar_dm.specs.Part.Part.{give, then}
use Rattle.grammar_dm.specs.Part.Repeats.{no_repeat, one_more}
use Rattle.grammar_dm.proofs.Fronts.{nothing_begins}
use Rattle.grammar_dm.proofs.Choices.{Same}

module _ {T A B : Type 0} (a : Part T A) (sep : Part T B) where
  abbrev closed : Part T A
  closed = then a (λ x. then sep (λ _. give x))

  abbrev behind : Part T A
  behind = then sep (λ _. a)

  abbrev whole : List T → List T → List A → Type 0
  whole ts r xs = Spells (separated_by a sep) ts r xs

  abbrev whole' : List T → List T → List A → Type 0
  whole' ts r xs = Spells (ended_by a sep) ts r xs

  -- ---- whole ones

  others_ended : {m r : List T} {xs : List A} → Repeats (Spells behind) m r xs → (ts : List T) (x : A) → Spells a ts m x → whole' ts r (x ∷ xs)
  others_ended {m} {r} no_repeat ts x p = (ts, [], no_repeat, (m, x, p, (refl, refl)))
  others_ended (one_more {ts = m} {mid = mid} {v = y} h t) ts x p =
      let k = others_ended t h.0 y h.3 in
      (k.0, x ∷ k.1, one_more (m, x, p, (h.0, h.1, h.2, (refl, refl))) k.2, (k.3.0, k.3.1, k.3.2, (k.3.3.0, ap (λ (vs : List A). x ∷ vs) k.3.3.1)))

  whole_ended : (ts r : List T) (xs : List A) → whole ts r xs → whole' ts r xs
  whole_ended ts r xs (m, x, p, (end, ys, t, (e, d))) =
      subst (λ (vs : List A). whole' ts r vs) (sym d) (subst (λ (u : List T). whole' ts u (x ∷ ys)) e (others_ended t ts x p))

  cons_whole : (ts m m2 r : List T) (x : A) (y : B) (xs : List A) → Spells a ts m x → Spells sep m m2 y → whole m2 r xs → whole ts r (x ∷ xs)
  cons_whole ts m m2 r x y xs p q (m3, x', p', (end, xs', t, (e, d))) =
      (m, x, p, (end, x' ∷ xs', one_more (m2, y, q, p') t, (e, ap (λ (vs : List A). x ∷ vs) d)))

  walk_whole : {ts mid : List T} {xs : List A} → Repeats (Spells closed) ts mid xs → (r : List T) (x : A) → Spells a mid r x → whole ts r (xs ++ x ∷ [])
  walk_whole no_repeat r x p = (r, x, p, (r, [], no_repeat, (refl, refl)))
  walk_whole (one_more {ts = ts} {mid = m3} {v = v} {vs = vs} h t) r x p =
      let k = walk_whole t r x p in
      subst (λ (w : A). whole ts r (w ∷ (vs ++ x ∷ []))) (sym h.3.3.1)
      (cons_whole ts h.0 h.3.0 r h.1 h.3.1 (vs ++ x ∷ []) h.2 h.3.2 (subst (λ (u : List T). whole u r (vs ++ x ∷ [])) (sym h.3.3.0) k))

  ended_whole : (ts r : List T) (xs : List A) → whole' ts r xs → whole ts r xs
  ended_whole ts r xs (mid, ys, t, (end, x, p, (e, d))) =
      subst (λ (vs : List A). whole ts r vs) (sym d) (subst (λ (u : List T). whole ts u (ys ++ x ∷ [])) e (walk_whole t end x p))

  -- ---- what begins them

  cons_ended : (ts m m2 r : List T) (x : A) (y : B) → Spells a ts m x → Spells sep m m2 y → Begins (ended_by a sep) m2 r → Begins (ended_by a sep) ts r
  cons_ended ts m m2 r x y p q (inl (mid, xs, t, b)) = inl (mid, x ∷ xs, one_more (m, x, p, (m2, y, q, (refl, refl))) t, b)
  cons_ended ts m m2 r x y p q (inr (mid, xs, t, b)) = inr (mid, x ∷ xs, one_more (m, x, p, (m2, y, q, (refl, refl))) t, b)

  cons_separated : (ts m m2 r : List T) (x : A) (y : B) → Spells a ts m x → Spells sep m m2 y → Begins (separated_by a sep) m2 r → Begins (separated_by a sep) ts r
  cons_separated ts m m2 r x y p q (inl b) = inr (m, x, p, inl (m, [], no_repeat, inr (m2, y, q, b)))
  cons_separated ts m m2 r x y p q (inr (m3, z, p', inl (mid, zs, t, b))) = inr (m, x, p, inl (mid, z ∷ zs, one_more (m2, y, q, p') t, b))
  cons_separated ts m m2 r x y p q (inr (m3, z, p', inr (mid, zs, t, e))) = inr (m, x, p, inr (mid, z ∷ zs, one_more (m2, y, q, p') t, e))

  last_ended : {m mid : List T} {xs : List A} → Repeats (Spells behind) m mid xs → (r ts : List T) (x : A) → Spells a ts m x → Begins behind mid r → Begins (ended_by a sep) ts r
  last_ended {m} no_repeat r ts x p (inl b) = inl (ts, [], no_repeat, inr (m, x, p, inl b))
  last_ended {m} no_repeat r ts x p (inr (m2, y, q, b)) = cons_ended ts m m2 r x y p q (inr (m2, [], no_repeat, inl b))
  last_ended (one_more {ts = m} {v = v} h t) r ts x p b = cons_ended ts m h.0 r x h.1 p h.2 (last_ended t r h.0 v h.3 b)

  all_ended : {m mid : List T} {xs : List A} → Repeats (Spells behind) m mid xs → (r ts : List T) (x : A) → Spells a ts m x → mid ≡ r → Begins (ended_by a sep) ts r
  all_ended {m} no_repeat r ts x p e = inr (ts, [], no_repeat, inr (m, x, p, e))
  all_ended (one_more {ts = m} {v = v} h t) r ts x p e = cons_ended ts m h.0 r x h.1 p h.2 (all_ended t r h.0 v h.3 e)

  begins_ended : (ts r : List T) → Begins (separated_by a sep) ts r → Begins (ended_by a sep) ts r
  begins_ended ts r (inl b) = inr (ts, [], no_repeat, inl b)
  begins_ended ts r (inr (m, x, p, inl (mid, xs, t, b))) = last_ended t r ts x p b
  begins_ended ts r (inr (m, x, p, inr (mid, xs, t, e))) = all_ended t r ts x p e

  first_separated : (ts r : List T) → Begins closed ts r → Begins (separated_by a sep) ts r
  first_separated ts r (inl b) = inl b
  first_separated ts r (inr (m, x, p, inl b)) = inr (m, x, p, inl (m, [], no_repeat, inl b))
  first_separated ts r (inr (m, x, p, inr (m2, y, q, e))) = inr (m, x, p, inl (m, [], no_repeat, inr (m2, y, q, subst (λ u. Begins a m2 u) e (nothing_begins a m2))))

  last_separated : (ts r : List T) (xs : List A) → Begins (then a (λ x. give (xs ++ x ∷ []))) ts r → Begins (separated_by a sep) ts r
  last_separated ts r xs (inl b) = inl b
  last_separated ts r xs (inr (m, x, p, e)) = inr (m, x, p, inr (m, [], no_repeat, e))

  walk_separated : {ts mid : List T} {xs : List A} → Repeats (Spells closed) ts mid xs → (r : List T) → Begins (separated_by a sep) mid r → Begins (separated_by a sep) ts r
  walk_separated no_repeat r b = b
  walk_separated (one_more {ts = ts} {mid = m3} h t) r b =
      cons_separated ts h.0 h.3.0 r h.1 h.3.1 h.2 h.3.2 (subst (λ (u : List T). Begins (separated_by a sep) u r) (sym h.3.3.0) (walk_separated t r b))

  begins_separated : (ts r : List T) → Begins (ended_by a sep) ts r → Begins (separated_by a sep) ts r
  begins_separated ts r (inl (mid, xs, t, b)) = walk_separated t r (first_separated mid r b)
  begins_separated ts r (inr (mid, xs, t, b)) = walk_separated t r (last_separated mid r xs b)

  -- ---- their marks

  cons_ended_marks : (ts m m2 r : List T) (x : A) (y : B) → Spells a ts m x → Spells sep m m2 y → Marks (ended_by a sep) m2 r → Marks (ended_by a sep) ts r
  cons_ended_marks ts m m2 r x y p q (inl (mid, xs, t, b)) = inl (mid, x ∷ xs, one_more (m, x, p, (m2, y, q, (refl, refl))) t, b)
  cons_ended_marks ts m m2 r x y p q (inr (mid, xs, t, b)) = inr (mid, x ∷ xs, one_more (m, x, p, (m2, y, q, (refl, refl))) t, b)

  cons_separated_marks : (ts m m2 r : List T) (x : A) (y : B) → Spells a ts m x → Spells sep m m2 y → Marks (separated_by a sep) m2 r → Marks (separated_by a sep) ts r
  cons_separated_marks ts m m2 r x y p q (inl b) = inr (m, x, p, inl (m, [], no_repeat, inr (m2, y, q, b)))
  cons_separated_marks ts m m2 r x y p q (inr (m3, z, p', inl (mid, zs, t, b))) = inr (m, x, p, inl (mid, z ∷ zs, one_more (m2, y, q, p') t, b))
  cons_separated_marks ts m m2 r x y p q (inr (m3, z, p', inr (mid, zs, t, e))) = absurd e

  last_ended_marks : {m mid : List T} {xs : List A} → Repeats (Spells behind) m mid xs → (r ts : List T) (x : A) → Spells a ts m x → Marks behind mid r → Marks (ended_by a sep) ts r
  last_ended_marks {m} no_repeat r ts x p (inl b) = inl (ts, [], no_repeat, inr (m, x, p, inl b))
  last_ended_marks {m} no_repeat r ts x p (inr (m2, y, q, b)) = cons_ended_marks ts m m2 r x y p q (inr (m2, [], no_repeat, inl b))
  last_ended_marks (one_more {ts = m} {v = v} h t) r ts x p b = cons_ended_marks ts m h.0 r x h.1 p h.2 (last_ended_marks t r h.0 v h.3 b)

  marks_ended : (ts r : List T) → Marks (separated_by a sep) ts r → Marks (ended_by a sep) ts r
  marks_ended ts r (inl b) = inr (ts, [], no_repeat, inl b)
  marks_ended ts r (inr (m, x, p, inl (mid, xs, t, b))) = last_ended_marks t r ts x p b
  marks_ended ts r (inr (m, x, p, inr (mid, xs, t, e))) = absurd e

  first_separated_marks : (ts r : List T) → Marks closed ts r → Marks (separated_by a sep) ts r
  first_separated_marks ts r (inl b) = inl b
  first_separated_marks ts r (inr (m, x, p, inl b)) = inr (m, x, p, inl (m, [], no_repeat, inl b))
  first_separated_marks ts r (inr (m, x, p, inr (m2, y, q, e))) = absurd e

  last_separated_marks : (ts r : List T) (xs : List A) → Marks (then a (λ x. give (xs ++ x ∷ []))) ts r → Marks (separated_by a sep) ts r
  last_separated_marks ts r xs (inl b) = inl b
  last_separated_marks ts r xs (inr (m, x, p, e)) = absurd e

  walk_separated_marks : {ts mid : List T} {xs : List A} → Repeats (Spells closed) ts mid xs → (r : List T) → Marks (separated_by a sep) mid r → Marks (separated_by a sep) ts r
  walk_separated_marks no_repeat r b = b
  walk_separated_marks (one_more {ts = ts} {mid = m3} h t) r b =
      cons_separated_marks ts h.0 h.3.0 r h.1 h.3.1 h.2 h.3.2 (subst (λ (u : List T). Marks (separated_by a sep) u r) (sym h.3.3.0) (walk_separated_marks t r b))

  marks_separated : (ts r : List T) → Marks (ended_by a sep) ts r → Marks (separated_by a sep) ts r
  marks_separated ts r (inl (mid, xs, t, b)) = walk_separated_marks t r (first_separated_marks mid r b)
  marks_separated ts r (inr (mid, xs, t, b)) = walk_separated_marks t r (last_separated_marks mid r xs b)

  pub separated_same : (ts : List T) → Same (separated_by a sep) (ended_by a sep) ts
  separated_same ts = record {
    to = record { spells = whole_ended ts; begins = begins_ended ts; marks = marks_ended ts };
    from = record { spells = ended_whole ts; begins = begins_separated ts; marks = marks_separated ts };
  }
