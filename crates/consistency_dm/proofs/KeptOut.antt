-- The ranges of a property, found by halving.
use Rattle.std.proofs.Common.{◌≡◌, ◌∙◌, ℕ, ◌≤◌, ◌<◌, ◌-◌, List, length, get_or, Option, None, Some, Bool, true, false, not, ◌&&◌, refl, sym, ap, subst, inl, inr, ⊎_elim, arith, Ordering, Less, Equal, Greater, is_lt, is_le}
use Rattle.std.specs.Prelude.{◌↔◌}
use Rattle.std.specs.Cmp.{IsTotalOrder}
use Rattle.std.specs.Cmp.Lexicographic.{bytes_decides}
use Rattle.std.specs.List.Sorted.{IsPartitionedBy, IsPartitionPoint}
use Rattle.std.specs.Option.{option_cmp}
use Rattle.std.specs.Ordering.{ordering_then, ordering_reverse}
use Rattle.std.proofs.lemmas.Bool.{both_ways, cases_Bool, cases_lt}
use Rattle.std.proofs.lemmas.Cmp.{tied_itself}
use Rattle.std.proofs.lemmas.List.{get_or_default}
use Rattle.std.proofs.lemmas.List.Sorted.{ranks_by}
use Rattle.members_dm.specs.Membership.{IsIn}
use Rattle.members_dm.proofs.ElementsLemmas.{item_within}
use Rattle.members_dm.proofs.MembershipLemmas.{IsIn-map, map-IsIn}
use Rattle.members_dm.proofs.OrderLemmas.{not_lt_both}
use Rattle.members_dm.proofs.PositionLists.{place_of_item}
use Rattle.value_dm.specs.Order.{byte_cmp}
use Rattle.names_dm.specs.Statements.{Statement}
use Rattle.names_dm.specs.declared.literal.LiteralType.{LiteralType}
use Rattle.names_dm.specs.declared.literal.LiteralType.TheVariants.{Plain, Typed, Tagged}
use Rattle.names_dm.specs.declared.term.Term.{Term}
use Rattle.names_dm.specs.declared.term.Term.TheVariants as term
use Rattle.consistency_dm.specs.Ranges.{AreRangesOf, AreRising, Asks, IsKeptOut, asks_cmp, asks_of, datatype_of, has_datatype, is_let_in}
use Rattle.consistency_dm.specs.declared.range.StatedRange.{StatedRange}
use Rattle.consistency_dm.proofs.Texts.{byte_total, datatypes_total, datatype_ties, text_ties}

-- ---- orders

not_lt_first : (a b : Ordering) → is_lt (ordering_then a b) ≡ false → is_lt a ≡ false
not_lt_first Less b e = e
not_lt_first Equal b e = refl
not_lt_first Greater b e = refl

not_lt_second : (a b : Ordering) → a ≡ Equal → is_lt (ordering_then a b) ≡ false → is_lt b ≡ false
not_lt_second a b t e = ap (λ o. is_lt (ordering_then o b)) (sym t) ∙ e

le_reversed : (o : Ordering) → is_le (ordering_reverse o) ≡ not (is_lt o)
le_reversed Less = refl
le_reversed Equal = refl
le_reversed Greater = refl

le_from : (x y : List ℕ) → is_le (byte_cmp x y) ≡ not (is_lt (byte_cmp y x))
le_from x y = ap is_le (byte_total.antisymm x y) ∙ le_reversed (byte_cmp y x)

not_is_false : (b : Bool) → not b ≡ true → b ≡ false
not_is_false true e = cc e
not_is_false false e = refl

chain : (x y z : List ℕ) → is_lt (byte_cmp x y) ≡ false → is_lt (byte_cmp y z) ≡ false → is_lt (byte_cmp x z) ≡ false
chain = (ranks_by byte_total (λ (x : List ℕ). x)).chain

equal_from : {K : Type 0} (order : K → K → Ordering) → IsTotalOrder order → (x y : K) → is_lt (order x y) ≡ false → is_lt (order y x) ≡ false → order x y ≡ Equal
equal_from order total x y e f = not_lt_both (order x y) e (ap is_lt (sym (total.antisymm y x)) ∙ f)

-- ---- objects

one_datatype : (kind : LiteralType) (a b : List ℕ) → has_datatype kind a ≡ true → has_datatype kind b ≡ true → a ≡ b
one_datatype Plain a b e f = (bytes_decides _ _).0 e ∙ sym ((bytes_decides _ _).0 f)
one_datatype (Typed own) a b e f = (bytes_decides _ _).0 e ∙ sym ((bytes_decides _ _).0 f)
one_datatype (Tagged tag) a b e f = cc e

-- what lets an object in is the same always
one_demand : (o : Term) (a b : Option (List ℕ)) → is_let_in a o ≡ true → is_let_in b o ≡ true → a ≡ b
one_demand (term.Iri text) None None e f = refl
one_demand (term.Iri text) None (Some b) e f = cc f
one_demand (term.Iri text) (Some a) b e f = cc e
one_demand (term.Blank label) None None e f = refl
one_demand (term.Blank label) None (Some b) e f = cc f
one_demand (term.Blank label) (Some a) b e f = cc e
one_demand (term.Literal value) None b e f = cc e
one_demand (term.Literal value) (Some a) None e f = cc f
one_demand (term.Literal value) (Some a) (Some b) e f = ap (λ d. Some d) (one_datatype value.kind a b e f)

-- ---- the run of a property

module _ (ranges : List StatedRange) (rising : AreRising ranges) (p : List ℕ) where
  properties_rise : (i j : ℕ) (d : StatedRange) → i ≤ j → j < length ranges → is_lt (byte_cmp (get_or ranges j d).property.now (get_or ranges i d).property.now) ≡ false
  properties_rise i j d l m = not_lt_first _ _ (rising i j d l m)

  pub parted_below : IsPartitionedBy (λ (r : StatedRange). is_lt (byte_cmp r.property.now p)) ranges
  parted_below i j d l m e = elim (cases_Bool (is_lt (byte_cmp (get_or ranges i d).property.now p))) [
    | inl t ↦ t
    | inr f ↦ absurd (both_ways _ (chain (get_or ranges j d).property.now (get_or ranges i d).property.now p (properties_rise i j d l m) f) e)
  ]

  pub parted_upto : IsPartitionedBy (λ (r : StatedRange). is_le (byte_cmp r.property.now p)) ranges
  parted_upto i j d l m e =
      let low : is_lt (byte_cmp p (get_or ranges j d).property.now) ≡ false = not_is_false _ (sym (le_from (get_or ranges j d).property.now p) ∙ e) in
      le_from (get_or ranges i d).property.now p ∙ ap not (chain p (get_or ranges j d).property.now (get_or ranges i d).property.now low (properties_rise i j d l m))

  module _ (s e : ℕ) (high : e ≤ length ranges)
      (start : IsPartitionPoint (λ (r : StatedRange). is_lt (byte_cmp r.property.now p) ≡ true) (λ (r : StatedRange). is_lt (byte_cmp r.property.now p) ≡ false) ranges s)
      (end : IsPartitionPoint (λ (r : StatedRange). is_le (byte_cmp r.property.now p) ≡ true) (λ (r : StatedRange). is_le (byte_cmp r.property.now p) ≡ false) ranges e) where
    -- each that stands in the run is one of the property
    inside : (k : ℕ) (d : StatedRange) → s ≤ k → k < e → (get_or ranges k d).property.now ≡ p
    inside k d l m =
        let below : is_lt (byte_cmp (get_or ranges k d).property.now p) ≡ false = start.1 k d l (omega arith) in
        let upto : is_lt (byte_cmp p (get_or ranges k d).property.now) ≡ false = not_is_false _ (sym (le_from (get_or ranges k d).property.now p) ∙ end.0 k d (omega arith) m) in
        text_ties _ _ (equal_from byte_cmp byte_total (get_or ranges k d).property.now p below upto)

    -- and each of the property stands in the run
    place_in_run : (r : StatedRange) → IsIn r ranges → r.property.now ≡ p → (k : ℕ) × (k < length ranges) × (get_or ranges k r ≡ r) × (s ≤ k) × (k < e)
    place_in_run r i q =
        let (k, within, here) = place_of_item r ranges i in
        let same : byte_cmp (get_or ranges k r).property.now p ≡ Equal = ap (λ (z : StatedRange). byte_cmp z.property.now p) here ∙ ap (λ t. byte_cmp t p) q ∙ tied_itself byte_total p in (
          k,
          within,
          here,
          ⊎_elim (λ l. absurd (both_ways _ (ap is_lt same) (start.0 k r (omega arith) l))) (λ l. l) (cases_lt k s),
          ⊎_elim (λ l. l) (λ l. absurd (both_ways _ (end.1 k r l within) (ap is_le same))) (cases_lt k e),
        )

    pub none_in_run : e ≤ s → (r : StatedRange) → IsIn r ranges → ¬ (r.property.now ≡ p)
    none_in_run l r i q = let (k, within, here, low, up) = place_in_run r i q in let bad : ⊥ = omega arith in bad

    -- where the first and the last let an object in, all do
    all_let_in : (first last : StatedRange) (o : Term) → s < e → first ≡ get_or ranges s first → last ≡ get_or ranges (e - 1) last
        → is_let_in (datatype_of first.demand) o ≡ true → is_let_in (datatype_of last.demand) o ≡ true
        → (r : StatedRange) → IsIn r ranges → r.property.now ≡ p → is_let_in (datatype_of r.demand) o ≡ true
    all_let_in first last o l f g a b r i q =
        let (k, within, here, low, up) = place_in_run r i q in
        let at : (d : StatedRange) → get_or ranges k d ≡ r = λ d. get_or_default ranges k d r within ∙ here in
        let at_first : (d : StatedRange) → get_or ranges s d ≡ first = λ d. get_or_default ranges s d first (omega arith) ∙ sym f in
        let at_last : (d : StatedRange) → get_or ranges (e - 1) d ≡ last = λ d. get_or_default ranges (e - 1) d last (omega arith) ∙ sym g in
        let p_first : first.property.now ≡ p = ap (λ (z : StatedRange). z.property.now) (sym (at_first r)) ∙ inside s r (omega arith) l in
        let p_last : last.property.now ≡ p = ap (λ (z : StatedRange). z.property.now) (sym (at_last r)) ∙ inside (e - 1) r (omega arith) (omega arith) in
        let one : datatype_of first.demand ≡ datatype_of last.demand = one_demand o _ _ a b in
        let up_first : is_lt (option_cmp byte_cmp (datatype_of r.demand) (datatype_of first.demand)) ≡ false =
        not_lt_second (byte_cmp r.property.now first.property.now) _ (ap (λ t. byte_cmp t first.property.now) q ∙ ap (λ t. byte_cmp p t) p_first ∙ tied_itself byte_total p)
        (ap (λ (z : StatedRange). is_lt (asks_cmp (asks_of z) (asks_of first))) (sym (at r)) ∙ ap (λ (z : StatedRange). is_lt (asks_cmp (asks_of (get_or ranges k r)) (asks_of z))) (sym (at_first r)) ∙ rising s k r low within) in
        let up_last : is_lt (option_cmp byte_cmp (datatype_of last.demand) (datatype_of r.demand)) ≡ false =
        not_lt_second (byte_cmp last.property.now r.property.now) _ (ap (λ t. byte_cmp t r.property.now) p_last ∙ ap (λ t. byte_cmp p t) q ∙ tied_itself byte_total p)
        (ap (λ (z : StatedRange). is_lt (asks_cmp (asks_of z) (asks_of r))) (sym (at_last r)) ∙ ap (λ (z : StatedRange). is_lt (asks_cmp (asks_of (get_or ranges (e - 1) r)) (asks_of z))) (sym (at r)) ∙ rising k (e - 1) r (omega arith) (omega arith)) in
        let same : datatype_of r.demand ≡ datatype_of first.demand =
        datatype_ties _ _ (equal_from (option_cmp byte_cmp) datatypes_total (datatype_of r.demand) (datatype_of first.demand) up_first
        (ap (λ d. is_lt (option_cmp byte_cmp d (datatype_of r.demand))) one ∙ up_last)) in
        ap (λ d. is_let_in d o) same ∙ a

    module _ (triples : List Statement) (of : AreRangesOf triples ranges) (x : Statement) (is : x.predicate ≡ p) where
      pub kept_out_at : (k : ℕ) (r : StatedRange) → s ≤ k → k < e → r ≡ get_or ranges k r → is_let_in (datatype_of r.demand) x.object ≡ false → IsKeptOut triples x
      kept_out_at k r l m at refuses = (
        asks_of r,
        of.exact (asks_of r) (map-IsIn asks_of r ranges (subst (λ (z : StatedRange). IsIn z ranges) (sym at) (item_within ranges k r (omega arith)))),
        ap (λ (z : StatedRange). z.property.now) at ∙ inside k r l m ∙ sym is,
        refuses,
      )

      pub none_kept_out : ((r : StatedRange) → IsIn r ranges → r.property.now ≡ p → is_let_in (datatype_of r.demand) x.object ≡ true) → ¬ IsKeptOut triples x
      none_kept_out lets (a, i, q, refuses) =
          let (r, j, same) = IsIn-map asks_of a ranges (of.all a i) in
          both_ways _ (ap (λ (z : Asks). is_let_in z.datatype x.object) same ∙ refuses) (lets r j (ap (λ (z : Asks). z.property) same ∙ q ∙ is))

      pub none_kept_out_of : e ≤ s → ¬ IsKeptOut triples x
      none_kept_out_of l out = none_kept_out (λ r i q. absurd (none_in_run l r i q)) out

      pub kept_out_by_ends : (first last : StatedRange) (a b r : Bool) → s < e → first ≡ get_or ranges s first → last ≡ get_or ranges (e - 1) last
          → a ≡ is_let_in (datatype_of first.demand) x.object → b ≡ is_let_in (datatype_of last.demand) x.object → (r ≡ not (a && b)) → (r ≡ true) ↔ IsKeptOut triples x
      kept_out_by_ends first last true true r l f g h k t = (
        (λ u. cc (sym t ∙ u)),
        (λ out. absurd (none_kept_out (all_let_in first last x.object l f g (sym h) (sym k)) out)),
      )
      kept_out_by_ends first last true false r l f g h k t = ((λ u. kept_out_at (e - 1) last (omega arith) (omega arith) g (sym k)), (λ out. t))
      kept_out_by_ends first last false b r l f g h k t = ((λ u. kept_out_at s first (omega arith) l f (sym h)), (λ out. t))
