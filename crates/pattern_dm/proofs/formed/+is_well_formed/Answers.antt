use Rattle.std.proofs.Common.{◌↔◌, IsTrue, subst, sym}
use Rattle.pattern_dm.specs.declared.pattern.Pattern.{Pattern}
use Rattle.pattern_dm.specs.Formed.{AreSelectable, IsWellFormed}
use Rattle.pattern_dm.proofs.FormedLemmas.{both_are, iff_along}
use Rattle.pattern_dm.proofs.Layers.{formed_and, formed_left, formed_union, formed_minus, formed_filter, formed_select}
use Rattle.pattern_dm.proofs.formed.+is_well_formed.Goals as goal

pub returns-in-And : goal.returns-in-And
returns-in-And t c =
    let p = c.in-And.left in
    let q = c.in-And.right in
    let P : Pattern → Type 0 = λ r. IsTrue c.both.result ↔ IsWellFormed r in
    subst P (sym c.in-And.is) (iff_along c.both.result _ (IsWellFormed p × IsWellFormed q) (formed_and p q)
    (both_are c.both.result c.is_well_formed.result c.is_well_formed-in-And.result (IsWellFormed p) (IsWellFormed q) c.both.ensures
    (subst (λ (r : Pattern). IsTrue c.is_well_formed.result ↔ IsWellFormed r) c.get.ensures c.is_well_formed.ensures) (subst (λ (r : Pattern). IsTrue c.is_well_formed-in-And.result ↔ IsWellFormed r) c.get-in-And.ensures c.is_well_formed-in-And.ensures)))

pub returns-in-LeftJoin : goal.returns-in-LeftJoin
returns-in-LeftJoin t c =
    let p = c.in-LeftJoin.left in
    let q = c.in-LeftJoin.right in
    let P : Pattern → Type 0 = λ r. IsTrue c.both-in-LeftJoin.result ↔ IsWellFormed r in
    subst P (sym c.in-LeftJoin.is) (iff_along c.both-in-LeftJoin.result _ (IsWellFormed p × IsWellFormed q) (formed_left p q c.in-LeftJoin.field-2)
    (both_are c.both-in-LeftJoin.result c.is_well_formed-in-LeftJoin.result c.is_well_formed-in-LeftJoin-2.result (IsWellFormed p) (IsWellFormed q) c.both-in-LeftJoin.ensures
    (subst (λ (r : Pattern). IsTrue c.is_well_formed-in-LeftJoin.result ↔ IsWellFormed r) c.get-in-LeftJoin.ensures c.is_well_formed-in-LeftJoin.ensures) (subst (λ (r : Pattern). IsTrue c.is_well_formed-in-LeftJoin-2.result ↔ IsWellFormed r) c.get-in-LeftJoin-2.ensures c.is_well_formed-in-LeftJoin-2.ensures)))

pub returns-in-Union : goal.returns-in-Union
returns-in-Union t c =
    let p = c.in-Union.left in
    let q = c.in-Union.right in
    let P : Pattern → Type 0 = λ r. IsTrue c.both-in-Union.result ↔ IsWellFormed r in
    subst P (sym c.in-Union.is) (iff_along c.both-in-Union.result _ (IsWellFormed p × IsWellFormed q) (formed_union p q)
    (both_are c.both-in-Union.result c.is_well_formed-in-Union.result c.is_well_formed-in-Union-2.result (IsWellFormed p) (IsWellFormed q) c.both-in-Union.ensures
    (subst (λ (r : Pattern). IsTrue c.is_well_formed-in-Union.result ↔ IsWellFormed r) c.get-in-Union.ensures c.is_well_formed-in-Union.ensures) (subst (λ (r : Pattern). IsTrue c.is_well_formed-in-Union-2.result ↔ IsWellFormed r) c.get-in-Union-2.ensures c.is_well_formed-in-Union-2.ensures)))

pub returns-in-Minus : goal.returns-in-Minus
returns-in-Minus t c =
    let p = c.in-Minus.left in
    let q = c.in-Minus.right in
    let P : Pattern → Type 0 = λ r. IsTrue c.both-in-Minus.result ↔ IsWellFormed r in
    subst P (sym c.in-Minus.is) (iff_along c.both-in-Minus.result _ (IsWellFormed p × IsWellFormed q) (formed_minus p q)
    (both_are c.both-in-Minus.result c.is_well_formed-in-Minus.result c.is_well_formed-in-Minus-2.result (IsWellFormed p) (IsWellFormed q) c.both-in-Minus.ensures
    (subst (λ (r : Pattern). IsTrue c.is_well_formed-in-Minus.result ↔ IsWellFormed r) c.get-in-Minus.ensures c.is_well_formed-in-Minus.ensures) (subst (λ (r : Pattern). IsTrue c.is_well_formed-in-Minus-2.result ↔ IsWellFormed r) c.get-in-Minus-2.ensures c.is_well_formed-in-Minus-2.ensures)))

pub returns-in-Filter : goal.returns-in-Filter
returns-in-Filter t c =
    let b = c.is_well_formed-in-Filter.result in
    let P : Pattern → Type 0 = λ r. IsTrue b ↔ IsWellFormed r in
    subst P (sym c.in-Filter.is) (iff_along b _ (IsWellFormed c.in-Filter.part) (formed_filter c.in-Filter.part c.in-Filter.field-1) (subst P c.get-in-Filter.ensures c.is_well_formed-in-Filter.ensures))

pub returns-in-Select : goal.returns-in-Select
returns-in-Select t c =
    let p = c.in-Select.part in
    let rs = c.in-Select.renames in
    let P : Pattern → Type 0 = λ r. IsTrue c.both-in-Select.result ↔ IsWellFormed r in
    subst P (sym c.in-Select.is) (iff_along c.both-in-Select.result _ (IsWellFormed p × AreSelectable rs) (formed_select p rs)
    (both_are c.both-in-Select.result c.is_well_formed-in-Select.result c.are_selectable.result (IsWellFormed p) (AreSelectable rs) c.both-in-Select.ensures
    (subst (λ (r : Pattern). IsTrue c.is_well_formed-in-Select.result ↔ IsWellFormed r) c.get-in-Select.ensures c.is_well_formed-in-Select.ensures)
    (subst (λ qs. IsTrue c.are_selectable.result ↔ AreSelectable qs) c.as_slice.ensures c.are_selectable.ensures)))
