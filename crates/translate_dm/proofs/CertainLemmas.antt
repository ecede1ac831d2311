-- Attributes that are certain in both parts, and lists of names that are not empty.
use Rattle.std.proofs.Common.{◌≡◌, ◌∙◌, ◌↔◌, Bool, List, [], IsTrue, true, false, refl, sym, ⊎_elim}
use Rattle.std.specs.Prelude.{Any}
use Rattle.std.proofs.lemmas.Bool.{false≢true}
use Rattle.members_dm.specs.Membership.{IsIn}
use Rattle.members_dm.proofs.AnyLemmas.{any_from_item, item_from_any}
use Rattle.schema_dm.specs.Naming.{Name}
use Rattle.schema_dm.specs.Schemas.{IsSchema}
use Rattle.schema_dm.specs.declared.table.Table.{Table as SchemaTable}
use Rattle.algebra_dm.specs.Attributes.{HasAttribute, Lists}
use Rattle.algebra_dm.specs.Checking.{IsKnown}
use Rattle.algebra_dm.specs.Nodes.{IsWellFormed}
use Rattle.algebra_dm.specs.declared.known.Known.{Known}
use Rattle.algebra_dm.specs.declared.query.Mode.{Mode}
use Rattle.algebra_dm.specs.declared.query.Query.{Query}
use Rattle.query_rows_dm.proofs.EvaluationLemmas.{no_empty}
use Rattle.query_rows_dm.proofs.RowLemmas.{in_or_not}
use Rattle.translate_dm.specs.Translation.{AreAllCertain}

pub listed_named : (P : Name → Type 0) (names : List Name) → Lists P names → ¬ P [] → ¬ IsIn [] names
listed_named P names are n i = n ((are.exact []).0 i)

pub attribute_named : (tables : List SchemaTable) → IsSchema tables → (q : Query) → IsWellFormed tables q → ¬ HasAttribute tables q []
attribute_named tables schema q wf = no_empty tables schema q wf.names

not_true : (b : Bool) → (b ≡ true → ⊥) → b ≡ false
not_true false n = refl
not_true true n = absurd (n refl)

-- none of the names is missing among the others
none_lacking : (names others : List Name) (told : Bool) → (IsTrue told ↔ Any (λ a. ¬ IsIn a others) names) → (told ≡ false) ↔ ((a : Name) → IsIn a names → IsIn a others)
none_lacking names others told h = (
  (λ e a i. ⊎_elim (λ j. j) (λ n. absurd (false≢true (sym e ∙ h.1 (any_from_item (λ (b : Name). ¬ IsIn b others) a names i n)))) (in_or_not a others)),
  (λ all. not_true told (λ t. let found = item_from_any (λ (b : Name). ¬ IsIn b others) names (h.0 t) in found.2 (all found.0 found.1))),
)

pub certain_in_both : (mode : Mode) (tables : List SchemaTable) (p q : Query) (left right : Known) (one two both : Bool) → IsKnown mode tables p left → IsKnown mode tables q right
    → (IsTrue one ↔ Any (λ a. ¬ IsIn a left.certain) left.attributes) → (IsTrue two ↔ Any (λ a. ¬ IsIn a right.certain) left.attributes)
    → (IsTrue both ↔ ((one ≡ false) × (two ≡ false))) → IsTrue both ↔ AreAllCertain mode tables p q
certain_in_both mode tables p q left right one two both k l h m e =
    let in_left = none_lacking left.attributes left.certain one h in
    let in_right = none_lacking left.attributes right.certain two m in (
      (λ t a i. let j = (k.attributes.exact a).1 i in ((k.certain.exact a).0 (in_left.0 (e.0 t).0 a j), (l.certain.exact a).0 (in_right.0 (e.0 t).1 a j))),
      (λ each. e.1 (
        in_left.1 (λ a j. (k.certain.exact a).1 (each a ((k.attributes.exact a).0 j)).0),
        in_right.1 (λ a j. (l.certain.exact a).1 (each a ((k.attributes.exact a).0 j)).1),
      )),
    )
