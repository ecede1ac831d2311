-- What readers of IRIs tell, in names that are good.
use Rattle.std.proofs.Common.{All, None, Some, ◌≡◌, ◌≢◌, ℕ, List, [], ◌∷◌, true, false, Bool, refl, sym, ap, ◌∙◌, inl, inr, IsTrue, ◌&&◌, ◌==◌, not}
use Rattle.std.specs.List.{list_all}
use Rattle.std.proofs.lemmas.Bool.{eq-eqb, eqb-true}
use Rattle.members_dm.specs.Membership.{IsIn}
use Rattle.value_dm.specs.Texts.{IsText}
use Rattle.schema_dm.specs.Naming.{Name}
use Rattle.names_dm.specs.Reading.{Tells, are_names, is_name, is_ref_name}
use Rattle.names_dm.specs.Names.{ref_iri}
use Rattle.names_dm.specs.declared.term.Term.TheVariants as term
use Rattle.members_dm.proofs.AnyLemmas.{item_from_all}
use Rattle.layouts_dm.proofs.Facts.{reference_iri}
use Rattle.names_dm.specs.declared.names.RefName.{RefName}
use Rattle.layouts_dm.specs.Layouts.{IsGoodName}
use Rattle.roles_dm.specs.Naming.{IsGoodReference, NamesReference}

both : (a b : Bool) → IsTrue (a && b) → IsTrue a × IsTrue b
both true b e = (refl, e)
both false b e = absurd (cc e)

and_both : (a b : Bool) → IsTrue a → IsTrue b → IsTrue (a && b)
and_both true b e f = f
and_both false b e f = e

turned : (b : Bool) → b ≡ false → IsTrue (not b)
turned true e = cc
turned false e = refl

turned_back : (b : Bool) → IsTrue (not b) → b ≡ true → ⊥
turned_back true e f = cc
turned_back false e f = cc

by_test : (b : Bool) → (b ≡ true → ⊥) → b ≡ false
by_test true h = absurd (h refl)
by_test false h = refl

pub named : (t : Name) → IsGoodName t → IsTrue (is_name t)
named [] good = absurd (good (inr tt))
named (c ∷ cs) good = turned (c == 65279) (by_test (c == 65279) (λ e. good (inr (eqb-true c 65279 e))))

pub good : (t : Name) → IsText t → IsTrue (is_name t) → IsGoodName t
good [] text name (inl h) = h text
good [] text name (inr h) = let e : false ≡ true = name in cc
good (c ∷ cs) text name (inl h) = h text
good (c ∷ cs) text name (inr h) = turned_back (c == 65279) name (eq-eqb c 65279 h)

-- ---- lists of names

all_named : (ts : List Name) → ((t : Name) → IsIn t ts → IsGoodName t) → IsTrue (list_all is_name ts)
all_named [] each = refl
all_named (t ∷ ts) each = and_both (is_name t) (list_all is_name ts) (named t (each t (inl refl))) (all_named ts (λ u h. each u (inr h)))

each_named : (ts : List Name) → IsTrue (list_all is_name ts) → (t : Name) → IsIn t ts → IsTrue (is_name t)
each_named [] h t there = absurd there
each_named (u ∷ ts) h t (inl e) = rw (← e) (both (is_name u) (list_all is_name ts) h).0
each_named (u ∷ ts) h t (inr e) = each_named ts (both (is_name u) (list_all is_name ts) h).1 t e

are_named : (ts : List Name) → ts ≢ [] → ((t : Name) → IsIn t ts → IsGoodName t) → IsTrue (are_names ts)
are_named [] some each = absurd (some refl)
are_named (t ∷ ts) some each = all_named (t ∷ ts) each

some_named : (ts : List Name) → IsTrue (are_names ts) → ts ≢ []
some_named [] h e = let f : false ≡ true = h in cc
some_named (t ∷ ts) h e = cc

each_of : (ts : List Name) → IsTrue (are_names ts) → (t : Name) → IsIn t ts → IsTrue (is_name t)
each_of [] h t there = absurd there
each_of (u ∷ ts) h t there = each_named (u ∷ ts) h t there

pub reference_test : (r : RefName) → IsGoodReference r → IsTrue (is_ref_name r)
reference_test r h = and_both (is_name r.table) (are_names r.columns) (named r.table h.0.0) (are_named r.columns h.1 h.0.1)

pub reference_good : (r : RefName) → IsText r.table → ((t : Name) → IsIn t r.columns → IsText t) → IsTrue (is_ref_name r) → IsGoodReference r
reference_good r table texts h =
    let k = both (is_name r.table) (are_names r.columns) h in
    ((good r.table table k.0, (λ t there. good t (texts t there) (each_of r.columns k.1 t there))), some_named r.columns k.1)

iri_of : (a b : List ℕ) → term.Iri a ≡ term.Iri b → a ≡ b
iri_of a b e = cc

-- the reference that the reader of IRIs tells
pub reference_missing : (base i : List ℕ) → Tells is_ref_name (ref_iri base) i None → NamesReference base (term.Iri i) None
reference_missing base i none r h e = none r (reference_test r h) (sym (reference_iri base r h.1) ∙ sym (iri_of _ _ e))

pub reference_found : (base i : List ℕ) (r : RefName) → Tells is_ref_name (ref_iri base) i (Some r) → IsText r.table → All IsText r.columns → NamesReference base (term.Iri i) (Some r)
reference_found base i r told table texts =
    let h = reference_good r table (item_from_all IsText r.columns texts) told.0 in
    (h, ap term.Iri (sym told.1 ∙ sym (reference_iri base r h.1)))
