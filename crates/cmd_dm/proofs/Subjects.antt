-- The subjects of a document's triples are no literals.
use Rattle.std.proofs.Common.{◌≡◌, ◌∙◌, ℕ, List, [], ◌∷◌, Option, Some, None, false, sym, ap, subst, inl, inr}
use Rattle.std.specs.Prelude.{option_to_list}
use Rattle.members_dm.specs.Membership.{IsIn}
use Rattle.members_dm.proofs.MembershipLemmas.{IsIn-append}
use Rattle.names_dm.specs.Statements.{Statement, is_literal}
use Rattle.names_dm.specs.declared.term.Term.{Term}
use Rattle.ntriples_reader_dm.specs.Document.{AreTriples}
use Rattle.ntriples_reader_dm.specs.Grammar.{IsLine, line, subject, triple}
use Rattle.ntriples_reader_dm.specs.Part.{optional}

subject_of_part : (ts rest : List ℕ) (s : Term) → subject ts rest s → is_literal s ≡ false
unfolding subject
subject_of_part ts rest s (inl h) = ap is_literal h.3.1
subject_of_part ts rest s (inr h) = ap is_literal h.3.1

subject_of_triple : (ts rest : List ℕ) (t : Statement) → triple ts rest t → is_literal t.subject ≡ false
unfolding triple
subject_of_triple ts rest t h = ap (λ (z : Statement). is_literal z.subject) h.3.3.3.3.3.3.3.1 ∙ subject_of_part ts h.0 h.1 h.2

subject_if_said : (ts rest : List ℕ) (x : Option Statement) (t : Statement) → optional triple ts rest x → x ≡ Some t → is_literal t.subject ≡ false
subject_if_said ts rest x t (inl h) e =
    let s : Some h.1 ≡ Some t = sym h.3.1 ∙ e in
    let same : h.1 ≡ t = cc in
    ap (λ (z : Statement). is_literal z.subject) (sym same) ∙ subject_of_triple ts h.0 h.1 h.2
subject_if_said ts rest x t (inr h) e = let s : ◌≡◌ {A = Option Statement} None (Some t) = sym h.1 ∙ e in cc

subject_of_line : (bytes : List ℕ) (x : Option Statement) (t : Statement) → IsLine bytes x → x ≡ Some t → is_literal t.subject ≡ false
unfolding line
subject_of_line bytes x t h e = subject_if_said h.1.0 h.1.3.0 h.1.3.1 t h.1.3.2 (sym h.1.3.3.3.3.1 ∙ e)

only_item : {X : Type 0} (o : Option X) (x : X) → IsIn x (option_to_list o) → o ≡ Some x
only_item None x h = absurd h
only_item (Some y) x (inl e) = ap (λ z. Some z) e
only_item (Some y) x (inr h) = absurd h

pub document_subjects : (ls : List (List ℕ)) (triples : List Statement) → AreTriples ls triples → (x : Statement) → IsIn x triples → is_literal x.subject ≡ false
document_subjects [] triples h x i = absurd (subst (λ (ts : List Statement). IsIn x ts) h i)
document_subjects (l ∷ ls) triples h x i =
    elim (IsIn-append x (option_to_list h.0) h.1 (subst (λ (ts : List Statement). IsIn x ts) h.4 i))
    [ inl k ↦ subject_of_line l h.0 x h.2 (only_item h.0 x k) | inr k ↦ document_subjects ls h.1 h.3 x k ]
