-- The derived tests of equality say exactly whether two values are the same for contracts.
use Rattle.std.proofs.Common.{◌≡◌, ◌&&◌, Bool, true, false, nat_eq, refl, rules}
use Rattle.value_dm.specs.Equality.{DecidesEqual, numbers_decide}
use Rattle.std.specs.Cmp.Lexicographic.{pointwise}
use Rattle.names_dm.specs.declared.literal.LiteralType.{LiteralType}
use Rattle.names_dm.specs.declared.term.Term.{Term}
use Rattle.names_dm.specs.Literals.{LiteralValue}
use Rattle.names_dm.specs.Statements.{Statement}
use Rattle.names_dm.specs.contracts.literal.LiteralTypePartialEq.TheImpl.{eq-value as kinds_eq}
use Rattle.names_dm.specs.contracts.literal.LiteralPartialEq.TheImpl.{eq-value as literals_eq}
use Rattle.names_dm.specs.contracts.term.TermPartialEq.TheImpl.{eq-value as terms_eq}
use Rattle.names_dm.specs.contracts.triple.TriplePartialEq.TheImpl.{eq-value as triples_eq}

both : (a b : Bool) → (a && b) ≡ true → (a ≡ true) × (b ≡ true)
both true b e = (refl, e)
both false b e = cc e

same_kind : (a b : LiteralType) → kinds_eq.it a b ≡ true → a ≡ b
same_kind a b e = search rules

kind_self : (a : LiteralType) → kinds_eq.it a a ≡ true
kind_self a = search rules

same_literal : (a b : LiteralValue) → literals_eq.it a b ≡ true → a ≡ b
same_literal a b e = search rules

literal_self : (a : LiteralValue) → literals_eq.it a a ≡ true
literal_self a = search rules

same_term : (a b : Term) → terms_eq.it a b ≡ true → a ≡ b
same_term a b e = search rules

term_self : (a : Term) → terms_eq.it a a ≡ true
term_self a = search rules

same_triple : (a b : Statement) → triples_eq.it a b ≡ true → a ≡ b
same_triple a b e =
    let h : (terms_eq.it a.subject b.subject && (pointwise nat_eq a.predicate b.predicate && terms_eq.it a.object b.object)) ≡ true = e in
    let first = both (terms_eq.it a.subject b.subject) (pointwise nat_eq a.predicate b.predicate && terms_eq.it a.object b.object) h in
    let rest = both (pointwise nat_eq a.predicate b.predicate) (terms_eq.it a.object b.object) first.1 in
    let subject = same_term a.subject b.subject first.0 in
    let predicate = (numbers_decide a.predicate b.predicate).0 rest.0 in
    let object = same_term a.object b.object rest.1 in
    λ i. record { subject = subject i; predicate = predicate i; object = object i }

triple_self : (a : Statement) → triples_eq.it a a ≡ true
triple_self a = search rules

pub literal_types_decide : DecidesEqual kinds_eq.it
literal_types_decide a b = (same_kind a b, λ e. rw (← e) (kind_self a))

pub literals_decide : DecidesEqual literals_eq.it
literals_decide a b = (same_literal a b, λ e. rw (← e) (literal_self a))

pub terms_decide : DecidesEqual terms_eq.it
terms_decide a b = (same_term a b, λ e. rw (← e) (term_self a))

pub triples_decide : DecidesEqual triples_eq.it
triples_decide a b = (same_triple a b, λ e. rw (← e) (triple_self a))
