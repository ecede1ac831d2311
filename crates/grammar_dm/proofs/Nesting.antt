-- A part that nests, by how many levels deep it goes: as many levels as there are tokens are all levels.
use Rattle.std.proofs.Common.{◌≡◌, ℕ, Bool, List, [], ◌∷◌, Option, Some, None, Ok, Err, subst, inl, inr}
use Rattle.grammar_dm.specs.Part.{Part, Begins, never}
use Rattle.grammar_dm.specs.Part.Part.{token, then, levels}
use Rattle.grammar_dm.specs.Reading.{Answer, fault_at}
use Rattle.grammar_dm.proofs.Fronts.{nothing_begins}
use Rattle.grammar_dm.proofs.Laws.{Reads, Stands, token_reads}
use Rattle.grammar_dm.proofs.Choices.{Sub}

levels_stand : {T V : Type 0} (p : ℕ → Part T V) (n : ℕ) (ts : List T) (answer : Answer T V) → Stands (p n) ts answer → Stands (levels p) ts answer
levels_stand p n ts (Ok x) h = (n, h)
levels_stand p n ts (Err fault) h = ((n, h.0), λ e. (n, h.1 e))

pub levels_reads : {T V : Type 0} (p : ℕ → Part T V) (more : T → Bool) (n : ℕ) (ts : List T) (answer : Answer T V)
    → ((m : ℕ) → Sub (p m) (p n) ts) → Reads (p n) more ts answer → Reads (levels p) more ts answer
levels_reads p more n ts answer all h = record {
  stands = levels_stand p n ts answer h.stands;
  far = λ r b. h.far r ((all b.0).begins r b.1);
  only = λ r v s. h.only r v ((all s.0).spells r v s.1);
  marks = λ r m le. h.marks r ((all m.0).marks r m.1) le;
}

pub never_reads : {T V : Type 0} (more : T → Bool) (ts : List T) → Reads (never {T = T} {V = V}) more ts (fault_at ts)
never_reads {T} {V} more [] = token_reads (λ t. None) more []
never_reads {T} {V} more (t ∷ ts) = token_reads (λ t. None) more (t ∷ ts)

-- what begins with a token is nothing where there is none
pub nil_sub : {T A V : Type 0} (f : T → Option A) (b : A → Part T V) (q : Part T V) → Sub (then (token f) b) q []
nil_sub {T} f b q = record {
  spells = λ r v h. absurd (nil_cons h.2.0 h.0 h.2.1);
  begins = λ r. elim [
    | inl h ↦ elim h [ inl e ↦ subst (λ u. Begins q [] u) e (nothing_begins q []) | inr k ↦ absurd (nil_cons k.0 r k.1) ]
    | inr h ↦ absurd (nil_cons h.2.0 h.0 h.2.1)
  ];
  marks = λ r. elim [ inl h ↦ absurd h | inr h ↦ absurd (nil_cons h.2.0 h.0 h.2.1) ];
}
  where
    nil_cons : (t : T) (ts : List T) → [] ≡ t ∷ ts → ⊥
    nil_cons t ts e = absurd cc

pub never_sub : {T V : Type 0} (q : Part T V) (ts : List T) → Sub (never {T = T} {V = V}) q ts
never_sub {T} {V} q ts = record {
  spells = λ r v h. absurd (none_some v h.2);
  begins = λ r. elim [ inl e ↦ subst (λ u. Begins q ts u) e (nothing_begins q ts) | inr h ↦ absurd cc ];
  marks = λ r h. absurd h;
}
  where
    none_some : (v : V) → ◌≡◌ {A = Option V} None (Some v) → ⊥
    none_some v e = absurd cc
