-- Parts that are the same, written otherwise: equations of grammars, for what is a part, what begins it and
-- what its marks are.
use Rattle.std.proofs.Common.{List, Some, None, refl, sym, subst, inl, inr}
use Rattle.grammar_dm.specs.Part.{Part, Spells, Begins, Marks}
use Rattle.grammar_dm.specs.Part.Part.{then, or, optional}
use Rattle.grammar_dm.proofs.Choices.{Sub, Same}

-- ---- one way

pub self_sub : {T V : Type 0} (p : Part T V) (ts : List T) → Sub p p ts
self_sub p ts = record { spells = λ r v h. h; begins = λ r h. h; marks = λ r h. h }

pub sub_trans : {T V : Type 0} (p q s : Part T V) (ts : List T) → Sub p q ts → Sub q s ts → Sub p s ts
sub_trans p q s ts a b = record {
  spells = λ r v h. b.spells r v (a.spells r v h);
  begins = λ r h. b.begins r (a.begins r h);
  marks = λ r h. b.marks r (a.marks r h);
}

pub then_sub : {T A B : Type 0} (a c : Part T A) (b d : A → Part T B) (ts : List T) → Sub a c ts → ((x : A) (mid : List T) → Spells a ts mid x → Sub (b x) (d x) mid) → Sub (then a b) (then c d) ts
then_sub a c b d ts first second = record {
  spells = λ r v h. (h.0, h.1, first.spells h.0 h.1 h.2, (second h.1 h.0 h.2).spells r v h.3);
  begins = λ r. elim [
    | inl h ↦ inl (first.begins r h)
    | inr h ↦ inr (h.0, h.1, first.spells h.0 h.1 h.2, (second h.1 h.0 h.2).begins r h.3)
  ];
  marks = λ r. elim [
    | inl h ↦ inl (first.marks r h)
    | inr h ↦ inr (h.0, h.1, first.spells h.0 h.1 h.2, (second h.1 h.0 h.2).marks r h.3)
  ];
}

pub or_sub : {T V : Type 0} (a b c d : Part T V) (ts : List T) → Sub a c ts → Sub b d ts → Sub (or a b) (or c d) ts
or_sub a b c d ts first second = record {
  spells = λ r v. elim [ inl h ↦ inl (first.spells r v h) | inr h ↦ inr (second.spells r v h) ];
  begins = λ r. elim [ inl h ↦ inl (first.begins r h) | inr h ↦ inr (second.begins r h) ];
  marks = λ r. elim [ inl h ↦ inl (first.marks r h) | inr h ↦ inr (second.marks r h) ];
}

-- both alternatives are the part
pub both_sub : {T V : Type 0} (a b q : Part T V) (ts : List T) → Sub a q ts → Sub b q ts → Sub (or a b) q ts
both_sub a b q ts first second = record {
  spells = λ r v. elim [ inl h ↦ first.spells r v h | inr h ↦ second.spells r v h ];
  begins = λ r. elim [ inl h ↦ first.begins r h | inr h ↦ second.begins r h ];
  marks = λ r. elim [ inl h ↦ first.marks r h | inr h ↦ second.marks r h ];
}

-- ---- both ways

pub same_self : {T V : Type 0} (p : Part T V) (ts : List T) → Same p p ts
same_self p ts = record { to = self_sub p ts; from = self_sub p ts }

pub same_trans : {T V : Type 0} (p q s : Part T V) (ts : List T) → Same p q ts → Same q s ts → Same p s ts
same_trans p q s ts a b = record { to = sub_trans p q s ts a.to b.to; from = sub_trans s q p ts b.from a.from }

pub or_same : {T V : Type 0} (a b c d : Part T V) (ts : List T) → Same a c ts → Same b d ts → Same (or a b) (or c d) ts
or_same a b c d ts s t = record { to = or_sub a b c d ts s.to t.to; from = or_sub c d a b ts s.from t.from }

pub then_same : {T A B : Type 0} (a : Part T A) (b c : A → Part T B) (ts : List T) → ((x : A) (mid : List T) → Same (b x) (c x) mid) → Same (then a b) (then a c) ts
then_same a b c ts s = record {
  to = then_sub a a b c ts (self_sub a ts) (λ x mid h. (s x mid).to);
  from = then_sub a a c b ts (self_sub a ts) (λ x mid h. (s x mid).from);
}

-- a (b | c) is a b | a c
pub factored : {T A B : Type 0} (a : Part T A) (b c : A → Part T B) (ts : List T) → Same (then a (λ x. or (b x) (c x))) (or (then a b) (then a c)) ts
factored a b c ts = record {
  to = record {
    spells = λ r v h. elim h.3 [ inl s ↦ inl (h.0, h.1, h.2, s) | inr s ↦ inr (h.0, h.1, h.2, s) ];
    begins = λ r. elim [
      | inl h ↦ inl (inl h)
      | inr h ↦ elim h.3 [ inl s ↦ inl (inr (h.0, h.1, h.2, s)) | inr s ↦ inr (inr (h.0, h.1, h.2, s)) ]
    ];
    marks = λ r. elim [
      | inl h ↦ inl (inl h)
      | inr h ↦ elim h.3 [ inl s ↦ inl (inr (h.0, h.1, h.2, s)) | inr s ↦ inr (inr (h.0, h.1, h.2, s)) ]
    ];
  };
  from = record {
    spells = λ r v. elim [ inl h ↦ (h.0, h.1, h.2, inl h.3) | inr h ↦ (h.0, h.1, h.2, inr h.3) ];
    begins = λ r. elim [
      | inl h ↦ elim h [ inl k ↦ inl k | inr s ↦ inr (s.0, s.1, s.2, inl s.3) ]
      | inr h ↦ elim h [ inl k ↦ inl k | inr s ↦ inr (s.0, s.1, s.2, inr s.3) ]
    ];
    marks = λ r. elim [
      | inl h ↦ elim h [ inl k ↦ inl k | inr s ↦ inr (s.0, s.1, s.2, inl s.3) ]
      | inr h ↦ elim h [ inl k ↦ inl k | inr s ↦ inr (s.0, s.1, s.2, inr s.3) ]
    ];
  };
}

-- a k | b k is (a | b) k
pub spread : {T A B : Type 0} (a b : Part T A) (k : A → Part T B) (ts : List T) → Same (or (then a k) (then b k)) (then (or a b) k) ts
spread a b k ts = record {
  to = record {
    spells = λ r v. elim [ inl h ↦ (h.0, h.1, inl h.2, h.3) | inr h ↦ (h.0, h.1, inr h.2, h.3) ];
    begins = λ r. elim [
      | inl h ↦ elim h [ inl d ↦ inl (inl d) | inr s ↦ inr (s.0, s.1, inl s.2, s.3) ]
      | inr h ↦ elim h [ inl d ↦ inl (inr d) | inr s ↦ inr (s.0, s.1, inr s.2, s.3) ]
    ];
    marks = λ r. elim [
      | inl h ↦ elim h [ inl d ↦ inl (inl d) | inr s ↦ inr (s.0, s.1, inl s.2, s.3) ]
      | inr h ↦ elim h [ inl d ↦ inl (inr d) | inr s ↦ inr (s.0, s.1, inr s.2, s.3) ]
    ];
  };
  from = record {
    spells = λ r v h. elim h.2 [ inl s ↦ inl (h.0, h.1, s, h.3) | inr s ↦ inr (h.0, h.1, s, h.3) ];
    begins = λ r. elim [
      | inl h ↦ elim h [ inl d ↦ inl (inl d) | inr d ↦ inr (inl d) ]
      | inr h ↦ elim h.2 [ inl s ↦ inl (inr (h.0, h.1, s, h.3)) | inr s ↦ inr (inr (h.0, h.1, s, h.3)) ]
    ];
    marks = λ r. elim [
      | inl h ↦ elim h [ inl d ↦ inl (inl d) | inr d ↦ inr (inl d) ]
      | inr h ↦ elim h.2 [ inl s ↦ inl (inr (h.0, h.1, s, h.3)) | inr s ↦ inr (inr (h.0, h.1, s, h.3)) ]
    ];
  };
}

-- a (f k) is (a f) k
pub grouped : {T A B C : Type 0} (a : Part T A) (f : A → Part T B) (k : B → Part T C) (ts : List T) → Same (then a (λ x. then (f x) k)) (then (then a f) k) ts
grouped a f k ts = record {
  to = record {
    spells = λ r v h. (h.3.0, h.3.1, (h.0, h.1, h.2, h.3.2), h.3.3);
    begins = λ r. elim [ inl h ↦ inl (inl h) | inr h ↦ elim h.3 [ inl b ↦ inl (inr (h.0, h.1, h.2, b)) | inr s ↦ inr (s.0, s.1, (h.0, h.1, h.2, s.2), s.3) ] ];
    marks = λ r. elim [ inl h ↦ inl (inl h) | inr h ↦ elim h.3 [ inl b ↦ inl (inr (h.0, h.1, h.2, b)) | inr s ↦ inr (s.0, s.1, (h.0, h.1, h.2, s.2), s.3) ] ];
  };
  from = record {
    spells = λ r v h. (h.2.0, h.2.1, h.2.2, (h.0, h.1, h.2.3, h.3));
    begins = λ r. elim [
      | inl h ↦ elim h [ inl b ↦ inl b | inr s ↦ inr (s.0, s.1, s.2, inl s.3) ]
      | inr h ↦ inr (h.2.0, h.2.1, h.2.2, inr (h.0, h.1, h.2.3, h.3))
    ];
    marks = λ r. elim [
      | inl h ↦ elim h [ inl b ↦ inl b | inr s ↦ inr (s.0, s.1, s.2, inl s.3) ]
      | inr h ↦ inr (h.2.0, h.2.1, h.2.2, inr (h.0, h.1, h.2.3, h.3))
    ];
  };
}

-- [ a ] k is a k | k
pub optional_spread : {T A B : Type 0} (a : Part T A) (k : Part T B) (ts : List T) → Same (or (then a (λ _. k)) k) (then (optional a) (λ _. k)) ts
optional_spread {T} {A} {B} a k ts = record {
  to = record {
    spells = λ r v. elim [
      | inl h ↦ (h.0, Some h.1, inl (h.1, h.2, refl), h.3)
      | inr h ↦ (ts, None, inr (refl, refl), h)
    ];
    begins = λ r. elim [
      | inl h ↦ elim h [ inl b ↦ inl b | inr s ↦ inr (s.0, Some s.1, inl (s.1, s.2, refl), s.3) ]
      | inr h ↦ inr (ts, None, inr (refl, refl), h)
    ];
    marks = λ r. elim [
      | inl h ↦ elim h [ inl b ↦ inl b | inr s ↦ inr (s.0, Some s.1, inl (s.1, s.2, refl), s.3) ]
      | inr h ↦ inr (ts, None, inr (refl, refl), h)
    ];
  };
  from = record {
    spells = λ r v h. elim h.2 [
      | inl s ↦ inl (h.0, s.0, s.1, h.3)
      | inr e ↦ inr (subst (λ (us : List T). Spells k us r v) (sym e.0) h.3)
    ];
    begins = λ r. elim [
      | inl b ↦ inl (inl b)
      | inr h ↦ elim h.2 [
        | inl s ↦ inl (inr (h.0, s.0, s.1, h.3))
        | inr e ↦ inr (subst (λ (us : List T). Begins k us r) (sym e.0) h.3)
      ]
    ];
    marks = λ r. elim [
      | inl b ↦ inl (inl b)
      | inr h ↦ elim h.2 [
        | inl s ↦ inl (inr (h.0, s.0, s.1, h.3))
        | inr e ↦ inr (subst (λ (us : List T). Marks k us r) (sym e.0) h.3)
      ]
    ];
  };
}
