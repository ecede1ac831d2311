-- Literals, triples and lines are read exactly. Whether a literal has a type shows only behind its quotes and the blanks there, so
-- these parts are read together with what follows them.
use Rattle.std.proofs.Common.{◌≡◌, ◌∙◌, ℕ, List, [], ◌∷◌, Bool, true, false, Option, Some, None, refl, sym, ap, subst, inl, inr, ◌⊎◌}
use Rattle.std.specs.Prelude.{if◌then◌else◌}
use Rattle.std.proofs.lemmas.Bool.{eqb-true, cases_Bool}
use Rattle.names_dm.specs.Literals.{literal_of}
use Rattle.names_dm.specs.Statements.{Statement}
use Rattle.names_dm.specs.declared.literal.LiteralType.{LiteralType}
use Rattle.names_dm.specs.declared.literal.LiteralType.TheVariants.{Plain, Typed, Tagged}
use Rattle.names_dm.specs.declared.term.Term.{Term}
use Rattle.names_dm.specs.declared.term.Term.TheVariants as term
use Rattle.ntriples_reader_dm.specs.Part.{sign, give, or, optional}
use Rattle.ntriples_reader_dm.specs.Part as part
use Rattle.ntriples_reader_dm.specs.Grammar.{blanks, iri_ref, tag, literal_type, literal, subject, object, triple, comment, line}
use Rattle.ntriples_reader_dm.specs.Reading.{◌>>=◌, begins, behind, through, skip, until_at, text_one, iri_at, quoted_at, label_at, tag_text, tag_at, typed_at, tagged_at, type_at, literal_at, subject_at, object_at, triple_at, ended, said, line_at}
use Rattle.ntriples_reader_dm.proofs.Exact.{Exact, none_some, some_is, pair, pair_is, bind_some, bind_is, give_exact, then_exact, sign_then, through_exact, Heads, Lacks, begins_is, lacking, sign_heads, chosen, Unblank, unblank, skip_stands, skip_blanks, skip_read, skip_twice, blanks_then}
use Rattle.ntriples_reader_dm.proofs.Readers.{iri_exact, quoted_exact, tag_exact, subject_exact}

unblank_bind : {A B : Type 0} (f : List ℕ → Option A) (g : A → Option B) → Unblank f → Unblank (λ ts. f ts >>= g)
unblank_bind f g u c ts e = ap (λ r. r >>= g) (u c ts e)

iri_unblank : Unblank iri_at
unfolding iri_at
iri_unblank = unblank iri_at (λ ts. refl) (λ ts. refl)

pub tag_unblank : Unblank tagged_at
unfolding tag_at
tag_unblank = unblank tagged_at (λ ts. refl) (λ ts. refl)

pub typed_unblank : Unblank typed_at
typed_unblank = unblank typed_at (λ ts. refl) (λ ts. refl)

subject_unblank : Unblank subject_at
unfolding subject_at iri_at label_at
subject_unblank = unblank subject_at (λ ts. refl) (λ ts. refl)

object_unblank : Unblank object_at
unfolding object_at subject_at iri_at label_at literal_at quoted_at
object_unblank = unblank object_at (λ ts. refl) (λ ts. refl)

triple_unblank : Unblank triple_at
unfolding triple_at subject_at iri_at label_at
triple_unblank = unblank triple_at (λ ts. refl) (λ ts. refl)

-- ---- the type of a literal

abbrev pub typed : List ℕ → List ℕ → LiteralType → Type 0
typed = part.then (sign 94) (λ _. part.then (sign 94) (λ _. part.then blanks (λ _. part.then iri_ref (λ iri. give (Typed iri)))))

abbrev pub tagged : List ℕ → List ℕ → LiteralType → Type 0
tagged = part.then tag (λ t. give (Tagged t))

pub typed_exact : Exact typed typed_at
typed_exact =
    sign_then 94 (part.then (sign 94) (λ _. part.then blanks (λ _. part.then iri_ref (λ iri. give (Typed iri))))) (λ a. behind 94 a >>= λ b. through (λ iri. Typed iri) (iri_at (skip b)))
    (sign_then 94 (part.then blanks (λ _. part.then iri_ref (λ iri. give (Typed iri)))) (λ b. through (λ iri. Typed iri) (iri_at (skip b)))
    (blanks_then (part.then iri_ref (λ iri. give (Typed iri))) (λ ts. through (λ iri. Typed iri) (iri_at ts)) (through_exact (λ iri. Typed iri) iri_ref iri_at iri_exact)
    (unblank_bind iri_at (λ x. Some (pair (Typed x.0) x.1)) iri_unblank)))

pub tagged_exact : Exact tagged tagged_at
tagged_exact = through_exact (λ t. Tagged t) tag tag_at tag_exact

pub typed_heads : Heads typed_at 94
typed_heads = sign_heads 94 (λ a. behind 94 a >>= λ b. through (λ iri. Typed iri) (iri_at (skip b)))

pub tagged_heads : Heads tagged_at 64
unfolding tag_at
tagged_heads ts y e =
    let h = bind_some (behind 64 ts >>= tag_text) (λ (x : List ℕ × List ℕ). Some (pair (Tagged x.0) x.1)) y e in
    sign_heads 64 tag_text ts h.0 h.1

abbrev type_by : Bool → Bool → List ℕ → Option (LiteralType × List ℕ)
type_by a b ts = if a then typed_at ts else (if b then tagged_at ts else Some (Plain, ts))

type_by_sound : (a b : Bool) (ts mid : List ℕ) (t : LiteralType) → type_by a b ts ≡ Some (t, mid) → typed ts mid t ⊎ (tagged ts mid t ⊎ ((Plain ≡ t) × (ts ≡ mid)))
type_by_sound true b ts mid t e = inl (typed_exact.sound ts mid t e)
type_by_sound false true ts mid t e = inr (inl (tagged_exact.sound ts mid t e))
type_by_sound false false ts mid t e = inr (inr (pair_is Plain t ts mid e))

type_sound : (ts mid : List ℕ) (t : LiteralType) → type_at ts ≡ Some (t, mid) → typed ts mid t ⊎ (tagged ts mid t ⊎ ((Plain ≡ t) × (ts ≡ mid)))
unfolding type_at
type_sound ts mid t e = type_by_sound (begins 94 ts) (begins 64 ts) ts mid t e

type_typed : (ts mid : List ℕ) (t : LiteralType) → typed ts mid t → type_at ts ≡ Some (t, mid)
unfolding type_at
type_typed ts mid t p =
    let e = typed_exact.complete ts mid t p in
    ap (λ a. type_by a (begins 64 ts) ts) (typed_heads ts (pair t mid) e) ∙ e

type_tagged : (ts mid : List ℕ) (t : LiteralType) → tagged ts mid t → type_at ts ≡ Some (t, mid)
unfolding type_at
type_tagged ts mid t p =
    let e = tagged_exact.complete ts mid t p in
    let h = begins_is 64 ts (tagged_heads ts (pair t mid) e) in
    ap (λ us. type_by (begins 94 us) (begins 64 us) ts) h.1 ∙ e

-- neither
type_plain : (ts : List ℕ) → begins 94 ts ≡ false → begins 64 ts ≡ false → type_at ts ≡ Some (Plain, ts)
unfolding type_at
type_plain ts e f = ap (λ a. type_by a (begins 64 ts) ts) e ∙ ap (λ b. type_by false b ts) f

-- what may stand behind a literal: blanks before it make no difference, and it begins with neither `^` nor `@`
record Follows {W : Type 0} (K : List ℕ → List ℕ → W → Type 0) (k : List ℕ → Option (W × List ℕ)) : Type 0 where
  exact : Exact K k
  loose : (ts : List ℕ) → k (skip ts) ≡ k ts
  no_type : Lacks k 94
  no_tag : Lacks k 64

miss_of : {V : Type 0} (f : List ℕ → Option V) (c : ℕ) → Lacks f c → (ts : List ℕ) (y : V) → f ts ≡ Some y → begins c ts ≡ false
miss_of f c l ts y e = elim (cases_Bool (begins c ts)) [
  | inl hit ↦ lacking f c l ts y e hit
  | inr miss ↦ miss
]

type_then : {W : Type 0} (K : LiteralType → List ℕ → List ℕ → W → Type 0) (k : LiteralType → List ℕ → Option (W × List ℕ)) → ((t : LiteralType) → Follows (K t) (k t))
    → Exact (part.then literal_type K) (λ ts. type_at (skip ts) >>= λ x. k x.0 x.1)
unfolding literal_type
type_then {W} K k f = record {
  sound = λ ts rest v e.
      let h = bind_some (type_at (skip ts)) (λ (x : LiteralType × List ℕ). k x.0 x.1) (pair v rest) e in
      let t = h.0.0 in
      let mid = h.0.1 in
      elim (type_sound (skip ts) h.0.1 h.0.0 h.1) [
        | inl p ↦ (h.0.1, h.0.0, inr (inl (skip ts, tt, skip_stands ts, p)), (f h.0.0).exact.sound h.0.1 rest v h.2)
        | inr q ↦ elim q [
          | inl p ↦ (h.0.1, h.0.0, inr (inr (skip ts, tt, skip_stands ts, p)), (f h.0.0).exact.sound h.0.1 rest v h.2)
          | inr p ↦ (ts, Plain, inl (refl, refl), (f Plain).exact.sound ts rest v (sym ((f Plain).loose ts) ∙ ap (k Plain) p.1 ∙ ap (λ x. k x h.0.1) p.0 ∙ h.2))
        ]
      ];
  complete = λ ts rest v h.
      let e = (f h.1).exact.complete h.0 rest v h.3 in
      let g = λ (x : LiteralType × List ℕ). k x.0 x.1 in
      elim h.2 [
        | inl p ↦
            let there : k h.1 (skip ts) ≡ Some (pair v rest) = (f h.1).loose ts ∙ ap (k h.1) p.0 ∙ e in
            let plain = type_plain (skip ts) (miss_of (k h.1) 94 (f h.1).no_type (skip ts) (pair v rest) there) (miss_of (k h.1) 64 (f h.1).no_tag (skip ts) (pair v rest) there) in
            bind_is (type_at (skip ts)) (λ (x : LiteralType × List ℕ). k x.0 x.1) (pair Plain (skip ts)) plain ∙ ap (λ x. k x (skip ts)) (sym p.1) ∙ there
        | inr q ↦ elim q [
          | inl p ↦
              let same = skip_blanks ts p.0 p.2 ∙ skip_read typed_at typed_unblank p.0 (pair h.1 h.0) (typed_exact.complete p.0 h.0 h.1 p.3) in
              bind_is (type_at (skip ts)) (λ (x : LiteralType × List ℕ). k x.0 x.1) (pair h.1 h.0) (ap type_at same ∙ type_typed p.0 h.0 h.1 p.3) ∙ e
          | inr p ↦
              let same = skip_blanks ts p.0 p.2 ∙ skip_read tagged_at tag_unblank p.0 (pair h.1 h.0) (tagged_exact.complete p.0 h.0 h.1 p.3) in
              bind_is (type_at (skip ts)) (λ (x : LiteralType × List ℕ). k x.0 x.1) (pair h.1 h.0) (ap type_at same ∙ type_tagged p.0 h.0 h.1 p.3) ∙ e
        ]
      ];
}

-- ---- objects

literal_heads : Heads literal_at 34
unfolding literal_at quoted_at
literal_heads ts y e =
    let h = bind_some (behind 34 ts >>= until_at 34 text_one) (λ (x : List ℕ × List ℕ). through (λ kind. term.Literal (literal_of x.0 kind)) (type_at (skip x.1))) y e in
    sign_heads 34 (until_at 34 text_one) ts h.0 h.1

subject_lacks : Lacks subject_at 34
unfolding subject_at label_at
subject_lacks ts = refl

object_by : (b : Bool) (ts : List ℕ) (x : Term × List ℕ) → chosen b (literal_at ts) (subject_at ts) ≡ Some x → (literal_at ts ≡ Some x) ⊎ (subject_at ts ≡ Some x)
object_by true ts x e = inl e
object_by false ts x e = inr e

object_sound : (ts : List ℕ) (x : Term × List ℕ) → object_at ts ≡ Some x → (literal_at ts ≡ Some x) ⊎ (subject_at ts ≡ Some x)
unfolding object_at
object_sound ts x e = object_by (begins 34 ts) ts x e

object_literal : (ts : List ℕ) (x : Term × List ℕ) → literal_at ts ≡ Some x → object_at ts ≡ Some x
unfolding object_at
object_literal ts x e = ap (λ b. chosen b (literal_at ts) (subject_at ts)) (literal_heads ts x e) ∙ e

object_subject : (ts : List ℕ) (x : Term × List ℕ) → subject_at ts ≡ Some x → object_at ts ≡ Some x
unfolding object_at
object_subject ts x e = ap (λ b. chosen b (literal_at ts) (subject_at ts)) (miss_of subject_at 34 subject_lacks ts x e) ∙ e

literal_is : (ts mid : List ℕ) (text : List ℕ) (t : LiteralType) (m : List ℕ) → quoted_at ts ≡ Some (text, m) → type_at (skip m) ≡ Some (t, mid) → literal_at ts ≡ Some (term.Literal (literal_of text t), mid)
unfolding literal_at
literal_is ts mid text t m q e =
    bind_is (quoted_at ts) (λ (x : List ℕ × List ℕ). through (λ kind. term.Literal (literal_of x.0 kind)) (type_at (skip x.1))) (pair text m) q
    ∙ ap (through (λ kind. term.Literal (literal_of text kind))) e

literal_parts : (ts mid : List ℕ) (o : Term) → literal_at ts ≡ Some (o, mid) → (text : List ℕ) × (m : List ℕ) × (t : LiteralType) × (quoted_at ts ≡ Some (text, m)) × (type_at (skip m) ≡ Some (t, mid)) × (term.Literal (literal_of text t) ≡ o)
unfolding literal_at
literal_parts ts mid o e =
    let h = bind_some (quoted_at ts) (λ (x : List ℕ × List ℕ). through (λ kind. term.Literal (literal_of x.0 kind)) (type_at (skip x.1))) (pair o mid) e in
    let k = bind_some (type_at (skip h.0.1)) (λ (x : LiteralType × List ℕ). Some (pair (term.Literal (literal_of h.0.0 x.0)) x.1)) (pair o mid) h.2 in
    let j = pair_is (term.Literal (literal_of h.0.0 k.0.0)) o k.0.1 mid k.2 in
    (h.0.0, h.0.1, k.0.0, h.1, k.1 ∙ ap (λ us. Some (pair k.0.0 us)) j.1, j.0)

object_then : {W : Type 0} (K : Term → List ℕ → List ℕ → W → Type 0) (k : Term → List ℕ → Option (W × List ℕ)) → ((o : Term) → Follows (K o) (k o))
    → Exact (part.then object K) (λ ts. object_at ts >>= λ x. k x.0 x.1)
unfolding object literal
object_then {W} K k f = record {
  sound = λ ts rest v e.
      let h = bind_some (object_at ts) (λ (x : Term × List ℕ). k x.0 x.1) (pair v rest) e in
      elim (object_sound ts h.0 h.1) [
        | inl l ↦
            let p = literal_parts ts h.0.1 h.0.0 l in
            let there : k (term.Literal (literal_of p.0 p.2)) h.0.1 ≡ Some (pair v rest) = ap (λ x. k x h.0.1) p.5 ∙ h.2 in
            let b = bind_is (type_at (skip p.1)) (λ (x : LiteralType × List ℕ). k (term.Literal (literal_of p.0 x.0)) x.1) (pair p.2 h.0.1) p.4 ∙ there in
            let q = (type_then (λ t. K (term.Literal (literal_of p.0 t))) (λ t. k (term.Literal (literal_of p.0 t))) (λ t. f (term.Literal (literal_of p.0 t)))).sound p.1 rest v b in
            (q.0, term.Literal (literal_of p.0 q.1), inr (p.1, p.0, quoted_exact.sound ts p.1 p.0 p.3, (q.0, q.1, q.2, (refl, refl))), q.3)
        | inr s ↦ (h.0.1, h.0.0, inl (subject_exact.sound ts h.0.1 h.0.0 s), (f h.0.0).exact.sound h.0.1 rest v h.2)
      ];
  complete = λ ts rest v h. elim h.2 [
    | inl s ↦
        bind_is (object_at ts) (λ (x : Term × List ℕ). k x.0 x.1) (pair h.1 h.0) (object_subject ts (pair h.1 h.0) (subject_exact.complete ts h.0 h.1 s)) ∙ (f h.1).exact.complete h.0 rest v h.3
    | inr l ↦
        let text = l.1 in
        let behind_type : K (term.Literal (literal_of l.1 l.3.1)) l.3.0 rest v =
        subst (λ (us : List ℕ). K (term.Literal (literal_of l.1 l.3.1)) us rest v) (sym l.3.3.0) (subst (λ (o : Term). K o h.0 rest v) l.3.3.1 h.3) in
        let q = (type_then (λ t. K (term.Literal (literal_of l.1 t))) (λ t. k (term.Literal (literal_of l.1 t))) (λ t. f (term.Literal (literal_of l.1 t)))).complete l.0 rest v (l.3.0, l.3.1, l.3.2, behind_type) in
        let b = bind_some (type_at (skip l.0)) (λ (x : LiteralType × List ℕ). k (term.Literal (literal_of l.1 x.0)) x.1) (pair v rest) q in
        bind_is (object_at ts) (λ (x : Term × List ℕ). k x.0 x.1) (pair (term.Literal (literal_of l.1 b.0.0)) b.0.1)
        (object_literal ts (pair (term.Literal (literal_of l.1 b.0.0)) b.0.1) (literal_is ts b.0.1 l.1 b.0.0 l.0 (quoted_exact.complete ts l.0 l.1 l.2) b.1))
        ∙ b.2
  ];
}

-- ---- triples

abbrev dot_behind : Statement → List ℕ → List ℕ → Statement → Type 0
dot_behind t = part.then blanks (λ _. part.then (sign 46) (λ _. give t))

abbrev dot_at : Statement → List ℕ → Option (Statement × List ℕ)
dot_at t ts = behind 46 (skip ts) >>= λ rest. Some (t, rest)

dot_follows : (t : Statement) → Follows (dot_behind t) (dot_at t)
unfolding skip
dot_follows t = record {
  exact = blanks_then (part.then (sign 46) (λ _. give t)) (λ ts. behind 46 ts >>= λ rest. Some (t, rest)) (sign_then 46 (give t) (λ rest. Some (t, rest)) (give_exact t))
      (unblank (λ ts. behind 46 ts >>= λ rest. Some (pair t rest)) (λ ts. refl) (λ ts. refl));
  loose = λ ts. ap (λ us. behind 46 us >>= λ rest. Some (pair t rest)) (skip_twice ts);
  no_type = λ ts. refl;
  no_tag = λ ts. refl;
}

abbrev says : Term → List ℕ → Term → Statement
says s p o = record { subject = s; predicate = p; object = o }

pub triple_exact : Exact triple triple_at
unfolding triple triple_at
triple_exact =
    then_exact subject (λ s. part.then blanks (λ _. part.then iri_ref (λ p. part.then blanks (λ _. part.then object (λ o. dot_behind (says s p o)))))) subject_at
    (λ s ts. iri_at (skip ts) >>= λ p. object_at (skip p.1) >>= λ o. dot_at (says s p.0 o.0) o.1) subject_exact
    (λ s. blanks_then (part.then iri_ref (λ p. part.then blanks (λ _. part.then object (λ o. dot_behind (says s p o))))) (λ ts. iri_at ts >>= λ p. object_at (skip p.1) >>= λ o. dot_at (says s p.0 o.0) o.1)
    (then_exact iri_ref (λ p. part.then blanks (λ _. part.then object (λ o. dot_behind (says s p o)))) iri_at (λ p ts. object_at (skip ts) >>= λ o. dot_at (says s p o.0) o.1) iri_exact
    (λ p. blanks_then (part.then object (λ o. dot_behind (says s p o))) (λ ts. object_at ts >>= λ o. dot_at (says s p o.0) o.1)
    (object_then (λ o. dot_behind (says s p o)) (λ o. dot_at (says s p o)) (λ o. dot_follows (says s p o)))
    (unblank_bind object_at (λ o. dot_at (says s p o.0) o.1) object_unblank)))
    (unblank_bind iri_at (λ p. object_at (skip p.1) >>= λ o. dot_at (says s p.0 o.0) o.1) iri_unblank))

-- ---- lines

ended_comment : (us : List ℕ) → ended us ≡ true → (c : Option (Unit {0})) × optional comment us [] c
unfolding comment
ended_comment [] e = (None, inr (refl, refl))
ended_comment (d ∷ us) e = (Some tt, inl ([], tt, (us, tt, ap (λ x. x ∷ us) (eqb-true d 35 e), refl), (refl, refl)))

comment_ended : (us rest : List ℕ) (c : Option (Unit {0})) → optional comment us rest c → rest ≡ [] → ended us ≡ true
unfolding comment
comment_ended us rest c (inl h) e = ap ended h.2.2
comment_ended us rest c (inr h) e = ap ended (h.0 ∙ e)

ended_skip : (us : List ℕ) → ended us ≡ true → skip us ≡ us
unfolding skip
ended_skip [] e = refl
ended_skip (d ∷ us) e = ap (λ x. skip (x ∷ us)) (eqb-true d 35 e) ∙ ap (λ x. x ∷ us) (sym (eqb-true d 35 e))

ended_none : (us : List ℕ) → ended us ≡ true → triple_at us ≡ None
unfolding triple_at subject_at iri_at label_at
ended_none [] e = refl
ended_none (d ∷ us) e = ap (λ x. triple_at (x ∷ us)) (eqb-true d 35 e)

abbrev Said : Type 0
Said = Option Statement

said_some : (b : Bool) (t : Statement) (x : Said) → ◌≡◌ {A = Option Said} (if b then Some (Some t) else None) (Some x) → (b ≡ true) × (x ≡ Some t)
said_some true t x e = (refl, sym (some_is (Some t) x e))
said_some false t x e = none_some x e

abbrev line_by : Bool → List ℕ → Option Said
line_by b us = if b then Some None else (triple_at us >>= said)

no_blanks : (us : List ℕ) → blanks us us tt
no_blanks us = ([], refl, refl)

line_sound_at : (ts : List ℕ) (x : Said) (b : Bool) → ended (skip ts) ≡ b → line_by b (skip ts) ≡ Some x → line ts [] x
unfolding line
line_sound_at ts x true e h =
    let c = ended_comment (skip ts) e in
    (skip ts, tt, skip_stands ts, (skip ts, None, inr (refl, refl), (skip ts, tt, no_blanks (skip ts), ([], c.0, c.1, (refl, sym (some_is None x h))))))
line_sound_at ts x false e h =
    let k = bind_some (triple_at (skip ts)) said x h in
    let s = said_some (ended (skip k.0.1)) k.0.0 x k.2 in
    let c = ended_comment (skip k.0.1) s.0 in
    (skip ts, tt, skip_stands ts, (k.0.1, Some k.0.0, inl (k.0.1, k.0.0, triple_exact.sound (skip ts) k.0.1 k.0.0 k.1, (refl, refl)), (skip k.0.1, tt, skip_stands k.0.1, ([], c.0, c.1, (refl, s.1)))))

pub line_sound : (ts : List ℕ) (x : Said) → line_at ts ≡ Some x → line ts [] x
unfolding line_at
line_sound ts x e = line_sound_at ts x (ended (skip ts)) refl e

not_ended : (us : List ℕ) (y : Statement × List ℕ) → triple_at us ≡ Some y → ended us ≡ false
not_ended us y e = elim (cases_Bool (ended us)) [
  | inl hit ↦ none_some y (sym (ended_none us hit) ∙ e)
  | inr miss ↦ miss
]

pub line_complete : (ts : List ℕ) (x : Said) → line ts [] x → line_at ts ≡ Some x
unfolding line line_at
line_complete ts x h =
    let a = h.3 in
    let b = a.3 in
    let c = b.3 in
    let fin = comment_ended b.0 c.0 c.1 c.2 c.3.0 in
    let tail : skip a.0 ≡ b.0 = skip_blanks a.0 b.0 b.2 ∙ ended_skip b.0 fin in
    elim a.2 [
      | inl p ↦
          let e = triple_exact.complete h.0 p.0 p.1 p.2 in
          let same : skip ts ≡ h.0 = skip_blanks ts h.0 h.2 ∙ skip_read triple_at triple_unblank h.0 (pair p.1 p.0) e in
          let closed : ended (skip p.0) ≡ true = ap (λ us. ended (skip us)) p.3.0 ∙ ap ended tail ∙ fin in
          ap (λ us. line_by (ended us) us) same ∙ ap (λ (v : Bool). line_by v h.0) (not_ended h.0 (pair p.1 p.0) e)
          ∙ bind_is (triple_at h.0) said (pair p.1 p.0) e ∙ ap (λ (v : Bool). if v then Some (Some p.1) else None) closed
          ∙ ap (λ (y : Said). Some y) (sym p.3.1 ∙ sym c.3.1)
      | inr p ↦
          let same : skip ts ≡ b.0 = skip_blanks ts h.0 h.2 ∙ ap skip p.0 ∙ tail in
          ap (λ us. line_by (ended us) us) same ∙ ap (λ (v : Bool). line_by v b.0) fin ∙ ap (λ (y : Said). Some y) (sym p.1 ∙ sym c.3.1)
    ]

-- a line says one thing
pub line_one : (ts : List ℕ) (x y : Said) → line ts [] x → line ts [] y → x ≡ y
line_one ts x y p q = some_is x y (sym (line_complete ts x p) ∙ line_complete ts y q)
