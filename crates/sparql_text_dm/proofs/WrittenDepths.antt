-- How deep the braces and parentheses of a query's text nest.
use Rattle.std.proofs.Common.{◌≡◌, ◌∙◌, ◌↔◌, ℕ, zero, suc, ◌+◌, ◌-◌, ◌<◌, ◌≤◌, max, List, [], ◌∷◌, ◌++◌, Bool, true, false, IsTrue, refl, sym, ap, subst, arith, bytes_eq, cond, is_some}
use Rattle.std.specs.Prelude.{◌||◌, if◌then◌else◌}
use Rattle.solutions_dm.specs.declared.selects.Rename.{Rename}
use Rattle.pattern_dm.specs.declared.pattern.Operand.{Operand}
use Rattle.pattern_dm.specs.declared.pattern.Operand.TheVariants as operands
use Rattle.pattern_dm.specs.declared.pattern.Condition.{Condition, end_of-Condition, more_of-Condition}
use Rattle.pattern_dm.specs.declared.pattern.Condition.TheVariants as conditions
use Rattle.pattern_dm.specs.declared.pattern.Pattern.{Pattern, end_of-Pattern, more_of-Pattern}
use Rattle.pattern_dm.specs.declared.pattern.Pattern.TheVariants as patterns
use Rattle.sparql_tokens_dm.specs.declared.token.Keyword.TheVariants.{Select, Distinct, Where, As, Union, Minus, Optional, Filter, True, Bound, SameTerm}
use Rattle.sparql_tokens_dm.specs.declared.token.Sign.TheVariants.{OpenBrace, CloseBrace, OpenParenthesis, CloseParenthesis, Dot, Comma, Not, And, Or}
use Rattle.sparql_tokens_dm.specs.declared.token.Token.{Token}
use Rattle.sparql_tokens_dm.specs.declared.token.Token.TheVariants.{Sign, Word, Var, Iri, Literal}
use Rattle.sparql_tokens_dm.specs.declared.token.Placed.{Placed}
use Rattle.sparql_tokens_dm.proofs.Pieces.{tokens_in}
use Rattle.sparql_text_dm.specs.Depth.{IsShallow, IsTooNested, closes, depth, depth_from, opens, past}
use Rattle.sparql_text_dm.specs.Words.{sign_of}
use Rattle.sparql_text_dm.specs.Written.{condition_nesting, filter_nesting, join_nesting, nesting}
use Rattle.sparql_text_dm.proofs.WrittenTokens.{condition_tokens, filter_tokens, join_tokens, names_tokens, operand_token, other_tokens, pattern_tokens, query_tokens, rename_tokens, renames_tokens}

-- ---- by tokens

abbrev token_opens : Token → Bool
token_opens t = is_some (sign_of OpenBrace t) || is_some (sign_of OpenParenthesis t)

abbrev token_closes : Token → Bool
token_closes t = is_some (sign_of CloseBrace t) || is_some (sign_of CloseParenthesis t)

abbrev token_past : Token → ℕ → ℕ
token_past t n = if token_opens t then suc n else (if token_closes t then n - 1 else n)

-- none of the tokens opens more than 2,048, where n are open before them
abbrev Fits : ℕ → List Token → Type 0
Fits n [] = Unit {0}
Fits n (t ∷ ts) = (IsTrue (token_opens t) → n < 2048) × Fits (token_past t n) ts

-- the tokens fit exactly where they nest no deeper than so, and those behind them fit
record Nests (adds : List Token → List Token) (k : ℕ) : Type 0 where
  on : (n : ℕ) (more : List Token) → n ≤ 2048 → Fits n (adds more) ↔ ((n + k ≤ 2048) × Fits n more)

at_depth : (m n : ℕ) (more : List Token) → m ≡ n → Fits m more → Fits n more
at_depth m n more e h = subst (λ (k : ℕ). Fits k more) e h

true_false : {W : Type 0} (b : Bool) → b ≡ true → b ≡ false → W
true_false b d e = absurd cc

-- a token that neither opens nor closes
solid : (t : Token) → token_opens t ≡ false → token_closes t ≡ false → Nests (λ more. t ∷ more) 0
solid t opens closes = record {
  on = λ n more le.
      let same : token_past t n ≡ n = rw (opens, closes) refl in
      ((λ h. (omega (arith, le), at_depth (token_past t n) n more same h.1)), (λ h. ((λ e. true_false (token_opens t) e opens), at_depth n (token_past t n) more (sym same) h.1)));
}

both : {f g : List Token → List Token} {j k : ℕ} → Nests f j → Nests g k → Nests (λ more. f (g more)) (max j k)
both {g = g} {j = j} {k = k} h i = record {
  on = λ n more le.
      let one = h.on n (g more) le in
      let two = i.on n more le in (
        (λ fits. let a = one.0 fits in let b = two.0 a.1 in (joined n a.0 b.0, b.1)),
        (λ fits. one.1 (left n fits.0, two.1 (right n fits.0, fits.1))),
      );
}
  where
    joined : (n : ℕ) → n + j ≤ 2048 → n + k ≤ 2048 → n + max j k ≤ 2048
    joined n a b = omega (arith, a, b)

    left : (n : ℕ) → n + max j k ≤ 2048 → n + j ≤ 2048
    left n a = omega (arith, a)

    right : (n : ℕ) → n + max j k ≤ 2048 → n + k ≤ 2048
    right n a = omega (arith, a)

-- tokens between one that opens and one that closes
group : (o c : Token) → token_opens o ≡ true → token_opens c ≡ false → token_closes c ≡ true → {f : List Token → List Token} {k : ℕ} → Nests f k → Nests (λ more. o ∷ f (c ∷ more)) (suc k)
group o c opens solid_end closes {f} {k} h = record {
  on = λ n more le. ((λ fits. forth n more le (fits.0 opens) fits.1), (λ fits. back n more le fits.0 fits.1));
}
  where
    deeper : (n : ℕ) → token_past o n ≡ suc n
    deeper n = rw opens refl

    less_one : (n : ℕ) → suc n - 1 ≡ n
    less_one n = omega arith

    shallower : (n : ℕ) → token_past c (suc n) ≡ n
    shallower n = rw (solid_end, closes) (less_one n)

    forth : (n : ℕ) (more : List Token) → n ≤ 2048 → n < 2048 → Fits (token_past o n) (f (c ∷ more)) → (n + suc k ≤ 2048) × Fits n more
    forth n more le below fits =
        let inside = (h.on (suc n) (c ∷ more) (omega (arith, below))).0 (at_depth (token_past o n) (suc n) (f (c ∷ more)) (deeper n) fits) in
        (omega (arith, inside.0), at_depth (token_past c (suc n)) n more (shallower n) inside.1.1)

    back : (n : ℕ) (more : List Token) → n ≤ 2048 → n + suc k ≤ 2048 → Fits n more → Fits n (o ∷ f (c ∷ more))
    back n more le deep fits =
        let end : Fits (suc n) (c ∷ more) = ((λ e. true_false (token_opens c) e solid_end), at_depth n (token_past c (suc n)) more (sym (shallower n)) fits) in
        let inside = (h.on (suc n) (c ∷ more) (omega (arith, deep))).1 (omega (arith, deep), end) in
        ((λ e. omega (arith, deep)), at_depth (suc n) (token_past o n) (f (c ∷ more)) (sym (deeper n)) inside)

in_braces : {f : List Token → List Token} {k : ℕ} → Nests f k → Nests (λ more. Sign OpenBrace ∷ f (Sign CloseBrace ∷ more)) (suc k)
in_braces h = group (Sign OpenBrace) (Sign CloseBrace) refl refl refl h

in_parentheses : {f : List Token → List Token} {k : ℕ} → Nests f k → Nests (λ more. Sign OpenParenthesis ∷ f (Sign CloseParenthesis ∷ more)) (suc k)
in_parentheses h = group (Sign OpenParenthesis) (Sign CloseParenthesis) refl refl refl h

nests_as : {f : List Token → List Token} (j k : ℕ) → j ≡ k → Nests f j → Nests f k
nests_as {f} j k e h = subst (λ (n : ℕ). Nests f n) e h

none : Nests (λ more. more) 0
none = record { on = λ n more le. ((λ h. (omega (arith, le), h)), (λ h. h.1)) }

-- ---- texts

operand_nests : (p : Operand) → Nests (λ more. operand_token p ∷ more) 0
operand_nests (operands.Var x) = solid (Var x) refl refl
operand_nests (operands.Iri i) = solid (Iri i) refl refl
operand_nests (operands.Literal l) = solid (Literal l) refl refl

condition_nests : (f : Condition) → Nests (condition_tokens f) (condition_nesting f)
condition_nests conditions.True = solid (Word True) refl refl
condition_nests (conditions.Bound x) = nests_as (max 0 1) 1 (omega arith) (both (solid (Word Bound) refl refl) (in_parentheses (solid (Var x) refl refl)))
condition_nests (conditions.SameTerm p q) =
    nests_as (max 0 (suc (max 0 (max 0 0)))) 1 (omega arith) (both (solid (Word SameTerm) refl refl) (in_parentheses (both (operand_nests p) (both (solid (Sign Comma) refl refl) (operand_nests q)))))
condition_nests (conditions.Not' a (more_of-Condition f end_of-Condition)) = nests_as _ _ (omega arith) (in_parentheses (both (solid (Sign Not) refl refl) (condition_nests f)))
condition_nests (conditions.And' a (more_of-Condition f end_of-Condition) b (more_of-Condition g end_of-Condition)) =
    nests_as _ _ (omega arith) (in_parentheses (both (condition_nests f) (both (solid (Sign And) refl refl) (condition_nests g))))
condition_nests (conditions.Or' a (more_of-Condition f end_of-Condition) b (more_of-Condition g end_of-Condition)) =
    nests_as _ _ (omega arith) (in_parentheses (both (condition_nests f) (both (solid (Sign Or) refl refl) (condition_nests g))))

filter_nests : (f : Condition) → Nests (filter_tokens f) (filter_nesting f)
filter_nests f = nests_as (max 0 (suc (condition_nesting f))) (suc (condition_nesting f)) (omega arith) (both (solid (Word Filter) refl refl) (in_parentheses (condition_nests f)))

join_nests : (f : Condition) → Nests (join_tokens f) (join_nesting f)
join_nests conditions.True = none
join_nests (conditions.Bound x) = filter_nests (conditions.Bound x)
join_nests (conditions.SameTerm p q) = filter_nests (conditions.SameTerm p q)
join_nests (conditions.Not' a f) = filter_nests (conditions.Not' a f)
join_nests (conditions.And' a f b g) = filter_nests (conditions.And' a f b g)
join_nests (conditions.Or' a f b g) = filter_nests (conditions.Or' a f b g)

names_nest : (xs : List (List ℕ)) → Nests (names_tokens xs) 0
names_nest [] = none
names_nest (x ∷ xs) = nests_as (max 0 0) 0 (omega arith) (both (solid (Var x) refl refl) (names_nest xs))

other_nests : (r : Rename) → Nests (other_tokens r) 1
other_nests r = nests_as (suc (max 0 (max 0 0))) 1 (omega arith) (in_parentheses (both (solid (Var r.from) refl refl) (both (solid (Word As) refl refl) (solid (Var r.to) refl refl))))

abbrev Little : (List Token → List Token) → Type 0
Little f = (k : ℕ) × (k ≤ 1) × Nests f k

rename_nests : (r : Rename) → Little (rename_tokens r)
rename_nests r = by (bytes_eq r.from r.to)
  where
    by : (b : Bool) → Little (λ more. cond b (Var r.to ∷ more) (other_tokens r more))
    by true = (0, omega arith, solid (Var r.to) refl refl)
    by false = (1, omega arith, other_nests r)

renames_nest : (rs : List Rename) → Little (renames_tokens rs)
renames_nest [] = (0, omega arith, none)
renames_nest (r ∷ rs) =
    let one = rename_nests r in
    let others = renames_nest rs in
    (max one.0 others.0, omega (arith, one.1, others.1), both one.2 others.2)

some_nesting : (p : Pattern) → 1 ≤ nesting p
some_nesting patterns.Empty = omega arith
some_nesting (patterns.Triple s p o) = omega arith
some_nesting (patterns.And' a (more_of-Pattern p end_of-Pattern) b (more_of-Pattern q end_of-Pattern)) = omega arith
some_nesting (patterns.LeftJoin' a (more_of-Pattern p end_of-Pattern) b (more_of-Pattern q end_of-Pattern) f) = omega arith
some_nesting (patterns.Union' a (more_of-Pattern p end_of-Pattern) b (more_of-Pattern q end_of-Pattern)) = omega arith
some_nesting (patterns.Minus' a (more_of-Pattern p end_of-Pattern) b (more_of-Pattern q end_of-Pattern)) = omega arith
some_nesting (patterns.Filter' a (more_of-Pattern p end_of-Pattern) f) = omega arith
some_nesting (patterns.Select' a (more_of-Pattern p end_of-Pattern) rs) = omega arith

pattern_nests : (p : Pattern) → Nests (pattern_tokens p) (nesting p)
pattern_nests patterns.Empty = in_braces none
pattern_nests (patterns.Triple s p o) =
    nests_as (suc (max 0 (max 0 (max 0 0)))) 1 (omega arith) (in_braces (both (operand_nests s) (both (operand_nests p) (both (operand_nests o) (solid (Sign Dot) refl refl)))))
pattern_nests (patterns.And' a (more_of-Pattern p end_of-Pattern) b (more_of-Pattern q end_of-Pattern)) = in_braces (both (pattern_nests p) (pattern_nests q))
pattern_nests (patterns.LeftJoin' a (more_of-Pattern p end_of-Pattern) b (more_of-Pattern q end_of-Pattern) f) =
    nests_as _ _ (omega arith) (in_braces (both (pattern_nests p) (both (solid (Word Optional) refl refl) (in_braces (both (pattern_nests q) (join_nests f))))))
pattern_nests (patterns.Union' a (more_of-Pattern p end_of-Pattern) b (more_of-Pattern q end_of-Pattern)) =
    nests_as _ _ (omega arith) (in_braces (both (pattern_nests p) (both (solid (Word Union) refl refl) (pattern_nests q))))
pattern_nests (patterns.Minus' a (more_of-Pattern p end_of-Pattern) b (more_of-Pattern q end_of-Pattern)) =
    nests_as _ _ (omega arith) (in_braces (both (pattern_nests p) (both (solid (Word Minus) refl refl) (pattern_nests q))))
pattern_nests (patterns.Filter' a (more_of-Pattern p end_of-Pattern) f) = in_braces (both (pattern_nests p) (filter_nests f))
pattern_nests (patterns.Select' a (more_of-Pattern p end_of-Pattern) rs) =
    let targets = renames_nest rs in
    let some = some_nesting p in
    nests_as _ _ (omega (arith, targets.1, some)) (in_braces (both (solid (Word Select) refl refl) (both targets.2 (both (solid (Word Where) refl refl) (pattern_nests p)))))

query_nests : (header : List (List ℕ)) (p : Pattern) → Nests (query_tokens header p) (nesting p)
query_nests header p =
    nests_as _ _ (omega arith) (both (solid (Word Select) refl refl) (both (solid (Word Distinct) refl refl) (both (names_nest header) (both (solid (Word Where) refl refl) (pattern_nests p)))))

-- ---- lists of tokens at places

abbrev ShallowFrom : ℕ → List Placed → Type 0
ShallowFrom n ts = (before after : List Placed) (t : Placed) → ts ≡ before ++ t ∷ after → ¬ (IsTrue (opens t) × (2048 ≤ depth_from n before))

no_split : (before after : List Placed) (t : Placed) → [] ≡ before ++ t ∷ after → ⊥
no_split [] after t e = absurd cc
no_split (b ∷ before) after t e = absurd cc

heads : (a b : Placed) (xs ys : List Placed) → a ∷ xs ≡ b ∷ ys → (a ≡ b) × (xs ≡ ys)
heads a b xs ys e = (cc, cc)

fits_shallow : (n : ℕ) (ts : List Placed) → Fits n (tokens_in ts) → ShallowFrom n ts
fits_shallow n [] h before after t e k = no_split before after t e
fits_shallow n (u ∷ ts) h [] after t e k =
    let first = heads u t ts after e in
    let below = h.0 (subst (λ (x : Placed). IsTrue (opens x)) (sym first.0) k.0) in
    absurd (omega (arith, below, k.1))
fits_shallow n (u ∷ ts) h (b ∷ before) after t e k =
    let first = heads u b ts (before ++ t ∷ after) e in
    fits_shallow (past u n) ts h.1 before after t first.1 (k.0, subst (λ (x : Placed). 2048 ≤ depth_from (past x n) before) (sym first.0) k.1)

shallow_fits : (n : ℕ) (ts : List Placed) → ShallowFrom n ts → Fits n (tokens_in ts)
shallow_fits n [] h = tt
shallow_fits n (u ∷ ts) h = (
  (λ e. below e),
  shallow_fits (past u n) ts (λ before after t is k. h (u ∷ before) after t (ap (λ (us : List Placed). u ∷ us) is) k),
)
  where
    not_above : ¬ (2048 ≤ n) → n < 2048
    not_above k = omega (arith, k)

    below : IsTrue (opens u) → n < 2048
    below e = not_above (λ deep. h [] ts u refl (e, deep))

-- the text of a query nests its braces and parentheses so deep
pub query_shallow : (header : List (List ℕ)) (p : Pattern) (ts : List Placed) → tokens_in ts ≡ query_tokens header p [] → IsShallow ts ↔ (nesting p ≤ 2048)
query_shallow header p ts e =
    let fits = (query_nests header p).on 0 [] (omega arith) in (
      (λ h. (let k = (fits.0 (subst (λ (us : List Token). Fits 0 us) e (shallow_fits 0 ts h))).0 in omega (arith, k))),
      (λ le. fits_shallow 0 ts (subst (λ (us : List Token). Fits 0 us) (sym e) (fits.1 (omega (arith, le), tt)))),
    )
