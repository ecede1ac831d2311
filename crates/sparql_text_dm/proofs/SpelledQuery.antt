-- The tokens of a query's text are the query, in the grammar.
use Rattle.std.proofs.Common.{◌≡◌, ◌≢◌, ◌∙◌, ℕ, zero, suc, ◌≤◌, max, List, [], ◌∷◌, ◌++◌, length, map, Bool, true, false, Option, Some, None, refl, sym, ap, subst, arith, le_refl, inl, inr, bytes_eq, cond, ◌||◌}
use Rattle.std.specs.Cmp.Lexicographic.{bytes_decides}
use denote.Hole.Carrier.{hidden}
use Rattle.solutions_dm.specs.declared.selects.Rename.{Rename}
use Rattle.solutions_dm.specs.Selects.{AreTargetsApart, is_target}
use Rattle.grammar_dm.specs.Part.{Part, Repeats, Spells}
use Rattle.grammar_dm.specs.Part.Part.{give, levels, or, repeated, then, token}
use Rattle.grammar_dm.specs.Part.Repeats.{no_repeat, one_more}
use Rattle.pattern_dm.specs.Formed.{IsWellFormed}
use Rattle.pattern_dm.specs.declared.pattern.Operand.{Operand}
use Rattle.pattern_dm.specs.declared.pattern.Operand.TheVariants as operands
use Rattle.pattern_dm.specs.declared.pattern.Condition.{Condition, end_of-Condition, more_of-Condition}
use Rattle.pattern_dm.specs.declared.pattern.Condition.TheVariants as conditions
use Rattle.pattern_dm.specs.declared.pattern.Condition.TheBlock.{shape-the_row-Condition-0, hidden-the_row-Condition-0}
use Rattle.pattern_dm.specs.declared.pattern.Pattern.{Pattern, end_of-Pattern, more_of-Pattern}
use Rattle.pattern_dm.specs.declared.pattern.Pattern.TheVariants as patterns
use Rattle.pattern_dm.specs.declared.pattern.Pattern.TheBlock.{shape-the_row-Pattern-0, hidden-the_row-Pattern-0}
use Rattle.sparql_tokens_dm.specs.Characters.{sign_text, spelling}
use Rattle.sparql_tokens_dm.specs.declared.token.Keyword.{Keyword}
use Rattle.sparql_tokens_dm.specs.declared.token.Keyword.TheVariants.{Select, Distinct, Where, As, Union, Minus, Optional, Filter, True, Bound, SameTerm}
use Rattle.sparql_tokens_dm.specs.declared.token.Sign.{Sign as Mark}
use Rattle.sparql_tokens_dm.specs.declared.token.Sign.TheVariants.{OpenBrace, CloseBrace, OpenParenthesis, CloseParenthesis, Dot, Comma, Not, And, Or}
use Rattle.sparql_tokens_dm.specs.declared.token.Token.{Token}
use Rattle.sparql_tokens_dm.specs.declared.token.Token.TheVariants.{Sign, Word, Var, Iri, Literal}
use Rattle.sparql_tokens_dm.specs.declared.token.Placed.{Placed}
use Rattle.sparql_tokens_dm.proofs.Pieces.{tokens_in}
use Rattle.sparql_text_dm.specs.declared.connective.Connective.{Connective}
use Rattle.sparql_text_dm.specs.declared.connective.Connective.TheVariants as connectives
use Rattle.sparql_text_dm.specs.Grammar.{bound, condition, connected, connection, content, filter, grouped, header, join_condition, left_join, negation, operator, optional_part, other_target, pattern, pattern_within, proper, proper_within, query, renamed, same_target, same_term, select, sign, target, targets, targets_within, term, terms, triple, true_or, variable, word}
use Rattle.sparql_text_dm.specs.Words.{asked, connective_of, new_name_of, operand_of, other_name_of, sign_of, unless_named, variable_of, word_of}
use Rattle.sparql_text_dm.specs.Written.{condition_nesting, join_nesting, nesting}
use Rattle.sparql_text_dm.proofs.WrittenTokens.{condition_tokens, filter_tokens, join_tokens, names_tokens, operand_token, other_tokens, pattern_tokens, query_tokens, rename_tokens, renames_tokens}

-- ---- the constructors as src/ writes them

not_is : (f : Condition) (a : _) → conditions.Not f ≡ conditions.Not' a (more_of-Condition f end_of-Condition)
unfolding shape-the_row-Condition-0 hidden-the_row-Condition-0 hidden
not_is f a = refl

both_are : (f g : Condition) (a b : _) → conditions.And f g ≡ conditions.And' a (more_of-Condition f end_of-Condition) b (more_of-Condition g end_of-Condition)
unfolding shape-the_row-Condition-0 hidden-the_row-Condition-0 hidden
both_are f g a b = refl

either_is : (f g : Condition) (a b : _) → conditions.Or f g ≡ conditions.Or' a (more_of-Condition f end_of-Condition) b (more_of-Condition g end_of-Condition)
unfolding shape-the_row-Condition-0 hidden-the_row-Condition-0 hidden
either_is f g a b = refl

and_is : (p q : Pattern) (a b : _) → patterns.And p q ≡ patterns.And' a (more_of-Pattern p end_of-Pattern) b (more_of-Pattern q end_of-Pattern)
unfolding shape-the_row-Pattern-0 hidden-the_row-Pattern-0 hidden
and_is p q a b = refl

left_join_is : (p q : Pattern) (f : Condition) (a b : _) → patterns.LeftJoin p q f ≡ patterns.LeftJoin' a (more_of-Pattern p end_of-Pattern) b (more_of-Pattern q end_of-Pattern) f
unfolding shape-the_row-Pattern-0 hidden-the_row-Pattern-0 hidden
left_join_is p q f a b = refl

union_is : (p q : Pattern) (a b : _) → patterns.Union p q ≡ patterns.Union' a (more_of-Pattern p end_of-Pattern) b (more_of-Pattern q end_of-Pattern)
unfolding shape-the_row-Pattern-0 hidden-the_row-Pattern-0 hidden
union_is p q a b = refl

minus_is : (p q : Pattern) (a b : _) → patterns.Minus p q ≡ patterns.Minus' a (more_of-Pattern p end_of-Pattern) b (more_of-Pattern q end_of-Pattern)
unfolding shape-the_row-Pattern-0 hidden-the_row-Pattern-0 hidden
minus_is p q a b = refl

filter_is : (p : Pattern) (f : Condition) (a : _) → patterns.Filter p f ≡ patterns.Filter' a (more_of-Pattern p end_of-Pattern) f
unfolding shape-the_row-Pattern-0 hidden-the_row-Pattern-0 hidden
filter_is p f a = refl

select_is : (p : Pattern) (rs : List Rename) (a : _) → patterns.Select p rs ≡ patterns.Select' a (more_of-Pattern p end_of-Pattern) rs
unfolding shape-the_row-Pattern-0 hidden-the_row-Pattern-0 hidden
select_is p rs a = refl

-- ---- parts by the tokens that spell them

-- the tokens, in front of any others, are the part with this value
record Spelled {V : Type 0} (part : Part Placed V) (adds : List Token → List Token) (v : V) : Type 0 where
  on : (more : List Token) (ts : List Placed) → tokens_in ts ≡ adds more → (rest : List Placed) × (tokens_in rest ≡ more) × Spells part ts rest v

nothing_is : {W : Type 0} (t : Token) (more : List Token) → [] ≡ t ∷ more → W
nothing_is t more e = absurd cc

heads : (t u : Token) (ts us : List Token) → t ∷ ts ≡ u ∷ us → (t ≡ u) × (ts ≡ us)
heads t u ts us e = (cc, cc)

first_is : (t : Token) (more : List Token) (ts : List Placed) → tokens_in ts ≡ t ∷ more → (u : Placed) × (rest : List Placed) × (ts ≡ u ∷ rest) × (u.token ≡ t) × (tokens_in rest ≡ more)
first_is t more [] e = nothing_is t more e
first_is t more (u ∷ us) e = let h = heads u.token t (tokens_in us) more e in (u, us, refl, h.0, h.1)

token_spelled : {V : Type 0} (test : Token → Option V) (t : Token) (v : V) → test t ≡ Some v → Spelled (token (λ (p : Placed). test p.token)) (λ more. t ∷ more) v
token_spelled test t v h = record { on = λ more ts e. let f = first_is t more ts e in (f.1, f.4, (f.0, f.2, ap test f.3 ∙ h)) }

give_spelled : {V : Type 0} (v : V) → Spelled (give v) (λ more. more) v
give_spelled v = record { on = λ more ts e. (ts, e, (refl, refl)) }

then_spelled : {A V : Type 0} {a : Part Placed A} {b : A → Part Placed V} {x : A} {v : V} {f g : List Token → List Token} → Spelled a f x → Spelled (b x) g v → Spelled (then a b) (λ more. f (g more)) v
then_spelled {x = x} {g = g} h k = record { on = λ more ts e. let one = h.on (g more) ts e in let two = k.on more one.0 one.1 in (two.0, two.1, (one.0, x, one.2, two.2)) }

first_spelled : {V : Type 0} {a b : Part Placed V} {v : V} {f : List Token → List Token} → Spelled a f v → Spelled (or a b) f v
first_spelled h = record { on = λ more ts e. let one = h.on more ts e in (one.0, one.1, inl one.2) }

second_spelled : {V : Type 0} {a b : Part Placed V} {v : V} {f : List Token → List Token} → Spelled b f v → Spelled (or a b) f v
second_spelled h = record { on = λ more ts e. let one = h.on more ts e in (one.0, one.1, inr one.2) }

levels_spelled : {V : Type 0} (p : ℕ → Part Placed V) (n : ℕ) {v : V} {f : List Token → List Token} → Spelled (p n) f v → Spelled (levels p) f v
levels_spelled p n h = record { on = λ more ts e. let one = h.on more ts e in (one.0, one.1, (n, one.2)) }

spelled_as : {V : Type 0} {a : Part Placed V} {v w : V} {f : List Token → List Token} → v ≡ w → Spelled a f v → Spelled a f w
spelled_as {V} {a} {f = f} e h = subst (λ (x : V). Spelled a f x) e h

-- ---- single tokens

sign_spelled : (s : Mark) → Spelled (sign s) (λ more. Sign s ∷ more) tt
sign_spelled s = token_spelled (sign_of s) (Sign s) tt (ap asked ((bytes_decides (sign_text s) (sign_text s)).1 refl))

word_spelled : (w : Keyword) → Spelled (word w) (λ more. Word w ∷ more) tt
word_spelled w = token_spelled (word_of w) (Word w) tt (ap asked ((bytes_decides (spelling w) (spelling w)).1 refl))

variable_spelled : (x : List ℕ) → Spelled variable (λ more. Var x ∷ more) x
variable_spelled x = token_spelled variable_of (Var x) x refl

is_operand_of : (p : Operand) → operand_of (operand_token p) ≡ Some p
is_operand_of (operands.Var x) = refl
is_operand_of (operands.Iri i) = refl
is_operand_of (operands.Literal l) = refl

term_spelled : (p : Operand) → Spelled term (λ more. operand_token p ∷ more) p
term_spelled p = token_spelled operand_of (operand_token p) p (is_operand_of p)

-- ---- conditions

bound_spelled : (x : List ℕ) → Spelled bound (condition_tokens (conditions.Bound x)) (conditions.Bound x)
unfolding bound
bound_spelled x = then_spelled (word_spelled Bound) (then_spelled (sign_spelled OpenParenthesis) (then_spelled (variable_spelled x) (then_spelled (sign_spelled CloseParenthesis) (give_spelled (conditions.Bound x)))))

terms_spelled : (p q : Operand) → Spelled terms (λ more. Sign OpenParenthesis ∷ operand_token p ∷ Sign Comma ∷ operand_token q ∷ Sign CloseParenthesis ∷ more) (p, q)
unfolding terms
terms_spelled p q = then_spelled (sign_spelled OpenParenthesis) (then_spelled (term_spelled p) (then_spelled (sign_spelled Comma) (then_spelled (term_spelled q) (then_spelled (sign_spelled CloseParenthesis) (give_spelled (p, q))))))

same_term_spelled : (p q : Operand) → Spelled same_term (condition_tokens (conditions.SameTerm p q)) (conditions.SameTerm p q)
unfolding same_term
same_term_spelled p q = then_spelled (word_spelled SameTerm) (then_spelled (terms_spelled p q) (give_spelled (conditions.SameTerm p q)))

module _ (c : Part Placed Condition) where
  negation_spelled : (f : Condition) → Spelled c (condition_tokens f) f → Spelled (negation c) (λ more. Sign Not ∷ condition_tokens f more) (conditions.Not f)
  unfolding negation
  negation_spelled f h = then_spelled (sign_spelled Not) (then_spelled h (give_spelled (conditions.Not f)))

  connection_spelled : (m : Connective) (s : Mark) → connective_of (Sign s) ≡ Some m → (f g : Condition) → Spelled c (condition_tokens f) f → Spelled c (condition_tokens g) g
      → Spelled (connection c) (λ more. condition_tokens f (Sign s ∷ condition_tokens g more)) (connected m f g)
  unfolding connection
  connection_spelled m s is f g h k = then_spelled h (then_spelled (token_spelled connective_of (Sign s) m is) (then_spelled k (give_spelled (connected m f g))))

  group_spelled : (f : Condition) {adds : List Token → List Token} → Spelled (or (negation c) (connection c)) adds f → Spelled (grouped c) (λ more. Sign OpenParenthesis ∷ adds (Sign CloseParenthesis ∷ more)) f
  unfolding grouped
  group_spelled f h = then_spelled (sign_spelled OpenParenthesis) (then_spelled h (then_spelled (sign_spelled CloseParenthesis) (give_spelled f)))

  filter_spelled : (f : Condition) → Spelled c (condition_tokens f) f → Spelled (filter c) (filter_tokens f) f
  unfolding filter
  filter_spelled f h = then_spelled (word_spelled Filter) (then_spelled (sign_spelled OpenParenthesis) (then_spelled h (then_spelled (sign_spelled CloseParenthesis) (give_spelled f))))

bound_within : (n : ℕ) (x : List ℕ) → Spelled (proper_within (suc n)) (condition_tokens (conditions.Bound x)) (conditions.Bound x)
unfolding proper_within
bound_within n x = first_spelled (bound_spelled x)

same_within : (n : ℕ) (p q : Operand) → Spelled (proper_within (suc n)) (condition_tokens (conditions.SameTerm p q)) (conditions.SameTerm p q)
unfolding proper_within
same_within n p q = second_spelled (first_spelled (same_term_spelled p q))

group_within : (n : ℕ) (f : Condition) {adds : List Token → List Token} → Spelled (or (negation (true_or (proper_within n))) (connection (true_or (proper_within n)))) adds f
    → Spelled (proper_within (suc n)) (λ more. Sign OpenParenthesis ∷ adds (Sign CloseParenthesis ∷ more)) f
unfolding proper_within
group_within n f h = second_spelled (second_spelled (group_spelled (true_or (proper_within n)) f h))

abbrev IsProper : Condition → Type 0
IsProper conditions.True = ⊥
IsProper f = Unit {0}

-- a condition is `true` or none of those that aren't
true_or_spelled : (c : Part Placed Condition) (f : Condition) → (IsProper f → Spelled c (condition_tokens f) f) → Spelled (true_or c) (condition_tokens f) f
true_or_spelled c conditions.True h = first_spelled (then_spelled (word_spelled True) (give_spelled conditions.True))
true_or_spelled c (conditions.Bound x) h = second_spelled (h tt)
true_or_spelled c (conditions.SameTerm p q) h = second_spelled (h tt)
true_or_spelled c (conditions.Not' a f) h = second_spelled (h tt)
true_or_spelled c (conditions.And' a f b g) h = second_spelled (h tt)
true_or_spelled c (conditions.Or' a f b g) h = second_spelled (h tt)

proper_spelled : (f : Condition) (n : ℕ) → IsProper f → condition_nesting f ≤ n → Spelled (proper_within n) (condition_tokens f) f
proper_spelled conditions.True n p le = absurd p
proper_spelled (conditions.Bound x) zero p le = absurd (omega (arith, le))
proper_spelled (conditions.Bound x) (suc n) p le = bound_within n x
proper_spelled (conditions.SameTerm s t) zero p le = absurd (omega (arith, le))
proper_spelled (conditions.SameTerm s t) (suc n) p le = same_within n s t
proper_spelled (conditions.Not' a (more_of-Condition f end_of-Condition)) zero p le = absurd (omega (arith, le))
proper_spelled (conditions.Not' a (more_of-Condition f end_of-Condition)) (suc n) p le =
    let inside = true_or_spelled (proper_within n) f (λ k. proper_spelled f n k (omega (arith, le))) in
    spelled_as (not_is f a) (group_within n (conditions.Not f) (first_spelled (negation_spelled (true_or (proper_within n)) f inside)))
proper_spelled (conditions.And' a (more_of-Condition f end_of-Condition) b (more_of-Condition g end_of-Condition)) zero p le = absurd (omega (arith, le))
proper_spelled (conditions.And' a (more_of-Condition f end_of-Condition) b (more_of-Condition g end_of-Condition)) (suc n) p le =
    let left = true_or_spelled (proper_within n) f (λ k. proper_spelled f n k (omega (arith, le))) in
    let right = true_or_spelled (proper_within n) g (λ k. proper_spelled g n k (omega (arith, le))) in
    spelled_as (both_are f g a b) (group_within n (conditions.And f g) (second_spelled (connection_spelled (true_or (proper_within n)) connectives.And And refl f g left right)))
proper_spelled (conditions.Or' a (more_of-Condition f end_of-Condition) b (more_of-Condition g end_of-Condition)) zero p le = absurd (omega (arith, le))
proper_spelled (conditions.Or' a (more_of-Condition f end_of-Condition) b (more_of-Condition g end_of-Condition)) (suc n) p le =
    let left = true_or_spelled (proper_within n) f (λ k. proper_spelled f n k (omega (arith, le))) in
    let right = true_or_spelled (proper_within n) g (λ k. proper_spelled g n k (omega (arith, le))) in
    spelled_as (either_is f g a b) (group_within n (conditions.Or f g) (second_spelled (connection_spelled (true_or (proper_within n)) connectives.Or Or refl f g left right)))

all_proper_spelled : (f : Condition) → IsProper f → Spelled proper (condition_tokens f) f
all_proper_spelled f p = levels_spelled proper_within (condition_nesting f) (proper_spelled f (condition_nesting f) p (le_refl _))

condition_spelled : (f : Condition) → Spelled condition (condition_tokens f) f
condition_spelled f = true_or_spelled proper f (λ p. all_proper_spelled f p)

join_spelled : (f : Condition) → Spelled join_condition (join_tokens f) f
join_spelled conditions.True = second_spelled (give_spelled conditions.True)
join_spelled (conditions.Bound x) = first_spelled (filter_spelled proper (conditions.Bound x) (all_proper_spelled (conditions.Bound x) tt))
join_spelled (conditions.SameTerm p q) = first_spelled (filter_spelled proper (conditions.SameTerm p q) (all_proper_spelled (conditions.SameTerm p q) tt))
join_spelled (conditions.Not' a f) = first_spelled (filter_spelled proper (conditions.Not' a f) (all_proper_spelled (conditions.Not' a f) tt))
join_spelled (conditions.And' a f b g) = first_spelled (filter_spelled proper (conditions.And' a f b g) (all_proper_spelled (conditions.And' a f b g) tt))
join_spelled (conditions.Or' a f b g) = first_spelled (filter_spelled proper (conditions.Or' a f b g) (all_proper_spelled (conditions.Or' a f b g) tt))

-- ---- targets

-- the new name of each rename is none of those before it
abbrev AreNew : List Rename → List Rename → Type 0
AreNew taken [] = Unit {0}
AreNew taken (r ∷ rs) = (is_target taken r.to ≡ false) × AreNew (taken ++ r ∷ []) rs

-- no new name is one of those taken
abbrev AllNew : List Rename → List Rename → Type 0
AllNew taken [] = Unit {0}
AllNew taken (r ∷ rs) = (is_target taken r.to ≡ false) × AllNew taken rs

or_parts : (a b : Bool) → (a || b) ≡ false → (a ≡ false) × (b ≡ false)
or_parts true b e = absurd cc
or_parts false b e = (refl, e)

or_both : (a b : Bool) → a ≡ false → b ≡ false → (a || b) ≡ false
or_both a b d e = rw (d, e) refl

other_way : (a b : List ℕ) → bytes_eq a b ≡ false → bytes_eq b a ≡ false
other_way a b e = by (bytes_eq b a) refl
  where
    two : (x : Bool) → x ≡ true → x ≡ false → ⊥
    two x d k = absurd cc

    by : (x : Bool) → bytes_eq b a ≡ x → x ≡ false
    by true h = absurd (two (bytes_eq a b) ((bytes_decides a b).1 (sym ((bytes_decides b a).0 h))) e)
    by false h = refl

target_behind : (taken : List Rename) (r : Rename) (x : List ℕ) → is_target taken x ≡ false → bytes_eq r.to x ≡ false → is_target (taken ++ r ∷ []) x ≡ false
target_behind [] r x e h = or_both (bytes_eq r.to x) false h refl
target_behind (t ∷ taken) r x e h = let parts = or_parts (bytes_eq t.to x) (is_target taken x) e in or_both (bytes_eq t.to x) _ parts.0 (target_behind taken r x parts.1 h)

one_more_taken : (taken : List Rename) (r : Rename) (rs : List Rename) → AllNew taken rs → is_target rs r.to ≡ false → AllNew (taken ++ r ∷ []) rs
one_more_taken taken r [] h e = tt
one_more_taken taken r (s ∷ rs) h e =
    let parts = or_parts (bytes_eq s.to r.to) (is_target rs r.to) e in
    (target_behind taken r s.to h.0 (other_way s.to r.to parts.0), one_more_taken taken r rs h.1 parts.1)

new_if_apart : (taken rs : List Rename) → AllNew taken rs → AreTargetsApart rs → AreNew taken rs
new_if_apart taken [] h apart = tt
new_if_apart taken (r ∷ rs) h apart = (h.0, new_if_apart (taken ++ r ∷ []) rs (one_more_taken taken r rs h.1 apart.0) apart.1)

none_taken : (rs : List Rename) → AllNew [] rs
none_taken [] = tt
none_taken (r ∷ rs) = (refl, none_taken rs)

abbrev name_by : Bool → List ℕ → Option (List ℕ)
name_by b x = cond b None (Some x)

new_name_spelled : (taken : List Rename) (x : List ℕ) → is_target taken x ≡ false → Spelled (token (λ (t : Placed). new_name_of taken t.token)) (λ more. Var x ∷ more) x
new_name_spelled taken x e = token_spelled (new_name_of taken) (Var x) x (ap (λ b. name_by b x) e)

other_name_spelled : (taken : List Rename) (x y : List ℕ) → is_target taken y ≡ false → bytes_eq x y ≡ false → Spelled (token (λ (t : Placed). other_name_of taken x t.token)) (λ more. Var y ∷ more) y
other_name_spelled taken x y e n = token_spelled (other_name_of taken x) (Var y) y (ap (λ b. unless_named x (name_by b y)) e ∙ ap (λ b. name_by b y) n)

same_target_spelled : (taken : List Rename) (x : List ℕ) → is_target taken x ≡ false → Spelled (same_target taken) (λ more. Var x ∷ more) (renamed x x)
unfolding same_target
same_target_spelled taken x e = then_spelled (new_name_spelled taken x e) (give_spelled (renamed x x))

other_target_spelled : (taken : List Rename) (r : Rename) → is_target taken r.to ≡ false → bytes_eq r.from r.to ≡ false → Spelled (other_target taken) (other_tokens r) r
unfolding other_target
other_target_spelled taken r e n =
    then_spelled (sign_spelled OpenParenthesis) (then_spelled (variable_spelled r.from) (then_spelled (word_spelled As) (then_spelled (other_name_spelled taken r.from r.to e n) (then_spelled (sign_spelled CloseParenthesis) (give_spelled r)))))

target_spelled : (taken : List Rename) (r : Rename) → is_target taken r.to ≡ false → Spelled (target taken) (rename_tokens r) r
unfolding target
target_spelled taken r e = by (bytes_eq r.from r.to) refl
  where
    by : (b : Bool) → bytes_eq r.from r.to ≡ b → Spelled (or (other_target taken) (same_target taken)) (λ more. cond b (Var r.to ∷ more) (other_tokens r more)) r
    by true h = second_spelled (spelled_as (ap (λ x. renamed x r.to) (sym ((bytes_decides r.from r.to).0 h))) (same_target_spelled taken r.to e))
    by false h = first_spelled (other_target_spelled taken r e h)

targets_within_spelled : (rs taken : List Rename) → AreNew taken rs → Spelled (targets_within (length rs) taken) (renames_tokens rs) rs
unfolding targets_within
targets_within_spelled [] taken h = give_spelled []
targets_within_spelled (r ∷ rs) taken h = first_spelled (then_spelled (target_spelled taken r h.0) (then_spelled (targets_within_spelled rs (taken ++ r ∷ []) h.1) (give_spelled (r ∷ rs))))

new_targets_spelled : (r : Rename) (rs : List Rename) → AreNew [] (r ∷ rs) → Spelled targets (renames_tokens (r ∷ rs)) (r ∷ rs)
unfolding targets
new_targets_spelled r rs h = then_spelled (target_spelled [] r h.0) (then_spelled (levels_spelled (λ n. targets_within n (r ∷ [])) (length rs) (targets_within_spelled rs (r ∷ []) h.1)) (give_spelled (r ∷ rs)))

targets_spelled : (rs : List Rename) → rs ≢ [] → AreTargetsApart rs → Spelled targets (renames_tokens rs) rs
targets_spelled [] some apart = absurd (some refl)
targets_spelled (r ∷ rs) some apart = new_targets_spelled r rs (new_if_apart [] (r ∷ rs) (none_taken (r ∷ rs)) apart)

-- ---- patterns

triple_spelled : (s p o : Operand) → Spelled triple (λ more. operand_token s ∷ operand_token p ∷ operand_token o ∷ Sign Dot ∷ more) (patterns.Triple s p o)
unfolding triple
triple_spelled s p o = then_spelled (term_spelled s) (then_spelled (term_spelled p) (then_spelled (term_spelled o) (then_spelled (sign_spelled Dot) (give_spelled (patterns.Triple s p o)))))

module _ (part : Part Placed Pattern) where
  abbrev Here : Pattern → Type 0
  Here p = Spelled part (pattern_tokens p) p

  select_spelled : (p : Pattern) (rs : List Rename) → rs ≢ [] → AreTargetsApart rs → Here p → Spelled (select part) (λ more. Word Select ∷ renames_tokens rs (Word Where ∷ pattern_tokens p more)) (patterns.Select p rs)
  unfolding select
  select_spelled p rs some apart h = then_spelled (word_spelled Select) (then_spelled (targets_spelled rs some apart) (then_spelled (word_spelled Where) (then_spelled h (give_spelled (patterns.Select p rs)))))

  optional_spelled : (q : Pattern) (f : Condition) → Here q → Spelled (optional_part part) (λ more. Word Optional ∷ Sign OpenBrace ∷ pattern_tokens q (join_tokens f (Sign CloseBrace ∷ more))) (q, f)
  unfolding optional_part
  optional_spelled q f h = then_spelled (word_spelled Optional) (then_spelled (sign_spelled OpenBrace) (then_spelled h (then_spelled (join_spelled f) (then_spelled (sign_spelled CloseBrace) (give_spelled (q, f))))))

  left_join_spelled : (p q : Pattern) (f : Condition) → Here q → Spelled (left_join part p) (λ more. Word Optional ∷ Sign OpenBrace ∷ pattern_tokens q (join_tokens f (Sign CloseBrace ∷ more))) (patterns.LeftJoin p q f)
  unfolding left_join
  left_join_spelled p q f h = then_spelled (optional_spelled q f h) (give_spelled (patterns.LeftJoin p q f))

  union_operator : (p q : Pattern) → Here q → Spelled (operator part p) (λ more. Word Union ∷ pattern_tokens q more) (patterns.Union p q)
  unfolding operator
  union_operator p q h = first_spelled (then_spelled (word_spelled Union) (then_spelled h (give_spelled (patterns.Union p q))))

  minus_operator : (p q : Pattern) → Here q → Spelled (operator part p) (λ more. Word Minus ∷ pattern_tokens q more) (patterns.Minus p q)
  unfolding operator
  minus_operator p q h = second_spelled (first_spelled (then_spelled (word_spelled Minus) (then_spelled h (give_spelled (patterns.Minus p q)))))

  left_join_operator : (p q : Pattern) (f : Condition) → Here q → Spelled (operator part p) (λ more. Word Optional ∷ Sign OpenBrace ∷ pattern_tokens q (join_tokens f (Sign CloseBrace ∷ more))) (patterns.LeftJoin p q f)
  unfolding operator
  left_join_operator p q f h = second_spelled (second_spelled (first_spelled (left_join_spelled p q f h)))

  filter_operator : (p : Pattern) (f : Condition) → Spelled (operator part p) (filter_tokens f) (patterns.Filter p f)
  unfolding operator
  filter_operator p f = second_spelled (second_spelled (second_spelled (first_spelled (then_spelled (filter_spelled condition f (condition_spelled f)) (give_spelled (patterns.Filter p f))))))

  and_operator : (p q : Pattern) → Here q → Spelled (operator part p) (pattern_tokens q) (patterns.And p q)
  unfolding operator
  and_operator p q h = second_spelled (second_spelled (second_spelled (second_spelled (then_spelled h (give_spelled (patterns.And p q))))))

  triple_content : (s p o : Operand) → Spelled (content part) (λ more. operand_token s ∷ operand_token p ∷ operand_token o ∷ Sign Dot ∷ more) (patterns.Triple s p o)
  unfolding content
  triple_content s p o = first_spelled (triple_spelled s p o)

  select_content : (p : Pattern) (rs : List Rename) → rs ≢ [] → AreTargetsApart rs → Here p → Spelled (content part) (λ more. Word Select ∷ renames_tokens rs (Word Where ∷ pattern_tokens p more)) (patterns.Select p rs)
  unfolding content
  select_content p rs some apart h = second_spelled (first_spelled (select_spelled p rs some apart h))

  operator_content : (p r : Pattern) {adds : List Token → List Token} → Here p → Spelled (operator part p) adds r → Spelled (content part) (λ more. pattern_tokens p (adds more)) r
  unfolding content
  operator_content p r h k = second_spelled (second_spelled (first_spelled (then_spelled h k)))

  empty_content : Spelled (content part) (λ more. more) patterns.Empty
  unfolding content
  empty_content = second_spelled (second_spelled (second_spelled (give_spelled patterns.Empty)))

in_braces : (n : ℕ) (p : Pattern) {adds : List Token → List Token} → Spelled (content (pattern_within n)) adds p → Spelled (pattern_within (suc n)) (λ more. Sign OpenBrace ∷ adds (Sign CloseBrace ∷ more)) p
unfolding pattern_within
in_braces n p h = then_spelled (sign_spelled OpenBrace) (then_spelled h (then_spelled (sign_spelled CloseBrace) (give_spelled p)))

pattern_spelled : (p : Pattern) (n : ℕ) → IsWellFormed p → nesting p ≤ n → Spelled (pattern_within n) (pattern_tokens p) p
pattern_spelled patterns.Empty zero w le = absurd (omega (arith, le))
pattern_spelled patterns.Empty (suc n) w le = in_braces n patterns.Empty (empty_content (pattern_within n))
pattern_spelled (patterns.Triple s p o) zero w le = absurd (omega (arith, le))
pattern_spelled (patterns.Triple s p o) (suc n) w le = in_braces n (patterns.Triple s p o) (triple_content (pattern_within n) s p o)
pattern_spelled (patterns.And' a (more_of-Pattern p end_of-Pattern) b (more_of-Pattern q end_of-Pattern)) zero w le = absurd (omega (arith, le))
pattern_spelled (patterns.And' a (more_of-Pattern p end_of-Pattern) b (more_of-Pattern q end_of-Pattern)) (suc n) w le =
    let left = pattern_spelled p n w.0 (omega (arith, le)) in
    let right = pattern_spelled q n w.1 (omega (arith, le)) in
    spelled_as (and_is p q a b) (in_braces n (patterns.And p q) (operator_content (pattern_within n) p (patterns.And p q) left (and_operator (pattern_within n) p q right)))
pattern_spelled (patterns.LeftJoin' a (more_of-Pattern p end_of-Pattern) b (more_of-Pattern q end_of-Pattern) f) zero w le = absurd (omega (arith, le))
pattern_spelled (patterns.LeftJoin' a (more_of-Pattern p end_of-Pattern) b (more_of-Pattern q end_of-Pattern) f) (suc n) w le =
    let left = pattern_spelled p n w.0 (omega (arith, le)) in
    let right = pattern_spelled q n w.1 (omega (arith, le)) in
    spelled_as (left_join_is p q f a b) (in_braces n (patterns.LeftJoin p q f) (operator_content (pattern_within n) p (patterns.LeftJoin p q f) left (left_join_operator (pattern_within n) p q f right)))
pattern_spelled (patterns.Union' a (more_of-Pattern p end_of-Pattern) b (more_of-Pattern q end_of-Pattern)) zero w le = absurd (omega (arith, le))
pattern_spelled (patterns.Union' a (more_of-Pattern p end_of-Pattern) b (more_of-Pattern q end_of-Pattern)) (suc n) w le =
    let left = pattern_spelled p n w.0 (omega (arith, le)) in
    let right = pattern_spelled q n w.1 (omega (arith, le)) in
    spelled_as (union_is p q a b) (in_braces n (patterns.Union p q) (operator_content (pattern_within n) p (patterns.Union p q) left (union_operator (pattern_within n) p q right)))
pattern_spelled (patterns.Minus' a (more_of-Pattern p end_of-Pattern) b (more_of-Pattern q end_of-Pattern)) zero w le = absurd (omega (arith, le))
pattern_spelled (patterns.Minus' a (more_of-Pattern p end_of-Pattern) b (more_of-Pattern q end_of-Pattern)) (suc n) w le =
    let left = pattern_spelled p n w.0 (omega (arith, le)) in
    let right = pattern_spelled q n w.1 (omega (arith, le)) in
    spelled_as (minus_is p q a b) (in_braces n (patterns.Minus p q) (operator_content (pattern_within n) p (patterns.Minus p q) left (minus_operator (pattern_within n) p q right)))
pattern_spelled (patterns.Filter' a (more_of-Pattern p end_of-Pattern) f) zero w le = absurd (omega (arith, le))
pattern_spelled (patterns.Filter' a (more_of-Pattern p end_of-Pattern) f) (suc n) w le =
    let inside = pattern_spelled p n w (omega (arith, le)) in
    spelled_as (filter_is p f a) (in_braces n (patterns.Filter p f) (operator_content (pattern_within n) p (patterns.Filter p f) inside (filter_operator (pattern_within n) p f)))
pattern_spelled (patterns.Select' a (more_of-Pattern p end_of-Pattern) rs) zero w le = absurd (omega (arith, le))
pattern_spelled (patterns.Select' a (more_of-Pattern p end_of-Pattern) rs) (suc n) w le =
    let inside = pattern_spelled p n w.0 (omega (arith, le)) in
    spelled_as (select_is p rs a) (in_braces n (patterns.Select p rs) (select_content (pattern_within n) p rs w.1.0 w.1.1 inside))

whole_spelled : (p : Pattern) → IsWellFormed p → Spelled pattern (pattern_tokens p) p
whole_spelled p w = levels_spelled pattern_within (nesting p) (pattern_spelled p (nesting p) w (le_refl _))

-- ---- queries

names_spelled : (xs : List (List ℕ)) → Spelled (repeated variable) (names_tokens xs) xs
names_spelled [] = record { on = λ more ts e. (ts, e, no_repeat) }
names_spelled (x ∷ xs) = record {
  on = λ more ts e.
      let one = (variable_spelled x).on (names_tokens xs more) ts e in
      let others = (names_spelled xs).on more one.0 one.1 in
      (others.0, others.1, one_more one.2 others.2);
}

header_spelled : (xs : List (List ℕ)) → xs ≢ [] → Spelled header (names_tokens xs) xs
unfolding header
header_spelled [] some = absurd (some refl)
header_spelled (x ∷ xs) some = then_spelled (variable_spelled x) (then_spelled (names_spelled xs) (give_spelled (x ∷ xs)))

query_spelled : (xs : List (List ℕ)) (p : Pattern) → xs ≢ [] → IsWellFormed p → Spelled query (query_tokens xs p) (xs, p)
unfolding query
query_spelled xs p some w = then_spelled (word_spelled Select) (then_spelled (word_spelled Distinct) (then_spelled (header_spelled xs some) (then_spelled (word_spelled Where) (then_spelled (whole_spelled p w) (give_spelled (xs, p))))))

-- the tokens are this query
pub tokens_spell : (xs : List (List ℕ)) (p : Pattern) (ts : List Placed) → xs ≢ [] → IsWellFormed p → tokens_in ts ≡ query_tokens xs p [] → Spells query ts [] (xs, p)
tokens_spell xs p ts some w e =
    let h = (query_spelled xs p some w).on [] ts e in
    subst (λ (rest : List Placed). Spells query ts rest (xs, p)) (none h.0 h.1) h.2
  where
    none : (rest : List Placed) → tokens_in rest ≡ [] → rest ≡ []
    none [] e = refl
    none (t ∷ rest) e = nothing_is t.token (tokens_in rest) (sym e)
