-- What tokens spell is formed, and has these tokens as the tokens of its text.
use Rattle.std.proofs.Common.{◌≡◌, ◌≢◌, ◌∙◌, ℕ, zero, suc, List, [], ◌∷◌, ◌++◌, Bool, true, false, Option, Some, None, refl, sym, ap, subst, inl, inr, bytes_eq, cond, ◌||◌}
use Rattle.std.specs.Cmp.Lexicographic.{bytes_decides}
use denote.Hole.Carrier.{hidden}
use Rattle.solutions_dm.specs.declared.selects.Rename.{Rename}
use Rattle.solutions_dm.specs.Selects.{AreTargetsApart, is_target}
use Rattle.grammar_dm.specs.Part.{Part, Repeats, Spells, never}
use Rattle.grammar_dm.specs.Part.Part.{give, levels, or, repeated, then, token}
use Rattle.grammar_dm.specs.Part.Repeats.{no_repeat, one_more}
use Rattle.pattern_dm.specs.Formed.{AreSelectable, IsWellFormed}
use Rattle.pattern_dm.specs.declared.pattern.Operand.{Operand}
use Rattle.pattern_dm.specs.declared.pattern.Operand.TheVariants as operands
use Rattle.pattern_dm.specs.declared.pattern.Condition.{Condition}
use Rattle.pattern_dm.specs.declared.pattern.Condition.TheVariants as conditions
use Rattle.pattern_dm.specs.declared.pattern.Condition.TheBlock.{shape-the_row-Condition-0, hidden-the_row-Condition-0}
use Rattle.pattern_dm.specs.declared.pattern.Pattern.{Pattern}
use Rattle.pattern_dm.specs.declared.pattern.Pattern.TheVariants as patterns
use Rattle.pattern_dm.specs.declared.pattern.Pattern.TheBlock.{shape-the_row-Pattern-0, hidden-the_row-Pattern-0}
use Rattle.sparql_tokens_dm.specs.Characters.{sign_text, spelling}
use Rattle.sparql_tokens_dm.specs.Scanning.{Lexeme, keyword_named}
use Rattle.sparql_tokens_dm.specs.Scanning.Lexeme.{Found}
use Rattle.sparql_tokens_dm.specs.declared.token.Keyword.{Keyword}
use Rattle.sparql_tokens_dm.specs.declared.token.Keyword.TheVariants.{Select, Distinct, Where, As, Union, Minus, Optional, Filter, True, Bound, SameTerm}
use Rattle.sparql_tokens_dm.specs.declared.token.Sign.{Sign as Mark}
use Rattle.sparql_tokens_dm.specs.declared.token.Sign.TheVariants.{OpenBrace, CloseBrace, OpenParenthesis, CloseParenthesis, Dot, Comma, Not, And, Or}
use Rattle.sparql_tokens_dm.specs.declared.token.Token.{Token}
use Rattle.sparql_tokens_dm.specs.declared.token.Token.TheVariants.{Sign, Word, Var, Iri, Literal}
use Rattle.sparql_tokens_dm.specs.declared.token.Placed.{Placed}
use Rattle.sparql_tokens_dm.proofs.Keywords.{keyword_found}
use Rattle.sparql_tokens_dm.proofs.Pieces.{tokens_in}
use Rattle.sparql_tokens_dm.proofs.Scans.{token_found}
use Rattle.sparql_text_dm.specs.declared.connective.Connective.{Connective}
use Rattle.sparql_text_dm.specs.declared.connective.Connective.TheVariants as connectives
use Rattle.sparql_text_dm.specs.Grammar.{bound, condition, connected, connection, content, filter, grouped, header, join_condition, left_join, negation, operator, optional_part, other_target, pattern, pattern_within, proper, proper_within, query, Query, renamed, same_target, same_term, select, sign, target, targets, targets_within, term, terms, triple, true_or, variable, word}
use Rattle.sparql_text_dm.specs.Words.{Mark as There, asked, connective_of, new_name_of, operand_of, other_name_of, sign_of, unless_named, unless_target, variable_of, word_of}
use Rattle.sparql_text_dm.proofs.WrittenTokens.{condition_tokens, filter_tokens, join_tokens, names_tokens, operand_token, other_tokens, pattern_tokens, query_tokens, rename_tokens, renames_tokens}

-- ---- what holds of a part's value, its tokens with all behind them, and those behind them

record Tells {V : Type 0} (part : Part Placed V) (R : V → List Token → List Token → Type 0) : Type 0 where
  on : (ts rest : List Placed) (v : V) → Spells part ts rest v → R v (tokens_in ts) (tokens_in rest)

give_tells : {V : Type 0} {v : V} {R : V → List Token → List Token → Type 0} → ((end : List Token) → R v end end) → Tells (give v) R
give_tells {V} {v} {R} h = record {
  on = λ ts rest w s. subst (λ (x : V). R x (tokens_in ts) (tokens_in rest)) (sym s.1) (subst (λ (us : List Placed). R v (tokens_in ts) (tokens_in us)) s.0 (h (tokens_in ts)));
}

then_tells : {A V : Type 0} {a : Part Placed A} {b : A → Part Placed V} {Q : A → List Token → List Token → Type 0} {R : V → List Token → List Token → Type 0}
    → Tells a Q → ((x : A) → Tells (b x) (λ v mid end. (front : List Token) → Q x front mid → R v front end)) → Tells (then a b) R
then_tells h k = record { on = λ ts rest v s. (k s.1).on s.0 rest v s.3 (tokens_in ts) (h.on ts s.0 s.1 s.2) }

or_tells : {V : Type 0} {a b : Part Placed V} {R : V → List Token → List Token → Type 0} → Tells a R → Tells b R → Tells (or a b) R
or_tells h k = record { on = λ ts rest v s. elim s [ inl l ↦ h.on ts rest v l | inr r ↦ k.on ts rest v r ] }

levels_tells : {V : Type 0} {p : ℕ → Part Placed V} {R : V → List Token → List Token → Type 0} → ((n : ℕ) → Tells (p n) R) → Tells (levels p) R
levels_tells h = record { on = λ ts rest v s. (h s.0).on ts rest v s.1 }

never_tells : {V : Type 0} {R : V → List Token → List Token → Type 0} → Tells (never {T = Placed} {V = V}) R
never_tells = record { on = λ ts rest v s. none_some v s.2 }
  where
    none_some : {W : Type 0} {X : Type 0} (v : X) → ◌≡◌ {A = Option X} None (Some v) → W
    none_some v e = absurd cc

weaker : {V : Type 0} {a : Part Placed V} {Q R : V → List Token → List Token → Type 0} → ((v : V) (front end : List Token) → Q v front end → R v front end) → Tells a Q → Tells a R
weaker f h = record { on = λ ts rest v s. f v (tokens_in ts) (tokens_in rest) (h.on ts rest v s) }

-- the tokens in front are those that the value makes
abbrev Adds : {V : Type 0} → (V → List Token → List Token) → V → List Token → List Token → Type 0
Adds f v front end = front ≡ f v end

token_tells : {V : Type 0} {test : Token → Option V} {R : V → Token → Type 0} → ((t : Token) (v : V) → test t ≡ Some v → R v t) → Tells (token (λ (p : Placed). test p.token)) (λ v front end. (t : Token) × (front ≡ t ∷ end) × R v t)
token_tells h = record { on = λ ts rest v s. (s.0.token, ap tokens_in s.1, h s.0.token v s.2) }

-- ---- single tokens

asked_true : (b : Bool) (m : There) → asked b ≡ Some m → b ≡ true
asked_true true m e = refl
asked_true false m e = absurd cc

none_some : {X : Type 0} {W : Type 0} (v : X) → ◌≡◌ {A = Option X} None (Some v) → W
none_some v e = absurd cc

some_is : {X : Type 0} (v w : X) → ◌≡◌ {A = Option X} (Some v) (Some w) → v ≡ w
some_is v w e = cc

found_sign : (s r : Mark) (a b : List ℕ) → Found (Sign s) a ≡ Found (Sign r) b → s ≡ r
found_sign s r a b e = cc

one_sign : (s r : Mark) → sign_text s ≡ sign_text r → s ≡ r
one_sign s r e = found_sign s r [] [] (sym (token_found (Sign s) (sign_text s ++ []) [] refl) ∙ token_found (Sign r) (sign_text s ++ []) [] (ap (λ us. us ++ []) e))

is_sign : (s : Mark) (t : Token) (m : There) → sign_of s t ≡ Some m → t ≡ Sign s
is_sign s (Sign r) m e = ap (λ x. Sign x) (one_sign r s ((bytes_decides (sign_text r) (sign_text s)).0 (asked_true (bytes_eq (sign_text r) (sign_text s)) m e)))
is_sign s (Word w) m e = none_some m e
is_sign s (Var x) m e = none_some m e
is_sign s (Iri i) m e = none_some m e
is_sign s (Literal l) m e = none_some m e

is_word : (w : Keyword) (t : Token) (m : There) → word_of w t ≡ Some m → t ≡ Word w
is_word w (Word v) m e =
    let same = (bytes_decides (spelling v) (spelling w)).0 (asked_true (bytes_eq (spelling v) (spelling w)) m e) in
    ap (λ x. Word x) (some_is v w (sym (keyword_found v) ∙ ap keyword_named same ∙ keyword_found w))
is_word w (Sign s) m e = none_some m e
is_word w (Var x) m e = none_some m e
is_word w (Iri i) m e = none_some m e
is_word w (Literal l) m e = none_some m e

then_told : {A V : Type 0} {a : Part Placed A} {b : A → Part Placed V} {f : A → List Token → List Token} {R : V → List Token → List Token → Type 0}
    → Tells a (Adds f) → ((x : A) → Tells (b x) (λ v mid end. R v (f x mid) end)) → Tells (then a b) R
then_told {R = R} h k = record { on = λ ts rest v s. subst (λ (us : List Token). R v us (tokens_in rest)) (sym (h.on ts s.0 s.1 s.2)) ((k s.1).on s.0 rest v s.3) }

sign_tells : (s : Mark) → Tells (sign s) (Adds (λ m end. Sign s ∷ end))
sign_tells s = weaker (λ m front end h. h.1 ∙ ap (λ t. t ∷ end) h.2) (token_tells {R = λ m t. t ≡ Sign s} (λ t m e. is_sign s t m e))

word_tells : (w : Keyword) → Tells (word w) (Adds (λ m end. Word w ∷ end))
word_tells w = weaker (λ m front end h. h.1 ∙ ap (λ t. t ∷ end) h.2) (token_tells {R = λ m t. t ≡ Word w} (λ t m e. is_word w t m e))

is_variable : (t : Token) (x : List ℕ) → variable_of t ≡ Some x → t ≡ Var x
is_variable (Var y) x e = ap (λ z. Var z) (some_is y x e)
is_variable (Word w) x e = none_some x e
is_variable (Sign s) x e = none_some x e
is_variable (Iri i) x e = none_some x e
is_variable (Literal l) x e = none_some x e

variable_tells : Tells variable (Adds (λ x end. Var x ∷ end))
variable_tells = weaker (λ x front end h. h.1 ∙ ap (λ t. t ∷ end) h.2) (token_tells {R = λ x t. t ≡ Var x} is_variable)

is_operand : (t : Token) (p : Operand) → operand_of t ≡ Some p → t ≡ operand_token p
is_operand (Var y) p e = ap operand_token (some_is (operands.Var y) p e)
is_operand (Iri i) p e = ap operand_token (some_is (operands.Iri i) p e)
is_operand (Literal l) p e = ap operand_token (some_is (operands.Literal l) p e)
is_operand (Word w) p e = none_some p e
is_operand (Sign s) p e = none_some p e

term_tells : Tells term (Adds (λ p end. operand_token p ∷ end))
term_tells = weaker (λ p front end h. h.1 ∙ ap (λ t. t ∷ end) h.2) (token_tells {R = λ p t. t ≡ operand_token p} is_operand)

abbrev mark_of : Connective → Mark
mark_of connectives.And = And
mark_of connectives.Or = Or

is_connective : (t : Token) (m : Connective) → connective_of t ≡ Some m → t ≡ Sign (mark_of m)
is_connective (Sign And) m e = ap (λ x. Sign (mark_of x)) (some_is connectives.And m e)
is_connective (Sign Or) m e = ap (λ x. Sign (mark_of x)) (some_is connectives.Or m e)
is_connective (Sign OpenBrace) m e = none_some m e
is_connective (Sign CloseBrace) m e = none_some m e
is_connective (Sign OpenParenthesis) m e = none_some m e
is_connective (Sign CloseParenthesis) m e = none_some m e
is_connective (Sign Dot) m e = none_some m e
is_connective (Sign Comma) m e = none_some m e
is_connective (Sign Not) m e = none_some m e
is_connective (Word w) m e = none_some m e
is_connective (Var x) m e = none_some m e
is_connective (Iri i) m e = none_some m e
is_connective (Literal l) m e = none_some m e

connective_tells : Tells (token (λ (t : Placed). connective_of t.token)) (Adds (λ m end. Sign (mark_of m) ∷ end))
connective_tells = weaker (λ m front end h. h.1 ∙ ap (λ t. t ∷ end) h.2) (token_tells {R = λ m t. t ≡ Sign (mark_of m)} is_connective)

-- ---- conditions

not_tokens : (f : Condition) (more : List Token) → condition_tokens (conditions.Not f) more ≡ Sign OpenParenthesis ∷ Sign Not ∷ condition_tokens f (Sign CloseParenthesis ∷ more)
unfolding shape-the_row-Condition-0 hidden-the_row-Condition-0 hidden
not_tokens f more = refl

connected_tokens : (m : Connective) (f g : Condition) (more : List Token) → condition_tokens (connected m f g) more ≡ Sign OpenParenthesis ∷ condition_tokens f (Sign (mark_of m) ∷ condition_tokens g (Sign CloseParenthesis ∷ more))
unfolding shape-the_row-Condition-0 hidden-the_row-Condition-0 hidden
connected_tokens connectives.And f g more = refl
connected_tokens connectives.Or f g more = refl

abbrev IsProper : Condition → Type 0
IsProper conditions.True = ⊥
IsProper f = Unit {0}

not_proper : (f : Condition) → IsProper (conditions.Not f)
unfolding shape-the_row-Condition-0 hidden-the_row-Condition-0 hidden
not_proper f = tt

connected_proper : (m : Connective) (f g : Condition) → IsProper (connected m f g)
unfolding shape-the_row-Condition-0 hidden-the_row-Condition-0 hidden
connected_proper connectives.And f g = tt
connected_proper connectives.Or f g = tt

abbrev IsAny : Condition → Type 0
IsAny f = Unit {0}

-- tokens of a condition of which more is known
abbrev Said : (Condition → Type 0) → Condition → List Token → List Token → Type 0
Said E f front end = (front ≡ condition_tokens f end) × E f

bound_tells : Tells bound (Said IsProper)
unfolding bound
bound_tells = then_told (word_tells Bound) (λ _. then_told (sign_tells OpenParenthesis) (λ _. then_told variable_tells (λ x. then_told (sign_tells CloseParenthesis) (λ _. give_tells (λ end. (refl, tt))))))

terms_tells : Tells terms (Adds (λ x end. Sign OpenParenthesis ∷ operand_token x.0 ∷ Sign Comma ∷ operand_token x.1 ∷ Sign CloseParenthesis ∷ end))
unfolding terms
terms_tells = then_told (sign_tells OpenParenthesis) (λ _. then_told term_tells (λ p. then_told (sign_tells Comma) (λ _. then_told term_tells (λ q. then_told (sign_tells CloseParenthesis) (λ _. give_tells (λ end. refl))))))

same_term_tells : Tells same_term (Said IsProper)
unfolding same_term
same_term_tells = then_told (word_tells SameTerm) (λ _. then_told terms_tells (λ x. give_tells (λ end. (refl, tt))))

-- what stands in parentheses
abbrev Grouped : Condition → List Token → List Token → Type 0
Grouped f front mid = ((end : List Token) → mid ≡ Sign CloseParenthesis ∷ end → Sign OpenParenthesis ∷ front ≡ condition_tokens f end) × IsProper f

module _ (c : Part Placed Condition) (inside : Tells c (Said IsAny)) where
  part_tells : Tells c (Adds condition_tokens)
  part_tells = weaker (λ f front end h. h.0) inside

  negation_tells : Tells (negation c) Grouped
  unfolding negation
  negation_tells = then_told (sign_tells Not) (λ _. then_told part_tells (λ f. give_tells (λ mid. ((λ end e. ap (λ us. Sign OpenParenthesis ∷ Sign Not ∷ condition_tokens f us) e ∙ sym (not_tokens f end)), not_proper f))))

  connection_tells : Tells (connection c) Grouped
  unfolding connection
  connection_tells = then_told part_tells (λ f. then_told connective_tells (λ m. then_told part_tells (λ g. give_tells (λ mid. (
    (λ end e. ap (λ us. Sign OpenParenthesis ∷ condition_tokens f (Sign (mark_of m) ∷ condition_tokens g us)) e ∙ sym (connected_tokens m f g end)),
    connected_proper m f g,
  )))))

  grouped_tells : Tells (grouped c) (Said IsProper)
  unfolding grouped
  grouped_tells = then_told (sign_tells OpenParenthesis) (λ _. then_tells (or_tells negation_tells connection_tells) (λ f. then_told (sign_tells CloseParenthesis) (λ _. give_tells (λ end front h. (h.0 end refl, h.1)))))

true_or_tells : (c : Part Placed Condition) → Tells c (Said IsProper) → Tells (true_or c) (Said IsAny)
true_or_tells c h = or_tells (then_told (word_tells True) (λ _. give_tells (λ end. (refl, tt)))) (weaker (λ f front end k. (k.0, tt)) h)

within_tells : (n : ℕ) → Tells (proper_within n) (Said IsProper)
unfolding proper_within
within_tells zero = never_tells
within_tells (suc n) = or_tells bound_tells (or_tells same_term_tells (grouped_tells (true_or (proper_within n)) (true_or_tells (proper_within n) (within_tells n))))

proper_tells : Tells proper (Said IsProper)
proper_tells = levels_tells within_tells

condition_tells : Tells condition (Said IsAny)
condition_tells = true_or_tells proper proper_tells

filter_tells : (c : Part Placed Condition) (E : Condition → Type 0) → Tells c (Said E) → Tells (filter c) (λ f front end. (front ≡ filter_tokens f end) × E f)
unfolding filter
filter_tells c E h =
    then_told (word_tells Filter) (λ _. then_told (sign_tells OpenParenthesis) (λ _. then_tells h (λ f. then_told (sign_tells CloseParenthesis) (λ _.
    give_tells (λ end front k. (ap (λ us. Word Filter ∷ Sign OpenParenthesis ∷ us) k.0, k.1))))))

is_join : (f : Condition) (end : List Token) → IsProper f → filter_tokens f end ≡ join_tokens f end
is_join conditions.True end p = absurd p
is_join (conditions.Bound x) end p = refl
is_join (conditions.SameTerm s t) end p = refl
is_join (conditions.Not' a f) end p = refl
is_join (conditions.And' a f b g) end p = refl
is_join (conditions.Or' a f b g) end p = refl

join_tells : Tells join_condition (Adds join_tokens)
join_tells = or_tells (weaker (λ f front end h. h.0 ∙ is_join f end h.1) (filter_tells proper IsProper proper_tells)) (give_tells (λ end. refl))

-- ---- targets

or_parts : (a b : Bool) → (a || b) ≡ false → (a ≡ false) × (b ≡ false)
or_parts true b e = absurd cc
or_parts false b e = (refl, e)

or_both : (a b : Bool) → a ≡ false → b ≡ false → (a || b) ≡ false
or_both a b d e = rw (d, e) refl

two : {W : Type 0} (x : Bool) → x ≡ true → x ≡ false → W
two x d k = absurd cc

other_way : (a b : List ℕ) → bytes_eq a b ≡ false → bytes_eq b a ≡ false
other_way a b e = by (bytes_eq b a) refl
  where
    by : (x : Bool) → bytes_eq b a ≡ x → x ≡ false
    by true h = two (bytes_eq a b) ((bytes_decides a b).1 (sym ((bytes_decides b a).0 h))) e
    by false h = refl

abbrev name_by : Bool → List ℕ → Option (List ℕ)
name_by b x = cond b None (Some x)

by_new : (b : Bool) (x y : List ℕ) → name_by b x ≡ Some y → (b ≡ false) × (x ≡ y)
by_new true x y e = none_some y e
by_new false x y e = (refl, some_is x y e)

abbrev IsNewName : List Rename → List ℕ → Token → Type 0
IsNewName taken x t = (t ≡ Var x) × (is_target taken x ≡ false)

is_new : (taken : List Rename) (t : Token) (x : List ℕ) → new_name_of taken t ≡ Some x → IsNewName taken x t
is_new taken (Var y) x e = let h = by_new (is_target taken y) y x e in (ap (λ z. Var z) h.1, subst (λ (z : List ℕ). is_target taken z ≡ false) h.1 h.0)
is_new taken (Word w) x e = none_some x e
is_new taken (Sign s) x e = none_some x e
is_new taken (Iri i) x e = none_some x e
is_new taken (Literal l) x e = none_some x e

by_other : (o : Option (List ℕ)) (x y : List ℕ) → unless_named x o ≡ Some y → (o ≡ Some y) × (bytes_eq x y ≡ false)
by_other None x y e = none_some y e
by_other (Some z) x y e = let h = by_new (bytes_eq x z) z y e in (ap (λ u. name_by false u) h.1, subst (λ (u : List ℕ). bytes_eq x u ≡ false) h.1 h.0)

is_other : (taken : List Rename) (x : List ℕ) (t : Token) (y : List ℕ) → other_name_of taken x t ≡ Some y → IsNewName taken y t × (bytes_eq x y ≡ false)
is_other taken x t y e = let h = by_other (new_name_of taken t) x y e in (is_new taken t y h.0, h.1)

-- the tokens of a target with a new name
abbrev NewTarget : List Rename → Rename → List Token → List Token → Type 0
NewTarget taken r front end = (front ≡ rename_tokens r end) × (is_target taken r.to ≡ false)

abbrev rename_by : Bool → Rename → List Token → List Token
rename_by b r end = cond b (Var r.to ∷ end) (other_tokens r end)

same_target_tells : (taken : List Rename) → Tells (same_target taken) (NewTarget taken)
unfolding same_target
same_target_tells taken =
    then_tells (token_tells {R = IsNewName taken} (is_new taken)) (λ x. give_tells (λ end front h. (
      h.1 ∙ ap (λ t. t ∷ end) h.2.0 ∙ ap (λ b. rename_by b (renamed x x) end) (sym ((bytes_decides x x).1 refl)),
      h.2.1,
    )))

other_target_tells : (taken : List Rename) → Tells (other_target taken) (NewTarget taken)
unfolding other_target
other_target_tells taken =
    then_told (sign_tells OpenParenthesis) (λ _. then_told variable_tells (λ x. then_told (word_tells As) (λ _.
    then_tells (token_tells {R = λ y t. IsNewName taken y t × (bytes_eq x y ≡ false)} (is_other taken x)) (λ y.
    then_told (sign_tells CloseParenthesis) (λ _. give_tells (λ end front h. (
      ap (λ us. Sign OpenParenthesis ∷ Var x ∷ Word As ∷ us) (h.1 ∙ ap (λ t. t ∷ Sign CloseParenthesis ∷ end) h.2.0.0) ∙ ap (λ b. rename_by b (renamed x y) end) (sym h.2.1),
      h.2.0.1,
    )))))))

target_tells : (taken : List Rename) → Tells (target taken) (NewTarget taken)
unfolding target
target_tells taken = or_tells (other_target_tells taken) (same_target_tells taken)

abbrev AreNew : List Rename → List Rename → Type 0
AreNew taken [] = Unit {0}
AreNew taken (r ∷ rs) = (is_target taken r.to ≡ false) × AreNew (taken ++ r ∷ []) rs

abbrev NewTargets : List Rename → List Rename → List Token → List Token → Type 0
NewTargets taken rs front end = (front ≡ renames_tokens rs end) × AreNew taken rs

targets_within_tells : (n : ℕ) (taken : List Rename) → Tells (targets_within n taken) (NewTargets taken)
unfolding targets_within
targets_within_tells zero taken = give_tells (λ end. (refl, tt))
targets_within_tells (suc n) taken =
    or_tells
    (then_tells (target_tells taken) (λ r. then_tells (targets_within_tells n (taken ++ r ∷ [])) (λ rs. give_tells (λ end mid k front h. (h.0 ∙ ap (λ us. rename_tokens r us) k.0, (h.1, k.1))))))
    (give_tells (λ end. (refl, tt)))

-- no new name is this one
abbrev Blocks : List Rename → List ℕ → Type 0
Blocks taken z = (x : List ℕ) → is_target taken x ≡ false → bytes_eq z x ≡ false

before_last : (taken : List Rename) (s : Rename) (x : List ℕ) → is_target (taken ++ s ∷ []) x ≡ false → (is_target taken x ≡ false) × (bytes_eq s.to x ≡ false)
before_last [] s x e = (refl, (or_parts (bytes_eq s.to x) false e).0)
before_last (t ∷ taken) s x e =
    let parts = or_parts (bytes_eq t.to x) (is_target (taken ++ s ∷ []) x) e in
    let more = before_last taken s x parts.1 in
    (or_both (bytes_eq t.to x) (is_target taken x) parts.0 more.0, more.1)

not_again : (rs taken : List Rename) (z : List ℕ) → Blocks taken z → AreNew taken rs → is_target rs z ≡ false
not_again [] taken z b h = refl
not_again (s ∷ rs) taken z b h =
    or_both (bytes_eq s.to z) (is_target rs z) (other_way z s.to (b s.to h.0)) (not_again rs (taken ++ s ∷ []) z (λ x e. b x (before_last taken s x e).0) h.1)

apart_if_new : (rs taken : List Rename) → AreNew taken rs → AreTargetsApart rs
apart_if_new [] taken h = tt
apart_if_new (r ∷ rs) taken h = (not_again rs (taken ++ r ∷ []) r.to (λ x e. (before_last taken r x e).1) h.1, apart_if_new rs (taken ++ r ∷ []) h.1)

some_renames : (r : Rename) (rs : List Rename) → r ∷ rs ≢ []
some_renames r rs e = absurd cc

abbrev Selectable : List Rename → List Token → List Token → Type 0
Selectable rs front end = (front ≡ renames_tokens rs end) × AreSelectable rs

targets_tell : Tells targets Selectable
unfolding targets
targets_tell =
    then_tells (target_tells []) (λ r. then_tells (levels_tells (λ n. targets_within_tells n (r ∷ []))) (λ rs. give_tells (λ end mid k front h. (
      h.0 ∙ ap (λ us. rename_tokens r us) k.0,
      (some_renames r rs, apart_if_new (r ∷ rs) [] (refl, k.1)),
    ))))

-- ---- patterns

-- tokens of a well-formed pattern
abbrev Formed : Pattern → List Token → List Token → Type 0
Formed p front end = (front ≡ pattern_tokens p end) × IsWellFormed p

-- what stands in braces
abbrev Braced : Pattern → List Token → List Token → Type 0
Braced p front mid = (end : List Token) → mid ≡ Sign CloseBrace ∷ end → Formed p (Sign OpenBrace ∷ front) end

and_formed : (p q : Pattern) (end : List Token) → IsWellFormed p → IsWellFormed q → Formed (patterns.And p q) (Sign OpenBrace ∷ pattern_tokens p (pattern_tokens q (Sign CloseBrace ∷ end))) end
unfolding shape-the_row-Pattern-0 hidden-the_row-Pattern-0 hidden
and_formed p q end v w = (refl, (v, w))

left_join_formed : (p q : Pattern) (f : Condition) (end : List Token) → IsWellFormed p → IsWellFormed q
    → Formed (patterns.LeftJoin p q f) (Sign OpenBrace ∷ pattern_tokens p (Word Optional ∷ Sign OpenBrace ∷ pattern_tokens q (join_tokens f (Sign CloseBrace ∷ Sign CloseBrace ∷ end)))) end
unfolding shape-the_row-Pattern-0 hidden-the_row-Pattern-0 hidden
left_join_formed p q f end v w = (refl, (v, w))

union_formed : (p q : Pattern) (end : List Token) → IsWellFormed p → IsWellFormed q → Formed (patterns.Union p q) (Sign OpenBrace ∷ pattern_tokens p (Word Union ∷ pattern_tokens q (Sign CloseBrace ∷ end))) end
unfolding shape-the_row-Pattern-0 hidden-the_row-Pattern-0 hidden
union_formed p q end v w = (refl, (v, w))

minus_formed : (p q : Pattern) (end : List Token) → IsWellFormed p → IsWellFormed q → Formed (patterns.Minus p q) (Sign OpenBrace ∷ pattern_tokens p (Word Minus ∷ pattern_tokens q (Sign CloseBrace ∷ end))) end
unfolding shape-the_row-Pattern-0 hidden-the_row-Pattern-0 hidden
minus_formed p q end v w = (refl, (v, w))

filter_formed : (p : Pattern) (f : Condition) (end : List Token) → IsWellFormed p → Formed (patterns.Filter p f) (Sign OpenBrace ∷ pattern_tokens p (filter_tokens f (Sign CloseBrace ∷ end))) end
unfolding shape-the_row-Pattern-0 hidden-the_row-Pattern-0 hidden
filter_formed p f end v = (refl, v)

select_formed : (p : Pattern) (rs : List Rename) (end : List Token) → IsWellFormed p → AreSelectable rs → Formed (patterns.Select p rs) (Sign OpenBrace ∷ Word Select ∷ renames_tokens rs (Word Where ∷ pattern_tokens p (Sign CloseBrace ∷ end))) end
unfolding shape-the_row-Pattern-0 hidden-the_row-Pattern-0 hidden
select_formed p rs end v some = (refl, (v, some))

formed_along : (p : Pattern) (a b end : List Token) → a ≡ b → Formed p b end → Formed p a end
formed_along p a b end e h = (e ∙ h.0, h.1)

triple_tells : Tells triple Braced
unfolding triple
triple_tells =
    then_told term_tells (λ s. then_told term_tells (λ p. then_told term_tells (λ o. then_told (sign_tells Dot) (λ _.
    give_tells (λ mid end e. (ap (λ us. Sign OpenBrace ∷ operand_token s ∷ operand_token p ∷ operand_token o ∷ Sign Dot ∷ us) e, tt))))))

module _ (part : Part Placed Pattern) (inside : Tells part Formed) where
  select_tells : Tells (select part) Braced
  unfolding select
  select_tells =
      then_told (word_tells Select) (λ _. then_tells targets_tell (λ rs. then_told (word_tells Where) (λ _. then_tells inside (λ p. give_tells (λ mid before k front h end e.
      formed_along (patterns.Select p rs) _ _ end
      (ap (λ us. Sign OpenBrace ∷ Word Select ∷ us) (h.0 ∙ ap (λ us. renames_tokens rs (Word Where ∷ us)) (k.0 ∙ ap (λ us. pattern_tokens p us) e)))
      (select_formed p rs end k.1 h.1))))))

  -- what stands behind a pattern in braces
  abbrev Behind : Pattern → Pattern → List Token → List Token → Type 0
  Behind p r front mid = (end : List Token) → mid ≡ Sign CloseBrace ∷ end → IsWellFormed p → Formed r (Sign OpenBrace ∷ pattern_tokens p front) end

  abbrev Optionally : Pattern × Condition → List Token → List Token → Type 0
  Optionally x front mid = (front ≡ Word Optional ∷ Sign OpenBrace ∷ pattern_tokens x.0 (join_tokens x.1 (Sign CloseBrace ∷ mid))) × IsWellFormed x.0

  optional_tells : Tells (optional_part part) Optionally
  unfolding optional_part
  optional_tells =
      then_told (word_tells Optional) (λ _. then_told (sign_tells OpenBrace) (λ _. then_tells inside (λ q. then_told join_tells (λ f. then_told (sign_tells CloseBrace) (λ _.
      give_tells (λ mid front h. (ap (λ us. Word Optional ∷ Sign OpenBrace ∷ us) h.0, h.1)))))))

  module _ (p : Pattern) where
    left_join_tells : Tells (left_join part p) (Behind p)
    unfolding left_join
    left_join_tells = then_tells optional_tells (λ x. give_tells (λ mid front h end e w.
        formed_along (patterns.LeftJoin p x.0 x.1) _ _ end
        (ap (λ us. Sign OpenBrace ∷ pattern_tokens p us) (h.0 ∙ ap (λ us. Word Optional ∷ Sign OpenBrace ∷ pattern_tokens x.0 (join_tokens x.1 (Sign CloseBrace ∷ us))) e))
        (left_join_formed p x.0 x.1 end w h.1)))

    union_tells : Tells (then (word Union) (λ _. then part (λ q. give (patterns.Union p q)))) (Behind p)
    union_tells = then_told (word_tells Union) (λ _. then_tells inside (λ q. give_tells (λ mid front h end e w.
        formed_along (patterns.Union p q) _ _ end (ap (λ us. Sign OpenBrace ∷ pattern_tokens p (Word Union ∷ us)) (h.0 ∙ ap (λ us. pattern_tokens q us) e)) (union_formed p q end w h.1))))

    minus_tells : Tells (then (word Minus) (λ _. then part (λ q. give (patterns.Minus p q)))) (Behind p)
    minus_tells = then_told (word_tells Minus) (λ _. then_tells inside (λ q. give_tells (λ mid front h end e w.
        formed_along (patterns.Minus p q) _ _ end (ap (λ us. Sign OpenBrace ∷ pattern_tokens p (Word Minus ∷ us)) (h.0 ∙ ap (λ us. pattern_tokens q us) e)) (minus_formed p q end w h.1))))

    filtered_tells : Tells (then (filter condition) (λ f. give (patterns.Filter p f))) (Behind p)
    filtered_tells = then_tells (filter_tells condition IsAny condition_tells) (λ f. give_tells (λ mid front h end e w.
        formed_along (patterns.Filter p f) _ _ end (ap (λ us. Sign OpenBrace ∷ pattern_tokens p us) (h.0 ∙ ap (λ us. filter_tokens f us) e)) (filter_formed p f end w)))

    and_tells : Tells (then part (λ q. give (patterns.And p q))) (Behind p)
    and_tells = then_tells inside (λ q. give_tells (λ mid front h end e w.
        formed_along (patterns.And p q) _ _ end (ap (λ us. Sign OpenBrace ∷ pattern_tokens p us) (h.0 ∙ ap (λ us. pattern_tokens q us) e)) (and_formed p q end w h.1)))

    operator_tells : Tells (operator part p) (Behind p)
    unfolding operator
    operator_tells = or_tells union_tells (or_tells minus_tells (or_tells left_join_tells (or_tells filtered_tells and_tells)))

  operation_tells : Tells (then part (λ p. operator part p)) Braced
  operation_tells = then_tells inside (λ p. weaker (λ r mid close k front h end e. formed_along r _ _ end (ap (λ us. Sign OpenBrace ∷ us) h.0) (k end e h.1)) (operator_tells p))

  empty_tells : Tells (give patterns.Empty) Braced
  empty_tells = give_tells (λ mid end e. (ap (λ us. Sign OpenBrace ∷ us) e, tt))

  content_tells : Tells (content part) Braced
  unfolding content
  content_tells = or_tells triple_tells (or_tells select_tells (or_tells operation_tells empty_tells))

within_braces : (n : ℕ) → Tells (pattern_within n) Formed
unfolding pattern_within
within_braces zero = never_tells
within_braces (suc n) = then_told (sign_tells OpenBrace) (λ _. then_tells (content_tells (pattern_within n) (within_braces n)) (λ p. then_told (sign_tells CloseBrace) (λ _. give_tells (λ end front h. h end refl))))

pattern_tells : Tells pattern Formed
pattern_tells = levels_tells within_braces

-- ---- queries

names_tell : {ts rest : List Placed} {xs : List (List ℕ)} → Repeats (Spells variable) ts rest xs → tokens_in ts ≡ names_tokens xs (tokens_in rest)
names_tell no_repeat = refl
names_tell (one_more {ts = ts} {mid = mid} {rest = rest} {v = x} {vs = xs} s h) = variable_tells.on ts mid x s ∙ ap (λ us. Var x ∷ us) (names_tell h)

repeated_tells : Tells (repeated variable) (Adds names_tokens)
repeated_tells = record { on = λ ts rest xs s. names_tell s }

some_names : (x : List ℕ) (xs : List (List ℕ)) → x ∷ xs ≢ []
some_names x xs e = absurd cc

header_tells : Tells header (λ xs front end. (front ≡ names_tokens xs end) × (xs ≢ []))
unfolding header
header_tells = then_told variable_tells (λ x. then_told repeated_tells (λ xs. give_tells (λ end. (refl, some_names x xs))))

-- a header that isn't empty and a well-formed pattern, and their tokens
pub record IsTold (x : Query) (front end : List Token) : Type 0 where
  pub tokens : front ≡ query_tokens x.0 x.1 end
  pub some : x.0 ≢ []
  pub formed : IsWellFormed x.1

query_tells : Tells query IsTold
unfolding query
query_tells =
    then_told (word_tells Select) (λ _. then_told (word_tells Distinct) (λ _. then_tells header_tells (λ xs. then_told (word_tells Where) (λ _. then_tells pattern_tells (λ p. give_tells (λ end mid k front h. record {
      tokens = ap (λ us. Word Select ∷ Word Distinct ∷ us) (h.0 ∙ ap (λ us. names_tokens xs (Word Where ∷ us)) k.0);
      some = h.1;
      formed = k.1;
    }))))))

pub query_told : (ts : List Placed) (x : Query) → Spells query ts [] x → IsTold x (tokens_in ts) []
query_told ts x s = query_tells.on ts [] x s
