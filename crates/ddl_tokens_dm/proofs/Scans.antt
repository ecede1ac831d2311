-- What is found at the front of a text is what stands there, and the other way round.
use Rattle.std.proofs.Common.{◌≡◌, ◌≢◌, ℕ, zero, suc, ◌+◌, ◌≤◌, ◌<◌, List, [], ◌∷◌, ◌++◌, length, Bool, true, false, Option, Some, None, refl, sym, ap, subst, ◌∙◌, arith, inl, inr, ◌⊎◌, cond, append_assoc}
use Rattle.std.specs.Prelude.{◌==◌, ◌||◌, ◌&&◌, not, nat_le}
use Rattle.std.specs.List.{list_all}
use Rattle.std.proofs.lemmas.Bool.{eqb-true, leb-true}
use Rattle.grammar_dm.specs.Reading.{starts}
use Rattle.ddl_tokens_dm.specs.declared.token.Token.{Token}
use Rattle.ddl_tokens_dm.specs.declared.token.Token.TheVariants.{Sign, Number, Word, Quoted}
use Rattle.ddl_tokens_dm.specs.declared.token.Sign.TheVariants.{Open, Close, Comma, Semicolon}
use Rattle.ddl_tokens_dm.specs.Characters.{character, byte_order_mark, is_space, in_line, is_digit, begins_word, in_word}
use Rattle.ddl_tokens_dm.specs.Tokens.{IsRun, IsSpace, IsLineComment, IsComment, HasNoEnd, StandsBetween, StandsToken, doubled, IsIdentifier, IsNoToken}
use Rattle.ddl_tokens_dm.specs.Scanning.{with_first, run_of, after_close, with_char, quoted_at, Lexeme, skipped, identifier, line_comment, comment, sign_at, lexeme}
use Rattle.ddl_tokens_dm.specs.Scanning.Lexeme.{Between, Found, Bad}

true_false : {W : Type 0} (b : Bool) → b ≡ true → b ≡ false → W
true_false b d e = absurd cc

both_of : (x y : Bool) → (x && y) ≡ true → (x ≡ true) × (y ≡ true)
both_of true y e = (refl, e)
both_of false y e = absurd cc

is_not : (b : Bool) → (b ≡ true → ⊥) → b ≡ false
is_not true h = absurd (h refl)
is_not false h = refl

cons_is : (c d : ℕ) (ts us : List ℕ) → c ∷ ts ≡ d ∷ us → (c ≡ d) × (ts ≡ us)
cons_is c d ts us e = (cc, cc)

nil_cons : {W : Type 0} (c : ℕ) (ts : List ℕ) → [] ≡ c ∷ ts → W
nil_cons c ts e = absurd cc

-- ---- runs

abbrev run_step_of : (ℕ → Bool) → ℕ → List ℕ → Bool → List ℕ × List ℕ
run_step_of kind c ts b = cond b (with_first c (run_of kind ts)) ([], c ∷ ts)

run_step : (kind : ℕ → Bool) (c : ℕ) (ts : List ℕ) (b : Bool) → kind c ≡ b → IsRun kind (run_of kind ts).0 ts (run_of kind ts).1 → IsRun kind (run_step_of kind c ts b).0 (c ∷ ts) (run_step_of kind c ts b).1
run_step kind c ts true e h = record { whole = ap (λ us. c ∷ us) h.whole; pass = ap (λ b. b && list_all kind (run_of kind ts).0) e ∙ h.pass; ends = h.ends }
run_step kind c ts false e h = record { whole = refl; pass = refl; ends = e }

pub run_is : (kind : ℕ → Bool) (ts : List ℕ) → IsRun kind (run_of kind ts).0 ts (run_of kind ts).1
unfolding run_of
run_is kind [] = record { whole = refl; pass = refl; ends = refl }
run_is kind (c ∷ ts) = run_step kind c ts (kind c) refl (run_is kind ts)

abbrev pair : List ℕ → List ℕ → List ℕ × List ℕ
pair xs ys = (xs, ys)

run_stops : (kind : ℕ → Bool) (rest : List ℕ) → starts kind rest ≡ false → run_of kind rest ≡ ([], rest)
unfolding run_of
run_stops kind [] e = refl
run_stops kind (c ∷ ts) e = ap (λ b. run_step_of kind c ts b) e

run_back : (kind : ℕ → Bool) (run rest : List ℕ) → list_all kind run ≡ true → starts kind rest ≡ false → run_of kind (run ++ rest) ≡ (run, rest)
unfolding run_of
run_back kind [] rest p e = run_stops kind rest e
run_back kind (c ∷ run) rest p e =
    let q = both_of (kind c) (list_all kind run) p in
    ap (λ b. run_step_of kind c (run ++ rest) b) q.0 ∙ ap (λ x. with_first c x) (run_back kind run rest q.1 e)

pub run_found : (kind : ℕ → Bool) (run ts rest : List ℕ) → IsRun kind run ts rest → run_of kind ts ≡ (run, rest)
run_found kind run ts rest h = ap (run_of kind) h.whole ∙ run_back kind run rest h.pass h.ends

-- ---- comments

abbrev close_step : ℕ → ℕ → List ℕ → Bool → Option (List ℕ)
close_step c d ts b = cond b (Some ts) (after_close (d ∷ ts))

some_is : (a b : List ℕ) → ◌≡◌ {A = Option (List ℕ)} (Some a) (Some b) → a ≡ b
some_is a b e = cc

none_some : {W : Type 0} (a : List ℕ) → ◌≡◌ {A = Option (List ℕ)} None (Some a) → W
none_some a e = absurd cc

abbrev IsClosed : List ℕ → List ℕ → Type 0
IsClosed ts rest = (inside : List ℕ) × (ts ≡ inside ++ 42 ∷ 47 ∷ rest) × HasNoEnd inside

nothing_ends : HasNoEnd []
nothing_ends [] after e = absurd cc
nothing_ends (b ∷ []) after e = absurd cc
nothing_ends (b ∷ c ∷ before) after e = absurd cc

-- one more character before: it is no star, or no slash follows
more_inside : (c d : ℕ) (ts rest inside : List ℕ) → (c == 42 && d == 47) ≡ false → d ∷ ts ≡ inside ++ 42 ∷ 47 ∷ rest → HasNoEnd inside → HasNoEnd (c ∷ inside)
more_inside c d ts rest [] n e h [] after k = absurd (omega (arith, (cons_is 42 47 [] after (cons_is c 42 (42 ∷ []) (47 ∷ after) k).1).0))
more_inside c d ts rest (i ∷ inside) n e h [] after k =
    let c_is : c ≡ 42 = (cons_is c 42 (i ∷ (inside ++ 42 ∷ [])) (47 ∷ after) k).0 in
    let i_is : i ≡ 47 = (cons_is i 47 (inside ++ 42 ∷ []) after (cons_is c 42 (i ∷ (inside ++ 42 ∷ [])) (47 ∷ after) k).1).0 in
    let d_is : d ≡ 47 = (cons_is d i ts (inside ++ 42 ∷ 47 ∷ rest) e).0 ∙ i_is in
    true_false (c == 42 && d == 47) (ap (λ x. x == 42 && d == 47) c_is ∙ ap (λ x. x == 47) d_is) n
more_inside c d ts rest inside n e h (b ∷ before) after k = h before after (cons_is c b (inside ++ 42 ∷ []) (before ++ 42 ∷ 47 ∷ after) k).1

close_is_step : (c d : ℕ) (ts rest : List ℕ) (b : Bool) → (c == 42 && d == 47) ≡ b → close_step c d ts b ≡ Some rest → ((r : List ℕ) → after_close (d ∷ ts) ≡ Some r → IsClosed (d ∷ ts) r) → IsClosed (c ∷ d ∷ ts) rest
close_is_step c d ts rest true e h again =
    let p = both_of (c == 42) (d == 47) e in
    ([], ap (λ x. x ∷ d ∷ ts) (eqb-true c 42 p.0) ∙ ap (λ x. 42 ∷ x ∷ ts) (eqb-true d 47 p.1) ∙ ap (λ us. 42 ∷ 47 ∷ us) (some_is ts rest h), nothing_ends)
close_is_step c d ts rest false e h again =
    let k = again rest h in
    (c ∷ k.0, ap (λ us. c ∷ us) k.1, more_inside c d ts rest k.0 e k.1 k.2)

pub close_is : (ts rest : List ℕ) → after_close ts ≡ Some rest → IsClosed ts rest
unfolding after_close
close_is [] rest e = none_some rest e
close_is (c ∷ []) rest e = none_some rest e
close_is (c ∷ d ∷ ts) rest e = close_is_step c d ts rest (c == 42 && d == 47) refl e (λ r h. close_is (d ∷ ts) r h)

-- the first of two characters is no star, or the second no slash
no_end_here : (c i : ℕ) (inside : List ℕ) → HasNoEnd (c ∷ i ∷ inside) → (c == 42 && i == 47) ≡ false
no_end_here c i inside h =
    is_not (c == 42 && i == 47) (λ e.
    let p = both_of (c == 42) (i == 47) e in
    h [] (inside ++ 42 ∷ []) (ap (λ x. x ∷ i ∷ (inside ++ 42 ∷ [])) (eqb-true c 42 p.0) ∙ ap (λ x. 42 ∷ x ∷ (inside ++ 42 ∷ [])) (eqb-true i 47 p.1)))

no_end_before : (c : ℕ) (inside : List ℕ) → HasNoEnd (c ∷ inside) → HasNoEnd inside
no_end_before c inside h before after e = h (c ∷ before) after (ap (λ us. c ∷ us) e)

star_slash : (c : ℕ) → (c == 42 && 42 == 47) ≡ false
star_slash c = is_not (c == 42 && 42 == 47) (λ e. true_false (42 == 47) (both_of (c == 42) (42 == 47) e).1 refl)

close_back : (inside rest : List ℕ) → HasNoEnd inside → after_close (inside ++ 42 ∷ 47 ∷ rest) ≡ Some rest
unfolding after_close
close_back [] rest h = refl
close_back (c ∷ []) rest h = ap (λ b. close_step c 42 (47 ∷ rest) b) (star_slash c)
close_back (c ∷ i ∷ inside) rest h = ap (λ b. close_step c i (inside ++ 42 ∷ 47 ∷ rest) b) (no_end_here c i inside h) ∙ close_back (i ∷ inside) rest (no_end_before c (i ∷ inside) h)

-- ---- quoted identifiers

abbrev some_pair : List ℕ → List ℕ → Option (List ℕ × List ℕ)
some_pair name rest = Some (name, rest)

abbrev name_of : Option (List ℕ × List ℕ) → List ℕ
name_of None = []
name_of (Some x) = x.0

abbrev behind_of : Option (List ℕ × List ℕ) → List ℕ
behind_of None = []
behind_of (Some x) = x.1

abbrev IsQuoted : List ℕ → List ℕ → List ℕ → Type 0
IsQuoted name ts rest = (ts ≡ doubled name ++ 34 ∷ rest) × (starts (λ c. c == 34) rest ≡ false)

abbrev quote_second : ℕ → List ℕ → Bool → Option (List ℕ × List ℕ)
quote_second d ts b = cond b (with_char 34 (quoted_at ts)) (Some ([], d ∷ ts))

abbrev quote_first : ℕ → ℕ → List ℕ → Bool → Bool → Option (List ℕ × List ℕ)
quote_first c d ts b e = cond b (quote_second d ts e) (with_char c (quoted_at (d ∷ ts)))

abbrev doubled_first : ℕ → List ℕ → Bool → List ℕ
doubled_first c cs b = cond b (34 ∷ 34 ∷ doubled cs) (c ∷ doubled cs)

pub quote_other : (c : ℕ) (ts : List ℕ) → (c == 34) ≡ false → quoted_at (c ∷ ts) ≡ with_char c (quoted_at ts)
unfolding quoted_at
quote_other c [] e = ap (λ b. cond b (Some ([], [])) None) e
quote_other c (d ∷ ts) e = ap (λ b. quote_first c d ts b (d == 34)) e

quote_end : (rest : List ℕ) → starts (λ c. c == 34) rest ≡ false → quoted_at (34 ∷ rest) ≡ Some ([], rest)
unfolding quoted_at
quote_end [] e = refl
quote_end (d ∷ ts) e = ap (λ b. quote_second d ts b) e

pub quote_two : (ts : List ℕ) → quoted_at (34 ∷ 34 ∷ ts) ≡ with_char 34 (quoted_at ts)
unfolding quoted_at
quote_two ts = refl

quote_back_step : (c : ℕ) (name rest : List ℕ) (b : Bool) → (c == 34) ≡ b → quoted_at (doubled name ++ 34 ∷ rest) ≡ Some (name, rest) → quoted_at (doubled_first c name b ++ 34 ∷ rest) ≡ Some (c ∷ name, rest)
quote_back_step c name rest true e h =
    quote_two (doubled name ++ 34 ∷ rest) ∙ ap (λ x. with_char 34 x) h ∙ ap (λ x. some_pair (x ∷ name) rest) (sym (eqb-true c 34 e))
quote_back_step c name rest false e h = quote_other c (doubled name ++ 34 ∷ rest) e ∙ ap (λ x. with_char c x) h

quote_back : (name rest : List ℕ) → starts (λ c. c == 34) rest ≡ false → quoted_at (doubled name ++ 34 ∷ rest) ≡ Some (name, rest)
quote_back [] rest e = quote_end rest e
quote_back (c ∷ name) rest e = quote_back_step c name rest (c == 34) refl (quote_back name rest e)

pair_is : (a b c d : List ℕ) → ◌≡◌ {A = Option (List ℕ × List ℕ)} (Some (a, b)) (Some (c, d)) → (a ≡ c) × (b ≡ d)
pair_is a b c d e = (ap name_of e, ap behind_of e)

no_pair : {W : Type 0} (c d : List ℕ) → ◌≡◌ {A = Option (List ℕ × List ℕ)} None (Some (c, d)) → W
no_pair c d e = absurd cc

-- one character more, where it is no quote
other_is : (c : ℕ) (ts name rest : List ℕ) (o : Option (List ℕ × List ℕ)) → (c == 34) ≡ false → quoted_at ts ≡ o → with_char c o ≡ Some (name, rest)
    → ((n r : List ℕ) → o ≡ Some (n, r) → IsQuoted n ts r) → IsQuoted name (c ∷ ts) rest
other_is c ts name rest None e q h again = no_pair name rest h
other_is c ts name rest (Some x) e q h again =
    let p = pair_is (c ∷ x.0) x.1 name rest h in
    let k = again x.0 x.1 refl in
    let whole : c ∷ ts ≡ doubled (c ∷ x.0) ++ 34 ∷ x.1 = ap (λ us. c ∷ us) k.0 ∙ sym (ap (λ b. doubled_first c x.0 b ++ 34 ∷ x.1) e) in
    subst (λ (r : List ℕ). IsQuoted name (c ∷ ts) r) p.1 (subst (λ (n : List ℕ). IsQuoted n (c ∷ ts) x.1) p.0 (whole, k.1))

-- two quotes more
two_is : (c d : ℕ) (ts name rest : List ℕ) (o : Option (List ℕ × List ℕ)) → (c == 34) ≡ true → (d == 34) ≡ true → quoted_at ts ≡ o → with_char 34 o ≡ Some (name, rest)
    → ((n r : List ℕ) → o ≡ Some (n, r) → IsQuoted n ts r) → IsQuoted name (c ∷ d ∷ ts) rest
two_is c d ts name rest None e f q h again = no_pair name rest h
two_is c d ts name rest (Some x) e f q h again =
    let p = pair_is (34 ∷ x.0) x.1 name rest h in
    let k = again x.0 x.1 refl in
    let whole : c ∷ d ∷ ts ≡ doubled (34 ∷ x.0) ++ 34 ∷ x.1 = ap (λ y. y ∷ d ∷ ts) (eqb-true c 34 e) ∙ ap (λ y. 34 ∷ y ∷ ts) (eqb-true d 34 f) ∙ ap (λ us. 34 ∷ 34 ∷ us) k.0 in
    subst (λ (r : List ℕ). IsQuoted name (c ∷ d ∷ ts) r) p.1 (subst (λ (n : List ℕ). IsQuoted n (c ∷ d ∷ ts) x.1) p.0 (whole, k.1))

-- the closing quote
end_is : (c : ℕ) (ts name rest : List ℕ) → (c == 34) ≡ true → starts (λ x. x == 34) ts ≡ false → ◌≡◌ {A = Option (List ℕ × List ℕ)} (Some ([], ts)) (Some (name, rest)) → IsQuoted name (c ∷ ts) rest
end_is c ts name rest e f h =
    let p = pair_is [] ts name rest h in
    subst (λ (r : List ℕ). IsQuoted name (c ∷ ts) r) p.1 (subst (λ (n : List ℕ). IsQuoted n (c ∷ ts) ts) p.0 (ap (λ x. x ∷ ts) (eqb-true c 34 e), f))

quote_step : (c d : ℕ) (ts name rest : List ℕ) (b e : Bool) → (c == 34) ≡ b → (d == 34) ≡ e → quote_first c d ts b e ≡ Some (name, rest)
    → ((n r : List ℕ) → quoted_at ts ≡ Some (n, r) → IsQuoted n ts r) → ((n r : List ℕ) → quoted_at (d ∷ ts) ≡ Some (n, r) → IsQuoted n (d ∷ ts) r) → IsQuoted name (c ∷ d ∷ ts) rest
quote_step c d ts name rest true true p q h two one = two_is c d ts name rest (quoted_at ts) p q refl h two
quote_step c d ts name rest true false p q h two one = end_is c (d ∷ ts) name rest p q h
quote_step c d ts name rest false e p q h two one = other_is c (d ∷ ts) name rest (quoted_at (d ∷ ts)) p refl h one

quote_last : (c : ℕ) (name rest : List ℕ) (b : Bool) → (c == 34) ≡ b → cond b (some_pair [] []) None ≡ Some (name, rest) → IsQuoted name (c ∷ []) rest
quote_last c name rest true e h = end_is c [] name rest e refl h
quote_last c name rest false e h = no_pair name rest h

pub quote_is : (ts name rest : List ℕ) → quoted_at ts ≡ Some (name, rest) → IsQuoted name ts rest
unfolding quoted_at
quote_is [] name rest e = no_pair name rest e
quote_is (c ∷ []) name rest e = quote_last c name rest (c == 34) refl e
quote_is (c ∷ d ∷ ts) name rest e = quote_step c d ts name rest (c == 34) (d == 34) refl refl e (quote_is ts) (quote_is (d ∷ ts))

-- ---- kinds of characters

first_of : (c : ℕ) (a b : Bool) → (a || b) ≡ true → (a ≡ true) ⊎ (b ≡ true)
first_of c true b e = inl refl
first_of c false b e = inr e

-- a space is one of five
space_is : (W : ℕ → Type 0) (c : ℕ) → is_space c ≡ true → W 32 → W 9 → W 13 → W 10 → W 12 → W c
space_is W c e a b d f g = by_first (c == 32) refl e
  where
    from : (n : ℕ) → (c == n) ≡ true → W n → W c
    from n h w = subst W (sym (eqb-true c n h)) w

    by_fourth : (x : Bool) → (c == 10) ≡ x → (x || c == 12) ≡ true → W c
    by_fourth true h k = from 10 h f
    by_fourth false h k = from 12 k g

    by_third : (x : Bool) → (c == 13) ≡ x → (x || c == 10 || c == 12) ≡ true → W c
    by_third true h k = from 13 h d
    by_third false h k = by_fourth (c == 10) refl k

    by_second : (x : Bool) → (c == 9) ≡ x → (x || c == 13 || c == 10 || c == 12) ≡ true → W c
    by_second true h k = from 9 h b
    by_second false h k = by_third (c == 13) refl k

    by_first : (x : Bool) → (c == 32) ≡ x → (x || c == 9 || c == 13 || c == 10 || c == 12) ≡ true → W c
    by_first true h k = from 32 h a
    by_first false h k = by_second (c == 9) refl k

-- a character below the letters begins no word
small_no_word : (c : ℕ) → c < 65 → begins_word c ≡ false
small_no_word c lt = is_not (begins_word c) (λ e. word_large c e lt)
  where
    upper : (n : ℕ) → (nat_le 65 n && nat_le n 90) ≡ true → n < 65 → ⊥
    upper n e l = omega (arith, leb-true 65 n (both_of (nat_le 65 n) (nat_le n 90) e).0)

    lower : (n : ℕ) → (nat_le 97 n && nat_le n 122) ≡ true → n < 65 → ⊥
    lower n e l = omega (arith, leb-true 97 n (both_of (nat_le 97 n) (nat_le n 122) e).0)

    beyond : (n : ℕ) → (nat_le 128 n && not (n == byte_order_mark)) ≡ true → n < 65 → ⊥
    beyond n e l = omega (arith, leb-true 128 n (both_of (nat_le 128 n) (not (n == byte_order_mark)) e).0)

    word_large : (n : ℕ) → begins_word n ≡ true → n < 65 → ⊥
    word_large n e l = elim (first_of n (nat_le 65 n && nat_le n 90 || nat_le 97 n && nat_le n 122 || n == 95) (nat_le 128 n && not (n == byte_order_mark)) e) [
      | inl h ↦ elim (first_of n (nat_le 65 n && nat_le n 90 || nat_le 97 n && nat_le n 122) (n == 95) h) [
        | inl k ↦ elim (first_of n (nat_le 65 n && nat_le n 90) (nat_le 97 n && nat_le n 122) k) [
          | inl d ↦ upper n d l
          | inr d ↦ lower n d l
        ]
        | inr k ↦ omega (arith, eqb-true n 95 k)
      ]
      | inr h ↦ beyond n h l
    ]

digit_no_word : (c : ℕ) → is_digit c ≡ true → begins_word c ≡ false
digit_no_word c e = small_no_word c (omega (arith, leb-true c 57 (both_of (nat_le 48 c) (nat_le c 57) e).1))

-- ---- the front of a text

abbrev word_step : ℕ → List ℕ → Bool → Lexeme → Lexeme
word_step c ts b other = cond b (Found (Word (c ∷ (run_of in_word ts).0)) (run_of in_word ts).1) other

-- what lexeme answers, told apart by what stands there
abbrev Stands : List ℕ → Lexeme → Type 0
Stands ts (Between rest) = StandsBetween ts rest
Stands ts (Found token rest) = StandsToken token ts rest
Stands ts Bad = Unit {0}

word_stands : (c : ℕ) (ts : List ℕ) → begins_word c ≡ true → StandsToken (Word (c ∷ (run_of in_word ts).0)) (c ∷ ts) (run_of in_word ts).1
word_stands c ts e = (c, (run_of in_word ts).0, ts, refl, refl, e, run_is in_word ts)

-- a digit and the digits behind it
digits_run : (c : ℕ) (ts : List ℕ) → is_digit c ≡ true → IsRun is_digit (c ∷ (run_of is_digit ts).0) (c ∷ ts) (run_of is_digit ts).1
digits_run c ts e = let h = run_is is_digit ts in record {
  whole = ap (λ us. c ∷ us) h.whole;
  pass = ap (λ b. b && list_all is_digit (run_of is_digit ts).0) e ∙ h.pass;
  ends = h.ends;
}

number_stands : (c : ℕ) (ts : List ℕ) → is_digit c ≡ true → StandsToken Number (c ∷ ts) (run_of is_digit ts).1
number_stands c ts e = (c ∷ (run_of is_digit ts).0, λ k. absurd cc, digits_run c ts e)

identifier_stands : (c : ℕ) (ts : List ℕ) (o : Option (List ℕ × List ℕ)) → (c == 34) ≡ true → quoted_at ts ≡ o → Stands (c ∷ ts) (identifier o)
identifier_stands c ts None e q = tt
identifier_stands c ts (Some ([], rest)) e q = tt
identifier_stands c ts (Some (n ∷ name, rest)) e q = by_mark (n == byte_order_mark) refl
  where
    by_mark : (b : Bool) → (n == byte_order_mark) ≡ b → Stands (c ∷ ts) (cond b Bad (Found (Quoted (n ∷ name)) rest))
    by_mark true d = tt
    by_mark false d =
        let h = quote_is ts (n ∷ name) rest q in
        (ap (λ x. x ∷ ts) (eqb-true c 34 e) ∙ ap (λ us. 34 ∷ us) h.0, h.1, (n, name, refl, λ k. true_false (n == byte_order_mark) (ap (λ x. x == byte_order_mark) k) d))

line_stands : (c : ℕ) (ts : List ℕ) → (c == 45) ≡ true → Stands (c ∷ ts) (line_comment ts)
line_stands c [] e = tt
line_stands c (d ∷ ts) e = by_dash (d == 45) refl
  where
    by_dash : (b : Bool) → (d == 45) ≡ b → Stands (c ∷ d ∷ ts) (cond b (Between (run_of in_line ts).1) Bad)
    by_dash true f = inr (inl (ts, (run_of in_line ts).0, ap (λ x. x ∷ d ∷ ts) (eqb-true c 45 e) ∙ ap (λ x. 45 ∷ x ∷ ts) (eqb-true d 45 f), run_is in_line ts))
    by_dash false f = tt

comment_stands : (c : ℕ) (ts : List ℕ) → (c == 47) ≡ true → Stands (c ∷ ts) (comment ts)
comment_stands c [] e = tt
comment_stands c (d ∷ ts) e = by_star (d == 42) refl
  where
    by_close : (o : Option (List ℕ)) → (d == 42) ≡ true → after_close ts ≡ o → Stands (c ∷ d ∷ ts) (skipped o)
    by_close None f q = tt
    by_close (Some rest) f q =
        let h = close_is ts rest q in
        inr (inr (h.0, ap (λ x. x ∷ d ∷ ts) (eqb-true c 47 e) ∙ ap (λ x. 47 ∷ x ∷ ts) (eqb-true d 42 f) ∙ ap (λ us. 47 ∷ 42 ∷ us) h.1, h.2))

    by_star : (b : Bool) → (d == 42) ≡ b → Stands (c ∷ d ∷ ts) (cond b (skipped (after_close ts)) Bad)
    by_star true f = by_close (after_close ts) f refl
    by_star false f = tt

sign_stands : (c : ℕ) (ts : List ℕ) → Stands (c ∷ ts) (sign_at c ts)
unfolding sign_at
sign_stands c ts = by_open (c == 40) refl
  where
    as_semicolon : (b : Bool) → (c == 59) ≡ b → Stands (c ∷ ts) (cond b (Found (Sign Semicolon) ts) Bad)
    as_semicolon true e = ap (λ x. x ∷ ts) (eqb-true c 59 e)
    as_semicolon false e = tt

    as_comma : (b : Bool) → (c == 44) ≡ b → Stands (c ∷ ts) (cond b (Found (Sign Comma) ts) (cond (c == 59) (Found (Sign Semicolon) ts) Bad))
    as_comma true e = ap (λ x. x ∷ ts) (eqb-true c 44 e)
    as_comma false e = as_semicolon (c == 59) refl

    as_close : (b : Bool) → (c == 41) ≡ b → Stands (c ∷ ts) (cond b (Found (Sign Close) ts) (cond (c == 44) (Found (Sign Comma) ts) (cond (c == 59) (Found (Sign Semicolon) ts) Bad)))
    as_close true e = ap (λ x. x ∷ ts) (eqb-true c 41 e)
    as_close false e = as_comma (c == 44) refl

    by_open : (b : Bool) → (c == 40) ≡ b → Stands (c ∷ ts) (cond b (Found (Sign Open) ts) (cond (c == 41) (Found (Sign Close) ts) (cond (c == 44) (Found (Sign Comma) ts) (cond (c == 59) (Found (Sign Semicolon) ts) Bad))))
    by_open true e = ap (λ x. x ∷ ts) (eqb-true c 40 e)
    by_open false e = as_close (c == 41) refl

-- What is answered stands there.
pub lexeme_stands : (ts : List ℕ) → Stands ts (lexeme ts)
unfolding lexeme
lexeme_stands [] = tt
lexeme_stands (c ∷ ts) = by_word (begins_word c) refl
  where
    by_slash : (b : Bool) → (c == 47) ≡ b → Stands (c ∷ ts) (cond b (comment ts) (sign_at c ts))
    by_slash true e = comment_stands c ts e
    by_slash false e = sign_stands c ts

    by_dash : (b : Bool) → (c == 45) ≡ b → Stands (c ∷ ts) (cond b (line_comment ts) (cond (c == 47) (comment ts) (sign_at c ts)))
    by_dash true e = line_stands c ts e
    by_dash false e = by_slash (c == 47) refl

    by_quote : (b : Bool) → (c == 34) ≡ b → Stands (c ∷ ts) (cond b (identifier (quoted_at ts)) (cond (c == 45) (line_comment ts) (cond (c == 47) (comment ts) (sign_at c ts))))
    by_quote true e = identifier_stands c ts (quoted_at ts) e refl
    by_quote false e = by_dash (c == 45) refl

    by_space : (b : Bool) → is_space c ≡ b → Stands (c ∷ ts) (cond b (Between ts) (cond (c == 34) (identifier (quoted_at ts)) (cond (c == 45) (line_comment ts) (cond (c == 47) (comment ts) (sign_at c ts)))))
    by_space true e = inl (c, refl, e)
    by_space false e = by_quote (c == 34) refl

    by_digit : (b : Bool) → is_digit c ≡ b → Stands (c ∷ ts) (cond b (Found Number (run_of is_digit ts).1) (cond (is_space c) (Between ts) (cond (c == 34) (identifier (quoted_at ts)) (cond (c == 45) (line_comment ts) (cond (c == 47) (comment ts) (sign_at c ts))))))
    by_digit true e = number_stands c ts e
    by_digit false e = by_space (is_space c) refl

    by_word : (b : Bool) → begins_word c ≡ b
        → Stands (c ∷ ts) (word_step c ts b (cond (is_digit c) (Found Number (run_of is_digit ts).1) (cond (is_space c) (Between ts) (cond (c == 34) (identifier (quoted_at ts)) (cond (c == 45) (line_comment ts) (cond (c == 47) (comment ts) (sign_at c ts)))))))
    by_word true e = word_stands c ts e
    by_word false e = by_digit (is_digit c) refl

-- ---- what stands there is answered

abbrev between_as : List ℕ → Lexeme
between_as rest = Between rest

abbrev found_as : Token → List ℕ → Lexeme
found_as token rest = Found token rest

lex_digit : (c : ℕ) (ts : List ℕ) → is_digit c ≡ true → lexeme (c ∷ ts) ≡ Found Number (run_of is_digit ts).1
unfolding lexeme
lex_digit c ts e =
    let others : Lexeme = cond (is_space c) (Between ts) (cond (c == 34) (identifier (quoted_at ts)) (cond (c == 45) (line_comment ts) (cond (c == 47) (comment ts) (sign_at c ts)))) in
    ap (λ b. word_step c ts b (cond (is_digit c) (Found Number (run_of is_digit ts).1) others)) (digit_no_word c e)
    ∙ ap (λ b. cond b (found_as Number (run_of is_digit ts).1) others) e

lex_word : (c : ℕ) (ts : List ℕ) → begins_word c ≡ true → lexeme (c ∷ ts) ≡ Found (Word (c ∷ (run_of in_word ts).0)) (run_of in_word ts).1
unfolding lexeme
lex_word c ts e =
    ap (λ b. word_step c ts b (cond (is_digit c) (Found Number (run_of is_digit ts).1) (cond (is_space c) (Between ts) (cond (c == 34) (identifier (quoted_at ts)) (cond (c == 45) (line_comment ts) (cond (c == 47) (comment ts) (sign_at c ts))))))) e

lex_space : (c : ℕ) (ts : List ℕ) → is_space c ≡ true → lexeme (c ∷ ts) ≡ Between ts
unfolding lexeme
lex_space c ts e = space_is (λ n. lexeme (n ∷ ts) ≡ Between ts) c e refl refl refl refl refl

lex_sign : (s : _) (ts : List ℕ) → lexeme (character s ∷ ts) ≡ Found (Sign s) ts
unfolding lexeme sign_at
lex_sign Open ts = refl
lex_sign Close ts = refl
lex_sign Comma ts = refl
lex_sign Semicolon ts = refl

lex_quote : (ts : List ℕ) → lexeme (34 ∷ ts) ≡ identifier (quoted_at ts)
unfolding lexeme
lex_quote ts = refl

lex_dash : (ts : List ℕ) → lexeme (45 ∷ 45 ∷ ts) ≡ Between (run_of in_line ts).1
unfolding lexeme
lex_dash ts = refl

lex_slash : (ts : List ℕ) → lexeme (47 ∷ 42 ∷ ts) ≡ skipped (after_close ts)
unfolding lexeme
lex_slash ts = refl

pub token_found : (token : Token) (ts rest : List ℕ) → StandsToken token ts rest → lexeme ts ≡ Found token rest
token_found (Sign s) ts rest h = ap lexeme h ∙ lex_sign s rest
token_found Number ts rest ([], full, h) = absurd (full refl)
token_found Number ts rest (d ∷ ds, full, h) =
    let p = both_of (is_digit d) (list_all is_digit ds) h.pass in
    ap lexeme h.whole ∙ lex_digit d (ds ++ rest) p.0 ∙ ap (λ (x : List ℕ × List ℕ). found_as Number x.1) (run_back is_digit ds rest p.1 h.ends)
token_found (Word name) ts rest (first, others, behind, n, e, b, h) =
    ap lexeme e ∙ lex_word first behind b
    ∙ ap (λ (x : List ℕ × List ℕ). found_as (Word (first ∷ x.0)) x.1) (run_found in_word others behind rest h)
    ∙ ap (λ us. found_as (Word us) rest) (sym n)
token_found (Quoted name) ts rest (e, ends, (first, others, n, mark)) =
    ap lexeme e ∙ lex_quote (doubled name ++ 34 ∷ rest) ∙ ap identifier (quote_back name rest ends)
    ∙ ap (λ us. identifier (some_pair us rest)) n
    ∙ ap (λ b. cond b Bad (found_as (Quoted (first ∷ others)) rest)) (is_not (first == byte_order_mark) (λ k. mark (eqb-true first byte_order_mark k)))
    ∙ ap (λ us. found_as (Quoted us) rest) (sym n)

pub between_found : (ts rest : List ℕ) → StandsBetween ts rest → lexeme ts ≡ Between rest
between_found ts rest (inl (c, e, s)) = ap lexeme e ∙ lex_space c rest s
between_found ts rest (inr (inl (behind, line, e, h))) =
    ap lexeme e ∙ lex_dash behind ∙ ap (λ (x : List ℕ × List ℕ). between_as x.1) (run_found in_line line behind rest h)
between_found ts rest (inr (inr (inside, e, h))) =
    ap lexeme e ∙ lex_slash (inside ++ 42 ∷ 47 ∷ rest) ∙ ap skipped (close_back inside rest h)

pub bad_is : (ts : List ℕ) → lexeme ts ≡ Bad → IsNoToken ts
bad_is ts e = record {
  no_token = λ token rest h. found_bad token rest (sym (token_found token ts rest h) ∙ e);
  not_between = λ rest h. between_bad rest (sym (between_found ts rest h) ∙ e);
}
  where
    found_bad : (token : Token) (rest : List ℕ) → Found token rest ≡ Bad → ⊥
    found_bad token rest d = absurd cc

    between_bad : (rest : List ℕ) → Between rest ≡ Bad → ⊥
    between_bad rest d = absurd cc

abbrev stands_as : List ℕ → Lexeme → Type 0
stands_as = Stands

pub between_is : (ts rest : List ℕ) → lexeme ts ≡ Between rest → StandsBetween ts rest
between_is ts rest e = subst (λ (l : Lexeme). stands_as ts l) e (lexeme_stands ts)

pub token_is : (ts rest : List ℕ) (token : Token) → lexeme ts ≡ Found token rest → StandsToken token ts rest
token_is ts rest token e = subst (λ (l : Lexeme). stands_as ts l) e (lexeme_stands ts)
