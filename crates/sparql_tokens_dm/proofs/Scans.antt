-- What is found at the front of a text is what stands there, and the other way round.
use Rattle.std.proofs.Common.{◌≡◌, ◌≢◌, ◌∙◌, ℕ, ◌<◌, List, [], ◌∷◌, ◌++◌, length, Bool, true, false, Option, Some, None, refl, sym, ap, subst, arith, cond}
use Rattle.std.specs.Prelude.{◌==◌, ◌||◌}
use Rattle.std.proofs.lemmas.Bool.{eqb-true}
use Rattle.names_dm.specs.Characters.{is_ascii_letter}
use Rattle.names_dm.specs.Literals.{LiteralValue}
use Rattle.names_dm.specs.Terminals.{is_variable_character}
use Rattle.names_dm.specs.declared.term.Term.TheVariants as terms
use Rattle.ntriples_reader_dm.specs.Front.{IsFront, as_term}
use Rattle.ntriples_reader_dm.specs.Grammar.{literal}
use Rattle.ntriples_reader_dm.specs.Reading.{iri_at, longest_literal}
use Rattle.ntriples_reader_dm.specs.Views.{EndsWith}
use Rattle.ntriples_reader_dm.proofs.Fronts.{ends_all, ends_length, ends_trans, iri_begins, iri_found, iri_front, literal_begins, literal_found, literal_front}
use Rattle.ddl_tokens_dm.specs.Scanning.{run_of}
use Rattle.ddl_tokens_dm.specs.Tokens.{IsRun}
use Rattle.ddl_tokens_dm.proofs.Scans.{run_found, run_is}
use Rattle.sparql_tokens_dm.specs.Characters.{is_space, sign_text, spelling}
use Rattle.sparql_tokens_dm.specs.Scanning.{Lexeme, behind_first, iri_lexeme, keyword_named, lexeme, literal_lexeme, sign_lexeme, twice, variable_lexeme, word_lexeme}
use Rattle.sparql_tokens_dm.specs.Scanning.Lexeme.{Between, Found, Bad}
use Rattle.sparql_tokens_dm.specs.Tokens.{IsNoToken, IsSpace, StandsToken}
use Rattle.sparql_tokens_dm.specs.declared.token.Keyword.{Keyword}
use Rattle.sparql_tokens_dm.specs.declared.token.Sign.{Sign as Mark}
use Rattle.sparql_tokens_dm.specs.declared.token.Sign.TheVariants.{OpenBrace, CloseBrace, OpenParenthesis, CloseParenthesis, Dot, Comma, Not, And, Or}
use Rattle.sparql_tokens_dm.specs.declared.token.Token.{Token}
use Rattle.sparql_tokens_dm.specs.declared.token.Token.TheVariants.{Sign, Word, Var, Iri, Literal}
use Rattle.sparql_tokens_dm.proofs.Keywords.{keyword_found, keyword_is, spelling_first}

-- ---- what is found stands there

abbrev pub Stands : List ℕ → Lexeme → Type 0
Stands ts (Between rest) = IsSpace ts rest
Stands ts (Found token rest) = StandsToken token ts rest
Stands ts Bad = Unit {0}

cons_is_not : (c : ℕ) (cs : List ℕ) → c ∷ cs ≢ []
cons_is_not c cs e = absurd cc

word_stands : (ts run rest : List ℕ) (o : Option Keyword) → keyword_named run ≡ o → IsRun is_ascii_letter run ts rest → Stands ts (word_lexeme o rest)
word_stands ts run rest None e h = tt
word_stands ts run rest (Some w) e h = subst (λ (us : List ℕ). IsRun is_ascii_letter us ts rest) (keyword_is run w e) h

variable_stands : (behind run rest : List ℕ) → IsRun is_variable_character run behind rest → Stands (63 ∷ behind) (variable_lexeme run rest)
variable_stands behind [] rest h = tt
variable_stands behind (c ∷ cs) rest h = (cons_is_not c cs, (behind, refl, h))

iri_stands : (ts : List ℕ) (o : Option (List ℕ × List ℕ)) → iri_at ts ≡ o → Stands ts (iri_lexeme o)
iri_stands ts None e = tt
iri_stands ts (Some x) e = iri_front ts (Some x) e

literal_stands : (ts : List ℕ) (o : Option (LiteralValue × List ℕ)) → longest_literal ts ≡ o → Stands ts (literal_lexeme o)
literal_stands ts None e = tt
literal_stands ts (Some x) e = subst (λ (o : Option (LiteralValue × List ℕ)). IsFront literal ts (as_term o)) e (literal_front ts)

first_is : (c n : ℕ) (ts : List ℕ) → (c == n) ≡ true → c ∷ ts ≡ n ∷ ts
first_is c n ts e = ap (λ d. d ∷ ts) (eqb-true c n e)

twice_stands : (c n : ℕ) (ts : List ℕ) (s : Mark) → (c == n) ≡ true → ((rest : List ℕ) → sign_text s ++ rest ≡ n ∷ n ∷ rest) → Stands (c ∷ ts) (twice n (Found (Sign s) (behind_first ts)) ts)
twice_stands c n [] s e text = tt
twice_stands c n (d ∷ ts) s e text = by_second (d == n) refl
  where
    by_second : (b : Bool) → (d == n) ≡ b → Stands (c ∷ d ∷ ts) (cond b (Found (Sign s) ts) Bad)
    by_second true h = first_is c n (d ∷ ts) e ∙ ap (λ us. n ∷ us) (first_is d n ts h) ∙ sym (text ts)
    by_second false h = tt

sign_step : (c : ℕ) (ts : List ℕ) (a b d e f g h i j : Bool) → (c == 123) ≡ a → (c == 125) ≡ b → (c == 40) ≡ d → (c == 41) ≡ e → (c == 46) ≡ f → (c == 44) ≡ g → (c == 33) ≡ h → (c == 38) ≡ i → (c == 124) ≡ j
    → Stands (c ∷ ts) (cond a (Found (Sign OpenBrace) ts) (cond b (Found (Sign CloseBrace) ts) (cond d (Found (Sign OpenParenthesis) ts) (cond e (Found (Sign CloseParenthesis) ts) (cond f (Found (Sign Dot) ts)
    (cond g (Found (Sign Comma) ts) (cond h (Found (Sign Not) ts) (cond i (twice 38 (Found (Sign And) (behind_first ts)) ts) (cond j (twice 124 (Found (Sign Or) (behind_first ts)) ts) Bad)))))))))
sign_step c ts true b d e f g h i j p1 p2 p3 p4 p5 p6 p7 p8 p9 = first_is c 123 ts p1
sign_step c ts false true d e f g h i j p1 p2 p3 p4 p5 p6 p7 p8 p9 = first_is c 125 ts p2
sign_step c ts false false true e f g h i j p1 p2 p3 p4 p5 p6 p7 p8 p9 = first_is c 40 ts p3
sign_step c ts false false false true f g h i j p1 p2 p3 p4 p5 p6 p7 p8 p9 = first_is c 41 ts p4
sign_step c ts false false false false true g h i j p1 p2 p3 p4 p5 p6 p7 p8 p9 = first_is c 46 ts p5
sign_step c ts false false false false false true h i j p1 p2 p3 p4 p5 p6 p7 p8 p9 = first_is c 44 ts p6
sign_step c ts false false false false false false true i j p1 p2 p3 p4 p5 p6 p7 p8 p9 = first_is c 33 ts p7
sign_step c ts false false false false false false false true j p1 p2 p3 p4 p5 p6 p7 p8 p9 = twice_stands c 38 ts And p8 (λ rest. refl)
sign_step c ts false false false false false false false false true p1 p2 p3 p4 p5 p6 p7 p8 p9 = twice_stands c 124 ts Or p9 (λ rest. refl)
sign_step c ts false false false false false false false false false p1 p2 p3 p4 p5 p6 p7 p8 p9 = tt

sign_stands : (c : ℕ) (ts : List ℕ) → Stands (c ∷ ts) (sign_lexeme c ts)
unfolding sign_lexeme
sign_stands c ts = sign_step c ts (c == 123) (c == 125) (c == 40) (c == 41) (c == 46) (c == 44) (c == 33) (c == 38) (c == 124) refl refl refl refl refl refl refl refl refl

lexeme_step : (c : ℕ) (ts : List ℕ) (l s q i d : Bool) → is_ascii_letter c ≡ l → is_space c ≡ s → (c == 63) ≡ q → (c == 60) ≡ i → (c == 34) ≡ d
    → Stands (c ∷ ts) (cond l (word_lexeme (keyword_named (run_of is_ascii_letter (c ∷ ts)).0) (run_of is_ascii_letter (c ∷ ts)).1) (cond s (Between ts)
    (cond q (variable_lexeme (run_of is_variable_character ts).0 (run_of is_variable_character ts).1) (cond i (iri_lexeme (iri_at (c ∷ ts))) (cond d (literal_lexeme (longest_literal (c ∷ ts))) (sign_lexeme c ts))))))
lexeme_step c ts true s q i d p1 p2 p3 p4 p5 = word_stands (c ∷ ts) (run_of is_ascii_letter (c ∷ ts)).0 (run_of is_ascii_letter (c ∷ ts)).1 (keyword_named (run_of is_ascii_letter (c ∷ ts)).0) refl (run_is is_ascii_letter (c ∷ ts))
lexeme_step c ts false true q i d p1 p2 p3 p4 p5 = (c, refl, p2)
lexeme_step c ts false false true i d p1 p2 p3 p4 p5 =
    subst (λ (x : ℕ). Stands (x ∷ ts) (variable_lexeme (run_of is_variable_character ts).0 (run_of is_variable_character ts).1)) (sym (eqb-true c 63 p3))
    (variable_stands ts (run_of is_variable_character ts).0 (run_of is_variable_character ts).1 (run_is is_variable_character ts))
lexeme_step c ts false false false true d p1 p2 p3 p4 p5 = iri_stands (c ∷ ts) (iri_at (c ∷ ts)) refl
lexeme_step c ts false false false false true p1 p2 p3 p4 p5 = literal_stands (c ∷ ts) (longest_literal (c ∷ ts)) refl
lexeme_step c ts false false false false false p1 p2 p3 p4 p5 = sign_stands c ts

lexeme_stands : (ts : List ℕ) → Stands ts (lexeme ts)
unfolding lexeme
lexeme_stands [] = tt
lexeme_stands (c ∷ ts) = lexeme_step c ts (is_ascii_letter c) (is_space c) (c == 63) (c == 60) (c == 34) refl refl refl refl refl

pub space_is : (ts rest : List ℕ) → lexeme ts ≡ Between rest → IsSpace ts rest
space_is ts rest e = subst (λ (l : Lexeme). Stands ts l) e (lexeme_stands ts)

pub token_is : (ts rest : List ℕ) (token : Token) → lexeme ts ≡ Found token rest → StandsToken token ts rest
token_is ts rest token e = subst (λ (l : Lexeme). Stands ts l) e (lexeme_stands ts)

-- ---- what stands there is found

abbrev word_by : List ℕ × List ℕ → Lexeme
word_by x = word_lexeme (keyword_named x.0) x.1

abbrev letter_by : ℕ → List ℕ → Bool → Lexeme
letter_by c ts b =
    cond b (word_by (run_of is_ascii_letter (c ∷ ts))) (cond (is_space c) (Between ts) (cond (c == 63) (variable_lexeme (run_of is_variable_character ts).0 (run_of is_variable_character ts).1)
    (cond (c == 60) (iri_lexeme (iri_at (c ∷ ts))) (cond (c == 34) (literal_lexeme (longest_literal (c ∷ ts))) (sign_lexeme c ts)))))

lex_letter : (c : ℕ) (ts : List ℕ) → is_ascii_letter c ≡ true → lexeme (c ∷ ts) ≡ word_by (run_of is_ascii_letter (c ∷ ts))
unfolding lexeme
lex_letter c ts e = ap (λ b. letter_by c ts b) e

abbrev variable_by : List ℕ × List ℕ → Lexeme
variable_by x = variable_lexeme x.0 x.1

lex_variable : (ts : List ℕ) → lexeme (63 ∷ ts) ≡ variable_by (run_of is_variable_character ts)
unfolding lexeme
lex_variable ts = refl

lex_iri : (ts : List ℕ) → lexeme (60 ∷ ts) ≡ iri_lexeme (iri_at (60 ∷ ts))
unfolding lexeme
lex_iri ts = refl

lex_literal : (ts : List ℕ) → lexeme (34 ∷ ts) ≡ literal_lexeme (longest_literal (34 ∷ ts))
unfolding lexeme
lex_literal ts = refl

lex_sign : (s : Mark) (ts : List ℕ) → lexeme (sign_text s ++ ts) ≡ Found (Sign s) ts
unfolding lexeme sign_lexeme
lex_sign OpenBrace ts = refl
lex_sign CloseBrace ts = refl
lex_sign OpenParenthesis ts = refl
lex_sign CloseParenthesis ts = refl
lex_sign Dot ts = refl
lex_sign Comma ts = refl
lex_sign Not ts = refl
lex_sign And ts = refl
lex_sign Or ts = refl

word_found : (w : Keyword) (ts rest : List ℕ) → IsRun is_ascii_letter (spelling w) ts rest → lexeme ts ≡ Found (Word w) rest
word_found w ts rest h =
    let f = spelling_first w in
    let is : ts ≡ f.0 ∷ (f.1 ++ rest) = h.whole ∙ ap (λ us. us ++ rest) f.2 in
    ap lexeme is ∙ lex_letter f.0 (f.1 ++ rest) f.3 ∙ ap (λ us. word_by (run_of is_ascii_letter us)) (sym is) ∙ ap word_by (run_found is_ascii_letter (spelling w) ts rest h) ∙ ap (λ o. word_lexeme o rest) (keyword_found w)

variable_named : (x rest : List ℕ) → x ≢ [] → variable_lexeme x rest ≡ Found (Var x) rest
variable_named [] rest h = absurd (h refl)
variable_named (c ∷ cs) rest h = refl

pub token_found : (token : Token) (ts rest : List ℕ) → StandsToken token ts rest → lexeme ts ≡ Found token rest
token_found (Sign s) ts rest h = ap lexeme h ∙ lex_sign s rest
token_found (Word w) ts rest h = word_found w ts rest h
token_found (Var x) ts rest h = let b = h.1 in ap lexeme b.1 ∙ lex_variable b.0 ∙ ap variable_by (run_found is_variable_character x b.0 rest b.2) ∙ variable_named x rest h.0
token_found (Iri i) ts rest h = let b = iri_begins ts rest i h.stands in ap lexeme b.1 ∙ lex_iri b.0 ∙ ap (λ us. iri_lexeme (iri_at us)) (sym b.1) ∙ ap iri_lexeme (iri_found ts rest i h)
token_found (Literal l) ts rest h =
    let b = literal_begins ts rest (terms.Literal l) h.stands in ap lexeme b.1 ∙ lex_literal b.0 ∙ ap (λ us. literal_lexeme (longest_literal us)) (sym b.1) ∙ ap literal_lexeme (literal_found ts rest l h)

-- a space is one of four
space_by : (W : ℕ → Type 0) (c : ℕ) → is_space c ≡ true → W 32 → W 9 → W 13 → W 10 → W c
space_by W c e a b d f = by_first (c == 32) refl e
  where
    from : (n : ℕ) → (c == n) ≡ true → W n → W c
    from n h w = subst W (sym (eqb-true c n h)) w

    by_third : (x : Bool) → (c == 13) ≡ x → (x || c == 10) ≡ true → W c
    by_third true h k = from 13 h d
    by_third false h k = from 10 k f

    by_second : (x : Bool) → (c == 9) ≡ x → (x || c == 13 || c == 10) ≡ true → W c
    by_second true h k = from 9 h b
    by_second false h k = by_third (c == 13) refl k

    by_first : (x : Bool) → (c == 32) ≡ x → (x || c == 9 || c == 13 || c == 10) ≡ true → W c
    by_first true h k = from 32 h a
    by_first false h k = by_second (c == 9) refl k

pub space_found : (ts rest : List ℕ) → IsSpace ts rest → lexeme ts ≡ Between rest
unfolding lexeme
space_found ts rest h = ap lexeme h.1 ∙ space_by (λ c. lexeme (c ∷ rest) ≡ Between rest) h.0 h.2 refl refl refl refl

found_bad : {W : Type 0} (t : Token) (rest : List ℕ) → Found t rest ≡ Bad → W
found_bad t rest e = absurd cc

between_bad : {W : Type 0} (rest : List ℕ) → Between rest ≡ Bad → W
between_bad rest e = absurd cc

pub bad_is : (ts : List ℕ) → lexeme ts ≡ Bad → IsNoToken ts
bad_is ts e = record {
  no_token = λ token rest h. found_bad token rest (sym (token_found token ts rest h) ∙ e);
  no_space = λ rest h. between_bad rest (sym (space_found ts rest h) ∙ e);
}

-- ---- what stands behind is an end of the text, and shorter

-- the text behind is the end of ts, and isn't all of it
abbrev pub IsBehind : List ℕ → List ℕ → Type 0
IsBehind ts rest = (first : ℕ) × (mid : List ℕ) × (ts ≡ first ∷ mid) × EndsWith mid rest

sign_behind : (s : Mark) (ts rest : List ℕ) → ts ≡ sign_text s ++ rest → IsBehind ts rest
sign_behind OpenBrace ts rest e = (123, rest, e, ends_all rest)
sign_behind CloseBrace ts rest e = (125, rest, e, ends_all rest)
sign_behind OpenParenthesis ts rest e = (40, rest, e, ends_all rest)
sign_behind CloseParenthesis ts rest e = (41, rest, e, ends_all rest)
sign_behind Dot ts rest e = (46, rest, e, ends_all rest)
sign_behind Comma ts rest e = (44, rest, e, ends_all rest)
sign_behind Not ts rest e = (33, rest, e, ends_all rest)
sign_behind And ts rest e = (38, 38 ∷ rest, e, record { front = 38 ∷ []; whole = refl })
sign_behind Or ts rest e = (124, 124 ∷ rest, e, record { front = 124 ∷ []; whole = refl })

pub token_behind : (token : Token) (ts rest : List ℕ) → StandsToken token ts rest → IsBehind ts rest
token_behind (Sign s) ts rest h = sign_behind s ts rest h
token_behind (Word w) ts rest h = let f = spelling_first w in (f.0, f.1 ++ rest, h.whole ∙ ap (λ us. us ++ rest) f.2, record { front = f.1; whole = refl })
token_behind (Var x) ts rest h = let b = h.1 in (63, b.0, b.1, record { front = x; whole = (b.2).whole })
token_behind (Iri i) ts rest h = let b = iri_begins ts rest i h.stands in (60, b.0, b.1, b.2)
token_behind (Literal l) ts rest h = let b = literal_begins ts rest (terms.Literal l) h.stands in (34, b.0, b.1, b.2)

pub space_behind : (ts rest : List ℕ) → IsSpace ts rest → IsBehind ts rest
space_behind ts rest h = (h.0, rest, h.1, ends_all rest)

pub behind_ends : (text ts rest : List ℕ) → EndsWith text ts → IsBehind ts rest → EndsWith text rest
behind_ends text ts rest h b = ends_trans text ts rest h (ends_trans ts b.1 rest (record { front = b.0 ∷ []; whole = b.2 }) b.3)

pub behind_shorter : (ts rest : List ℕ) → IsBehind ts rest → length rest < length ts
behind_shorter ts rest b = let le = ends_length b.1 rest b.3 in omega (arith, le, ap length b.2)
