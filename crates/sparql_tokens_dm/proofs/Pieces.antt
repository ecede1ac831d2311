-- Bytes in front of a text whose tokens are known, and the tokens that they add.
use Rattle.std.proofs.Common.{◌≡◌, ◌≢◌, ◌∙◌, ℕ, ◌+◌, ◌-◌, ◌<◌, List, [], ◌∷◌, ◌++◌, length, map, Bool, true, false, refl, sym, ap, subst, arith, cond, append_assoc, encode_utf8_all, chars, IsUtf8, IsAscii}
use Rattle.std.specs.Prelude.{◌==◌, ◌||◌, ◌&&◌, nat_lt, codes}
use Rattle.std.specs.List.{list_all}
use Rattle.std.proofs.lemmas.Bool.{cases_Bool, eqb-true, ltb-true}
use Rattle.std.proofs.lemmas.Str.Ascii.{IsAscii-nil}
use Rattle.std.proofs.lemmas.Str.{encode_ascii, encodes-chars, encodes-IsAscii, scalars-chars, IsUtf8-append, IsUtf8-from_ascii, IsUtf8-nil, chars-append, chars-IsAscii, chars-nil}
use Rattle.std.proofs.Common.{inl, inr}
use Rattle.grammar_dm.specs.Reading.{starts}
use Rattle.names_dm.specs.Characters.{is_ascii, is_ascii_letter}
use Rattle.names_dm.specs.Literals.{LiteralValue}
use Rattle.names_dm.specs.Terminals.{is_variable, is_variable_character}
use Rattle.names_dm.specs.declared.term.Term.{Term}
use Rattle.names_dm.specs.declared.term.Term.TheVariants as terms
use Rattle.names_dm.proofs.Ascii.{ascii_cons}
use Rattle.names_dm.proofs.Utf8.{chars-encodes_any}
use Rattle.ntriples_reader_dm.specs.Characters.{is_blank}
use Rattle.ntriples_reader_dm.specs.Lawful.{IsLawfulTerm}
use Rattle.ntriples_reader_dm.specs.Reading.{begins, skip}
use Rattle.ntriples_reader_dm.specs.WrittenLine.{term_chars}
use Rattle.ntriples_reader_dm.proofs.ReadBack.{term_bytes, term_scalars}
use Rattle.ntriples_reader_dm.proofs.Exact.{both_of}
use Rattle.ntriples_dm.specs.Written.{term_text}
use Rattle.ddl_tokens_dm.specs.Tokens.{IsRun}
use Rattle.sparql_tokens_dm.specs.Characters.{is_space, sign_text, spelling}
use Rattle.sparql_tokens_dm.specs.Scanning.{Lexeme, lexeme, sign_lexeme}
use Rattle.sparql_tokens_dm.specs.Scanning.Lexeme.{Between, Found, Bad}
use Rattle.sparql_tokens_dm.specs.Tokens.{AreTokens, Consists, IsSpace, StandsToken}
use Rattle.sparql_tokens_dm.specs.Tokens.Consists.{nothing, between, token}
use Rattle.sparql_tokens_dm.specs.declared.token.Keyword.{Keyword}
use Rattle.sparql_tokens_dm.specs.declared.token.Keyword.TheVariants as keywords
use Rattle.sparql_tokens_dm.specs.declared.token.Sign.{Sign as Mark}
use Rattle.sparql_tokens_dm.specs.declared.token.Sign.TheVariants as signs
use Rattle.sparql_tokens_dm.specs.declared.token.Token.{Token}
use Rattle.sparql_tokens_dm.specs.declared.token.Token.TheVariants.{Sign, Word, Var, Iri, Literal}
use Rattle.sparql_tokens_dm.specs.declared.token.Placed.{Placed}
use Rattle.sparql_tokens_dm.proofs.Scans.{space_found, token_behind, token_found}
use Rattle.sparql_tokens_dm.proofs.WrittenTerms.{IsBehindTerm, in_name, iri_longest, literal_longest, no_name, or_parts}

abbrev pub tokens_in : List Placed → List Token
tokens_in found = map (λ (t : Placed). t.token) found

-- ---- what stands behind a term begins with a token, or with nothing

no_found : {W : Type 0} (t : Token) (rest : List ℕ) → Bad ≡ Found t rest → W
no_found t rest e = absurd cc

between_found : {W : Type 0} (a : List ℕ) (t : Token) (rest : List ℕ) → Between a ≡ Found t rest → W
between_found a t rest e = absurd cc

-- no token begins with ^ or @
abbrev IsNoFirst : ℕ → Type 0
IsNoFirst c = (ts : List ℕ) → lexeme (c ∷ ts) ≡ Bad

caret : IsNoFirst 94
unfolding lexeme sign_lexeme
caret ts = refl

at : IsNoFirst 64
unfolding lexeme sign_lexeme
at ts = refl

skip_blank : (c : ℕ) (ts : List ℕ) (b : Bool) → is_blank c ≡ b → skip (c ∷ ts) ≡ cond b (skip ts) (c ∷ ts)
unfolding skip
skip_blank c ts b e = ap (λ x. cond x (skip ts) (c ∷ ts)) e

blank_space : (c : ℕ) → is_blank c ≡ true → is_space c ≡ true
blank_space c e = elim (cases_Bool (c == 32)) [
  | inl h ↦ rw h refl
  | inr n ↦ rw n (ap (λ b. b || (c == 13) || (c == 10)) (sym (ap (λ b. b || (c == 9)) n) ∙ e))
]

not_begins : (n : ℕ) → IsNoFirst n → (c : ℕ) (ts rest : List ℕ) (t : Token) → lexeme (c ∷ ts) ≡ Found t rest → begins n (c ∷ ts) ≡ false
not_begins n bad c ts rest t found = elim (cases_Bool (c == n)) [
  | inl h ↦ no_found t rest (sym (bad ts) ∙ ap (λ d. lexeme (d ∷ ts)) (sym (eqb-true c n h)) ∙ found)
  | inr h ↦ h
]

space_apart : (n : ℕ) → is_space n ≡ false → (c : ℕ) → is_space c ≡ true → (c == n) ≡ false
space_apart n no_space c e = elim (cases_Bool (c == n)) [
  | inl h ↦ absurd (two (is_space c) e (ap is_space (eqb-true c n h) ∙ no_space))
  | inr h ↦ h
]
  where
    two : (b : Bool) → b ≡ true → b ≡ false → ⊥
    two b d e = absurd cc

module _ (total : ℕ) (n : ℕ) (bad : IsNoFirst n) (solid : is_space n ≡ false) where
  token_first : (ts rest : List ℕ) (t : Token) → StandsToken t ts rest → begins n (skip ts) ≡ false
  token_first ts rest t h =
      let first = token_behind t ts rest h in
      let found : lexeme (first.0 ∷ first.1) ≡ Found t rest = ap lexeme (sym first.2) ∙ token_found t ts rest h in
      ap (λ us. begins n (skip us)) first.2 ∙ elim (cases_Bool (is_blank first.0)) [
        | inl blank ↦ between_found first.1 t rest (sym (space_found (first.0 ∷ first.1) first.1 (first.0, refl, blank_space first.0 blank)) ∙ found)
        | inr other ↦ ap (begins n) (skip_blank first.0 first.1 false other) ∙ not_begins n bad first.0 first.1 rest t found
      ]

  no_first : {ts rest : List ℕ} {found : List Placed} → Consists total ts found rest → rest ≡ [] → begins n (skip ts) ≡ false
  unfolding skip
  no_first {ts} nothing e = ap (λ us. begins n (skip us)) e
  no_first (between {after = after} s h) e = ap (λ us. begins n (skip us)) s.1 ∙ elim (cases_Bool (is_blank s.0)) [
    | inl blank ↦ ap (begins n) (skip_blank s.0 after true blank) ∙ no_first h e
    | inr other ↦ ap (begins n) (skip_blank s.0 after false other) ∙ space_apart n solid s.0 s.2
  ]
  no_first (token {ts = ts} {after = after} {token = t} s h) e = token_first ts after t s

ascii_bytes : (bs : List ℕ) → list_all is_ascii bs ≡ true → IsAscii bs
ascii_bytes [] e = IsAscii-nil
ascii_bytes (c ∷ cs) e = let both = both_of (is_ascii c) (list_all is_ascii cs) e in ascii_cons c cs (ltb-true c 128 both.0) (ascii_bytes cs both.1)

small_name : (c : ℕ) → is_variable_character c ≡ true → is_ascii c ≡ true
small_name c e = grind (arith)

-- ---- a text with its tokens

-- a text that ends a text of so many bytes, and its tokens
pub record Ending (total : ℕ) (bytes : List ℕ) (tokens : List Token) : Type 0 where
  pub utf8 : IsUtf8 bytes
  pub found : List Placed
  pub consists : Consists total (chars bytes) found []
  pub are : tokens_in found ≡ tokens

-- no name goes on with the bytes
abbrev pub EndsName : List ℕ → Type 0
EndsName bytes = starts in_name bytes ≡ false

small : (c : ℕ) → in_name c ≡ true → c < 128
small c e = grind (arith)

ends_chars : (bytes : List ℕ) → IsUtf8 bytes → EndsName bytes → starts in_name (chars bytes) ≡ false
ends_chars bytes u e = by (chars bytes) (encodes-chars bytes u)
  where
    by : (cs : List ℕ) → encode_utf8_all cs ≡ bytes → starts in_name cs ≡ false
    by [] h = refl
    by (c ∷ cs) h = elim (cases_Bool (in_name c)) [
      | inl named ↦ sym (ap (λ bs. starts in_name (bs ++ encode_utf8_all cs)) (encode_ascii c (small c named))) ∙ ap (starts in_name) h ∙ e
      | inr other ↦ other
    ]

-- what stands behind a term
behind_term : (total : ℕ) (rest : List ℕ) (more : List Token) → EndsName rest → Ending total rest more → IsBehindTerm (chars rest)
behind_term total rest more ends h = record {
  name = ends_chars rest h.utf8 ends;
  datatype = no_first total 94 caret refl h.consists refl;
  tag = no_first total 64 at refl h.consists refl;
}

-- ---- pieces

-- Bytes that stand for tokens in front of any text that follows them rightly. The tokens are told by what they make of those behind.
abbrev On : ℕ → (List ℕ → Type 0) → List ℕ → (List Token → List Token) → Type 0
On total Follows bytes adds = (rest : List ℕ) (more : List Token) → Follows rest → Ending total rest more → Ending total (bytes ++ rest) (adds more)

pub record Writes (total : ℕ) (Follows : List ℕ → Type 0) (bytes : List ℕ) (adds : List Token → List Token) : Type 0 where
  pub on : (rest : List ℕ) (more : List Token) → Follows rest → Ending total rest more → Ending total (bytes ++ rest) (adds more)

abbrev pub Anything : List ℕ → Type 0
Anything rest = Unit {0}

module _ (total : ℕ) where
  abbrev pub Free : List ℕ → (List Token → List Token) → Type 0
  Free bytes adds = Writes total Anything bytes adds

  abbrev pub Ends : List ℕ → (List Token → List Token) → Type 0
  Ends bytes adds = Writes total EndsName bytes adds

  pub nothing_written : Ending total [] []
  nothing_written = record { utf8 = IsUtf8-nil; found = []; consists = subst (λ (cs : List ℕ). Consists total cs [] []) (sym chars-nil) nothing; are = refl }

  written_then : (F G : List ℕ → Type 0) (a b : List ℕ) (f g : List Token → List Token) → Writes total F a f → Writes total G b g → ((rest : List ℕ) → G rest → F (b ++ rest)) → Writes total G (a ++ b) (λ more. f (g more))
  written_then F G a b f g h k follows = record {
    on = λ rest more ok e. subst (λ (bs : List ℕ). Ending total bs (f (g more))) (sym (append_assoc a b rest)) (h.on (b ++ rest) (g more) (follows rest ok) (k.on rest more ok e));
  }

  pub free_free : {a b : List ℕ} {f g : List Token → List Token} → Free a f → Free b g → Free (a ++ b) (λ more. f (g more))
  free_free {a} {b} {f} {g} h k = written_then Anything Anything a b f g h k (λ rest ok. tt)

  pub free_ends : {a b : List ℕ} {f g : List Token → List Token} → Free a f → Ends b g → Ends (a ++ b) (λ more. f (g more))
  free_ends {a} {b} {f} {g} h k = written_then Anything EndsName a b f g h k (λ rest ok. tt)

  pub ends_free : {a b : List ℕ} {f g : List Token → List Token} → Ends a f → Free b g → ((rest : List ℕ) → EndsName (b ++ rest)) → Free (a ++ b) (λ more. f (g more))
  ends_free {a} {b} {f} {g} h k follows = written_then EndsName Anything a b f g h k (λ rest ok. follows rest)

  pub ends_ends : {a b : List ℕ} {f g : List Token → List Token} → Ends a f → Ends b g → ((rest : List ℕ) → EndsName (b ++ rest)) → Ends (a ++ b) (λ more. f (g more))
  ends_ends {a} {b} {f} {g} h k follows = written_then EndsName EndsName a b f g h k (λ rest ok. follows rest)

  pub empty_written : Free [] (λ more. more)
  empty_written = record { on = λ rest more ok e. e }

  pub is_ends : {a : List ℕ} {f : List Token → List Token} → Free a f → Ends a f
  is_ends h = record { on = λ rest more ok e. h.on rest more tt e }

  -- ---- single ones

  ascii_in_front : (bs rest : List ℕ) → list_all is_ascii bs ≡ true → IsUtf8 rest → IsUtf8 (bs ++ rest) × (chars (bs ++ rest) ≡ bs ++ chars rest)
  ascii_in_front bs rest e u =
      let plain = ascii_bytes bs e in
      let whole : IsUtf8 bs = IsUtf8-from_ascii bs plain in
      (IsUtf8-append bs rest whole u, chars-append bs rest whole ∙ ap (λ cs. cs ++ chars rest) (chars-IsAscii bs plain))

  abbrev placed : Token → List ℕ → Placed
  placed t ts = record { token = t; place = total - length (encode_utf8_all ts) + 1 }

  space_on : On total Anything (codes " ") (λ more. more)
  space_on rest more ok e =
      let front = ascii_in_front (32 ∷ []) rest refl e.utf8 in
      record {
        utf8 = front.0;
        found = e.found;
        consists = subst (λ (cs : List ℕ). Consists total cs e.found []) (sym front.1) (between (32, refl, refl) e.consists);
        are = e.are;
      }

  pub space_written : Free (codes " ") (λ more. more)
  space_written = record { on = space_on }

  token_in_front : (t : Token) (bs rest : List ℕ) (more : List Token) → IsUtf8 (bs ++ rest) → (ts : List ℕ) → chars (bs ++ rest) ≡ ts → StandsToken t ts (chars rest) → Ending total rest more → Ending total (bs ++ rest) (t ∷ more)
  token_in_front t bs rest more u ts is stands e = record {
    utf8 = u;
    found = placed t ts ∷ e.found;
    consists = subst (λ (cs : List ℕ). Consists total cs (placed t ts ∷ e.found) []) (sym is) (token stands e.consists);
    are = ap (λ us. t ∷ us) e.are;
  }

  sign_ascii : (s : Mark) → list_all is_ascii (sign_text s) ≡ true
  sign_ascii signs.OpenBrace = refl
  sign_ascii signs.CloseBrace = refl
  sign_ascii signs.OpenParenthesis = refl
  sign_ascii signs.CloseParenthesis = refl
  sign_ascii signs.Dot = refl
  sign_ascii signs.Comma = refl
  sign_ascii signs.Not = refl
  sign_ascii signs.And = refl
  sign_ascii signs.Or = refl

  sign_on : (s : Mark) → On total Anything (sign_text s) (λ more. Sign s ∷ more)
  sign_on s rest more ok e =
      let front = ascii_in_front (sign_text s) rest (sign_ascii s) e.utf8 in
      token_in_front (Sign s) (sign_text s) rest more front.0 (sign_text s ++ chars rest) front.1 refl e

  pub sign_written : (s : Mark) → Free (sign_text s) (λ more. Sign s ∷ more)
  sign_written s = record { on = sign_on s }

  word_ascii : (w : Keyword) → list_all is_ascii (spelling w) ≡ true
  word_ascii keywords.Select = refl
  word_ascii keywords.Distinct = refl
  word_ascii keywords.Where = refl
  word_ascii keywords.As = refl
  word_ascii keywords.Union = refl
  word_ascii keywords.Minus = refl
  word_ascii keywords.Optional = refl
  word_ascii keywords.Filter = refl
  word_ascii keywords.True = refl
  word_ascii keywords.Bound = refl
  word_ascii keywords.SameTerm = refl

  word_letters : (w : Keyword) → list_all is_ascii_letter (spelling w) ≡ true
  word_letters keywords.Select = refl
  word_letters keywords.Distinct = refl
  word_letters keywords.Where = refl
  word_letters keywords.As = refl
  word_letters keywords.Union = refl
  word_letters keywords.Minus = refl
  word_letters keywords.Optional = refl
  word_letters keywords.Filter = refl
  word_letters keywords.True = refl
  word_letters keywords.Bound = refl
  word_letters keywords.SameTerm = refl

  starts_less : (f g : ℕ → Bool) → ((c : ℕ) → f c ≡ false → g c ≡ false) → (ts : List ℕ) → starts f ts ≡ false → starts g ts ≡ false
  starts_less f g less [] e = refl
  starts_less f g less (c ∷ ts) e = less c e

  no_letter : (c : ℕ) → in_name c ≡ false → is_ascii_letter c ≡ false
  no_letter c e = (no_name c e).0

  no_variable : (c : ℕ) → in_name c ≡ false → is_variable_character c ≡ false
  no_variable c e = (or_parts (is_variable_character c) (c == 45) e).0

  word_on : (w : Keyword) → On total EndsName (spelling w) (λ more. Word w ∷ more)
  word_on w rest more ok e =
      let front = ascii_in_front (spelling w) rest (word_ascii w) e.utf8 in
      token_in_front (Word w) (spelling w) rest more front.0 (spelling w ++ chars rest) front.1 (record { whole = refl; pass = word_letters w; ends = starts_less in_name is_ascii_letter no_letter (chars rest) (ends_chars rest e.utf8 ok) }) e

  pub word_written : (w : Keyword) → Ends (spelling w) (λ more. Word w ∷ more)
  word_written w = record { on = word_on w }

  -- ---- variables

  name_ascii : (x : List ℕ) → list_all is_variable_character x ≡ true → list_all is_ascii x ≡ true
  name_ascii [] e = refl
  name_ascii (c ∷ cs) e =
      let both = both_of (is_variable_character c) (list_all is_variable_character cs) e in
      rw (small_name c both.0, name_ascii cs both.1) refl

  name_parts : (x : List ℕ) → is_variable x ≡ true → (x ≢ []) × (list_all is_variable_character x ≡ true)
  unfolding is_variable
  name_parts [] e = absurd cc
  name_parts (c ∷ cs) e = ((λ k. absurd cc), e)

  variable_on : (x : List ℕ) → is_variable x ≡ true → On total EndsName (63 ∷ encode_utf8_all x) (λ more. Var x ∷ more)
  variable_on x is rest more ok e =
      let parts = name_parts x is in
      let ascii = name_ascii x parts.1 in
      let same : encode_utf8_all x ≡ x = encodes-IsAscii x (ascii_bytes x ascii) in
      let front = ascii_in_front (63 ∷ x) rest ascii e.utf8 in
      subst (λ (bs : List ℕ). Ending total ((63 ∷ bs) ++ rest) (Var x ∷ more)) (sym same)
      (token_in_front (Var x) (63 ∷ x) rest more front.0 (63 ∷ (x ++ chars rest)) front.1
      (parts.0, (x ++ chars rest, refl, record { whole = refl; pass = parts.1; ends = starts_less in_name is_variable_character no_variable (chars rest) (ends_chars rest e.utf8 ok) })) e)

  pub variable_written : (x : List ℕ) → is_variable x ≡ true → Ends (63 ∷ encode_utf8_all x) (λ more. Var x ∷ more)
  variable_written x is = record { on = variable_on x is }

  -- ---- terms

  term_front : (t : Term) (rest : List ℕ) → IsLawfulTerm t → IsUtf8 rest → IsUtf8 (term_text t ++ rest) × (chars (term_text t ++ rest) ≡ term_chars t (chars rest))
  term_front t rest h u =
      let bytes : encode_utf8_all (term_chars t (chars rest)) ≡ term_text t ++ rest = term_bytes t (chars rest) ∙ ap (λ bs. term_text t ++ bs) (encodes-chars rest u) in
      ((term_chars t (chars rest), (term_scalars t (chars rest) h (scalars-chars rest u), bytes)), ap chars (sym bytes) ∙ chars-encodes_any (term_chars t (chars rest)))

  iri_on : (iri : List ℕ) → IsLawfulTerm (terms.Iri iri) → On total EndsName (term_text (terms.Iri iri)) (λ more. Iri iri ∷ more)
  iri_on iri h rest more ok e =
      let front = term_front (terms.Iri iri) rest h e.utf8 in
      token_in_front (Iri iri) (term_text (terms.Iri iri)) rest more front.0 (term_chars (terms.Iri iri) (chars rest)) front.1 (iri_longest iri (chars rest) h.0) e

  pub iri_written : (iri : List ℕ) → IsLawfulTerm (terms.Iri iri) → Ends (term_text (terms.Iri iri)) (λ more. Iri iri ∷ more)
  iri_written iri h = record { on = iri_on iri h }

  literal_on : (l : LiteralValue) → IsLawfulTerm (terms.Literal l) → On total EndsName (term_text (terms.Literal l)) (λ more. Literal l ∷ more)
  literal_on l h rest more ok e =
      let front = term_front (terms.Literal l) rest h e.utf8 in
      token_in_front (Literal l) (term_text (terms.Literal l)) rest more front.0 (term_chars (terms.Literal l) (chars rest)) front.1 (literal_longest l (chars rest) h (behind_term total rest more ok e)) e

  pub literal_written : (l : LiteralValue) → IsLawfulTerm (terms.Literal l) → Ends (term_text (terms.Literal l)) (λ more. Literal l ∷ more)
  literal_written l h = record { on = literal_on l h }
