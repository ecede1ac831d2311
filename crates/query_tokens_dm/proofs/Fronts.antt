-- What is found at the front of a text is what stands there, and the other way round.
use Rattle.std.proofs.Common.{◌≡◌, ◌≢◌, ℕ, List, [], ◌∷◌, ◌++◌, Bool, true, false, Option, Some, None, refl, sym, ap, subst, ◌∙◌, cond}
use Rattle.std.specs.Prelude.{◌==◌, ◌||◌, IsUtf8, chars}
use Rattle.std.proofs.lemmas.Bool.{eqb-true}
use Rattle.grammar_dm.specs.Reading.{starts}
use Rattle.ddl_tokens_dm.specs.Scanning.{quoted_at, run_of, with_char}
use Rattle.ddl_tokens_dm.specs.Tokens.{IsRun, doubled}
use Rattle.ddl_tokens_dm.proofs.Scans.{quote_is, quote_other, quote_two, run_found, run_is}
use Rattle.query_tokens_dm.specs.declared.token.Token.{Token}
use Rattle.query_tokens_dm.specs.declared.token.Token.TheVariants.{Open, Close, Word, Quoted}
use Rattle.query_tokens_dm.specs.Scanning.{Front, front, quote_front}
use Rattle.query_tokens_dm.specs.Scanning.Front.{Space, Opens, Closes, WordOf, QuoteOf, Bad}
use Rattle.query_tokens_dm.specs.Tokens.{IsNoToken, IsSpace, IsTextOf, StandsToken, begins_word, in_word, is_space}

-- ---- what stands there is found

abbrev some_pair : List ℕ → List ℕ → Option (List ℕ × List ℕ)
some_pair bytes rest = Some (bytes, rest)

abbrev after_quote : ℕ → List ℕ → Bool → Option (List ℕ × List ℕ)
after_quote d ts b = cond b (with_char 34 (quoted_at ts)) (Some ([], d ∷ ts))

quote_end : (rest : List ℕ) → starts (λ c. c == 34) rest ≡ false → quoted_at (34 ∷ rest) ≡ Some ([], rest)
unfolding quoted_at
quote_end [] e = refl
quote_end (d ∷ ts) e = ap (λ b. after_quote d ts b) e

abbrev doubled_first : ℕ → List ℕ → Bool → List ℕ
doubled_first c cs b = cond b (34 ∷ 34 ∷ doubled cs) (c ∷ doubled cs)

quote_more : (c : ℕ) (bytes rest : List ℕ) (b : Bool) → (c == 34) ≡ b → quoted_at (doubled bytes ++ 34 ∷ rest) ≡ Some (bytes, rest) → quoted_at (doubled_first c bytes b ++ 34 ∷ rest) ≡ Some (c ∷ bytes, rest)
quote_more c bytes rest true e h = quote_two (doubled bytes ++ 34 ∷ rest) ∙ ap (λ x. with_char 34 x) h ∙ ap (λ x. some_pair (x ∷ bytes) rest) (sym (eqb-true c 34 e))
quote_more c bytes rest false e h = quote_other c (doubled bytes ++ 34 ∷ rest) e ∙ ap (λ x. with_char c x) h

quote_back : (bytes rest : List ℕ) → starts (λ c. c == 34) rest ≡ false → quoted_at (doubled bytes ++ 34 ∷ rest) ≡ Some (bytes, rest)
quote_back [] rest e = quote_end rest e
quote_back (c ∷ bytes) rest e = quote_more c bytes rest (c == 34) refl (quote_back bytes rest e)

-- a space is one of four
space_is : (W : ℕ → Type 0) (c : ℕ) → is_space c ≡ true → W 32 → W 9 → W 13 → W 10 → W c
space_is W c e a b d f = by_first (c == 32) refl e
  where
    from : (n : ℕ) → (c == n) ≡ true → W n → W c
    from n h w = subst W (sym (eqb-true c n h)) w

    by_third : (x : Bool) → (c == 13) ≡ x → (x || c == 10) ≡ true → W c
    by_third true h k = from 13 h d
    by_third false h k = from 10 k f

    by_second : (x : Bool) → (c == 9) ≡ x → (x || c == 13 || c == 10) ≡ true → W c
    by_second true h k = from 9 h b
    by_second false h k = by_third (c == 13) refl k

    by_first : (x : Bool) → (c == 32) ≡ x → (x || c == 9 || c == 13 || c == 10) ≡ true → W c
    by_first true h k = from 32 h a
    by_first false h k = by_second (c == 9) refl k

pub space_found : (ts rest : List ℕ) → IsSpace ts rest → front ts ≡ Space rest
unfolding front
space_found ts rest h = ap front h.1 ∙ space_is (λ c. front (c ∷ rest) ≡ Space rest) h.0 h.2 refl refl refl refl

abbrev behind_word : ℕ → List ℕ → Bool → Front
behind_word c ts b = cond b (WordOf (c ∷ (run_of in_word ts).0) (run_of in_word ts).1) (cond (is_space c) (Space ts) (cond (c == 40) (Opens ts) (cond (c == 41) (Closes ts) (cond (c == 34) (quote_front (quoted_at ts)) Bad))))

word_of : ℕ → List ℕ × List ℕ → Front
word_of c x = WordOf (c ∷ x.0) x.1

pub word_found : (first : ℕ) (others behind ts rest : List ℕ) → ts ≡ first ∷ behind → begins_word first ≡ true → IsRun in_word others behind rest → front ts ≡ WordOf (first ∷ others) rest
unfolding front word_of
word_found first others behind ts rest is e run = ap front is ∙ ap (λ b. behind_word first behind b) e ∙ ap (word_of first) (run_found in_word others behind rest run)

pub quote_found : (bytes ts rest : List ℕ) → ts ≡ 34 ∷ (doubled bytes ++ 34 ∷ rest) → starts (λ c. c == 34) rest ≡ false → front ts ≡ QuoteOf bytes rest
unfolding front
quote_found bytes ts rest is ends = ap front is ∙ ap quote_front (quote_back bytes rest ends)

pub open_found : (ts rest : List ℕ) → ts ≡ 40 ∷ rest → front ts ≡ Opens rest
unfolding front
open_found ts rest is = ap front is

pub close_found : (ts rest : List ℕ) → ts ≡ 41 ∷ rest → front ts ≡ Closes rest
unfolding front
close_found ts rest is = ap front is

-- ---- where nothing is found nothing stands

no_space_bad : {W : Type 0} (rest : List ℕ) → Space rest ≡ Bad → W
no_space_bad rest e = absurd cc

pub bad_is : (ts : List ℕ) → front ts ≡ Bad → IsNoToken ts
bad_is ts e = record {
  no_token = λ token rest h. no_token token rest h;
  no_space = λ rest h. no_space_bad rest (sym (space_found ts rest h) ∙ e);
}
  where
    no_open : (rest : List ℕ) → Opens rest ≡ Bad → ⊥
    no_open rest e = absurd cc

    no_close : (rest : List ℕ) → Closes rest ≡ Bad → ⊥
    no_close rest e = absurd cc

    no_word : (bytes rest : List ℕ) → WordOf bytes rest ≡ Bad → ⊥
    no_word bytes rest e = absurd cc

    no_quote : (bytes rest : List ℕ) → QuoteOf bytes rest ≡ Bad → ⊥
    no_quote bytes rest e = absurd cc

    no_token : (token : Token) (rest : List ℕ) → StandsToken token ts rest → ⊥
    no_token Open rest h = no_open rest (sym (open_found ts rest h) ∙ e)
    no_token Close rest h = no_close rest (sym (close_found ts rest h) ∙ e)
    no_token (Word name) rest h = no_word (h.0 ∷ h.1) rest (sym (word_found h.0 h.1 h.2 ts rest h.3 h.4 h.5) ∙ e)
    no_token (Quoted text) rest h = no_quote h.0 rest (sym (quote_found h.0 ts rest h.1 h.2) ∙ e)

-- ---- what is found stands there

-- what stands at the front, but for the texts of its bytes
abbrev pub Stands : List ℕ → Front → Type 0
Stands ts (Space rest) = IsSpace ts rest
Stands ts (Opens rest) = ts ≡ 40 ∷ rest
Stands ts (Closes rest) = ts ≡ 41 ∷ rest
Stands ts (WordOf bytes rest) = (first : ℕ) × (others behind : List ℕ) × (bytes ≡ first ∷ others) × (ts ≡ first ∷ behind) × (begins_word first ≡ true) × IsRun in_word others behind rest
Stands ts (QuoteOf bytes rest) = (ts ≡ 34 ∷ (doubled bytes ++ 34 ∷ rest)) × (starts (λ c. c == 34) rest ≡ false)
Stands ts Bad = Unit {0}

quote_stands : (c : ℕ) (ts : List ℕ) → (c == 34) ≡ true → (x : Option (List ℕ × List ℕ)) → quoted_at ts ≡ x → Stands (c ∷ ts) (quote_front x)
quote_stands c ts e None h = tt
quote_stands c ts e (Some x) h = let q = quote_is ts x.0 x.1 h in (ap (λ d. d ∷ ts) (eqb-true c 34 e) ∙ ap (λ us. 34 ∷ us) q.0, q.1)

front_step : (c : ℕ) (ts : List ℕ) (w s o l q : Bool) → begins_word c ≡ w → is_space c ≡ s → (c == 40) ≡ o → (c == 41) ≡ l → (c == 34) ≡ q
    → Stands (c ∷ ts) (cond w (WordOf (c ∷ (run_of in_word ts).0) (run_of in_word ts).1) (cond s (Space ts) (cond o (Opens ts) (cond l (Closes ts) (cond q (quote_front (quoted_at ts)) Bad)))))
front_step c ts true s o l q w' s' o' l' q' = (c, (run_of in_word ts).0, ts, refl, refl, w', run_is in_word ts)
front_step c ts false true o l q w' s' o' l' q' = (c, refl, s')
front_step c ts false false true l q w' s' o' l' q' = ap (λ d. d ∷ ts) (eqb-true c 40 o')
front_step c ts false false false true q w' s' o' l' q' = ap (λ d. d ∷ ts) (eqb-true c 41 l')
front_step c ts false false false false true w' s' o' l' q' = quote_stands c ts q' (quoted_at ts) refl
front_step c ts false false false false false w' s' o' l' q' = tt

front_stands : (ts : List ℕ) → Stands ts (front ts)
unfolding front
front_stands [] = tt
front_stands (c ∷ ts) = front_step c ts (begins_word c) (is_space c) (c == 40) (c == 41) (c == 34) refl refl refl refl refl

pub stands : (ts : List ℕ) (f : Front) → front ts ≡ f → Stands ts f
stands ts f e = subst (λ (g : Front). Stands ts g) e (front_stands ts)

-- a word or a quoted text whose bytes are no text is no token
word_same : (a b r s : List ℕ) → WordOf a r ≡ WordOf b s → a ≡ b
word_same a b r s e = cc

quote_same : (a b r s : List ℕ) → QuoteOf a r ≡ QuoteOf b s → a ≡ b
quote_same a b r s e = cc

pub no_word_text : (bytes ts rest : List ℕ) → front ts ≡ WordOf bytes rest → ¬ IsUtf8 bytes → IsNoToken ts
no_word_text bytes ts rest e bad = record {
  no_token = λ token r h. no_token token r h;
  no_space = λ r h. (let k = sym (space_found ts r h) ∙ e in cc k);
}
  where
    no_token : (token : Token) (r : List ℕ) → StandsToken token ts r → ⊥
    no_token Open r h = let k = sym (open_found ts r h) ∙ e in absurd (cc k)
    no_token Close r h = let k = sym (close_found ts r h) ∙ e in absurd (cc k)
    no_token (Word name) r h = bad (subst (λ (bs : List ℕ). IsUtf8 bs) (word_same (h.0 ∷ h.1) bytes r rest (sym (word_found h.0 h.1 h.2 ts r h.3 h.4 h.5) ∙ e)) h.6.0)
    no_token (Quoted text) r h = let k = sym (quote_found h.0 ts r h.1 h.2) ∙ e in absurd (cc k)

pub no_quoted_text : (bytes ts rest : List ℕ) → front ts ≡ QuoteOf bytes rest → ¬ IsUtf8 bytes → IsNoToken ts
no_quoted_text bytes ts rest e bad = record {
  no_token = λ token r h. no_token token r h;
  no_space = λ r h. (let k = sym (space_found ts r h) ∙ e in cc k);
}
  where
    no_token : (token : Token) (r : List ℕ) → StandsToken token ts r → ⊥
    no_token Open r h = let k = sym (open_found ts r h) ∙ e in absurd (cc k)
    no_token Close r h = let k = sym (close_found ts r h) ∙ e in absurd (cc k)
    no_token (Word name) r h = let k = sym (word_found h.0 h.1 h.2 ts r h.3 h.4 h.5) ∙ e in absurd (cc k)
    no_token (Quoted text) r h = bad (subst (λ (bs : List ℕ). IsUtf8 bs) (quote_same h.0 bytes r rest (sym (quote_found h.0 ts r h.1 h.2) ∙ e)) h.3.0)

-- ---- one token

pub one_token : (t u : Token) (ts a b : List ℕ) → StandsToken t ts a → StandsToken u ts b → (t ≡ u) × (a ≡ b)
one_token t u ts a b h k = by_both t u h k
  where
    same_rest : (f : List ℕ → Front) → front ts ≡ f a → front ts ≡ f b → ((r s : List ℕ) → f r ≡ f s → r ≡ s) → a ≡ b
    same_rest f p q one = one a b (sym p ∙ q)

    opens_same : (r s : List ℕ) → Opens r ≡ Opens s → r ≡ s
    opens_same r s e = cc

    closes_same : (r s : List ℕ) → Closes r ≡ Closes s → r ≡ s
    closes_same r s e = cc

    word_rest : (c d r s : List ℕ) → WordOf c r ≡ WordOf d s → r ≡ s
    word_rest c d r s e = cc

    quote_rest : (c d r s : List ℕ) → QuoteOf c r ≡ QuoteOf d s → r ≡ s
    quote_rest c d r s e = cc

    text_same : (c d x y : List ℕ) → c ≡ d → IsTextOf c x → IsTextOf d y → x ≡ y
    text_same c d x y e p q = p.1 ∙ ap chars e ∙ sym q.1

    by_both : (t u : Token) → StandsToken t ts a → StandsToken u ts b → (t ≡ u) × (a ≡ b)
    by_both Open Open h k = (refl, opens_same a b (sym (open_found ts a h) ∙ open_found ts b k))
    by_both Open Close h k = absurd (let e = sym (open_found ts a h) ∙ close_found ts b k in cc e)
    by_both Open (Word name) h k = absurd (let e = sym (open_found ts a h) ∙ word_found k.0 k.1 k.2 ts b k.3 k.4 k.5 in cc e)
    by_both Open (Quoted text) h k = absurd (let e = sym (open_found ts a h) ∙ quote_found k.0 ts b k.1 k.2 in cc e)
    by_both Close Open h k = absurd (let e = sym (close_found ts a h) ∙ open_found ts b k in cc e)
    by_both Close Close h k = (refl, closes_same a b (sym (close_found ts a h) ∙ close_found ts b k))
    by_both Close (Word name) h k = absurd (let e = sym (close_found ts a h) ∙ word_found k.0 k.1 k.2 ts b k.3 k.4 k.5 in cc e)
    by_both Close (Quoted text) h k = absurd (let e = sym (close_found ts a h) ∙ quote_found k.0 ts b k.1 k.2 in cc e)
    by_both (Word name) Open h k = absurd (let e = sym (word_found h.0 h.1 h.2 ts a h.3 h.4 h.5) ∙ open_found ts b k in cc e)
    by_both (Word name) Close h k = absurd (let e = sym (word_found h.0 h.1 h.2 ts a h.3 h.4 h.5) ∙ close_found ts b k in cc e)
    by_both (Word name) (Word other) h k =
        let e = sym (word_found h.0 h.1 h.2 ts a h.3 h.4 h.5) ∙ word_found k.0 k.1 k.2 ts b k.3 k.4 k.5 in
        (ap Word (text_same (h.0 ∷ h.1) (k.0 ∷ k.1) name other (word_same (h.0 ∷ h.1) (k.0 ∷ k.1) a b e) h.6 k.6), word_rest (h.0 ∷ h.1) (k.0 ∷ k.1) a b e)
    by_both (Word name) (Quoted text) h k = absurd (let e = sym (word_found h.0 h.1 h.2 ts a h.3 h.4 h.5) ∙ quote_found k.0 ts b k.1 k.2 in cc e)
    by_both (Quoted text) Open h k = absurd (let e = sym (quote_found h.0 ts a h.1 h.2) ∙ open_found ts b k in cc e)
    by_both (Quoted text) Close h k = absurd (let e = sym (quote_found h.0 ts a h.1 h.2) ∙ close_found ts b k in cc e)
    by_both (Quoted text) (Word name) h k = absurd (let e = sym (quote_found h.0 ts a h.1 h.2) ∙ word_found k.0 k.1 k.2 ts b k.3 k.4 k.5 in cc e)
    by_both (Quoted text) (Quoted other) h k =
        let e = sym (quote_found h.0 ts a h.1 h.2) ∙ quote_found k.0 ts b k.1 k.2 in
        (ap Quoted (text_same h.0 k.0 text other (quote_same h.0 k.0 a b e) h.3 k.3), quote_rest h.0 k.0 a b e)

-- white space is no token, and what stands behind it is one text
pub one_space : (ts a b : List ℕ) → IsSpace ts a → IsSpace ts b → a ≡ b
one_space ts a b h k = behind h.0 k.0 a b (sym h.1 ∙ k.1)
  where
    behind : (c d : ℕ) (r s : List ℕ) → c ∷ r ≡ d ∷ s → r ≡ s
    behind c d r s e = cc

pub space_no_token : {W : Type 0} (t : Token) (ts a b : List ℕ) → IsSpace ts a → StandsToken t ts b → W
space_no_token Open ts a b h k = absurd (let e = sym (space_found ts a h) ∙ open_found ts b k in cc e)
space_no_token Close ts a b h k = absurd (let e = sym (space_found ts a h) ∙ close_found ts b k in cc e)
space_no_token (Word name) ts a b h k = absurd (let e = sym (space_found ts a h) ∙ word_found k.0 k.1 k.2 ts b k.3 k.4 k.5 in cc e)
space_no_token (Quoted text) ts a b h k = absurd (let e = sym (space_found ts a h) ∙ quote_found k.0 ts b k.1 k.2 in cc e)

-- ---- tokens by the texts of their bytes

pub word_text : (bytes ts rest name : List ℕ) → front ts ≡ WordOf bytes rest → IsTextOf bytes name → StandsToken (Word name) ts rest
word_text bytes ts rest name e h = let s = stands ts (WordOf bytes rest) e in (s.0, s.1, s.2, s.4, s.5, s.6, subst (λ (bs : List ℕ). IsTextOf bs name) s.3 h)

pub quoted_text : (bytes ts rest text : List ℕ) → front ts ≡ QuoteOf bytes rest → IsTextOf bytes text → StandsToken (Quoted text) ts rest
quoted_text bytes ts rest text e h = let s = stands ts (QuoteOf bytes rest) e in (bytes, s.0, s.1, h)
