-- Each reader reads its part: items, statements and the file.
use Rattle.std.proofs.Common.{cond, ◌≡◌, ◌≤◌, Bool, true, false, List, [], ◌∷◌, length, Option, Some, None, refl, arith, inl, inr, ℕ}
use Rattle.std.specs.Prelude.{is_some, ◌&&◌, ◌||◌, not}
use Rattle.grammar_dm.specs.Part.{Part, Begins, separated_by, ended_by}
use Rattle.grammar_dm.specs.Part.Part.{then, or, optional}
use Rattle.grammar_dm.specs.Reading.{◌>>=◌, starts}
use Rattle.grammar_dm.proofs.Laws.{Reads, Within, Apart, Blocked, rest_of, no, short_of, token_reads, token_then, token_then_blocked, closed_then, then_reads, then_give, then_blocked, give_reads}
use Rattle.grammar_dm.proofs.Choices.{parted, widened, within_less, reads_wider, or_by, or_left, or_right, or_second, or_apart, optional_reads, reads_along, token_within, then_within, Separable, separated_reads, behind_repeatable}
use Rattle.grammar_dm.proofs.Equations.{optional_spread}
use Rattle.grammar_dm.proofs.Separated.{separated_same}
use Rattle.grammar_dm.proofs.Walks.{IsStrict, is_strict}
use Rattle.ddl_syntax_dm.specs.declared.token.Keyword.{Keyword}
use Rattle.ddl_syntax_dm.specs.declared.token.Keyword.TheVariants as keywords
use Rattle.ddl_tokens_dm.specs.declared.token.Sign.TheVariants as signs
use Rattle.ddl_tokens_dm.specs.declared.token.Token.{Token}
use Rattle.ddl_tokens_dm.specs.declared.token.Token.TheVariants as tokens
use Rattle.ddl_tokens_dm.specs.declared.token.Placed.{Placed}
use Rattle.ddl_syntax_dm.specs.declared.syntax.Statement.{Statement}
use Rattle.ddl_syntax_dm.specs.Words.{Name, Mark, asked, spelling, spells_word, sign_of, word_of, name_of, column_name_of}
use Rattle.ddl_syntax_dm.specs.Grammar.{sign, word, named_key, column, item, table_body, if_not_exists, create, added_key, alter, statement, present, file}
use Rattle.ddl_syntax_dm.specs.Reading.{is_sign, is_word, First, is_one_of, word_at, key_firsts, begins_named_key, item_at, next_item_at, items_at, table_body_at, takes_if, if_not_exists_at, created_at, create_at, added_key_at, not_added, takes_only, altered_at, alter_at, statement_at, statement_firsts, begins_statement, optional_statement_at, next_statement_at, file_at}
use Rattle.ddl_syntax_dm.specs.Reading.First.{a_word, a_sign}
use Rattle.ddl_syntax_dm.proofs.Firsts.{among, apart_first, two_apart, first_among, none_among}
use Rattle.ddl_syntax_dm.proofs.Readers.{off, target_firsts, target_more, named_key_reads, named_key_off}
use Rattle.ddl_syntax_dm.proofs.ColumnReaders.{none_starts, column_firsts, column_more, column_reads, column_blocked}

-- ---- items

no_name : (a b c d : Bool) (n : Name) → (is_some (asked a) || (is_some (asked b) || (is_some (asked c) || (is_some (asked d) || false)))) ≡ true
    → is_some {T = Name} (cond (a || b || c || d) None (Some n)) ≡ false
no_name true b c d n e = refl
no_name false true c d n e = refl
no_name false false true d n e = refl
no_name false false false true n e = refl
no_name false false false false n e = absurd cc

key_on : (t : Token) (p : ℕ) → is_one_of key_firsts (record { token = t; place = p }) ≡ true → is_some (column_name_of t) ≡ false
key_on (tokens.Sign s) p e = absurd cc
key_on tokens.Number p e = absurd cc
key_on (tokens.Word n) p e =
    no_name (spells_word (spelling keywords.Constraint) n) (spells_word (spelling keywords.Primary) n) (spells_word (spelling keywords.Unique) n) (spells_word (spelling keywords.Foreign) n) n e
key_on (tokens.Quoted n) p e = absurd cc

key_no_column : (t : Placed) → begins_named_key t ≡ true → is_some (column_name_of t.token) ≡ false
unfolding begins_named_key
key_no_column t e = key_on t.token t.place e

key_blocked : (more : Placed → Bool) (ts : List Placed) → starts begins_named_key ts ≡ false → Apart named_key more ts
unfolding begins_named_key
key_blocked more ts e =
    named_key_off more ts
    (none_starts keywords.Constraint key_firsts (none_among (a_word keywords.Constraint) key_firsts refl) ts e)
    (none_starts keywords.Primary key_firsts (none_among (a_word keywords.Primary) key_firsts refl) ts e)
    (none_starts keywords.Unique key_firsts (none_among (a_word keywords.Unique) key_firsts refl) ts e)
    (none_starts keywords.Foreign key_firsts (none_among (a_word keywords.Foreign) key_firsts refl) ts e)

item_reads : (ts : List Placed) → Reads item column_more ts (item_at ts)
unfolding item item_at
item_reads ts =
    or_by begins_named_key _ _ column_more ts _ _
    (λ e. (
      then_give named_key _ column_more ts _ (reads_wider named_key target_more column_more (among target_firsts column_firsts refl) ts _ (named_key_reads ts)),
      then_blocked column _ column_more ts (column_blocked ts (parted begins_named_key (λ t. is_some (column_name_of t.token)) key_no_column ts e)),
    ))
    (λ e. (
      then_blocked named_key _ column_more ts (key_blocked no ts e),
      then_give column _ column_more ts _ (column_reads ts),
    ))

abbrev items_firsts : List First
items_firsts =
    a_sign signs.Comma ∷ a_word keywords.Varying ∷ a_sign signs.Open ∷ a_word keywords.Without ∷ a_word keywords.On ∷ a_word keywords.Constraint ∷ a_word keywords.Primary
    ∷ a_word keywords.Unique ∷ a_word keywords.Not ∷ a_word keywords.Null ∷ a_word keywords.References ∷ []

abbrev items_more : Placed → Bool
items_more = is_one_of items_firsts

items_separable : Separable item (λ (t : Placed). sign_of signs.Comma t.token) column_more items_more item_at
items_separable = record {
  reads = item_reads;
  ends = apart_first column_firsts (a_sign signs.Comma) refl;
  more_ends = among column_firsts items_firsts refl;
  more_goes_on = first_among (a_sign signs.Comma) items_firsts refl;
}

pub items_strict : IsStrict (is_sign signs.Comma) next_item_at
unfolding next_item_at
items_strict = is_strict _ (is_sign signs.Comma) column_more items_more _ (behind_repeatable item _ column_more items_more item_at items_separable)

-- ---- CREATE TABLE

body_reads : (more : Placed → Bool) (ts : List Placed) → Reads table_body more ts (table_body_at ts)
unfolding table_body table_body_at items_at next_item_at
body_reads more ts =
    token_then _ _ more ts _ (λ name a.
    token_then _ _ more a _ (λ _ b.
    then_reads (separated_by item (sign signs.Comma)) _ items_more more b _ _ (separated_reads item _ column_more items_more item_at items_separable b)
    (λ items c _. token_then _ _ more c _ (λ _ d. give_reads _ more d))
    (λ items c g. token_then_blocked _ _ more c (parted items_more (is_sign signs.Close) (apart_first items_firsts (a_sign signs.Close) refl) c g))))

-- a table's name may be IF, where NOT doesn't follow
body_within : (more : Placed → Bool) (t : Placed) (ts rest : List Placed) → starts (is_word keywords.Not) ts ≡ true → length rest ≤ length ts → Within table_body more (t ∷ ts) rest
unfolding table_body
body_within more t ts rest e le =
    token_within _ _ more t ts rest le (λ name. within_less _ more ts ts rest le
    (token_then_blocked _ _ more ts (parted (is_word keywords.Not) (is_sign signs.Open) (two_apart (a_word keywords.Not) (a_sign signs.Open) refl) ts e)))

if_reads : (more : Placed → Bool) (ts : List Placed) → Reads if_not_exists more ts (if_not_exists_at ts)
unfolding if_not_exists if_not_exists_at
if_reads more ts = token_then _ _ more ts _ (λ _ a. token_then _ _ more a _ (λ _ b. token_reads _ more b))

if_blocked : (ts : List Placed) → starts (is_word keywords.If) ts ≡ false → Blocked if_not_exists ts
unfolding if_not_exists
if_blocked ts e = token_then_blocked _ _ no ts e

if_within : (t : Placed) (ts rest : List Placed) → starts (is_word keywords.Not) ts ≡ false → length rest ≤ length ts → Within if_not_exists no (t ∷ ts) rest
unfolding if_not_exists
if_within t ts rest e le = token_within _ _ no t ts rest le (λ _. within_less _ no ts ts rest le (token_then_blocked _ _ no ts e))

abbrev with_if : Part Placed Statement
with_if = then if_not_exists (λ _. table_body)

some_mark : (o : Option Mark) → is_some o ≡ true → o ≡ Some tt
some_mark (Some m) e = refl
some_mark None e = absurd cc

some_name : (o : Option Name) → is_some o ≡ true → (n : Name) × (o ≡ Some n)
some_name (Some n) e = (n, refl)
some_name None e = absurd cc

word_is_name : (k : Keyword) (t : Token) (p : ℕ) → is_word k (record { token = t; place = p }) ≡ true → is_some (name_of t) ≡ true
word_is_name k (tokens.Sign s) p e = absurd cc
word_is_name k tokens.Number p e = absurd cc
word_is_name k (tokens.Word n) p e = refl
word_is_name k (tokens.Quoted n) p e = refl

neither_of : (x y : Bool) → (not x || y) ≡ false → (x ≡ true) × (y ≡ false)
neither_of true y e = (refl, e)
neither_of false y e = absurd cc

body_begins : (t : Placed) (ts : List Placed) → is_some (name_of t.token) ≡ true → Begins table_body (t ∷ ts) ts
unfolding table_body
body_begins t ts e = inl (inr (t, refl, e))

if_begins : (t : Placed) (ts : List Placed) → is_word keywords.If t ≡ true → Begins with_if (t ∷ ts) ts
unfolding if_not_exists
if_begins t ts e = inl (inl (inr (t, refl, e)))

with_if_reads : (more : Placed → Bool) (ts : List Placed) → Reads with_if more ts (if_not_exists_at ts >>= λ x. table_body_at x.1)
with_if_reads more ts = closed_then if_not_exists _ more ts _ _ (if_reads no ts) (λ _ a. body_reads more a)

both_of : (x y : Bool) → (x && y) ≡ true → (x ≡ true) × (y ≡ true)
both_of true y e = (refl, e)
both_of false y e = absurd cc

no_if_within : (more : Placed → Bool) (t : Placed) (ts : List Placed) (b : Bool) → is_word keywords.If t ≡ b → (b && starts (is_word keywords.Not) ts) ≡ false → Within with_if more (t ∷ ts) (rest_of (table_body_at (t ∷ ts)))
no_if_within more t ts true e h = then_within if_not_exists _ more (t ∷ ts) _ (if_within t ts _ h ((body_reads more (t ∷ ts)).far ts (body_begins t ts (word_is_name keywords.If t.token t.place e))))
no_if_within more t ts false e h = within_less with_if more (t ∷ ts) (t ∷ ts) _ (short_of table_body more (t ∷ ts) _ (body_reads more (t ∷ ts))) (then_blocked if_not_exists _ more (t ∷ ts) (if_blocked (t ∷ ts) e))

created_step : (more : Placed → Bool) (ts : List Placed) (b : Bool) → takes_if ts ≡ b → Reads (or with_if table_body) more ts (elim b [
  | true ↦ (if_not_exists_at ts >>= λ exists. table_body_at exists.1)
  | false ↦ table_body_at ts
])
created_step more [] true e = absurd cc
created_step more (t ∷ ts) true e =
    let p = both_of (is_word keywords.If t) (starts (is_word keywords.Not) ts) e in
    let h = with_if_reads more (t ∷ ts) in
    or_left with_if table_body more (t ∷ ts) _ h (body_within more t ts _ p.1 (h.far ts (if_begins t ts p.0)))
created_step more [] false e = or_second with_if table_body more [] _ (then_blocked if_not_exists _ more [] (if_blocked [] refl)) (body_reads more [])
created_step more (t ∷ ts) false e = or_right with_if table_body more (t ∷ ts) _ (no_if_within more t ts (is_word keywords.If t) refl e) (body_reads more (t ∷ ts))

create_reads : (more : Placed → Bool) (ts : List Placed) → Reads create more ts (create_at ts)
unfolding create create_at created_at
create_reads more ts =
    token_then _ _ more ts _ (λ _ a.
    token_then _ _ more a _ (λ _ b.
    reads_along (or with_if table_body) (then (optional if_not_exists) (λ _. table_body)) more b _ (optional_spread if_not_exists table_body b) (created_step more b (takes_if b) refl)))

create_off : (more : Placed → Bool) (ts : List Placed) → starts (is_word keywords.Create) ts ≡ false → Apart create more ts
unfolding create
create_off more ts e = token_then_blocked _ _ more ts e

-- ---- ALTER TABLE

added_reads : (ts : List Placed) → Reads added_key target_more ts (added_key_at ts)
unfolding added_key added_key_at
added_reads ts =
    token_then _ _ target_more ts _ (λ name a.
    token_then _ _ target_more a _ (λ _ b.
    then_give named_key _ target_more b _ (named_key_reads b)))

abbrev with_only : Part Placed Statement
with_only = then (word keywords.Only) (λ _. added_key)

with_only_reads : (ts : List Placed) → Reads with_only target_more ts (word_at keywords.Only ts >>= λ only. added_key_at only.1)
with_only_reads ts = token_then _ _ target_more ts _ (λ _ a. added_reads a)

-- a table's name, and then no ADD
no_add_within : (t : Placed) (ts rest : List Placed) → starts (is_word keywords.Add) ts ≡ false → length rest ≤ length ts → Within added_key target_more (t ∷ ts) rest
unfolding added_key
no_add_within t ts rest e le = token_within _ _ target_more t ts rest le (λ name. within_less _ target_more ts ts rest le (token_then_blocked _ _ target_more ts e))

-- a table's name, ADD, and then another ADD
two_adds_within : (t u : Placed) (us rest : List Placed) → starts (is_word keywords.Add) us ≡ true → length rest ≤ length us → Within added_key target_more (t ∷ u ∷ us) rest
unfolding added_key
two_adds_within t u us rest e le =
    token_within _ _ target_more t (u ∷ us) rest (omega (arith, le)) (λ name.
    token_within _ _ target_more u us rest le (λ _.
    within_less _ target_more us us rest le
    (then_blocked named_key _ target_more us (named_key_off no us
    (off keywords.Add keywords.Constraint (two_apart (a_word keywords.Add) (a_word keywords.Constraint) refl) us e)
    (off keywords.Add keywords.Primary (two_apart (a_word keywords.Add) (a_word keywords.Primary) refl) us e)
    (off keywords.Add keywords.Unique (two_apart (a_word keywords.Add) (a_word keywords.Unique) refl) us e)
    (off keywords.Add keywords.Foreign (two_apart (a_word keywords.Add) (a_word keywords.Foreign) refl) us e)))))

only_begins : (t : Placed) (ts : List Placed) → is_word keywords.Only t ≡ true → Begins with_only (t ∷ ts) ts
only_begins t ts e = inl (inr (t, refl, e))

only_add_begins : (t u : Placed) (us : List Placed) → is_word keywords.Only t ≡ true → is_word keywords.Add u ≡ true → Begins with_only (t ∷ u ∷ us) us
unfolding added_key
only_add_begins t u us e d = inr (u ∷ us, tt, (t, refl, some_mark (word_of keywords.Only t.token) e), inl (inr (u, refl, word_is_name keywords.Add u.token u.place d)))

named_add_begins : (t u : Placed) (us : List Placed) → is_word keywords.Only t ≡ true → is_word keywords.Add u ≡ true → Begins added_key (t ∷ u ∷ us) us
unfolding added_key
named_add_begins t u us e d =
    let n = some_name (name_of t.token) (word_is_name keywords.Only t.token t.place e) in
    inr (u ∷ us, n.0, (t, refl, n.1), inl (inr (u, refl, d)))

-- ONLY is the key word, and no ADD follows it, or two
added_within : (t : Placed) (ts : List Placed) → is_word keywords.Only t ≡ true → not_added ts ≡ true → Within added_key target_more (t ∷ ts) (rest_of (word_at keywords.Only (t ∷ ts) >>= λ only. added_key_at only.1))
added_within t [] e h = no_add_within t [] _ refl ((with_only_reads (t ∷ [])).far [] (only_begins t [] e))
added_within t (u ∷ us) e h = by_add (is_word keywords.Add u) refl h
  where
    by_add : (b : Bool) → is_word keywords.Add u ≡ b → (not b || starts (is_word keywords.Add) us) ≡ true → Within added_key target_more (t ∷ u ∷ us) (rest_of (word_at keywords.Only (t ∷ u ∷ us) >>= λ only. added_key_at only.1))
    by_add false d k = no_add_within t (u ∷ us) _ d ((with_only_reads (t ∷ u ∷ us)).far (u ∷ us) (only_begins t (u ∷ us) e))
    by_add true d k = two_adds_within t u us _ k ((with_only_reads (t ∷ u ∷ us)).far us (only_add_begins t u us e d))

-- ONLY is a name, since one ADD follows it
only_within : (t : Placed) (ts : List Placed) (b : Bool) → is_word keywords.Only t ≡ b → (b && not_added ts) ≡ false → Within with_only target_more (t ∷ ts) (rest_of (added_key_at (t ∷ ts)))
only_within t ts false e h = within_less with_only target_more (t ∷ ts) (t ∷ ts) _ (short_of added_key target_more (t ∷ ts) _ (added_reads (t ∷ ts))) (token_then_blocked _ _ target_more (t ∷ ts) e)
only_within t [] true e h = absurd cc
only_within t (u ∷ us) true e h =
    let p = neither_of (is_word keywords.Add u) (starts (is_word keywords.Add) us) h in
    let le = (added_reads (t ∷ u ∷ us)).far us (named_add_begins t u us e p.0) in
    token_within _ _ target_more t (u ∷ us) _ (omega (arith, le)) (λ _. no_add_within u us _ p.1 le)

altered_step : (ts : List Placed) (b : Bool) → takes_only ts ≡ b → Reads (or with_only added_key) target_more ts (elim b [
  | true ↦ (word_at keywords.Only ts >>= λ only. added_key_at only.1)
  | false ↦ added_key_at ts
])
altered_step [] true e = absurd cc
altered_step (t ∷ ts) true e =
    let p = both_of (is_word keywords.Only t) (not_added ts) e in
    or_left with_only added_key target_more (t ∷ ts) _ (with_only_reads (t ∷ ts)) (added_within t ts p.0 p.1)
altered_step [] false e = or_second with_only added_key target_more [] _ (token_then_blocked _ _ target_more [] refl) (added_reads [])
altered_step (t ∷ ts) false e = or_right with_only added_key target_more (t ∷ ts) _ (only_within t ts (is_word keywords.Only t) refl e) (added_reads (t ∷ ts))

alter_reads : (ts : List Placed) → Reads alter target_more ts (alter_at ts)
unfolding alter alter_at altered_at
alter_reads ts =
    token_then _ _ target_more ts _ (λ _ a.
    token_then _ _ target_more a _ (λ _ b.
    reads_along (or with_only added_key) (then (optional (word keywords.Only)) (λ _. added_key)) target_more b _ (optional_spread (word keywords.Only) added_key b) (altered_step b (takes_only b) refl)))

alter_off : (more : Placed → Bool) (ts : List Placed) → starts (is_word keywords.Alter) ts ≡ false → Apart alter more ts
unfolding alter
alter_off more ts e = token_then_blocked _ _ more ts e

-- ---- statement and file

statement_reads : (ts : List Placed) → Reads statement target_more ts (statement_at ts)
unfolding statement statement_at
statement_reads ts =
    or_by (is_word keywords.Create) create alter target_more ts _ _
    (λ e. (create_reads target_more ts, alter_off target_more ts (off keywords.Create keywords.Alter (two_apart (a_word keywords.Create) (a_word keywords.Alter) refl) ts e)))
    (λ e. (create_off target_more ts e, alter_reads ts))

statement_blocked : (ts : List Placed) → starts begins_statement ts ≡ false → Blocked statement ts
unfolding statement begins_statement
statement_blocked ts e =
    or_apart create alter no ts ts
    (create_off no ts (none_starts keywords.Create statement_firsts (none_among (a_word keywords.Create) statement_firsts refl) ts e))
    (alter_off no ts (none_starts keywords.Alter statement_firsts (none_among (a_word keywords.Alter) statement_firsts refl) ts e))

abbrev optional_firsts : List First
optional_firsts = a_word keywords.Create ∷ a_word keywords.Alter ∷ a_sign signs.Open ∷ a_word keywords.On ∷ []

abbrev optional_more : Placed → Bool
optional_more = is_one_of optional_firsts

statement_goes_on : (t : Placed) → begins_statement t ≡ true → optional_more t ≡ true
unfolding begins_statement
statement_goes_on t e = among statement_firsts optional_firsts refl t e

optional_statement_reads : (ts : List Placed) → Reads (optional statement) optional_more ts (optional_statement_at ts)
unfolding optional_statement_at
optional_statement_reads ts =
    optional_reads statement begins_statement optional_more statement_at ts
    (λ e. (reads_wider statement target_more optional_more (among target_firsts optional_firsts refl) ts _ (statement_reads ts), widened begins_statement optional_more statement_goes_on ts e))
    (statement_blocked ts)

abbrev file_firsts : List First
file_firsts = a_sign signs.Semicolon ∷ a_word keywords.Create ∷ a_word keywords.Alter ∷ a_sign signs.Open ∷ a_word keywords.On ∷ []

abbrev pub file_more : Placed → Bool
file_more = is_one_of file_firsts

statements_separable : Separable (optional statement) (λ (t : Placed). sign_of signs.Semicolon t.token) optional_more file_more optional_statement_at
statements_separable = record {
  reads = optional_statement_reads;
  ends = apart_first optional_firsts (a_sign signs.Semicolon) refl;
  more_ends = among optional_firsts file_firsts refl;
  more_goes_on = first_among (a_sign signs.Semicolon) file_firsts refl;
}

pub statements_strict : IsStrict (is_sign signs.Semicolon) next_statement_at
unfolding next_statement_at
statements_strict = is_strict _ (is_sign signs.Semicolon) optional_more file_more _ (behind_repeatable (optional statement) _ optional_more file_more optional_statement_at statements_separable)

pub file_reads : (ts : List Placed) → Reads file file_more ts (file_at ts)
unfolding file file_at next_statement_at
file_reads ts =
    then_give (ended_by (optional statement) (sign signs.Semicolon)) present file_more ts _
    (reads_along (separated_by (optional statement) (sign signs.Semicolon)) (ended_by (optional statement) (sign signs.Semicolon)) file_more ts _
    (separated_same (optional statement) (sign signs.Semicolon) ts)
    (separated_reads (optional statement) _ optional_more file_more optional_statement_at statements_separable ts))
