-- Each reader reads its part: types, constraints and columns.
use Rattle.std.proofs.Common.{◌≡◌, Bool, true, false, List, [], ◌∷◌, Ok, refl}
use Rattle.std.specs.Prelude.{is_some}
use Rattle.grammar_dm.specs.Part.{Part, skip}
use Rattle.grammar_dm.specs.Part.Part.{give, then, optional, repeated, marked}
use Rattle.grammar_dm.specs.Reading.{◌>>=◌, starts}
use Rattle.grammar_dm.proofs.Laws.{Goes, Reads, Apart, Blocked, no, token_reads, token_blocked, token_then, token_then_blocked, then_reads, then_give, then_apart, then_blocked, give_reads, give_apart, marked_reads}
use Rattle.grammar_dm.proofs.Choices.{parted, widened, reads_wider, or_by, or_apart, skip_optional_reads, skip_optional_apart, option_then_apart, Repeatable, repeated_reads, repeated_apart, Takes, takes_token, takes_first, takes_second, takes_either}
use Rattle.grammar_dm.proofs.Walks.{IsStrict, is_strict}
use Rattle.ddl_syntax_dm.specs.declared.token.Keyword.{Keyword}
use Rattle.ddl_syntax_dm.specs.declared.token.Keyword.TheVariants as keywords
use Rattle.ddl_tokens_dm.specs.declared.token.Sign.TheVariants as signs
use Rattle.ddl_tokens_dm.specs.declared.token.Placed.{Placed}
use Rattle.ddl_syntax_dm.specs.declared.token.TypeWord.{TypeWord}
use Rattle.ddl_syntax_dm.specs.declared.syntax.Constraint.TheVariants as constraints
use Rattle.ddl_syntax_dm.specs.Words.{Mark, column_name_of}
use Rattle.ddl_syntax_dm.specs.Grammar as grammar
use Rattle.ddl_syntax_dm.specs.Grammar.{sign, word, number, target, constraint_name, where_allowed, without_time_zone, type_end, column_type, bare_constraint, constraint, column_name, column}
use Rattle.ddl_syntax_dm.specs.Reading.{is_sign, is_word, First, is_one_of, word_at, scale_at, after_scale_at, length_at, after_length_at, after_varying_at, zone_at, after_zone_at, bare_type_at, column_type_at, references_at, primary_key_at, is_unique_at, not_null_at, null_at, bare_constraint_at, constraint_at, constraint_firsts, begins_constraint, constraints_at, column_at}
use Rattle.ddl_syntax_dm.specs.Reading.First.{a_word, a_sign}
use Rattle.ddl_syntax_dm.proofs.Firsts.{apart, among, two_apart, first_among, none_among}
use Rattle.ddl_syntax_dm.proofs.Readers.{off, target_firsts, target_more, target_reads, target_off, constraint_name_blocked, after_name_reads}

-- ---- types

abbrev scale : Part Placed Mark
scale = then (sign signs.Comma) (λ _. number)

scale_reads : (more : Placed → Bool) (ts : List Placed) → Reads scale more ts (scale_at ts)
unfolding scale_at
scale_reads more ts = token_then _ _ more ts _ (λ _ a. token_reads _ more a)

after_scale_reads : (ts : List Placed) → Reads (skip (optional scale)) (is_sign signs.Comma) ts (after_scale_at ts)
unfolding after_scale_at
after_scale_reads ts =
    skip_optional_reads scale (is_sign signs.Comma) (is_sign signs.Comma) scale_at ts
    (λ e. (scale_reads (is_sign signs.Comma) ts, e)) (λ e. token_then_blocked _ _ no ts e)

length_reads : (more : Placed → Bool) (ts : List Placed) → Reads grammar.length more ts (length_at ts)
unfolding grammar.length length_at
length_reads more ts =
    token_then _ _ more ts _ (λ _ a.
    token_then _ _ more a _ (λ _ b.
    then_reads (skip (optional scale)) _ (is_sign signs.Comma) more b _ _ (after_scale_reads b)
    (λ _ c _. token_reads _ more c)
    (λ _ c g. token_blocked _ more c (parted (is_sign signs.Comma) (is_sign signs.Close) (two_apart (a_sign signs.Comma) (a_sign signs.Close) refl) c g))))

length_blocked : (ts : List Placed) → starts (is_sign signs.Open) ts ≡ false → Blocked grammar.length ts
unfolding grammar.length
length_blocked ts e = token_then_blocked _ _ no ts e

after_length_reads : (ts : List Placed) → Reads (skip (optional grammar.length)) (is_sign signs.Open) ts (after_length_at ts)
unfolding after_length_at
after_length_reads ts =
    skip_optional_reads grammar.length (is_sign signs.Open) (is_sign signs.Open) length_at ts (λ e. (length_reads (is_sign signs.Open) ts, e)) (length_blocked ts)

after_varying_reads : (allowed : Bool) (ts : List Placed) → Reads (where_allowed allowed (word keywords.Varying)) (is_word keywords.Varying) ts (after_varying_at allowed ts)
unfolding after_varying_at
after_varying_reads true ts =
    skip_optional_reads (word keywords.Varying) (is_word keywords.Varying) (is_word keywords.Varying) (word_at keywords.Varying) ts
    (λ e. (token_reads _ (is_word keywords.Varying) ts, e)) (λ e. token_blocked _ no ts e)
after_varying_reads false ts = give_reads tt (is_word keywords.Varying) ts

zone_reads : (more : Placed → Bool) (ts : List Placed) → Reads without_time_zone more ts (zone_at ts)
unfolding without_time_zone zone_at
zone_reads more ts = token_then _ _ more ts _ (λ _ a. token_then _ _ more a _ (λ _ b. token_reads _ more b))

zone_blocked : (ts : List Placed) → starts (is_word keywords.Without) ts ≡ false → Blocked without_time_zone ts
unfolding without_time_zone
zone_blocked ts e = token_then_blocked _ _ no ts e

after_zone_reads : (allowed : Bool) (ts : List Placed) → Reads (where_allowed allowed without_time_zone) (is_word keywords.Without) ts (after_zone_at allowed ts)
unfolding after_zone_at
after_zone_reads true ts =
    skip_optional_reads without_time_zone (is_word keywords.Without) (is_word keywords.Without) zone_at ts
    (λ e. (zone_reads (is_word keywords.Without) ts, e)) (zone_blocked ts)
after_zone_reads false ts = give_reads tt (is_word keywords.Without) ts

allowed_apart : (allowed : Bool) (part : Part Placed Mark) (more : Placed → Bool) (ts : List Placed) → Blocked part ts → Goes more ts → Apart (where_allowed allowed part) more ts
allowed_apart true part more ts h g = skip_optional_apart part more ts h g
allowed_apart false part more ts h g = give_apart tt more ts g

abbrev pub type_firsts : List First
type_firsts = a_word keywords.Varying ∷ a_sign signs.Open ∷ a_word keywords.Without ∷ []

abbrev pub type_more : Placed → Bool
type_more = is_one_of type_firsts

-- behind a length
zone_end_apart : (first : TypeWord) (ts : List Placed) → starts (is_word keywords.Without) ts ≡ false → Goes type_more ts
    → Apart (then (where_allowed first.zoned without_time_zone) (λ _. give first.kind)) type_more ts
zone_end_apart first ts e g =
    then_apart (where_allowed first.zoned without_time_zone) _ type_more type_more ts
    (allowed_apart first.zoned without_time_zone type_more ts (zone_blocked ts e) g)
    (λ _ h. give_apart _ type_more ts h)

from_open : (ts : List Placed) → starts (is_sign signs.Open) ts ≡ true → Goes type_more ts
from_open ts g = widened (is_sign signs.Open) type_more (first_among (a_sign signs.Open) type_firsts refl) ts g

from_varying : (ts : List Placed) → starts (is_word keywords.Varying) ts ≡ true → Goes type_more ts
from_varying ts g = widened (is_word keywords.Varying) type_more (first_among (a_word keywords.Varying) type_firsts refl) ts g

length_end_reads : (first : TypeWord) (ts : List Placed) → Reads (then (skip (optional grammar.length)) (λ _. then (where_allowed first.zoned without_time_zone) (λ _. give first.kind))) type_more ts
    (after_length_at ts >>= λ l. after_zone_at first.zoned l.1 >>= λ z. Ok (first.kind, z.1))
length_end_reads first ts =
    then_reads (skip (optional grammar.length)) _ (is_sign signs.Open) type_more ts _ _ (after_length_reads ts)
    (λ _ c _. then_give (where_allowed first.zoned without_time_zone) _ type_more c _
    (reads_wider (where_allowed first.zoned without_time_zone) (is_word keywords.Without) type_more (first_among (a_word keywords.Without) type_firsts refl) c _ (after_zone_reads first.zoned c)))
    (λ _ c g. zone_end_apart first c (parted (is_sign signs.Open) (is_word keywords.Without) (two_apart (a_sign signs.Open) (a_word keywords.Without) refl) c g) (from_open c g))

bare_type_reads : (ts : List Placed) → Reads column_type type_more ts (bare_type_at ts)
unfolding column_type type_end bare_type_at
bare_type_reads ts =
    token_then _ _ type_more ts _ (λ first a.
    then_reads (where_allowed first.varies (word keywords.Varying)) _ (is_word keywords.Varying) type_more a _ _ (after_varying_reads first.varies a)
    (λ _ b _. length_end_reads first b)
    (λ _ b g. then_apart (skip (optional grammar.length)) _ type_more type_more b
    (skip_optional_apart grammar.length type_more b (length_blocked b (parted (is_word keywords.Varying) (is_sign signs.Open) (two_apart (a_word keywords.Varying) (a_sign signs.Open) refl) b g)) (from_varying b g))
    (λ _ h. zone_end_apart first b (off keywords.Varying keywords.Without (two_apart (a_word keywords.Varying) (a_word keywords.Without) refl) b g) h)))

type_takes : Takes column_type
unfolding column_type
type_takes = takes_first _ _ (takes_token _)

column_type_reads : (ts : List Placed) → Reads (marked column_type) type_more ts (column_type_at ts)
unfolding column_type_at
column_type_reads ts = marked_reads column_type type_more ts _ (type_takes.takes ts) (bare_type_reads ts)

-- ---- constraints

references_off : (more : Placed → Bool) (ts : List Placed) → starts (is_word keywords.References) ts ≡ false → Apart (then target (λ to. give (constraints.References to))) more ts
references_off more ts e = then_blocked target _ more ts (target_off no ts e)

bare_reads : (ts : List Placed) → Reads bare_constraint target_more ts (bare_constraint_at ts)
unfolding bare_constraint bare_constraint_at primary_key_at is_unique_at not_null_at null_at references_at
bare_reads ts =
    or_by (is_word keywords.Primary) _ _ target_more ts _ _
    (λ e. (
      token_then _ _ target_more ts _ (λ _ a. token_then _ _ target_more a _ (λ _ b. give_reads _ target_more b)),
      or_apart _ _ target_more ts ts (token_then_blocked _ _ target_more ts (off keywords.Primary keywords.Unique (two_apart (a_word keywords.Primary) (a_word keywords.Unique) refl) ts e))
          (or_apart _ _ target_more ts ts (token_then_blocked _ _ target_more ts (off keywords.Primary keywords.Not (two_apart (a_word keywords.Primary) (a_word keywords.Not) refl) ts e))
          (or_apart _ _ target_more ts ts (token_then_blocked _ _ target_more ts (off keywords.Primary keywords.Null (two_apart (a_word keywords.Primary) (a_word keywords.Null) refl) ts e))
          (references_off target_more ts (off keywords.Primary keywords.References (two_apart (a_word keywords.Primary) (a_word keywords.References) refl) ts e)))),
    ))
    (λ e. (
      token_then_blocked _ _ target_more ts e,
      or_by (is_word keywords.Unique) _ _ target_more ts _ _
          (λ d. (
            token_then _ _ target_more ts _ (λ _ a. give_reads _ target_more a),
            or_apart _ _ target_more ts ts (token_then_blocked _ _ target_more ts (off keywords.Unique keywords.Not (two_apart (a_word keywords.Unique) (a_word keywords.Not) refl) ts d))
                (or_apart _ _ target_more ts ts (token_then_blocked _ _ target_more ts (off keywords.Unique keywords.Null (two_apart (a_word keywords.Unique) (a_word keywords.Null) refl) ts d))
                (references_off target_more ts (off keywords.Unique keywords.References (two_apart (a_word keywords.Unique) (a_word keywords.References) refl) ts d))),
          ))
          (λ d. (
            token_then_blocked _ _ target_more ts d,
            or_by (is_word keywords.Not) _ _ target_more ts _ _
                (λ c. (
                  token_then _ _ target_more ts _ (λ _ a. token_then _ _ target_more a _ (λ _ b. give_reads _ target_more b)),
                  or_apart _ _ target_more ts ts (token_then_blocked _ _ target_more ts (off keywords.Not keywords.Null (two_apart (a_word keywords.Not) (a_word keywords.Null) refl) ts c))
                      (references_off target_more ts (off keywords.Not keywords.References (two_apart (a_word keywords.Not) (a_word keywords.References) refl) ts c)),
                ))
                (λ c. (
                  token_then_blocked _ _ target_more ts c,
                  or_by (is_word keywords.Null) _ _ target_more ts _ _
                      (λ b. (token_then _ _ target_more ts _ (λ _ a. give_reads _ target_more a), references_off target_more ts (off keywords.Null keywords.References (two_apart (a_word keywords.Null) (a_word keywords.References) refl) ts b)))
                      (λ b. (token_then_blocked _ _ target_more ts b, then_give target _ target_more ts _ (target_reads ts))),
                )),
          )),
    ))

-- a token at the front of these is none with which a bare constraint begins
record NoConstraint (ts : List Placed) : Type 0 where
  primary : starts (is_word keywords.Primary) ts ≡ false
  unique : starts (is_word keywords.Unique) ts ≡ false
  not : starts (is_word keywords.Not) ts ≡ false
  null : starts (is_word keywords.Null) ts ≡ false
  references : starts (is_word keywords.References) ts ≡ false

bare_off : (more : Placed → Bool) (ts : List Placed) → NoConstraint ts → Apart bare_constraint more ts
unfolding bare_constraint
bare_off more ts h =
    or_apart _ _ more ts ts (token_then_blocked _ _ more ts h.primary)
    (or_apart _ _ more ts ts (token_then_blocked _ _ more ts h.unique)
    (or_apart _ _ more ts ts (token_then_blocked _ _ more ts h.not)
    (or_apart _ _ more ts ts (token_then_blocked _ _ more ts h.null) (references_off more ts h.references))))

constraint_reads : (ts : List Placed) → Reads constraint target_more ts (constraint_at ts)
unfolding constraint constraint_at
constraint_reads ts =
    then_reads (skip (optional constraint_name)) _ (is_word keywords.Constraint) target_more ts _ _ (after_name_reads ts)
    (λ _ a _. bare_reads a)
    (λ _ a g. bare_off target_more a (record {
      primary = off keywords.Constraint keywords.Primary (two_apart (a_word keywords.Constraint) (a_word keywords.Primary) refl) a g;
      unique = off keywords.Constraint keywords.Unique (two_apart (a_word keywords.Constraint) (a_word keywords.Unique) refl) a g;
      not = off keywords.Constraint keywords.Not (two_apart (a_word keywords.Constraint) (a_word keywords.Not) refl) a g;
      null = off keywords.Constraint keywords.Null (two_apart (a_word keywords.Constraint) (a_word keywords.Null) refl) a g;
      references = off keywords.Constraint keywords.References (two_apart (a_word keywords.Constraint) (a_word keywords.References) refl) a g;
    }))

-- what is none of a list's words
pub none_starts : (k : Keyword) (fs : List First) → ((t : Placed) → is_one_of fs t ≡ false → is_word k t ≡ false) → (ts : List Placed) → starts (is_one_of fs) ts ≡ false → starts (is_word k) ts ≡ false
none_starts k fs h [] e = refl
none_starts k fs h (t ∷ ts) e = h t e

constraint_blocked : (ts : List Placed) → starts begins_constraint ts ≡ false → Blocked constraint ts
unfolding constraint begins_constraint
constraint_blocked ts e =
    option_then_apart constraint_name bare_constraint no ts
    (constraint_name_blocked ts (none_starts keywords.Constraint constraint_firsts (none_among (a_word keywords.Constraint) constraint_firsts refl) ts e))
    (bare_off no ts (record {
      primary = none_starts keywords.Primary constraint_firsts (none_among (a_word keywords.Primary) constraint_firsts refl) ts e;
      unique = none_starts keywords.Unique constraint_firsts (none_among (a_word keywords.Unique) constraint_firsts refl) ts e;
      not = none_starts keywords.Not constraint_firsts (none_among (a_word keywords.Not) constraint_firsts refl) ts e;
      null = none_starts keywords.Null constraint_firsts (none_among (a_word keywords.Null) constraint_firsts refl) ts e;
      references = none_starts keywords.References constraint_firsts (none_among (a_word keywords.References) constraint_firsts refl) ts e;
    }))

bare_takes : Takes bare_constraint
unfolding bare_constraint target
bare_takes =
    takes_either _ _ (takes_first _ _ (takes_token _))
    (takes_either _ _ (takes_first _ _ (takes_token _))
    (takes_either _ _ (takes_first _ _ (takes_token _))
    (takes_either _ _ (takes_first _ _ (takes_token _)) (takes_first _ _ (takes_first _ _ (takes_token _))))))

constraint_takes : Takes constraint
unfolding constraint
constraint_takes = takes_second _ _ (λ _. bare_takes)

-- ---- columns

abbrev pub column_firsts : List First
column_firsts =
    a_word keywords.Varying ∷ a_sign signs.Open ∷ a_word keywords.Without ∷ a_word keywords.On ∷ a_word keywords.Constraint ∷ a_word keywords.Primary ∷ a_word keywords.Unique
    ∷ a_word keywords.Not ∷ a_word keywords.Null ∷ a_word keywords.References ∷ []

abbrev pub column_more : Placed → Bool
column_more = is_one_of column_firsts

constraint_repeatable : Repeatable constraint begins_constraint target_more column_more constraint_at
unfolding begins_constraint
constraint_repeatable = record {
  reads = λ ts e. constraint_reads ts;
  blocked = constraint_blocked;
  takes = constraint_takes.takes;
  ends = apart target_firsts constraint_firsts refl;
  more_ends = among target_firsts column_firsts refl;
  more_goes_on = among constraint_firsts column_firsts refl;
}

pub constraints_strict : IsStrict begins_constraint constraint_at
constraints_strict = is_strict constraint begins_constraint target_more column_more constraint_at constraint_repeatable

constraints_reads : (ts : List Placed) → Reads (repeated constraint) column_more ts (constraints_at ts)
unfolding constraints_at
constraints_reads ts = repeated_reads constraint begins_constraint target_more column_more constraint_at constraint_repeatable ts

type_then_no_constraint : (t : Placed) → type_more t ≡ true → begins_constraint t ≡ false
unfolding begins_constraint
type_then_no_constraint t e = apart type_firsts constraint_firsts refl t e

pub column_reads : (ts : List Placed) → Reads column column_more ts (column_at ts)
unfolding column column_at
column_reads ts =
    token_then _ _ column_more ts _ (λ name a.
    then_reads (marked column_type) _ type_more column_more a _ _ (column_type_reads a)
    (λ kind b _. then_give (repeated constraint) _ column_more b _ (constraints_reads b))
    (λ kind b g. then_apart (repeated constraint) _ column_more column_more b
    (repeated_apart constraint column_more b (constraint_blocked b (parted type_more begins_constraint type_then_no_constraint b g)) (widened type_more column_more (among type_firsts column_firsts refl) b g))
    (λ constraints h. give_apart _ column_more b h)))

pub column_blocked : (ts : List Placed) → starts (λ t. is_some (column_name_of t.token)) ts ≡ false → Blocked column ts
unfolding column
column_blocked ts e = token_then_blocked _ _ no ts e
