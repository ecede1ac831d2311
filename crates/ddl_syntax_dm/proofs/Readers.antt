-- Each reader reads its part: lists, targets and keys.
use Rattle.std.proofs.Common.{◌≡◌, ◌<◌, Bool, true, false, List, [], ◌∷◌, length, refl}
use Rattle.grammar_dm.specs.Part.{Spells, separated_by, skip}
use Rattle.grammar_dm.specs.Part.Part.{then, or, optional, repeated}
use Rattle.grammar_dm.specs.Reading.{starts}
use Rattle.grammar_dm.proofs.Laws.{Reads, Apart, Blocked, no, token_reads, token_blocked, token_then, token_then_blocked, token_takes, then_reads, then_give, then_apart, closed_then, give_reads, give_apart}
use Rattle.grammar_dm.proofs.Choices.{parted, widened, closed_reads, or_by, or_apart, optional_reads, skip_optional_reads, option_then_apart, Repeatable, skip_repeated_reads, skip_repeated_apart, Separable, separated_reads, behind_repeatable}
use Rattle.grammar_dm.proofs.Walks.{IsStrict, is_strict}
use Rattle.ddl_syntax_dm.specs.declared.token.Keyword.{Keyword}
use Rattle.ddl_syntax_dm.specs.declared.token.Keyword.TheVariants as keywords
use Rattle.ddl_tokens_dm.specs.declared.token.Sign.TheVariants as signs
use Rattle.ddl_tokens_dm.specs.declared.token.Placed.{Placed}
use Rattle.ddl_syntax_dm.specs.Words.{Mark, sign_of, word_of}
use Rattle.ddl_syntax_dm.specs.Grammar.{sign, word, name, list, action, rule, target, primary, unique, foreign, key, constraint_name, named_key}
use Rattle.ddl_syntax_dm.specs.Reading.{is_sign, is_word, name_at, next_name_at, names_at, list_at, set_action_at, action_at, event_at, rule_at, rules_at, given_list_at, target_at, primary_at, unique_at, foreign_at, key_at, constraint_name_at, after_name_at, named_key_at}
use Rattle.ddl_syntax_dm.specs.Reading.{First, is_one_of}
use Rattle.ddl_syntax_dm.specs.Reading.First.{a_word, a_sign}
use Rattle.ddl_syntax_dm.proofs.Firsts.{two_apart, first_among}

-- ---- lists of names

names_separable : Separable name (λ (t : Placed). sign_of signs.Comma t.token) no (is_sign signs.Comma) name_at
names_separable = record {
  reads = λ ts. token_reads _ no ts;
  ends = λ t e. absurd cc;
  more_ends = λ t e. absurd cc;
  more_goes_on = λ t e. e;
}

pub names_strict : IsStrict (is_sign signs.Comma) next_name_at
unfolding next_name_at
names_strict = is_strict _ (is_sign signs.Comma) no (is_sign signs.Comma) _ (behind_repeatable name _ no (is_sign signs.Comma) name_at names_separable)

pub list_reads : (ts : List Placed) → Reads list no ts (list_at ts)
unfolding list list_at names_at next_name_at
list_reads ts =
    token_then _ _ no ts _ (λ _ a.
    then_reads (separated_by name (sign signs.Comma)) _ (is_sign signs.Comma) no a _ _ (separated_reads name _ no (is_sign signs.Comma) name_at names_separable a)
    (λ names b _. token_then _ _ no b _ (λ _ c. give_reads names no c))
    (λ names b g. token_then_blocked _ _ no b (parted (is_sign signs.Comma) (is_sign signs.Close) (two_apart (a_sign signs.Comma) (a_sign signs.Close) refl) b g)))

pub list_blocked : (ts : List Placed) → starts (is_sign signs.Open) ts ≡ false → Blocked list ts
unfolding list
list_blocked ts e = token_then_blocked _ _ no ts e

-- ---- actions and targets

-- one word is at the front, and so another isn't
pub off : (a b : Keyword) → ((t : Placed) → is_word a t ≡ true → is_word b t ≡ false) → (ts : List Placed) → starts (is_word a) ts ≡ true → starts (is_word b) ts ≡ false
off a b h ts e = parted (is_word a) (is_word b) h ts e

set_action_reads : (more : Placed → Bool) (ts : List Placed) → Reads (or (word keywords.Null) (word keywords.Default)) more ts (set_action_at ts)
unfolding set_action_at
set_action_reads more ts =
    or_by (is_word keywords.Null) (word keywords.Null) (word keywords.Default) more ts _ _
    (λ e. (token_reads _ more ts, token_blocked _ more ts (off keywords.Null keywords.Default (two_apart (a_word keywords.Null) (a_word keywords.Default) refl) ts e)))
    (λ e. (token_blocked _ more ts e, token_reads _ more ts))

event_reads : (more : Placed → Bool) (ts : List Placed) → Reads (or (word keywords.Delete) (word keywords.Update)) more ts (event_at ts)
unfolding event_at
event_reads more ts =
    or_by (is_word keywords.Delete) (word keywords.Delete) (word keywords.Update) more ts _ _
    (λ e. (token_reads _ more ts, token_blocked _ more ts (off keywords.Delete keywords.Update (two_apart (a_word keywords.Delete) (a_word keywords.Update) refl) ts e)))
    (λ e. (token_blocked _ more ts e, token_reads _ more ts))

action_reads : (more : Placed → Bool) (ts : List Placed) → Reads action more ts (action_at ts)
unfolding action action_at
action_reads more ts =
    or_by (is_word keywords.No) _ _ more ts _ _
    (λ e. (
      token_then _ _ more ts _ (λ _ a. token_reads _ more a),
      or_apart _ _ more ts ts (token_blocked _ more ts (off keywords.No keywords.Restrict (two_apart (a_word keywords.No) (a_word keywords.Restrict) refl) ts e))
          (or_apart _ _ more ts ts (token_blocked _ more ts (off keywords.No keywords.Cascade (two_apart (a_word keywords.No) (a_word keywords.Cascade) refl) ts e))
          (token_then_blocked _ _ more ts (off keywords.No keywords.Set (two_apart (a_word keywords.No) (a_word keywords.Set) refl) ts e))),
    ))
    (λ e. (
      token_then_blocked _ _ more ts e,
      or_by (is_word keywords.Restrict) _ _ more ts _ _
          (λ d. (
            token_reads _ more ts,
            or_apart _ _ more ts ts (token_blocked _ more ts (off keywords.Restrict keywords.Cascade (two_apart (a_word keywords.Restrict) (a_word keywords.Cascade) refl) ts d))
                (token_then_blocked _ _ more ts (off keywords.Restrict keywords.Set (two_apart (a_word keywords.Restrict) (a_word keywords.Set) refl) ts d)),
          ))
          (λ d. (
            token_blocked _ more ts d,
            or_by (is_word keywords.Cascade) _ _ more ts _ _
                (λ c. (token_reads _ more ts, token_then_blocked _ _ more ts (off keywords.Cascade keywords.Set (two_apart (a_word keywords.Cascade) (a_word keywords.Set) refl) ts c)))
                (λ c. (token_blocked _ more ts c, token_then _ _ more ts _ (λ _ a. set_action_reads more a))),
          )),
    ))

-- with these a target may go on
abbrev pub target_firsts : List First
target_firsts = a_sign signs.Open ∷ a_word keywords.On ∷ []

abbrev pub target_more : Placed → Bool
target_more = is_one_of target_firsts

rule_reads : (more : Placed → Bool) (ts : List Placed) → Reads rule more ts (rule_at ts)
unfolding rule rule_at
rule_reads more ts =
    token_then _ _ more ts _ (λ _ a.
    closed_then (or (word keywords.Delete) (word keywords.Update)) _ more a _ _ (event_reads no a) (λ _ b. action_reads more b))

rule_blocked : (ts : List Placed) → starts (is_word keywords.On) ts ≡ false → Blocked rule ts
unfolding rule
rule_blocked ts e = token_then_blocked _ _ no ts e

rule_takes : (ts r : List Placed) (v : Mark) → Spells rule ts r v → length r < length ts
unfolding rule
rule_takes ts r v h = token_takes (λ (t : Placed). word_of keywords.On t.token) (λ _. then (or (word keywords.Delete) (word keywords.Update)) (λ _. action)) ts r v h

rule_repeatable : Repeatable rule (is_word keywords.On) no target_more rule_at
rule_repeatable = record {
  reads = λ ts e. rule_reads no ts;
  blocked = rule_blocked;
  takes = rule_takes;
  ends = λ t e. absurd cc;
  more_ends = λ t e. absurd cc;
  more_goes_on = first_among (a_word keywords.On) target_firsts refl;
}

pub rules_strict : IsStrict (is_word keywords.On) rule_at
rules_strict = is_strict rule (is_word keywords.On) no target_more rule_at rule_repeatable

rules_reads : (ts : List Placed) → Reads (skip (repeated rule)) target_more ts (rules_at ts)
unfolding rules_at
rules_reads ts = skip_repeated_reads rule (is_word keywords.On) no target_more rule_at rule_repeatable ts

given_list_reads : (ts : List Placed) → Reads (optional list) (is_sign signs.Open) ts (given_list_at ts)
unfolding given_list_at
given_list_reads ts = optional_reads list (is_sign signs.Open) (is_sign signs.Open) list_at ts (λ e. (closed_reads list (is_sign signs.Open) ts _ (list_reads ts), e)) (list_blocked ts)

pub target_reads : (ts : List Placed) → Reads target target_more ts (target_at ts)
unfolding target target_at
target_reads ts =
    token_then _ _ target_more ts _ (λ _ a.
    token_then _ _ target_more a _ (λ table b.
    then_reads (optional list) _ (is_sign signs.Open) target_more b _ _ (given_list_reads b)
    (λ columns c _. then_give (skip (repeated rule)) _ target_more c _ (rules_reads c))
    (λ columns c g. then_apart (skip (repeated rule)) _ target_more target_more c
    (skip_repeated_apart rule target_more c
    (rule_blocked c (parted (is_sign signs.Open) (is_word keywords.On) (two_apart (a_sign signs.Open) (a_word keywords.On) refl) c g))
    (widened (is_sign signs.Open) target_more (first_among (a_sign signs.Open) target_firsts refl) c g))
    (λ _ h. give_apart _ target_more c h))))

pub target_off : (more : Placed → Bool) (ts : List Placed) → starts (is_word keywords.References) ts ≡ false → Apart target more ts
unfolding target
target_off more ts e = token_then_blocked _ _ more ts e

-- ---- keys

primary_reads : (more : Placed → Bool) (ts : List Placed) → Reads primary more ts (primary_at ts)
unfolding primary primary_at
primary_reads more ts =
    token_then _ _ more ts _ (λ _ a.
    token_then _ _ more a _ (λ _ b.
    closed_then list _ more b _ _ (list_reads b) (λ names c. give_reads _ more c)))

unique_reads : (more : Placed → Bool) (ts : List Placed) → Reads unique more ts (unique_at ts)
unfolding unique unique_at
unique_reads more ts =
    token_then _ _ more ts _ (λ _ a.
    closed_then list _ more a _ _ (list_reads a) (λ names c. give_reads _ more c))

foreign_reads : (ts : List Placed) → Reads foreign target_more ts (foreign_at ts)
unfolding foreign foreign_at
foreign_reads ts =
    token_then _ _ target_more ts _ (λ _ a.
    token_then _ _ target_more a _ (λ _ b.
    closed_then list _ target_more b _ _ (list_reads b) (λ names c.
    then_give target _ target_more c _ (target_reads c))))

primary_off : (more : Placed → Bool) (ts : List Placed) → starts (is_word keywords.Primary) ts ≡ false → Apart primary more ts
unfolding primary
primary_off more ts e = token_then_blocked _ _ more ts e

unique_off : (more : Placed → Bool) (ts : List Placed) → starts (is_word keywords.Unique) ts ≡ false → Apart unique more ts
unfolding unique
unique_off more ts e = token_then_blocked _ _ more ts e

foreign_off : (more : Placed → Bool) (ts : List Placed) → starts (is_word keywords.Foreign) ts ≡ false → Apart foreign more ts
unfolding foreign
foreign_off more ts e = token_then_blocked _ _ more ts e

pub key_reads : (ts : List Placed) → Reads key target_more ts (key_at ts)
unfolding key key_at
key_reads ts =
    or_by (is_word keywords.Primary) primary (or unique foreign) target_more ts _ _
    (λ e. (
      primary_reads target_more ts,
      or_apart unique foreign target_more ts ts
          (unique_off target_more ts (off keywords.Primary keywords.Unique (two_apart (a_word keywords.Primary) (a_word keywords.Unique) refl) ts e))
          (foreign_off target_more ts (off keywords.Primary keywords.Foreign (two_apart (a_word keywords.Primary) (a_word keywords.Foreign) refl) ts e)),
    ))
    (λ e. (
      primary_off target_more ts e,
      or_by (is_word keywords.Unique) unique foreign target_more ts _ _
          (λ d. (
            unique_reads target_more ts,
            foreign_off target_more ts (off keywords.Unique keywords.Foreign (two_apart (a_word keywords.Unique) (a_word keywords.Foreign) refl) ts d),
          ))
          (λ d. (unique_off target_more ts d, foreign_reads ts)),
    ))

pub key_off : (more : Placed → Bool) (ts : List Placed) → starts (is_word keywords.Primary) ts ≡ false → starts (is_word keywords.Unique) ts ≡ false → starts (is_word keywords.Foreign) ts ≡ false → Apart key more ts
unfolding key
key_off more ts p u f = or_apart primary (or unique foreign) more ts ts (primary_off more ts p) (or_apart unique foreign more ts ts (unique_off more ts u) (foreign_off more ts f))

constraint_name_reads : (more : Placed → Bool) (ts : List Placed) → Reads constraint_name more ts (constraint_name_at ts)
unfolding constraint_name constraint_name_at
constraint_name_reads more ts = token_then _ _ more ts _ (λ _ a. then_give name _ more a _ (token_reads _ more a))

pub constraint_name_blocked : (ts : List Placed) → starts (is_word keywords.Constraint) ts ≡ false → Blocked constraint_name ts
unfolding constraint_name
constraint_name_blocked ts e = token_then_blocked _ _ no ts e

pub after_name_reads : (ts : List Placed) → Reads (skip (optional constraint_name)) (is_word keywords.Constraint) ts (after_name_at ts)
unfolding after_name_at
after_name_reads ts =
    skip_optional_reads constraint_name (is_word keywords.Constraint) (is_word keywords.Constraint) constraint_name_at ts
    (λ e. (constraint_name_reads (is_word keywords.Constraint) ts, e)) (constraint_name_blocked ts)

pub named_key_reads : (ts : List Placed) → Reads named_key target_more ts (named_key_at ts)
unfolding named_key named_key_at
named_key_reads ts =
    then_reads (skip (optional constraint_name)) _ (is_word keywords.Constraint) target_more ts _ _ (after_name_reads ts)
    (λ _ a _. key_reads a)
    (λ _ a g. key_off target_more a
    (off keywords.Constraint keywords.Primary (two_apart (a_word keywords.Constraint) (a_word keywords.Primary) refl) a g)
    (off keywords.Constraint keywords.Unique (two_apart (a_word keywords.Constraint) (a_word keywords.Unique) refl) a g)
    (off keywords.Constraint keywords.Foreign (two_apart (a_word keywords.Constraint) (a_word keywords.Foreign) refl) a g))

-- neither a constraint's name nor a key is at the front
pub named_key_off : (more : Placed → Bool) (ts : List Placed) → starts (is_word keywords.Constraint) ts ≡ false → starts (is_word keywords.Primary) ts ≡ false → starts (is_word keywords.Unique) ts ≡ false
    → starts (is_word keywords.Foreign) ts ≡ false → Apart named_key more ts
unfolding named_key
named_key_off more ts c p u f = option_then_apart constraint_name key more ts (constraint_name_blocked ts c) (key_off more ts p u f)
