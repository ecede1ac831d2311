-- The values in a query that was read obey the rules of their types.
use Rattle.std.proofs.Common.{◌≡◌, ◌∙◌, ℕ, zero, suc, List, [], ◌∷◌, Option, Some, None, inl, inr, sym, subst}
use Rattle.std.proofs.lemmas.Str.{scalars-chars}
use denote.Hole.Carrier.{hidden}
use Rattle.hex.proofs.HexLemmas.{decode_of-ok}
use Rattle.members_dm.specs.Elements.{Each}
use Rattle.value_dm.specs.Lawful.{IsLawful}
use Rattle.value_dm.specs.Spelling.{SpellsValue, unescaped}
use Rattle.value_dm.specs.Texts.{IsText}
use Rattle.value_dm.specs.declared.kind.Kind.{Kind}
use Rattle.value_dm.specs.declared.kind.Kind.TheVariants as kind
use Rattle.value_dm.specs.declared.value.Value.{Value}
use Rattle.value_dm.specs.declared.value.Value.TheVariants as value
use Rattle.schema_dm.specs.Naming.{Name}
use Rattle.grammar_dm.specs.Part.{Part, Repeats, Spells}
use Rattle.grammar_dm.specs.Part.Repeats.{no_repeat, one_more}
use Rattle.query_tokens_dm.specs.Tokens.{Consists, Fits, IsFitting, StandsToken}
use Rattle.query_tokens_dm.specs.Tokens.Consists.{nothing, between, token}
use Rattle.query_tokens_dm.specs.declared.token.Token.{Token}
use Rattle.query_tokens_dm.specs.declared.token.Token.TheVariants.{Open, Close, Word, Quoted}
use Rattle.query_tokens_dm.specs.declared.token.Placed.{Placed}
use Rattle.algebra_dm.specs.declared.query.Query.{Query, end_of-Query, more_of-Query}
use Rattle.algebra_dm.specs.declared.query.Query.TheVariants as queries
use Rattle.algebra_dm.specs.declared.query.Query.TheBlock.{shape-the_row-Query-0, hidden-the_row-Query-0}
use Rattle.query_text_dm.specs.Answer.{IsTextOfQuery}
use Rattle.query_text_dm.specs.Grammar.{compared, name, named, operands, query_within, two}
use Rattle.query_text_dm.specs.declared.operator.Operator.{Operator}
use Rattle.query_text_dm.specs.declared.operator.Operator.TheVariants.{Table, Null, Eq, Ne, IsNull, NotNull, Project, Rename, Join, Union, Diff}

-- each value that the query compares with does so
abbrev pub AreLawfulValues : Query → Type 0
AreLawfulValues (queries.Table t) = Unit {0}
AreLawfulValues (queries.Null n) = Unit {0}
AreLawfulValues (queries.Eq' s (more_of-Query p end_of-Query) n v) = AreLawfulValues p × IsLawful v
AreLawfulValues (queries.Ne' s (more_of-Query p end_of-Query) n v) = AreLawfulValues p × IsLawful v
AreLawfulValues (queries.IsNull' s (more_of-Query p end_of-Query) n) = AreLawfulValues p
AreLawfulValues (queries.NotNull' s (more_of-Query p end_of-Query) n) = AreLawfulValues p
AreLawfulValues (queries.Project' s (more_of-Query p end_of-Query) names) = AreLawfulValues p
AreLawfulValues (queries.Rename' s (more_of-Query p end_of-Query) from to) = AreLawfulValues p
AreLawfulValues (queries.Join' s (more_of-Query p end_of-Query) s' (more_of-Query q end_of-Query)) = AreLawfulValues p × AreLawfulValues q
AreLawfulValues (queries.Union' s (more_of-Query p end_of-Query) s' (more_of-Query q end_of-Query)) = AreLawfulValues p × AreLawfulValues q
AreLawfulValues (queries.Diff' s (more_of-Query p end_of-Query) s' (more_of-Query q end_of-Query)) = AreLawfulValues p × AreLawfulValues q

-- ---- tokens

spelled_lawful : (text : List ℕ) (v : Value) → SpellsValue text v → IsLawful v
spelled_lawful text (value.Text t) h = h.1
spelled_lawful text (value.Integer z) h = h.fits
spelled_lawful text (value.Binary b) (inl whole) = (decode_of-ok text b whole).3
spelled_lawful text (value.Binary b) (inr (digits, parts, marked)) = (decode_of-ok digits b marked).3
spelled_lawful text v h = tt

fitting_lawful : (k : Kind) (text : List ℕ) (v : Value) → IsText text → Fits k text v → IsLawful v
fitting_lawful kind.Text text v is h = subst IsLawful (sym h) is
fitting_lawful kind.Integer text v is h = spelled_lawful (unescaped kind.Integer text) v h.2
fitting_lawful kind.Decimal text v is h = spelled_lawful (unescaped kind.Decimal text) v h.2
fitting_lawful kind.Boolean text v is h = spelled_lawful (unescaped kind.Boolean text) v h.2
fitting_lawful kind.Date text v is h = spelled_lawful (unescaped kind.Date text) v h.2
fitting_lawful kind.Time text v is h = spelled_lawful (unescaped kind.Time text) v h.2
fitting_lawful kind.DateTime text v is h = spelled_lawful (unescaped kind.DateTime text) v h.2
fitting_lawful kind.Binary text v is h = spelled_lawful (unescaped kind.Binary text) v h.2

-- the value that a token has, if it has one, is lawful
abbrev HasLawful : Option Value → Type 0
HasLawful None = Unit {0}
HasLawful (Some v) = IsLawful v

none_lawful : (found : Option Value) → found ≡ None → HasLawful found
none_lawful found e = subst HasLawful (sym e) tt

found_lawful : (before : Option Kind) (t : Token) (ts after : List ℕ) (found : Option Value) → StandsToken t ts after → IsFitting before t found → HasLawful found
found_lawful (Some k) (Quoted text) ts after None s h = tt
found_lawful (Some k) (Quoted text) ts after (Some v) s h = fitting_lawful k text v (subst IsText (sym s.3.1) (scalars-chars s.0 s.3.0)) h
found_lawful (Some k) Open ts after found s h = none_lawful found h
found_lawful (Some k) Close ts after found s h = none_lawful found h
found_lawful (Some k) (Word name) ts after found s h = none_lawful found h
found_lawful None Open ts after found s h = none_lawful found h
found_lawful None Close ts after found s h = none_lawful found h
found_lawful None (Word name) ts after found s h = none_lawful found h
found_lawful None (Quoted text) ts after found s h = none_lawful found h

abbrev AreLawful : List Placed → Type 0
AreLawful ts = Each (λ t. HasLawful t.value) ts

tokens_lawful : {total : ℕ} {before : Option Kind} {ts rest : List ℕ} {found : List Placed} → Consists total before ts found rest → AreLawful found
tokens_lawful nothing = tt
tokens_lawful (between s h) = tokens_lawful h
tokens_lawful (token {before = before} {ts = ts} {after = after} {token = t} {value = found} s v h) = (found_lawful before t ts after found s v, tokens_lawful h)

-- ---- the grammar

-- the tokens behind one
behind : (ts r : List Placed) (t : Placed) → ts ≡ t ∷ r → AreLawful ts → AreLawful r
behind ts r t e h = (subst AreLawful e h).1

behind_name : (ts r : List Placed) (n : Name) → Spells name ts r n → AreLawful ts → AreLawful r
behind_name ts r n s h = behind ts r s.0 s.1 h

behind_names : {ts r : List Placed} {ns : List Name} → Repeats (Spells name) ts r ns → AreLawful ts → AreLawful r
behind_names no_repeat h = h
behind_names (one_more {ts = ts} {mid = mid} {v = n} s rest) h = behind_names rest (behind_name ts mid n s h)

module _ (part : Part Placed Query) (all : (ts r : List Placed) (q : Query) → Spells part ts r q → AreLawful ts → AreLawfulValues q × AreLawful r) where
  compared_lawful : (ts r : List Placed) (x : Query × Name × Value) → Spells (compared part) ts r x → AreLawful ts → (AreLawfulValues x.0 × IsLawful x.2) × AreLawful r
  compared_lawful ts r x s h =
      let part_is = all ts s.0 s.1 s.2 h in
      let named = behind_name s.0 s.3.0 s.3.1 s.3.2 part_is.1 in
      let worded = s.3.3.2 in
      let quoted = subst AreLawful worded.3.1 (behind s.3.0 worded.0 worded.2.0 worded.2.1 named) in
      let lawful = subst HasLawful worded.3.2 quoted.0 in (
        subst (λ (y : Query × Name × Value). AreLawfulValues y.0 × IsLawful y.2) (sym s.3.3.3.1) (part_is.0, lawful),
        subst AreLawful s.3.3.3.0 quoted.1,
      )

  named_lawful : (ts r : List Placed) (x : Query × Name) → Spells (named part) ts r x → AreLawful ts → AreLawfulValues x.0 × AreLawful r
  named_lawful ts r x s h =
      let part_is = all ts s.0 s.1 s.2 h in
      (subst (λ (y : Query × Name). AreLawfulValues y.0) (sym s.3.3.1) part_is.0, subst AreLawful s.3.3.0 (behind_name s.0 s.3.0 s.3.1 s.3.2 part_is.1))

  two_lawful : (ts r : List Placed) (x : Query × Query) → Spells (two part) ts r x → AreLawful ts → (AreLawfulValues x.0 × AreLawfulValues x.1) × AreLawful r
  two_lawful ts r x s h =
      let left = all ts s.0 s.1 s.2 h in
      let right = all s.0 s.3.0 s.3.1 s.3.2 left.1 in
      (subst (λ (y : Query × Query). AreLawfulValues y.0 × AreLawfulValues y.1) (sym s.3.3.1) (left.0, right.0), subst AreLawful s.3.3.0 right.1)

  operands_lawful : (o : Operator) (ts r : List Placed) (q : Query) → Spells (operands o part) ts r q → AreLawful ts → AreLawfulValues q × AreLawful r
  unfolding shape-the_row-Query-0 hidden-the_row-Query-0 hidden
  operands_lawful Table ts r q s h = (subst AreLawfulValues (sym s.3.1) tt, subst AreLawful s.3.0 (behind_name ts s.0 s.1 s.2 h))
  operands_lawful Null ts r q s h = (subst AreLawfulValues (sym s.3.1) tt, subst AreLawful s.3.0 (behind_name ts s.0 s.1 s.2 h))
  operands_lawful Eq ts r q s h = let k = compared_lawful ts s.0 s.1 s.2 h in (subst AreLawfulValues (sym s.3.1) k.0, subst AreLawful s.3.0 k.1)
  operands_lawful Ne ts r q s h = let k = compared_lawful ts s.0 s.1 s.2 h in (subst AreLawfulValues (sym s.3.1) k.0, subst AreLawful s.3.0 k.1)
  operands_lawful IsNull ts r q s h = let k = named_lawful ts s.0 s.1 s.2 h in (subst AreLawfulValues (sym s.3.1) k.0, subst AreLawful s.3.0 k.1)
  operands_lawful NotNull ts r q s h = let k = named_lawful ts s.0 s.1 s.2 h in (subst AreLawfulValues (sym s.3.1) k.0, subst AreLawful s.3.0 k.1)
  operands_lawful Project ts r q s h = let k = all ts s.0 s.1 s.2 h in (subst AreLawfulValues (sym s.3.3.1) k.0, subst AreLawful s.3.3.0 (behind_names s.3.2 k.1))
  operands_lawful Rename ts r q s h = let k = named_lawful ts s.0 s.1 s.2 h in (subst AreLawfulValues (sym s.3.3.1) k.0, subst AreLawful s.3.3.0 (behind_name s.0 s.3.0 s.3.1 s.3.2 k.1))
  operands_lawful Join ts r q s h = let k = two_lawful ts s.0 s.1 s.2 h in (subst AreLawfulValues (sym s.3.1) k.0, subst AreLawful s.3.0 k.1)
  operands_lawful Union ts r q s h = let k = two_lawful ts s.0 s.1 s.2 h in (subst AreLawfulValues (sym s.3.1) k.0, subst AreLawful s.3.0 k.1)
  operands_lawful Diff ts r q s h = let k = two_lawful ts s.0 s.1 s.2 h in (subst AreLawfulValues (sym s.3.1) k.0, subst AreLawful s.3.0 k.1)

within_lawful : (n : ℕ) (ts r : List Placed) (q : Query) → Spells (query_within n) ts r q → AreLawful ts → AreLawfulValues q × AreLawful r
unfolding query_within
within_lawful zero ts r q s h = absurd (let e = s.2 in cc e)
within_lawful (suc n) ts r q s h =
    let opened = behind ts s.0 s.2.0 s.2.1 h in
    let operator = behind s.0 s.3.0 s.3.2.0 s.3.2.1 opened in
    let found = s.3.3 in
    let k = operands_lawful (query_within n) (within_lawful n) s.3.1 s.3.0 found.0 found.1 found.2 operator in
    let closed = behind found.0 found.3.0 found.3.2.0 found.3.2.1 k.1 in
    (subst AreLawfulValues (sym found.3.3.1) k.0, subst AreLawful found.3.3.0 closed)

pub values_lawful : (bytes : List ℕ) (q : Query) → IsTextOfQuery bytes q → AreLawfulValues q
values_lawful bytes q h = (within_lawful h.3.0 h.0 [] q h.3.1 (tokens_lawful h.1)).0
