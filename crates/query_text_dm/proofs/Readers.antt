-- Each reader reads its part.
use Rattle.std.proofs.Common.{◌≡◌, ℕ, zero, suc, ◌≤◌, Bool, true, false, List, [], ◌∷◌, length, refl, ap, arith}
use Rattle.std.specs.Prelude.{is_some}
use Rattle.grammar_dm.specs.Part.{Part, Spells}
use Rattle.grammar_dm.specs.Part.Part.{give, repeated, then}
use Rattle.grammar_dm.proofs.Choices.{Sub, parted, repeated_reads, token_repeatable}
use Rattle.grammar_dm.proofs.Equations.{self_sub, then_sub}
use Rattle.grammar_dm.proofs.Laws.{Reads, closed_then, give_reads, no, then_give, then_reads, token_reads, token_then, token_then_blocked}
use Rattle.grammar_dm.proofs.Nesting.{levels_reads, never_reads, never_sub, nil_sub}
use Rattle.grammar_dm.proofs.Fronts.{behind_whole, suffix_length}
use Rattle.query_tokens_dm.specs.declared.token.Token.{Token}
use Rattle.query_tokens_dm.specs.declared.token.Token.TheVariants as tokens
use Rattle.query_tokens_dm.specs.declared.token.Placed.{Placed}
use Rattle.algebra_dm.specs.declared.query.Query.{Query}
use Rattle.query_text_dm.specs.declared.operator.Operator.{Operator}
use Rattle.query_text_dm.specs.declared.operator.Operator.TheVariants.{Table, Null, Eq, Ne, IsNull, NotNull, Project, Rename, Join, Union, Diff}
use Rattle.query_text_dm.specs.Grammar.{close, compared, name, named, open', operands, operator, query, query_within, two, value}
use Rattle.query_text_dm.specs.Reading.{Read, compared_at, diff_at, eq_at, inside_at, is_name, is_null_at, join_at, name_at, named_at, names_at, ne_at, not_null_at, null_at, operands_at, project_at, query_at, rename_at, table_at, two_at, union_at, value_at}
use Rattle.query_text_dm.specs.Words.{close_of, name_of}

abbrev is_close : Placed → Bool
is_close t = is_some (close_of t.token)

name_no_close : (t : Token) → is_some (name_of t) ≡ true → is_some (close_of t) ≡ false
name_no_close tokens.Open e = refl
name_no_close tokens.Close e = absurd cc
name_no_close (tokens.Word w) e = refl
name_no_close (tokens.Quoted w) e = refl

names_reads : (ts : List Placed) → Reads (repeated name) is_name ts (names_at ts)
unfolding names_at
names_reads ts = repeated_reads name is_name no is_name name_at (token_repeatable (λ (t : Placed). name_of t.token)) ts

value_reads : (ts : List Placed) → Reads value no ts (value_at ts)
unfolding value_at
value_reads ts = token_then _ _ no ts _ (λ _ a. token_reads _ no a)

-- a part that is read
module _ (part : Part Placed Query) (read : Read Query) (reads : (ts : List Placed) → Reads part no ts (read ts)) where
  compared_reads : (ts : List Placed) → Reads (compared part) no ts (compared_at read ts)
  unfolding compared_at
  compared_reads ts =
      closed_then part _ no ts _ _ (reads ts) (λ p a.
      token_then _ _ no a _ (λ n b.
      closed_then value _ no b _ _ (value_reads b) (λ v c. give_reads _ no c)))

  named_reads : (ts : List Placed) → Reads (named part) no ts (named_at read ts)
  unfolding named_at
  named_reads ts =
      closed_then part _ no ts _ _ (reads ts) (λ p a.
      token_then _ _ no a _ (λ n b. give_reads _ no b))

  two_reads : (ts : List Placed) → Reads (two part) no ts (two_at read ts)
  unfolding two_at
  two_reads ts =
      closed_then part _ no ts _ _ (reads ts) (λ p a.
      closed_then part _ no a _ _ (reads a) (λ q b. give_reads _ no b))

  project_reads : (ts : List Placed) → Reads (operands Project part) is_name ts (project_at read ts)
  unfolding project_at
  project_reads ts =
      closed_then part _ is_name ts _ _ (reads ts) (λ p a.
      then_give (repeated name) _ is_name a _ (names_reads a))

  operands_reads : (o : Operator) (ts : List Placed) → Reads (operands o part) is_name ts (operands_at o read ts)
  unfolding table_at null_at eq_at ne_at is_null_at not_null_at rename_at join_at union_at diff_at
  operands_reads Table ts = token_then _ _ is_name ts _ (λ _ a. give_reads _ is_name a)
  operands_reads Null ts = token_then _ _ is_name ts _ (λ _ a. give_reads _ is_name a)
  operands_reads Eq ts = closed_then (compared part) _ is_name ts _ _ (compared_reads ts) (λ x a. give_reads _ is_name a)
  operands_reads Ne ts = closed_then (compared part) _ is_name ts _ _ (compared_reads ts) (λ x a. give_reads _ is_name a)
  operands_reads IsNull ts = closed_then (named part) _ is_name ts _ _ (named_reads ts) (λ x a. give_reads _ is_name a)
  operands_reads NotNull ts = closed_then (named part) _ is_name ts _ _ (named_reads ts) (λ x a. give_reads _ is_name a)
  operands_reads Project ts = project_reads ts
  operands_reads Rename ts = closed_then (named part) _ is_name ts _ _ (named_reads ts) (λ x a. token_then _ _ is_name a _ (λ to b. give_reads _ is_name b))
  operands_reads Join ts = closed_then (two part) _ is_name ts _ _ (two_reads ts) (λ x a. give_reads _ is_name a)
  operands_reads Union ts = closed_then (two part) _ is_name ts _ _ (two_reads ts) (λ x a. give_reads _ is_name a)
  operands_reads Diff ts = closed_then (two part) _ is_name ts _ _ (two_reads ts) (λ x a. give_reads _ is_name a)

  inside_reads : (ts : List Placed) → Reads (then operator (λ o. then (operands o part) (λ q. then close (λ _. give q)))) no ts (inside_at read ts)
  unfolding inside_at
  inside_reads ts =
      token_then _ _ no ts _ (λ o a.
      then_reads (operands o part) _ is_name no a _ _ (operands_reads o a)
      (λ q b _. token_then _ _ no b _ (λ _ c. give_reads _ no c))
      (λ q b g. token_then_blocked _ _ no b (parted is_name is_close (λ t. name_no_close t.token) b g)))

query_reads : (n : ℕ) (ts : List Placed) → Reads (query_within n) no ts (query_at n ts)
unfolding query_within query_at
query_reads zero ts = never_reads no ts
query_reads (suc n) ts = token_then _ _ no ts _ (λ _ a. inside_reads (query_within n) (query_at n) (query_reads n) a)

-- ---- more levels than tokens change nothing

-- a part and one like it, where not so many tokens are left
module _ (n m k : ℕ) (sub : (ts : List Placed) → length ts ≤ k → Sub (query_within n) (query_within m) ts) where
  behind : (ts mid : List Placed) (q : Query) → length ts ≤ k → Spells (query_within n) ts mid q → length mid ≤ k
  behind ts mid q le s = let shorter = suffix_length (behind_whole (query_within n) ts mid q s) in omega (arith, le, shorter)

  first_sub : {A : Type 0} (b : Query → Part Placed A) (ts : List Placed) → length ts ≤ k → Sub (then (query_within n) b) (then (query_within m) b) ts
  first_sub b ts le = then_sub (query_within n) (query_within m) b b ts (sub ts le) (λ p a s. self_sub (b p) a)

  two_sub : (ts : List Placed) → length ts ≤ k → Sub (two (query_within n)) (two (query_within m)) ts
  two_sub ts le =
      then_sub (query_within n) (query_within m) _ _ ts (sub ts le) (λ p a s. first_sub _ a (behind ts a p le s))

  operands_sub : (o : Operator) (ts : List Placed) → length ts ≤ k → Sub (operands o (query_within n)) (operands o (query_within m)) ts
  operands_sub Table ts le = self_sub _ ts
  operands_sub Null ts le = self_sub _ ts
  operands_sub Eq ts le = then_sub (compared (query_within n)) (compared (query_within m)) _ _ ts (first_sub _ ts le) (λ x a s. self_sub _ a)
  operands_sub Ne ts le = then_sub (compared (query_within n)) (compared (query_within m)) _ _ ts (first_sub _ ts le) (λ x a s. self_sub _ a)
  operands_sub IsNull ts le = then_sub (named (query_within n)) (named (query_within m)) _ _ ts (first_sub _ ts le) (λ x a s. self_sub _ a)
  operands_sub NotNull ts le = then_sub (named (query_within n)) (named (query_within m)) _ _ ts (first_sub _ ts le) (λ x a s. self_sub _ a)
  operands_sub Project ts le = first_sub _ ts le
  operands_sub Rename ts le = then_sub (named (query_within n)) (named (query_within m)) _ _ ts (first_sub _ ts le) (λ x a s. self_sub _ a)
  operands_sub Join ts le = then_sub (two (query_within n)) (two (query_within m)) _ _ ts (two_sub ts le) (λ x a s. self_sub _ a)
  operands_sub Union ts le = then_sub (two (query_within n)) (two (query_within m)) _ _ ts (two_sub ts le) (λ x a s. self_sub _ a)
  operands_sub Diff ts le = then_sub (two (query_within n)) (two (query_within m)) _ _ ts (two_sub ts le) (λ x a s. self_sub _ a)

levels_sub : (m n : ℕ) (ts : List Placed) → length ts ≤ m → Sub (query_within n) (query_within m) ts
unfolding query_within
levels_sub m zero ts le = never_sub (query_within m) ts
levels_sub zero (suc n) [] le = nil_sub _ _ _
levels_sub zero (suc n) (t ∷ ts) le = absurd (omega (arith, le))
levels_sub (suc m) (suc n) ts le =
    then_sub open' open' _ _ ts (self_sub _ ts) (λ _ a s.
    then_sub operator operator _ _ a (self_sub _ a) (λ o b r.
    then_sub (operands o (query_within n)) (operands o (query_within m)) _ _ b
    (operands_sub n m m (levels_sub m n) o b (omega (arith, le, ap length s.1, ap length r.1))) (λ q c u. self_sub _ c)))

pub query_read : (ts : List Placed) → Reads query no ts (query_at (length ts) ts)
query_read ts = levels_reads query_within no (length ts) ts _ (λ m. levels_sub (length ts) m ts (omega arith)) (query_reads (length ts) ts)
