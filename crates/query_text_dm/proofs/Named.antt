-- No name in a query that was read is empty.
use Rattle.std.proofs.Common.{◌≡◌, ℕ, zero, suc, List, [], ◌∷◌, ◌++◌, Some, ap, inl, inr, refl, subst, sym}
use denote.Hole.Carrier.{hidden}
use Rattle.grammar_dm.specs.Part.{Part, Repeats, Spells}
use Rattle.grammar_dm.specs.Part.Repeats.{no_repeat, one_more}
use Rattle.members_dm.specs.Elements.{Each}
use Rattle.members_dm.specs.Membership.{IsIn}
use Rattle.value_dm.specs.declared.value.Value.{Value}
use Rattle.schema_dm.specs.Naming.{Name}
use Rattle.query_tokens_dm.specs.declared.token.Token.{Token}
use Rattle.query_tokens_dm.specs.declared.token.Token.TheVariants as tokens
use Rattle.query_tokens_dm.specs.declared.token.Placed.{Placed}
use Rattle.algebra_dm.specs.declared.query.Query.{Query}
use Rattle.algebra_dm.specs.declared.query.Query.TheVariants as queries
use Rattle.algebra_dm.specs.declared.query.Query.TheBlock.{shape-the_row-Query-0, hidden-the_row-Query-0}
use Rattle.algebra_dm.specs.Nodes.{names_at, nodes}
use Rattle.algebra_dm.proofs.FirstLemmas.{Each-append}
use Rattle.algebra_dm.proofs.TreeLemmas.{OnePart, TwoParts, diff_parts, eq_part, is_null_part, join_parts, ne_part, not_null_part, project_part, rename_part, union_parts}
use Rattle.query_text_dm.specs.declared.operator.Operator.{Operator}
use Rattle.query_text_dm.specs.declared.operator.Operator.TheVariants.{Table, Null, Eq, Ne, IsNull, NotNull, Project, Rename, Join, Union, Diff}
use Rattle.query_text_dm.specs.Grammar.{compared, name, named, operands, query, query_within, two}
use Rattle.query_text_dm.specs.Words.{name_of, some_name}

-- no name at the outermost node is empty
abbrev HasNames : Query → Type 0
HasNames q = ¬ IsIn [] (names_at q)

abbrev AreNamed : Query → Type 0
AreNamed q = Each HasNames (nodes q)

name_some : (text n : Name) → some_name text ≡ Some n → ¬ (n ≡ [])
name_some [] n e h = absurd (let k = e in cc k)
name_some (c ∷ cs) n e h = absurd (let k = e in cc (k, h))

token_named : (t : Token) (n : Name) → name_of t ≡ Some n → ¬ (n ≡ [])
token_named tokens.Open n e h = absurd (let k = e in cc k)
token_named tokens.Close n e h = absurd (let k = e in cc k)
token_named (tokens.Word text) n e h = name_some text n e h
token_named (tokens.Quoted text) n e h = name_some text n e h

name_named : (ts r : List Placed) (n : Name) → Spells name ts r n → ¬ (n ≡ [])
name_named ts r n s = token_named s.0.token n s.2

names_named : {ts r : List Placed} {ns : List Name} → Repeats (Spells name) ts r ns → ¬ IsIn [] ns
names_named no_repeat h = h
names_named (one_more {ts = ts} {mid = mid} {v = n} s rest) (inl e) = name_named ts mid n s e
names_named (one_more s rest) (inr h) = names_named rest h

one_lacks : (n : Name) → ¬ (n ≡ []) → ¬ IsIn [] (n ∷ [])
one_lacks n h (inl e) = h e
one_lacks n h (inr k) = k

two_lack : (m n : Name) → ¬ (m ≡ []) → ¬ (n ≡ []) → ¬ IsIn [] (m ∷ n ∷ [])
two_lack m n h k (inl e) = h e
two_lack m n h k (inr r) = one_lacks n k r

one_named : (q p : Query) → OnePart q p → AreNamed p → HasNames q → AreNamed q
one_named q p e h k = subst (λ (qs : List Query). Each HasNames qs) (sym e) (Each-append HasNames (nodes p) (q ∷ []) h (k, tt))

two_named : (q a b : Query) → TwoParts q a b → AreNamed a → AreNamed b → HasNames q → AreNamed q
two_named q a b e h k own = subst (λ (qs : List Query). Each HasNames qs) (sym e) (Each-append HasNames (nodes a ++ nodes b) (q ∷ []) (Each-append HasNames (nodes a) (nodes b) h k) (own, tt))

-- names at the outermost node of a query that is made so
at_one : (q : Query) (n : Name) → names_at q ≡ n ∷ [] → ¬ (n ≡ []) → HasNames q
at_one q n e h k = one_lacks n h (subst (λ (ns : List Name). IsIn [] ns) e k)

at_none : (q : Query) → names_at q ≡ [] → HasNames q
at_none q e k = subst (λ (ns : List Name). IsIn [] ns) e k

module _ (part : Part Placed Query) (all : (ts r : List Placed) (q : Query) → Spells part ts r q → AreNamed q) where
  compared_named : (ts r : List Placed) (x : Query × Name × Value) → Spells (compared part) ts r x → AreNamed x.0 × (¬ (x.1 ≡ []))
  compared_named ts r x s =
      let is = s.3.3.3.1 in (
        subst (λ (q : Query). AreNamed q) (sym (ap (λ (y : Query × Name × Value). y.0) is)) (all ts s.0 s.1 s.2),
        subst (λ (n : Name). ¬ (n ≡ [])) (sym (ap (λ (y : Query × Name × Value). y.1) is)) (name_named s.0 s.3.0 s.3.1 s.3.2),
      )

  named_named : (ts r : List Placed) (x : Query × Name) → Spells (named part) ts r x → AreNamed x.0 × (¬ (x.1 ≡ []))
  named_named ts r x s =
      let is = s.3.3.1 in (
        subst (λ (q : Query). AreNamed q) (sym (ap (λ (y : Query × Name). y.0) is)) (all ts s.0 s.1 s.2),
        subst (λ (n : Name). ¬ (n ≡ [])) (sym (ap (λ (y : Query × Name). y.1) is)) (name_named s.0 s.3.0 s.3.1 s.3.2),
      )

  parts_named : (ts r : List Placed) (x : Query × Query) → Spells (two part) ts r x → AreNamed x.0 × AreNamed x.1
  parts_named ts r x s =
      let is = s.3.3.1 in (
        subst (λ (q : Query). AreNamed q) (sym (ap (λ (y : Query × Query). y.0) is)) (all ts s.0 s.1 s.2),
        subst (λ (q : Query). AreNamed q) (sym (ap (λ (y : Query × Query). y.1) is)) (all s.0 s.3.0 s.3.1 s.3.2),
      )

  operands_named : (o : Operator) (ts r : List Placed) (q : Query) → Spells (operands o part) ts r q → AreNamed q
  unfolding shape-the_row-Query-0 hidden-the_row-Query-0 hidden
  operands_named Table ts r q s = subst (λ (x : Query). AreNamed x) (sym s.3.1) (at_one (queries.Table s.1) s.1 refl (name_named ts s.0 s.1 s.2), tt)
  operands_named Null ts r q s = subst (λ (x : Query). AreNamed x) (sym s.3.1) (at_one (queries.Null s.1) s.1 refl (name_named ts s.0 s.1 s.2), tt)
  operands_named Eq ts r q s = let x = s.1 in let k = compared_named ts s.0 x s.2 in one_named q x.0 (eq_part q x.0 x.1 x.2 s.3.1) k.0 (at_one q x.1 (ap names_at s.3.1) k.1)
  operands_named Ne ts r q s = let x = s.1 in let k = compared_named ts s.0 x s.2 in one_named q x.0 (ne_part q x.0 x.1 x.2 s.3.1) k.0 (at_one q x.1 (ap names_at s.3.1) k.1)
  operands_named IsNull ts r q s = let x = s.1 in let k = named_named ts s.0 x s.2 in one_named q x.0 (is_null_part q x.0 x.1 s.3.1) k.0 (at_one q x.1 (ap names_at s.3.1) k.1)
  operands_named NotNull ts r q s = let x = s.1 in let k = named_named ts s.0 x s.2 in one_named q x.0 (not_null_part q x.0 x.1 s.3.1) k.0 (at_one q x.1 (ap names_at s.3.1) k.1)
  operands_named Project ts r q s =
      one_named q s.1 (project_part q s.1 s.3.1 s.3.3.1) (all ts s.0 s.1 s.2) (λ h. names_named s.3.2 (subst (λ (ns : List Name). IsIn [] ns) (ap names_at s.3.3.1) h))
  operands_named Rename ts r q s =
      let x = s.1 in
      let k = named_named ts s.0 x s.2 in
      one_named q x.0 (rename_part q x.0 x.1 s.3.1 s.3.3.1) k.0 (λ h. two_lack x.1 s.3.1 k.1 (name_named s.0 s.3.0 s.3.1 s.3.2) (subst (λ (ns : List Name). IsIn [] ns) (ap names_at s.3.3.1) h))
  operands_named Join ts r q s = let x = s.1 in let k = parts_named ts s.0 x s.2 in two_named q x.0 x.1 (join_parts q x.0 x.1 s.3.1) k.0 k.1 (at_none q (ap names_at s.3.1))
  operands_named Union ts r q s = let x = s.1 in let k = parts_named ts s.0 x s.2 in two_named q x.0 x.1 (union_parts q x.0 x.1 s.3.1) k.0 k.1 (at_none q (ap names_at s.3.1))
  operands_named Diff ts r q s = let x = s.1 in let k = parts_named ts s.0 x s.2 in two_named q x.0 x.1 (diff_parts q x.0 x.1 s.3.1) k.0 k.1 (at_none q (ap names_at s.3.1))

within_named : (n : ℕ) (ts r : List Placed) (q : Query) → Spells (query_within n) ts r q → AreNamed q
unfolding query_within
within_named zero ts r q s = absurd (let e = s.2 in cc e)
within_named (suc n) ts r q s =
    let found = s.3.3 in
    subst (λ (x : Query). AreNamed x) (sym found.3.3.1) (operands_named (query_within n) (within_named n) s.3.1 s.3.0 found.0 found.1 found.2)

pub read_named : (ts : List Placed) (q : Query) → Spells query ts [] q → Each (λ node. ¬ IsIn [] (names_at node)) (nodes q)
read_named ts q s = within_named s.0 ts [] q s.1
