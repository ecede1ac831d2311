-- The patterns of operators and tables are well-formed.
use Rattle.std.proofs.Common.{◌≡◌, ◌≢◌, ◌∙◌, ◌||◌, ℕ, List, [], ◌∷◌, false, drop, map, refl, ap, inl, inr}
use Rattle.std.proofs.lemmas.Bool.{false_from_ne_true}
use Rattle.std.proofs.lemmas.Slice.Eq.{bytes_eq-Decides}
use denote.Hole.Carrier.{hidden}
use Rattle.std.specs.Str.{bytes_eq}
use Rattle.members_dm.specs.Membership.{IsIn, NoRepeats}
use Rattle.members_dm.proofs.MembershipLemmas.{rising-NoRepeats}
use Rattle.names_dm.specs.Variables.{variable_of}
use Rattle.names_dm.proofs.VariableLaws.{variable_of-injective}
use Rattle.schema_dm.specs.Naming.{Name}
use Rattle.algebra_dm.specs.Attributes.{Lists}
use Rattle.algebra_dm.proofs.RisingLemmas.{one_way}
use Rattle.schema_dm.specs.Shapes.{IsBefore}
use Rattle.solutions_dm.specs.Selects.{AreTargetsApart, is_target}
use Rattle.solutions_dm.specs.declared.selects.Rename.{Rename}
use Rattle.pattern_dm.specs.Formed.{AreSelectable, IsWellFormed}
use Rattle.pattern_dm.specs.declared.pattern.Condition.{Condition}
use Rattle.pattern_dm.specs.declared.pattern.Condition.TheVariants as conditions
use Rattle.pattern_dm.specs.declared.pattern.Pattern.{Pattern}
use Rattle.pattern_dm.specs.declared.pattern.Pattern.TheVariants as patterns
use Rattle.pattern_dm.specs.declared.pattern.Pattern.TheBlock.{shape-the_row-Pattern-0, hidden-the_row-Pattern-0}
use Rattle.keeping_dm.specs.Guards.{guarded, joined, new_names, old_name, right_names, right_variable, same_names, where_bound}
use Rattle.table_patterns_dm.specs.TablePatterns.{column_triple, with_columns, with_optional}

-- ---- lists of renames

module _ (f g : Name → List ℕ) (apart : (a b : Name) → g a ≡ g b → a ≡ b) where
  abbrev pick : Name → Rename
  pick a = record { from = f a; to = g a }

  no_target : (a : Name) (names : List Name) → ¬ IsIn a names → is_target (map pick names) (g a) ≡ false
  no_target a [] n = refl
  no_target a (b ∷ names) n =
      ap (λ c. c || is_target (map pick names) (g a)) (false_from_ne_true (bytes_eq (g b) (g a)) (λ s. n (inl (apart b a ((bytes_eq-Decides (g b) (g a)).0 s)))))
      ∙ no_target a names (λ i. n (inr i))

  targets_apart : (names : List Name) → NoRepeats names → AreTargetsApart (map pick names)
  targets_apart [] once = tt
  targets_apart (a ∷ names) once = (no_target a names once.0, targets_apart names once.1)

  some_renames : (names : List Name) → names ≢ [] → map pick names ≢ []
  some_renames [] n e = n refl
  some_renames (a ∷ names) n e = (cc e)

  pub selectable : (P : Name → Type 0) (names : List Name) → Lists P names → names ≢ [] → AreSelectable (map pick names)
  selectable P names are some = (some_renames names some, targets_apart names (rising-NoRepeats IsBefore one_way names are.rising))

right_apart : (a b : Name) → right_variable a ≡ right_variable b → a ≡ b
right_apart a b e = variable_of-injective a b (ap (λ (x : List ℕ). drop 2 x) e)

module _ (P : Name → Type 0) (names : List Name) (are : Lists P names) (some : names ≢ []) where
  pub same_selectable : AreSelectable (same_names names)
  same_selectable = selectable variable_of variable_of variable_of-injective P names are some

  pub new_selectable : (from to : Name) → AreSelectable (new_names from to names)
  new_selectable from to = selectable (λ a. variable_of (old_name from to a)) variable_of variable_of-injective P names are some

  right_selectable : AreSelectable (right_names names)
  right_selectable = selectable variable_of right_variable right_apart P names are some

  -- ---- selections

  pub project_formed : (p : Pattern) → IsWellFormed p → IsWellFormed (patterns.Select p (same_names names))
  unfolding shape-the_row-Pattern-0 hidden-the_row-Pattern-0 hidden
  project_formed p h = (h, same_selectable)

  pub rename_formed : (from to : Name) (p : Pattern) → IsWellFormed p → IsWellFormed (patterns.Select p (new_names from to names))
  unfolding shape-the_row-Pattern-0 hidden-the_row-Pattern-0 hidden
  rename_formed from to p h = (h, new_selectable from to)

  pub guarded_formed : (class : List ℕ) (p q : Pattern) → IsWellFormed p → IsWellFormed q → IsWellFormed (guarded names class p q)
  unfolding shape-the_row-Pattern-0 hidden-the_row-Pattern-0 hidden
  guarded_formed class p q h k = ((h, ((k, right_selectable), tt)), same_selectable)

-- ---- the other operators

pub filter_formed : (p : Pattern) (f : Condition) → IsWellFormed p → IsWellFormed (patterns.Filter p f)
unfolding shape-the_row-Pattern-0 hidden-the_row-Pattern-0 hidden
filter_formed p f h = h

pub union_formed : (p q : Pattern) → IsWellFormed p → IsWellFormed q → IsWellFormed (patterns.Union p q)
unfolding shape-the_row-Pattern-0 hidden-the_row-Pattern-0 hidden
union_formed p q h k = (h, k)

pub minus_formed : (p q : Pattern) → IsWellFormed p → IsWellFormed q → IsWellFormed (patterns.Minus p q)
unfolding shape-the_row-Pattern-0 hidden-the_row-Pattern-0 hidden
minus_formed p q h k = (h, k)

where_formed : (names : List Name) (p : Pattern) → IsWellFormed p → IsWellFormed (where_bound names p)
unfolding shape-the_row-Pattern-0 hidden-the_row-Pattern-0 hidden
where_formed [] p h = h
where_formed (a ∷ names) p h = h

pub join_formed : (names : List Name) (p q : Pattern) → IsWellFormed p → IsWellFormed q → IsWellFormed (joined names p q)
unfolding shape-the_row-Pattern-0 hidden-the_row-Pattern-0 hidden
join_formed names p q h k = (where_formed names p h, where_formed names q k)

-- ---- tables

module _ (base : List ℕ) (table : Name) where
  pub columns_formed : (p : Pattern) (names : List Name) → IsWellFormed p → IsWellFormed (with_columns base table p names)
  unfolding shape-the_row-Pattern-0 hidden-the_row-Pattern-0 hidden
  columns_formed p [] h = h
  columns_formed p (c ∷ cs) h = columns_formed (patterns.And p (column_triple base table c)) cs (h, tt)

  pub optional_formed : (p : Pattern) (names : List Name) → IsWellFormed p → IsWellFormed (with_optional base table p names)
  unfolding shape-the_row-Pattern-0 hidden-the_row-Pattern-0 hidden
  optional_formed p [] h = h
  optional_formed p (c ∷ cs) h = optional_formed (patterns.LeftJoin p (column_triple base table c) conditions.True) cs (h, tt)
