-- What is told of a node once its attributes are counted, and of a whole query.
use Rattle.std.proofs.Common.{◌≡◌, ◌∙◌, ◌⊎◌, ◌<◌, ◌≤◌, List, Result, Ok, Err, refl, sym, ap, subst, inl, inr, length}
use Rattle.std.specs.Prelude.{MatchResult}
use Rattle.members_dm.specs.Membership.{IsIn, IsRising}
use Rattle.schema_dm.specs.Naming.{Name}
use Rattle.schema_dm.specs.Shapes.{IsBefore}
use Rattle.schema_dm.specs.declared.table.Table.{Table as SchemaTable}
use Rattle.algebra_dm.specs.Attributes.{Lists}
use Rattle.algebra_dm.specs.Checking.{HasNone, IsAnswer, IsTold}
use Rattle.algebra_dm.specs.Nodes.{IsFaultless, IsFirstFault, nodes}
use Rattle.algebra_dm.specs.declared.error.QueryError.{QueryError}
use Rattle.algebra_dm.specs.declared.error.QueryError.TheVariants.{TooWide, Memory}
use Rattle.algebra_dm.specs.declared.known.Known.{Known}
use Rattle.algebra_dm.specs.declared.query.Mode.{Mode}
use Rattle.algebra_dm.specs.declared.query.Query.{Query}
use Rattle.algebra_dm.proofs.FirstLemmas.{fault_unique, faultless_first}

abbrev pub IsNarrow : Known → Result Known QueryError → Type 0
IsNarrow known r = MatchResult r (λ k. (k ≡ known) × (length known.attributes ≤ 1024)) (λ e. (e ≡ TooWide) × (1024 < length known.attributes))

pub told_narrow : (N L T U : Type 0) (A C : Name → Type 0) (known : Known) (r : Result Known QueryError) → IsNarrow known r → HasNone N L T U → Lists A known.attributes → Lists C known.certain → IsTold N L T U A C r
told_narrow N L T U A C known (Ok k) h none a c = subst (λ (z : Known). IsTold N L T U A C (Ok z)) (sym h.0) (none, a, c, h.1)
told_narrow N L T U A C known (Err e) h none a c = subst (λ (z : QueryError). IsTold N L T U A C (Err z)) (sym h.0) ((known.attributes, a, h.1), none)

pub own_list : (xs : List Name) → IsRising IsBefore xs → Lists (λ a. IsIn a xs) xs
own_list xs rise = record { rising = rise; exact = λ a. ((λ h. h), (λ h. h)) }

pub no_causes : HasNone ⊥ ⊥ ⊥ ⊥
no_causes = record { nothing = λ h. h; lacks = λ h. h; takes = λ h. h; unlike = λ h. h }

pub told_memory : (N L T U : Type 0) (A C : Name → Type 0) (e : QueryError) → e ≡ Memory → IsTold N L T U A C (Err e)
told_memory N L T U A C e is = subst (λ (z : QueryError). IsTold N L T U A C (Err z)) (sym is) tt

module _ (mode : Mode) (tables : List SchemaTable) (q : Query) where
  pub faultless_error : (e : QueryError) → IsFaultless tables q → IsAnswer mode tables q (Err e) → e ≡ Memory
  faultless_error e none (inl memory) = memory
  faultless_error e none (inr h) = absurd (faultless_first tables (nodes q) e none h)

  pub first_error : (e f : QueryError) → IsFirstFault tables (nodes q) e → IsAnswer mode tables q (Err f) → (f ≡ e) ⊎ (f ≡ Memory)
  first_error e f h (inl memory) = inr memory
  first_error e f h (inr k) = inl (fault_unique tables (nodes q) f e k h)

  pub no_first_error : (e : QueryError) (known : Known) → IsFirstFault tables (nodes q) e → IsAnswer mode tables q (Ok known) → ⊥
  no_first_error e known h k = faultless_first tables (nodes q) e k.0 h
