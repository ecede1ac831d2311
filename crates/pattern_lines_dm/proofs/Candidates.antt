-- All solutions of a pattern over triples stand in a list.
use Rattle.std.proofs.Common.{◌≡◌, ◌∙◌, ℕ, List, [], ◌∷◌, ◌++◌, Some, None, Bool, true, false, cond, refl, sym, subst, inl, ⊎_elim, map}
use Rattle.std.specs.List.{flat_map}
use Rattle.std.specs.Str.{bytes_eq}
use Rattle.std.proofs.lemmas.Bool.{both_ways}
use Rattle.std.proofs.lemmas.Slice.Eq.{bytes_eq-Decides}
use Rattle.members_dm.specs.Membership.{IsIn}
use Rattle.members_dm.proofs.MembershipLemmas.{IsIn-back, IsIn-front, map-IsIn}
use Rattle.names_dm.specs.Statements.{Statement}
use Rattle.names_dm.specs.declared.term.Term.TheVariants as terms
use Rattle.pattern_dm.specs.Mappings.{Mapping, union}
use Rattle.pattern_dm.specs.Operators.{renamed}
use Rattle.pattern_dm.specs.Says.{value_of}
use Rattle.pattern_dm.specs.Solution.{BindsNoOther, IsVariable, Makes, Solution}
use Rattle.pattern_dm.specs.declared.pattern.Operand.{Operand}
use Rattle.pattern_dm.specs.declared.pattern.Operand.TheVariants as operands
use Rattle.pattern_dm.specs.declared.pattern.Pattern.{Pattern, end_of-Pattern, more_of-Pattern}
use Rattle.pattern_dm.specs.declared.pattern.Pattern.TheVariants.{Empty, Triple, And', LeftJoin', Union', Minus', Filter', Select'}
use Rattle.pattern_dm.proofs.Bridge.{same_mapping}
use Rattle.query_lines_dm.proofs.Choices.{in_flat}
use Rattle.pattern_lines_dm.specs.Lines.{StandsIn}

-- ---- the mapping of a triple

abbrev is_variable : Operand → List ℕ → Bool
is_variable (operands.Var y) x = bytes_eq y x
is_variable (operands.Iri i) x = false
is_variable (operands.Literal l) x = false

bound_there : (q : Operand) (x : List ℕ) (m : Mapping) → is_variable q x ≡ true → m x ≡ value_of q m
bound_there (operands.Var y) x m e = (let is : y ≡ x = (bytes_eq-Decides y x).0 e in subst (λ (z : List ℕ). m z ≡ m y) is refl)
bound_there (operands.Iri i) x m e = absurd (both_ways false refl e)
bound_there (operands.Literal l) x m e = absurd (both_ways false refl e)

no_variable : (q : Operand) (x : List ℕ) → is_variable q x ≡ false → ¬ IsVariable q x
no_variable (operands.Var y) x e is = both_ways (bytes_eq y x) e ((bytes_eq-Decides y x).1 is)
no_variable (operands.Iri i) x e is = is
no_variable (operands.Literal l) x e is = is

module _ (s p o : Operand) where
  -- each operand that is a variable is bound to the term of the triple in its place
  abbrev mapping_of : Statement → Mapping
  mapping_of t x = cond (is_variable s x) (Some t.subject) (cond (is_variable p x) (Some (terms.Iri t.predicate)) (cond (is_variable o x) (Some t.object) None))

  mapping_is : (t : Statement) (m : Mapping) → Makes s p o m t → BindsNoOther s p o m → (x : List ℕ) → m x ≡ mapping_of t x
  mapping_is t m makes others x = go (is_variable s x) (is_variable p x) (is_variable o x) refl refl refl
    where
      go : (u v w : Bool) → is_variable s x ≡ u → is_variable p x ≡ v → is_variable o x ≡ w → m x ≡ cond u (Some t.subject) (cond v (Some (terms.Iri t.predicate)) (cond w (Some t.object) None))
      go true v w i j k = bound_there s x m i ∙ makes.0
      go false true w i j k = bound_there p x m j ∙ makes.1
      go false false true i j k = bound_there o x m k ∙ makes.2
      go false false false i j k = others x (no_variable s x i) (no_variable p x j) (no_variable o x k)

-- ---- lists of mappings

-- a mapping that is one of a list at each variable stands in it
listed : (m n : Mapping) (list : List Mapping) → ((x : List ℕ) → m x ≡ n x) → IsIn n list → IsIn m list
listed m n list e h = subst (λ (k : Mapping). IsIn k list) (sym (same_mapping m n e)) h

-- the unions of a mapping of each list
abbrev unions : List Mapping → List Mapping → List Mapping
unions left right = flat_map (λ (u : Mapping). map (λ (v : Mapping). union u v) right) left

in_unions : (left right : List Mapping) (u v : Mapping) → IsIn u left → IsIn v right → IsIn (union u v) (unions left right)
in_unions left right u v h k = in_flat (λ (u : Mapping). map (λ (v : Mapping). union u v) right) left u (union u v) h (map-IsIn (λ (v : Mapping). union u v) v right k)

module _ (triples : List Statement) where
  pub record Bound (p : Pattern) : Type 0 where
    pub mappings : List Mapping
    pub all : (m : Mapping) → Solution (StandsIn triples) p m → IsIn m mappings

  pub bound : (p : Pattern) → Bound p
  bound Empty = record { mappings = (λ x. None) ∷ []; all = λ m h. listed m (λ x. None) ((λ x. None) ∷ []) h (inl refl) }
  bound (Triple s p o) = record {
    mappings = map (mapping_of s p o) triples;
    all = λ m h. listed m (mapping_of s p o h.0) (map (mapping_of s p o) triples) (mapping_is s p o h.0 m h.2 h.3) (map-IsIn (mapping_of s p o) h.0 triples h.1);
  }
  bound (And' a (more_of-Pattern p end_of-Pattern) b (more_of-Pattern q end_of-Pattern)) =
      let left = bound p in
      let right = bound q in
      record {
        mappings = unions left.mappings right.mappings;
        all = λ m h. listed m (union h.0 h.1) (unions left.mappings right.mappings) h.5 (in_unions left.mappings right.mappings h.0 h.1 (left.all h.0 h.2) (right.all h.1 h.3));
      }
  bound (LeftJoin' a (more_of-Pattern p end_of-Pattern) b (more_of-Pattern q end_of-Pattern) f) =
      let left = bound p in
      let right = bound q in
      let both : List Mapping = unions left.mappings right.mappings in
      record {
        mappings = both ++ left.mappings;
        all = λ m. ⊎_elim
            (λ h. IsIn-front m both left.mappings (listed m (union h.0 h.1) both h.6 (in_unions left.mappings right.mappings h.0 h.1 (left.all h.0 h.2) (right.all h.1 h.3))))
            (λ h. IsIn-back m both left.mappings (left.all m h.0));
      }
  bound (Union' a (more_of-Pattern p end_of-Pattern) b (more_of-Pattern q end_of-Pattern)) =
      let left = bound p in
      let right = bound q in
      record {
        mappings = left.mappings ++ right.mappings;
        all = λ m. ⊎_elim (λ h. IsIn-front m left.mappings right.mappings (left.all m h)) (λ h. IsIn-back m left.mappings right.mappings (right.all m h));
      }
  bound (Minus' a (more_of-Pattern p end_of-Pattern) b (more_of-Pattern q end_of-Pattern)) = let left = bound p in record { mappings = left.mappings; all = λ m h. left.all m h.0 }
  bound (Filter' a (more_of-Pattern p end_of-Pattern) f) = let part = bound p in record { mappings = part.mappings; all = λ m h. part.all m h.0 }
  bound (Select' a (more_of-Pattern p end_of-Pattern) rs) =
      let part = bound p in
      record {
        mappings = map (renamed rs) part.mappings;
        all = λ m h. listed m (renamed rs h.0) (map (renamed rs) part.mappings) h.2 (map-IsIn (renamed rs) h.0 part.mappings (part.all h.0 h.1));
      }
