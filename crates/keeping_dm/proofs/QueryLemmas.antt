-- Each operator of queries over a database keeps answers, by its parts.
use Rattle.std.proofs.Common.{◌≡◌, ◌≢◌, ◌∙◌, ◌⊎◌, ◌↔◌, ◌++◌, ◌<◌, ℕ, List, [], ◌∷◌, Some, None, Bool, true, false, refl, sym, subst, inl, inr, ⊎_elim, cond, map, length, arith}
use Rattle.std.specs.Str.{bytes_eq}
use Rattle.std.proofs.lemmas.Slice.Eq.{bytes_eq-Decides}
use Rattle.members_dm.specs.Membership.{IsIn}
use Rattle.members_dm.proofs.ElementsLemmas.{one_by_key}
use Rattle.members_dm.proofs.MembershipLemmas.{IsIn-append, IsIn-back, IsIn-front, IsIn-map, map-IsIn}
use Rattle.value_dm.specs.Lawful.{IsLawful}
use Rattle.value_dm.specs.declared.value.Value.{Value}
use Rattle.names_dm.specs.Statements.{Statement}
use Rattle.names_dm.specs.declared.term.Term.{Term}
use Rattle.names_dm.specs.declared.term.Term.TheVariants as terms
use Rattle.facts_dm.specs.Vocabulary.{word_iri}
use Rattle.facts_dm.specs.declared.word.Word.TheVariants.{RdfType}
use Rattle.schema_dm.specs.Naming.{Name, column_names}
use Rattle.schema_dm.specs.Schemas.{IsSchema}
use Rattle.schema_dm.specs.declared.draft.Column.{Column}
use Rattle.schema_dm.specs.declared.table.Table.{Table as SchemaTable}
use Rattle.table_csv.specs.Databases.{Data, IsDatabase}
use Rattle.algebra_dm.specs.Attributes.{HasAttribute, HasTable}
use Rattle.algebra_dm.specs.Causes.{HasNoCause, HaveSame}
use Rattle.algebra_dm.specs.Certain.{IsCertain, KeepsKeysOf}
use Rattle.algebra_dm.specs.Nodes.{IsFaultless}
use Rattle.algebra_dm.specs.Tuples.{Tuple, IsProjection, IsRenamed, IsTuple, Match, first_of}
use Rattle.algebra_dm.specs.declared.query.Mode.{Mode}
use Rattle.algebra_dm.specs.declared.query.Query.{Query, end_of-Query, more_of-Query}
use Rattle.algebra_dm.specs.declared.query.Query.TheVariants.{Table, Null, Eq', Ne', IsNull', NotNull', Project', Rename', Join', Union', Diff'}
use Rattle.algebra_dm.proofs.NeverNull.{never_null}
use Rattle.query_rows_dm.proofs.RowLemmas.{in_or_not}
use Rattle.pattern_dm.specs.declared.pattern.Pattern.{Pattern}
use Rattle.pattern_dm.specs.declared.pattern.Pattern.TheVariants as patterns
use Rattle.keeping_dm.specs.Guards.{guarded, is_bound, is_other_value, is_unbound, is_value, joined, new_names, same_names}
use Rattle.keeping_dm.specs.Keeping.{Keeps}
use Rattle.keeping_dm.proofs.DifferenceLemmas.{keeps_guarded, keeps_minus}
use Rattle.keeping_dm.proofs.KeepLemmas.{AreAll, AreLawful, AreWithin, keeps_eq, keeps_is_null, keeps_join, keeps_ne, keeps_not_null, keeps_project, keeps_rename, keeps_union}
use Rattle.keeping_dm.proofs.TupleLemmas.{lawful, left_part, node, part, right_part, within}

-- ---- the attributes, in any order

abbrev without : Name → List Name → List Name
without x [] = []
without x (y ∷ ys) = cond (bytes_eq x y) (without x ys) (y ∷ without x ys)

without_exact : (x : Name) (ys : List Name) (a : Name) → IsIn a (without x ys) ↔ (IsIn a ys × (x ≢ a))
without_exact x [] a = ((λ h. absurd h), (λ h. absurd h.0))
without_exact x (y ∷ ys) a = go (bytes_eq x y) refl (without_exact x ys a)
  where
    go : (r : Bool) → bytes_eq x y ≡ r → IsIn a (without x ys) ↔ (IsIn a ys × (x ≢ a)) → IsIn a (cond r (without x ys) (y ∷ without x ys)) ↔ (((y ≡ a) ⊎ IsIn a ys) × (x ≢ a))
    go true e rest = (
      (λ h. let k = rest.0 h in (inr k.0, k.1)),
      (λ h. ⊎_elim (λ s. absurd (h.1 ((bytes_eq-Decides x y).0 e ∙ s))) (λ i. rest.1 (i, h.1)) h.0),
    )
    go false e rest = (
      (λ h. ⊎_elim (λ s. (inl s, λ t. differ e (t ∙ sym s))) (λ i. let k = rest.0 i in (inr k.0, k.1)) h),
      (λ h. ⊎_elim (λ s. inl s) (λ i. inr (rest.1 (i, h.1))) h.0),
    )
      where
        differ : bytes_eq x y ≡ false → x ≡ y → ⊥
        differ f s = false_true (sym f ∙ (bytes_eq-Decides x y).1 s)
          where
            false_true : false ≡ true → ⊥
            false_true e = cc

module _ (tables : List SchemaTable) (schema : IsSchema tables) where
  table_there : (name : Name) → HasNoCause tables (Table name) → HasTable tables name
  table_there name causes = ⊎_elim
      (λ i. let t = IsIn-map (λ (t : SchemaTable). t.name) name tables i in (t.0, (t.1, t.2)))
      (λ n. absurd (causes.0 (λ t. n (subst (λ x. IsIn x (map (λ (t : SchemaTable). t.name) tables)) t.1.1 (map-IsIn (λ (t : SchemaTable). t.name) t.0 tables t.1.0)))))
      (in_or_not name (map (λ (t : SchemaTable). t.name) tables))

  table_attributes : (name : Name) → (t : HasTable tables name) → AreAll (HasAttribute tables (Table name)) (column_names t.0.columns)
  table_attributes name t a = (
    (λ i. (t.0, t.1, i)),
    (λ h. subst (λ (u : SchemaTable). IsIn a (column_names u.columns)) (one_by_key (λ (t : SchemaTable). t.name) tables schema.names h.0 t.0 h.1.0 t.1.0 (h.1.1 ∙ sym t.1.1)) h.2),
  )

  pub listed : (q : Query) → IsFaultless tables q → (names : List Name) × AreAll (HasAttribute tables q) names
  listed (Table t) f = let found = table_there t f.0 in (column_names found.0.columns, table_attributes t found)
  listed (Null n) f = (n ∷ [], λ a. ((λ h. ⊎_elim (λ e. e) (λ i. absurd i) h), (λ e. inl e)))
  listed (Eq' s (more_of-Query p end_of-Query) n v) f = listed p (part tables p _ f)
  listed (Ne' s (more_of-Query p end_of-Query) n v) f = listed p (part tables p _ f)
  listed (IsNull' s (more_of-Query p end_of-Query) n) f = listed p (part tables p _ f)
  listed (NotNull' s (more_of-Query p end_of-Query) n) f = listed p (part tables p _ f)
  listed (Project' s (more_of-Query p end_of-Query) names) f = (names, λ a. ((λ i. i), (λ i. i)))
  listed (Rename' s (more_of-Query p end_of-Query) from to) f =
      let found = listed p (part tables p _ f) in (
        to ∷ without from found.0,
        λ a. (
          (λ h. ⊎_elim (λ e. inl e) (λ i. let k = (without_exact from found.0 a).0 i in inr ((found.1 a).0 k.0, k.1)) h),
          (λ h. ⊎_elim (λ e. inl e) (λ k. inr ((without_exact from found.0 a).1 ((found.1 a).1 k.0, k.1))) h),
        ),
      )
  listed (Join' s (more_of-Query p end_of-Query) s' (more_of-Query q end_of-Query)) f =
      let left = listed p (left_part tables p q _ f) in
      let right = listed q (right_part tables p q _ f) in (
        left.0 ++ right.0,
        λ a. (
          (λ h. ⊎_elim (λ i. inl ((left.1 a).0 i)) (λ i. inr ((right.1 a).0 i)) (IsIn-append a left.0 right.0 h)),
          (λ h. ⊎_elim (λ k. IsIn-front a left.0 right.0 ((left.1 a).1 k)) (λ k. IsIn-back a left.0 right.0 ((right.1 a).1 k)) h),
        ),
      )
  listed (Union' s (more_of-Query p end_of-Query) s' (more_of-Query q end_of-Query)) f = listed p (left_part tables p q _ f)
  listed (Diff' s (more_of-Query p end_of-Query) s' (more_of-Query q end_of-Query)) f = listed p (left_part tables p q _ f)

  -- every query has an attribute
  pub some_attribute : (q : Query) → IsFaultless tables q → (a : Name) × HasAttribute tables q a
  some_attribute (Table t) f =
      let found = table_there t f.0 in
      let a = first_column found.0.columns (schema.each found.0 found.1.0).some_column in
      (a.0, (found.0, found.1, a.1))
    where
      first_column : (columns : List Column) → 0 < length columns → (a : Name) × IsIn a (column_names columns)
      first_column [] l = absurd (omega (arith, l))
      first_column (c ∷ cs) l = (c.name, inl refl)
  some_attribute (Null n) f = (n, refl)
  some_attribute (Eq' s (more_of-Query p end_of-Query) n v) f = some_attribute p (part tables p _ f)
  some_attribute (Ne' s (more_of-Query p end_of-Query) n v) f = some_attribute p (part tables p _ f)
  some_attribute (IsNull' s (more_of-Query p end_of-Query) n) f = some_attribute p (part tables p _ f)
  some_attribute (NotNull' s (more_of-Query p end_of-Query) n) f = some_attribute p (part tables p _ f)
  some_attribute (Project' s (more_of-Query p end_of-Query) names) f = first_name names (node tables p _ f).1.0
    where
      first_name : (names : List Name) → names ≢ [] → (a : Name) × IsIn a names
      first_name [] n = absurd (n refl)
      first_name (a ∷ names) n = (a, inl refl)
  some_attribute (Rename' s (more_of-Query p end_of-Query) from to) f = (to, inl refl)
  some_attribute (Join' s (more_of-Query p end_of-Query) s' (more_of-Query q end_of-Query)) f = let a = some_attribute p (left_part tables p q _ f) in (a.0, inl a.1)
  some_attribute (Union' s (more_of-Query p end_of-Query) s' (more_of-Query q end_of-Query)) f = some_attribute p (left_part tables p q _ f)
  some_attribute (Diff' s (more_of-Query p end_of-Query) s' (more_of-Query q end_of-Query)) f = some_attribute p (left_part tables p q _ f)

-- ---- operators over a database

module _ (g : Statement → Type 0) (D : Data) (db : IsDatabase D) (q : Query) (p : Pattern) (k : Keeps g p (IsTuple D q)) where
  are_lawful : AreLawful (IsTuple D q)
  are_lawful w h = lawful D db q w h

  pub query_eq : (n : Name) (v : Value) → IsLawful v → Keeps g (patterns.Filter p (is_value n v)) (λ w. IsTuple D q w × (w n ≡ Some v))
  query_eq n v lawful_v = keeps_eq g p (IsTuple D q) k are_lawful n v lawful_v

  pub query_ne : (n : Name) (v : Value) → IsLawful v → Keeps g (patterns.Filter p (is_other_value n v)) (λ w. IsTuple D q w × ((x : Value) × (w n ≡ Some x) × (x ≢ v)))
  query_ne n v lawful_v = keeps_ne g p (IsTuple D q) k are_lawful n v lawful_v

  pub query_is_null : (n : Name) → Keeps g (patterns.Filter p (is_unbound n)) (λ w. IsTuple D q w × (w n ≡ None))
  query_is_null n = keeps_is_null g p (IsTuple D q) k n

  pub query_not_null : (n : Name) → Keeps g (patterns.Filter p (is_bound n)) (λ w. IsTuple D q w × (w n ≢ None))
  query_not_null n = keeps_not_null g p (IsTuple D q) k n

  module _ (f : IsFaultless D.tables q) where
    are_within : AreWithin (HasAttribute D.tables q) (IsTuple D q)
    are_within w h a n = within D q f w h a n

    pub query_project : (names sorted : List Name) → AreAll (λ a. IsIn a names) sorted → Keeps g (patterns.Select p (same_names sorted)) (λ w. (u : Tuple) × IsTuple D q u × IsProjection names u w)
    query_project names sorted same =
        let all = listed D.tables db.schema q f in
        keeps_project g p (IsTuple D q) k (HasAttribute D.tables q) all.0 all.1 are_within names sorted same

    pub query_rename : (from to : Name) → ¬ ¬ HasAttribute D.tables q from → ¬ HasAttribute D.tables q to → (names : List Name) →
        AreAll (λ a. (to ≡ a) ⊎ (HasAttribute D.tables q a × (from ≢ a))) names → Keeps g (patterns.Select p (new_names from to names)) (λ w. (u : Tuple) × IsTuple D q u × IsRenamed from to u w)
    query_rename from to has_from free names new =
        let all = listed D.tables db.schema q f in
        keeps_rename g p (IsTuple D q) k (HasAttribute D.tables q) all.0 all.1 are_within from to has_from free names new

module _ (g : Statement → Type 0) (D : Data) (db : IsDatabase D) (q r : Query) (left right : Pattern) (k : Keeps g left (IsTuple D q)) (l : Keeps g right (IsTuple D r)) where
  pub query_union : Keeps g (patterns.Union left right) (λ w. IsTuple D q w ⊎ IsTuple D r w)
  query_union = keeps_union g left right (IsTuple D q) (IsTuple D r) k l

  module _ (f : IsFaultless D.tables q) (e : IsFaultless D.tables r) where
    pub query_join : (common : List Name) → AreAll (λ a. HasAttribute D.tables q a × HasAttribute D.tables r a) common →
        Keeps g (joined common left right) (λ w. (u v : Tuple) × IsTuple D q u × IsTuple D r v × Match (HasAttribute D.tables q) (HasAttribute D.tables r) u v × ((a : Name) → w a ≡ first_of (u a) (v a)))
    query_join common are =
        let lefts = listed D.tables db.schema q f in
        let rights = listed D.tables db.schema r e in
        keeps_join g left right (IsTuple D q) (IsTuple D r) k l (HasAttribute D.tables q) (HasAttribute D.tables r) lefts.0 rights.0 common lefts.1 rights.1 are
        (λ w h a n. within D q f w h a n) (λ w h a n. within D r e w h a n) (λ w h. lawful D db q w h) (λ w h. lawful D db r w h)

    module _ (same : ¬ ¬ HaveSame D.tables q r) where
      -- the tuples of the right part are within the attributes of the left one
      right_within : AreWithin (HasAttribute D.tables q) (IsTuple D r)
      right_within w h a n = within D r e w h a (λ has. same (λ alike. n ((alike a).1 has)))

      pub query_minus : (mode : Mode) → KeepsKeysOf mode D → ((a : Name) → HasAttribute D.tables q a → IsCertain mode D.tables q a × IsCertain mode D.tables r a) →
          Keeps g (patterns.Minus left right) (λ w. IsTuple D q w × (¬ IsTuple D r w))
      query_minus mode keys certain =
          let all = listed D.tables db.schema q f in
          keeps_minus g left right (IsTuple D q) (IsTuple D r) k l (HasAttribute D.tables q) all.0 all.1
          (λ w h a n. within D q f w h a n) right_within (λ w h. lawful D db q w h) (λ w h. lawful D db r w h)
          (some_attribute D.tables db.schema q f)
          (λ w h a has. never_null mode D q w a db keys (certain a has).0 h)
          (λ w h a has. never_null mode D r w a db keys (certain a has).1 h)

      -- the class has one type in the graph
      pub query_guarded : (names : List Name) → AreAll (HasAttribute D.tables q) names → (class : List ℕ) (type : Term) → g (record { subject = terms.Iri class; predicate = word_iri RdfType; object = type }) →
          ((o : Term) → g (record { subject = terms.Iri class; predicate = word_iri RdfType; object = o }) → o ≡ type) →
          Keeps g (guarded names class left right) (λ w. IsTuple D q w × (¬ IsTuple D r w))
      query_guarded names are class type typed one =
          keeps_guarded g left right (IsTuple D q) (IsTuple D r) k l (HasAttribute D.tables q) names are
          (λ w h a n. within D q f w h a n) right_within (λ w h. lawful D db q w h) (λ w h. lawful D db r w h) class type typed one
