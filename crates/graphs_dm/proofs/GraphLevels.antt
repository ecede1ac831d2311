-- The levels of a graph are exactly its facts in order, and its text is one.
use Rattle.std.proofs.Common.{◌≡◌, ◌∙◌, ◌<◌, ◌≤◌, ◌++◌, ℕ, suc, zero, Bool, true, false, List, [], ◌∷◌, length, map, Option, Some, None, refl, sym, ap, subst, inl, inr, arith, Result, Err}
use Rattle.std.specs.Prelude.{if◌then◌else◌, nat_lt}
use Rattle.std.specs.List.{flat_map}
use Rattle.std.proofs.lemmas.Bool.Decides.{Decides-ltb, nat_tests, not_from_Decides}
use Rattle.members_dm.specs.Membership.{IsIn, IsRising}
use Rattle.members_dm.specs.Places.{Place, IsListing, StandsEarlier, items_of, under}
use Rattle.members_dm.proofs.MembershipLemmas.{IsIn-map, map-IsIn}
use Rattle.members_dm.proofs.PlacesLemmas.{IsIn-levels, IsIn-under, levels-IsIn, listing_unique, rising-levels, rising-under, under-IsIn}
use Rattle.schema_dm.specs.declared.table.Binary.{Binary}
use Rattle.schema_dm.proofs.OneRelation.{sides_unique}
use Rattle.names_dm.specs.Statements.{Statement}
use Rattle.ntriples_dm.specs.Written.{triple_text}
use Rattle.facts_dm.specs.Facts.{Fact, Node, a_mark, triple_of}
use Rattle.facts_dm.specs.Meanings.{NamingLaws}
use Rattle.table_csv.specs.Databases.{Data, IsDatabase, rows_at}
use Rattle.keys_dm.specs.Kept.{HasMatches}
use Rattle.keys_dm.specs.Violations.{KeepsKeys, Violates}
use Rattle.keys_dm.specs.declared.violation.ViolationKind.{ViolationKind}
use Rattle.keys_dm.proofs.OneMatch.{kept_matches}
use Rattle.graphs_dm.specs.Graphs.{GraphRowStandsAt, HasItsTriples, HasOntology, IsDefined, IsGraphText, IsLaterRowsText, LaterRowStandsAt, MarksViolatingRows, MarksViolations, PutsGraph, PutsLaterRows, StandsAt, first_row, of_later_row, of_ontology, of_row, row_mark, row_of_class, row_of_relation}
use Rattle.graphs_dm.specs.Levels.{Placed, any_row_level, from_first, graph_level, graph_part, ontology_level, ontology_table, relation_row_level, table_level, tables_level, text_of}
use Rattle.graphs_dm.specs.Nodes.{row_node}
use Rattle.graphs_dm.specs.Ontology.{OntologyStandsAt, column_domain, column_property, column_range, of_class, of_column, of_reference, of_relation, reference_domain, reference_property, reference_range}
use Rattle.outside_dm.specs.Putting.{Writes}
use Rattle.outside_dm.specs.Sinks.{SinkState}
use Rattle.outside_dm.specs.declared.sink.PutError.{PutError}
use Rattle.outside_dm.specs.declared.sink.PutError.TheVariants.{Memory}
use Rattle.graphs_dm.proofs.LevelTexts.{text_of-level, text_of-no_level, text_of-none, text_of-under, writes_short}
use Rattle.graphs_dm.proofs.SomePlan.{some_plan}
use Rattle.graphs_dm.specs.OwnNodes.{HasRow}
use Rattle.graphs_dm.specs.Plans.{IsChoice, IsPlanOf, relation_at}
use Rattle.graphs_dm.specs.Relations.{CountsAsRelation, left_key, right_key}
use Rattle.graphs_dm.specs.RowFacts.{References, line_of, row_literal, row_reference, row_type}
use Rattle.graphs_dm.specs.declared.graph_name.GraphName.{GraphName}
use Rattle.graphs_dm.specs.declared.graph_name.GraphName.TheVariants.{Direct, Map, MapKeys}
use Rattle.graphs_dm.specs.declared.plan.Plan.{Plan}
use Rattle.graphs_dm.proofs.NodeLaws.{is_table}
use Rattle.graphs_dm.proofs.OntologyLevels.{IsIn-ontology, ontology-IsIn, rising-ontology}
use Rattle.graphs_dm.proofs.PlanSteps.{binary_of}
use Rattle.graphs_dm.proofs.RelationRows.{IsIn-pair, first_references, left_among, pair-IsIn, references_first, right_among, rising-pair}
use Rattle.graphs_dm.proofs.RowLevels.{IsIn-row, marked-IsIn, rising-row, row-IsIn}

-- ---- the rows from the first one on that counts

module _ (first : ℕ) (level : ℕ → Placed) (i : ℕ) where
  IsIn-from : (p : Place) (x : Fact) → IsIn {X = Place × Fact} (p, x) (from_first first level i) → (first ≤ i) × IsIn {X = Place × Fact} (p, x) (level i)
  IsIn-from p x h = by (nat_lt i first) refl h
    where
      by : (t : Bool) → nat_lt i first ≡ t → IsIn {X = Place × Fact} (p, x) (if t then [] else level i) → (first ≤ i) × IsIn {X = Place × Fact} (p, x) (level i)
      by true is h = absurd h
      by false is h = (grind (arith, nat_tests), h)

  from-IsIn : (p : Place) (x : Fact) → first ≤ i → IsIn {X = Place × Fact} (p, x) (level i) → IsIn {X = Place × Fact} (p, x) (from_first first level i)
  from-IsIn p x later h = by (nat_lt i first) refl
    where
      by : (t : Bool) → nat_lt i first ≡ t → IsIn {X = Place × Fact} (p, x) (if t then [] else level i)
      by true is = absurd (grind (arith, nat_tests))
      by false is = h

  rising-from : IsRising {X = Place × Fact} StandsEarlier (level i) → IsRising {X = Place × Fact} StandsEarlier (from_first first level i)
  rising-from h = by (nat_lt i first)
    where
      by : (t : Bool) → IsRising {X = Place × Fact} StandsEarlier (if t then [] else level i)
      by true = tt
      by false = h

-- the lines don't tell at which places their facts stand
lines_under : (base : List ℕ) (placed : Placed) → flat_map (line_of base) (items_of (under 1 placed)) ≡ text_of base placed
unfolding text_of
lines_under base placed = text_of-under base 1 placed

kept_by : (name : GraphName) (D : Data) (t : ℕ) (sides : Binary) → IsDefined name D → CountsAsRelation name D.tables t sides → KeepsKeys D
kept_by Map D t sides defined h = defined
kept_by Direct D t sides defined h = absurd h
kept_by MapKeys D t sides defined h = absurd h

not_both : (name : GraphName) (D : Data) (t : ℕ) (sides : Binary) → MarksViolations name → CountsAsRelation name D.tables t sides → ⊥
not_both Map D t sides marks h = marks
not_both Direct D t sides marks h = h
not_both MapKeys D t sides marks h = h

module _ (name : GraphName) (base : List ℕ) (D : Data) (database : (t : ℕ) (sides : Binary) → CountsAsRelation name D.tables t sides → IsDatabase D) (defined : IsDefined name D) where
  same_sides : (t : ℕ) → t < length D.tables → (sides other : Binary) → CountsAsRelation name D.tables t sides → CountsAsRelation name D.tables t other → sides ≡ other
  same_sides t below sides other h k = sides_unique D.tables t sides other (is_table D (database t sides h) t below).apart (binary_of name D.tables t sides h) (binary_of name D.tables t other k)

  pub choice_same : (t : ℕ) → t < length D.tables → (choice : Option Binary) → IsChoice name D.tables t choice → (sides : Binary) → CountsAsRelation name D.tables t sides → choice ≡ Some sides
  choice_same t below None class sides h = absurd (class sides h)
  choice_same t below (Some other) counts sides h = ap Some (same_sides t below other sides counts h)

  module _ (plan : Plan) (is : IsPlanOf name D plan) where
    -- ---- rows

    IsIn-any : (t i : ℕ) → HasRow D t i → (choice : Option Binary) → IsChoice name D.tables t choice → (p : Place) (x : Fact) → IsIn {X = Place × Fact} (p, x) (any_row_level base D plan t choice i) → GraphRowStandsAt name base D t i p x
    IsIn-any t i has None class p x h = elim (IsIn-row base D plan t i p x h) [
      | inl stands ↦ row_of_class class stands
      | inr mark ↦ (let why = (is.marks t i has).0 mark.0 in row_mark why.0 why.1.0 why.1.1 mark.1 mark.2)
    ]
    IsIn-any t i has (Some sides) counts p x h =
        let at = IsIn-pair base D t sides _ _ p x h in
        row_of_relation sides at.0 at.1 counts (first_references D t i (left_key D.tables t sides) at.0 at.2) (first_references D t i (right_key D.tables t sides) at.1 at.3) at.4 at.5

    relation-IsIn : (t i : ℕ) → HasRow D t i → (sides : Binary) (j l : ℕ) → CountsAsRelation name D.tables t sides → References D t i (left_key D.tables t sides) j → References D t i (right_key D.tables t sides) l
        → (p : Place) (x : Fact) → p ≡ 0 ∷ [] → x ≡ Rattle.graphs_dm.proofs.RelationRows.link_fact base D t sides j l → IsIn {X = Place × Fact} (p, x) (relation_row_level base D t sides i)
    relation-IsIn t i has sides j l counts left right p x at fact =
        let relation = binary_of name D.tables t sides counts in
        let matches : HasMatches D = kept_matches D (database t sides counts).schema (kept_by name D t sides defined counts) in
        subst (λ (a : Place × Fact). IsIn a (relation_row_level base D t sides i)) (λ s. (sym at s, sym fact s))
        (pair-IsIn base D t sides _ _ j l (references_first D t i (left_key D.tables t sides) matches has (left_among D t sides relation) j left)
        (references_first D t i (right_key D.tables t sides) matches has (right_among D t sides relation) l right))

    any-IsIn : (t i : ℕ) → HasRow D t i → (choice : Option Binary) → IsChoice name D.tables t choice → (p : Place) (x : Fact) → GraphRowStandsAt name base D t i p x → IsIn {X = Place × Fact} (p, x) (any_row_level base D plan t choice i)
    any-IsIn t i has None class p x (row_of_class counts stands) = row-IsIn base D plan t i p x stands
    any-IsIn t i has None class p x (row_of_relation sides j l counts left right at fact) = absurd (class sides counts)
    any-IsIn t i has None class p x (row_mark marks kind violates at fact) = marked-IsIn base D plan t i p x ((is.marks t i has).1 (marks, (kind, violates))) at fact
    any-IsIn t i has (Some sides) counts p x (row_of_class class stands) = absurd (class sides counts)
    any-IsIn t i has (Some sides) counts p x (row_of_relation other j l also left right at fact) =
        subst (λ (s : Binary). IsIn {X = Place × Fact} (p, x) (relation_row_level base D t s i)) (same_sides t has.table other sides also counts) (relation-IsIn t i has other j l also left right p x at fact)
    any-IsIn t i has (Some sides) counts p x (row_mark marks kind violates at fact) = absurd (not_both name D t sides marks counts)

    rising-any : (t : ℕ) (choice : Option Binary) (i : ℕ) → IsRising {X = Place × Fact} StandsEarlier (any_row_level base D plan t choice i)
    rising-any t None i = rising-row base D plan t i
    rising-any t (Some sides) i = rising-pair base D t sides _ _

    -- ---- the parts

    module _ (firsts : List ℕ) where
      pub IsIn-tables : (p : Place) (x : Fact) → IsIn {X = Place × Fact} (p, x) (tables_level base D plan firsts) → LaterRowStandsAt name base D firsts (1 ∷ p) x
      IsIn-tables p x h =
          let table = IsIn-levels (length D.tables) (table_level base D plan firsts) p x h in
          let row = IsIn-levels (length (rows_at D.rows table.0)) (from_first (first_row firsts table.0) (any_row_level base D plan table.0 (relation_at plan table.0))) table.2.0 x table.2.2 in
          let later = IsIn-from (first_row firsts table.0) (any_row_level base D plan table.0 (relation_at plan table.0)) row.0 row.2.0 x row.2.2 in
          let has : HasRow D table.0 row.0 = record { table = table.1; row = row.1 } in
          of_later_row table.0 row.0 row.2.0 has later.0 (ap (λ q. 1 ∷ q) (table.2.1 ∙ ap (λ q. table.0 ∷ q) row.2.1))
          (IsIn-any table.0 row.0 has (relation_at plan table.0) (is.relations.each table.0 table.1) row.2.0 x later.1)

      pub tables-IsIn : (t i : ℕ) (rest : Place) (x : Fact) → HasRow D t i → first_row firsts t ≤ i → GraphRowStandsAt name base D t i rest x → IsIn {X = Place × Fact} (t ∷ i ∷ rest, x) (tables_level base D plan firsts)
      tables-IsIn t i rest x has later stands =
          levels-IsIn (length D.tables) (table_level base D plan firsts) t (i ∷ rest) x has.table
          (levels-IsIn (length (rows_at D.rows t)) (from_first (first_row firsts t) (any_row_level base D plan t (relation_at plan t))) i rest x has.row
          (from-IsIn (first_row firsts t) (any_row_level base D plan t (relation_at plan t)) i rest x later (any-IsIn t i has (relation_at plan t) (is.relations.each t has.table) rest x stands)))

      pub rising-tables : IsRising {X = Place × Fact} StandsEarlier (tables_level base D plan firsts)
      rising-tables =
          rising-levels (length D.tables) (table_level base D plan firsts)
          (λ t. rising-levels (length (rows_at D.rows t)) (from_first (first_row firsts t) (any_row_level base D plan t (relation_at plan t)))
          (λ i. rising-from (first_row firsts t) (any_row_level base D plan t (relation_at plan t)) i (rising-any t (relation_at plan t) i)))

      later_listing : IsListing (LaterRowStandsAt name base D firsts) (items_of (under 1 (tables_level base D plan firsts)))
      unfolding items_of
      later_listing = record {
        placed = under 1 (tables_level base D plan firsts);
        rising = rising-under 1 (tables_level base D plan firsts) rising-tables;
        exact = λ p x. (there p x, back p x);
        items = refl;
      }
        where
          there : (p : Place) (x : Fact) → IsIn {X = Place × Fact} (p, x) (under 1 (tables_level base D plan firsts)) → LaterRowStandsAt name base D firsts p x
          there p x h =
              let inner = IsIn-under 1 (tables_level base D plan firsts) p x h in
              subst (λ (q : Place). LaterRowStandsAt name base D firsts q x) (sym inner.1) (IsIn-tables inner.0 x inner.2)

          back : (p : Place) (x : Fact) → LaterRowStandsAt name base D firsts p x → IsIn {X = Place × Fact} (p, x) (under 1 (tables_level base D plan firsts))
          back p x (of_later_row t i rest has later at stands) =
              subst (λ (q : Place). IsIn {X = Place × Fact} (q, x) (under 1 (tables_level base D plan firsts))) (sym at)
              (under-IsIn 1 (tables_level base D plan firsts) (t ∷ i ∷ rest) x (tables-IsIn t i rest x has later stands))

      -- the text of the levels is that of the later rows
      pub later_text : IsLaterRowsText name base D firsts (text_of base (tables_level base D plan firsts))
      later_text = record { facts = items_of (under 1 (tables_level base D plan firsts)); listing = later_listing; lines = sym (lines_under base (tables_level base D plan firsts)) }

    -- with no first row told, all rows are later ones
    of_all : (p : Place) (x : Fact) → LaterRowStandsAt name base D [] p x → StandsAt name base D p x
    of_all p x (of_later_row t i rest has later at stands) = of_row t i rest has at stands

    IsIn-ontology_part : HasOntology name → (p : Place) (x : Fact) → IsIn {X = Place × Fact} (p, x) (ontology_level base D plan) → StandsAt name base D (0 ∷ p) x
    IsIn-ontology_part has p x h =
        let table = IsIn-levels (length D.tables) (λ t. ontology_table base D.tables t (relation_at plan t)) p x h in
        of_ontology has table.0 table.2.0 table.1 (ap (λ q. 0 ∷ q) table.2.1) (IsIn-ontology name base D.tables table.0 (relation_at plan table.0) (is.relations.each table.0 table.1) table.2.0 x table.2.2)

    ontology_part-IsIn : (t : ℕ) (rest : Place) (x : Fact) → t < length D.tables → OntologyStandsAt name base D.tables t rest x → IsIn {X = Place × Fact} (t ∷ rest, x) (ontology_level base D plan)
    ontology_part-IsIn t rest x below stands =
        levels-IsIn (length D.tables) (λ u. ontology_table base D.tables u (relation_at plan u)) t rest x below
        (ontology-IsIn name base D.tables t (relation_at plan t) (is.relations.each t below) (choice_same t below (relation_at plan t) (is.relations.each t below)) rest x stands)

    rising-ontology_part : IsRising {X = Place × Fact} StandsEarlier (ontology_level base D plan)
    rising-ontology_part = rising-levels (length D.tables) (λ t. ontology_table base D.tables t (relation_at plan t)) (λ t. rising-ontology name base D.tables t (relation_at plan t))

-- ---- the graph

rising-part : (name : GraphName) (base : List ℕ) (D : Data) (database : (t : ℕ) (sides : Binary) → CountsAsRelation name D.tables t sides → IsDatabase D) (defined : IsDefined name D) (plan : Plan) (is : IsPlanOf name D plan) (k : ℕ) → IsRising {X = Place × Fact} StandsEarlier (graph_part name base D plan k)
rising-part Direct base D database defined plan is zero = tt
rising-part Map base D database defined plan is zero = rising-ontology_part Map base D database defined plan is
rising-part MapKeys base D database defined plan is zero = rising-ontology_part MapKeys base D database defined plan is
rising-part Direct base D database defined plan is (suc n) = rising-tables Direct base D database defined plan is []
rising-part Map base D database defined plan is (suc n) = rising-tables Map base D database defined plan is []
rising-part MapKeys base D database defined plan is (suc n) = rising-tables MapKeys base D database defined plan is []

IsIn-part : (name : GraphName) (base : List ℕ) (D : Data) (database : (t : ℕ) (sides : Binary) → CountsAsRelation name D.tables t sides → IsDatabase D) (defined : IsDefined name D) (plan : Plan) (is : IsPlanOf name D plan) (k : ℕ) → k < 2 → (p : Place) (x : Fact)
    → IsIn {X = Place × Fact} (p, x) (graph_part name base D plan k) → StandsAt name base D (k ∷ p) x
IsIn-part Direct base D database defined plan is zero below p x h = absurd h
IsIn-part Map base D database defined plan is zero below p x h = IsIn-ontology_part Map base D database defined plan is tt p x h
IsIn-part MapKeys base D database defined plan is zero below p x h = IsIn-ontology_part MapKeys base D database defined plan is tt p x h
IsIn-part Direct base D database defined plan is (suc zero) below p x h = of_all Direct base D database defined plan is (1 ∷ p) x (IsIn-tables Direct base D database defined plan is [] p x h)
IsIn-part Map base D database defined plan is (suc zero) below p x h = of_all Map base D database defined plan is (1 ∷ p) x (IsIn-tables Map base D database defined plan is [] p x h)
IsIn-part MapKeys base D database defined plan is (suc zero) below p x h = of_all MapKeys base D database defined plan is (1 ∷ p) x (IsIn-tables MapKeys base D database defined plan is [] p x h)
IsIn-part name base D database defined plan is (suc (suc n)) below p x h = absurd (omega arith)

ontology-in : (name : GraphName) (base : List ℕ) (D : Data) (plan : Plan) → HasOntology name → (a : Place × Fact) → IsIn {X = Place × Fact} a (ontology_level base D plan) → IsIn {X = Place × Fact} a (graph_part name base D plan 0)
ontology-in Direct base D plan has a h = absurd has
ontology-in Map base D plan has a h = h
ontology-in MapKeys base D plan has a h = h

tables-in : (name : GraphName) (base : List ℕ) (D : Data) (plan : Plan) (a : Place × Fact) → IsIn {X = Place × Fact} a (tables_level base D plan []) → IsIn {X = Place × Fact} a (graph_part name base D plan 1)
tables-in Direct base D plan a h = h
tables-in Map base D plan a h = h
tables-in MapKeys base D plan a h = h

module _ (name : GraphName) (base : List ℕ) (D : Data) (database : (t : ℕ) (sides : Binary) → CountsAsRelation name D.tables t sides → IsDatabase D) (defined : IsDefined name D) (plan : Plan) (is : IsPlanOf name D plan) where
  IsIn-graph : (p : Place) (x : Fact) → IsIn {X = Place × Fact} (p, x) (graph_level name base D plan) → StandsAt name base D p x
  IsIn-graph p x h =
      let part = IsIn-levels 2 (graph_part name base D plan) p x h in
      subst (λ (q : Place). StandsAt name base D q x) (sym part.2.1) (IsIn-part name base D database defined plan is part.0 part.1 part.2.0 x part.2.2)

  graph-IsIn : (p : Place) (x : Fact) → StandsAt name base D p x → IsIn {X = Place × Fact} (p, x) (graph_level name base D plan)
  graph-IsIn p x (of_ontology has t rest below at stands) =
      subst (λ (q : Place). IsIn {X = Place × Fact} (q, x) (graph_level name base D plan)) (sym at)
      (levels-IsIn 2 (graph_part name base D plan) 0 (t ∷ rest) x (omega arith) (ontology-in name base D plan has (t ∷ rest, x) (ontology_part-IsIn name base D database defined plan is t rest x below stands)))
  graph-IsIn p x (of_row t i rest has at stands) =
      subst (λ (q : Place). IsIn {X = Place × Fact} (q, x) (graph_level name base D plan)) (sym at)
      (levels-IsIn 2 (graph_part name base D plan) 1 (t ∷ i ∷ rest) x (omega arith) (tables-in name base D plan (t ∷ i ∷ rest, x) (tables-IsIn name base D database defined plan is [] t i rest x has (omega arith) stands)))

  graph_listing : IsListing (StandsAt name base D) (items_of (graph_level name base D plan))
  unfolding items_of
  graph_listing = record {
    placed = graph_level name base D plan;
    rising = rising-levels 2 (graph_part name base D plan) (rising-part name base D database defined plan is);
    exact = λ p x. (IsIn-graph p x, graph-IsIn p x);
    items = refl;
  }

  -- the text of the levels is the graph's
  pub graph_text : IsGraphText name base D (text_of base (graph_level name base D plan))
  unfolding text_of
  graph_text = record { facts = items_of (graph_level name base D plan); listing = graph_listing; lines = refl }

-- a graph has one text
pub graph_text_unique : (name : GraphName) (base : List ℕ) (D : Data) (text other : List ℕ) → IsGraphText name base D text → IsGraphText name base D other → text ≡ other
graph_text_unique name base D text other a b = a.lines ∙ ap (flat_map (line_of base)) (listing_unique (StandsAt name base D) a.facts b.facts a.listing b.listing) ∙ sym b.lines

-- ---- the graph as a set

lines_of_triples : (base : List ℕ) (facts : List Fact) → flat_map (line_of base) facts ≡ flat_map triple_text (map (triple_of base) facts)
lines_of_triples base [] = refl
lines_of_triples base (fact ∷ facts) = ap (λ (l : List ℕ). line_of base fact ++ l) (lines_of_triples base facts)

pub its_triples : (name : GraphName) (base : List ℕ) (D : Data) (text : List ℕ) → IsGraphText name base D text → HasItsTriples name base D text
its_triples name base D text is = record {
  triples = map (triple_of base) is.facts;
  exact = record {
    only = λ triple h.
        let from = IsIn-map (triple_of base) triple is.facts h in
        let placed = IsIn-map (λ (a : Place × Fact). a.1) from.0 is.listing.placed (subst (λ (xs : List Fact). IsIn from.0 xs) is.listing.items from.1) in
        let here : IsIn {X = Place × Fact} (placed.0.0, from.0) is.listing.placed = subst (λ (x : Fact). IsIn {X = Place × Fact} (placed.0.0, x) is.listing.placed) placed.2 placed.1 in
        (from.0, (placed.0.0, (is.listing.exact placed.0.0 from.0).0 here), sym from.2);
    all = λ triple h.
        let at = (is.listing.exact h.1.0 h.0).1 h.1.1 in
        let among : IsIn h.0 is.facts = subst (λ (xs : List Fact). IsIn h.0 xs) (sym is.listing.items) (map-IsIn (λ (a : Place × Fact). a.1) (h.1.0, h.0) is.listing.placed at) in
        subst (λ (s : Statement). IsIn s (map (triple_of base) is.facts)) (sym h.2) (map-IsIn (triple_of base) h.0 is.facts among);
  };
  lines = is.lines ∙ lines_of_triples base is.facts;
}

-- ---- what was put

text_of-parts : (name : GraphName) (base : List ℕ) (D : Data) (plan : Plan) → text_of base (graph_part name base D plan 1) ≡ text_of base (tables_level base D plan [])
text_of-parts Direct base D plan = refl
text_of-parts Map base D plan = refl
text_of-parts MapKeys base D plan = refl

-- the direct graph has no ontology
pub direct_part : (name : GraphName) → name ≡ Direct → (base : List ℕ) (D : Data) (plan : Plan) → [] ≡ text_of base (graph_part name base D plan 0)
direct_part name is base D plan = subst (λ (n : GraphName). [] ≡ text_of base (graph_part n base D plan 0)) (sym is) (sym (text_of-none base))

-- the text of the first part, and then of all rows
pub two_parts : (name : GraphName) (base : List ℕ) (D : Data) (plan : Plan) → text_of base (graph_part name base D plan 0) ++ text_of base (tables_level base D plan []) ≡ text_of base (graph_level name base D plan)
two_parts name base D plan =
    let level = graph_part name base D plan in
    ap (λ (l : List ℕ). text_of base (level 0) ++ l) (sym (text_of-parts name base D plan))
    ∙ ap (λ (l : List ℕ). l ++ text_of base (level 1)) (sym (text_of-level base 0 level ∙ ap (λ (l : List ℕ). l ++ text_of base (level 0)) (text_of-no_level base level)))
    ∙ sym (text_of-level base 1 level)

pub puts : (name : GraphName) (base : List ℕ) (D : Data) → IsDatabase D → IsDefined name D → (plan : Plan) → IsPlanOf name D plan → (old new : SinkState) (result : Result (Unit {0}) PutError)
    → Writes (text_of base (graph_level name base D plan)) old new result → PutsGraph name base D old new result
puts name base D database defined plan is old new result writes = record { text = text_of base (graph_level name base D plan); is_text = graph_text name base D (λ t sides h. database) defined plan is; writes = writes }

pub puts_short : (name : GraphName) (base : List ℕ) (D : Data) → IsDatabase D → IsDefined name D → (old : SinkState) → PutsGraph name base D old old (Err Memory)
puts_short name base D database defined old = let plan = some_plan name D in puts name base D database defined plan.0 plan.1 old old (Err Memory) (writes_short _)

pub puts_later : (base : List ℕ) (D : Data) → IsDatabase D → KeepsKeys D → (firsts : List ℕ) (plan : Plan) → IsPlanOf Map D plan → (old new : SinkState) (result : Result (Unit {0}) PutError)
    → Writes (text_of base (tables_level base D plan firsts)) old new result → PutsLaterRows Map base D firsts old new result
puts_later base D database kept firsts plan is old new result writes = record { text = text_of base (tables_level base D plan firsts); is_text = later_text Map base D (λ t sides h. database) kept plan is firsts; writes = writes }

pub puts_later_short : (base : List ℕ) (D : Data) → IsDatabase D → KeepsKeys D → (firsts : List ℕ) (old : SinkState) → PutsLaterRows Map base D firsts old old (Err Memory)
puts_later_short base D database kept firsts old = let plan = some_plan Map D in puts_later base D database kept firsts plan.0 plan.1 old old (Err Memory) (writes_short _)

-- ---- marks

marked_row : (base : List ℕ) (D : Data) (node : Node) (place : Place) (fact : Fact) → fact ≡ a_mark node → StandsAt MapKeys base D place fact → (t i : ℕ) × (kind : ViolationKind) × HasRow D t i × Violates D t i kind × (node ≡ row_node base D t i)
marked_row base D node place fact is (of_row t i rest has at (row_mark marks kind violates stands same)) = (t, i, kind, has, violates, mark_same node (row_node base D t i) (sym is ∙ same))
  where
    mark_same : (n m : Node) → a_mark n ≡ a_mark m → n ≡ m
    mark_same n m e = cc
marked_row base D node place fact is (of_row t i rest has at (row_of_class class (row_type stands same))) = absurd (let e = sym is ∙ same in cc e)
marked_row base D node place fact is (of_row t i rest has at (row_of_class class (row_literal k column value a b stands same))) = absurd (let e = sym is ∙ same in cc e)
marked_row base D node place fact is (of_row t i rest has at (row_of_class class (row_reference k j key a b stands same))) = absurd (let e = sym is ∙ same in cc e)
marked_row base D node place fact is (of_row t i rest has at (row_of_relation sides j l counts left right stands same)) = absurd counts
marked_row base D node place fact is (of_ontology has t rest below at (of_class class stands same)) = absurd (let e = sym is ∙ same in cc e)
marked_row base D node place fact is (of_ontology has t rest below at (of_column class k column more found stands (column_property p same))) = absurd (let e = sym is ∙ same in cc e)
marked_row base D node place fact is (of_ontology has t rest below at (of_column class k column more found stands (column_domain p same))) = absurd (let e = sym is ∙ same in cc e)
marked_row base D node place fact is (of_ontology has t rest below at (of_column class k column more found stands (column_range p same))) = absurd (let e = sym is ∙ same in cc e)
marked_row base D node place fact is (of_ontology has t rest below at (of_reference class k key more found stands (reference_property p same))) = absurd (let e = sym is ∙ same in cc e)
marked_row base D node place fact is (of_ontology has t rest below at (of_reference class k key more found stands (reference_domain p same))) = absurd (let e = sym is ∙ same in cc e)
marked_row base D node place fact is (of_ontology has t rest below at (of_reference class k key more found stands (reference_range p same))) = absurd (let e = sym is ∙ same in cc e)
marked_row base D node place fact is (of_ontology has t rest below at (of_relation sides counts stands)) = absurd counts

pub marks_rows : (base : List ℕ) (D : Data) → NamingLaws base → MarksViolatingRows base D
marks_rows base D laws = record {
  marked = λ node. (
    (λ h. marked_row base D node h.1.0 h.0 (sym (laws.one_fact (a_mark node) h.0 h.2)) h.1.1),
    (λ h. (a_mark node, (1 ∷ h.0 ∷ h.1 ∷ 3 ∷ [], of_row h.0 h.1 (3 ∷ []) h.3 refl (row_mark tt h.2 h.4 refl (ap a_mark h.5))), refl)),
  );
}

-- ---- each graph has a text

pub some_text : (name : GraphName) (base : List ℕ) (D : Data) → IsDatabase D → IsDefined name D → (text : List ℕ) × IsGraphText name base D text
some_text name base D database defined = let plan = some_plan name D in (text_of base (graph_level name base D plan.0), graph_text name base D (λ t sides h. database) defined plan.0 plan.1)
