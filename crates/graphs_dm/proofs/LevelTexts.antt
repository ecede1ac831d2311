-- How the texts of levels join.
use Rattle.std.proofs.Common.{◌≡◌, ◌∙◌, append_assoc, sym, ap, ℕ, ◌+◌, ◌<◌, Bool, true, List, [], ◌∷◌, ◌++◌, refl, Result, Ok, Err}
use Rattle.std.proofs.lemmas.List.{append-nil}
use Rattle.std.proofs.lemmas.Grind.{flat_map-append}
use Rattle.std.specs.List.{flat_map}
use Rattle.std.specs.Prelude.{if◌then◌else◌, nat_lt}
use Rattle.members_dm.specs.Places.{items_of, levels, one_item, under}
use Rattle.members_dm.proofs.PlacesLemmas.{items_of-front, items_of-level, items_of-no_level, items_of-none, items_of-one, items_of-under}
use Rattle.facts_dm.specs.Facts.{Fact, Node}
use Rattle.outside_dm.specs.Sinks.{SinkState}
use Rattle.outside_dm.specs.Putting.{Writes, Written}
use Rattle.outside_dm.proofs.Putting.{Writes-all, Writes-cut, Writes-cut_first, Writes-same, Writes-short, Writes-then, Written-nothing, Written-same, Written-then}
use Rattle.outside_dm.specs.declared.sink.PutError.{PutError}
use Rattle.outside_dm.specs.declared.sink.PutError.TheVariants.{Memory}
use Rattle.schema_dm.specs.declared.table.ForeignKey.{ForeignKey}
use Rattle.schema_dm.specs.declared.table.Table.{Table}
use Rattle.table_csv.specs.Databases.{Data}
use Rattle.graphs_dm.specs.Nodes.{row_node}
use Rattle.graphs_dm.specs.RowFacts.{line_of, reference_fact}
use Rattle.graphs_dm.specs.Levels.{Placed, from_first, links_level, text_of}

module _ (base : List ℕ) where
  pub text_of-none : text_of base [] ≡ []
  unfolding text_of
  text_of-none = ap (flat_map (line_of base)) items_of-none

  pub text_of-one : (x : Fact) → text_of base (one_item x) ≡ line_of base x
  unfolding text_of
  text_of-one x = ap (flat_map (line_of base)) (items_of-one x) ∙ append-nil (line_of base x)

  pub text_of-no_level : (level : ℕ → Placed) → text_of base (levels 0 level) ≡ []
  unfolding text_of
  text_of-no_level level = ap (flat_map (line_of base)) (items_of-no_level level)

  pub text_of-level : (k : ℕ) (level : ℕ → Placed) → text_of base (levels (k + 1) level) ≡ text_of base (levels k level) ++ text_of base (level k)
  unfolding text_of
  text_of-level k level =
      ap (flat_map (line_of base)) (items_of-level k level) ∙ flat_map-append (line_of base) (items_of (levels k level)) (items_of (level k))

  pub text_of-three : (level : ℕ → Placed) → text_of base (levels 3 level) ≡ text_of base (level 0) ++ (text_of base (level 1) ++ text_of base (level 2))
  text_of-three level =
      let none = text_of-no_level level in
      let one = text_of-level 0 level ∙ ap (λ text. text ++ text_of base (level 0)) none in
      let two = text_of-level 1 level ∙ ap (λ text. text ++ text_of base (level 1)) one in
      text_of-level 2 level ∙ ap (λ text. text ++ text_of base (level 2)) two ∙ append_assoc (text_of base (level 0)) (text_of base (level 1)) (text_of base (level 2))

  pub text_of-under : (n : ℕ) (placed : Placed) → text_of base (under n placed) ≡ text_of base placed
  unfolding text_of
  text_of-under n placed = ap (flat_map (line_of base)) (items_of-under n placed)

  -- the lines of references
  pub text_of-links : (D : Data) (node : Node) (table : Table) (key : ForeignKey) (positions : List ℕ)
      → text_of base (links_level base D node table key positions) ≡ flat_map (λ j. line_of base (reference_fact node table key (row_node base D key.target j))) positions
  unfolding text_of links_level items_of
  text_of-links D node table key [] = refl
  text_of-links D node table key (j ∷ positions) =
      ap (λ text. line_of base (reference_fact node table key (row_node base D key.target j)) ++ text) (text_of-links D node table key positions)

  -- nothing stands there
  pub writes_none : {a : SinkState} → Writes (text_of base []) a a (Ok tt)
  writes_none {a = a} = Writes-all tt (Written-same (sym text_of-none) (Written-nothing a))

  -- one fact stands there
  pub writes_one : (x : Fact) {a b : SinkState} {result : Result (Unit {0}) PutError} → Writes (line_of base x) a b result → Writes (text_of base (one_item x)) a b result
  writes_one x writes = Writes-same (sym (text_of-one x)) writes

  -- before the first turn of a loop
  pub levels_start : (level : ℕ → Placed) (a : SinkState) → Written (text_of base (levels 0 level)) a a
  levels_start level a = Written-same (sym (text_of-no_level level)) (Written-nothing a)

  -- one turn
  pub levels_turn : (k : ℕ) (level : ℕ → Placed) {a b c : SinkState} {done : Unit {0}} →
      Written (text_of base (levels k level)) a b → Writes (text_of base (level k)) b c (Ok done) → Written (text_of base (levels (k + 1) level)) a c
  levels_turn k level before next = Written-same (sym (text_of-level k level)) (Written-then before next)

  -- a turn that is cut short
  pub levels_cut : (n k : ℕ) (level : ℕ → Placed) {a b c : SinkState} (error : PutError) → k < n →
      Written (text_of base (levels k level)) a b → Writes (text_of base (level k)) b c (Err error) → Writes (text_of base (levels n level)) a c (Err error)
  unfolding text_of
  levels_cut n k level error below before next =
      let front = items_of-front n k level below in
      let whole : flat_map (line_of base) (items_of (levels n level)) ≡ flat_map (line_of base) (items_of (levels k level)) ++ (flat_map (line_of base) (items_of (level k)) ++ flat_map (line_of base) front.0) =
      ap (flat_map (line_of base)) front.1
      ∙ flat_map-append (line_of base) (items_of (levels k level)) (items_of (level k) ++ front.0)
      ∙ ap (λ text. flat_map (line_of base) (items_of (levels k level)) ++ text) (flat_map-append (line_of base) (items_of (level k)) front.0) in
      Writes-same (sym whole) (Writes-cut (flat_map (line_of base) front.0) error before next)

  -- three parts, of which the first is cut short
  pub three_cut_first : (level : ℕ → Placed) {a b : SinkState} (error : PutError) → Writes (text_of base (level 0)) a b (Err error) → Writes (text_of base (levels 3 level)) a b (Err error)
  three_cut_first level error next = Writes-same (sym (text_of-three level)) (Writes-cut_first (text_of base (level 1) ++ text_of base (level 2)) error next)

  -- the second is
  pub three_cut_second : (level : ℕ → Placed) {a b c : SinkState} (error : PutError) → Written (text_of base (level 0)) a b → Writes (text_of base (level 1)) b c (Err error)
      → Writes (text_of base (levels 3 level)) a c (Err error)
  three_cut_second level error first next = Writes-same (sym (text_of-three level)) (Writes-cut (text_of base (level 2)) error first next)

  -- whatever comes of the third
  pub three_then : (level : ℕ → Placed) {a b c d : SinkState} {done : Unit {0}} {result : Result (Unit {0}) PutError} →
      Written (text_of base (level 0)) a b → Writes (text_of base (level 1)) b c (Ok done) → Writes (text_of base (level 2)) c d result → Writes (text_of base (levels 3 level)) a d result
  three_then level first second third =
      Writes-same (append_assoc (text_of base (level 0)) (text_of base (level 1)) (text_of base (level 2)) ∙ sym (text_of-three level)) (Writes-then (Written-then first second) third)

-- memory ran out before anything was put
pub writes_short : (text : List ℕ) {a : SinkState} → Writes text a a (Err Memory)
writes_short text {a = a} = Writes-short {xs = []} text (Written-nothing a)

-- nothing is written of a row before the first one
pub none_before : (base : List ℕ) (first i : ℕ) (level : ℕ → Placed) (items : List ℕ) → nat_lt i first ≡ true → items ≡ items ++ text_of base (from_first first level i)
none_before base first i level items e =
    sym (ap (λ (b : Bool). items ++ text_of base (if b then [] else level i)) e ∙ ap (λ (l : List ℕ). items ++ l) (text_of-none base) ∙ append-nil items)
