-- What a batch adds to a map graph.
use Rattle.std.proofs.Common.{◌≡◌, ◌∙◌, ◌<◌, ◌≤◌, ℕ, List, ◌∷◌, length, refl, sym, subst, arith, inl, inr}
use Rattle.std.specs.Prelude.{◌↔◌, Result, Err}
use Rattle.std.proofs.lemmas.Bool.{cases_lt}
use Rattle.members_dm.specs.Places.{IsListing, Place}
use Rattle.facts_dm.specs.Facts.{Fact}
use Rattle.facts_dm.specs.Meanings.{NamingLaws}
use Rattle.table_csv.specs.Cells.{Row}
use Rattle.table_csv.specs.Databases.{Data, IsDatabase, rows_at}
use Rattle.keys_dm.specs.Violations.{KeepsKeys}
use Rattle.outside_dm.specs.Sinks.{SinkState}
use Rattle.outside_dm.specs.declared.sink.PutError.{PutError}
use Rattle.outside_dm.specs.declared.sink.PutError.TheVariants.{Memory}
use Rattle.graphs_dm.specs.Graphs.{GraphRowStandsAt, LaterRowStandsAt, PutsLaterRows, StandsAt, first_row, of_later_row, of_ontology, of_row}
use Rattle.graphs_dm.specs.OwnNodes.{HasRow}
use Rattle.graphs_dm.proofs.GraphLevels.{puts_later_short}
use Rattle.graphs_dm.specs.declared.graph_name.GraphName.TheVariants.{Map}
use Rattle.append_dm.specs.Appended.{IsBatchFor, appended}
use Rattle.append_dm.specs.Batches.{Enlarges, IsNewAt, PutsBatch, counts}
use Rattle.append_dm.proofs.AppendedRows.{HasBoth, has_both, is_database, mapped_at, with_lists}
use Rattle.append_dm.proofs.Staying.{row_stood, stays}
use Rattle.append_dm.proofs.OneRow.{no_ontology, one_row_of, ontology}

module _ (base : List ℕ) (laws : NamingLaws base) (old batch : Data) (lists : List (List Row)) (h : HasBoth old batch lists)
    (old_is : IsDatabase old) (whole_is : IsDatabase (with_lists old lists)) (old_kept : KeepsKeys old) (whole_kept : KeepsKeys (with_lists old lists)) where
  abbrev whole : Data
  whole = with_lists old lists

  first_is : (t : ℕ) → t < length old.tables → first_row (counts old) t ≡ length (rows_at old.rows t)
  first_is t below = mapped_at (λ t. length (rows_at old.rows t)) (length old.tables) t 0 below

  -- a row of the batch has no fact of an old row
  apart : (t i : ℕ) (rest place : Place) (f : Fact) → HasRow whole t i → length (rows_at old.rows t) ≤ i → GraphRowStandsAt Map base whole t i rest f → ¬ StandsAt Map base old place f
  apart t i rest place f has past s (of_ontology has' u more below at o) = no_ontology base whole t i rest f s (ontology base old u more f o)
  apart t i rest place f has past s (of_row u j more has' at s') =
      let also = stays base old batch lists h old_is whole_is old_kept whole_kept place f (of_row u j more has' at s') in
      go also
    where
      go : StandsAt Map base whole place f → ⊥
      go (of_ontology a v b c d o) = no_ontology base whole t i rest f s (ontology base whole v b f o)
      go (of_row v k b has_b d s_b) =
          let same_places : 1 ∷ u ∷ j ∷ more ≡ 1 ∷ v ∷ k ∷ b = sym at ∙ d in
          let u_is : u ≡ v = cc in
          let j_is : j ≡ k = cc in
          let one = one_row_of base whole whole_is whole_kept t i v k rest b f has has_b s s_b in
          let within : i < length (rows_at old.rows t) = subst (λ (w : ℕ). i < length (rows_at old.rows w)) (u_is ∙ sym one.0) (subst (λ (w : ℕ). w < length (rows_at old.rows u)) (j_is ∙ sym one.1) has'.row) in
          omega (arith, past, within)

  new_rows : (place : Place) (f : Fact) → IsNewAt base old whole place f → LaterRowStandsAt Map base whole (counts old) place f
  new_rows place f new = go new.stands
    where
      go : StandsAt Map base whole place f → LaterRowStandsAt Map base whole (counts old) place f
      go (of_ontology has t rest below at o) = absurd (new.new (f, (place, of_ontology has t rest below at o), refl))
      go (of_row t i rest has at s) = elim (cases_lt i (length (rows_at old.rows t))) [
        | inl less ↦
            let has_old : HasRow old t i = record { table = has.table; row = less } in
            absurd (new.new (f, (place, of_row t i rest has_old at (row_stood base old batch lists h old_is whole_is old_kept whole_kept t i has_old rest f s)), refl))
        | inr past ↦ of_later_row t i rest has (let e = first_is t has.table in omega (arith, e, past)) at s
      ]

  later_new : (place : Place) (f : Fact) → LaterRowStandsAt Map base whole (counts old) place f → IsNewAt base old whole place f
  later_new place f (of_later_row t i rest has past at s) = record {
    stands = of_row t i rest has at s;
    new = λ triple.
        let same : f ≡ triple.0 = laws.one_fact f triple.0 triple.2 in
        let e = first_is t has.table in
        apart t i rest triple.1.0 f has (omega (arith, e, past)) s (subst (λ (g : Fact). StandsAt Map base old triple.1.0 g) (sym same) triple.1.1);
  }

  pub enlarges : Enlarges base old whole
  enlarges = record {
    stays = λ triple has. (has.0, (has.1.0, stays base old batch lists h old_is whole_is old_kept whole_kept has.1.0 has.0 has.1.1), has.2);
    rows = λ place f. (new_rows place f, later_new place f);
  }

-- ---- the text

same_listing : {X : Type 0} (P Q : Place → X → Type 0) (xs : List X) → ((p : Place) (x : X) → Q p x ↔ P p x) → IsListing P xs → IsListing Q xs
same_listing P Q xs same h = record {
  placed = h.placed;
  rising = h.rising;
  exact = λ p x. ((λ m. (same p x).1 ((h.exact p x).0 m)), (λ q. (h.exact p x).1 ((same p x).0 q)));
  items = h.items;
}

module _ (base : List ℕ) (laws : NamingLaws base) (old batch : Data) (is : IsDatabase old) (are : IsDatabase batch) (fits : IsBatchFor old batch)
    (kept : KeepsKeys old) (whole_kept : KeepsKeys (appended old batch)) where
  pub batch_enlarges : Enlarges base old (appended old batch)
  batch_enlarges = enlarges base laws old batch (appended old batch).rows (has_both old batch is are fits.tables) is (is_database old batch is are fits) kept whole_kept

  pub puts_batch : (before after : SinkState) (result : Result (Unit {0}) PutError) → PutsLaterRows Map base (appended old batch) (counts old) before after result → PutsBatch base old (appended old batch) before after result
  puts_batch before after result puts = record {
    text = puts.text;
    is_text = record {
      facts = puts.is_text.facts;
      listing = same_listing (LaterRowStandsAt Map base (appended old batch) (counts old)) (IsNewAt base old (appended old batch)) puts.is_text.facts batch_enlarges.rows puts.is_text.listing;
      lines = puts.is_text.lines;
    };
    writes = puts.writes;
  }

  pub puts_none : (state : SinkState) → PutsBatch base old (appended old batch) state state (Err Memory)
  puts_none state = puts_batch state state (Err Memory) (puts_later_short base (appended old batch) (is_database old batch is are fits) whole_kept (counts old) state)
