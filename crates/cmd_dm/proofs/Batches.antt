-- The text of a batch: there is one, and one alone.
use Rattle.std.proofs.Common.{◌≡◌, ◌∙◌, sym, ap, ℕ, List}
use Rattle.std.specs.Prelude.{IsTrue}
use Rattle.std.specs.List.{flat_map}
use Rattle.members_dm.proofs.PlacesLemmas.{listing_unique}
use Rattle.names_dm.specs.Namespaces.{is_base}
use Rattle.facts_dm.proofs.NamingInstance.{naming_laws}
use Rattle.table_csv.specs.Databases.{Data, IsDatabase}
use Rattle.keys_dm.specs.Violations.{KeepsKeys}
use Rattle.graphs_dm.specs.Graphs.{IsLaterRowsText}
use Rattle.graphs_dm.specs.RowFacts.{line_of}
use Rattle.graphs_dm.specs.declared.graph_name.GraphName.TheVariants.{Map}
use Rattle.graphs_dm.proofs.GraphLevels.{later_text}
use Rattle.graphs_dm.proofs.SomePlan.{some_plan}
use Rattle.append_dm.specs.Appended.{IsBatchFor, appended}
use Rattle.append_dm.specs.Batches.{Enlarges, IsBatchText, IsNewAt, counts}
use Rattle.append_dm.proofs.AppendedRows.{is_database}
use Rattle.append_dm.proofs.Enlarging.{batch_enlarges}

pub batch_text_unique : (base : List ℕ) (old whole : Data) (text other : List ℕ) → IsBatchText base old whole text → IsBatchText base old whole other → text ≡ other
batch_text_unique base old whole text other a b =
    a.lines ∙ ap (flat_map (line_of base)) (listing_unique (IsNewAt base old whole) a.facts b.facts a.listing b.listing) ∙ sym b.lines

-- the text of the batch's rows is that of the new triples
of_later_rows : (base : List ℕ) (old whole : Data) → Enlarges base old whole → (text : List ℕ) → IsLaterRowsText Map base whole (counts old) text → IsBatchText base old whole text
of_later_rows base old whole large text is = record {
  facts = is.facts;
  listing = record {
    placed = is.listing.placed;
    rising = is.listing.rising;
    exact = λ p x. ((λ h. (large.rows p x).1 ((is.listing.exact p x).0 h)), (λ h. (is.listing.exact p x).1 ((large.rows p x).0 h)));
    items = is.listing.items;
  };
  lines = is.lines;
}

module _ (base : List ℕ) (good : IsTrue (is_base base)) (old batch : Data) (old_is : IsDatabase old) (batch_is : IsDatabase batch) (fits : IsBatchFor old batch)
    (kept : KeepsKeys old) (whole_kept : KeepsKeys (appended old batch)) where
  pub batch_enlarges_so : Enlarges base old (appended old batch)
  batch_enlarges_so = batch_enlarges base (naming_laws base good) old batch old_is batch_is fits kept whole_kept

  pub batch_text_some : (text : List ℕ) × IsBatchText base old (appended old batch) text
  batch_text_some =
      let whole = appended old batch in
      let plan = some_plan Map whole in
      let later = later_text Map base whole (λ t sides h. is_database old batch old_is batch_is fits) whole_kept plan.0 plan.1 (counts old) in
      (_, of_later_rows base old whole batch_enlarges_so _ later)
