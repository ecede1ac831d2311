use Rattle.std.proofs.Common.{ℕ, List, ◌∙◌, subst}
use Rattle.table_csv.specs.Databases.{Data}
use Rattle.graphs_dm.specs.Graphs.{PutsLaterRows}
use Rattle.graphs_dm.specs.declared.graph_name.GraphName.TheVariants.{Map}
use Rattle.append_dm.specs.Batches.{counts}
use Rattle.append_dm.proofs.Enlarging.{batch_enlarges, puts_batch, puts_none}
use Rattle.append_dm.proofs.batch.write_batch_by.Goals as goal

pub returns-in_default-clause-text : goal.returns-in_default-clause-text
returns-in_default-clause-text g c =
    puts_none c.args.base.now c.naming_laws.ensures c.args.old.now c.args.batch.now c.schema-schema.ensures.fits c.schema-batch_schema.ensures.fits c.requires.batch c.requires.kept c.requires.whole_kept (g.K.Sink.state c.args.out.now)

pub returns-in_default-clause-enlarges : goal.returns-in_default-clause-enlarges
returns-in_default-clause-enlarges g c =
    batch_enlarges c.args.base.now c.naming_laws.ensures c.args.old.now c.args.batch.now c.schema-schema.ensures.fits c.schema-batch_schema.ensures.fits c.requires.batch c.requires.kept c.requires.whole_kept

pub returns-clause-text : goal.returns-clause-text
returns-clause-text g c =
    let before = g.K.Sink.state c.args.out.now in
    let after = g.K.Sink.state c.write_map_rows.new.out in
    puts_batch c.args.base.now c.naming_laws.ensures c.args.old.now c.args.batch.now c.schema-schema.ensures.fits c.schema-batch_schema.ensures.fits c.requires.batch c.requires.kept c.requires.whole_kept before after c.write_map_rows.result
    (subst (λ (D : Data). PutsLaterRows Map c.args.base.now D (counts c.args.old.now) before after c.write_map_rows.result) c.requires.whole
    (subst (λ (firsts : List ℕ). PutsLaterRows Map c.args.base.now c.args.whole.now firsts before after c.write_map_rows.result) (c.as_slice.ensures.value ∙ c.in-Ok.ensures) c.write_map_rows.ensures))

pub returns-clause-enlarges : goal.returns-clause-enlarges
returns-clause-enlarges g c =
    batch_enlarges c.args.base.now c.naming_laws.ensures c.args.old.now c.args.batch.now c.schema-schema.ensures.fits c.schema-batch_schema.ensures.fits c.requires.batch c.requires.kept c.requires.whole_kept
