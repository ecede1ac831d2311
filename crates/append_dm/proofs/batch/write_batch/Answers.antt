use Rattle.append_dm.proofs.Enlarging.{batch_enlarges, puts_none}
use Rattle.append_dm.proofs.batch.write_batch.Goals as goal

pub returns-in_default-clause-text : goal.returns-in_default-clause-text
returns-in_default-clause-text g c =
    puts_none c.args.base.now c.naming_laws.ensures c.args.old.now c.args.batch.now c.schema-schema.ensures.fits c.schema-batch_schema.ensures.fits c.requires.batch c.requires.kept c.requires.whole_kept (g.K.Sink.state c.args.out.now)

pub returns-in_default-clause-enlarges : goal.returns-in_default-clause-enlarges
returns-in_default-clause-enlarges g c =
    batch_enlarges c.args.base.now c.naming_laws.ensures c.args.old.now c.args.batch.now c.schema-schema.ensures.fits c.schema-batch_schema.ensures.fits c.requires.batch c.requires.kept c.requires.whole_kept

pub returns-in_default-new-clause-text : goal.returns-in_default-new-clause-text
returns-in_default-new-clause-text g c =
    puts_none c.args.base.now c.naming_laws.ensures c.args.old.now c.args.batch.now c.schema-schema.ensures.fits c.schema-batch_schema.ensures.fits c.requires.batch c.requires.kept c.requires.whole_kept (g.K.Sink.state c.args.out.now)

pub returns-in_default-new-clause-enlarges : goal.returns-in_default-new-clause-enlarges
returns-in_default-new-clause-enlarges g c =
    batch_enlarges c.args.base.now c.naming_laws.ensures c.args.old.now c.args.batch.now c.schema-schema.ensures.fits c.schema-batch_schema.ensures.fits c.requires.batch c.requires.kept c.requires.whole_kept
