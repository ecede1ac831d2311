use Rattle.graphs_dm.proofs.GraphLevels.{puts_later, puts_later_short}
use Rattle.graphs_dm.proofs.writer.write_map_rows.Goals as goal

pub returns-in_default : goal.returns-in_default
returns-in_default g c = puts_later_short c.args.base.now c.args.database.now c.schema-schema.ensures.fits c.requires.kept c.args.first_rows.now (g.K.Sink.state c.args.out.now)

pub returns : goal.returns
returns g c =
    puts_later c.args.base.now c.args.database.now c.schema-schema.ensures.fits c.requires.kept c.args.first_rows.now c.in-Ok.plan c.in-Ok.ensures (g.K.Sink.state c.args.out.now) (g.K.Sink.state c.put_later_rows.new.out) c.put_later_rows.result c.put_later_rows.ensures
