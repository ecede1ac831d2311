use Rattle.graphs_dm.specs.Relations.{CountsAsRelation}
use Rattle.table_patterns_dm.specs.TablePatterns.{graph_of}
use Rattle.translate_dm.proofs.FirstClass.{told_class}
use Rattle.translate_dm.proofs.classes.is_class.Goals as goal

pub returns : goal.returns
returns c = told_class c.sides_in.result c.is_none.result (CountsAsRelation (graph_of c.args.mode) c.args.schema.now c.args.place) c.is_none.ensures c.sides_in.ensures.found c.sides_in.ensures.none
