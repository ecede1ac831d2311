use Rattle.roles_dm.proofs.NumberLemmas.{datatypes_from}
use Rattle.roles_dm.proofs.words.datatypes_of.Goals as goal

pub returns : goal.returns
returns c =
    datatypes_from c.args.graph.now
    (record {
      text = c.in_ok-word_number.field-0;
      integer = c.in_ok-word_number-2.field-0;
      decimal = c.in_ok-word_number-3.field-0;
      boolean = c.in_ok-word_number-4.field-0;
      date = c.in_ok-word_number-5.field-0;
      time = c.in_ok-word_number-6.field-0;
      date_time = c.in_ok-word_number-7.field-0;
      binary = c.in_ok-word_number-8.field-0;
    })
    c.in_ok-word_number.ensures c.in_ok-word_number-2.ensures c.in_ok-word_number-3.ensures c.in_ok-word_number-4.ensures c.in_ok-word_number-5.ensures c.in_ok-word_number-6.ensures c.in_ok-word_number-7.ensures c.in_ok-word_number-8.ensures
