use Rattle.std.proofs.Common.{◌<◌, sym, append-nil, arith}
use Rattle.std.specs.Prelude.{string_bytes}
use Rattle.value_dm.proofs.FixedDigits.{short_fraction-none, short_fraction-shorter, short_fraction-shortest}
use Rattle.value_dm.proofs.forms.+push_short_fraction.Goals as goal

pub returns-then-count-eq0 : goal.returns-then-count-eq0
returns-then-count-eq0 t c = rw (short_fraction-none c.args.count c.args.number c.if-count-eq0.true) (sym (append-nil (string_bytes c.args.form.now)))

pub returns-then-number-eq0 : goal.returns-then-number-eq0
returns-then-number-eq0 t c =
    let some : 0 < c.args.count = omega arith in
    rw (short_fraction-shorter c.args.count c.args.number some c.if-number-eq0.true) c.push_short_fraction.ensures

pub returns-else-number-eq0 : goal.returns-else-number-eq0
returns-else-number-eq0 t c =
    let some : 0 < c.args.count = omega arith in
    rw (short_fraction-shortest c.args.count c.args.number some c.if-number-eq0.false) c.push_fraction.ensures
