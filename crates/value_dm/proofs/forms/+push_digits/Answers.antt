use Rattle.std.proofs.Common.{sym, ◌∙◌, append-nil, append_assoc, arith, ◌∷◌, [], ◌<◌, ◌+◌, ◌-◌, ◌/◌, ◌%◌}
use Rattle.value_dm.specs.Digits.{fixed_digits}
use Rattle.std.specs.Prelude.{string_bytes}
use Rattle.std.proofs.lemmas.Str.{encode_ascii}
use Rattle.value_dm.proofs.FixedDigits.{fixed_digits-none, fixed_digits-step}
use Rattle.value_dm.proofs.forms.+push_digits.Goals as goal

pub returns-then-count-eq0 : goal.returns-then-count-eq0
returns-then-count-eq0 t c = rw (fixed_digits-none c.args.count c.args.number c.if-count-eq0.true) (sym (append-nil (string_bytes c.args.form.now)))

pub returns : goal.returns
returns t c =
    let some : 0 < c.args.count = omega arith in
    let small : 48 + c.args.number % 10 < 128 = omega arith in
    let h = c.in_ok-push.ensures.bytes in
    let i = c.in_ok-push_digits.ensures in
    rw (fixed_digits-step c.args.count c.args.number some)
    (h ∙ rw (i, encode_ascii (48 + c.args.number % 10) small)
    (append_assoc (string_bytes c.args.form.now) (fixed_digits (c.args.count - 1) (c.args.number / 10)) ((48 + c.args.number % 10) ∷ [])))
