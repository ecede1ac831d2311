use Rattle.std.proofs.Common.{◌≡◌, ◌+◌, false, true, get_or, subst, arith}
use Rattle.std.specs.List.{AllWithin}
use Rattle.solutions_dm.specs.declared.keys.Keyed.{Keyed}
use Rattle.solutions_dm.specs.Keys.{key_at, is_below}
use Rattle.solutions_dm.proofs.RepeatLemmas.{of_more}
use Rattle.solutions_dm.proofs.repeats.first_rows.Goals as goal

pub runs-preserved : goal.runs-preserved
runs-preserved c =
    let ks = c.args.keyed.now in
    let x = c.index-keyed-at.result in
    let next = c.first_above-at.result in (
      c.first_above-at.ensures.high,
      of_more (key_at c.args.rows.now.columns c.args.names.now) c.args.rows.now.rows ks c.runs.at next c.runs.kept.items c.push.new.self.items x c.requires (omega arith) c.index-keyed-at.is
          c.first_above-at.ensures.low
          (subst (λ key. AllWithin (λ (k : Keyed). is_below key k.key.items ≡ false) ks (c.runs.at + 1) next) c.as_slice.ensures.value c.first_above-at.ensures.passed)
          (λ d l. subst (λ key. is_below key (get_or ks next d).key.items ≡ true) c.as_slice.ensures.value (c.first_above-at.ensures.stopped d l))
          c.in_ok-push.ensures.items c.runs.invariant.1,
    )
