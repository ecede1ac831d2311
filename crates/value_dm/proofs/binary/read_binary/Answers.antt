use Rattle.value_dm.proofs.Binaries.{binary_refused}
use Rattle.value_dm.proofs.binary.read_binary.Goals as goal

pub returns-in-Err-clause-bad : goal.returns-in-Err-clause-bad
returns-in-Err-clause-bad c =
    λ is bytes spelled.
    let h = rw c.hex_digits.ensures at c.in-Err.ensures.err in
    let bad = c.value_error.ensures in
    binary_refused _ _ h (bad (cc is)) bytes spelled
