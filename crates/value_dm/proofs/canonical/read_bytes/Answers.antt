use Rattle.std.proofs.Common.{sym, List, ℕ, subst, arith}
use Rattle.value_dm.specs.Spelling.{SpellsBinary}
use Rattle.std.proofs.lemmas.Result.{IfOk-weaker}
use Rattle.value_dm.proofs.Ascii.{spelled_bytes, spelled_characters}
use Rattle.value_dm.specs.declared.value.Value.TheVariants as value
use Rattle.value_dm.proofs.canonical.read_bytes.Goals as goal

pub returns-then-not-is_ascii-clause-bad : goal.returns-then-not-is_ascii-clause-bad
returns-then-not-is_ascii-clause-bad c =
    λ _ bytes spelled.
    let h = spelled_bytes c.args.text.now c.utf8.text (value.Binary bytes) (λ k. cc k) spelled in
    omega (arith, h.0 c.if-not-is_ascii.ensures.cases.0, c.if-not-is_ascii.ensures.cases.1)

pub returns-clause-ok : goal.returns-clause-ok
returns-clause-ok c =
    IfOk-weaker c.read_binary.result _ _ (λ bytes h.
    let P : List ℕ → Type 0 = λ x. SpellsBinary x bytes in
    spelled_characters c.args.text.now c.if-not-is_ascii.ensures.cases (value.Binary bytes) (subst P c.as_bytes.ensures.value h)) c.read_binary.ensures.ok

pub returns-clause-bad : goal.returns-clause-bad
returns-clause-bad c =
    λ is bytes spelled.
    let P : List ℕ → Type 0 = λ x. SpellsBinary x bytes in
    c.read_binary.ensures.bad is bytes (subst P (sym c.as_bytes.ensures.value) (spelled_bytes c.args.text.now c.utf8.text (value.Binary bytes) (λ k. cc k) spelled).1)
