use Rattle.std.proofs.Common.{◌≡◌, ap, ◌∙◌, arith, chars, string_bytes, subst, sym, List, ℕ, length, ◌≤◌}
use Rattle.std.specs.Prelude.{IsUtf8}
use Rattle.std.proofs.lemmas.Str.{chars-nil}
use Rattle.ddl_tokens_dm.specs.Scanning.{quoted_at}
use Rattle.ddl_tokens_dm.proofs.Lexing.{quoted_begins, quoted_on, quoted_twice}
use Rattle.ddl_tokens_dm.proofs.lexer.quoted.Goals as goal
use Rattle.ddl_tokens_dm.proofs.lexer.quoted.Goals.{then-first-eq34+in-Some-strip_char, else-first-eq34}

pub quoted-init : goal.quoted-init
quoted-init c = (quoted_begins (chars (string_bytes c.new-name.result)) (chars c.args.text.now) (ap chars c.new-name.ensures.bytes ∙ chars-nil), c.utf8.text, omega arith)

pub quoted-preserved : goal.quoted-preserved
quoted-preserved c = elim c.if-first-eq34.branch [
  | then-first-eq34+in-Some-strip_char w ↦ rw w.after-is (
    quoted_twice (chars (string_bytes c.quoted.name)) (chars (string_bytes c.push_char.new.name)) (chars c.quoted.rest.now) (chars c.in-Some.behind.now) (chars w.in-Some-strip_char.second.now) c.in-Some.first (quoted_at (chars c.args.text.now))
        c.quoted.invariant.0 c.in_ok-push_char.ensures c.in-Some.ensures.chars w.if-first-eq34.true w.in-Some-strip_char.ensures.cases,
    w.in-Some-strip_char.ensures.utf8,
    omega (arith, w.in-Some-strip_char.ensures.shorter, c.in-Some.ensures.shorter, c.quoted.invariant.2),
  )
  | else-first-eq34 w ↦ rw w.after-is (
    quoted_on (chars (string_bytes c.quoted.name)) (chars (string_bytes c.push_char.new.name)) (chars c.quoted.rest.now) (chars c.in-Some.behind.now) c.in-Some.first (quoted_at (chars c.args.text.now))
        c.quoted.invariant.0 c.in_ok-push_char.ensures c.in-Some.ensures.chars w.if-first-eq34.false,
    c.in-Some.ensures.utf8,
    omega (arith, c.in-Some.ensures.shorter, c.quoted.invariant.2),
  )
]
