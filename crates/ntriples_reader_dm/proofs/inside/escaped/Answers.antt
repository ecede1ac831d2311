use Rattle.std.proofs.Common.{◌∙◌, ◌++◌, ◌∷◌, [], List, ℕ, Some, sym, ap, chars, string_bytes}
use Rattle.std.proofs.lemmas.Bool.{ne_eqb}
use Rattle.std.proofs.lemmas.Result.{err_from_is_err_and}
use Rattle.std.proofs.lemmas.Str.{chars-nil}
use Rattle.ntriples_reader_dm.specs.Reading.{until_at}
use Rattle.ntriples_reader_dm.specs.Views.{close_of, one_of, before, escape_of}
use Rattle.ntriples_reader_dm.proofs.Exact.{pair}
use Rattle.ntriples_reader_dm.proofs.Scans.{kind_ascii, start_read, found_read, close_found, bad_found, escape_found, escape_missing, end_read, fails_along}
use Rattle.ntriples_reader_dm.proofs.inside.escaped.Goals as goal

pub until-requires : goal.until-requires
until-requires c = kind_ascii c.args.class.now c.args.kind c.requires

pub inside-init : goal.inside-init
inside-init c = (start_read c.args.kind (chars (string_bytes c.new-out.result)) (chars c.args.text.now) (ap chars c.new-out.ensures.bytes ∙ chars-nil), c.utf8.text)

pub returns-then-c-close-clause-seen : goal.returns-then-c-close-clause-seen
returns-then-c-close-clause-seen c =
    let all = until_at (close_of c.args.kind) (one_of c.args.kind) (chars c.args.text.now) in
    let found = found_read c.args.class.now c.args.kind c.requires (chars (string_bytes c.inside.out)) (chars c.inside.rest.now) (chars c.in-Some.front.now) (chars c.in-Some.behind.now) c.in-Some.c all c.in-Some.ensures.found c.inside.invariant.0 in
    close_found c.args.kind (chars (string_bytes c.inside.out) ++ chars c.in-Some.front.now) (chars c.in-Some.behind.now) c.in-Some.c all found (c.if-c-close.true ∙ c.close_of-close.ensures)
    ∙ ap (λ (us : List ℕ). Some (pair us (chars c.in-Some.behind.now))) (sym (c.from_string.ensures ∙ c.in_ok-push_text.ensures))

pub returns-then-c-ne92-clause-seen : goal.returns-then-c-ne92-clause-seen
returns-then-c-ne92-clause-seen c =
    let all = until_at (close_of c.args.kind) (one_of c.args.kind) (chars c.args.text.now) in
    let found = found_read c.args.class.now c.args.kind c.requires (chars (string_bytes c.inside.out)) (chars c.inside.rest.now) (chars c.in-Some.front.now) (chars c.in-Some.behind.now) c.in-Some.c all c.in-Some.ensures.found c.inside.invariant.0 in
    bad_found c.args.class.now c.args.kind c.requires (chars (string_bytes c.inside.out) ++ chars c.in-Some.front.now) (chars c.in-Some.behind.now) c.in-Some.c all found c.in-Some.ensures.found.here
    (ne_eqb c.in-Some.c (close_of c.args.kind) (λ e. c.if-c-close.false (e ∙ sym c.close_of-close.ensures))) (ne_eqb c.in-Some.c 92 c.if-c-ne92.true)

pub returns-in_err-value-clause-seen : goal.returns-in_err-value-clause-seen
returns-in_err-value-clause-seen c =
    let all = until_at (close_of c.args.kind) (one_of c.args.kind) (chars c.args.text.now) in
    let found = found_read c.args.class.now c.args.kind c.requires (chars (string_bytes c.inside.out)) (chars c.inside.rest.now) (chars c.in-Some.front.now) (chars c.in-Some.behind.now) c.in-Some.c all c.in-Some.ensures.found c.inside.invariant.0 in
    let p = err_from_is_err_and c.from_residual-in_err-value.result c.from_residual-in_err-value.ensures.1 in
    let missing = escape_missing c.args.kind (chars (string_bytes c.inside.out) ++ chars c.in-Some.front.now) (chars c.in-Some.behind.now) c.in-Some.c all found c.if-c-ne92.false in
    rw (p.1, p.2) (fails_along c.in_err-value.field-0.0 (escape_of c.args.kind (chars c.in-Some.behind.now)) all c.in_err-value.ensures.seen missing)

pub inside-preserved : goal.inside-preserved
inside-preserved c =
    let all = until_at (close_of c.args.kind) (one_of c.args.kind) (chars c.args.text.now) in
    let found = found_read c.args.class.now c.args.kind c.requires (chars (string_bytes c.inside.out)) (chars c.inside.rest.now) (chars c.in-Some.front.now) (chars c.in-Some.behind.now) c.in-Some.c all c.in-Some.ensures.found c.inside.invariant.0 in
    let out = c.in_ok-push_char.ensures ∙ ap (λ (us : List ℕ). us ++ c.in_ok-value.value ∷ []) c.in_ok-push_text.ensures in (
      ap (λ (us : List ℕ). before us (until_at (close_of c.args.kind) (one_of c.args.kind) (chars c.in_ok-value.after.now))) out
          ∙ escape_found c.args.kind (chars (string_bytes c.inside.out) ++ chars c.in-Some.front.now) (chars c.in-Some.behind.now) (chars c.in_ok-value.after.now) c.in-Some.c c.in_ok-value.value all found c.if-c-ne92.false c.in_ok-value.ensures.seen,
      c.in_ok-value.ensures.utf8,
    )

pub returns-clause-seen : goal.returns-clause-seen
returns-clause-seen c =
    end_read c.args.class.now c.args.kind c.requires (chars (string_bytes c.inside.out)) (chars c.inside.rest.now) (until_at (close_of c.args.kind) (one_of c.args.kind) (chars c.args.text.now)) c.in_default.ensures.found c.inside.invariant.0
