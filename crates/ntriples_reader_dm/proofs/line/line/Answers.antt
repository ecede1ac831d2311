use Rattle.std.proofs.Common.{◌∙◌, ℕ, List, sym, Option, Result, Ok, Err, subst, chars}
use Rattle.std.specs.Prelude.{IsUtf8}
use Rattle.names_dm.specs.Statements.{Statement}
use Rattle.ntriples_reader_dm.specs.declared.fault.LineFault.{LineFault}
use Rattle.ntriples_reader_dm.specs.declared.fault.LineFault.TheVariants.{Memory, Bad}
use Rattle.ntriples_reader_dm.specs.Reading.{line_at}
use Rattle.ntriples_reader_dm.specs.Views.{Gives, IsLineAnswer}
use Rattle.ntriples_reader_dm.proofs.Exact.{none_some}
use Rattle.ntriples_reader_dm.proofs.Triples.{line_sound, line_complete}
use Rattle.ntriples_reader_dm.proofs.line.line.Goals as goal

answered : (bytes : List ℕ) (r : Result (Option Statement) LineFault) → IsUtf8 bytes → Gives (λ x. x) r (line_at (chars bytes)) → IsLineAnswer bytes r
answered bytes (Ok x) u g = (u, line_sound (chars bytes) x g)
answered bytes (Err Memory) u g = tt
answered bytes (Err Bad) u g = λ x p. none_some x (sym g ∙ line_complete (chars bytes) x p.1)

pub returns-in-Ok : goal.returns-in-Ok
returns-in-Ok c =
    let h = c.in-Ok.ensures.cases in
    answered c.args.bytes.now c.content.result h.1 (subst (λ (bs : List ℕ). Gives (λ x. x) c.content.result (line_at (chars bs))) h.0 c.content.ensures)
