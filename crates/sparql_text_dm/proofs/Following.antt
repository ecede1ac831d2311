-- Functions that go on behind a part that was read.
use Rattle.std.proofs.Common.{◌≡◌, List, Ok, Err, subst, sym}
use Rattle.std.specs.Borrow.{Bor}
use Rattle.grammar_dm.specs.declared.read_error.ReadError.{ReadError}
use Rattle.grammar_dm.specs.Exits.{Gives}
use Rattle.grammar_dm.specs.Reading.{◌>>=◌, Answer}
use Rattle.sparql_tokens_dm.specs.declared.token.Placed.{Placed}
use Rattle.sparql_text_dm.specs.Following.{Found, GoesOn}
use Rattle.sparql_text_dm.proofs.Exits.{fails_first}

-- the part was read
pub goes_on : {V W : Type 0} (part : Found V) (next : V × List Placed → Answer Placed W) (result : Found W) (x : V × Bor (List Placed)) → part ≡ Ok x
    → Gives (λ y. (y.0, y.1.now)) result (next (x.0, x.1.now)) → GoesOn part next result
goes_on {V} {W} part next result x was h read gives =
    let e : read ≡ Ok (x.0, x.1.now) = subst (λ (p : Found V). Gives (λ y. (y.0, y.1.now)) p read) was gives in
    subst (λ (a : Answer Placed V). Gives (λ y. (y.0, y.1.now)) result (a >>= next)) (sym e) h

-- it wasn't
pub goes_no_further : {V W : Type 0} (part : Found V) (next : V × List Placed → Answer Placed W) (e : ReadError Placed) → part ≡ Err e → GoesOn part next (Err e)
goes_no_further {V} {W} part next e was read gives = fails_first e read next (subst (λ (p : Found V). Gives (λ y. (y.0, y.1.now)) p read) was gives)
