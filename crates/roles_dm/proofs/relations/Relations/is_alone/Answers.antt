use Rattle.std.proofs.Common.{◌≡◌, ◌∙◌, ◌↔◌, ℕ, Some, None, true, false, sym, ap, IsTrue}
use Rattle.std.specs.Option.{option_copied}
use Rattle.std.proofs.Common.{◌==◌}
use Rattle.std.proofs.lemmas.Bool.{eq-eqb, eqb-true}
use Rattle.roles_dm.proofs.RelationLemmas.{alone_told}
use Rattle.roles_dm.proofs.relations.Relations.is_alone.Goals as goal

one : (a b : ℕ) → IsTrue (a == b) ↔ (Some a ≡ Some b)
one a b = ((λ e. ap Some (eqb-true a b e)), (λ e. eq-eqb a b (cc e)))

none : (b : ℕ) → IsTrue false ↔ (None ≡ Some b)
none b = ((λ e. absurd (let f : false ≡ true = e in cc)), (λ e. absurd (cc e)))

pub returns-in-Some : goal.returns-in-Some
returns-in-Some c base G g laws h s =
    alone_told base laws g G c.args.self.now c.args.table.now c.args.number (Some c.in-Some.only.now) h (sym c.get.ensures.value ∙ ap option_copied c.in-Some.is) s (c.in-Some.only.now == c.args.number) (one c.in-Some.only.now c.args.number)

pub returns-in-None : goal.returns-in-None
returns-in-None c base G g laws h s = alone_told base laws g G c.args.self.now c.args.table.now c.args.number None h (sym c.get.ensures.value ∙ ap option_copied c.in-None.is) s false (none c.args.number)
