use Rattle.std.proofs.Common.{◌∙◌, ◌↔◌, Bool, IsTrue, subst, sym}
use Rattle.std.proofs.lemmas.Result.{IfOk-weaker}
use Rattle.names_dm.specs.declared.term.Term.{Term}
use Rattle.layouts_dm.specs.Layouts.{IsCanonical}
use Rattle.roles_dm.specs.Canonical.{IsCanonicalOf}
use Rattle.roles_dm.proofs.CanonicalLemmas.{literal_told}
use Rattle.roles_dm.proofs.canonical.is_canonical.Goals as goal

pub returns : goal.returns
returns c = IfOk-weaker c.is_form.result
    (λ (told : Bool). IsTrue told ↔ IsCanonical (record { kind = c.args.kind; text = c.text.result.now }))
    (λ (told : Bool). IsTrue told ↔ IsCanonicalOf c.args.kind c.args.term.now)
    (λ told test. subst (λ (x : Term). IsTrue told ↔ IsCanonicalOf c.args.kind x) (sym c.in-Literal.is)
    (literal_told c.args.kind c.in-Literal.literal told (sym c.kind.ensures.kind ∙ c.is_type_of.ensures.0 c.if-not-is_type_of.false) (subst (λ text. IsTrue told ↔ IsCanonical (record { kind = c.args.kind; text = text })) c.text.ensures test)))
    c.is_form.ensures
