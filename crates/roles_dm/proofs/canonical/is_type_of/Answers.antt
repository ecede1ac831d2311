use Rattle.std.proofs.Common.{◌≡◌, ◌↔◌, IsTrue, false, subst, sym}
use Rattle.names_dm.specs.declared.literal.LiteralType.{LiteralType}
use Rattle.facts_dm.specs.Vocabulary.{literal_type}
use Rattle.roles_dm.proofs.CanonicalLemmas.{plain_told, tagged_told}
use Rattle.roles_dm.proofs.canonical.is_type_of.Goals as goal

pub returns-in-Plain : goal.returns-in-Plain
returns-in-Plain c = subst (λ (t : LiteralType). IsTrue c.is_text.result ↔ (t ≡ literal_type c.args.kind)) (sym c.in-Plain.is) (plain_told c.args.kind c.is_text.result c.is_text.ensures)

pub returns-in-Typed : goal.returns-in-Typed
returns-in-Typed c = subst (λ (t : LiteralType). IsTrue c.is_typed.result ↔ (t ≡ literal_type c.args.kind)) (sym c.in-Typed.is) c.is_typed.ensures

pub returns-in-Tagged : goal.returns-in-Tagged
returns-in-Tagged c = subst (λ (t : LiteralType). IsTrue false ↔ (t ≡ literal_type c.args.kind)) (sym c.in-Tagged.is) (tagged_told c.args.kind c.in-Tagged.field-0)
