use Rattle.std.proofs.Common.{◌≡◌, ◌∙◌, ap, sym, refl, true, false, not}
use Rattle.value_dm.specs.declared.kind.Kind.{Kind}
use Rattle.value_dm.specs.declared.kind.Kind.TheVariants as kind
use Rattle.value_dm.specs.contracts.kind.Kind.{the_type}
use Rattle.names_dm.specs.declared.literal.LiteralType.TheVariants as type
use Rattle.facts_dm.specs.Vocabulary.{datatype_iri, literal_type}
use Rattle.graph_tables_dm.proofs.cells.has_type.Goals as goal
use denote.Enum.Bare.{sameb}

typed : (k : Kind) → true ≡ not (sameb the_type k kind.Text) → literal_type k ≡ type.Typed (datatype_iri k)
typed kind.Text e = absurd (let f : true ≡ false = e in cc)
typed kind.Integer e = refl
typed kind.Decimal e = refl
typed kind.Boolean e = refl
typed kind.Date e = refl
typed kind.Time e = refl
typed kind.DateTime e = refl
typed kind.Binary e = refl

pub returns-then-ne : goal.returns-then-ne
returns-then-ne c =
    let same : c.args.literal.now.kind ≡ type.Typed c.in-Typed.datatype = sym c.kind.ensures.kind ∙ c.in-Typed.is in
    let is : literal_type c.args.kind ≡ type.Typed (datatype_iri c.args.kind) = typed c.args.kind c.if-ne.ensures in (
      (λ h. same ∙ ap type.Typed (c.is_datatype.ensures.0 h) ∙ sym is),
      (λ e. c.is_datatype.ensures.1 (let f : type.Typed c.in-Typed.datatype ≡ type.Typed (datatype_iri c.args.kind) = sym same ∙ e ∙ is in cc)),
    )
