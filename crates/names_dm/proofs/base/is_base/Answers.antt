use Rattle.std.proofs.Common.{◌≡◌, ◌&&◌, ◌||◌, [], ◌∷◌, ℕ, List, Bool, true, false, not, ap, refl}
use Rattle.names_dm.specs.Namespaces.{is_base, one_begins, owl, rdf, rdfs, xsd}
use Rattle.names_dm.specs.Terminals.{is_iri}
use Rattle.names_dm.proofs.base.is_base.Goals as goal

same_clash : (a b c d : Bool) → (((a || b) || c) || d) ≡ (a || (b || (c || (d || false))))
same_clash true b c d = refl
same_clash false true c d = refl
same_clash false false true d = refl
same_clash false false false true = refl
same_clash false false false false = refl

-- the empty text is a front of each namespace
conditions-empty : (is_iri [] && not (((one_begins [] rdf || one_begins [] rdfs) || one_begins [] owl) || one_begins [] xsd)) ≡ is_base []
unfolding is_base is_iri
conditions-empty = refl

conditions : (text : List ℕ) → (is_iri text && not (((one_begins text rdf || one_begins text rdfs) || one_begins text owl) || one_begins text xsd)) ≡ is_base text
unfolding is_base
conditions [] = conditions-empty
conditions (c ∷ cs) =
    ap (λ b. is_iri (c ∷ cs) && not b) (same_clash (one_begins (c ∷ cs) rdf) (one_begins (c ∷ cs) rdfs) (one_begins (c ∷ cs) owl) (one_begins (c ∷ cs) xsd))

pub returns : goal.returns
returns c =
    rw (c.is_iri.ensures, c.one_begins.ensures, c.one_begins-2.ensures, c.one_begins-3.ensures, c.one_begins-4.ensures, c.as_str-letters.ensures.chars)
    (conditions c.args.text.now)
