use Rattle.std.proofs.Common.{◌≡◌, ◌∙◌, sym, ap, refl, false, get_or, Some, slice_get, add-one}
use Rattle.std.specs.Option.{is_some}
use Rattle.std.proofs.lemmas.List.Quantifiers.{position-Some}
use Rattle.std.proofs.lemmas.Option.{slice_get-get_or}
use Rattle.std.proofs.lemmas.Map.Views.{list_any-from_Contains}
use Rattle.std.specs.List.{list_any}
use Rattle.names_dm.specs.contracts.term.TermPartialEq.TheImpl.{eq-value}
use Rattle.store_dm.proofs.Same.{term_equiv, term_same}
use Rattle.store_dm.proofs.dictionary.Dictionary.id_of.Goals as goal

pub returns-clause-places : goal.returns-clause-places
returns-clause-places c =
    let keys = c.self.inside.terms.keys in
    let i = c.in_ok-index.index in
    let p = position-Some _ keys i c.args.term.now (sym c.get_index_of.ensures.index ∙ c.in_ok-index.was) in
    let same : c.args.term.now ≡ get_or keys i c.args.term.now = term_same _ _ p.1 in
    let read : slice_get keys i ≡ Some c.args.term.now = slice_get-get_or keys i c.args.term.now p.0 ∙ ap Some (sym same) in
    rw (← c.self.view_is) (rw add-one read)

pub returns-clause-found : goal.returns-clause-found
returns-clause-found c =
    let keys = c.self.inside.terms.keys in
    let i = c.in_ok-index.index in
    let p = position-Some _ keys i c.args.term.now (sym c.get_index_of.ensures.index ∙ c.in_ok-index.was) in
    let same : c.args.term.now ≡ get_or keys i c.args.term.now = term_same _ _ p.1 in
    (λ _. rw (← c.self.view_is) (i, p.0, sym same), λ _. refl)

pub returns-in_err-index-clause-found : goal.returns-in_err-index-clause-found
returns-in_err-index-clause-found c =
    let gone : list_any (eq-value.it c.args.term.now) c.self.inside.terms.keys ≡ false = sym c.get_index_of.ensures.found ∙ ap is_some c.in_err-index.was in
    rw c.from_residual.ensures (λ none. cc none, λ has. cc (sym gone ∙ list_any-from_Contains term_equiv c.args.term.now c.self.inside.terms.keys (rw (← c.self.view_is) at has)))
