use Rattle.std.proofs.Common.{◌∙◌, ap, List, ℕ}
use Rattle.std.specs.FinMap.{insert}
use Rattle.std.specs.Prelude.{is_ok}
use Rattle.outside_dm.specs.Files.{files_of, name_of}
use Rattle.outside_dm.proofs.Named.{HasDistinctNames-set, HasDistinctNames-pushed, files_of-set, files_of-push, get_or-at}
use Rattle.outside_dm.proofs.files.FileList.replace.Goals as goal

pub invariant_of-self : goal.invariant_of-self
invariant_of-self c =
    let first = rw c.as_slice.ensures.value at c.in-Some.ensures.found in
    HasDistinctNames-set c.self.inside.items.items c.in-Some.place first.file _ first.at
    (ap name_of (c.index_mut.ensures.value ∙ get_or-at c.self.inside.items.items c.in-Some.place first.file _ first.at)) c.self.invariant

pub invariant_of-self-in-None : goal.invariant_of-self-in-None
invariant_of-self-in-None c =
    let none = rw c.as_slice.ensures.value at c.in-None.ensures.none in
    HasDistinctNames-pushed (is_ok c.push.result) _ _ (record { name = c.in_ok-name-in-None.name; bytes = c.from_vec-bytes.result })
    c.push.ensures.items c.self.invariant (rw (← c.in_ok-name-in-None.ensures.bytes) at none)

pub returns-in-Some-clause-ok : goal.returns-in-Some-clause-ok
returns-in-Some-clause-ok c =
    let first = rw c.as_slice.ensures.value at c.in-Some.ensures.found in
    let renamed = ap name_of (c.index_mut.ensures.value ∙ get_or-at c.self.inside.items.items c.in-Some.place first.file _ first.at) ∙ first.named in
    files_of-set c.self.inside.items.items c.args.name.now c.in-Some.place _ first renamed
    ∙ rw (← c.self.view_is) (ap (λ (bytes : List ℕ). insert (files_of c.self.inside.items.items) c.args.name.now bytes) (c.from_vec-bytes.ensures ∙ c.in_ok-from_slice.ensures.items))

pub returns-in_ok-push-in-None-clause-ok : goal.returns-in_ok-push-in-None-clause-ok
returns-in_ok-push-in-None-clause-ok c =
    let none = rw c.as_slice.ensures.value at c.in-None.ensures.none in
    rw (c.in_ok-push-in-None.ensures.items, ← c.self.view_is)
    (files_of-push c.self.inside.items.items c.args.name.now _ none c.in_ok-name-in-None.ensures.bytes
    ∙ ap (λ (bytes : List ℕ). insert (files_of c.self.inside.items.items) c.args.name.now bytes) (c.from_vec-bytes.ensures ∙ c.in_ok-from_slice.ensures.items))
