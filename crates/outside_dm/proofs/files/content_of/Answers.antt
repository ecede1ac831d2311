use Rattle.std.proofs.Common.{◌∙◌, sym, ap, Some, List, ℕ}
use Rattle.outside_dm.specs.declared.files.NamedFile.{NamedFile}
use Rattle.outside_dm.proofs.Named.{get-files_of_first, get-files_of_none, get_or-at}
use Rattle.outside_dm.proofs.files.content_of.Goals as goal

pub returns-in-Some : goal.returns-in-Some
returns-in-Some c =
    let first = c.in-Some.ensures.found in
    ap (λ (bytes : List ℕ). Some bytes) (c.as_slice.ensures ∙ ap (λ (file : NamedFile). file.bytes) (get_or-at c.args.files.now c.in-Some.place first.file c.index-files-place.result first.at))
    ∙ sym (get-files_of_first c.args.files.now c.args.name.now c.in-Some.place first)

pub returns-in-None : goal.returns-in-None
returns-in-None c = sym (get-files_of_none _ _ c.in-None.ensures.none)
