use Rattle.std.proofs.Common.{◌∙◌, ◌++◌, ap, chars, List, ℕ, string_bytes}
use Rattle.std.proofs.lemmas.Str.{IsUtf8-string_bytes, chars-IsAscii, chars-append}
use Rattle.names_dm.proofs.SafeForms.{is_iri-append, is_iri-marks, marks_ascii}
use Rattle.names_dm.proofs.spelling.Spelling.with.Goals as goal

pub invariant_of-result : goal.invariant_of-result
invariant_of-result c =
    let old = string_bytes c.self.inside.string in
    let marks = c.args.marks.now in
    rw (c.in_ok-push_str.ensures.bytes, chars-append old marks (IsUtf8-string_bytes c.self.inside.string), chars-IsAscii marks (marks_ascii marks c.requires))
    (is_iri-append (chars old) marks c.self.invariant (is_iri-marks marks c.requires))

pub returns : goal.returns
returns c =
    let old = string_bytes c.self.inside.string in
    let marks = c.args.marks.now in
    ap chars c.in_ok-push_str.ensures.bytes ∙ chars-append old marks (IsUtf8-string_bytes c.self.inside.string)
    ∙ ap (λ (t : List ℕ). chars old ++ t) (chars-IsAscii marks (marks_ascii marks c.requires)) ∙ ap (λ (t : List ℕ). t ++ marks) c.self.view_is
