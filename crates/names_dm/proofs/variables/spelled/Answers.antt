use Rattle.std.proofs.Common.{◌≡◌, ◌∙◌, ◌<◌, ◌≤◌, sym, ap, arith, length, take, get_or, string_bytes, flat_map, chars, ℕ}
use Rattle.std.proofs.lemmas.List.{take_all}
use Rattle.std.proofs.lemmas.Str.{chars-IsAscii, encodes-chars}
use Rattle.names_dm.specs.Variables.{variable_byte}
use Rattle.names_dm.proofs.VariableLaws.{bytes_fit, fits_ascii, is_variable-bytes}
use Rattle.names_dm.proofs.variables.spelled.Goals as goal

pub returns-clause-text : goal.returns-clause-text
returns-clause-text c =
    let name = c.args.name.now in
    let small : (i : ℕ) → get_or name i 0 < 256 = λ i. omega (arith, c.type_inv.name i) in
    let past : length name ≤ c.loop-byte.byte-index = rw c.as_bytes-byte-items.ensures.value at c.loop-byte-test.false in
    let all : take c.loop-byte.byte-index name ≡ name = take_all c.loop-byte.byte-index name past in
    let written : string_bytes c.loop-byte.out ≡ flat_map variable_byte name = c.loop-byte.invariant ∙ ap (flat_map variable_byte) all in
    c.in_ok-text.ensures.chars ∙ ap chars (c.as_str.ensures.value ∙ written)
    ∙ chars-IsAscii (flat_map variable_byte name) (fits_ascii (flat_map variable_byte name) (bytes_fit name small))
    ∙ ap (flat_map variable_byte) (sym (encodes-chars name c.utf8.name))

pub returns-clause-grammar : goal.returns-clause-grammar
returns-clause-grammar c =
    let name = c.args.name.now in
    let small : (i : ℕ) → get_or name i 0 < 256 = λ i. omega (arith, c.type_inv.name i) in
    let past : length name ≤ c.loop-byte.byte-index = rw c.as_bytes-byte-items.ensures.value at c.loop-byte-test.false in
    let all : take c.loop-byte.byte-index name ≡ name = take_all c.loop-byte.byte-index name past in
    let written : string_bytes c.loop-byte.out ≡ flat_map variable_byte name = c.loop-byte.invariant ∙ ap (flat_map variable_byte) all in
    let made : c.in_ok-text.text ≡ flat_map variable_byte name =
    c.in_ok-text.ensures.chars ∙ ap chars (c.as_str.ensures.value ∙ written) ∙ chars-IsAscii (flat_map variable_byte name) (fits_ascii (flat_map variable_byte name) (bytes_fit name small)) in
    rw made (is_variable-bytes name c.requires small)
