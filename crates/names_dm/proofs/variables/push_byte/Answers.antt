use Rattle.std.proofs.Common.{◌≡◌, ◌∙◌, ◌++◌, ◌∷◌, ◌/◌, ◌%◌, [], ap, arith, sym, true, false, string_bytes, append_assoc, List, ℕ}
use Rattle.std.specs.Fmt.{digit_glyph}
use Rattle.names_dm.specs.Terminals.{is_letter_or_digit}
use Rattle.names_dm.proofs.Ascii.{encode_one}
use Rattle.names_dm.proofs.VariableLaws.{digit_small, letter_small, letter_stays, other_byte_goes}
use Rattle.names_dm.proofs.variables.push_byte.Goals as goal

pub returns-then-is_letter_or_digit : goal.returns-then-is_letter_or_digit
returns-then-is_letter_or_digit c =
    let letter : is_letter_or_digit c.args.byte ≡ true = sym c.is_letter_or_digit.ensures ∙ c.if-is_letter_or_digit.true in
    rw (letter_stays c.args.byte letter) (c.in_ok-push.ensures.bytes ∙ ap (λ (t : List ℕ). string_bytes c.args.out.now ++ t) (encode_one c.args.byte (letter_small c.args.byte letter)))

three_more : (xs : List ℕ) (a b c : ℕ) → ((xs ++ a ∷ []) ++ b ∷ []) ++ c ∷ [] ≡ xs ++ a ∷ b ∷ c ∷ []
three_more xs a b c = append_assoc (xs ++ a ∷ []) (b ∷ []) (c ∷ []) ∙ append_assoc xs (a ∷ []) (b ∷ c ∷ [])

pub returns : goal.returns
returns c =
    let byte = c.args.byte in
    let other : is_letter_or_digit byte ≡ false = sym c.is_letter_or_digit.ensures ∙ c.if-is_letter_or_digit.false in
    let high = digit_glyph true (byte / 16) in
    let low = digit_glyph true (byte % 16) in
    rw (
      other_byte_goes byte (omega (arith, c.ranges.byte.fits)) other,
      c.in_ok-push-4.ensures.bytes,
      c.in_ok-push-3.ensures.bytes,
      c.in_ok-push-2.ensures.bytes,
      c.hexadecimal.ensures,
      c.hexadecimal-2.ensures,
      encode_one 95 (omega arith),
      encode_one high (digit_small (byte / 16) (omega (arith, c.ranges.byte.fits))),
      encode_one low (digit_small (byte % 16) (omega arith)),
    )
    (three_more (string_bytes c.args.out.now) 95 high low)
