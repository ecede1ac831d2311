-- The kinds of characters of which tokens are made. Letters and digits are ASCII; every character beyond
-- ASCII but the byte order mark is a letter of a bare word.
use Rattle.std.specs.Prelude.{ℕ, Bool, ◌==◌, ◌||◌, ◌&&◌, not, nat_le}
use Rattle.ddl_tokens_dm.specs.declared.token.Sign.{Sign}
use Rattle.ddl_tokens_dm.specs.declared.token.Sign.TheVariants.{Open, Close, Comma, Semicolon}

abbrev pub character : Sign → ℕ
character Open = 40
character Close = 41
character Comma = 44
character Semicolon = 59

abbrev pub byte_order_mark : ℕ
byte_order_mark = 0xFEFF

-- space, tab, CR, LF, form feed
abbrev pub is_space : ℕ → Bool
is_space c = c == 32 || c == 9 || c == 13 || c == 10 || c == 12

-- no CR and no LF
abbrev pub in_line : ℕ → Bool
in_line c = not (c == 10 || c == 13)

abbrev pub is_digit : ℕ → Bool
is_digit c = nat_le 48 c && nat_le c 57

-- a letter, _ or a character beyond ASCII
abbrev pub begins_word : ℕ → Bool
begins_word c = (nat_le 65 c && nat_le c 90) || (nat_le 97 c && nat_le c 122) || c == 95 || (nat_le 128 c && not (c == byte_order_mark))

-- these, digits and $
abbrev pub in_word : ℕ → Bool
in_word c = begins_word c || is_digit c || c == 36
