-- Which first tokens shut one another out.
use Rattle.std.proofs.Common.{◌≡◌, ◌∙◌, Bool, true, false, refl, sym, ap}
use Rattle.std.specs.Prelude.{bytes_eq, is_some}
use Rattle.std.specs.Cmp.Lexicographic.{bytes_decides}
use Rattle.sparql_tokens_dm.specs.Characters.{sign_text, spelling}
use Rattle.sparql_tokens_dm.specs.declared.token.Keyword.{Keyword}
use Rattle.sparql_tokens_dm.specs.declared.token.Sign.{Sign}
use Rattle.sparql_tokens_dm.specs.declared.token.Token.{Token}
use Rattle.sparql_tokens_dm.specs.declared.token.Token.TheVariants as tokens
use Rattle.sparql_tokens_dm.specs.declared.token.Placed.{Placed}
use Rattle.sparql_text_dm.specs.Words.{asked, is_operand, is_sign, is_variable_token, is_word, operand_of, sign_of, variable_of, word_of}

asked_is : (b : Bool) → is_some (asked b) ≡ b
asked_is true = refl
asked_is false = refl

word_not_word : (a b : Keyword) → bytes_eq (spelling a) (spelling b) ≡ false → (k : Token) → is_some (word_of a k) ≡ true → is_some (word_of b k) ≡ false
word_not_word a b n (tokens.Word w) e =
    let same = (bytes_decides (spelling w) (spelling a)).0 (sym (asked_is (bytes_eq (spelling w) (spelling a))) ∙ e) in
    asked_is (bytes_eq (spelling w) (spelling b)) ∙ ap (λ us. bytes_eq us (spelling b)) same ∙ n
word_not_word a b n (tokens.Sign s) e = absurd cc
word_not_word a b n (tokens.Var x) e = absurd cc
word_not_word a b n (tokens.Iri i) e = absurd cc
word_not_word a b n (tokens.Literal l) e = absurd cc

sign_not_sign : (a b : Sign) → bytes_eq (sign_text a) (sign_text b) ≡ false → (k : Token) → is_some (sign_of a k) ≡ true → is_some (sign_of b k) ≡ false
sign_not_sign a b n (tokens.Sign s) e =
    let same = (bytes_decides (sign_text s) (sign_text a)).0 (sym (asked_is (bytes_eq (sign_text s) (sign_text a))) ∙ e) in
    asked_is (bytes_eq (sign_text s) (sign_text b)) ∙ ap (λ us. bytes_eq us (sign_text b)) same ∙ n
sign_not_sign a b n (tokens.Word w) e = absurd cc
sign_not_sign a b n (tokens.Var x) e = absurd cc
sign_not_sign a b n (tokens.Iri i) e = absurd cc
sign_not_sign a b n (tokens.Literal l) e = absurd cc

word_not_sign : (a : Keyword) (b : Sign) (k : Token) → is_some (word_of a k) ≡ true → is_some (sign_of b k) ≡ false
word_not_sign a b (tokens.Word w) e = refl
word_not_sign a b (tokens.Sign s) e = absurd cc
word_not_sign a b (tokens.Var x) e = refl
word_not_sign a b (tokens.Iri i) e = refl
word_not_sign a b (tokens.Literal l) e = refl

sign_not_word : (a : Sign) (b : Keyword) (k : Token) → is_some (sign_of a k) ≡ true → is_some (word_of b k) ≡ false
sign_not_word a b (tokens.Word w) e = absurd cc
sign_not_word a b (tokens.Sign s) e = refl
sign_not_word a b (tokens.Var x) e = refl
sign_not_word a b (tokens.Iri i) e = refl
sign_not_word a b (tokens.Literal l) e = refl

operand_not_word : (b : Keyword) (k : Token) → is_some (operand_of k) ≡ true → is_some (word_of b k) ≡ false
operand_not_word b (tokens.Word w) e = absurd cc
operand_not_word b (tokens.Sign s) e = refl
operand_not_word b (tokens.Var x) e = refl
operand_not_word b (tokens.Iri i) e = refl
operand_not_word b (tokens.Literal l) e = refl

operand_not_sign : (b : Sign) (k : Token) → is_some (operand_of k) ≡ true → is_some (sign_of b k) ≡ false
operand_not_sign b (tokens.Sign s) e = absurd cc
operand_not_sign b (tokens.Word w) e = refl
operand_not_sign b (tokens.Var x) e = refl
operand_not_sign b (tokens.Iri i) e = refl
operand_not_sign b (tokens.Literal l) e = refl

sign_not_operand : (b : Sign) (k : Token) → is_some (sign_of b k) ≡ true → is_some (operand_of k) ≡ false
sign_not_operand b (tokens.Sign s) e = refl
sign_not_operand b (tokens.Word w) e = refl
sign_not_operand b (tokens.Var x) e = absurd cc
sign_not_operand b (tokens.Iri i) e = absurd cc
sign_not_operand b (tokens.Literal l) e = absurd cc

variable_not_word : (b : Keyword) (k : Token) → is_some (variable_of k) ≡ true → is_some (word_of b k) ≡ false
variable_not_word b (tokens.Word w) e = absurd cc
variable_not_word b (tokens.Sign s) e = refl
variable_not_word b (tokens.Var x) e = refl
variable_not_word b (tokens.Iri i) e = refl
variable_not_word b (tokens.Literal l) e = refl

sign_not_variable : (b : Sign) (k : Token) → is_some (sign_of b k) ≡ true → is_some (variable_of k) ≡ false
sign_not_variable b (tokens.Sign s) e = refl
sign_not_variable b (tokens.Word w) e = refl
sign_not_variable b (tokens.Var x) e = absurd cc
sign_not_variable b (tokens.Iri i) e = absurd cc
sign_not_variable b (tokens.Literal l) e = absurd cc

pub words : (a b : Keyword) → bytes_eq (spelling a) (spelling b) ≡ false → (t : Placed) → is_word a t ≡ true → is_word b t ≡ false
words a b n t e = word_not_word a b n t.token e

pub signs : (a b : Sign) → bytes_eq (sign_text a) (sign_text b) ≡ false → (t : Placed) → is_sign a t ≡ true → is_sign b t ≡ false
signs a b n t e = sign_not_sign a b n t.token e

pub word_sign : (a : Keyword) (b : Sign) (t : Placed) → is_word a t ≡ true → is_sign b t ≡ false
word_sign a b t e = word_not_sign a b t.token e

pub sign_word : (a : Sign) (b : Keyword) (t : Placed) → is_sign a t ≡ true → is_word b t ≡ false
sign_word a b t e = sign_not_word a b t.token e

pub operand_word : (b : Keyword) (t : Placed) → is_operand t ≡ true → is_word b t ≡ false
operand_word b t e = operand_not_word b t.token e

pub operand_sign : (b : Sign) (t : Placed) → is_operand t ≡ true → is_sign b t ≡ false
operand_sign b t e = operand_not_sign b t.token e

pub sign_operand : (b : Sign) (t : Placed) → is_sign b t ≡ true → is_operand t ≡ false
sign_operand b t e = sign_not_operand b t.token e

pub variable_word : (b : Keyword) (t : Placed) → is_variable_token t ≡ true → is_word b t ≡ false
variable_word b t e = variable_not_word b t.token e

pub sign_variable : (b : Sign) (t : Placed) → is_sign b t ≡ true → is_variable_token t ≡ false
sign_variable b t e = sign_not_variable b t.token e
