-- A run of the characters of names is a variable's name where it isn't empty.
use Rattle.std.proofs.Common.{◌≡◌, ◌∙◌, ℕ, List, [], ◌∷◌, true, refl, sym, ap, subst}
use Rattle.std.specs.List.{list_all}
use Rattle.names_dm.specs.Terminals.{is_variable, is_variable_character}
use Rattle.ddl_tokens_dm.specs.Scanning.{run_of}
use Rattle.ddl_tokens_dm.proofs.Scans.{run_is}
use Rattle.sparql_tokens_dm.specs.Scanning.{Lexeme, variable_lexeme}
use Rattle.sparql_tokens_dm.specs.Scanning.Lexeme.{Found, Bad}
use Rattle.sparql_tokens_dm.specs.declared.token.Token.TheVariants.{Var}

abbrev variable_by : List ℕ × List ℕ → Lexeme
variable_by x = variable_lexeme x.0 x.1

abbrev pair : List ℕ → List ℕ → List ℕ × List ℕ
pair a b = (a, b)

named : (name rest : List ℕ) → is_variable name ≡ true → Found (Var name) rest ≡ variable_lexeme name rest
unfolding is_variable
named [] rest e = absurd cc
named (c ∷ cs) rest e = refl

pub variable_made : (text name rest x : List ℕ) → pair name rest ≡ run_of is_variable_character text → x ≡ name → is_variable name ≡ true → Found (Var x) rest ≡ variable_lexeme (run_of is_variable_character text).0 (run_of is_variable_character text).1
variable_made text name rest x run same e = ap (λ us. Found (Var us) rest) same ∙ named name rest e ∙ ap variable_by run

unnamed : (name rest : List ℕ) → list_all is_variable_character name ≡ true → (is_variable name ≡ true → ⊥) → Bad ≡ variable_lexeme name rest
unfolding is_variable
unnamed [] rest p h = refl
unnamed (c ∷ cs) rest p h = absurd (h p)

pub no_variable : (text name rest : List ℕ) → pair name rest ≡ run_of is_variable_character text → (is_variable name ≡ true → ⊥) → Bad ≡ variable_lexeme (run_of is_variable_character text).0 (run_of is_variable_character text).1
no_variable text name rest run h =
    let name_is = ap (λ (x : List ℕ × List ℕ). x.0) run in
    unnamed name rest (subst (λ (us : List ℕ). list_all is_variable_character us ≡ true) (sym name_is) (run_is is_variable_character text).pass) h ∙ ap variable_by run
