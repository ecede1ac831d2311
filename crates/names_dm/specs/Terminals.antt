-- The texts of IRIs, blank node labels and language tags: the terminals of RDF 1.1 N-Triples, section 7 "Grammar", and
-- the names of variables.
use Prim.Native.Char.{code}
use Rattle.std.specs.Prelude.{ℕ, ◌==◌, ◌||◌, ◌&&◌, Bool, false, not, List, [], ◌∷◌, if◌then◌else◌}
use Rattle.std.specs.List.{list_any, list_all}
use Rattle.names_dm.specs.Characters.{between, is_ascii, is_ascii_digit, is_ascii_letter}

-- IRIREF: a control, a space, or one of `<`, `>`, `"`, `{`, `}`, `|`, `^`, the grave accent and `\`
abbrev pub is_forbidden : ℕ → Bool
is_forbidden c = between 0 (code " ") c || (c == code "<") || (c == code ">") || (c == code "\"") || (c == code "{") || (c == code "}") || (c == code "|") || (c == code "^") || (c == code "`") || (c == code "\\")

-- IRIREF: what stands between the brackets, its escapes read
unfoldable pub is_iri : List ℕ → Bool
is_iri text = not (list_any is_forbidden text)

-- an ASCII character that an IRI can hold
abbrev pub is_mark : ℕ → Bool
is_mark c = is_ascii c && not (is_forbidden c)

-- PN_CHARS_BASE
abbrev pub is_pn_base : ℕ → Bool
is_pn_base c = is_ascii_letter c || between 0xC0 0xD6 c || between 0xD8 0xF6 c || between 0xF8 0x2FF c || between 0x370 0x37D c
    || between 0x37F 0x1FFF c || between 0x200C 0x200D c || between 0x2070 0x218F c || between 0x2C00 0x2FEF c
    || between 0x3001 0xD7FF c || between 0xF900 0xFDCF c || between 0xFDF0 0xFFFD c || between 0x10000 0xEFFFF c

-- PN_CHARS_U
abbrev pub is_pn_u : ℕ → Bool
is_pn_u c = is_pn_base c || (c == code "_") || (c == code ":")

-- PN_CHARS
abbrev pub is_pn : ℕ → Bool
is_pn c = is_pn_u c || (c == code "-") || is_ascii_digit c || (c == 0xB7) || between 0x300 0x36F c || between 0x203F 0x2040 c

-- BLANK_NODE_LABEL: its first character, and each of the further ones
unfoldable pub begins_label : ℕ → Bool
begins_label c = is_pn_u c || is_ascii_digit c

unfoldable pub continues_label : ℕ → Bool
continues_label c = is_pn c || (c == code ".")

-- the last character of a text that begins with c
abbrev pub last_of : ℕ → List ℕ → ℕ
last_of c [] = c
last_of c (d ∷ ds) = last_of d ds

-- BLANK_NODE_LABEL: what follows `_:`
abbrev pub is_label : List ℕ → Bool
is_label [] = false
is_label (c ∷ cs) = begins_label c && list_all continues_label cs && not (last_of c cs == code ".")

-- the parts of a text between its hyphens
abbrev pub into_first : ℕ → List (List ℕ) → List (List ℕ)
into_first c [] = (c ∷ []) ∷ []
into_first c (word ∷ words) = (c ∷ word) ∷ words

abbrev pub hyphen_parts : List ℕ → List (List ℕ)
hyphen_parts [] = [] ∷ []
hyphen_parts (c ∷ cs) = if c == code "-" then [] ∷ hyphen_parts cs else into_first c (hyphen_parts cs)

abbrev pub is_letter_or_digit : ℕ → Bool
is_letter_or_digit c = is_ascii_letter c || is_ascii_digit c

-- one or more characters that pass the test
abbrev pub is_word_of : (ℕ → Bool) → List ℕ → Bool
is_word_of test [] = false
is_word_of test (c ∷ cs) = test c && list_all test cs

abbrev pub are_tag_parts : List (List ℕ) → Bool
are_tag_parts [] = false
are_tag_parts (first ∷ others) = is_word_of is_ascii_letter first && list_all (is_word_of is_letter_or_digit) others

-- LANGTAG: what follows `@`, letters, and then any number of `-` with letters or digits
unfoldable pub is_tag : List ℕ → Bool
is_tag text = are_tag_parts (hyphen_parts text)

-- a variable's name: one or more ASCII letters, digits and `_` (within VARNAME of SPARQL 1.1 Query, section 19.8)
abbrev pub is_variable_character : ℕ → Bool
is_variable_character c = is_letter_or_digit c || (c == code "_")

unfoldable pub is_variable : List ℕ → Bool
is_variable text = is_word_of is_variable_character text
