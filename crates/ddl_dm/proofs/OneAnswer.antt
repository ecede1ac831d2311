-- A file of statements has one right answer, besides want of memory.
use Rattle.std.proofs.Common.{◌≡◌, ◌∙◌, ℕ, ◌+◌, List, [], ◌∷◌, length, Option, Some, None, Result, Ok, Err, Bool, true, false, ◌&&◌, refl, sym, ap, subst, inl, inr, ◌⊎◌, cond}
use Rattle.std.specs.Prelude.{IsUtf8}
use Rattle.std.specs.Str.{IsValidUpTo}
use Rattle.std.proofs.lemmas.Str.{utf8_valid_len-IsValidUpTo}
use Rattle.grammar_dm.specs.Part.{Spells, Begins, Marks}
use Rattle.grammar_dm.specs.Reading.{all_of}
use Rattle.grammar_dm.specs.Verdict.{Fault, Suffix, IsFirstFault, Judges}
use Rattle.grammar_dm.specs.Verdict.Suffix.{all_left, less_left}
use Rattle.grammar_dm.proofs.Fronts.{whole_begins, less_begins, suffix_trans, one_fault}
use Rattle.grammar_dm.proofs.Laws.{judges}
use Rattle.schema_dm.specs.declared.table.Table.{Table}
use Rattle.schema_dm.proofs.Refusals.{lawful_not_refused, refusal_unique}
use Rattle.ddl_tokens_dm.specs.declared.token.Placed.{Placed}
use Rattle.ddl_tokens_dm.specs.Tokens.{AreTokens}
use Rattle.ddl_tokens_dm.proofs.Unique.{only_tokens}
use Rattle.ddl_syntax_dm.specs.declared.syntax.Statement.{Statement}
use Rattle.ddl_syntax_dm.specs.declared.file.SyntaxError.{SyntaxError}
use Rattle.ddl_syntax_dm.specs.declared.file.SyntaxError.TheVariants as syntax
use Rattle.ddl_syntax_dm.specs.Grammar.{file}
use Rattle.ddl_syntax_dm.specs.Reading.{file_at}
use Rattle.ddl_syntax_dm.specs.Answer.{is_bare_word, IsTypeFault, IsFile, IsFault, IsTold, fault_told, whole_told}
use Rattle.ddl_syntax_dm.proofs.StatementReaders.{file_more, file_reads}
use Rattle.ddl_dm.specs.declared.ddl.DdlError.{DdlError}
use Rattle.ddl_dm.specs.declared.ddl.DdlError.TheVariants.{Memory, NotUtf8, BadToken, Unexpected, UnknownType, AlterUnknown, Schema}
use Rattle.ddl_dm.specs.Meaning.{drafts_of}
use Rattle.ddl_dm.specs.Schema.{IsDeclared, IsDdl, IsDdlFault, syntax_told, IsSchemaRead}

-- ---- tokens

abbrev pub ReadTokens : Type 0
ReadTokens = Result (List Statement) SyntaxError

abbrev pub IsSyntaxAnswer : ReadTokens → Type 0
IsSyntaxAnswer (Ok v) = Unit {0}
IsSyntaxAnswer (Err syntax.Memory) = ⊥
IsSyntaxAnswer (Err e) = Unit {0}

abbrev fault_answer : List Placed → Bool → Option ℕ → ℕ → ReadTokens
fault_answer rest marked stop end = Err (fault_told rest marked stop end)

-- what is answered of tokens that were judged so
abbrev pub answer_by : Result (List Statement) (Fault Placed) → Option ℕ → ℕ → ReadTokens
answer_by (Ok v) stop end = whole_told v stop
answer_by (Err fault) stop end = fault_answer fault.rest fault.marked stop end

nil_left : {T : Type 0} (ts : List T) → Suffix ts []
nil_left [] = all_left
nil_left (t ∷ ts) = less_left (nil_left ts)

-- tokens with a fault at a token are the front of no file
no_front : {W : Type 0} (ts rest : List Placed) (t : Placed) → IsFirstFault file ts (t ∷ rest) → Begins file ts [] → W
no_front ts rest t h begun = absurd (h.stops (less_begins file ts rest [] begun (suffix_trans h.is_rest (less_left all_left)) (nil_left rest)))

module _ (ts : List Placed) (stop : Option ℕ) (end : ℕ) where
  token_answer : (t : Placed) (others rest : List Placed) (marked word : Bool) → others ≡ t ∷ rest → (marked && is_bare_word t) ≡ word
      → fault_answer others marked stop end ≡ Err (cond word (syntax.UnknownType t.place) (syntax.Unexpected t.place))
  token_answer t others rest marked word is told = rw (is, told) refl

  -- a token that is no bare word in the place of a type
  other_token : (t : Placed) (rest others : List Placed) (marked : Bool) → others ≡ t ∷ rest → (marked ≡ true → Marks file ts others) → (IsTypeFault ts t rest → ⊥)
      → (marked && is_bare_word t) ≡ false
  other_token t rest others false is marks other = refl
  other_token t rest others true is marks other = by_word (is_bare_word t) refl
    where
      by_word : (b : Bool) → is_bare_word t ≡ b → b ≡ false
      by_word false e = refl
      by_word true e = absurd (other (e, subst (λ (us : List Placed). Marks file ts us) is (marks refl)))

  type_token : (t : Placed) (rest others : List Placed) (marked : Bool) → others ≡ t ∷ rest → (Marks file ts others → marked ≡ true) → IsTypeFault ts t rest
      → (marked && is_bare_word t) ≡ true
  type_token t rest others marked is marks h = rw (marks (subst (λ (us : List Placed). Marks file ts us) (sym is) h.1), h.0) refl

  at_end : (rest : List Placed) (marked : Bool) (told : Option ℕ) (e : SyntaxError) → rest ≡ [] → stop ≡ told → fault_told [] marked told end ≡ e → fault_answer rest marked stop end ≡ Err e
  at_end rest marked told e is stops gives = rw (is, stops, gives) refl

  -- the answer to tokens is the one of how they are judged
  told_is : (judged : Result (List Statement) (Fault Placed)) → Judges file ts judged → (answer : ReadTokens) → IsSyntaxAnswer answer → IsTold ts stop end answer → answer ≡ answer_by judged stop end
  told_is (Ok u) j (Ok v) some h = rw h.0 (ap Ok (j.1 v h.1.0))
  told_is (Ok u) j (Err syntax.Memory) some h = absurd some
  told_is (Ok u) j (Err (syntax.NotUtf8 place)) some h = absurd h
  told_is (Ok u) j (Err (syntax.BadToken place)) some h = rw h.0 refl
  told_is (Ok u) j (Err (syntax.Unexpected place)) some (inl h) = no_front ts h.1 h.0 h.2 (whole_begins file ts [] u j.0)
  told_is (Ok u) j (Err (syntax.Unexpected place)) some (inr h) = absurd (h.1.stops u j.0)
  told_is (Ok u) j (Err (syntax.UnknownType place)) some h = no_front ts h.1 h.0 h.2 (whole_begins file ts [] u j.0)
  told_is (Err f) j (Ok v) some h = absurd (j.1 v h.1.0)
  told_is (Err f) j (Err syntax.Memory) some h = absurd some
  told_is (Err f) j (Err (syntax.NotUtf8 place)) some h = absurd h
  told_is (Err f) j (Err (syntax.BadToken place)) some h = by_rest f.rest refl
    where
      by_rest : (rest : List Placed) → f.rest ≡ rest → Err (syntax.BadToken place) ≡ fault_answer f.rest f.marked stop end
      by_rest [] e = sym (at_end f.rest f.marked (Some place) (syntax.BadToken place) e h.0 refl)
      by_rest (t ∷ rest) e = no_front ts rest t (subst (λ (us : List Placed). IsFirstFault file ts us) e j.0) h.1
  told_is (Err f) j (Err (syntax.Unexpected place)) some (inl h) =
      let same = one_fault file ts f.rest (h.0 ∷ h.1) j.0 h.2 in
      ap (λ n. Err (syntax.Unexpected n)) h.4 ∙ sym (token_answer h.0 f.rest h.1 f.marked false same (other_token h.0 h.1 f.rest f.marked same j.2.0 h.3))
  told_is (Err f) j (Err (syntax.Unexpected place)) some (inr h) =
      let same = one_fault file ts f.rest [] j.0 h.1 in
      ap (λ n. Err (syntax.Unexpected n)) h.2 ∙ sym (at_end f.rest f.marked None (syntax.Unexpected end) same h.0 refl)
  told_is (Err f) j (Err (syntax.UnknownType place)) some h =
      let same = one_fault file ts f.rest (h.0 ∷ h.1) j.0 h.2 in
      ap (λ n. Err (syntax.UnknownType n)) h.4 ∙ sym (token_answer h.0 f.rest h.1 f.marked true same (type_token h.0 h.1 f.rest f.marked same j.2.1 h.3))

  told_one : (a b : ReadTokens) → IsSyntaxAnswer a → IsSyntaxAnswer b → IsTold ts stop end a → IsTold ts stop end b → a ≡ b
  told_one a b some other h k =
      let judged = judges file file_more ts (file_at ts) (file_reads ts) in
      told_is (all_of (file_at ts)) judged a some h ∙ sym (told_is (all_of (file_at ts)) judged b other k)

-- ---- bytes

abbrev pub IsRightSyntax : List ℕ → ReadTokens → Type 0
IsRightSyntax bytes (Ok v) = IsFile bytes v
IsRightSyntax bytes (Err e) = IsFault bytes e

-- the answer as one to the file's tokens
record AtTokens (bytes : List ℕ) (answer : ReadTokens) : Type 0 where
  pub tokens : List Placed
  pub stop : Option ℕ
  pub are : AreTokens bytes tokens stop
  pub told : IsTold tokens stop (length bytes + 1) answer

at_tokens_one : (bytes : List ℕ) (a b : ReadTokens) → IsSyntaxAnswer a → IsSyntaxAnswer b → AtTokens bytes a → AtTokens bytes b → a ≡ b
at_tokens_one bytes a b some other h k =
    let same = only_tokens bytes (h.tokens, h.stop) h.are k.tokens k.stop k.are in
    told_one h.tokens h.stop (length bytes + 1) a b some other h.told
    (subst (λ (s : Option ℕ). IsTold h.tokens s (length bytes + 1) b) same.1 (subst (λ (us : List Placed). IsTold us k.stop (length bytes + 1) b) same.0 k.told))

-- a file of statements, judged
file_judged : (bytes : List ℕ) (v : List Statement) → IsFile bytes v → AtTokens bytes (Ok v)
file_judged bytes v h = record { tokens = h.1.0; stop = None; are = h.1.1; told = (refl, (h.1.2, λ w k. statements_one h.1.0 w v k h.1.2)) }
  where
    by_judged : (ts : List Placed) (v w : List Statement) → Spells file ts [] v → Spells file ts [] w → (judged : Result (List Statement) (Fault Placed)) → Judges file ts judged → v ≡ w
    by_judged ts v w h k (Ok u) j = j.1 v h ∙ sym (j.1 w k)
    by_judged ts v w h k (Err f) j = absurd (j.1 v h)

    statements_one : (ts : List Placed) (v w : List Statement) → Spells file ts [] v → Spells file ts [] w → v ≡ w
    statements_one ts v w h k = by_judged ts v w h k (all_of (file_at ts)) (judges file file_more ts (file_at ts) (file_reads ts))

abbrev IsNoText : List ℕ → ReadTokens → Type 0
IsNoText bytes answer = ¬ IsUtf8 bytes × ((n : ℕ) × IsValidUpTo bytes n × (answer ≡ Err (syntax.NotUtf8 (n + 1))))

-- bytes are no text, or the answer is one to their tokens
sorted : (bytes : List ℕ) (answer : ReadTokens) → IsSyntaxAnswer answer → IsRightSyntax bytes answer → IsNoText bytes answer ⊎ (IsUtf8 bytes × AtTokens bytes answer)
sorted bytes (Ok v) some h = inr (h.0, file_judged bytes v h)
sorted bytes (Err syntax.Memory) some h = absurd some
sorted bytes (Err (syntax.NotUtf8 place)) some h = inl (h.0, (h.1.0, h.1.1, ap (λ n. Err (syntax.NotUtf8 n)) h.1.2))
sorted bytes (Err (syntax.BadToken place)) some h = inr (h.0, record { tokens = h.1.0; stop = Some place; are = h.1.1; told = (refl, h.1.2) })
sorted bytes (Err (syntax.Unexpected place)) some h = inr (h.0, record { tokens = h.1.0; stop = h.1.1; are = h.1.2; told = h.1.3 })
sorted bytes (Err (syntax.UnknownType place)) some h = inr (h.0, record { tokens = h.1.0; stop = h.1.1; are = h.1.2; told = h.1.3 })

syntax_one : (bytes : List ℕ) (a b : ReadTokens) → IsSyntaxAnswer a → IsSyntaxAnswer b → IsRightSyntax bytes a → IsRightSyntax bytes b → a ≡ b
syntax_one bytes a b some other h k = elim (sorted bytes a some h) [
  | inl x ↦ elim (sorted bytes b other k) [
    | inl y ↦ x.1.2 ∙ ap (λ n. Err (syntax.NotUtf8 (n + 1))) (sym (utf8_valid_len-IsValidUpTo bytes x.1.0 x.1.1) ∙ utf8_valid_len-IsValidUpTo bytes y.1.0 y.1.1) ∙ sym y.1.2
    | inr y ↦ absurd (x.0 y.0)
  ]
  | inr x ↦ elim (sorted bytes b other k) [
    | inl y ↦ absurd (y.0 x.0)
    | inr y ↦ at_tokens_one bytes a b some other x.1 y.1
  ]
]

-- ---- schemas

abbrev pub ReadSchema : Type 0
ReadSchema = Result (List Table) DdlError

-- the answer isn't want of memory
abbrev pub IsSchemaAnswered : Result (List Table) DdlError → Type 0
IsSchemaAnswered (Ok tables) = Unit {0}
IsSchemaAnswered (Err Memory) = ⊥
IsSchemaAnswered (Err e) = Unit {0}

-- the tables of the bytes, or their first fault
abbrev pub IsRightSchema : List ℕ → Result (List Table) DdlError → Type 0
IsRightSchema bytes (Ok tables) = IsDdl bytes tables
IsRightSchema bytes (Err e) = IsDdlFault bytes e

some_one : (n m : ℕ) → ◌≡◌ {A = Option ℕ} (Some n) (Some m) → n ≡ m
some_one n m e = cc

none_some : {W : Type 0} (n : ℕ) → ◌≡◌ {A = Option ℕ} None (Some n) → W
none_some n e = absurd cc

-- tables are declared where there is no fault
no_fault : (statements : List Statement) (tables : List Table) (e : DdlError) → IsSchemaAnswered (Err e) → IsDeclared statements (Ok tables) → IsDeclared statements (Err e) → ⊥
no_fault statements tables Memory some h k = some
no_fault statements tables (NotUtf8 n) some h k = k
no_fault statements tables (BadToken n) some h k = k
no_fault statements tables (Unexpected n) some h k = k
no_fault statements tables (UnknownType n) some h k = k
no_fault statements tables (AlterUnknown n) some h k = none_some k.0 (sym h.0 ∙ k.1)
no_fault statements tables (Schema e) some h k = lawful_not_refused (drafts_of statements) e h.1 k.1

fault_one : (statements : List Statement) (a b : DdlError) → IsSchemaAnswered (Err a) → IsSchemaAnswered (Err b) → IsDeclared statements (Err a) → IsDeclared statements (Err b) → a ≡ b
fault_one statements Memory b some other h k = absurd some
fault_one statements (NotUtf8 n) b some other h k = absurd h
fault_one statements (BadToken n) b some other h k = absurd h
fault_one statements (Unexpected n) b some other h k = absurd h
fault_one statements (UnknownType n) b some other h k = absurd h
fault_one statements (AlterUnknown n) Memory some other h k = absurd other
fault_one statements (AlterUnknown n) (NotUtf8 m) some other h k = absurd k
fault_one statements (AlterUnknown n) (BadToken m) some other h k = absurd k
fault_one statements (AlterUnknown n) (Unexpected m) some other h k = absurd k
fault_one statements (AlterUnknown n) (UnknownType m) some other h k = absurd k
fault_one statements (AlterUnknown n) (AlterUnknown m) some other h k =
    ap AlterUnknown (h.2 ∙ ap (λ (p : ℕ). p + 1) (some_one h.0 k.0 (sym h.1 ∙ k.1)) ∙ sym k.2)
fault_one statements (AlterUnknown n) (Schema e) some other h k = none_some h.0 (sym k.0 ∙ h.1)
fault_one statements (Schema e) Memory some other h k = absurd other
fault_one statements (Schema e) (NotUtf8 m) some other h k = absurd k
fault_one statements (Schema e) (BadToken m) some other h k = absurd k
fault_one statements (Schema e) (Unexpected m) some other h k = absurd k
fault_one statements (Schema e) (UnknownType m) some other h k = absurd k
fault_one statements (Schema e) (AlterUnknown m) some other h k = none_some k.0 (sym h.0 ∙ k.1)
fault_one statements (Schema e) (Schema f) some other h k = ap Schema (refusal_unique (drafts_of statements) e f h.1 k.1)

declared_one : (statements : List Statement) (a b : ReadSchema) → IsSchemaAnswered a → IsSchemaAnswered b → IsDeclared statements a → IsDeclared statements b → a ≡ b
declared_one statements (Ok t) (Ok u) some other h k = ap Ok (h.2 ∙ sym k.2)
declared_one statements (Ok t) (Err e) some other h k = absurd (no_fault statements t e other h k)
declared_one statements (Err e) (Ok u) some other h k = absurd (no_fault statements u e some k h)
declared_one statements (Err e) (Err f) some other h k = ap Err (fault_one statements e f some other h k)

-- what is answered of a file behind the answer to its statements
abbrev IsBehind : ReadTokens → ReadSchema → Type 0
IsBehind (Ok statements) answer = IsDeclared statements answer
IsBehind (Err e) answer = answer ≡ Err (syntax_told e)

record InLayers (bytes : List ℕ) (answer : ReadSchema) : Type 0 where
  pub read : ReadTokens
  pub some : IsSyntaxAnswer read
  pub right : IsRightSyntax bytes read
  pub behind : IsBehind read answer

abbrev read_fault : SyntaxError → ReadTokens
read_fault e = Err e

in_layers : (bytes : List ℕ) (answer : ReadSchema) → IsSchemaAnswered answer → IsRightSchema bytes answer → InLayers bytes answer
in_layers bytes (Ok tables) some h = record { read = Ok h.0; some = tt; right = h.1; behind = h.2 }
in_layers bytes (Err Memory) some h = absurd some
in_layers bytes (Err (NotUtf8 n)) some h = record { read = read_fault (syntax.NotUtf8 n); some = tt; right = h; behind = refl }
in_layers bytes (Err (BadToken n)) some h = record { read = read_fault (syntax.BadToken n); some = tt; right = h; behind = refl }
in_layers bytes (Err (Unexpected n)) some h = record { read = read_fault (syntax.Unexpected n); some = tt; right = h; behind = refl }
in_layers bytes (Err (UnknownType n)) some h = record { read = read_fault (syntax.UnknownType n); some = tt; right = h; behind = refl }
in_layers bytes (Err (AlterUnknown n)) some h = record { read = Ok h.0; some = tt; right = h.1; behind = h.2 }
in_layers bytes (Err (Schema e)) some h = record { read = Ok h.0; some = tt; right = h.1; behind = h.2 }

behind_one : (read : ReadTokens) (a b : ReadSchema) → IsSchemaAnswered a → IsSchemaAnswered b → IsBehind read a → IsBehind read b → a ≡ b
behind_one (Ok statements) a b some other h k = declared_one statements a b some other h k
behind_one (Err e) a b some other h k = h ∙ sym k

-- two right answers are one
pub schema_one : (bytes : List ℕ) (a b : Result (List Table) DdlError) → IsSchemaAnswered a → IsSchemaAnswered b → IsRightSchema bytes a → IsRightSchema bytes b → a ≡ b
schema_one bytes a b some other h k =
    let x = in_layers bytes a some h in
    let y = in_layers bytes b other k in
    behind_one x.read a b some other x.behind
    (subst (λ (r : ReadTokens). IsBehind r b) (sym (syntax_one bytes x.read y.read x.some y.some x.right y.right)) y.behind)

-- ---- the only answer

answered : (e : DdlError) → ¬ (e ≡ Memory) → IsSchemaAnswered (Err e)
answered Memory some = some refl
answered (NotUtf8 place) some = tt
answered (BadToken place) some = tt
answered (Unexpected place) some = tt
answered (UnknownType place) some = tt
answered (AlterUnknown number) some = tt
answered (Schema error) some = tt

fault_alone : (bytes : List ℕ) (fault : DdlError) → IsSchemaAnswered (Err fault) → IsDdlFault bytes fault
    → IsDdlFault bytes fault × ((tables : List Table) → ¬ IsDdl bytes tables) × ((other : DdlError) → ¬ (other ≡ Memory) → IsDdlFault bytes other → other ≡ fault)
fault_alone bytes fault some h = (
  h,
  (λ tables k. let e : ◌≡◌ {A = ReadSchema} (Ok tables) (Err fault) = schema_one bytes (Ok tables) (Err fault) tt some k h in cc),
  (λ other more k. let e : ◌≡◌ {A = ReadSchema} (Err other) (Err fault) = schema_one bytes (Err other) (Err fault) (answered other more) some k h in cc),
)

-- a right answer is read as the only one
pub read_once : (bytes : List ℕ) (answer : Result (List Table) DdlError) → IsRightSchema bytes answer → IsSchemaRead bytes answer
read_once bytes (Ok tables) h = (
  h,
  (λ others k. let e : ◌≡◌ {A = ReadSchema} (Ok others) (Ok tables) = schema_one bytes (Ok others) (Ok tables) tt tt k h in cc),
  (λ fault some k. let e : ◌≡◌ {A = ReadSchema} (Ok tables) (Err fault) = schema_one bytes (Ok tables) (Err fault) tt (answered fault some) h k in cc),
)
read_once bytes (Err Memory) h = tt
read_once bytes (Err (NotUtf8 place)) h = fault_alone bytes (NotUtf8 place) tt h
read_once bytes (Err (BadToken place)) h = fault_alone bytes (BadToken place) tt h
read_once bytes (Err (Unexpected place)) h = fault_alone bytes (Unexpected place) tt h
read_once bytes (Err (UnknownType place)) h = fault_alone bytes (UnknownType place) tt h
read_once bytes (Err (AlterUnknown number)) h = fault_alone bytes (AlterUnknown number) tt h
read_once bytes (Err (Schema error)) h = fault_alone bytes (Schema error) tt h
