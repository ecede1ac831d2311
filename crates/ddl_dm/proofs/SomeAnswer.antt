-- A file of statements has a right answer, besides want of memory.
use Rattle.std.proofs.Common.{◌≡◌, ◌≢◌, ◌∙◌, ℕ, zero, suc, ◌+◌, ◌<◌, ◌≤◌, List, [], ◌∷◌, ◌++◌, length, take, Option, Some, None, Result, Ok, Err, Bool, true, false, ◌&&◌, refl, ap, subst, inl, inr, cond, arith, chars}
use Rattle.std.specs.Prelude.{IsUtf8, slice_get}
use Rattle.std.specs.Str.{IsValidUpTo}
use Rattle.std.proofs.lemmas.Bool.{cases_eq, cases_lt}
use Rattle.std.proofs.lemmas.List.{length-append, take_all}
use Rattle.std.proofs.lemmas.Str.{IsUtf8-nil}
use Rattle.grammar_dm.specs.Reading.{all_of}
use Rattle.grammar_dm.specs.Verdict.{Fault, Judges}
use Rattle.grammar_dm.proofs.Laws.{judges}
use Rattle.schema_dm.specs.declared.draft.TableDraft.{TableDraft}
use Rattle.schema_dm.specs.declared.refusal.SchemaCause.{SchemaCause}
use Rattle.schema_dm.specs.declared.refusal.SchemaCause.TheVariants.{NoTable, TooManyTables}
use Rattle.schema_dm.specs.declared.refusal.SchemaError.{SchemaError}
use Rattle.schema_dm.specs.Drafts.{AreLawful, Holds, IsRefusedFor, IsSound, rank}
use Rattle.schema_dm.specs.Drafts.IsRefusedFor.{without_tables, with_too_many_tables, at_table}
use Rattle.schema_dm.specs.declared.table.Table.{Table}
use Rattle.schema_dm.specs.Schemas.{schema_of}
use Rattle.ddl_tokens_dm.specs.declared.token.Placed.{Placed}
use Rattle.ddl_tokens_dm.specs.declared.token.Token.{Token}
use Rattle.ddl_tokens_dm.specs.declared.token.Token.TheVariants as tokens
use Rattle.ddl_tokens_dm.specs.Scanning.{Lexeme, lexeme}
use Rattle.ddl_tokens_dm.specs.Scanning.Lexeme.{Between, Found, Bad}
use Rattle.ddl_tokens_dm.specs.Tokens.{AreTokensOf, StandsBetween, StandsToken, doubled, unmarked}
use Rattle.ddl_tokens_dm.specs.Tokens.Consists.{nothing, between, token}
use Rattle.ddl_tokens_dm.proofs.Scans.{bad_is, between_is, token_is}
use Rattle.ddl_tokens_dm.proofs.Unique.{only_tokens}
use Rattle.ddl_syntax_dm.specs.declared.syntax.Statement.{Statement}
use Rattle.ddl_syntax_dm.specs.declared.file.SyntaxError.{SyntaxError}
use Rattle.ddl_syntax_dm.specs.declared.file.SyntaxError.TheVariants as syntax
use Rattle.ddl_syntax_dm.specs.Grammar.{file}
use Rattle.ddl_syntax_dm.specs.Reading.{file_at}
use Rattle.ddl_syntax_dm.specs.Answer.{IsFault, IsFile, IsRead, IsTold, is_bare_word, fault_told}
use Rattle.ddl_syntax_dm.proofs.StatementReaders.{file_more, file_reads}
use Rattle.ddl_syntax_dm.proofs.Telling.{fault_is_told, is_read, whole_is_told}
use Rattle.ddl_dm.specs.declared.ddl.DdlError.{DdlError}
use Rattle.ddl_dm.specs.declared.ddl.DdlError.TheVariants.{Memory, NotUtf8, BadToken, Unexpected, UnknownType, AlterUnknown, Schema}
use Rattle.ddl_dm.specs.Meaning.{drafts_of, unknown_alter}
use Rattle.ddl_dm.specs.Schema.{IsDeclared, syntax_told}
use Rattle.ddl_dm.proofs.OneAnswer.{IsRightSchema, IsRightSyntax, IsSchemaAnswered, IsSyntaxAnswer, ReadSchema, ReadTokens, answer_by}

-- ---- tokens

longer : (ts behind : List ℕ) (c : ℕ) → ts ≡ c ∷ behind → length ts ≡ suc (length behind)
longer ts behind c is = ap (λ (us : List ℕ). length us) is

between_shorter : (ts rest : List ℕ) → StandsBetween ts rest → length rest < length ts
between_shorter ts rest (inl h) = let size = longer ts rest h.0 h.1 in omega (arith, size)
between_shorter ts rest (inr (inl h)) =
    let size = longer ts (45 ∷ h.0) 45 h.2 in
    let run : length h.0 ≡ length h.1 + length rest = ap (λ (us : List ℕ). length us) h.3.whole ∙ length-append h.1 rest in
    omega (arith, size, run)
between_shorter ts rest (inr (inr h)) =
    let size = longer ts (42 ∷ (h.0 ++ 42 ∷ 47 ∷ rest)) 47 h.1 in
    let run = length-append h.0 (42 ∷ 47 ∷ rest) in
    omega (arith, size, run)

some_digit : (digits : List ℕ) → digits ≢ [] → 0 < length digits
some_digit [] some = absurd (some refl)
some_digit (d ∷ digits) some = omega arith

token_shorter : (t : Token) (ts rest : List ℕ) → StandsToken t ts rest → length rest < length ts
token_shorter (tokens.Sign s) ts rest h = let size = longer ts rest _ h in omega (arith, size)
token_shorter tokens.Number ts rest h =
    let run : length ts ≡ length h.0 + length rest = ap (λ (us : List ℕ). length us) h.2.whole ∙ length-append h.0 rest in
    let some = some_digit h.0 h.1 in
    omega (arith, run, some)
token_shorter (tokens.Word name) ts rest h =
    let size = longer ts h.2 h.0 h.4 in
    let run : length h.2 ≡ length h.1 + length rest = ap (λ (us : List ℕ). length us) h.6.whole ∙ length-append h.1 rest in
    omega (arith, size, run)
token_shorter (tokens.Quoted name) ts rest h =
    let size = longer ts (doubled name ++ 34 ∷ rest) 34 h.0 in
    let run = length-append (doubled name) (34 ∷ rest) in
    omega (arith, size, run)

record HasTokens (total : ℕ) (ts : List ℕ) : Type 0 where
  pub found : List Placed
  pub stop : Option ℕ
  pub are : AreTokensOf total ts found stop

behind_between : (total : ℕ) (ts rest : List ℕ) (found : List Placed) (stop : Option ℕ) → StandsBetween ts rest → AreTokensOf total rest found stop → HasTokens total ts
behind_between total ts rest found None s h = record { found = found; stop = None; are = between s h }
behind_between total ts rest found (Some place) s h = record { found = found; stop = Some place; are = (h.0, between s h.1, h.2, h.3, h.4) }

behind_token : (total : ℕ) (ts rest : List ℕ) (t : Token) (found : List Placed) (stop : Option ℕ) → StandsToken t ts rest → AreTokensOf total rest found stop → HasTokens total ts
behind_token total ts rest t found None s h = record { found = _; stop = None; are = token {token = t} s h }
behind_token total ts rest t found (Some place) s h = record { found = _; stop = Some place; are = (h.0, token {token = t} s h.1, h.2, h.3, h.4) }

tokens_behind : (total : ℕ) (ts : List ℕ) → ts ≢ [] → ((rest : List ℕ) → length rest < length ts → HasTokens total rest) → (l : Lexeme) → lexeme ts ≡ l → HasTokens total ts
tokens_behind total ts some shorter (Between rest) e =
    let stands = between_is ts rest e in
    let further = shorter rest (between_shorter ts rest stands) in
    behind_between total ts rest further.found further.stop stands further.are
tokens_behind total ts some shorter (Found t rest) e =
    let stands = token_is ts rest t e in
    let further = shorter rest (token_shorter t ts rest stands) in
    behind_token total ts rest t further.found further.stop stands further.are
tokens_behind total ts some shorter Bad e = record { found = []; stop = Some _; are = (ts, nothing, bad_is ts e, some, refl) }

tokens_up_to : (total size : ℕ) (ts : List ℕ) → length ts ≤ size → HasTokens total ts
tokens_up_to total size [] le = record { found = []; stop = None; are = nothing }
tokens_up_to total zero (c ∷ ts) le = absurd (omega (arith, le))
tokens_up_to total (suc size) (c ∷ ts) le =
    tokens_behind total (c ∷ ts) (λ e. absurd cc) (λ rest less. tokens_up_to total size rest (omega (arith, le, less))) (lexeme (c ∷ ts)) refl

-- ---- texts

-- the longest front of at most k bytes that is a text
record Front (bytes : List ℕ) (k : ℕ) : Type 0 where
  pub n : ℕ
  pub within : n ≤ k
  pub front : IsUtf8 (take n bytes)
  pub longest : (m : ℕ) → n < m → m ≤ k → ¬ IsUtf8 (take m bytes)

some_front : (bytes : List ℕ) (k : ℕ) → ¬ ¬ Front bytes k
some_front bytes zero none = none (record { n = 0; within = omega arith; front = IsUtf8-nil; longest = λ m less most. absurd (omega (arith, less, most)) })
some_front bytes (suc k) none =
    let no_text : ¬ IsUtf8 (take (suc k) bytes) = λ text. none (record { n = suc k; within = omega arith; front = text; longest = λ m less most. absurd (omega (arith, less, most)) }) in
    some_front bytes k (λ f. none (record {
      n = f.n;
      within = let w = f.within in omega (arith, w);
      front = f.front;
      longest = λ m less most. elim (cases_eq m (suc k)) [
        | inl same ↦ λ text. no_text (subst (λ (n : ℕ). IsUtf8 (take n bytes)) same text)
        | inr other ↦ f.longest m less (omega (arith, most, other))
      ];
    }))

valid_front : (bytes : List ℕ) → ¬ IsUtf8 bytes → (f : Front bytes (length bytes)) → IsValidUpTo bytes f.n
valid_front bytes no_text f =
    let whole : (m : ℕ) → length bytes ≤ m → ¬ IsUtf8 (take m bytes) = λ m long text. no_text (subst IsUtf8 (take_all m bytes long) text) in
    record {
      short = elim (cases_lt f.n (length bytes)) [
        | inl less ↦ less
        | inr long ↦ absurd (whole f.n long f.front)
      ];
      front = f.front;
      longest = λ m less. elim (cases_lt (length bytes) m) [
        | inl long ↦ whole m (omega (arith, long))
        | inr most ↦ f.longest m less most
      ];
    }

-- ---- statements

abbrev fault_answer : List Placed → Bool → Option ℕ → ℕ → ReadTokens
fault_answer rest marked stop end = Err (fault_told rest marked stop end)

abbrev told_at : Bool → Placed → ReadTokens
told_at word t = Err (cond word (syntax.UnknownType t.place) (syntax.Unexpected t.place))

word_answers : (word : Bool) (t : Placed) → IsSyntaxAnswer (told_at word t)
word_answers true t = tt
word_answers false t = tt

fault_answers : (rest : List Placed) (marked : Bool) (stop : Option ℕ) (end : ℕ) → IsSyntaxAnswer (fault_answer rest marked stop end)
fault_answers [] marked None end = tt
fault_answers [] marked (Some place) end = tt
fault_answers (t ∷ rest) marked stop end = word_answers (marked && is_bare_word t) t

answers : (judged : Result (List Statement) (Fault Placed)) (stop : Option ℕ) (end : ℕ) → IsSyntaxAnswer (answer_by judged stop end)
answers (Ok v) None end = tt
answers (Ok v) (Some place) end = tt
answers (Err fault) stop end = fault_answers fault.rest fault.marked stop end

is_told : (ts : List Placed) (judged : Result (List Statement) (Fault Placed)) (stop : Option ℕ) (end : ℕ) → Judges file ts judged → IsTold ts stop end (answer_by judged stop end)
is_told ts (Ok v) stop end j = whole_is_told ts stop end v j
is_told ts (Err fault) stop end j = fault_is_told ts fault.rest fault.marked stop end j

right_read : (bytes : List ℕ) (answer : ReadTokens) → IsSyntaxAnswer answer → IsRead bytes answer → IsRightSyntax bytes answer
right_read bytes (Ok v) some h = h.0
right_read bytes (Err syntax.Memory) some h = absurd some
right_read bytes (Err (syntax.NotUtf8 place)) some h = h.0
right_read bytes (Err (syntax.BadToken place)) some h = h.0
right_read bytes (Err (syntax.Unexpected place)) some h = h.0
right_read bytes (Err (syntax.UnknownType place)) some h = h.0

some_syntax : (bytes : List ℕ) → ¬ ((answer : ReadTokens) → IsSyntaxAnswer answer → ¬ IsRightSyntax bytes answer)
some_syntax bytes none =
    let text : ¬ ¬ IsUtf8 bytes = λ no_text. some_front bytes (length bytes) (λ f. none (Err (syntax.NotUtf8 (f.n + 1))) tt (no_text, (f.n, valid_front bytes no_text f, refl))) in
    text (λ utf8.
    let ts = unmarked (chars bytes) in
    let read = tokens_up_to (length bytes) (length ts) ts (omega arith) in
    let judged = all_of (file_at read.found) in
    let answer : ReadTokens = answer_by judged read.stop (length bytes + 1) in
    let told = is_told read.found judged read.stop (length bytes + 1) (judges file file_more read.found (file_at read.found) (file_reads read.found)) in
    none answer (answers judged read.stop (length bytes + 1))
    (right_read bytes answer (answers judged read.stop (length bytes + 1)) (is_read bytes read.found read.stop answer utf8 read.are (only_tokens bytes (read.found, read.stop) read.are) told)))

-- ---- schemas

module _ (drafts : List TableDraft) (sound_otherwise : (error : SchemaError) → ¬ IsRefusedFor drafts error) (some : 0 < length drafts) (few : length drafts ≤ 4096) where
  -- no cause below a rank holds of a draft, where all before it are sound
  below_rank : (place : ℕ) (draft : TableDraft) → slice_get drafts place ≡ Some draft → ((j : ℕ) (other : TableDraft) → j < place → slice_get drafts j ≡ Some other → IsSound drafts j other)
      → (r : ℕ) (cause : SchemaCause) → rank cause < r → ¬ Holds cause drafts place draft
  below_rank place draft at before zero cause less h = absurd (omega (arith, less))
  below_rank place draft at before (suc r) cause less h =
      sound_otherwise (record { cause = cause; table = place + 1 }) (at_table place draft some few refl (record {
        stands = at;
        holds = h;
        sound_before = before;
        none_earlier = λ other earlier. below_rank place draft at before r other (omega (arith, less, earlier));
      }))

  sound_at : (place : ℕ) (draft : TableDraft) → slice_get drafts place ≡ Some draft → ((j : ℕ) (other : TableDraft) → j < place → slice_get drafts j ≡ Some other → IsSound drafts j other) → IsSound drafts place draft
  sound_at place draft at before = λ cause. below_rank place draft at before (suc (rank cause)) cause (omega arith)

  sound_before : (place j : ℕ) (other : TableDraft) → j < place → slice_get drafts j ≡ Some other → IsSound drafts j other
  sound_before zero j other less at = absurd (omega (arith, less))
  sound_before (suc place) j other less at = sound_at j other at (λ k third lower. sound_before place k third (omega (arith, less, lower)))

lawful_otherwise : (drafts : List TableDraft) → ((error : SchemaError) → ¬ IsRefusedFor drafts error) → AreLawful drafts
lawful_otherwise [] none = absurd (none (record { cause = NoTable; table = 0 }) (without_tables refl refl refl))
lawful_otherwise (d ∷ drafts) none = elim (cases_lt 4096 (length (d ∷ drafts))) [
  | inl many ↦ absurd (none (record { cause = TooManyTables; table = 0 }) (with_too_many_tables many refl refl))
  | inr few ↦ record {
    some = omega arith;
    few = few;
    sound = λ place draft at. sound_at (d ∷ drafts) none (omega arith) few place draft at (sound_before (d ∷ drafts) none (omega arith) few place);
  }
]

some_declared : (statements : List Statement) → ¬ ((answer : ReadSchema) → IsSchemaAnswered answer → ¬ IsDeclared statements answer)
some_declared statements none = by_alter (unknown_alter statements) refl
  where
    by_alter : (unknown : Option ℕ) → unknown_alter statements ≡ unknown → ⊥
    by_alter (Some place) e = none (Err (AlterUnknown (place + 1))) tt (place, e, refl)
    by_alter None e = none (Ok (schema_of (drafts_of statements))) tt (e, lawful_otherwise (drafts_of statements) (λ error h. none (Err (Schema error)) tt (e, h)), refl)

declared_right : (bytes : List ℕ) (statements : List Statement) (answer : ReadSchema) → IsSchemaAnswered answer → IsFile bytes statements → IsDeclared statements answer → IsRightSchema bytes answer
declared_right bytes statements (Ok tables) some h k = (statements, h, k)
declared_right bytes statements (Err Memory) some h k = absurd some
declared_right bytes statements (Err (NotUtf8 n)) some h k = absurd k
declared_right bytes statements (Err (BadToken n)) some h k = absurd k
declared_right bytes statements (Err (Unexpected n)) some h k = absurd k
declared_right bytes statements (Err (UnknownType n)) some h k = absurd k
declared_right bytes statements (Err (AlterUnknown n)) some h k = (statements, h, k)
declared_right bytes statements (Err (Schema e)) some h k = (statements, h, k)

abbrev told : SyntaxError → ReadSchema
told e = Err (syntax_told e)

fault_right : (bytes : List ℕ) (e : SyntaxError) → IsSyntaxAnswer (Err e) → IsFault bytes e → IsSchemaAnswered (told e) × IsRightSchema bytes (told e)
fault_right bytes syntax.Memory some h = absurd some
fault_right bytes (syntax.NotUtf8 place) some h = (tt, h)
fault_right bytes (syntax.BadToken place) some h = (tt, h)
fault_right bytes (syntax.Unexpected place) some h = (tt, h)
fault_right bytes (syntax.UnknownType place) some h = (tt, h)

-- some answer is right
pub schema_some : (bytes : List ℕ) → ¬ ((answer : Result (List Table) DdlError) → IsSchemaAnswered answer → ¬ IsRightSchema bytes answer)
schema_some bytes none = some_syntax bytes by_read
  where
    by_read : (read : ReadTokens) → IsSyntaxAnswer read → ¬ IsRightSyntax bytes read
    by_read (Ok statements) some right = some_declared statements (λ answer answered h. none answer answered (declared_right bytes statements answer answered right h))
    by_read (Err e) some right = let told_right = fault_right bytes e some right in none (told e) told_right.0 told_right.1
