-- The records that a reader reaches are the records of the bytes, and what they say of a table file.
use Rattle.std.proofs.Common.{◌≡◌, ◌==◌, ◌||◌, ◌+◌, ◌<◌, ◌≤◌, ◌++◌, ◌∷◌, ◌∙◌, [], ℕ, zero, suc, List, Bool, Some, None, true, false, length, refl, sym, ap, arith, inl, inr, if◌then◌else◌, append-nil, append_assoc}
use Rattle.std.proofs.lemmas.Bool.{cases_Bool}
use Rattle.csv.specs.Machine.{Read, ends_at_end, is_end, next_record, step, fields_after, field_after}
use Rattle.std.proofs.Common.{Bor, Ok, Err}
use Rattle.std.specs.List.{AllZip}
use Rattle.csv.specs.Reading.{AreRecords, ExplainsRead, ReadRecord, Reached, Ready, default_config, is_flexible, reader_config, reader_state, reader_trim, records, records_from, source_of, stops_reader, strip_bom, took_first}
use Rattle.csv.specs.declared.error.ErrorKind.{ErrorKind}
use Rattle.csv.specs.declared.error.ErrorKind.TheVariants as kind
use Rattle.csv.specs.declared.reader.Reader.{Reader}
use Rattle.csv.specs.declared.reader.Trim.TheVariants as trim
use Rattle.csv.proofs.ReadFacts.{rows-end, rows-more}
use Rattle.value_dm.specs.declared.mode.NullMode.{NullMode}
use Rattle.schema_dm.specs.declared.draft.Column.{Column}
use Rattle.table_csv.specs.Cells.{Row}
use Rattle.table_csv.specs.Headers.{IsHeaderFault}
use Rattle.table_csv.specs.Reading.{AtRecords, IsNext, IsStop, OrMemory, known}
use Rattle.table_csv.specs.declared.reading.Stop.{Stop}
use Rattle.table_csv.specs.declared.reading.Stop.TheVariants as stops
use Rattle.table_csv.specs.TableFiles.{HasRecordFault, HasRows, IsFirstFault, IsHeader, IsRecordFault, Record, SpellsRow, records_of}
use Rattle.table_csv.specs.declared.fault.TableError.{TableError}
use Rattle.table_csv.specs.declared.fault.TableError.TheVariants as fault
use Rattle.table_csv.proofs.Zips.{zipped_length}
use Rattle.csv.specs.declared.parser.State.{State}
use Rattle.csv.specs.declared.parser.State.TheVariants as st
use Rattle.csv.specs.declared.parser.Action.{Action}
use Rattle.csv.specs.declared.parser.Action.TheVariants as act

-- where a byte ends a record, no other record ends with the bytes right behind it
abbrev Settles : State × Action → Type 0
Settles next = is_end next.1 ≡ true → ends_at_end next.0 ≡ false

settles-if : (b : Bool) (x y : State × Action) → Settles x → Settles y → Settles (if b then x else y)
settles-if true x y p q = p
settles-if false x y p q = q

settles-end : (r : Bool) → Settles (if r then st.AfterCr else st.StartRecord, act.EndRecord)
settles-end true e = refl
settles-end false e = refl

settles-field : (c : ℕ) → Settles (step default_config st.InField c)
settles-field c =
    settles-if (c == 44) _ _ (λ e. cc e) (settles-if ((c == 13) || (c == 10)) _ _ (settles-end (c == 13)) (λ e. cc e))

settles-start : (c : ℕ) → Settles (step default_config st.StartField c)
settles-start c = settles-if (c == 34) _ _ (λ e. cc e) (settles-field c)

settles-record : (c : ℕ) → Settles (step default_config st.StartRecord c)
settles-record c = settles-if ((c == 13) || (c == 10)) _ _ (λ e. cc e) (settles-start c)

settles-step : (s : State) (c : ℕ) → Settles (step default_config s c)
settles-step st.StartRecord c = settles-record c
settles-step st.StartField c = settles-start c
settles-step st.InField c = settles-field c
settles-step st.InQuoted c = settles-if (c == 34) _ _ (λ e. cc e) (λ e. cc e)
settles-step st.InEscape c = λ e. cc e
settles-step st.AfterQuote c = settles-if (c == 34) _ _ (λ e. cc e) (settles-field c)
settles-step st.InComment c = settles-if (c == 10) _ _ (λ e. cc e) (λ e. cc e)
settles-step st.AfterCr c = settles-if (c == 10) _ _ (λ e. cc e) (settles-record c)

-- what a record leaves is no longer than the bytes, and no record ends with its end
left-after : (xs : List ℕ) (s : State) (fields : List (List ℕ)) (field : List ℕ) (p : Read)
    → next_record default_config s fields field xs ≡ Some p → (length p.2 ≤ length xs) × (ends_at_end p.1 ≡ false)
unfolding next_record
left-after [] s fields field p e = elim (cases_Bool (ends_at_end s)) [
  | inl ends ↦ let q : (fields ++ (field ∷ []), st.StartRecord, []) ≡ p = cc (rw ends at e) in rw (← q) (omega arith, refl)
  | inr none ↦ cc (rw none at e)
]
left-after (c ∷ xs) s fields field p e = elim (cases_Bool (is_end (step default_config s c).1)) [
  | inl ends ↦
      let q : (fields_after (step default_config s c).1 fields field, (step default_config s c).0, xs) ≡ p = cc (rw ends at e) in
      rw (← q) (omega arith, settles-step s c ends)
  | inr goes ↦
      let h = left-after xs (step default_config s c).0 (fields_after (step default_config s c).1 fields field) (field_after (step default_config s c).1 c field) p (rw goes at e) in
      (omega (arith, h.0), h.1)
]

-- a record takes a byte at least
takes-byte : (xs : List ℕ) (s : State) (p : Read) → ends_at_end s ≡ false → next_record default_config s [] [] xs ≡ Some p → length p.2 < length xs
unfolding next_record
takes-byte [] s p settled e = cc (rw settled at e)
takes-byte (c ∷ xs) s p settled e = elim (cases_Bool (is_end (step default_config s c).1)) [
  | inl ends ↦
      let q : (fields_after (step default_config s c).1 [] [], (step default_config s c).0, xs) ≡ p = cc (rw ends at e) in
      rw (← q) (omega arith)
  | inr goes ↦
      let h = left-after xs (step default_config s c).0 (fields_after (step default_config s c).1 [] []) (field_after (step default_config s c).1 c []) p (rw goes at e) in
      omega (arith, h.0)
]

-- the records of the bytes begin with those that were reached
begin-so : (n : ℕ) (s s2 : State) (xs ys : List ℕ) (file : List (List (List ℕ))) → Reached default_config s xs file s2 ys
    → ends_at_end s ≡ false → length xs < n
    → (m : ℕ) × (records_from default_config n s xs ≡ file ++ records_from default_config m s2 ys)
unfolding Reached records_from
begin-so n s s2 xs ys [] h settled lt = (n, rw (h.0, h.1) refl)
begin-so zero s s2 xs ys (r ∷ rs) h settled lt = absurd (omega arith)
begin-so (suc n) s s2 xs ys (r ∷ rs) h settled lt =
    let (p, next, is, more) = h in
    let left = left-after xs s [] [] p next in
    let fewer = takes-byte xs s p settled next in
    let k = begin-so n p.1 s2 p.2 ys rs more left.1 (omega arith) in
    (k.0, rw (next, is) (ap (λ (t : List (List (List ℕ))). p.0 ∷ t) k.1))

none-left : (m : ℕ) (s : State) (ys : List ℕ) → next_record default_config s [] [] ys ≡ None → records_from default_config m s ys ≡ []
unfolding records_from
none-left zero s ys e = refl
none-left (suc m) s ys e = rw e refl

pub first-records : (xs ys : List ℕ) (s : State) (file : List (List (List ℕ))) → Reached default_config st.StartRecord xs file s ys
    → (more : List (List (List ℕ))) × (records default_config xs ≡ file ++ more)
first-records xs ys s file h =
    let k = begin-so (length xs + 1) st.StartRecord s xs ys file h refl (omega arith) in
    (records_from default_config k.0 s ys, k.1)

pub all-records : (xs : List ℕ) (file : List (List (List ℕ))) → AreRecords default_config st.StartRecord xs file → records default_config xs ≡ file
all-records xs file h =
    let (s, ys, reached, ends) = h in
    let k = begin-so (length xs + 1) st.StartRecord s xs ys file reached refl (omega arith) in
    k.1 ∙ rw (none-left k.0 s ys ends) (append-nil file)

-- ---- a reader over the bytes

pub at_start : (bytes : List ℕ) (r : Reader (Bor (List ℕ))) → reader_trim r ≡ trim.None → Ready r → reader_config r ≡ default_config → source_of known r ≡ Some (strip_bom bytes)
    → reader_state r ≡ st.StartRecord → is_flexible r ≡ true → AtRecords bytes [] r
unfolding Reached
at_start bytes r trims ready config source state flexible = record {
  trims = trims;
  ready = ready;
  config = config;
  rest = strip_bom bytes;
  source = source;
  reached = (sym state, refl);
  flexible = flexible;
}

pub read_next : (bytes : List ℕ) (file : List Record) (a b : Reader (Bor (List ℕ))) (found : Bool) (fields : Record) → AtRecords bytes file a
    → (reader_trim a ≡ trim.None → Ready a → ReadRecord known a b found fields) → (reader_trim a ≡ trim.None → took_first b ≡ true) → is_flexible b ≡ is_flexible a → IsNext bytes file fields b (Ok found)
read_next bytes file a b true fields h reads first flexible =
    let read = reads h.trims h.ready in
    let more = rows-more known a b fields default_config st.StartRecord (strip_bom bytes) h.rest file h.config h.source h.reached read in
    record {
      trims = read.3 ∙ h.trims;
      ready = inl (first h.trims);
      config = read.2 ∙ h.config;
      rest = more.0;
      source = more.1;
      reached = more.2;
      flexible = flexible ∙ h.flexible;
    }
read_next bytes file a b false fields h reads first flexible =
    all-records (strip_bom bytes) file (reader_state a, h.rest, h.reached, rows-end known a b fields default_config h.rest h.config h.source (reads h.trims h.ready))

-- a flexible reader fails for the bytes underneath or for memory
pub read_stops : (a b : Reader (Bor (List ℕ))) (k : ErrorKind) → ExplainsRead known a b false k → is_flexible a ≡ true → stops_reader k ≡ true
read_stops a b (kind.Io e) why flexible = refl
read_stops a b kind.OutOfMemory why flexible = refl
read_stops a b (kind.UnequalLengths pos expected len) why flexible = (let rigid = why.0 in cc)
read_stops a b (kind.Utf8 pos err) why flexible = (let text = why.0 in cc)
read_stops a b (kind.Serialize text) why flexible = absurd why
read_stops a b (kind.Deserialize pos err) why flexible = absurd why

begins : (bytes : List ℕ) (file : List Record) (r : Reader (Bor (List ℕ))) → AtRecords bytes file r → (more : List Record) × (records_of bytes ≡ file ++ more)
begins bytes file r h = first-records (strip_bom bytes) h.rest (reader_state r) file h.reached

-- ---- what the records say of a table file

pub header_fault : (columns : List Column) (mode : NullMode) (bytes : List ℕ) (header : Record) (r : Reader (Bor (List ℕ))) (error : TableError) → AtRecords bytes (header ∷ []) r
    → IsHeaderFault columns header error → IsFirstFault columns mode (records_of bytes) error
header_fault columns mode bytes header r fault.Memory h bad = tt
header_fault columns mode bytes header r (fault.BadHeader place) h bad = let more = begins bytes (header ∷ []) r h in (header, more.0, more.1, bad)
header_fault columns mode bytes header r fault.NoHeader h bad = absurd bad
header_fault columns mode bytes header r (fault.FieldCount n) h bad = absurd bad
header_fault columns mode bytes header r (fault.TextNotUtf8 n c) h bad = absurd bad
header_fault columns mode bytes header r (fault.BadValue n c) h bad = absurd bad
header_fault columns mode bytes header r (fault.NullRefused n c) h bad = absurd bad
header_fault columns mode bytes header r fault.TooManyRows h bad = absurd bad

-- the record that was read last is the first at fault
at_fault : (columns : List Column) (mode : NullMode) (bytes : List ℕ) (header fields : Record) (body : List Record) (rows : List Row) (r : Reader (Bor (List ℕ))) (error : TableError)
    → AtRecords bytes ((header ∷ body) ++ fields ∷ []) r → IsHeader columns header → AllZip (SpellsRow columns mode header) body rows
    → IsRecordFault columns mode header (length rows) fields error → HasRecordFault columns mode (records_of bytes) error
at_fault columns mode bytes header fields body rows r error h names each bad =
    let more = begins bytes ((header ∷ body) ++ fields ∷ []) r h in
    let count : length body ≡ length rows = zipped_length (SpellsRow columns mode header) body rows each in
    record {
      header = header;
      good = body;
      record_at_fault = fields;
      further = more.0;
      parts = more.1 ∙ ap (λ (t : List Record). header ∷ t) (append_assoc body (fields ∷ []) more.0);
      names = names;
      rows = rows;
      each = each;
      bad = rw count bad;
    }

pub record_refused : (columns : List Column) (mode : NullMode) (bytes : List ℕ) (header fields : Record) (body : List Record) (rows : List Row) (r : Reader (Bor (List ℕ))) (error : TableError)
    → AtRecords bytes ((header ∷ body) ++ fields ∷ []) r → IsHeader columns header → AllZip (SpellsRow columns mode header) body rows
    → OrMemory (IsRecordFault columns mode header (length rows) fields) error → IsFirstFault columns mode (records_of bytes) error
record_refused columns mode bytes header fields body rows r fault.Memory h names each bad = tt
record_refused columns mode bytes header fields body rows r fault.NoHeader h names each bad = absurd bad.2.bad
record_refused columns mode bytes header fields body rows r (fault.BadHeader c) h names each bad = absurd bad.2.bad
record_refused columns mode bytes header fields body rows r fault.TooManyRows h names each bad = at_fault columns mode bytes header fields body rows r fault.TooManyRows h names each bad
record_refused columns mode bytes header fields body rows r (fault.FieldCount n) h names each bad = at_fault columns mode bytes header fields body rows r (fault.FieldCount n) h names each bad
record_refused columns mode bytes header fields body rows r (fault.TextNotUtf8 n c) h names each bad = at_fault columns mode bytes header fields body rows r (fault.TextNotUtf8 n c) h names each bad
record_refused columns mode bytes header fields body rows r (fault.BadValue n c) h names each bad = at_fault columns mode bytes header fields body rows r (fault.BadValue n c) h names each bad
record_refused columns mode bytes header fields body rows r (fault.NullRefused n c) h names each bad = at_fault columns mode bytes header fields body rows r (fault.NullRefused n c) h names each bad

pub rows_whole : (columns : List Column) (mode : NullMode) (file : List Record) (header : Record) (body : List Record) (rows : List Row) → file ≡ header ∷ body → IsHeader columns header
    → AllZip (SpellsRow columns mode header) body rows → length rows ≤ 4194304 → HasRows columns mode file rows
rows_whole columns mode file header body rows parts names each few = record { header = header; body = body; parts = parts; names = names; each = each; few = few }

-- a call for a record that fails stops the reading
pub stop_of : (columns : List Column) (mode : NullMode) (bytes : List ℕ) (file : List Record) (fields : Record) (r : Reader (Bor (List ℕ))) (stop : Stop) → IsNext bytes file fields r (Err stop)
    → IsStop columns mode bytes stop
stop_of columns mode bytes file fields r (stops.Reader error) h = h
stop_of columns mode bytes file fields r (stops.Refused error) h = absurd h
