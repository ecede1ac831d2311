-- A table file has one first fault.
use Rattle.std.proofs.Common.{◌≡◌, ◌≢◌, ◌⊎◌, ◌+◌, ◌<◌, ◌≤◌, ◌∙◌, ℕ, List, [], ◌∷◌, ◌++◌, Some, None, chars, length, refl, ap, sym, subst, arith, inl, inr}
use Rattle.std.specs.Prelude.{IsUtf8}
use Rattle.std.specs.List.{AllZip, slice_get}
use Rattle.std.proofs.lemmas.Bool.{cases_order}
use Rattle.value_dm.specs.Spelling.{Spells}
use Rattle.value_dm.specs.declared.mode.NullMode.{NullMode}
use Rattle.members_dm.specs.Membership.{IsIn, NoRepeats}
use Rattle.members_dm.proofs.MembershipLemmas.{IsIn-back}
use Rattle.members_dm.proofs.ElementsLemmas.{one_by_key}
use Rattle.schema_dm.specs.declared.draft.Column.{Column}
use Rattle.table_csv.specs.Cells.{Cell, Row}
use Rattle.table_csv.specs.TableFiles.{HasFieldFault, HasRecordFault, IsBadHeader, IsBadNext, IsFieldFault, IsFieldOf, IsFirstFault, IsHeader, IsRecordFault, Record, SpellsCell, SpellsRow, name_field, name_fields}
use Rattle.table_csv.specs.declared.fault.TableError.{TableError}
use Rattle.table_csv.specs.declared.fault.TableError.TheVariants as fault
use Rattle.table_csv.proofs.OneFile.{no_bad_header, no_field_fault, no_record_fault, twice}
use Rattle.table_csv.proofs.Zips.{zipped_length}

-- ---- in a field

-- the cause with the error that names it
abbrev FieldCause : NullMode → Column → List ℕ → ℕ → ℕ → TableError → Type 0
FieldCause mode column field number place error =
    ((error ≡ fault.TextNotUtf8 number place) × (¬ IsUtf8 field))
    ⊎ (((error ≡ fault.BadValue number place) × IsUtf8 field × ((cell : Cell) → ¬ Spells column.kind (chars field) mode cell))
    ⊎ ((error ≡ fault.NullRefused number place) × IsUtf8 field × Spells column.kind (chars field) mode None))

field_cause : (mode : NullMode) (column : Column) (field : List ℕ) (number place : ℕ) (error : TableError) → IsFieldFault mode column field number place error → FieldCause mode column field number place error
field_cause mode column field number place (fault.TextNotUtf8 r c) h = let record_is = h.0 in let column_is = h.1 in inl (cc (record_is, column_is), h.2)
field_cause mode column field number place (fault.BadValue r c) h = let record_is = h.0 in let column_is = h.1 in inr (inl (cc (record_is, column_is), h.2, h.3))
field_cause mode column field number place (fault.NullRefused r c) h = let record_is = h.0 in let column_is = h.1 in inr (inr (cc (record_is, column_is), h.2, h.3))
field_cause mode column field number place fault.NoHeader h = absurd h
field_cause mode column field number place (fault.BadHeader c) h = absurd h
field_cause mode column field number place (fault.FieldCount r) h = absurd h
field_cause mode column field number place fault.TooManyRows h = absurd h
field_cause mode column field number place fault.Memory h = absurd h

one_field_cause : (mode : NullMode) (column : Column) (field : List ℕ) (number place : ℕ) (a b : TableError) → FieldCause mode column field number place a → FieldCause mode column field number place b → a ≡ b
one_field_cause mode column field number place a b (inl x) (inl y) = x.0 ∙ sym y.0
one_field_cause mode column field number place a b (inl x) (inr (inl y)) = absurd (x.1 y.1)
one_field_cause mode column field number place a b (inl x) (inr (inr y)) = absurd (x.1 y.1)
one_field_cause mode column field number place a b (inr (inl x)) (inl y) = absurd (y.1 x.1)
one_field_cause mode column field number place a b (inr (inl x)) (inr (inl y)) = x.0 ∙ sym y.0
one_field_cause mode column field number place a b (inr (inl x)) (inr (inr y)) = absurd (x.2 None y.2)
one_field_cause mode column field number place a b (inr (inr x)) (inl y) = absurd (y.1 x.1)
one_field_cause mode column field number place a b (inr (inr x)) (inr (inl y)) = absurd (y.2 None x.2)
one_field_cause mode column field number place a b (inr (inr x)) (inr (inr y)) = x.0 ∙ sym y.0

-- ---- in the fields of a record

same_field : (columns : List Column) (header fields : Record) (i j : ℕ) (c d : Column) (f g : List ℕ) → NoRepeats (name_fields columns) → i ≡ j → IsFieldOf columns header fields i c f → IsFieldOf columns header fields j d g
    → (c ≡ d) × (f ≡ g)
same_field columns header fields i j c d f g distinct at a b =
    let Q : ℕ → Type 0 = λ k. slice_get header k ≡ Some (name_field d) in
    let P : ℕ → Type 0 = λ k. slice_get fields k ≡ Some g in
    let first = a.named in
    let second = subst Q (sym at) b.named in
    let names : name_field c ≡ name_field d = cc (first, second) in
    let here = a.here in
    let there = subst P (sym at) b.here in
    (one_by_key name_field columns distinct c d a.declared b.declared names, cc (here, there))

-- a field before the other's fault is good
not_earlier : (columns : List Column) (mode : NullMode) (header fields : Record) (number : ℕ) (a b : TableError) → NoRepeats (name_fields columns) → (x : HasFieldFault columns mode header fields number a)
    → (y : HasFieldFault columns mode header fields number b) → ¬ (x.at < y.at)
not_earlier columns mode header fields number a b distinct x y lt =
    let good = y.before x.at lt in
    let same = same_field columns header fields x.at x.at good.column x.column good.field x.field distinct refl good.is_field x.is_field in
    let P : Column → Type 0 = λ c. SpellsCell mode c good.field good.cell in
    let Q : List ℕ → Type 0 = λ f. SpellsCell mode x.column f good.cell in
    no_field_fault mode x.column x.field number (x.at + 1) good.cell a (subst Q same.1 (subst P same.0 good.spells)) x.bad

one_fault_there : (columns : List Column) (mode : NullMode) (header fields : Record) (number : ℕ) (a b : TableError) → NoRepeats (name_fields columns) → (x : HasFieldFault columns mode header fields number a)
    → (y : HasFieldFault columns mode header fields number b) → x.at ≡ y.at → a ≡ b
one_fault_there columns mode header fields number a b distinct x y at =
    let same = same_field columns header fields x.at y.at x.column y.column x.field y.field distinct at x.is_field y.is_field in
    let P : Column → Type 0 = λ c. IsFieldFault mode c x.field number (x.at + 1) a in
    let Q : List ℕ → Type 0 = λ f. IsFieldFault mode y.column f number (x.at + 1) a in
    let R : ℕ → Type 0 = λ k. IsFieldFault mode y.column y.field number (k + 1) a in
    one_field_cause mode y.column y.field number (y.at + 1) a b
    (field_cause mode y.column y.field number (y.at + 1) a (subst R at (subst Q same.1 (subst P same.0 x.bad))))
    (field_cause mode y.column y.field number (y.at + 1) b y.bad)

one_in_fields : (columns : List Column) (mode : NullMode) (header fields : Record) (number : ℕ) (a b : TableError) → NoRepeats (name_fields columns) → HasFieldFault columns mode header fields number a
    → HasFieldFault columns mode header fields number b → a ≡ b
one_in_fields columns mode header fields number a b distinct x y =
    elim (cases_order x.at y.at) [
      | inl same ↦ one_fault_there columns mode header fields number a b distinct x y same
      | inr (inl lt) ↦ absurd (not_earlier columns mode header fields number a b distinct x y lt)
      | inr (inr gt) ↦ absurd (not_earlier columns mode header fields number b a distinct y x gt)
    ]

-- ---- in a record

abbrev RecordCause : List Column → NullMode → Record → ℕ → Record → TableError → Type 0
RecordCause columns mode header count fields error =
    ((error ≡ fault.TooManyRows) × (count ≡ 4194304))
    ⊎ (((error ≡ fault.FieldCount (count + 2)) × (count < 4194304) × (length fields ≢ length columns))
    ⊎ ((count < 4194304) × (length fields ≡ length columns) × HasFieldFault columns mode header fields (count + 2) error))

record_cause : (columns : List Column) (mode : NullMode) (header : Record) (count : ℕ) (fields : Record) (error : TableError) → IsRecordFault columns mode header count fields error
    → RecordCause columns mode header count fields error
record_cause columns mode header count fields fault.TooManyRows h = inl (refl, h)
record_cause columns mode header count fields (fault.FieldCount r) h = inr (inl (ap (λ n. fault.FieldCount n) h.1, h.0, h.2))
record_cause columns mode header count fields fault.NoHeader h = inr (inr h)
record_cause columns mode header count fields (fault.BadHeader c) h = inr (inr h)
record_cause columns mode header count fields (fault.TextNotUtf8 r c) h = inr (inr h)
record_cause columns mode header count fields (fault.BadValue r c) h = inr (inr h)
record_cause columns mode header count fields (fault.NullRefused r c) h = inr (inr h)
record_cause columns mode header count fields fault.Memory h = inr (inr h)

one_record_cause : (columns : List Column) (mode : NullMode) (header : Record) (count : ℕ) (fields : Record) (a b : TableError) → NoRepeats (name_fields columns)
    → RecordCause columns mode header count fields a → RecordCause columns mode header count fields b → a ≡ b
one_record_cause columns mode header count fields a b distinct (inl x) (inl y) = x.0 ∙ sym y.0
one_record_cause columns mode header count fields a b distinct (inl (e, full)) (inr (inl (f, lt, other))) = absurd (omega arith)
one_record_cause columns mode header count fields a b distinct (inl (e, full)) (inr (inr (lt, size, rest))) = absurd (omega arith)
one_record_cause columns mode header count fields a b distinct (inr (inl (e, lt, other))) (inl (f, full)) = absurd (omega arith)
one_record_cause columns mode header count fields a b distinct (inr (inl x)) (inr (inl y)) = x.0 ∙ sym y.0
one_record_cause columns mode header count fields a b distinct (inr (inl x)) (inr (inr y)) = absurd (x.2 y.1)
one_record_cause columns mode header count fields a b distinct (inr (inr (lt, size, rest))) (inl (f, full)) = absurd (omega arith)
one_record_cause columns mode header count fields a b distinct (inr (inr x)) (inr (inl y)) = absurd (y.2 x.1)
one_record_cause columns mode header count fields a b distinct (inr (inr x)) (inr (inr y)) = one_in_fields columns mode header fields (count + 2) a b distinct x.2 y.2

few_before : (columns : List Column) (mode : NullMode) (header : Record) (count : ℕ) (fields : Record) (error : TableError) → RecordCause columns mode header count fields error → count ≤ 4194304
few_before columns mode header count fields error (inl (e, full)) = omega arith
few_before columns mode header count fields error (inr (inl (e, lt, other))) = omega arith
few_before columns mode header count fields error (inr (inr (lt, size, rest))) = omega arith

-- ---- in the records behind the header

-- two items that stand in one list, each behind good ones
abbrev Sides : (Record → Row → Type 0) → List Record → Record → List Record → Record → Type 0
Sides R good fields others more =
    ((good ≡ others) × (fields ≡ more)) ⊎ (((row : Row) × R fields row × (length good < length others)) ⊎ ((row : Row) × R more row × (length others < length good)))

sides : (R : Record → Row → Type 0) (good : List Record) (fields : Record) (further others : List Record) (more : Record) (rest : List Record) (rows lines : List Row)
    → good ++ fields ∷ further ≡ others ++ more ∷ rest → AllZip R good rows → AllZip R others lines → Sides R good fields others more
sides R [] fields further [] more rest rows lines e h k = inl (refl, cc e)
sides R [] fields further (o ∷ others) more rest rows [] e h k = absurd k
sides R [] fields further (o ∷ others) more rest rows (l ∷ lines) e h k =
    let same : o ≡ fields = cc e in
    let P : Record → Type 0 = λ x. R x l in
    inr (inl (l, subst P same k.0, omega arith))
sides R (g ∷ good) fields further [] more rest [] lines e h k = absurd h
sides R (g ∷ good) fields further [] more rest (r ∷ rows) lines e h k =
    let same : g ≡ more = cc e in
    let P : Record → Type 0 = λ x. R x r in
    inr (inr (r, subst P same h.0, omega arith))
sides R (g ∷ good) fields further (o ∷ others) more rest [] lines e h k = absurd h
sides R (g ∷ good) fields further (o ∷ others) more rest (r ∷ rows) [] e h k = absurd k
sides R (g ∷ good) fields further (o ∷ others) more rest (r ∷ rows) (l ∷ lines) e h k =
    let first : g ≡ o = cc e in
    let behind : good ++ fields ∷ further ≡ others ++ more ∷ rest = cc e in
    elim (sides R good fields further others more rest rows lines behind h.1 k.1) [
      | inl (same, here) ↦ inl (cc (first, same), here)
      | inr (inl (row, spells, lt)) ↦ inr (inl (row, spells, omega arith))
      | inr (inr (row, spells, lt)) ↦ inr (inr (row, spells, omega arith))
    ]

-- a record before the other's fault is good
not_before : (columns : List Column) (mode : NullMode) (file : List Record) (header fields : Record) (count : ℕ) (row : Row) (a b : TableError) (y : HasRecordFault columns mode file b)
    → SpellsRow columns mode header fields row → count < length y.good → ¬ IsRecordFault columns mode header count fields a
not_before columns mode file header fields count row a b y spells lt =
    let few = few_before columns mode y.header (length y.good) y.record_at_fault b (record_cause columns mode y.header (length y.good) y.record_at_fault b y.bad) in
    let size = zipped_length (SpellsRow columns mode y.header) y.good y.rows y.each in
    no_record_fault columns mode header fields count y.rows row a spells (omega (arith, size, lt)) (omega (arith, size, few))

one_in_records : (columns : List Column) (mode : NullMode) (file : List Record) (a b : TableError) → NoRepeats (name_fields columns) → HasRecordFault columns mode file a → HasRecordFault columns mode file b → a ≡ b
one_in_records columns mode file a b distinct x y =
    let first = x.parts in
    let second = y.parts in
    let header : y.header ≡ x.header = cc (first, second) in
    let body : x.good ++ x.record_at_fault ∷ x.further ≡ y.good ++ y.record_at_fault ∷ y.further = cc (first, second) in
    let Z : Record → Type 0 = λ h. AllZip (SpellsRow columns mode h) y.good y.rows in
    let F : Record → Type 0 = λ h. IsRecordFault columns mode h (length y.good) y.record_at_fault b in
    let bad : IsRecordFault columns mode x.header (length y.good) y.record_at_fault b = subst F header y.bad in
    elim (sides (SpellsRow columns mode x.header) x.good x.record_at_fault x.further y.good y.record_at_fault y.further x.rows y.rows body x.each (subst Z header y.each)) [
      | inl (good, here) ↦
          let G : List Record → Type 0 = λ g. IsRecordFault columns mode x.header (length g) x.record_at_fault a in
          let H : Record → Type 0 = λ f. IsRecordFault columns mode x.header (length y.good) f a in
          one_record_cause columns mode x.header (length y.good) y.record_at_fault a b distinct
          (record_cause columns mode x.header (length y.good) y.record_at_fault a (subst H here (subst G good x.bad)))
          (record_cause columns mode x.header (length y.good) y.record_at_fault b bad)
      | inr (inl (row, spells, lt)) ↦ absurd (not_before columns mode file x.header x.record_at_fault (length x.good) row a b y spells lt x.bad)
      | inr (inr (row, spells, lt)) ↦ absurd (not_before columns mode file x.header y.record_at_fault (length y.good) row b a x spells lt bad)
    ]

-- ---- in the header

-- what stands in the longer of two beginnings behind the shorter
behind : {X : Type 0} (before after longer rest : List X) → before ++ after ≡ longer ++ rest → length before < length longer
    → (x : X) × (more tail : List X) × (longer ≡ before ++ x ∷ more) × (after ≡ x ∷ tail)
behind [] after [] rest e lt = absurd (omega arith)
behind [] after (x ∷ more) rest e lt = (x, more, more ++ rest, refl, e)
behind (b ∷ before) after [] rest e lt = absurd (omega arith)
behind {X} (b ∷ before) after (l ∷ longer) rest e lt =
    let first : l ≡ b = cc e in
    let further : before ++ after ≡ longer ++ rest = cc e in
    let (x, more, tail, parts, next) = behind before after longer rest further (omega arith) in
    (x, more, tail, cc (first, parts), next)

not_shorter : (columns : List Column) (header : Record) (p q : ℕ) (x : IsBadHeader columns header p) (y : IsBadHeader columns header q) → ¬ (length x.before < length y.before)
not_shorter columns header p q x y lt =
    let (field, more, tail, parts, next) = behind x.before x.after y.before y.after (sym x.parts ∙ y.parts) lt in
    let bad : IsBadNext columns x.before (field ∷ tail) = subst (IsBadNext columns x.before) next x.bad in
    elim bad [
      | inl other ↦ other (y.names field (let P : Record → Type 0 = λ b. IsIn field b in subst P (sym parts) (IsIn-back field x.before (field ∷ more) (inl refl))))
      | inr again ↦ twice x.before field more (subst NoRepeats parts y.once) again
    ]

one_bad_place : (columns : List Column) (header : Record) (p q : ℕ) → IsBadHeader columns header p → IsBadHeader columns header q → p ≡ q
one_bad_place columns header p q x y =
    let first = x.is_place in
    let second = y.is_place in
    elim (cases_order (length x.before) (length y.before)) [
      | inl same ↦ omega (arith, first, second, same)
      | inr (inl lt) ↦ absurd (not_shorter columns header p q x y lt)
      | inr (inr gt) ↦ absurd (not_shorter columns header q p y x gt)
    ]

-- ---- in a file

record HasBadHeader (columns : List Column) (file : List Record) (error : TableError) : Type 0 where
  pub place : ℕ
  pub header : Record
  pub body : List Record
  pub is_error : error ≡ fault.BadHeader place
  pub parts : file ≡ header ∷ body
  pub bad : IsBadHeader columns header place

abbrev FileCause : List Column → NullMode → List Record → TableError → Type 0
FileCause columns mode file error =
    (error ≡ fault.Memory) ⊎ (((error ≡ fault.NoHeader) × (file ≡ [])) ⊎ (HasBadHeader columns file error ⊎ HasRecordFault columns mode file error))

file_cause : (columns : List Column) (mode : NullMode) (file : List Record) (error : TableError) → IsFirstFault columns mode file error → FileCause columns mode file error
file_cause columns mode file fault.Memory h = inl refl
file_cause columns mode file fault.NoHeader h = inr (inl (refl, h))
file_cause columns mode file (fault.BadHeader p) (header, body, parts, bad) = inr (inr (inl (record { place = p; header = header; body = body; is_error = refl; parts = parts; bad = bad })))
file_cause columns mode file fault.TooManyRows h = inr (inr (inr h))
file_cause columns mode file (fault.FieldCount r) h = inr (inr (inr h))
file_cause columns mode file (fault.TextNotUtf8 r c) h = inr (inr (inr h))
file_cause columns mode file (fault.BadValue r c) h = inr (inr (inr h))
file_cause columns mode file (fault.NullRefused r c) h = inr (inr (inr h))

not_both : (columns : List Column) (mode : NullMode) (file : List Record) (a b : TableError) → HasBadHeader columns file a → ¬ HasRecordFault columns mode file b
not_both columns mode file a b x y =
    let first = x.parts in
    let second = y.parts in
    let header : y.header ≡ x.header = cc (first, second) in
    no_bad_header columns x.header x.place (subst (IsHeader columns) header y.names) x.bad

one_cause : (columns : List Column) (mode : NullMode) (file : List Record) (a b : TableError) → NoRepeats (name_fields columns) → FileCause columns mode file a → FileCause columns mode file b
    → b ≢ fault.Memory → (a ≡ b) ⊎ (a ≡ fault.Memory)
one_cause columns mode file a b distinct (inl memory) y ne = inr memory
one_cause columns mode file a b distinct (inr x) (inl memory) ne = absurd (ne memory)
one_cause columns mode file a b distinct (inr (inl x)) (inr (inl y)) ne = inl (x.0 ∙ sym y.0)
one_cause columns mode file a b distinct (inr (inl (e, none))) (inr (inr (inl y))) ne = let parts = y.parts in cc (none, parts)
one_cause columns mode file a b distinct (inr (inl (e, none))) (inr (inr (inr y))) ne = let parts = y.parts in cc (none, parts)
one_cause columns mode file a b distinct (inr (inr (inl x))) (inr (inl (e, none))) ne = let parts = x.parts in cc (none, parts)
one_cause columns mode file a b distinct (inr (inr (inr x))) (inr (inl (e, none))) ne = let parts = x.parts in cc (none, parts)
one_cause columns mode file a b distinct (inr (inr (inl x))) (inr (inr (inl y))) ne =
    let first = x.parts in
    let second = y.parts in
    let header : y.header ≡ x.header = cc (first, second) in
    let P : Record → Type 0 = λ h. IsBadHeader columns h y.place in
    let place = one_bad_place columns x.header x.place y.place x.bad (subst P header y.bad) in
    inl (x.is_error ∙ ap (λ n. fault.BadHeader n) place ∙ sym y.is_error)
one_cause columns mode file a b distinct (inr (inr (inl x))) (inr (inr (inr y))) ne = absurd (not_both columns mode file a b x y)
one_cause columns mode file a b distinct (inr (inr (inr x))) (inr (inr (inl y))) ne = absurd (not_both columns mode file b a y x)
one_cause columns mode file a b distinct (inr (inr (inr x))) (inr (inr (inr y))) ne = inl (one_in_records columns mode file a b distinct x y)

-- where there is a first fault, any other is want of memory
pub one_fault : (columns : List Column) (mode : NullMode) (file : List Record) (a b : TableError) → NoRepeats (name_fields columns) → IsFirstFault columns mode file a → IsFirstFault columns mode file b
    → b ≢ fault.Memory → (a ≡ b) ⊎ (a ≡ fault.Memory)
one_fault columns mode file a b distinct h k ne = one_cause columns mode file a b distinct (file_cause columns mode file a h) (file_cause columns mode file b k) ne
