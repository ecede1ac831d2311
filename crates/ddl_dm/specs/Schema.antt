-- What a file of bytes is answered: the schema that its statements declare, or its first fault.
use Rattle.std.specs.Prelude.{◌≡◌, ◌≢◌, ℕ, ◌+◌, List, Some, None, Result, Ok, Err}
use Rattle.schema_dm.specs.declared.table.Table.{Table}
use Rattle.schema_dm.specs.declared.refusal.SchemaError.{SchemaError}
use Rattle.schema_dm.specs.declared.refusal.SchemaFault.{SchemaFault}
use Rattle.schema_dm.specs.declared.refusal.SchemaFault.TheVariants as faults
use Rattle.schema_dm.specs.Drafts.{AreLawful, IsRefusedFor}
use Rattle.schema_dm.specs.Schemas.{schema_of}
use Rattle.ddl_syntax_dm.specs.declared.syntax.Statement.{Statement}
use Rattle.ddl_syntax_dm.specs.declared.file.SyntaxError.{SyntaxError}
use Rattle.ddl_syntax_dm.specs.declared.file.SyntaxError.TheVariants as syntax
use Rattle.ddl_dm.specs.declared.ddl.DdlError.{DdlError}
use Rattle.ddl_dm.specs.declared.ddl.DdlError.TheVariants.{Memory, NotUtf8, BadToken, Unexpected, UnknownType, AlterUnknown, Schema}
use Rattle.ddl_syntax_dm.specs.Answer.{IsFile, IsFault}
use Rattle.ddl_dm.specs.Meaning.{drafts_of, unknown_alter}

-- ---- statements

-- the statements declare these tables: none alters a table that no statement creates, no cause of refusal holds of
-- their drafts, and the tables are the drafts' with keys by places
abbrev pub Declare : List Statement → List Table → Type 0
Declare statements tables = (unknown_alter statements ≡ None) × AreLawful (drafts_of statements) × (tables ≡ schema_of (drafts_of statements))

-- the first ALTER of a table that no statement creates is the statement of this number, counted from 1
abbrev pub IsUnknownAlter : List Statement → ℕ → Type 0
IsUnknownAlter statements number = (place : ℕ) × (unknown_alter statements ≡ Some place) × (number ≡ place + 1)

-- there is none, and the drafts stand for no schema
abbrev pub AreRefused : List Statement → SchemaError → Type 0
AreRefused statements error = (unknown_alter statements ≡ None) × IsRefusedFor (drafts_of statements) error

abbrev pub IsDeclared : List Statement → Result (List Table) DdlError → Type 0
IsDeclared statements (Ok tables) = Declare statements tables
IsDeclared statements (Err Memory) = Unit {0}
IsDeclared statements (Err (AlterUnknown number)) = IsUnknownAlter statements number
IsDeclared statements (Err (Schema error)) = AreRefused statements error
IsDeclared statements (Err other) = ⊥

-- ---- bytes

-- the bytes are a file whose statements declare these tables
abbrev pub IsDdl : List ℕ → List Table → Type 0
IsDdl bytes tables = (statements : List Statement) × IsFile bytes statements × Declare statements tables

-- this is the first fault of the bytes
abbrev pub IsDdlFault : List ℕ → DdlError → Type 0
IsDdlFault bytes Memory = Unit {0}
IsDdlFault bytes (NotUtf8 place) = IsFault bytes (syntax.NotUtf8 place)
IsDdlFault bytes (BadToken place) = IsFault bytes (syntax.BadToken place)
IsDdlFault bytes (Unexpected place) = IsFault bytes (syntax.Unexpected place)
IsDdlFault bytes (UnknownType place) = IsFault bytes (syntax.UnknownType place)
IsDdlFault bytes (AlterUnknown number) = (statements : List Statement) × IsFile bytes statements × IsUnknownAlter statements number
IsDdlFault bytes (Schema error) = (statements : List Statement) × IsFile bytes statements × AreRefused statements error

-- The only tables of the bytes, or else their only first fault, unless memory ran out.
abbrev pub IsSchemaRead : List ℕ → Result (List Table) DdlError → Type 0
IsSchemaRead bytes (Ok tables) =
    IsDdl bytes tables × ((others : List Table) → IsDdl bytes others → others ≡ tables) × ((fault : DdlError) → fault ≢ Memory → ¬ IsDdlFault bytes fault)
IsSchemaRead bytes (Err Memory) = Unit {0}
IsSchemaRead bytes (Err fault) =
    IsDdlFault bytes fault × ((tables : List Table) → ¬ IsDdl bytes tables) × ((other : DdlError) → other ≢ Memory → IsDdlFault bytes other → other ≡ fault)

-- ---- how faults are told

abbrev pub syntax_told : SyntaxError → DdlError
syntax_told syntax.Memory = Memory
syntax_told (syntax.NotUtf8 place) = NotUtf8 place
syntax_told (syntax.BadToken place) = BadToken place
syntax_told (syntax.Unexpected place) = Unexpected place
syntax_told (syntax.UnknownType place) = UnknownType place

abbrev pub fault_told : SchemaFault → DdlError
fault_told (faults.Bad error) = Schema error
fault_told faults.Memory = Memory
