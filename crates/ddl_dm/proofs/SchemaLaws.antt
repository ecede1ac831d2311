-- Bytes, their statements and the schema that these declare.
use Rattle.std.proofs.Common.{◌≡◌, ℕ, List, None, Result, Ok, Err}
use Rattle.schema_dm.specs.declared.table.Table.{Table}
use Rattle.schema_dm.specs.declared.refusal.SchemaFault.{SchemaFault}
use Rattle.schema_dm.specs.declared.refusal.SchemaFault.TheVariants as faults
use Rattle.schema_dm.specs.Schemas.{IsRefusedWith}
use Rattle.ddl_syntax_dm.specs.declared.syntax.Statement.{Statement}
use Rattle.ddl_syntax_dm.specs.declared.file.SyntaxError.{SyntaxError}
use Rattle.ddl_syntax_dm.specs.declared.file.SyntaxError.TheVariants as syntax
use Rattle.ddl_dm.specs.declared.ddl.DdlError.{DdlError}
use Rattle.ddl_dm.specs.declared.ddl.DdlError.TheVariants.{Memory, NotUtf8, BadToken, Unexpected, UnknownType, AlterUnknown, Schema}
use Rattle.ddl_syntax_dm.specs.Answer.{IsFile, IsRead}
use Rattle.ddl_dm.specs.Meaning.{drafts_of, unknown_alter}
use Rattle.ddl_dm.proofs.OneAnswer.{IsRightSchema, read_once}
use Rattle.ddl_dm.specs.Schema.{IsDeclared, IsSchemaRead, syntax_told, fault_told}

abbrev answer : DdlError → Result (List Table) DdlError
answer e = Err e

pub is_schema_read : (bytes : List ℕ) (statements : List Statement) (result : Result (List Table) DdlError) → IsFile bytes statements → IsDeclared statements result → IsSchemaRead bytes result
is_schema_read bytes statements result file h = read_once bytes result (right result h)
  where
    right : (told : Result (List Table) DdlError) → IsDeclared statements told → IsRightSchema bytes told
    right (Ok tables) k = (statements, file, k)
    right (Err Memory) k = tt
    right (Err (AlterUnknown number)) k = (statements, file, k)
    right (Err (Schema error)) k = (statements, file, k)
    right (Err (NotUtf8 place)) k = absurd k
    right (Err (BadToken place)) k = absurd k
    right (Err (Unexpected place)) k = absurd k
    right (Err (UnknownType place)) k = absurd k

pub syntax_is_told : (bytes : List ℕ) (e : SyntaxError) → IsRead bytes (Err e) → IsSchemaRead bytes (answer (syntax_told e))
syntax_is_told bytes e h = read_once bytes (answer (syntax_told e)) (right e h)
  where
    right : (told : SyntaxError) → IsRead bytes (Err told) → IsRightSchema bytes (answer (syntax_told told))
    right syntax.Memory k = tt
    right (syntax.NotUtf8 place) k = k.0
    right (syntax.BadToken place) k = k.0
    right (syntax.Unexpected place) k = k.0
    right (syntax.UnknownType place) k = k.0

pub fault_is_told : (statements : List Statement) (fault : SchemaFault) → unknown_alter statements ≡ None → IsRefusedWith (drafts_of statements) fault → IsDeclared statements (answer (fault_told fault))
fault_is_told statements (faults.Bad error) known h = (known, h)
fault_is_told statements faults.Memory known h = tt
