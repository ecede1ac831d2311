-- The line that tells how a run ended.
use Rattle.std.specs.Prelude.{◌≡◌, ◌⊎◌, ◌==◌, ℕ, List, [], ◌∷◌, ◌++◌, codes, decimal, if◌then◌else◌}
use Rattle.std.specs.Io.KnownBytes.{Appends}
use Rattle.outside_dm.specs.Counts.{Rose}
use Rattle.outside_dm.specs.Sinks.{SinkState, AppendsPrefix}
use Rattle.cmd_dm.specs.declared.status.File.{File}
use Rattle.cmd_dm.specs.declared.status.File.TheVariants.{Schema, Table, Query, Graph, Pattern, More}
use Rattle.cmd_dm.specs.declared.status.Reason.{Reason}
use Rattle.cmd_dm.specs.declared.status.Status.{Status}
use Rattle.cmd_dm.specs.declared.status.Status.TheVariants.{Ok as Done, Refused, Usage, Absent, ReadFault, WriteFault, Memory, TooLong}

-- the name of each cause, by its code
abbrev pub causes : List (ℕ × List ℕ)
causes =
    (1, codes "BadValue") ∷
    (2, codes "NoTable") ∷
    (3, codes "NoColumn") ∷
    (4, codes "DuplicateTable") ∷
    (5, codes "DuplicateColumn") ∷
    (6, codes "UnknownColumn") ∷
    (7, codes "UnknownTable") ∷
    (8, codes "TwoPrimaryKeys") ∷
    (9, codes "NotAKey") ∷
    (10, codes "KindMismatch") ∷
    (11, codes "SameColumnsTwice") ∷
    (12, codes "NameClash") ∷
    (13, codes "TooManyTables") ∷
    (14, codes "TooManyColumns") ∷
    (15, codes "NotUtf8") ∷
    (16, codes "BadToken") ∷
    (17, codes "Unexpected") ∷
    (18, codes "UnknownType") ∷
    (19, codes "NoHeader") ∷
    (20, codes "BadHeader") ∷
    (21, codes "FieldCount") ∷
    (22, codes "TextNotUtf8") ∷
    (23, codes "BadValue") ∷
    (24, codes "NullRefused") ∷
    (25, codes "TooManyRows") ∷
    (26, codes "BadBase") ∷
    (27, codes "NotSafe") ∷
    (28, codes "BadLine") ∷
    (29, codes "TooManyTriples") ∷
    (30, codes "Unexplained") ∷
    (31, codes "TwoValues") ∷
    (32, codes "TwoTables") ∷
    (33, codes "NoKeyValue") ∷
    (34, codes "BadQuery") ∷
    (35, codes "NoSuchTable") ∷
    (36, codes "NoSuchColumn") ∷
    (37, codes "NameTaken") ∷
    (38, codes "NotSameColumns") ∷
    (39, codes "EmptyProject") ∷
    (40, codes "TooDeep") ∷
    (41, codes "BadName") ∷
    (42, codes "KeyViolated") ∷
    (43, codes "AlterUnknown") ∷
    (44, codes "NoTables") ∷
    (45, codes "TooWide") ∷
    (46, codes "UniqueViolated") ∷
    (47, codes "BadPattern") ∷
    (48, codes "TooNested") ∷
    (50, codes "BatchKeyViolated") ∷
    (51, codes "BatchUniqueViolated") ∷
    []

-- the name that stands beside this code, or nothing
abbrev pub name_beside : ℕ → List (ℕ × List ℕ) → List ℕ
name_beside code [] = []
name_beside code (entry ∷ entries) = if code == entry.0 then entry.1 else name_beside code entries

unfoldable pub cause_name : ℕ → List ℕ
cause_name code = name_beside code causes

-- a number behind its label, where it isn't 0
abbrev pub field_text : List ℕ → ℕ → List ℕ
field_text label number = if number == 0 then [] else (label ++ decimal number)

abbrev pub reason_text : Reason → List ℕ
reason_text reason =
    decimal reason.code ++ codes " " ++ cause_name reason.code
    ++ field_text (codes " table ") reason.table ++ field_text (codes " place ") reason.place ++ field_text (codes " column ") reason.column

abbrev pub file_text : File → List ℕ
file_text Schema = codes "schema"
file_text (Table number) = codes "table " ++ decimal number
file_text Query = codes "query"
file_text Graph = codes "graph"
file_text Pattern = codes "pattern"
file_text (More number) = codes "more " ++ decimal number

-- what the line says of a status
abbrev pub status_text : Status → List ℕ
status_text Done = []
status_text (Refused reason) = codes "refused " ++ reason_text reason
status_text Usage = codes "usage"
status_text (Absent file) = codes "absent " ++ file_text file
status_text (ReadFault file) = codes "read fault " ++ file_text file
status_text WriteFault = codes "write fault"
status_text Memory = codes "memory"
status_text (TooLong file) = codes "too long " ++ file_text file

-- the line, with its LF
unfoldable pub line_of : Status → List ℕ
line_of status = codes "dbrdf: " ++ status_text status ++ codes "\n"

-- the line was put whole, or a prefix of it where the sink failed or ran short of memory
abbrev pub PutsLine : List ℕ → SinkState → SinkState → Type 0
PutsLine line old new =
    Appends old.held new.held line
    ⊎ ((Rose old.faults new.faults ⊎ Rose old.shortages new.shortages) × AppendsPrefix old.held new.held line)

-- nothing is said of a run that ended well, and its line of every other
abbrev pub Tells : Status → SinkState → SinkState → Type 0
Tells Done old new = new ≡ old
Tells (Refused reason) old new = PutsLine (line_of (Refused reason)) old new
Tells Usage old new = PutsLine (line_of Usage) old new
Tells (Absent file) old new = PutsLine (line_of (Absent file)) old new
Tells (ReadFault file) old new = PutsLine (line_of (ReadFault file)) old new
Tells WriteFault old new = PutsLine (line_of WriteFault) old new
Tells Memory old new = PutsLine (line_of Memory) old new
Tells (TooLong file) old new = PutsLine (line_of (TooLong file)) old new
