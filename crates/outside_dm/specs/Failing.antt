-- Devices in memory that fail at listed calls.
use Rattle.std.specs.Prelude.{◌≡◌, ◌≢◌, ℕ, Bool, List, [], ◌∷◌, Option, Some, None, Result, Err, nat_eq, take, string_bytes, MatchBool, MatchOption, ◌⊎◌, if◌then◌else◌}
use Rattle.std.specs.List.{list_any}
use Rattle.std.specs.Io.KnownBytes.{Appends}
use Rattle.outside_dm.specs.Counts.{counted}
use Rattle.outside_dm.specs.Shelves.{ShelfState}
use Rattle.outside_dm.specs.Sinks.{SinkState}
use Rattle.outside_dm.specs.Files.{files_of}
use Rattle.outside_dm.specs.declared.shelf.LoadError.{LoadError}
use Rattle.outside_dm.specs.declared.shelf.LoadError.TheVariants.{Failed as LoadFailed, Memory as LoadMemory}
use Rattle.outside_dm.specs.declared.shelf.StoreError.{StoreError}
use Rattle.outside_dm.specs.declared.shelf.StoreError.TheVariants.{Failed as StoreFailed}
use Rattle.outside_dm.specs.declared.sink.PutError.{PutError}
use Rattle.outside_dm.specs.declared.sink.PutError.TheVariants.{Failed as PutFailed, Memory as PutMemory}
use Rattle.outside_dm.specs.declared.memory_shelf.MemoryShelf.{MemoryShelf}
use Rattle.outside_dm.specs.declared.memory_sink.MemorySink.{MemorySink}
use Rattle.outside_dm.specs.declared.memory_sink.Cut.{Cut}

-- ---- a shelf

-- the numbers of the loads and of the stores that fail, counted from 1, and how many loads and stores there were
pub record ShelfCalls : Type 0 where
  pub fail_loads : List ℕ
  pub fail_stores : List ℕ
  pub loads : ℕ
  pub stores : ℕ

abbrev pub shelf_state : MemoryShelf → ShelfState
shelf_state shelf = record {
  files = Some (files_of shelf.files);
  failed = string_bytes shelf.failed;
  load_faults = shelf.load_faults;
  store_faults = shelf.store_faults;
  absences = shelf.absences;
  overlongs = shelf.overlongs;
}

abbrev pub shelf_calls : MemoryShelf → ShelfCalls
shelf_calls shelf = record { fail_loads = shelf.fail_loads; fail_stores = shelf.fail_stores; loads = shelf.loads; stores = shelf.stores }

-- the number of this call is in the list
abbrev pub is_listed : List ℕ → ℕ → Bool
is_listed numbers call = list_any (λ number. nat_eq number call) numbers

-- a load fails where its number is listed, if memory for its name doesn't run out; else it doesn't fail and counts no fault
abbrev pub LoadsByList : ShelfCalls → ShelfState → ShelfState → Result (Unit {0}) LoadError → Type 0
LoadsByList calls old new result =
    MatchBool (is_listed calls.fail_loads (counted calls.loads))
    ((result ≡ Err LoadFailed) ⊎ (result ≡ Err LoadMemory))
    ((result ≢ Err LoadFailed) × (new.load_faults ≡ old.load_faults))

-- a store fails exactly where its number is listed, and only then counts a fault
abbrev pub StoresByList : ShelfCalls → ShelfState → ShelfState → Result (Unit {0}) StoreError → Type 0
StoresByList calls old new result =
    MatchBool (is_listed calls.fail_stores (counted calls.stores))
    (result ≡ Err StoreFailed)
    ((result ≢ Err StoreFailed) × (new.store_faults ≡ old.store_faults))

-- ---- a sink

-- the puts that fail, and how many puts there were
pub record SinkCalls : Type 0 where
  pub cuts : List Cut
  pub puts : ℕ

abbrev pub sink_state : MemorySink → SinkState
sink_state sink = record { held = Some sink.bytes.items; faults = sink.faults; shortages = sink.shortages }

abbrev pub sink_calls : MemorySink → SinkCalls
sink_calls sink = record { cuts = sink.cuts; puts = sink.puts }

-- how much the first cut of this call keeps, if it has one
abbrev pub kept_at : List Cut → ℕ → Option ℕ
kept_at [] call = None
kept_at (cut ∷ cuts) call = (if nat_eq cut.call call then Some cut.kept else kept_at cuts call)

-- a put that has a cut fails and keeps so many bytes of its piece, if memory doesn't run out; else it doesn't fail and counts no fault
abbrev pub PutsByList : SinkCalls → List ℕ → SinkState → SinkState → Result (Unit {0}) PutError → Type 0
PutsByList calls piece old new result =
    MatchOption (kept_at calls.cuts (counted calls.puts))
    ((result ≢ Err PutFailed) × (new.faults ≡ old.faults))
    (λ kept. ((result ≡ Err PutFailed) × Appends old.held new.held (take kept piece)) ⊎ (result ≡ Err PutMemory))
