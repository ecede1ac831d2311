-- How steps join, and what follows from how a command ended.
use Rattle.std.proofs.Common.{◌≡◌, ◌∙◌, refl, sym, ap, subst, inl, inr, ◌⊎◌, ℕ, ◌≤◌, List, [], take, length, Bool, ◌<◌, Option, Some, None, Result, Ok, Err, arith}
use Rattle.std.proofs.KnownBytes.{Appends-nil}
use Rattle.outside_dm.specs.Counts.{Rose}
use Rattle.std.specs.Prelude.{IfSome, MatchBool}
use Rattle.std.specs.FinMap.{get}
use Rattle.std.proofs.lemmas.Bool.{lt-ltb}
use Rattle.outside_dm.specs.Shelves.{Files, ShelfState, LoadKeeps, StoreKeeps, IsOverlong, longest}
use Rattle.outside_dm.specs.Sinks.{SinkState, Puts}
use Rattle.outside_dm.specs.Storing.{Batch, Stores, StoresAll, StoresFirst}
use Rattle.outside_dm.specs.declared.shelf.StoreError.{StoreError}
use Rattle.outside_dm.specs.declared.shelf.StoreError.TheVariants.{Failed as StoreFailed, Memory as StoreMemory}
use Rattle.outside_dm.specs.Putting.{Writes}
use Rattle.outside_dm.specs.declared.sink.PutError.{PutError}
use Rattle.outside_dm.specs.declared.sink.PutError.TheVariants.{Failed as PutFailed, Memory as PutMemory}
use Rattle.cmd_dm.specs.Questions.{Question, AnswerTo, Answers}
use Rattle.cmd_dm.specs.Script.{Script, Work, Outcome, text_work, load, ask, refuse, write, refused, absent, too_long, done, status_of, AfterLoad, Comes}
use Rattle.cmd_dm.specs.Ending.{Grows, Target, to_output, to_shelf, to_both, Spares, Wrote, WroteSome, Untouched, WriteFaultRose, ToldComes, ToldWork, Means, CountsKept, Ends, Leads, Step, put_status, store_status, NoFault}
use Rattle.cmd_dm.specs.Invert.{files_work}
use Rattle.cmd_dm.proofs.Outcomes.{outcome_unique}
use Rattle.cmd_dm.specs.declared.status.File.{File}
use Rattle.cmd_dm.specs.declared.status.Reason.{Reason}
use Rattle.cmd_dm.specs.declared.status.Status.{Status}
use Rattle.cmd_dm.specs.declared.status.Status.TheVariants.{Ok as Done, Refused, Usage, Absent, ReadFault, WriteFault, Memory, TooLong}

-- ---- steps

load_keeps_refl : (s : ShelfState) → LoadKeeps s s
load_keeps_refl s = record { files = refl; store_faults = refl; load_faults = omega arith; absences = omega arith; overlongs = omega arith }

load_keeps_trans : {s t u : ShelfState} → LoadKeeps s t → LoadKeeps t u → LoadKeeps s u
load_keeps_trans h k = record {
  files = k.files ∙ h.files;
  store_faults = k.store_faults ∙ h.store_faults;
  load_faults = omega arith;
  absences = omega arith;
  overlongs = omega arith;
}

rose_earlier : (a b c : ℕ) → a ≤ b → Rose b c → Rose a c
rose_earlier a b c h rose = omega arith

pub leads_refl : (script : Script) (s : ShelfState) → Leads script s script s
leads_refl script s = record {
  kept = load_keeps_refl s;
  comes = λ files told o h. h;
  reaches = λ files told at by h. h;
  may_load = λ at by h. h;
}

pub leads_trans : {a b c : Script} {s t u : ShelfState} → Leads a s b t → Leads b t c u → Leads a s c u
leads_trans h k = record {
  kept = load_keeps_trans h.kept k.kept;
  comes = λ files told o m. h.comes files told o (k.comes files (h.kept.files ∙ told) o m);
  reaches = λ files told at by m. h.reaches files told at by (k.reaches files (h.kept.files ∙ told) at by m);
  may_load = λ at by m. h.may_load at by (k.may_load at by m);
}

module _ (s t u : ShelfState) (o p : SinkState) (keeps : LoadKeeps s t) where
  untouched_after : Untouched t u o p → Untouched s u o p
  untouched_after k = record { files = k.files ∙ keeps.files; store_faults = k.store_faults ∙ keeps.store_faults; output = k.output }

  wrote_after : (work : Work) → Wrote work t u o p → Wrote work s u o p
  wrote_after work w = record { files = subst (λ f. StoresAll work.files f u.files) keeps.files w.files; text = w.text }

  wrote_some_after : (work : Work) → WroteSome work t u o p → WroteSome work s u o p
  wrote_some_after work (inl w) = inl (subst (λ f. StoresFirst work.files f u.files) keeps.files w.0, w.1)
  wrote_some_after work (inr w) = inr (subst (λ f. StoresAll work.files f u.files) keeps.files w.0, w.1)

  fault_after : (target : Target) → WriteFaultRose target t u o p → WriteFaultRose target s u o p
  fault_after to_output rose = rose
  fault_after to_shelf rose = subst (λ n. Rose n u.store_faults) keeps.store_faults rose
  fault_after to_both (inl rose) = inl (subst (λ n. Rose n u.store_faults) keeps.store_faults rose)
  fault_after to_both (inr rose) = inr rose

  spares_after : (target : Target) → Spares target t u o p → Spares target s u o p
  spares_after to_output h = (h.0 ∙ keeps.files, h.1 ∙ keeps.store_faults)
  spares_after to_shelf h = h
  spares_after to_both h = tt

  module _ (from to : Script) (h : Leads from s to t) where
    comes_after : (outcome : Outcome) → ToldComes to t outcome → ToldComes from s outcome
    comes_after outcome m = λ files told. h.comes files told outcome (m files (keeps.files ∙ told))

    work_some_after : ToldWork to t (λ work. WroteSome work t u o p) → ToldWork from s (λ work. WroteSome work s u o p)
    work_some_after m = λ files told. let w = m files (keeps.files ∙ told) in (w.0, (h.comes files told (done w.0) w.1.0, wrote_some_after w.0 w.1.1))

    means_after : (target : Target) (status : Status) → Means target to t u o p status → Means target from s u o p status
    means_after target Done m = λ files told. let w = m files (keeps.files ∙ told) in (w.0, (h.comes files told (done w.0) w.1.0, wrote_after w.0 w.1.1))
    means_after target (Refused reason) m = (untouched_after m.0, comes_after (refused reason) m.1)
    means_after target Usage m = m
    means_after target (Absent file) m = (untouched_after m.0, rose_earlier _ _ _ keeps.absences m.1, comes_after (absent file) m.2, (m.3.0, h.may_load _ _ m.3.1))
    means_after target (ReadFault file) m = (
      untouched_after m.0,
      rose_earlier _ _ _ keeps.load_faults m.1,
      h.may_load _ _ m.2,
      λ files told. h.reaches files told _ _ (m.3 files (keeps.files ∙ told)),
    )
    means_after target WriteFault m = (fault_after target m.0, work_some_after m.1)
    means_after target Memory (inl k) = inl (untouched_after k)
    means_after target Memory (inr k) = inr (work_some_after k)
    means_after target (TooLong file) m = (untouched_after m.0, rose_earlier _ _ _ keeps.overlongs m.1, comes_after (too_long file) m.2, (m.3.0, h.may_load _ _ m.3.1))

-- steps first, and then how the rest ended
pub ends_after : {target : Target} {from to : Script} {s t u : ShelfState} {o p : SinkState} {status : Status} →
    Leads from s to t → Ends target to t u o p status → Ends target from s u o p status
ends_after {target = target} {status = status} h e = record {
  means = means_after _ _ _ _ _ h.kept _ _ h target status e.means;
  spares = spares_after _ _ _ _ _ h.kept target e.spares;
  counts = record {
    load_faults = omega (arith, h.kept.load_faults, e.counts.load_faults);
    store_faults = omega (arith, h.kept.store_faults, e.counts.store_faults);
    absences = omega (arith, h.kept.absences, e.counts.absences);
    overlongs = omega (arith, h.kept.overlongs, e.counts.overlongs);
    faults = e.counts.faults;
    shortages = e.counts.shortages;
    grown = e.counts.grown;
  };
}

pub counts_refl : (s : ShelfState) (o : SinkState) → CountsKept s s o o
counts_refl s o = record {
  load_faults = omega arith;
  store_faults = omega arith;
  absences = omega arith;
  overlongs = omega arith;
  faults = omega arith;
  shortages = omega arith;
  grown = ([], Appends-nil o.held);
}

puts_grown : (text : List ℕ) (o p : SinkState) (result : Result (Unit {0}) PutError) → Puts text o p result → Grows o.held p.held
puts_grown text o p (Ok x) puts = (text, puts)
puts_grown text o p (Err PutFailed) puts = (take puts.1.0 text, puts.1.1)
puts_grown text o p (Err PutMemory) puts = (take puts.0 text, puts.1)

counts_put : (s : ShelfState) {text : List ℕ} {o p : SinkState} (result : Result (Unit {0}) PutError) → Writes text o p result → CountsKept s s o p
counts_put s {text = text} {o = o} {p = p} result w = record {
  load_faults = omega arith;
  store_faults = omega arith;
  absences = omega arith;
  overlongs = omega arith;
  faults = w.kept.faults;
  shortages = w.kept.shortages;
  grown = puts_grown text o p result w.puts;
}

spares_refl : (target : Target) (s : ShelfState) (o : SinkState) → Spares target s s o o
spares_refl to_output s o = (refl, refl)
spares_refl to_shelf s o = refl
spares_refl to_both s o = tt

-- a refusal writes nothing
pub ends_refused : (target : Target) (reason : Reason) (s : ShelfState) (o : SinkState) → Ends target (refuse reason) s s o o (Refused reason)
ends_refused target reason s o = record {
  means = (record { files = refl; store_faults = refl; output = refl }, λ files told. refl);
  spares = spares_refl target s o;
  counts = counts_refl s o;
}

-- memory ran out before anything was written
pub ends_memory : (target : Target) (script : Script) (s : ShelfState) (o : SinkState) → Ends target script s s o o Memory
ends_memory target script s o = record {
  means = inl (record { files = refl; store_faults = refl; output = refl });
  spares = spares_refl target s o;
  counts = counts_refl s o;
}

-- a right answer leads on
pub leads_ask : (question : Question) (answer : AnswerTo question) (next : AnswerTo question → Script) (s : ShelfState) →
    Answers question answer → Leads (ask question next) s (next answer) s
leads_ask question answer next s right = record {
  kept = load_keeps_refl s;
  comes = λ files told o h. (answer, (right, h));
  reaches = λ files told at by h. (answer, (right, h));
  may_load = λ at by h. (answer, (right, h));
}

spares_loads : (target : Target) {s t : ShelfState} (o : SinkState) → LoadKeeps s t → Spares target s t o o
spares_loads to_output o keeps = (keeps.files, keeps.store_faults)
spares_loads to_shelf o keeps = refl
spares_loads to_both o keeps = tt

counts_loads : {s t : ShelfState} (o : SinkState) → LoadKeeps s t → CountsKept s t o o
counts_loads o keeps = record {
  load_faults = keeps.load_faults;
  store_faults = omega (arith, keeps.store_faults);
  absences = keeps.absences;
  overlongs = keeps.overlongs;
  faults = omega arith;
  shortages = omega arith;
  grown = ([], Appends-nil o.held);
}

-- a file that isn't there
pub ends_absent : (target : Target) (file : File) (name : List ℕ) (next : List ℕ → Script) {s t : ShelfState} (o : SinkState) →
    LoadKeeps s t → Rose s.absences t.absences → IfSome s.files (λ files. get files name ≡ None) → Ends target (load file name next) s t o o (Absent file)
ends_absent target file name next {s = s} o keeps rose only = record {
  means = (
    record { files = keeps.files; store_faults = keeps.store_faults; output = refl },
    rose,
    (λ files told.
        let none : get files name ≡ None = subst (λ (f : Option Files). IfSome f (λ files. get files name ≡ None)) told only in
        subst (λ (content : Option (List ℕ)). AfterLoad file content (λ bytes. Comes files (next bytes) (absent file)) (absent file)) (sym none) refl),
    (name, inl (refl, refl)),
  );
  spares = spares_loads target o keeps;
  counts = counts_loads o keeps;
}

longer : (content : Option (List ℕ)) → IsOverlong content → (bytes : List ℕ) × (content ≡ Some bytes) × (longest < length bytes)
longer None h = absurd h
longer (Some bytes) h = (bytes, refl, h)

-- a file that is longer than a load takes
pub ends_too_long : (target : Target) (file : File) (name : List ℕ) (next : List ℕ → Script) {s t : ShelfState} (o : SinkState) →
    LoadKeeps s t → Rose s.overlongs t.overlongs → IfSome s.files (λ files. IsOverlong (get files name)) → Ends target (load file name next) s t o o (TooLong file)
ends_too_long target file name next {s = s} o keeps rose only = record {
  means = (
    record { files = keeps.files; store_faults = keeps.store_faults; output = refl },
    rose,
    (λ files told.
        let long : IsOverlong (get files name) = subst (λ (f : Option Files). IfSome f (λ files. IsOverlong (get files name))) told only in
        let found = longer (get files name) long in
        subst (λ (content : Option (List ℕ)). AfterLoad file content (λ bytes. Comes files (next bytes) (too_long file)) (too_long file)) (sym found.1)
        (subst (λ (b : Bool). MatchBool b (too_long file ≡ too_long file) (Comes files (next found.0) (too_long file))) (sym (lt-ltb longest (length found.0) found.2)) refl)),
    (name, inl (refl, refl)),
  );
  spares = spares_loads target o keeps;
  counts = counts_loads o keeps;
}

-- a load by the name of another spelling
pub step_named : (file : File) (name other : List ℕ) (s t : ShelfState) (result : Result (List ℕ) Status) → name ≡ other → Step (load file name) s t result → Step (load file other) s t result
step_named file name other s t result same step = subst (λ (n : List ℕ). Step (load file n) s t result) same step

stores_none : (files : Option Files) → StoresAll [] files files
stores_none None = tt
stores_none (Some files) = refl

-- a step that led to one that loads nothing
pub step_then : {B : Type 0} (node last : (B → Script) → Script) (s t : ShelfState) (result : Result B Status) → ((next : B → Script) → Leads (node next) s (last next) t) → Step last t t result → Step node s t result
step_then node last s t (Ok value) leads step = λ next. leads_trans (leads next) (step next)
step_then node last s t (Err status) leads step = λ target next out. ends_after (leads next) (step target next out)

-- a text was put
pub ends_writes : (text : List ℕ) (s : ShelfState) {o p : SinkState} (result : Result (Unit {0}) PutError) →
    Writes text o p result → Ends to_output (write (text_work text)) s s o p (put_status result)
ends_writes text s (Ok x) w = record {
  means = λ files told. (text_work text, (refl, record { files = stores_none s.files; text = w.puts }));
  spares = (refl, refl);
  counts = counts_put s _ w;
}
ends_writes text s (Err PutFailed) w = record {
  means = (w.puts.0, λ files told. (text_work text, (refl, inr (stores_none s.files, w.puts.1))));
  spares = (refl, refl);
  counts = counts_put s _ w;
}
ends_writes text s (Err PutMemory) w = record {
  means = inr (λ files told. (text_work text, (refl, inr (stores_none s.files, w.puts))));
  spares = (refl, refl);
  counts = counts_put s _ w;
}

counts_stored : {s t : ShelfState} {text : List ℕ} {o p : SinkState} (result : Result (Unit {0}) PutError) → StoreKeeps s t → Writes text o p result → CountsKept s t o p
counts_stored {text = text} {o = o} {p = p} result stored w = record {
  load_faults = omega (arith, stored.load_faults);
  store_faults = stored.store_faults;
  absences = omega (arith, stored.absences);
  overlongs = omega (arith, stored.overlongs);
  faults = w.kept.faults;
  shortages = w.kept.shortages;
  grown = puts_grown text o p result w.puts;
}

counts_cut : {s t : ShelfState} (o : SinkState) → StoreKeeps s t → CountsKept s t o o
counts_cut o stored = record {
  load_faults = omega (arith, stored.load_faults);
  store_faults = stored.store_faults;
  absences = omega (arith, stored.absences);
  overlongs = omega (arith, stored.overlongs);
  faults = omega arith;
  shortages = omega arith;
  grown = ([], Appends-nil o.held);
}

-- a store was refused, and nothing was put
pub ends_cut : (work : Work) {s t : ShelfState} (o : SinkState) (error : StoreError) → Stores work.files s t (Err error) → Ends to_both (write work) s t o o (store_status {A = Unit {0}} (Err error))
ends_cut work o StoreFailed h = record {
  means = (inl h.ends.0, λ files told. (work, (refl, inl (h.ends.1, refl))));
  spares = tt;
  counts = counts_cut o h.kept;
}
ends_cut work o StoreMemory h = record {
  means = inr (λ files told. (work, (refl, inl (h.ends, refl))));
  spares = tt;
  counts = counts_cut o h.kept;
}

-- all files were stored, and the text was put
pub ends_stored : (work : Work) {s t : ShelfState} {o p : SinkState} (stored : Unit {0}) (result : Result (Unit {0}) PutError) → Stores work.files s t (Ok stored) → Writes work.text o p result →
    Ends to_both (write work) s t o p (put_status result)
ends_stored work stored (Ok x) h w = record {
  means = λ files told. (work, (refl, record { files = h.ends; text = w.puts }));
  spares = tt;
  counts = counts_stored _ h.kept w;
}
ends_stored work stored (Err PutFailed) h w = record {
  means = (inr w.puts.0, λ files told. (work, (refl, inr (h.ends, w.puts.1))));
  spares = tt;
  counts = counts_stored _ h.kept w;
}
ends_stored work stored (Err PutMemory) h w = record {
  means = inr (λ files told. (work, (refl, inr (h.ends, w.puts))));
  spares = tt;
  counts = counts_stored _ h.kept w;
}

-- files were stored or a store was refused, and nothing was to be put
pub ends_filed : (files : Batch) {s t : ShelfState} (o : SinkState) (result : Result (Unit {0}) StoreError) → Stores files s t result → Ends to_shelf (write (files_work files)) s t o o (store_status result)
ends_filed files o (Ok x) h = record {
  means = λ told is. (files_work files, (refl, record { files = h.ends; text = Appends-nil o.held }));
  spares = refl;
  counts = counts_cut o h.kept;
}
ends_filed files o (Err StoreFailed) h = record {
  means = (h.ends.0, λ told is. (files_work files, (refl, inl (h.ends.1, refl))));
  spares = refl;
  counts = counts_cut o h.kept;
}
ends_filed files o (Err StoreMemory) h = record {
  means = inr (λ told is. (files_work files, (refl, inl (h.ends, refl))));
  spares = refl;
  counts = counts_cut o h.kept;
}

-- ---- what follows from how a command ended

-- without a fault the status is that of what comes of the script
pub status_comes : (target : Target) (script : Script) (s t : ShelfState) (o p : SinkState) (status : Status) → Ends target script s t o p status →
    (files : Files) → s.files ≡ Some files → NoFault s t o p → ((outcome : Outcome) × (Comes files script outcome × (status ≡ status_of outcome))) ⊎ (status ≡ Memory)
status_comes target script s t o p Done e files told calm = let w = e.means files told in inl (done w.0, (w.1.0, refl))
status_comes target script s t o p (Refused reason) e files told calm = inl (refused reason, (e.means.1 files told, refl))
status_comes target script s t o p Usage e files told calm = absurd e.means
status_comes target script s t o p (Absent file) e files told calm = inl (absent file, (e.means.2 files told, refl))
status_comes target script s t o p (ReadFault file) e files told calm = absurd (calm.loads e.means.1)
status_comes to_output script s t o p WriteFault e files told calm = absurd (calm.puts e.means.0)
status_comes to_shelf script s t o p WriteFault e files told calm = absurd (calm.stores e.means.0)
status_comes to_both script s t o p WriteFault e files told calm = elim e.means.0 [ inl rose ↦ absurd (calm.stores rose) | inr rose ↦ absurd (calm.puts rose) ]
status_comes target script s t o p Memory e files told calm = inr refl
status_comes target script s t o p (TooLong file) e files told calm = inl (too_long file, (e.means.2 files told, refl))

pub ends_exact : {target : Target} {script : Script} {s t : ShelfState} {o p : SinkState} {status : Status} → Ends target script s t o p status →
    (files : Files) (outcome : Outcome) → s.files ≡ Some files → Comes files script outcome → NoFault s t o p → (status ≡ status_of outcome) ⊎ (status ≡ Memory)
ends_exact e files outcome told comes calm = elim (status_comes _ _ _ _ _ _ _ e files told calm) [
  | inl h ↦ inl (h.1.1 ∙ ap status_of (outcome_unique files _ h.0 outcome h.1.0 comes))
  | inr memory ↦ inr memory
]
