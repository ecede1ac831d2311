-- What loops of writes and of reads have come to.
use Rattle.std.specs.Prelude.{map, All, MatchOption, Ok, Err, Option, Some, None, Result}
use Rattle.std.proofs.Common.{◌≡◌, ◌≢◌, ◌∙◌, refl, sym, ap, subst, ℕ, ◌+◌, ◌<◌, ◌≤◌, List, [], ◌∷◌, ◌++◌, length, take, drop, append-nil, arith}
use Rattle.std.proofs.lemmas.List.{append_assoc, drop_all, length-append, length-drop, length-map, length-take-le, map-append, take-append-drop}
use Rattle.std.proofs.lemmas.List.Elements.{All-append, All-cons, All-head, All-nil, All-tail}
use Rattle.std.proofs.lemmas.List.Folds.{concat-append}
use Rattle.std.proofs.KnownBytes.{Appends-nil, Appends-trans}
use Rattle.std.specs.List.{concat}
use Rattle.std.specs.Io.KnownBytes.{Appends}
use Rattle.std.specs.Path.{path_parent}
use Rattle.std.specs.declared.io.Error.{Error}
use Rattle.outside_dm.specs.Calls.{ReadCall, WriteCall, wrote, flushed, FolderCall, made_folder, Makes}
use Rattle.outside_dm.specs.Folders.{CreatesBehind, FolderEnds, StoresBy}
use Rattle.outside_dm.specs.declared.shelf.StoreError.{StoreError}
use Rattle.outside_dm.specs.Shelves.{longest}
use Rattle.outside_dm.specs.Transfers.{LoadEnds, PutEnds, PutsBy, ReadsBy, writes}
use Rattle.outside_dm.specs.declared.shelf.LoadError.{LoadError}
use Rattle.outside_dm.specs.declared.sink.PutError.{PutError}

-- ---- calls

-- no call was made
pub Makes-none : {D C : Type 0} (HasMade : D → List C → Type 0) (state : D) → Makes HasMade state state []
Makes-none HasMade state before made = subst (HasMade state) (sym (append-nil before)) made

-- calls, and then others
pub Makes-then : {D C : Type 0} (HasMade : D → List C → Type 0) (a b c : D) (front back : List C) → Makes HasMade a b front → Makes HasMade b c back → Makes HasMade a c (front ++ back)
Makes-then HasMade a b c front back first second before made = subst (HasMade c) (append_assoc before front back) (second (before ++ front) (first before made))

-- ---- chunks

-- one chunk more at the end
concat-more : (chunks : List (List ℕ)) (chunk : List ℕ) → concat (chunks ++ chunk ∷ []) ≡ concat chunks ++ chunk
concat-more chunks chunk = concat-append chunks (chunk ∷ []) ∙ ap (λ l. concat chunks ++ l) (append-nil chunk)

-- chunks of at least a byte each are at most as many as their bytes
few_chunks : (chunks : List (List ℕ)) → All (λ chunk. 0 < length chunk) chunks → length chunks ≤ length (concat chunks)
few_chunks [] each = omega arith
few_chunks (chunk ∷ chunks) each =
    omega (arith, length-append chunk (concat chunks), few_chunks chunks (All-tail (λ chunk. 0 < length chunk) chunk chunks each), All-head (λ chunk. 0 < length chunk) chunk chunks each)

each_more : (chunks : List (List ℕ)) (chunk : List ℕ) → All (λ chunk. 0 < length chunk) chunks → 0 < length chunk → All (λ chunk. 0 < length chunk) (chunks ++ chunk ∷ [])
each_more chunks chunk each some = All-append (λ chunk. 0 < length chunk) chunks (chunk ∷ []) each (All-cons (λ chunk. 0 < length chunk) chunk [] some (All-nil (λ chunk. 0 < length chunk)))

-- ---- writes

-- writes took what stands before the rest of the piece
pub record WritesSoFar {W : Type 0} (HasMade : W → List WriteCall → Type 0) (held : W → Option (List ℕ)) (old new : W) (piece rest : List ℕ) : Type 0 where
  pub taken : List (List ℕ)
  pub made : Makes HasMade old new (map (λ bytes. wrote (Ok bytes)) taken)
  pub whole : piece ≡ concat taken ++ rest
  pub each : All (λ bytes. 0 < length bytes) taken
  pub told : Appends (held old) (held new) (concat taken)

module _ {W : Type 0} (HasMade : W → List WriteCall → Type 0) (held : W → Option (List ℕ)) where
  pub no_writes : (state : W) (piece : List ℕ) → WritesSoFar HasMade held state state piece piece
  no_writes state piece = record { taken = []; made = Makes-none HasMade state; whole = refl; each = All-nil (λ bytes. 0 < length bytes); told = Appends-nil (held state) }

  -- one write more
  pub one_more_write : (a b c : W) (piece rest : List ℕ) (count : ℕ) → WritesSoFar HasMade held a b piece rest → 0 < count → count ≤ length rest
      → Makes HasMade b c (wrote (Ok (take count rest)) ∷ []) → Appends (held b) (held c) (take count rest) → WritesSoFar HasMade held a c piece (drop count rest)
  one_more_write a b c piece rest count so_far some within made told = record {
    taken = so_far.taken ++ take count rest ∷ [];
    made = subst (Makes HasMade a c) (sym (map-append (λ bytes. wrote (Ok bytes)) so_far.taken (take count rest ∷ []))) (Makes-then HasMade a b c _ _ so_far.made made);
    whole =
        so_far.whole ∙ ap (λ l. concat so_far.taken ++ l) (sym (take-append-drop count rest))
        ∙ sym (append_assoc (concat so_far.taken) (take count rest) (drop count rest))
        ∙ ap (λ l. l ++ drop count rest) (sym (concat-more so_far.taken (take count rest)));
    each = each_more so_far.taken (take count rest) so_far.each (omega (arith, length-take-le count rest within));
    told = subst (Appends (held a) (held c)) (sym (concat-more so_far.taken (take count rest))) (Appends-trans _ _ _ _ _ so_far.told told);
  }

  writes_of : (taken : List (List ℕ)) (last : WriteCall) → writes (map (λ bytes. wrote (Ok bytes)) taken ++ last ∷ []) ≡ length taken + writes (last ∷ [])
  writes_of [] last = omega arith
  writes_of (bytes ∷ taken) last = omega (arith, writes_of taken last)

  -- a write is last only where something is left
  few_at_last : (rest : List ℕ) (last : WriteCall) (result : Result (Unit {0}) PutError) → PutEnds rest last result → writes (last ∷ []) ≤ length rest
  few_at_last [] (wrote (Ok bytes)) result ends = absurd (ends.0 refl)
  few_at_last [] (wrote (Err error)) result ends = absurd (ends.0 refl)
  few_at_last (byte ∷ rest) (wrote answer) result ends = omega arith
  few_at_last rest (flushed answer) result ends = omega arith

  -- the call that decides
  pub put_ends : (a b c : W) (piece rest : List ℕ) (last : WriteCall) (result : Result (Unit {0}) PutError) → WritesSoFar HasMade held a b piece rest
      → Makes HasMade b c (last ∷ []) → PutEnds rest last result → PutsBy HasMade a c piece result
  put_ends a b c piece rest last result so_far made ends = record {
    taken = so_far.taken;
    rest = rest;
    last = last;
    made = Makes-then HasMade a b c _ _ so_far.made made;
    whole = so_far.whole;
    each = so_far.each;
    budget =
        let whole : length piece ≡ length (concat so_far.taken) + length rest = ap length so_far.whole ∙ length-append (concat so_far.taken) rest in
        omega (arith, whole, writes_of so_far.taken last, few_at_last rest last result ends, few_chunks so_far.taken so_far.each);
    ends = ends;
  }

-- something of the piece is left behind these bytes
pub some_left : (taken : ℕ) (piece : List ℕ) → taken < length piece → drop taken piece ≢ []
some_left taken piece below none = omega (arith, length-drop taken piece, ap length none, below)

-- nothing is left
pub none_left : (taken : ℕ) (piece : List ℕ) → length piece ≤ taken → drop taken piece ≡ []
none_left taken piece over = drop_all taken piece over

-- ---- reads

-- reads gave bytes, which were appended
pub record ReadsSoFar {R : Type 0} (HasMade : R → List ReadCall → Type 0) (old new : R) (before after : List ℕ) (taken : ℕ) : Type 0 where
  pub chunks : List (List ℕ)
  pub made : Makes HasMade old new (map Ok chunks)
  pub each : All (λ chunk. 0 < length chunk) chunks
  pub few : length chunks ≤ longest + 1
  pub counted : length (concat chunks) ≡ taken
  pub appended : after ≡ before ++ concat chunks

module _ {R : Type 0} (HasMade : R → List ReadCall → Type 0) where
  pub no_reads : (state : R) (before : List ℕ) → ReadsSoFar HasMade state state before before 0
  no_reads state before = record {
    chunks = [];
    made = Makes-none HasMade state;
    each = All-nil (λ chunk. 0 < length chunk);
    few = omega arith;
    counted = refl;
    appended = sym (append-nil before);
  }

  -- one read more, behind at most as many bytes as a load takes
  pub one_more_read : (a b c : R) (before after : List ℕ) (taken : ℕ) (chunk : List ℕ) (count : ℕ) → ReadsSoFar HasMade a b before after taken → taken ≤ longest → length chunk ≡ count → 0 < count
      → Makes HasMade b c (Ok chunk ∷ []) → ReadsSoFar HasMade a c before (after ++ chunk) (taken + count)
  one_more_read a b c before after taken chunk count so_far short long some made = record {
    chunks = so_far.chunks ++ chunk ∷ [];
    made = subst (Makes HasMade a c) (sym (map-append Ok so_far.chunks (chunk ∷ []))) (Makes-then HasMade a b c _ _ so_far.made made);
    each = each_more so_far.chunks chunk so_far.each (omega (arith, long, some));
    few = omega (arith, length-append so_far.chunks (chunk ∷ []), few_chunks so_far.chunks so_far.each, so_far.counted, short);
    counted = omega (arith, ap length (concat-more so_far.chunks chunk), length-append (concat so_far.chunks) chunk, so_far.counted, long);
    appended = ap (λ l. l ++ chunk) so_far.appended ∙ append_assoc before (concat so_far.chunks) chunk ∙ ap (λ l. before ++ l) (sym (concat-more so_far.chunks chunk));
  }

  -- the reading stops behind what was read
  pub reads_stop : (a b : R) (before after : List ℕ) (taken : ℕ) (result : Result (Unit {0}) LoadError) (so_far : ReadsSoFar HasMade a b before after taken)
      → LoadEnds (concat so_far.chunks) None result → ReadsBy HasMade a b (concat so_far.chunks) result
  reads_stop a b before after taken result so_far ends = record {
    chunks = so_far.chunks;
    last = None;
    made = subst (Makes HasMade a b) (sym (append-nil (map Ok so_far.chunks))) so_far.made;
    whole = refl;
    each = so_far.each;
    budget = omega (arith, length-append {A = ReadCall} (map Ok so_far.chunks) [], length-map {B = ReadCall} so_far.chunks Ok, so_far.few);
    ends = ends;
  }

  -- one read more decides, behind at most as many bytes as a load takes
  pub reads_end : (a b c : R) (before after : List ℕ) (taken : ℕ) (last : ReadCall) (result : Result (Unit {0}) LoadError) (so_far : ReadsSoFar HasMade a b before after taken) → taken ≤ longest
      → Makes HasMade b c (last ∷ []) → LoadEnds (concat so_far.chunks) (Some last) result → ReadsBy HasMade a c (concat so_far.chunks) result
  reads_end a b c before after taken last result so_far short made ends = record {
    chunks = so_far.chunks;
    last = Some last;
    made = Makes-then HasMade a b c _ _ so_far.made made;
    whole = refl;
    each = so_far.each;
    budget = omega (arith, length-append {A = ReadCall} (map Ok so_far.chunks) (last ∷ []), length-map {B = ReadCall} so_far.chunks Ok, few_chunks so_far.chunks so_far.each, so_far.counted, short);
    ends = ends;
  }

-- ---- stores

-- a file is made behind its folder
pub stores_in_folder : {F W : Type 0} (HasMade : F → List FolderCall → Type 0) (HasWritten : W → List WriteCall → Type 0) (a b c : F) (name bytes folder : List ℕ) (result : Result (Unit {0}) StoreError) (done : Unit {0}) →
    path_parent name ≡ Some folder → Makes HasMade a b (made_folder folder (Ok done) ∷ []) → CreatesBehind HasMade HasWritten b c name bytes result [] → StoresBy HasMade HasWritten a c name bytes result
stores_in_folder HasMade HasWritten a b c name bytes folder result done parent made creates =
    subst (λ (p : Option (List ℕ)).
    MatchOption p (CreatesBehind HasMade HasWritten a c name bytes result [])
    (λ folder. (answer : Result (Unit {0}) Error) × FolderEnds HasMade HasWritten a c name bytes result folder answer)) (sym parent)
    (Ok done, (creates.0, Makes-then HasMade a b c _ _ made creates.1, creates.2))
