-- How texts that are put one after another join.
use Rattle.std.specs.Prelude.{◌≡◌, ℕ, ◌+◌, ◌<◌, ◌≤◌, min, List, [], ◌∷◌, ◌++◌, length, take, drop, Option, Result, Ok, Err}
use Rattle.std.proofs.Common.{refl, sym, ap, subst, ◌∙◌, append-nil, arith, get_or, drop-cons, add-one}
use Rattle.std.proofs.lemmas.List.{take-append-le, take_min, take-append-drop}
use Rattle.std.proofs.lemmas.Grind.{flat_map-append}
use Rattle.std.proofs.Math.Seq.{take-append-add, take-append_seam, take-suc}
use Rattle.std.specs.List.{flat_map}
use Rattle.std.specs.Io.KnownBytes.{Appends}
use Rattle.std.proofs.KnownBytes.{Appends-nil, Appends-trans}
use Rattle.outside_dm.specs.Counts.{Rose}
use Rattle.outside_dm.specs.Sinks.{SinkState, SinkKeeps, AppendsPrefix, Puts, CountsShortage}
use Rattle.outside_dm.specs.Putting.{Writes, Written, Passes}
use Rattle.outside_dm.specs.declared.sink.PutError.{PutError}
use Rattle.outside_dm.specs.declared.sink.PutError.TheVariants.{Failed, Memory}

-- ---- the counts of a sink

pub SinkKeeps-refl : (a : SinkState) → SinkKeeps a a
SinkKeeps-refl a = record { faults = omega arith; shortages = omega arith }

pub SinkKeeps-trans : {a b c : SinkState} → SinkKeeps a b → SinkKeeps b c → SinkKeeps a c
SinkKeeps-trans first second = record { faults = omega (arith, first.faults, second.faults); shortages = omega (arith, first.shortages, second.shortages) }

-- a rise stays a rise when the count was lower before
pub Rose-earlier : (earlier before now : ℕ) → earlier ≤ before → Rose before now → Rose earlier now
Rose-earlier earlier before now lower rose = omega arith

-- and when it is higher after
pub Rose-later : (before now later : ℕ) → Rose before now → now ≤ later → Rose before later
Rose-later before now later rose higher = omega arith

-- ---- prefixes

-- no more than the first text, of both
take_of_first : (kept : ℕ) (xs ys : List ℕ) → take kept xs ≡ take (min kept (length xs)) (xs ++ ys)
take_of_first kept xs ys = sym (take-append-le _ xs ys (omega arith) ∙ take_min kept xs)

-- a prefix of the second of three texts, behind the first
pub AppendsPrefix-middle : (a b c : Option (List ℕ)) (xs ys zs : List ℕ) → Appends a b xs → AppendsPrefix b c ys → AppendsPrefix a c (xs ++ (ys ++ zs))
AppendsPrefix-middle a b c xs ys zs before cut =
    let joined : xs ++ take cut.0 ys ≡ take (length xs + min cut.0 (length ys)) (xs ++ (ys ++ zs)) =
    ap (λ l. xs ++ l) (take_of_first cut.0 ys zs) ∙ sym (take-append-add xs (ys ++ zs) _) in
    (length xs + min cut.0 (length ys), subst (λ (l : List ℕ). Appends a c l) joined (Appends-trans a b c xs (take cut.0 ys) before cut.1))

-- a whole text is a prefix of what it begins
pub AppendsPrefix-front : (a b : Option (List ℕ)) (xs zs : List ℕ) → Appends a b xs → AppendsPrefix a b (xs ++ zs)
AppendsPrefix-front a b xs zs all = (length xs, subst (λ (l : List ℕ). Appends a b l) (sym (take-append_seam xs zs)) all)

-- ---- what was put so far

-- nothing yet
pub Written-nothing : (a : SinkState) → Written [] a a
Written-nothing a = record { all = Appends-nil a.held; kept = SinkKeeps-refl a }

-- one text more
pub Written-then : {xs ys : List ℕ} {a b c : SinkState} {done : Unit {0}} → Written xs a b → Writes ys b c (Ok done) → Written (xs ++ ys) a c
Written-then before next = record { all = Appends-trans _ _ _ _ _ before.all next.puts; kept = SinkKeeps-trans before.kept next.kept }

-- ---- what a writer did in the end

-- all is put
pub Writes-all : {xs : List ℕ} {a b : SinkState} (done : Unit {0}) → Written xs a b → Writes xs a b (Ok done)
Writes-all done before = record { puts = before.all; kept = before.kept }

-- all that a writer put
pub Written-all : {xs : List ℕ} {a b : SinkState} {done : Unit {0}} → Writes xs a b (Ok done) → Written xs a b
Written-all writes = record { all = writes.puts; kept = writes.kept }

-- the next text is cut, and with it all that follows
pub Writes-cut : {xs ys : List ℕ} {a b c : SinkState} (zs : List ℕ) (error : PutError) → Written xs a b → Writes ys b c (Err error) → Writes (xs ++ (ys ++ zs)) a c (Err error)
Writes-cut zs Failed before next = record {
  puts = (Rose-earlier _ _ _ before.kept.faults next.puts.0, AppendsPrefix-middle _ _ _ _ _ zs before.all next.puts.1);
  kept = SinkKeeps-trans before.kept next.kept;
}
Writes-cut zs Memory before next = record { puts = AppendsPrefix-middle _ _ _ _ _ zs before.all next.puts; kept = SinkKeeps-trans before.kept next.kept }

-- memory ran out between two texts
pub Writes-short : {xs : List ℕ} {a b : SinkState} (zs : List ℕ) → Written xs a b → Writes (xs ++ zs) a b (Err Memory)
Writes-short {xs = xs} zs before = record { puts = AppendsPrefix-front _ _ xs zs before.all; kept = before.kept }

-- the last text, whatever comes of it
pub Writes-then : {xs ys : List ℕ} {a b c : SinkState} {result : Result (Unit {0}) PutError} → Written xs a b → Writes ys b c result → Writes (xs ++ ys) a c result
Writes-then {result = Ok done} before next = Writes-all done (Written-then before next)
Writes-then {xs = xs} {ys = ys} {a = a} {c = c} {result = Err error} before next =
    subst (λ (l : List ℕ). Writes (xs ++ l) a c (Err error)) (append-nil ys) (Writes-cut [] error before next)

-- the first text is cut, and with it all that follows
pub Writes-cut_first : {ys : List ℕ} {a b : SinkState} (zs : List ℕ) (error : PutError) → Writes ys a b (Err error) → Writes (ys ++ zs) a b (Err error)
Writes-cut_first {a = a} zs error next = Writes-cut {xs = []} zs error (Written-nothing a) next

-- one put
pub Writes-put : {piece : List ℕ} {a b : SinkState} {result : Result (Unit {0}) PutError} → Puts piece a b result → SinkKeeps a b → Writes piece a b result
Writes-put puts kept = record { puts = puts; kept = kept }

-- the same text by another name
pub Writes-same : {xs ys : List ℕ} {a b : SinkState} {result : Result (Unit {0}) PutError} → xs ≡ ys → Writes xs a b result → Writes ys a b result
Writes-same {a = a} {b = b} {result = result} same writes = subst (λ (l : List ℕ). Writes l a b result) same writes

pub Written-same : {xs ys : List ℕ} {a b : SinkState} → xs ≡ ys → Written xs a b → Written ys a b
Written-same {a = a} {b = b} same written = subst (λ (l : List ℕ). Written l a b) same written

-- ---- over a loop

module _ {A : Type 0} (text_of : A → List ℕ) (items : List A) (i : ℕ) (item : A) (below : i < length items) (is : item ≡ get_or items i item) where
  -- the item at the place and those behind it
  drop_at : drop i items ≡ item ∷ drop (i + 1) items
  drop_at = rw (drop-cons items i item below, ← is, add-one) refl

  -- the texts before the place, the text there and the texts behind it
  pub flat_map_at : flat_map text_of items ≡ flat_map text_of (take i items) ++ (text_of item ++ flat_map text_of (drop (i + 1) items))
  flat_map_at =
      ap (flat_map text_of) (sym (take-append-drop i items))
      ∙ flat_map-append text_of (take i items) (drop i items)
      ∙ ap (λ l. flat_map text_of (take i items) ++ flat_map text_of l) drop_at

  -- the texts up to the place and the text there
  pub flat_map_to : flat_map text_of (take (i + 1) items) ≡ flat_map text_of (take i items) ++ text_of item
  flat_map_to = rw (add-one, take-suc items i item below, ← is) (flat_map-append text_of (take i items) (item ∷ []) ∙ ap (λ l. flat_map text_of (take i items) ++ l) (append-nil (text_of item)))

  module _ {a b c : SinkState} (before : Written (flat_map text_of (take i items)) a b) where
    -- the text at the place was put
    pub Written-turn : {done : Unit {0}} → Writes (text_of item) b c (Ok done) → Written (flat_map text_of (take (i + 1) items)) a c
    Written-turn next = Written-same (sym flat_map_to) (Written-then before next)

    -- the text at the place is cut
    pub Writes-cut_at : (error : PutError) → Writes (text_of item) b c (Err error) → Writes (flat_map text_of items) a c (Err error)
    Writes-cut_at error next = Writes-same (sym flat_map_at) (Writes-cut (flat_map text_of (drop (i + 1) items)) error before next)

  -- memory ran out before the text at the place
  pub Writes-short_at : {a b : SinkState} → Written (flat_map text_of (take i items)) a b → Writes (flat_map text_of items) a b (Err Memory)
  Writes-short_at before = Writes-same (sym flat_map_at) (Writes-short (text_of item ++ flat_map text_of (drop (i + 1) items)) before)

-- ---- writers that take no memory themselves

-- one put
pub Passes-put : {piece : List ℕ} {a b : SinkState} (result : Result (Unit {0}) PutError) → Puts piece a b result → SinkKeeps a b → CountsShortage a b result → Passes piece a b result
Passes-put (Ok done) puts kept short = record { writes = Writes-put puts kept; short = tt }
Passes-put (Err Failed) puts kept short = record { writes = Writes-put puts kept; short = tt }
Passes-put (Err Memory) puts kept short = record { writes = Writes-put puts kept; short = short }

-- the last text, whatever comes of it
pub Passes-then : {xs ys : List ℕ} {a b c : SinkState} (result : Result (Unit {0}) PutError) → Written xs a b → Passes ys b c result → Passes (xs ++ ys) a c result
Passes-then (Ok done) before next = record { writes = Writes-then before next.writes; short = tt }
Passes-then (Err Failed) before next = record { writes = Writes-then before next.writes; short = tt }
Passes-then (Err Memory) before next = record { writes = Writes-then before next.writes; short = Rose-earlier _ _ _ before.kept.shortages next.short }

-- the next text is cut, and with it all that follows
pub Passes-cut : {xs ys : List ℕ} {a b c : SinkState} (zs : List ℕ) (error : PutError) → Written xs a b → Passes ys b c (Err error) → Passes (xs ++ (ys ++ zs)) a c (Err error)
Passes-cut zs Failed before next = record { writes = Writes-cut zs Failed before next.writes; short = tt }
Passes-cut zs Memory before next = record { writes = Writes-cut zs Memory before next.writes; short = Rose-earlier _ _ _ before.kept.shortages next.short }
