-- How the parts of a line join.
use Rattle.std.proofs.Common.{◌≡◌, sym, subst, [], append_assoc, codes, decimal, inl, inr, ℕ, ◌+◌, ◌<◌, List, ◌++◌, length, take, drop, get_or, Result, Ok, Err}
use Rattle.std.specs.List.{flat_map}
use Rattle.outside_dm.specs.Sinks.{SinkState}
use Rattle.outside_dm.specs.Putting.{Written, Passes}
use Rattle.outside_dm.proofs.Putting.{Passes-cut, flat_map_at}
use Rattle.outside_dm.specs.declared.sink.PutError.{PutError}
use Rattle.outside_dm.specs.declared.sink.PutError.TheVariants.{Failed, Memory}
use Rattle.cmd_dm.specs.FaultLine.{PutsLine, line_of, cause_name, field_text}
use Rattle.cmd_dm.specs.declared.status.Reason.{Reason}
use Rattle.cmd_dm.specs.declared.status.Status.TheVariants.{Refused}

pub passes_same : {xs ys : List ℕ} {a b : SinkState} {result : Result (Unit {0}) PutError} → xs ≡ ys → Passes xs a b result → Passes ys a b result
passes_same {a = a} {b = b} {result = result} same passes = subst (λ (l : List ℕ). Passes l a b result) same passes

-- the part at the place is cut
pub passes_cut_at : {A : Type 0} (text_of : A → List ℕ) (items : List A) (i : ℕ) (item : A) → i < length items → item ≡ get_or items i item →
    {a b c : SinkState} (error : PutError) → Written (flat_map text_of (take i items)) a b → Passes (text_of item) b c (Err error) → Passes (flat_map text_of items) a c (Err error)
passes_cut_at text_of items i item below is error before next =
    passes_same (sym (flat_map_at text_of items i item below is)) (Passes-cut (flat_map text_of (drop (i + 1) items)) error before next)

-- whoever puts a line without memory puts it whole, or fails or runs short behind a prefix
pub puts_line : {line : List ℕ} {a b : SinkState} (result : Result (Unit {0}) PutError) → Passes line a b result → PutsLine line a b
puts_line (Ok done) passes = inl passes.writes.puts
puts_line (Err Failed) passes = inr (inl passes.writes.puts.0, passes.writes.puts.1)
puts_line (Err Memory) passes = inr (inr passes.short, passes.writes.puts)

-- the parts of the line on a refusal
pub refusal_line : (reason : Reason) (code : ℕ) (name : List ℕ) → code ≡ reason.code → name ≡ cause_name reason.code →
    codes "dbrdf: refused " ++ (decimal code ++ (codes " " ++ (name
    ++ (field_text (codes " table ") reason.table ++ (field_text (codes " place ") reason.place ++ (field_text (codes " column ") reason.column ++ (codes "\n" ++ [])))))))
    ≡ line_of (Refused reason)
unfolding line_of
refusal_line reason code name same is = rw (same, is) (simp append_assoc)
