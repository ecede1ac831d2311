use Rattle.std.proofs.Common.{◌≡◌, ℕ, List, get_or, replicate, inl, inr}
use Rattle.std.proofs.lemmas.Bool.{cases_lt}
use Rattle.std.proofs.lemmas.List.{get_or_past}
use Rattle.std.proofs.lemmas.Simd.{get_or-replicate}
use Rattle.lanes_dm.proofs.Sets.{none_set}
use Rattle.lanes_dm.proofs.bytes.ByteClass.new.Goals as goal

abbrev zeros : List ℕ
zeros = replicate 32 0

all_zero : (i : ℕ) → get_or zeros i 0 ≡ 0
all_zero i = elim (cases_lt i 32) [
  | inl within ↦ get_or-replicate 32 i 0 0 within
  | inr past ↦ get_or_past zeros i 0 past
]

pub returns : goal.returns
returns c x = none_set zeros all_zero x
