-- Tests that answer whether two values are equal.
use Rattle.std.specs.Prelude.{◌≡◌, Bool, true, nat_eq}
use Rattle.std.specs.Cmp.Lexicographic.{pointwise, pointwise_decides, bytes_decides}

-- the test says exactly whether two values are equal
abbrev pub DecidesEqual : {K : Type 0} → (K → K → Bool) → Type 0
DecidesEqual {K} test = (x y : K) → (test x y ≡ true → x ≡ y) × (x ≡ y → test x y ≡ true)

pub numbers_decide : DecidesEqual (pointwise nat_eq)
numbers_decide = bytes_decides

pub lists_decide : {K : Type 0} {test : K → K → Bool} → DecidesEqual test → DecidesEqual (pointwise test)
lists_decide items = pointwise_decides items
