-- The operators on sets of solution mappings (SPARQL 1.1 Query Language, section 18.5), each as the mappings that it has.
use Rattle.std.specs.Prelude.{◌≡◌, ◌⊎◌, ℕ, List, [], ◌∷◌, None, true, bytes_eq, if◌then◌else◌}
use Rattle.solutions_dm.specs.declared.selects.Rename.{Rename}
use Rattle.pattern_dm.specs.declared.pattern.Condition.{Condition}
use Rattle.pattern_dm.specs.Mappings.{Mapping, Compatible, union, AreDisjoint}
use Rattle.pattern_dm.specs.Says.{Says}

-- the unions of compatible mappings of both
abbrev pub Join : (Mapping → Type 0) → (Mapping → Type 0) → Mapping → Type 0
Join P Q m = (u v : Mapping) × P u × Q v × Compatible u v × ((x : List ℕ) → m x ≡ union u v x)

-- the unions of compatible mappings for which the condition is true
abbrev pub JoinWhere : (Mapping → Type 0) → (Mapping → Type 0) → Condition → Mapping → Type 0
JoinWhere P Q f m = (u v : Mapping) × P u × Q v × Compatible u v × Says f true (union u v) × ((x : List ℕ) → m x ≡ union u v x)

-- the mappings of P with which every mapping of Q is incompatible, or the condition isn't true on the union
abbrev pub Unjoined : (Mapping → Type 0) → (Mapping → Type 0) → Condition → Mapping → Type 0
Unjoined P Q f m = P m × ((v : Mapping) → Q v → Compatible m v → Says f true (union m v) → ⊥)

abbrev pub LeftJoin : (Mapping → Type 0) → (Mapping → Type 0) → Condition → Mapping → Type 0
LeftJoin P Q f m = JoinWhere P Q f m ⊎ Unjoined P Q f m

-- the mappings of P with which every mapping of Q is incompatible, or shares no variable that both bind
abbrev pub Minus : (Mapping → Type 0) → (Mapping → Type 0) → Mapping → Type 0
Minus P Q m = P m × ((v : Mapping) → Q v → Compatible m v → AreDisjoint m v)

-- it binds `to` to what m binds `from` to, for each rename, and nothing else
abbrev pub renamed : List Rename → Mapping → Mapping
renamed [] m x = None
renamed (r ∷ rs) m x = if bytes_eq r.to x then m r.from else renamed rs m x

abbrev pub Select : (Mapping → Type 0) → List Rename → Mapping → Type 0
Select P rs m = (u : Mapping) × P u × ((x : List ℕ) → m x ≡ renamed rs u x)
