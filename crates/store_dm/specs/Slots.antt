-- Triples of a graph as rows: each part of a triple is a variable, a number, or a term that the graph hasn't.
use Rattle.std.specs.Prelude.{◌≡◌, ◌≢◌, ◌<◌, ◌==◌, ◌||◌, ◌&&◌, ℕ, Bool, true, false, not, List, [], ◌∷◌, ◌++◌, Contains, map, bytes_eq}
use Rattle.solutions_dm.specs.declared.columns.Column.{Column}
use Rattle.solutions_dm.specs.Columns.{number_at}
use Rattle.solutions_dm.specs.Table.{Table}
use Rattle.store_dm.specs.declared.listing.Triad.{Triad}
use Rattle.store_dm.specs.declared.matches.Beginning.{Beginning}
use Rattle.store_dm.specs.declared.matches.Beginning.TheVariants.{Subject, Predicate, Object}
use Rattle.store_dm.specs.declared.slots.Slot.{Slot}
use Rattle.store_dm.specs.declared.slots.Slot.TheVariants.{Var, Fixed, Missing}
use Rattle.store_dm.specs.Graphs.{GraphValue}

-- the number that the slot has under a mapping
abbrev pub Has : Slot → (List ℕ → ℕ) → ℕ → Type 0
Has (Var x) m n = m x ≡ n
Has (Fixed k) m n = k ≡ n
Has Missing m n = ⊥

abbrev pub IsVariable : Slot → List ℕ → Type 0
IsVariable (Var y) x = y ≡ x
IsVariable (Fixed k) x = ⊥
IsVariable Missing x = ⊥

-- it binds none but the variables of the slots
abbrev pub BindsNoOther : Slot → Slot → Slot → (List ℕ → ℕ) → Type 0
BindsNoOther s p o m = (x : List ℕ) → ¬ IsVariable s x → ¬ IsVariable p x → ¬ IsVariable o x → m x ≡ 0

-- a mapping of exactly the variables of the slots, which makes them a triple of the graph
abbrev pub IsTripleRow : GraphValue → Slot → Slot → Slot → (List ℕ → ℕ) → Type 0
IsTripleRow g s p o m = (n : Triad) × Contains g.triples n × Has s m n.first × Has p m n.second × Has o m n.third × BindsNoOther s p o m

-- no two rows are one mapping
abbrev pub AreOnce : Table → Type 0
AreOnce t = (i j : ℕ) → i < j → j < t.rows → ((x : List ℕ) → number_at t.columns i x ≡ number_at t.columns j x) → ⊥

-- a number that is fixed isn't 0
abbrev pub IsBound : Slot → Type 0
IsBound (Var x) = Unit {0}
IsBound (Fixed k) = k ≢ 0
IsBound Missing = Unit {0}

-- ---- what the code computes

abbrev pub is_missing : Slot → Bool
is_missing (Var x) = false
is_missing (Fixed k) = false
is_missing Missing = true

abbrev pub is_variable : Slot → List ℕ → Bool
is_variable (Var y) x = bytes_eq y x
is_variable (Fixed k) x = false
is_variable Missing x = false

-- both are one variable
abbrev pub is_same_variable : Slot → Slot → Bool
is_same_variable a (Var x) = is_variable a x
is_same_variable a (Fixed k) = false
is_same_variable a Missing = false

-- the number to look for, where 0 is free
abbrev pub sought : Slot → ℕ
sought (Var x) = 0
sought (Fixed k) = k
sought Missing = 0

-- numbers that stand for one variable are the same
abbrev pub agrees : Bool → Bool → Bool → ℕ × ℕ × ℕ → Bool
agrees sp so po x = (not sp || (x.0 == x.1)) && ((not so || (x.0 == x.2)) && (not po || (x.1 == x.2)))

abbrev pub part_of : Beginning → ℕ × ℕ × ℕ → ℕ
part_of Subject x = x.0
part_of Predicate x = x.1
part_of Object x = x.2

-- the column of a slot, unless it isn't needed
abbrev pub slot_column : Slot → Bool → List ℕ → List Column
slot_column (Var x) true numbers = record { name = x; numbers = numbers } ∷ []
slot_column (Var x) false numbers = []
slot_column (Fixed k) needed numbers = []
slot_column Missing needed numbers = []

-- a column for each variable, where its first part has it
abbrev pub slot_columns : Slot → Slot → Slot → List (ℕ × ℕ × ℕ) → List Column
slot_columns s p o found =
    (slot_column s true (map (part_of Subject) found)
    ++ slot_column p (not (is_same_variable s p)) (map (part_of Predicate) found))
    ++ slot_column o (not (is_same_variable s o || is_same_variable p o)) (map (part_of Object) found)
