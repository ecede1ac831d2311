-- Numbers and the cells that they stand for, while values come in.
use Rattle.std.proofs.Common.{◌≡◌, ◌≢◌, ◌<◌, ◌+◌, ◌↔◌, ℕ, zero, suc, List, [], ◌∷◌, ◌++◌, Some, None, length, refl, sym, ap, ◌∙◌, arith, length-append, append_assoc, append-nil}
use Rattle.std.specs.Prelude.{slice_get}
use Rattle.value_dm.specs.declared.value.Value.{Value}
use Rattle.table_csv.specs.Cells.{Cell}
use Rattle.query_rows_dm.specs.Numbers.{AreGrown, AreOneToOne, IsNumber, IsNumberOf, IsSought, cell_of}

there : (values : List Value) (k : ℕ) → k < length values → (x : Value) × (slice_get values k ≡ Some x)
there [] k l = absurd (omega arith)
there (x ∷ xs) zero l = (x, refl)
there (x ∷ xs) (suc k) l = there xs k (omega arith)

within : (values : List Value) (k : ℕ) (x : Value) → slice_get values k ≡ Some x → k < length values
within [] k x e = absurd (cc e)
within (y ∷ ys) zero x e = omega arith
within (y ∷ ys) (suc k) x e = let l = within ys k x e in omega arith

get_front : (xs ys : List Value) (k : ℕ) → k < length xs → slice_get (xs ++ ys) k ≡ slice_get xs k
get_front [] ys k l = absurd (omega arith)
get_front (x ∷ xs) ys zero l = refl
get_front (x ∷ xs) ys (suc k) l = get_front xs ys k (omega arith)

some_none : (x : Value) → Some x ≡ None → ⊥
some_none x e = cc e

-- ---- growth

pub grown_not : (values : List Value) → AreGrown values values
grown_not values = record { more = ([], sym (append-nil values)); apart = λ one. one }

pub grown_twice : (a b c : List Value) → AreGrown a b → AreGrown b c → AreGrown a c
grown_twice a b c g h = record {
  more = (g.more.0 ++ h.more.0, h.more.1 ∙ ap (λ xs. xs ++ h.more.0) g.more.1 ∙ append_assoc a g.more.0 h.more.0);
  apart = λ one. h.apart (g.apart one);
}

module _ (old new : List Value) (g : AreGrown old new) where
  pub still_number : (n : ℕ) → IsNumber old n → IsNumber new n
  still_number n h = record { some = h.some; within = omega (arith, h.within, ap length g.more.1, length-append old g.more.0) }

  pub still_cell : (n : ℕ) → n < length old + 2 → cell_of new n ≡ cell_of old n
  still_cell zero l = refl
  still_cell (suc zero) l = refl
  still_cell (suc (suc k)) l = ap (λ xs. slice_get xs k) g.more.1 ∙ get_front old g.more.0 k (omega arith)

  pub still_number_of : (c : Cell) (n : ℕ) → IsNumberOf old c n → IsNumberOf new c n
  still_number_of c n h = record { number = still_number n h.number; cell = still_cell n h.number.within ∙ h.cell }

pub none_apart : (values : List Value) → values ≡ [] → AreOneToOne values
none_apart values e i j l same = absurd (omega (arith, l, ap length e))

-- ---- one number a cell

pub null_number : (values : List Value) → IsNumberOf values None 1
null_number values = record { number = record { some = λ e. omega (arith, e); within = omega arith }; cell = refl }

module _ (values : List Value) where
  -- a number other than NULL's is a value's
  pub value_there : (n : ℕ) → IsNumber values n → n ≢ 1 → (x : Value) × (cell_of values n ≡ Some x)
  value_there zero h k = absurd (h.some refl)
  value_there (suc zero) h k = absurd (k refl)
  value_there (suc (suc j)) h k = there values j (omega (arith, h.within))

  pub null_is : (n : ℕ) → IsNumber values n → (n ≡ 1) ↔ (cell_of values n ≡ None)
  null_is zero h = absurd (h.some refl)
  null_is (suc zero) h = ((λ e. refl), (λ e. refl))
  null_is (suc (suc j)) h = ((λ e. absurd (omega (arith, e))), (λ e. let x = there values j (omega (arith, h.within)) in absurd (some_none x.0 (sym x.1 ∙ e))))

  pub one_number : AreOneToOne values → (a b : ℕ) → IsNumber values a → IsNumber values b → cell_of values a ≡ cell_of values b → a ≡ b
  one_number one zero b h k e = absurd (h.some refl)
  one_number one (suc a) zero h k e = absurd (k.some refl)
  one_number one (suc zero) b h k e = sym ((null_is b k).1 (sym e))
  one_number one (suc (suc i)) (suc zero) h k e = (null_is (suc (suc i)) h).1 e
  one_number one (suc (suc i)) (suc (suc j)) h k e = ap (λ n. suc (suc n)) (one i j (omega (arith, h.within)) e)

  -- the number of a value that has one
  pub sought_there : AreOneToOne values → (value : Value) (place : ℕ) → slice_get values place ≡ Some value → IsSought values value (place + 2)
  sought_there one value place e n h =
      let k : IsNumber values (place + 2) = record { some = λ z. omega (arith, z); within = (let l = within values place value e in omega (arith, l)) } in
      ((λ same. ap (cell_of values) same ∙ at place e), (λ same. one_number one n (place + 2) h k (same ∙ sym (at place e))))
    where
      add_two : (place : ℕ) → place + 2 ≡ suc (suc place)
      add_two place = omega arith

      at : (place : ℕ) → slice_get values place ≡ Some value → cell_of values (place + 2) ≡ Some value
      at place e = ap (cell_of values) (add_two place) ∙ e

  -- 0 for a value that has none
  pub sought_nowhere : (value : Value) → ((place : ℕ) → slice_get values place ≡ Some value → ⊥) → IsSought values value 0
  sought_nowhere value absent n h = ((λ e. absurd (h.some e)), (λ e. absurd (nowhere n h e)))
    where
      nowhere : (n : ℕ) → IsNumber values n → cell_of values n ≡ Some value → ⊥
      nowhere zero h e = h.some refl
      nowhere (suc zero) h e = some_none value (sym e)
      nowhere (suc (suc k)) h e = absent k e

  -- the number of the value at a place
  pub number_at : (value : Value) (place : ℕ) → slice_get values place ≡ Some value → IsNumberOf values (Some value) (place + 2)
  number_at value place e = record {
    number = record { some = λ z. omega (arith, z); within = (let l = within values place value e in omega (arith, l)) };
    cell = rw add_two e;
  }
    where
      add_two : place + 2 ≡ suc (suc place)
      add_two = omega arith
