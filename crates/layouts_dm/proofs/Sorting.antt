-- A list can be put in order, where any two of its items are; names can, by their bytes.
use Rattle.std.proofs.Common.{◌≡◌, ◌⊎◌, ℕ, List, [], ◌∷◌, map, refl, sym, ap, ◌∙◌, subst, inl, inr, true, false, encode_utf8_all}
use Rattle.std.specs.Prelude.{◌↔◌, chars}
use Rattle.std.specs.Cmp.{IsTotalOrder, nat_cmp_total}
use Rattle.std.specs.Cmp.Lexicographic.{lists_total, slice_cmp}
use Rattle.std.specs.Ordering.{is_eq, is_lt, nat_cmp, ordering_reverse}
use Rattle.std.specs.declared.cmp.Ordering.{Ordering}
use Rattle.std.specs.declared.cmp.Ordering.TheVariants.{Less, Equal, Greater}
use Rattle.std.proofs.lemmas.Bool.{cases_Bool}
use Rattle.std.proofs.lemmas.Map.Text.{is_eq-slice_cmp}
use Rattle.std.proofs.lemmas.Slice.Eq.{bytes_eq-Decides}
use Rattle.members_dm.specs.Membership.{IsIn, IsRising, NoRepeats, SameItems}
use Rattle.members_dm.proofs.ElementsLemmas.{IsRising-cons}
use Rattle.members_dm.proofs.MembershipLemmas.{IsIn-map}
use Rattle.schema_dm.specs.Naming.{Name}
use Rattle.schema_dm.specs.Shapes.{IsBefore}
use Rattle.layouts_dm.specs.LayoutTables.{is_before}
use Rattle.layouts_dm.proofs.Unique.{before_one_way}
use Rattle.names_dm.proofs.Utf8.{chars-encodes_any}

-- ---- any list

-- the items of a list in rising order
pub record InOrder {X : Type 0} (before : X → X → Type 0) (xs : List X) : Type 0 where
  pub sorted : List X
  pub rising : IsRising before sorted
  pub same : SameItems xs sorted

module _ {X : Type 0} (before : X → X → Type 0) (chain : (x y z : X) → before x y → before y z → before x z) where
  record Inserted (x : X) (xs : List X) : Type 0 where
    all : List X
    rising : IsRising before all
    items : (y : X) → ((x ≡ y) ⊎ IsIn y xs) ↔ IsIn y all

  insert : (x : X) (xs : List X) → IsRising before xs → ((y : X) → IsIn y xs → before x y ⊎ before y x) → Inserted x xs
  insert x [] rising told = record { all = x ∷ []; rising = ((λ y i. absurd i), tt); items = λ y. ((λ h. h), (λ h. h)) }
  insert x (y ∷ ys) rising told = elim (told y (inl refl)) [
    | inl b ↦ record { all = x ∷ y ∷ ys; rising = IsRising-cons before chain x y ys b rising; items = λ z. ((λ h. h), (λ h. h)) }
    | inr b ↦
        (let rest = insert x ys rising.1 (λ z i. told z (inr i)) in
        record {
          all = y ∷ rest.all;
          rising = ((λ z i. elim ((rest.items z).1 i) [ inl e ↦ subst (before y) e b | inr k ↦ rising.0 z k ]), rest.rising);
          items = λ z. (
            (λ h. elim h [ inl e ↦ inr ((rest.items z).0 (inl e)) | inr k ↦ elim k [ inl e ↦ inl e | inr m ↦ inr ((rest.items z).0 (inr m)) ] ]),
            (λ h. elim h [ inl e ↦ inr (inl e) | inr k ↦ elim ((rest.items z).1 k) [ inl e ↦ inl e | inr m ↦ inr (inr m) ] ]),
          );
        })
  ]

  -- a list without repeats, any two of whose items are in order, has its items in rising order
  pub in_order_of : (xs : List X) → NoRepeats xs → ((x y : X) → IsIn x xs → IsIn y xs → (x ≡ y) ⊎ (before x y ⊎ before y x)) → InOrder before xs
  in_order_of [] once told = record { sorted = []; rising = tt; same = λ y. ((λ h. h), (λ h. h)) }
  in_order_of (x ∷ xs) once told =
      let rest = in_order_of xs once.1 (λ y z i j. told y z (inr i) (inr j)) in
      let all = insert x rest.sorted rest.rising
      (λ y i. let k : IsIn y xs = (rest.same y).1 i in elim (told x y (inl refl) (inr k)) [ inl e ↦ absurd (once.0 (subst (λ z. IsIn z xs) (sym e) k)) | inr b ↦ b ]) in
      record {
        sorted = all.all;
        rising = all.rising;
        same = λ y. (
          (λ h. (all.items y).0 (elim h [ inl e ↦ inl e | inr i ↦ inr ((rest.same y).0 i) ])),
          (λ h. elim ((all.items y).1 h) [ inl e ↦ inl e | inr i ↦ inr ((rest.same y).1 i) ]),
        );
      }

-- ---- names

same_bytes : (x y : Name) → encode_utf8_all x ≡ encode_utf8_all y → x ≡ y
same_bytes x y e = sym (chars-encodes_any x) ∙ ap chars e ∙ chars-encodes_any y

tied : (xs ys : List ℕ) → slice_cmp nat_cmp xs ys ≡ Equal → xs ≡ ys
tied xs ys e = (bytes_eq-Decides xs ys).0 (sym (is_eq-slice_cmp xs ys) ∙ ap is_eq e)

pub name_order : (x y : Name) → (x ≡ y) ⊎ (IsBefore x y ⊎ IsBefore y x)
unfolding IsBefore
name_order x y = go (slice_cmp nat_cmp (encode_utf8_all x) (encode_utf8_all y)) refl
  where
    go : (o : Ordering) → slice_cmp nat_cmp (encode_utf8_all x) (encode_utf8_all y) ≡ o
        → (x ≡ y) ⊎ ((slice_cmp nat_cmp (encode_utf8_all x) (encode_utf8_all y) ≡ Less) ⊎ (slice_cmp nat_cmp (encode_utf8_all y) (encode_utf8_all x) ≡ Less))
    go Less e = inr (inl e)
    go Equal e = inl (same_bytes x y (tied (encode_utf8_all x) (encode_utf8_all y) e))
    go Greater e =
        let o : IsTotalOrder (slice_cmp nat_cmp) = lists_total nat_cmp_total in
        inr (inr (o.antisymm (encode_utf8_all y) (encode_utf8_all x) ∙ ap ordering_reverse e))

pub rising_map : {X : Type 0} (f : X → Name) (xs : List X) → IsRising (λ x y. IsBefore (f x) (f y)) xs → IsRising IsBefore (map f xs)
rising_map f [] h = tt
rising_map f (x ∷ xs) h = ((λ y i. let m = IsIn-map f y xs i in subst (IsBefore (f x)) m.2 (h.0 m.0 m.1)), rising_map f xs h.1)

pub before_true : (x y : Name) → IsBefore x y → is_before x y ≡ true
unfolding IsBefore is_before
before_true x y h = ap is_lt h

less_back : (o : Ordering) → is_lt o ≡ true → o ≡ Less
less_back Less e = refl
less_back Equal e = absurd (let f : false ≡ true = e in cc)
less_back Greater e = absurd (let f : false ≡ true = e in cc)

pub before_back : (x y : Name) → is_before x y ≡ true → IsBefore x y
unfolding IsBefore is_before
before_back x y e = less_back _ e

pub before_false : (x y : Name) → IsBefore y x → is_before x y ≡ false
before_false x y h = elim (cases_Bool (is_before x y)) [ inl t ↦ absurd (before_one_way y x h (before_back x y t)) | inr f ↦ f ]
