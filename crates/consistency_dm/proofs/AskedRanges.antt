-- What triples ask, as a list, in order, and as it is sorted.
use Rattle.std.proofs.Common.{◌≡◌, ◌∙◌, ℕ, ◌<◌, ◌+◌, List, [], ◌∷◌, ◌++◌, Option, None, Some, Bool, true, false, refl, sym, ap, subst, inl, inr, get_or, length, take, map, append_assoc, is_lt, IsSortedBy, IsPermutation}
use Rattle.std.specs.Prelude.{option_to_list, nat_eq}
use Rattle.std.specs.Cmp.{IsTotalOrder, IsStrictWeakOrder}
use Rattle.std.specs.Cmp.Lexicographic.{pointwise, bytes_decides}
use Rattle.std.proofs.lemmas.Cmp.{on_total, then_total}
use Rattle.std.proofs.lemmas.List.{take_more}
use Rattle.std.proofs.lemmas.List.Sorted.{All-permutation, ranks_by, sorted_far, IsPermutation-sym}
use Rattle.members_dm.specs.Membership.{IsIn}
use Rattle.members_dm.proofs.AnyLemmas.{all_from_items, item_from_all}
use Rattle.members_dm.proofs.MembershipLemmas.{IsIn-front, IsIn-back, IsIn-append, IsIn-map, map-IsIn}
use Rattle.names_dm.specs.Statements.{Statement}
use Rattle.names_dm.specs.declared.term.Term.{Term}
use Rattle.names_dm.specs.declared.term.Term.TheVariants as term
use Rattle.facts_dm.specs.Vocabulary.{word_iri}
use Rattle.facts_dm.specs.declared.word.Word.TheVariants.{RdfsRange}
use Rattle.consistency_dm.specs.Conflicts.{IsOutOfRange}
use Rattle.consistency_dm.specs.Interpretations.{RangeForm, anything, literals_of, members_of, range_form}
use Rattle.consistency_dm.specs.Ranges.{AreRangesOf, AreRising, Asks, IsKeptOut, all_stated, asks_cmp, asks_of, form_asks, is_let_in, stated, subject_asks}
use Rattle.consistency_dm.specs.declared.range.StatedRange.{StatedRange}
use Rattle.consistency_dm.proofs.Interpreted.{form_lets, none_let_in, refused}
use Rattle.consistency_dm.proofs.Texts.{byte_total, datatypes_total}

-- ---- what all triples ask

all_stated-append : (xs ys : List Statement) → all_stated (xs ++ ys) ≡ all_stated xs ++ all_stated ys
all_stated-append [] ys = refl
all_stated-append (x ∷ xs) ys = ap (λ rest. option_to_list (stated x) ++ rest) (all_stated-append xs ys) ∙ sym (append_assoc (option_to_list (stated x)) (all_stated xs) (all_stated ys))

append-nil : {X : Type 0} (xs : List X) → xs ++ [] ≡ xs
append-nil [] = refl
append-nil (x ∷ xs) = ap (λ rest. x ∷ rest) (append-nil xs)

-- one more triple
pub all_stated_more : (triples : List Statement) (i : ℕ) (x : Statement) → i < length triples → x ≡ get_or triples i x → all_stated (take (i + 1) triples) ≡ all_stated (take i triples) ++ option_to_list (stated x)
all_stated_more triples i x l e =
    ap all_stated (take_more triples i x l) ∙ all_stated-append (take i triples) (get_or triples i x ∷ [])
    ∙ ap (λ rest. all_stated (take i triples) ++ rest) (append-nil (option_to_list (stated (get_or triples i x))) ∙ ap (λ (z : Statement). option_to_list (stated z)) (sym e))

map-push : {X Y : Type 0} (f : X → Y) (xs : List X) (x : X) → map f (xs ++ x ∷ []) ≡ map f xs ++ f x ∷ []
map-push f [] x = refl
map-push f (y ∷ xs) x = ap (λ rest. f y ∷ rest) (map-push f xs x)

-- the same with the ranges made so far
pub ranges_push : (triples : List Statement) (i : ℕ) (x : Statement) (made : List StatedRange) (range : StatedRange) → i < length triples → x ≡ get_or triples i x
    → map asks_of made ≡ all_stated (take i triples) → Some (asks_of range) ≡ stated x → map asks_of (made ++ range ∷ []) ≡ all_stated (take (i + 1) triples)
ranges_push triples i x made range l e m s =
    map-push asks_of made range ∙ ap (λ rest. rest ++ asks_of range ∷ []) m ∙ ap (λ o. all_stated (take i triples) ++ option_to_list o) s ∙ sym (all_stated_more triples i x l e)

pub ranges_skip : (triples : List Statement) (i : ℕ) (x : Statement) (made : List StatedRange) → i < length triples → x ≡ get_or triples i x
    → map asks_of made ≡ all_stated (take i triples) → None ≡ stated x → map asks_of made ≡ all_stated (take (i + 1) triples)
ranges_skip triples i x made l e m s = m ∙ sym (append-nil (all_stated (take i triples))) ∙ ap (λ o. all_stated (take i triples) ++ option_to_list o) s ∙ sym (all_stated_more triples i x l e)

option_item : {X : Type 0} (o : Option X) (x : X) → IsIn x (option_to_list o) → o ≡ Some x
option_item None x h = absurd h
option_item (Some y) x (inl e) = ap (λ z. Some z) e
option_item (Some y) x (inr h) = absurd h

option_has : {X : Type 0} (o : Option X) (x : X) → o ≡ Some x → IsIn x (option_to_list o)
option_has None x e = cc e
option_has (Some y) x e = inl (let s : y ≡ x = cc in s)

pub asked_by : (triples : List Statement) (a : Asks) → IsIn a (all_stated triples) → (r : Statement) × IsIn r triples × (stated r ≡ Some a)
asked_by [] a h = absurd h
asked_by (x ∷ triples) a h = elim (IsIn-append a (option_to_list (stated x)) (all_stated triples) h) [
  | inl k ↦ (x, inl refl, option_item (stated x) a k)
  | inr k ↦ (let r = asked_by triples a k in (r.0, inr r.1, r.2))
]

pub is_asked : (triples : List Statement) (a : Asks) (r : Statement) → IsIn r triples → stated r ≡ Some a → IsIn a (all_stated triples)
is_asked [] a r i e = absurd i
is_asked (x ∷ triples) a r (inl s) e = IsIn-front a (option_to_list (stated x)) (all_stated triples) (option_has (stated x) a (ap stated s ∙ e))
is_asked (x ∷ triples) a r (inr i) e = IsIn-back a (option_to_list (stated x)) (all_stated triples) (is_asked triples a r i e)

-- ---- what one triple asks

record States (r : Statement) (a : Asks) : Type 0 where
  pub predicate : r.predicate ≡ word_iri RdfsRange
  pub subject : r.subject ≡ term.Iri a.property
  pub form : form_asks (range_form r.object) ≡ Some a.datatype

subject_from : (t : Term) (o : Option (Option (List ℕ))) (a : Asks) → subject_asks t o ≡ Some a → (t ≡ term.Iri a.property) × (o ≡ Some a.datatype)
subject_from (term.Iri p) (Some d) a e =
    let s : ◌≡◌ {A = Asks} (record { property = p; datatype = d }) a = cc in (ap (λ (z : Asks). term.Iri z.property) s, ap (λ (z : Asks). Some z.datatype) s)
subject_from (term.Iri p) None a e = cc e
subject_from (term.Blank label) o a e = cc e
subject_from (term.Literal value) o a e = cc e

states : (r : Statement) (a : Asks) → stated r ≡ Some a → States r a
states r a e = go (pointwise nat_eq r.predicate (word_iri RdfsRange)) refl
  where
    go : (b : Bool) → pointwise nat_eq r.predicate (word_iri RdfsRange) ≡ b → States r a
    go true t =
        let s : subject_asks r.subject (form_asks (range_form r.object)) ≡ Some a = rw t at e in
        let p = subject_from r.subject (form_asks (range_form r.object)) a s in
        record { predicate = (bytes_decides r.predicate (word_iri RdfsRange)).0 t; subject = p.0; form = p.1 }
    go false t = let s : ◌≡◌ {A = Option Asks} None (Some a) = rw t at e in cc

stated_by : (r : Statement) (p : List ℕ) (d : Option (List ℕ)) → r.predicate ≡ word_iri RdfsRange → r.subject ≡ term.Iri p → form_asks (range_form r.object) ≡ Some d → stated r ≡ Some (record { property = p; datatype = d })
stated_by r p d e s f = rw ((bytes_decides r.predicate (word_iri RdfsRange)).1 e) (rw (s, f) refl)

lets_as : (f : RangeForm) (d : Option (List ℕ)) (o : Term) → form_asks f ≡ Some d → form_lets f o ≡ is_let_in d o
lets_as (literals_of datatype) d o e = ap (λ a. is_let_in a o) (let s : Some datatype ≡ d = cc in s)
lets_as anything d o e = cc e
lets_as (members_of c) d o e = ap (λ a. is_let_in a o) (let s : None ≡ d = cc in s)

asks_or_lets : (f : RangeForm) (o : Term) → form_lets f o ≡ false → (d : Option (List ℕ)) × (form_asks f ≡ Some d)
asks_or_lets (literals_of datatype) o e = (Some datatype, refl)
asks_or_lets anything o e = cc e
asks_or_lets (members_of c) o e = (None, refl)

-- an object is kept out exactly where no interpretation lets it in
pub kept_out_of_range : (triples : List Statement) (x : Statement) → IsKeptOut triples x → IsOutOfRange triples x
kept_out_of_range triples x (a, i, p, refuses) =
    let r = asked_by triples a i in
    let s = states r.0 a r.2 in
    (r.0, r.1, s.predicate, s.subject ∙ ap term.Iri p, λ J is. none_let_in (range_form r.0.object) x.object (lets_as (range_form r.0.object) a.datatype x.object s.form ∙ refuses) J)

pub out_of_range_kept : (triples : List Statement) (x : Statement) → IsIn x triples → IsOutOfRange triples x → IsKeptOut triples x
out_of_range_kept triples x i (r, j, e, s, none) =
    let refuses = refused triples x i (range_form r.object) none in
    let d = asks_or_lets (range_form r.object) x.object refuses in
    (record { property = x.predicate; datatype = d.0 }, is_asked triples (record { property = x.predicate; datatype = d.0 }) r j (stated_by r x.predicate d.0 e s d.1), refl, sym (lets_as (range_form r.object) d.0 x.object d.1) ∙ refuses)

-- ---- sorting

asks_total : IsTotalOrder asks_cmp
asks_total = then_total (on_total (λ (a : Asks). a.property) byte_total) (on_total (λ (a : Asks). a.datatype) datatypes_total)

pub ranges_weak : IsStrictWeakOrder (λ (x y : StatedRange). is_lt (asks_cmp (asks_of x) (asks_of y)))
ranges_weak = ranks_by asks_total asks_of

pub rising_from_sort : (ranges : List StatedRange) → IsSortedBy (λ (x y : StatedRange). is_lt (asks_cmp (asks_of x) (asks_of y))) ranges → AreRising ranges
rising_from_sort ranges sorted = λ i j d l m. sorted_far (λ (x y : StatedRange). is_lt (asks_cmp (asks_of x) (asks_of y))) ranges_weak ranges sorted i j d l m

moved_items : {X : Type 0} (xs ys : List X) → IsPermutation xs ys → (x : X) → IsIn x ys → IsIn x xs
moved_items xs ys moved = item_from_all (λ x. IsIn x xs) ys (All-permutation (λ x. IsIn x xs) xs ys moved (all_from_items (λ x. IsIn x xs) xs (λ x h. h)))

mapped : {X Y : Type 0} (f : X → Y) (xs ys : List X) → ((x : X) → IsIn x xs → IsIn x ys) → (y : Y) → IsIn y (map f xs) → IsIn y (map f ys)
mapped f xs ys h y i = let (x, j, e) = IsIn-map f y xs i in subst (λ z. IsIn z (map f ys)) e (map-IsIn f x ys (h x j))

pub ranges_from_sort : (triples : List Statement) (old new : List StatedRange) → map asks_of old ≡ all_stated triples → IsPermutation old new → AreRising new → AreRangesOf triples new
ranges_from_sort triples old new made moved rising = record {
  exact = λ a h. subst (IsIn a) made (mapped asks_of new old (moved_items old new moved) a h);
  all = λ a h. mapped asks_of old new (moved_items new old (IsPermutation-sym old new moved)) a (subst (IsIn a) (sym made) h);
  rising = rising;
}
