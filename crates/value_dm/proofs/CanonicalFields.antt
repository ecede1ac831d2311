-- The canonical field of a cell stands for it.
use Rattle.std.proofs.Common.{◌≡◌, ◌≢◌, ◌<◌, ℕ, Bool, true, false, List, [], ◌∷◌, ◌++◌, length, refl, ap, ◌∙◌, sym, subst, arith, inl, inr, eqb, append-nil, append_assoc, get_or}
use Rattle.std.specs.Prelude.{codes, Some}
use Rattle.std.specs.Char.{to_ascii_lowercase}
use Rattle.std.specs.Str.Parse.{AllDigits}
use Rattle.std.proofs.lemmas.Bool.{eqb-true, eq-eqb, true≢false}
use Rattle.std.proofs.lemmas.Str.Parse.{digit_from_value}
use Rattle.hex.proofs.HexLemmas.{decode_of-encode_upper}
use Rattle.value_dm.specs.Digits.{fixed_digits}
use Rattle.value_dm.specs.Kinds.{kind_of}
use Rattle.value_dm.specs.Lawful.{IsLawful}
use Rattle.value_dm.specs.Lexical.{lexical_form, canonical_field, escaped, date_text, clock_text}
use Rattle.value_dm.specs.Spelling.{IsSign, IsPoint, IsInAnyCase, IsNull, Spells, SpellsBoolean, SpellsValue, unescaped}
use Rattle.value_dm.specs.declared.calendar.Date.{Date}
use Rattle.value_dm.specs.declared.calendar.Time.{Time}
use Rattle.value_dm.specs.declared.kind.Kind.{Kind}
use Rattle.value_dm.specs.declared.kind.Kind.TheVariants as kind
use Rattle.value_dm.specs.declared.mode.NullMode.TheVariants as mode
use Rattle.value_dm.specs.declared.value.Value.{Value}
use Rattle.value_dm.specs.declared.value.Value.TheVariants as value
use Rattle.value_dm.proofs.CanonicalForms.{lexical_form_spells}
use Rattle.value_dm.proofs.FixedDigits.{length-fixed_digits, AllDigits-fixed_digits}
use Rattle.value_dm.proofs.Fronts.{date_onto, clock_onto}
use Rattle.value_dm.proofs.Numerals.{AllDigits-front}

-- something other than a backslash stands first
record StartsOtherwise (text : List ℕ) : Type 0 where
  pub first : ℕ
  pub rest : List ℕ
  pub parts : text ≡ first ∷ rest
  pub other : first ≢ 92

starts_along : (text other : List ℕ) → text ≡ other → StartsOtherwise other → StartsOtherwise text
starts_along text other e h = let P : List ℕ → Type 0 = StartsOtherwise in subst P (sym e) h

starts_with_digits : (ds rest : List ℕ) → AllDigits 10 ds → 0 < length ds → StartsOtherwise (ds ++ rest)
starts_with_digits [] rest all some = absurd (omega arith)
starts_with_digits (c ∷ cs) rest all some =
    let range = digit_from_value c all.0 in record { first = c; rest = cs ++ rest; parts = refl; other = omega arith }

starts_with_number : (whole point fraction : List ℕ) → AllDigits 10 whole → 0 < length (whole ++ fraction) → IsPoint point fraction → StartsOtherwise (whole ++ (point ++ fraction))
starts_with_number [] point fraction all some (inl (e, f)) = absurd (let none = ap (λ (x : List ℕ). length x) f in omega arith)
starts_with_number [] point fraction all some (inr e) = record { first = 46; rest = fraction; parts = ap (λ x. x ++ fraction) e; other = omega arith }
starts_with_number (c ∷ cs) point fraction all some is = starts_with_digits (c ∷ cs) (point ++ fraction) all (omega arith)

starts_behind_sign : (sign : List ℕ) (negative : Bool) (rest : List ℕ) → IsSign sign negative → StartsOtherwise rest → StartsOtherwise (sign ++ rest)
starts_behind_sign sign negative rest (inl (e, n)) h = starts_along _ rest (ap (λ x. x ++ rest) e) h
starts_behind_sign sign negative rest (inr (inl (e, n))) h = record { first = 43; rest = rest; parts = ap (λ x. x ++ rest) e; other = omega arith }
starts_behind_sign sign negative rest (inr (inr (e, n))) h = record { first = 45; rest = rest; parts = ap (λ x. x ++ rest) e; other = omega arith }

starts_in_any_case : (text word : List ℕ) → IsInAnyCase text word → 0 < length word → get_or word 0 0 ≢ 92 → StartsOtherwise text
starts_in_any_case [] word e some other = absurd (let none = ap (λ (x : List ℕ). length x) e in omega arith)
starts_in_any_case (c ∷ cs) word e some other = record {
  first = c;
  rest = cs;
  parts = refl;
  other = λ is. other (sym (ap (λ x. get_or x 0 0) e) ∙ ap to_ascii_lowercase is);
}

starts_boolean : (text : List ℕ) (b : Bool) → SpellsBoolean text b → StartsOtherwise text
starts_boolean text true (inl e) = starts_in_any_case text (codes "true") e (omega arith) (omega arith)
starts_boolean text true (inr (inl e)) = starts_in_any_case text (codes "t") e (omega arith) (omega arith)
starts_boolean text true (inr (inr e)) = starts_in_any_case text (codes "1") e (omega arith) (omega arith)
starts_boolean text false (inl e) = starts_in_any_case text (codes "false") e (omega arith) (omega arith)
starts_boolean text false (inr (inl e)) = starts_in_any_case text (codes "f") e (omega arith) (omega arith)
starts_boolean text false (inr (inr e)) = starts_in_any_case text (codes "0") e (omega arith) (omega arith)

starts_date : (d : Date) (rest : List ℕ) → StartsOtherwise (date_text d ++ rest)
starts_date d rest =
    let len = length-fixed_digits 4 d.year in
    starts_along _ _ (date_onto d rest) (starts_with_digits (fixed_digits 4 d.year) _ (AllDigits-fixed_digits 4 d.year) (omega arith))

starts_clock : (t : Time) (rest : List ℕ) → StartsOtherwise (clock_text t ++ rest)
starts_clock t rest =
    let len = length-fixed_digits 2 t.hour in
    starts_along _ _ (clock_onto t rest) (starts_with_digits (fixed_digits 2 t.hour) _ (AllDigits-fixed_digits 2 t.hour) (omega arith))

starts_otherwise : (text : List ℕ) (v : Value) → kind_of v ≢ kind.Text → kind_of v ≢ kind.Binary → SpellsValue text v → StartsOtherwise text
starts_otherwise text (value.Text t) other binary h = absurd (other refl)
starts_otherwise text (value.Integer z) other binary h =
    starts_along text _ h.text (starts_behind_sign h.sign h.negative h.digits h.is_sign
    (starts_along _ _ (sym (append-nil h.digits)) (starts_with_digits h.digits [] h.is_numeral.1 h.is_numeral.0)))
starts_otherwise text (value.Decimal d) other binary h =
    let t = h.text in
    starts_along text _ t.text (starts_behind_sign t.sign h.negative _ t.is_sign
    (starts_with_number h.whole t.point h.fraction (AllDigits-front h.whole h.fraction t.is_numeral.1) t.is_numeral.0 t.is_point))
starts_otherwise text (value.Boolean b) other binary h = starts_boolean text b h
starts_otherwise text (value.Date d) other binary h = starts_along text _ (h ∙ sym (append-nil (date_text d))) (starts_date d [])
starts_otherwise text (value.Time t) other binary h = starts_along text _ h.text (starts_clock t h.rest)
starts_otherwise text (value.DateTime x) other binary h =
    starts_along text _ (h.text ∙ append_assoc (date_text x.date) h.separator h.rest) (starts_date x.date (h.separator ++ h.rest))
starts_otherwise text (value.Binary b) other binary h = absurd (binary refl)

not_null : (k : Kind) (text : List ℕ) → StartsOtherwise text → IsNull k text mode.Plain → ⊥
not_null k text h (inl e) =
    let bad : h.first ∷ h.rest ≡ 92 ∷ 78 ∷ [] = sym h.parts ∙ e in h.other (ap (λ x. get_or x 0 0) bad)
not_null k text h (inr (e, p)) = let bad : h.first ∷ h.rest ≡ [] = sym h.parts ∙ e in cc bad

other_kind : (k : Kind) (field : List ℕ) → k ≢ kind.Text → field ≡ unescaped k field
other_kind kind.Text field h = absurd (h refl)
other_kind k field h = refl

spells_plainly : (v : Value) → kind_of v ≢ kind.Text → kind_of v ≢ kind.Binary → IsLawful v → (IsNull (kind_of v) (lexical_form v) mode.Plain → ⊥) × SpellsValue (unescaped (kind_of v) (lexical_form v)) v
spells_plainly v other binary lawful =
    let h = lexical_form_spells v lawful in
    let P : List ℕ → Type 0 = λ x. SpellsValue x v in
    (not_null (kind_of v) (lexical_form v) (starts_otherwise (lexical_form v) v other binary h), subst P (other_kind (kind_of v) (lexical_form v) other) h)

slashed : (cs : List ℕ) → (IsNull kind.Text (escaped (92 ∷ cs)) mode.Plain → ⊥) × (unescaped kind.Text (escaped (92 ∷ cs)) ≡ 92 ∷ cs)
slashed cs = (λ n. elim n [ inl e ↦ second_differs 92 78 refl refl (ap (λ x. get_or x 1 0) e) | inr p ↦ cc (p.0) ], refl)
  where
    second_differs : (m n : ℕ) → m ≡ 92 → n ≡ 78 → m ≡ n → ⊥
    second_differs m n p q e = omega arith

unslashed : (c : ℕ) (cs : List ℕ) → eqb 92 c ≡ false → escaped (c ∷ cs) ≡ c ∷ cs
unslashed c cs e = rw e refl

two_slashed : (c : ℕ) (cs : List ℕ) → eqb 92 c ≡ false → unescaped kind.Text (c ∷ cs) ≡ c ∷ cs
two_slashed c cs e = rw e refl

unslashed_not_null : (c : ℕ) (cs : List ℕ) → eqb 92 c ≡ false → IsNull kind.Text (c ∷ cs) mode.Plain → ⊥
unslashed_not_null c cs e (inl h) = let first : c ≡ 92 = ap (λ x. get_or x 0 0) h in true≢false (sym (eq-eqb 92 c (sym first)) ∙ e)
unslashed_not_null c cs e (inr p) = cc (p.0)

text_field : (t : List ℕ) → (IsNull kind.Text (escaped t) mode.Plain → ⊥) × (unescaped kind.Text (escaped t) ≡ t)
text_field [] = (λ n. elim n [ inl e ↦ cc e | inr p ↦ elim p.1 [ inl k ↦ k refl | inr m ↦ cc m ] ], refl)
text_field (c ∷ cs) = by_first (eqb 92 c) refl
  where
    by_first : (b : Bool) → eqb 92 c ≡ b → (IsNull kind.Text (escaped (c ∷ cs)) mode.Plain → ⊥) × (unescaped kind.Text (escaped (c ∷ cs)) ≡ c ∷ cs)
    by_first true e =
        let P : ℕ → Type 0 = λ x. (IsNull kind.Text (escaped (x ∷ cs)) mode.Plain → ⊥) × (unescaped kind.Text (escaped (x ∷ cs)) ≡ x ∷ cs) in
        subst P (eqb-true 92 c e) (slashed cs)
    by_first false e =
        let P : List ℕ → Type 0 = λ x. (IsNull kind.Text x mode.Plain → ⊥) × (unescaped kind.Text x ≡ c ∷ cs) in
        subst P (sym (unslashed c cs e)) (unslashed_not_null c cs e, two_slashed c cs e)

pub field_spells : (v : Value) → IsLawful v → Spells (kind_of v) (canonical_field (Some v)) mode.Plain (Some v)
field_spells (value.Text t) h = let own = text_field t in (own.0, refl, (own.1, h))
field_spells (value.Integer z) h = let own = spells_plainly (value.Integer z) (λ k. cc k) (λ k. cc k) h in (own.0, refl, own.1)
field_spells (value.Decimal d) h = let own = spells_plainly (value.Decimal d) (λ k. cc k) (λ k. cc k) h in (own.0, refl, own.1)
field_spells (value.Boolean b) h = let own = spells_plainly (value.Boolean b) (λ k. cc k) (λ k. cc k) h in (own.0, refl, own.1)
field_spells (value.Date d) h = let own = spells_plainly (value.Date d) (λ k. cc k) (λ k. cc k) h in (own.0, refl, own.1)
field_spells (value.Time t) h = let own = spells_plainly (value.Time t) (λ k. cc k) (λ k. cc k) h in (own.0, refl, own.1)
field_spells (value.DateTime x) h = let own = spells_plainly (value.DateTime x) (λ k. cc k) (λ k. cc k) h in (own.0, refl, own.1)
field_spells (value.Binary b) h = (
  λ n. elim n [ inl e ↦ binary_word 120 78 refl refl (ap (λ x. get_or x 1 0) e) | inr p ↦ cc (p.0) ],
  refl,
  inr (_, refl, decode_of-encode_upper b h),
)
  where
    binary_word : (m n : ℕ) → m ≡ 120 → n ≡ 78 → m ≡ n → ⊥
    binary_word m n p q e = omega arith

pub field_of_other : (v : Value) → (kind_of v ≡ kind.Text → ⊥) → (kind_of v ≡ kind.Binary → ⊥) → canonical_field (Some v) ≡ lexical_form v
field_of_other (value.Text t) text binary = absurd (text refl)
field_of_other (value.Binary b) text binary = absurd (binary refl)
field_of_other v text binary = refl
