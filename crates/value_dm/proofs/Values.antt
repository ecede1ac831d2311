-- A text spells one value of a kind alone, and a canonical form is that of one value alone.
use Rattle.std.proofs.Common.{◌≡◌, ◌≢◌, Bool, true, false, List, ℕ, [], refl, ap, ◌∙◌, sym, subst, inl, inr, get_or, arith}
use Rattle.std.specs.Prelude.{codes}
use Rattle.value_dm.specs.Kinds.{kind_of}
use Rattle.value_dm.specs.Lawful.{IsLawful}
use Rattle.value_dm.specs.Lexical.{lexical_form}
use Rattle.value_dm.specs.Spelling.{SpellsBinary, SpellsBoolean, SpellsValue, IsInAnyCase}
use Rattle.value_dm.specs.declared.calendar.Date.{Date}
use Rattle.std.specs.Prelude.{Option, Some, None}
use Rattle.value_dm.specs.Spelling.{Spells, unescaped}
use Rattle.value_dm.specs.declared.kind.Kind.{Kind}
use Rattle.value_dm.specs.declared.mode.NullMode.{NullMode}
use Rattle.value_dm.specs.declared.value.Value.{Value}
use Rattle.value_dm.specs.declared.value.Value.TheVariants as value
use Rattle.value_dm.specs.declared.kind.Kind.TheVariants as kind
use Rattle.value_dm.proofs.Binaries.{binary_one}
use Rattle.value_dm.proofs.CanonicalForms.{lexical_form_spells}
use Rattle.value_dm.proofs.DecimalValues.{same_number_along, same_number_one}
use Rattle.value_dm.proofs.IntegerTexts.{integer_one}
use Rattle.value_dm.proofs.NumberTexts.{number_text_one}
use Rattle.value_dm.proofs.Times.{dates_same, time_one, date_time_one}
use Rattle.std.proofs.Common.{append-nil}
use Rattle.value_dm.specs.Lexical.{date_text}
use Rattle.value_dm.specs.Spelling.{SpellsDecimal}
use Rattle.value_dm.specs.declared.decimal.Decimal.{Decimal}

decimal_one : (text : List ℕ) (a b : Decimal) → SpellsDecimal text a → SpellsDecimal text b → a ≡ b
decimal_one text a b g h =
    let same = number_text_one text _ _ _ _ _ _ g.text h.text in
    same_number_one g.negative g.whole g.fraction a b g.number (same_number_along _ _ _ _ _ _ b same.0 same.1 same.2 h.number)

date_one : (text : List ℕ) (a b : Date) → text ≡ date_text a → text ≡ date_text b → a ≡ b
date_one text a b g h = (dates_same a b [] [] (append-nil (date_text a) ∙ sym g ∙ h ∙ sym (append-nil (date_text b)))).0

words_differ : (text v w : List ℕ) → IsInAnyCase text v → IsInAnyCase text w → get_or v 0 0 ≢ get_or w 0 0 → ⊥
words_differ text v w g h apart = apart (ap (λ xs. get_or xs 0 0) (sym g ∙ h))

words_apart : (text : List ℕ) → SpellsBoolean text true → SpellsBoolean text false → ⊥
words_apart text (inl g) (inl h) = words_differ text (codes "true") (codes "false") g h (omega arith)
words_apart text (inl g) (inr (inl h)) = words_differ text (codes "true") (codes "f") g h (omega arith)
words_apart text (inl g) (inr (inr h)) = words_differ text (codes "true") (codes "0") g h (omega arith)
words_apart text (inr (inl g)) (inl h) = words_differ text (codes "t") (codes "false") g h (omega arith)
words_apart text (inr (inl g)) (inr (inl h)) = words_differ text (codes "t") (codes "f") g h (omega arith)
words_apart text (inr (inl g)) (inr (inr h)) = words_differ text (codes "t") (codes "0") g h (omega arith)
words_apart text (inr (inr g)) (inl h) = words_differ text (codes "1") (codes "false") g h (omega arith)
words_apart text (inr (inr g)) (inr (inl h)) = words_differ text (codes "1") (codes "f") g h (omega arith)
words_apart text (inr (inr g)) (inr (inr h)) = words_differ text (codes "1") (codes "0") g h (omega arith)

boolean_one : (text : List ℕ) (a b : Bool) → SpellsBoolean text a → SpellsBoolean text b → a ≡ b
boolean_one text true true g h = refl
boolean_one text false false g h = refl
boolean_one text true false g h = absurd (words_apart text g h)
boolean_one text false true g h = absurd (words_apart text h g)

pub value_one : (text : List ℕ) (v w : Value) → kind_of v ≡ kind_of w → SpellsValue text v → SpellsValue text w → v ≡ w
value_one text (value.Text s) (value.Text t) e g h = ap value.Text (sym g.0 ∙ h.0)
value_one text (value.Integer y) (value.Integer z) e g h = ap value.Integer (integer_one text y z g h)
value_one text (value.Decimal a) (value.Decimal b) e g h = ap value.Decimal (decimal_one text a b g h)
value_one text (value.Boolean a) (value.Boolean b) e g h = ap value.Boolean (boolean_one text a b g h)
value_one text (value.Date a) (value.Date b) e g h = ap value.Date (date_one text a b g h)
value_one text (value.Time a) (value.Time b) e g h = ap value.Time (time_one text a b g h)
value_one text (value.DateTime a) (value.DateTime b) e g h = ap value.DateTime (date_time_one text a b g h)
value_one text (value.Binary a) (value.Binary b) e g h = ap value.Binary (binary_one text a b g h)
value_one text v w e g h = cc e

pub lexical_form_one : (v w : Value) → IsLawful v → IsLawful w → kind_of v ≡ kind_of w → lexical_form v ≡ lexical_form w → v ≡ w
lexical_form_one v w p q e f =
    let P : List ℕ → Type 0 = λ text. SpellsValue text v in
    value_one (lexical_form w) v w e (subst P f (lexical_form_spells v p)) (lexical_form_spells w q)

pub no_bytes : (text : List ℕ) (v : Value) → kind_of v ≡ kind.Binary → ((bytes : List ℕ) → SpellsBinary text bytes → ⊥) → SpellsValue text v → ⊥
no_bytes text (value.Binary b) e none h = none b h
no_bytes text v e none h = absurd (cc e)

pub form_spells : (text : List ℕ) (v : Value) → IsLawful v → lexical_form v ≡ text → SpellsValue text v
form_spells text v lawful e = let P : List ℕ → Type 0 = λ x. SpellsValue x v in subst P e (lexical_form_spells v lawful)

-- a field stands for one cell alone
pub spells_one : (k : Kind) (field : List ℕ) (m : NullMode) (c d : Option Value) → Spells k field m c → Spells k field m d → c ≡ d
spells_one k field m None None g h = refl
spells_one k field m None (Some v) g h = absurd (h.0 g)
spells_one k field m (Some v) None g h = absurd (g.0 h)
spells_one k field m (Some v) (Some w) g h = ap Some (value_one (unescaped k field) v w (g.1 ∙ sym h.1) g.2 h.2)

-- a text is the form of one value of a kind
pub form_of_one : (k : Kind) (text : List ℕ) (v w : Value) → IsLawful v → IsLawful w → kind_of v ≡ k → kind_of w ≡ k → lexical_form v ≡ text → lexical_form w ≡ text → v ≡ w
form_of_one k text v w p q kind_v kind_w form_v form_w = lexical_form_one v w p q (kind_v ∙ sym kind_w) (form_v ∙ sym form_w)
