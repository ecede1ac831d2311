-- The term of a lawful value tells it, and NULL has none.
use Rattle.std.proofs.Common.{◌≡◌, ◌≢◌, ◌∙◌, Option, Some, None, refl, sym, ap, subst}
use Rattle.std.proofs.lemmas.Option.{none-some}
use Rattle.value_dm.specs.Kinds.{kind_of}
use Rattle.value_dm.specs.Lawful.{IsLawful}
use Rattle.value_dm.specs.declared.kind.Kind.{Kind}
use Rattle.value_dm.specs.declared.kind.Kind.TheVariants as kind
use Rattle.value_dm.specs.declared.value.Value.{Value}
use Rattle.value_dm.proofs.Values.{lexical_form_one}
use Rattle.names_dm.specs.Literals.{LiteralValue, normal_type}
use Rattle.names_dm.specs.declared.term.Term.{Term}
use Rattle.names_dm.specs.declared.term.Term.TheVariants as terms
use Rattle.facts_dm.specs.Meanings.{kind_told}
use Rattle.facts_dm.specs.Vocabulary.{literal_type}
use Rattle.table_csv.specs.Cells.{Cell}
use Rattle.algebra_dm.specs.Tuples.{first_of}
use Rattle.query_rows_dm.specs.Grids.{term_in, term_of}
use Rattle.pattern_dm.specs.Mappings.{SameIfBoth, first_of as first_term}
use Rattle.keeping_dm.specs.Guards.{value_literal}

abbrev pub IsLawfulCell : Cell → Type 0
IsLawfulCell c = (v : Value) → c ≡ Some v → IsLawful v

kind_back : (k : Kind) → kind_told (normal_type (literal_type k)) ≡ Some k
kind_back kind.Text = refl
kind_back kind.Integer = refl
kind_back kind.Decimal = refl
kind_back kind.Boolean = refl
kind_back kind.Date = refl
kind_back kind.Time = refl
kind_back kind.DateTime = refl
kind_back kind.Binary = refl

some_kind : (k l : Kind) → Some k ≡ Some l → k ≡ l
some_kind k l e = cc

literal_inside : (x y : LiteralValue) → terms.Literal x ≡ terms.Literal y → x ≡ y
literal_inside x y e = cc

pub one_term : (v w : Value) → IsLawful v → IsLawful w → term_of v ≡ term_of w → v ≡ w
one_term v w lawful_v lawful_w e =
    let literal = literal_inside (value_literal v) (value_literal w) e in
    let kinds = some_kind (kind_of v) (kind_of w)
    (sym (kind_back (kind_of v)) ∙ ap (λ (x : LiteralValue). kind_told x.kind) literal ∙ kind_back (kind_of w)) in
    lexical_form_one v w lawful_v lawful_w kinds (ap (λ (x : LiteralValue). x.text) literal)

pub term_none : (c : Cell) → term_in c ≡ None → c ≡ None
term_none None e = refl
term_none (Some v) e = absurd (none-some (term_of v) (sym e))

pub term_some : (c : Cell) (t : Term) → term_in c ≡ Some t → (v : Value) × (c ≡ Some v) × (term_of v ≡ t)
term_some None t e = absurd (none-some t e)
term_some (Some v) t e = (v, refl, the_same (term_of v) t e)
  where
    the_same : (x y : Term) → Some x ≡ Some y → x ≡ y
    the_same x y e = cc

-- NULL and the terms of lawful values tell their cells
pub one_cell : (c d : Cell) → IsLawfulCell c → IsLawfulCell d → term_in c ≡ term_in d → c ≡ d
one_cell None d lawful_c lawful_d e = sym (term_none d (sym e))
one_cell (Some v) d lawful_c lawful_d e =
    let found = term_some d (term_of v) (sym e) in
    sym (found.1 ∙ ap Some (one_term found.0 v (lawful_d found.0 found.1) (lawful_c v refl) found.2))

pub some_not_none : (c : Cell) (v : Value) → c ≡ Some v → c ≢ None
some_not_none c v e n = none-some v (sym n ∙ e)

pub there : (c : Cell) → c ≢ None → (v : Value) × (c ≡ Some v)
there None n = absurd (n refl)
there (Some v) n = (v, refl)

-- ---- two cells

pub term_of_first : (c d : Cell) → term_in (first_of c d) ≡ first_term (term_in c) (term_in d)
term_of_first None d = refl
term_of_first (Some v) d = refl

pub no_second : (o : Option Term) → first_term o None ≡ o
no_second None = refl
no_second (Some t) = refl

pub second_there : (o : Option Term) (t : Term) → first_term o (Some t) ≢ None
second_there None t e = none-some t (sym e)
second_there (Some s) t e = none-some s (sym e)

pub same_self : (o : Option Term) → SameIfBoth o o
same_self None = tt
same_self (Some t) = refl

pub same_with_none : (o : Option Term) → SameIfBoth o None
same_with_none None = tt
same_with_none (Some t) = tt

-- what both have is one value
pub same_value : (c d : Cell) → IsLawfulCell c → IsLawfulCell d → SameIfBoth (term_in c) (term_in d) → (v w : Value) → c ≡ Some v → d ≡ Some w → v ≡ w
same_value c d lawful_c lawful_d same v w e f =
    one_term v w (lawful_c v e) (lawful_d w f)
    (subst (λ (o : Cell). SameIfBoth (term_in o) (Some (term_of w))) e (subst (λ (o : Cell). SameIfBoth (term_in c) (term_in o)) f same))
