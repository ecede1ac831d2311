-- A text is accepted exactly where it has the tokens of a query's text.
use Rattle.std.proofs.Common.{◌≡◌, ◌∙◌, ℕ, List, [], ◌∷◌, Bool, true, false, None, Result, Ok, Err, IfOk, refl, sym, ap, subst, bytes_eq, cond}
use Rattle.std.specs.Cmp.Lexicographic.{bytes_decides}
use Rattle.solutions_dm.specs.declared.selects.Rename.{Rename}
use Rattle.pattern_dm.specs.declared.pattern.Operand.{Operand}
use Rattle.pattern_dm.specs.declared.pattern.Operand.TheVariants as operands
use Rattle.pattern_dm.specs.declared.pattern.Condition.{Condition, end_of-Condition, more_of-Condition}
use Rattle.pattern_dm.specs.declared.pattern.Condition.TheVariants as conditions
use Rattle.pattern_dm.specs.declared.pattern.Pattern.{Pattern, end_of-Pattern, more_of-Pattern}
use Rattle.pattern_dm.specs.declared.pattern.Pattern.TheVariants as patterns
use Rattle.sparql_tokens_dm.specs.declared.token.Token.{Token}
use Rattle.sparql_tokens_dm.specs.declared.token.Token.TheVariants.{Var}
use Rattle.sparql_tokens_dm.proofs.LawfulTokens.{AreLawful, IsLawfulToken, tokens_lawful}
use Rattle.sparql_text_dm.specs.declared.parsed.Parsed.{Parsed}
use Rattle.sparql_text_dm.specs.declared.error.SparqlError.{SparqlError}
use Rattle.sparql_text_dm.specs.Answer.{IsAnswer, IsFormed, IsTextOf}
use Rattle.sparql_text_dm.specs.Written.{AcceptsSpellings, AreLawfulRenames, AreNames, IsLawfulCondition, IsLawfulOperand, IsLawfulPattern, IsName, IsQuery, SpellsQuery}
use Rattle.sparql_text_dm.proofs.ToldQuery.{query_told}
use Rattle.sparql_text_dm.proofs.WrittenBack.{spelled_text}
use Rattle.sparql_text_dm.proofs.WrittenDepths.{query_shallow}
use Rattle.sparql_text_dm.proofs.WrittenTokens.{condition_tokens, filter_tokens, join_tokens, names_tokens, operand_token, other_tokens, pattern_tokens, query_tokens, rename_tokens, renames_tokens, text_tokens}

-- ---- what lawful tokens say is lawful

operand_lawful : (p : Operand) → IsLawfulToken (operand_token p) → IsLawfulOperand p
operand_lawful (operands.Var x) h = h
operand_lawful (operands.Iri i) h = h
operand_lawful (operands.Literal l) h = h

condition_lawful : (f : Condition) (more : List Token) → AreLawful (condition_tokens f more) → IsLawfulCondition f × AreLawful more
condition_lawful conditions.True more h = (tt, h.1)
condition_lawful (conditions.Bound x) more h = (h.1.1.0, h.1.1.1.1)
condition_lawful (conditions.SameTerm p q) more h = ((operand_lawful p h.1.1.0, operand_lawful q h.1.1.1.1.0), h.1.1.1.1.1.1)
condition_lawful (conditions.Not' a (more_of-Condition f end_of-Condition)) more h = let k = condition_lawful f _ h.1.1 in (k.0, k.1.1)
condition_lawful (conditions.And' a (more_of-Condition f end_of-Condition) b (more_of-Condition g end_of-Condition)) more h =
    let left = condition_lawful f _ h.1 in
    let right = condition_lawful g _ left.1.1 in
    ((left.0, right.0), right.1.1)
condition_lawful (conditions.Or' a (more_of-Condition f end_of-Condition) b (more_of-Condition g end_of-Condition)) more h =
    let left = condition_lawful f _ h.1 in
    let right = condition_lawful g _ left.1.1 in
    ((left.0, right.0), right.1.1)

filter_lawful : (f : Condition) (more : List Token) → AreLawful (filter_tokens f more) → IsLawfulCondition f × AreLawful more
filter_lawful f more h = let k = condition_lawful f _ h.1.1 in (k.0, k.1.1)

join_lawful : (f : Condition) (more : List Token) → AreLawful (join_tokens f more) → IsLawfulCondition f × AreLawful more
join_lawful conditions.True more h = (tt, h)
join_lawful (conditions.Bound x) more h = filter_lawful (conditions.Bound x) more h
join_lawful (conditions.SameTerm p q) more h = filter_lawful (conditions.SameTerm p q) more h
join_lawful (conditions.Not' a f) more h = filter_lawful (conditions.Not' a f) more h
join_lawful (conditions.And' a f b g) more h = filter_lawful (conditions.And' a f b g) more h
join_lawful (conditions.Or' a f b g) more h = filter_lawful (conditions.Or' a f b g) more h

names_lawful : (xs : List (List ℕ)) (more : List Token) → AreLawful (names_tokens xs more) → AreNames xs × AreLawful more
names_lawful [] more h = (tt, h)
names_lawful (x ∷ xs) more h = let k = names_lawful xs more h.1 in ((h.0, k.0), k.1)

rename_lawful : (r : Rename) (more : List Token) → AreLawful (rename_tokens r more) → IsName r.from × IsName r.to × AreLawful more
rename_lawful r more h = by (bytes_eq r.from r.to) refl h
  where
    by : (b : Bool) → bytes_eq r.from r.to ≡ b → AreLawful (cond b (Var r.to ∷ more) (other_tokens r more)) → IsName r.from × IsName r.to × AreLawful more
    by true e k = (subst (λ (x : List ℕ). IsName x) (sym ((bytes_decides r.from r.to).0 e)) k.0, k.0, k.1)
    by false e k = (k.1.0, k.1.1.1.0, k.1.1.1.1.1)

renames_lawful : (rs : List Rename) (more : List Token) → AreLawful (renames_tokens rs more) → AreLawfulRenames rs × AreLawful more
renames_lawful [] more h = (tt, h)
renames_lawful (r ∷ rs) more h =
    let one = rename_lawful r _ h in
    let others = renames_lawful rs more one.2 in
    ((one.0, one.1, others.0), others.1)

pattern_lawful : (p : Pattern) (more : List Token) → AreLawful (pattern_tokens p more) → IsLawfulPattern p × AreLawful more
pattern_lawful patterns.Empty more h = (tt, h.1.1)
pattern_lawful (patterns.Triple s p o) more h = ((operand_lawful s h.1.0, operand_lawful p h.1.1.0, operand_lawful o h.1.1.1.0), h.1.1.1.1.1.1)
pattern_lawful (patterns.And' a (more_of-Pattern p end_of-Pattern) b (more_of-Pattern q end_of-Pattern)) more h =
    let left = pattern_lawful p _ h.1 in
    let right = pattern_lawful q _ left.1 in
    ((left.0, right.0), right.1.1)
pattern_lawful (patterns.LeftJoin' a (more_of-Pattern p end_of-Pattern) b (more_of-Pattern q end_of-Pattern) f) more h =
    let left = pattern_lawful p _ h.1 in
    let right = pattern_lawful q _ left.1.1.1 in
    let condition = join_lawful f _ right.1 in
    ((left.0, right.0, condition.0), condition.1.1.1)
pattern_lawful (patterns.Union' a (more_of-Pattern p end_of-Pattern) b (more_of-Pattern q end_of-Pattern)) more h =
    let left = pattern_lawful p _ h.1 in
    let right = pattern_lawful q _ left.1.1 in
    ((left.0, right.0), right.1.1)
pattern_lawful (patterns.Minus' a (more_of-Pattern p end_of-Pattern) b (more_of-Pattern q end_of-Pattern)) more h =
    let left = pattern_lawful p _ h.1 in
    let right = pattern_lawful q _ left.1.1 in
    ((left.0, right.0), right.1.1)
pattern_lawful (patterns.Filter' a (more_of-Pattern p end_of-Pattern) f) more h =
    let part = pattern_lawful p _ h.1 in
    let condition = filter_lawful f _ part.1 in
    ((part.0, condition.0), condition.1.1)
pattern_lawful (patterns.Select' a (more_of-Pattern p end_of-Pattern) rs) more h =
    let targets = renames_lawful rs _ h.1.1 in
    let part = pattern_lawful p _ targets.1.1 in
    ((part.0, targets.0), part.1.1)

-- ---- what is read

text_query : (bytes : List ℕ) (x : Parsed) → IsTextOf bytes x → SpellsQuery bytes x
text_query bytes x text =
    let ts = text.0 in
    let told = query_told ts (x.header, x.pattern) text.3 in
    let lawful = subst (λ (us : List Token). AreLawful us) told.tokens (tokens_lawful bytes ts text.1) in
    let names = names_lawful x.header _ lawful.1.1 in
    let q : IsQuery x.header x.pattern = record {
      some = told.some;
      names = names.0;
      formed = told.formed;
      lawful = (pattern_lawful x.pattern [] names.1.1).0;
      nested = (query_shallow x.header x.pattern ts told.tokens).0 text.2.1;
    } in
    let written = text_tokens x.header x.pattern q in
    (q, (ts, written.0, text.1, written.1, told.tokens ∙ sym written.2))

pub accepted : (bytes : List ℕ) → AcceptsSpellings bytes
accepted bytes x = ((λ text. text_query bytes x text), (λ s. spelled_text bytes x s))

text_formed : (bytes : List ℕ) (x : Parsed) → IsTextOf bytes x → IsFormed x
text_formed bytes x text = let told = query_told text.0 (x.header, x.pattern) text.3 in record { header = told.some; pattern = told.formed }

-- what is read is formed
pub is_formed : (bytes : List ℕ) (r : Result Parsed SparqlError) → IsAnswer bytes r → IfOk r IsFormed
is_formed bytes (Ok x) h = text_formed bytes x h
is_formed bytes (Err e) h = tt
