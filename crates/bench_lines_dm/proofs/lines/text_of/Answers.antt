use Rattle.std.proofs.Common.{◌≡◌, ◌∙◌, ◌++◌, ℕ, List, [], ap, codes, rules, string_bytes}
use Rattle.std.specs.Prelude.{decimal}
use Rattle.std.proofs.lemmas.List.{append_assoc}
use Rattle.bench_lines_dm.specs.Bench.{bench_text}
use Rattle.bench_lines_dm.proofs.lines.text_of.Goals as goal

joined_parts : (front tail label number rest : List ℕ) → (front ++ tail) ++ ((label ++ number) ++ rest) ≡ ((front ++ (tail ++ label)) ++ number) ++ rest
joined_parts front tail label number rest = simp append_assoc

whole_text : (rows triples answers joined : ℕ) (none counts more text : List ℕ) → none ≡ []
    → counts ≡ none ++ ((((codes "rows " ++ decimal rows) ++ codes "\ntriples ") ++ decimal triples) ++ codes "\ninverted equal\n")
    → more ≡ counts ++ ((codes "answer " ++ decimal answers) ++ codes " equal\n") → text ≡ more ++ ((codes "joined " ++ decimal joined) ++ codes " equal\n")
    → text ≡ bench_text rows triples answers joined
whole_text rows triples answers joined none counts more text empty h k l =
    let front : List ℕ = ((codes "rows " ++ decimal rows) ++ codes "\ntriples ") ++ decimal triples in
    let second : more ≡ ((front ++ codes "\ninverted equal\nanswer ") ++ decimal answers) ++ codes " equal\n" =
    k ∙ ap (λ (xs : List ℕ). xs ++ ((codes "answer " ++ decimal answers) ++ codes " equal\n")) (h ∙ ap (λ (xs : List ℕ). xs ++ (front ++ codes "\ninverted equal\n")) empty)
    ∙ joined_parts front (codes "\ninverted equal\n") (codes "answer ") (decimal answers) (codes " equal\n") in
    l ∙ ap (λ (xs : List ℕ). xs ++ ((codes "joined " ++ decimal joined) ++ codes " equal\n")) second
    ∙ joined_parts ((front ++ codes "\ninverted equal\nanswer ") ++ decimal answers) (codes " equal\n") (codes "joined ") (decimal joined) (codes " equal\n")

pub returns : goal.returns
returns c =
    let empty : string_bytes c.new-text.result ≡ [] = search rules in
    whole_text c.args.found.now.rows c.args.found.now.triples c.args.found.now.answered.count c.args.found.now.joined.count _ _ _ _ empty c.in_ok-push_counts.ensures c.in_ok-push_answer.ensures c.in_ok-push_answer-2.ensures
