-- How the pieces of a line join.
use Rattle.std.proofs.Common.{◌≡◌, ◌∙◌, append_assoc, codes, sym, subst, [], ℕ, ◌+◌, ◌<◌, List, ◌++◌, length, take, drop, get_or, Result, Err}
use Rattle.std.specs.List.{flat_map}
use Rattle.outside_dm.specs.Sinks.{SinkState}
use Rattle.outside_dm.specs.Putting.{Written, Passes}
use Rattle.outside_dm.proofs.Putting.{Passes-cut, Written-nothing, flat_map_at}
use Rattle.outside_dm.specs.declared.sink.PutError.{PutError}
use Rattle.names_dm.specs.Statements.{Statement}
use Rattle.ntriples_dm.specs.Written.{iri_text, term_text, triple_text}

pub passes_same : {xs ys : List ℕ} {a b : SinkState} {result : Result (Unit {0}) PutError} → xs ≡ ys → Passes xs a b result → Passes ys a b result
passes_same {a = a} {b = b} {result = result} same passes = subst (λ (l : List ℕ). Passes l a b result) same passes

-- the first piece is cut, and with it all that follows
pub passes_cut_first : {xs : List ℕ} {a b : SinkState} (zs : List ℕ) (error : PutError) → Passes xs a b (Err error) → Passes (xs ++ zs) a b (Err error)
passes_cut_first {a = a} zs error next = Passes-cut {xs = []} zs error (Written-nothing a) next

-- the piece at the place is cut
pub passes_cut_at : {A : Type 0} (text_of : A → List ℕ) (items : List A) (i : ℕ) (item : A) → i < length items → item ≡ get_or items i item →
    {a b c : SinkState} (error : PutError) → Written (flat_map text_of (take i items)) a b → Passes (text_of item) b c (Err error) → Passes (flat_map text_of items) a c (Err error)
passes_cut_at text_of items i item below is error before next =
    passes_same (sym (flat_map_at text_of items i item below is)) (Passes-cut (flat_map text_of (drop (i + 1) items)) error before next)

-- the subject; the predicate between spaces; the object and the end of the line
pub line_is : (t : Statement) → term_text t.subject ++ ((codes " " ++ (iri_text t.predicate ++ codes " ")) ++ (term_text t.object ++ codes " .\n")) ≡ triple_text t
unfolding triple_text
line_is t = join (term_text t.subject) (codes " ") (iri_text t.predicate) (codes " ") (term_text t.object) (codes " .\n")
  where
    join : (a b c d e f : List ℕ) → a ++ ((b ++ (c ++ d)) ++ (e ++ f)) ≡ ((((a ++ b) ++ c) ++ d) ++ e) ++ f
    join a b c d e f = simp append_assoc

pub line_front_is : (t : Statement) → (term_text t.subject ++ (codes " " ++ (iri_text t.predicate ++ codes " "))) ++ (term_text t.object ++ codes " .\n") ≡ triple_text t
line_front_is t = append_assoc (term_text t.subject) (codes " " ++ (iri_text t.predicate ++ codes " ")) (term_text t.object ++ codes " .\n") ∙ line_is t

pub line_end_is : (t : Statement) → ((term_text t.subject ++ (codes " " ++ (iri_text t.predicate ++ codes " "))) ++ term_text t.object) ++ codes " .\n" ≡ triple_text t
line_end_is t = append_assoc (term_text t.subject ++ (codes " " ++ (iri_text t.predicate ++ codes " "))) (term_text t.object) (codes " .\n") ∙ line_front_is t
