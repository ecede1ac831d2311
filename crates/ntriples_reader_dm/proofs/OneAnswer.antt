-- A document has one answer alone.
use Rattle.std.proofs.Common.{◌≡◌, ◌∙◌, ℕ, suc, ◌+◌, ◌≤◌, List, [], ◌∷◌, ◌++◌, length, Option, Result, Ok, Err, refl, sym, ap, subst, arith, append_assoc, length-append}
use Rattle.std.specs.Prelude.{All, chars, option_to_list}
use Rattle.std.specs.List.{flat_map}
use Rattle.names_dm.specs.Statements.{Statement}
use Rattle.ntriples_dm.specs.Written.{triple_text}
use Rattle.ntriples_reader_dm.specs.declared.fault.GraphError.{GraphError}
use Rattle.ntriples_reader_dm.specs.declared.fault.GraphError.TheVariants.{BadLine, TooManyTriples, Memory}
use Rattle.ntriples_reader_dm.specs.Answer.{IsAnswer, HasOneAnswer, GivesBack}
use Rattle.ntriples_reader_dm.specs.Document.{AreTriples, IsDocument, limit}
use Rattle.ntriples_reader_dm.specs.Grammar.{IsLine}
use Rattle.ntriples_reader_dm.specs.Lawful.{IsLawful}
use Rattle.ntriples_reader_dm.specs.Lines.{lines}
use Rattle.ntriples_reader_dm.proofs.Cuts.{triples_one}
use Rattle.ntriples_reader_dm.proofs.ReadBack.{text_reads_back}
use Rattle.ntriples_reader_dm.proofs.Triples.{line_one}

abbrev Never : List ℕ → Type 0
Never l = (x : Option Statement) → IsLine l x → ⊥

-- what lines in front say is in front of what all say
record Parted (front rest : List (List ℕ)) (ts : List Statement) : Type 0 where
  first : List Statement
  second : List Statement
  says : AreTriples front first
  later : AreTriples rest second
  whole : ts ≡ first ++ second

parted : (front rest : List (List ℕ)) (ts : List Statement) → AreTriples (front ++ rest) ts → Parted front rest ts
parted [] rest ts h = record { first = []; second = ts; says = refl; later = h; whole = refl }
parted (l ∷ front) rest ts h =
    let p = parted front rest h.1 h.3 in
    record {
      first = option_to_list h.0 ++ p.first;
      second = p.second;
      says = (h.0, p.first, h.2, p.says, refl);
      later = p.later;
      whole = h.4 ∙ ap (λ (us : List Statement). option_to_list h.0 ++ us) p.whole ∙ sym (append_assoc (option_to_list h.0) p.first p.second);
    }

good_bad : (front : List (List ℕ)) (bad : List ℕ) (rest : List (List ℕ)) (ts : List Statement) → Never bad → AreTriples (front ++ bad ∷ rest) ts → ⊥
good_bad front bad rest ts never h = let p = parted front (bad ∷ rest) ts h in never p.later.0 p.later.2

good_many : (ls : List (List ℕ)) (front rest : List (List ℕ)) (ts us : List Statement) → ls ≡ front ++ rest → AreTriples ls ts → AreTriples front us → length us ≤ length ts
good_many ls front rest ts us e h says =
    let p = parted front rest ts (subst (λ (ls : List (List ℕ)). AreTriples ls ts) e h) in
    let same = triples_one front us p.first says p.says in
    omega (arith, ap length same, ap length p.whole, length-append p.first p.second)

heads : (l m : List ℕ) (f g : List (List ℕ)) → l ∷ f ≡ m ∷ g → (l ≡ m) × (f ≡ g)
heads l m f g e = (cc, cc)

first_bad_one : (f g : List (List ℕ)) (b c : List ℕ) (r s : List (List ℕ)) (ts us : List Statement) → f ++ b ∷ r ≡ g ++ c ∷ s → Never b → Never c → AreTriples f ts → AreTriples g us → length f ≡ length g
first_bad_one [] [] b c r s ts us e nb nc h k = refl
first_bad_one [] (m ∷ g) b c r s ts us e nb nc h k = absurd (nb k.0 (subst (λ (l : List ℕ). IsLine l k.0) (sym (heads b m r (g ++ c ∷ s) e).0) k.2))
first_bad_one (l ∷ f) [] b c r s ts us e nb nc h k = absurd (nc h.0 (subst (λ (m : List ℕ). IsLine m h.0) (heads l c (f ++ b ∷ r) s e).0 h.2))
first_bad_one (l ∷ f) (m ∷ g) b c r s ts us e nb nc h k =
    let p = heads l m (f ++ b ∷ r) (g ++ c ∷ s) e in
    ap suc (first_bad_one f g b c r s h.1 k.1 p.1 nb nc h.3 k.3)

-- lines without a bad one say no more than those in front of the first bad one
many_before_bad : (f g : List (List ℕ)) (b : List ℕ) (r s : List (List ℕ)) (ts us : List Statement) → f ++ b ∷ r ≡ g ++ s → Never b → AreTriples f ts → AreTriples g us → length us ≤ length ts
many_before_bad f [] b r s ts us e nb h k = omega (arith, ap length k)
many_before_bad [] (m ∷ g) b r s ts us e nb h k = absurd (nb k.0 (subst (λ (l : List ℕ). IsLine l k.0) (sym (heads b m r (g ++ s) e).0) k.2))
many_before_bad (l ∷ f) (m ∷ g) b r s ts us e nb h k =
    let p = heads l m (f ++ b ∷ r) (g ++ s) e in
    let same = line_one (chars l) h.0 k.0 h.2.1 (subst (λ (x : List ℕ). IsLine x k.0) (sym p.0) k.2).1 in
    let less = many_before_bad f g b r s h.1 k.1 p.1 nb h.3 k.3 in
    omega (arith, less, ap length h.4, ap length k.4, length-append (option_to_list h.0) h.1, length-append (option_to_list k.0) k.1, ap (λ (x : Option Statement). length (option_to_list x)) same)

pub one_answer : (bytes : List ℕ) → HasOneAnswer bytes
one_answer bytes (Ok ts) (Ok us) h k p q = ap Ok (triples_one (lines bytes) ts us h.0 k.0)
one_answer bytes (Ok ts) (Err (BadLine n)) h k p q = absurd (good_bad k.front k.bad k.rest ts k.never (subst (λ (ls : List (List ℕ)). AreTriples ls ts) k.whole h.0))
one_answer bytes (Ok ts) (Err TooManyTriples) h k p q = absurd (omega (arith, good_many (lines bytes) k.front k.rest ts k.triples k.whole h.0 k.says, k.above, h.1))
one_answer bytes (Err (BadLine n)) (Ok ts) k h p q = absurd (good_bad k.front k.bad k.rest ts k.never (subst (λ (ls : List (List ℕ)). AreTriples ls ts) k.whole h.0))
one_answer bytes (Err TooManyTriples) (Ok ts) k h p q = absurd (omega (arith, good_many (lines bytes) k.front k.rest ts k.triples k.whole h.0 k.says, k.above, h.1))
one_answer bytes (Err (BadLine n)) (Err (BadLine m)) h k p q =
    ap (λ (x : ℕ). Err (BadLine x)) (h.counted ∙ ap (λ (x : ℕ). x + 1) (first_bad_one h.front k.front h.bad k.bad h.rest k.rest h.triples k.triples (sym h.whole ∙ k.whole) h.never k.never h.says k.says) ∙ sym k.counted)
one_answer bytes (Err (BadLine n)) (Err TooManyTriples) h k p q =
    absurd (omega (arith, many_before_bad h.front k.front h.bad h.rest k.rest h.triples k.triples (sym h.whole ∙ k.whole) h.never h.says k.says, h.within, k.above))
one_answer bytes (Err TooManyTriples) (Err (BadLine n)) k h p q =
    absurd (omega (arith, many_before_bad h.front k.front h.bad h.rest k.rest h.triples k.triples (sym h.whole ∙ k.whole) h.never h.says k.says, h.within, k.above))
one_answer bytes (Err TooManyTriples) (Err TooManyTriples) h k p q = refl
one_answer bytes (Err Memory) second h k p q = absurd (p refl)
one_answer bytes (Ok ts) (Err Memory) h k p q = absurd (q refl)
one_answer bytes (Err (BadLine n)) (Err Memory) h k p q = absurd (q refl)
one_answer bytes (Err TooManyTriples) (Err Memory) h k p q = absurd (q refl)

given_back : (bytes : List ℕ) (ts : List Statement) (r : Result (List Statement) GraphError) → IsDocument bytes ts → length ts ≤ limit → IsAnswer bytes r → GivesBack ts r
given_back bytes ts (Ok us) d few h = triples_one (lines bytes) us ts h.0 d
given_back bytes ts (Err (BadLine n)) d few h = good_bad h.front h.bad h.rest ts h.never (subst (λ (ls : List (List ℕ)). AreTriples ls ts) h.whole d)
given_back bytes ts (Err TooManyTriples) d few h = absurd (omega (arith, good_many (lines bytes) h.front h.rest ts h.triples h.whole d h.says, h.above, few))
given_back bytes ts (Err Memory) d few h = tt

pub written_back : (bytes : List ℕ) (r : Result (List Statement) GraphError) → IsAnswer bytes r → (ts : List Statement) → All IsLawful ts → length ts ≤ limit → bytes ≡ flat_map triple_text ts → GivesBack ts r
written_back bytes r h ts lawful few e = given_back bytes ts r (subst (λ (bs : List ℕ). IsDocument bs ts) (sym e) (text_reads_back ts lawful)) few h
