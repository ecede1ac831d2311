-- How texts join that are gathered on a page.
use Rattle.std.proofs.Common.{◌≡◌, ◌∙◌, ◌++◌, [], ℕ, List, ◌<◌, ◌+◌, length, take, drop, get_or, sym, ap, append_assoc, Result, Ok, Err}
use Rattle.std.proofs.lemmas.List.{append-nil}
use Rattle.std.specs.List.{flat_map}
use Rattle.outside_dm.specs.Sinks.{SinkState}
use Rattle.outside_dm.specs.Putting.{Writes}
use Rattle.outside_dm.proofs.Putting.{Writes-all, Writes-cut, Writes-same, Writes-short, Writes-then, Written-nothing, Written-then, flat_map_at, flat_map_to}
use Rattle.outside_dm.specs.declared.sink.PutError.{PutError}
use Rattle.outside_dm.specs.declared.sink.PutError.TheVariants.{Memory}
use Rattle.pages_dm.specs.Streams.{Streams}

-- what was put, what stands on the page and what follows
joined : (done rest page xs ys : List ℕ) → done ++ rest ≡ page ++ xs → done ++ (rest ++ ys) ≡ page ++ (xs ++ ys)
joined done rest page xs ys e = sym (append_assoc done rest ys) ∙ ap (λ (l : List ℕ). l ++ ys) e ∙ append_assoc page xs ys

module _ (page : List ℕ) (a : SinkState) where
  pub streams_start : Streams [] a page a page (Ok tt)
  streams_start = ([], sym (append-nil page), Written-nothing a)

  module _ (xs : List ℕ) (b : SinkState) (rest : List ℕ) (before : Streams xs a page b rest (Ok tt)) where
    -- one text more on the page
    pub streams_add : (ys more : List ℕ) → more ≡ rest ++ ys → Streams (xs ++ ys) a page b more (Ok tt)
    streams_add ys more pushed = (before.0, ap (λ (l : List ℕ). before.0 ++ l) pushed ∙ joined before.0 rest page xs ys before.1, before.2)

    -- then another text
    pub streams_then : (ys : List ℕ) (c : SinkState) (last : List ℕ) → Streams ys b rest c last (Ok tt) → Streams (xs ++ ys) a page c last (Ok tt)
    streams_then ys c last next = (
      before.0 ++ next.0,
      append_assoc before.0 next.0 last ∙ ap (λ (l : List ℕ). before.0 ++ l) next.1 ∙ joined before.0 rest page xs ys before.1,
      Written-then before.2 (Writes-all tt next.2),
    )

    -- the next text is cut, and with it all that follows
    pub streams_cut : (ys zs : List ℕ) (c : SinkState) (error : PutError) → Writes (rest ++ ys) b c (Err error) → Writes (page ++ (xs ++ (ys ++ zs))) a c (Err error)
    streams_cut ys zs c error next =
        Writes-same
        (ap (λ (l : List ℕ). before.0 ++ l) (append_assoc rest ys zs) ∙ joined before.0 rest page xs (ys ++ zs) before.1)
        (Writes-cut zs error before.2 next)

    -- memory ran out
    pub streams_short : (zs : List ℕ) → Writes (page ++ (xs ++ zs)) a b (Err Memory)
    streams_short zs = Writes-same (joined before.0 rest page xs zs before.1) (Writes-short (rest ++ zs) before.2)

-- the page is put at last
pub streams_done : (xs page : List ℕ) (a b c : SinkState) (rest : List ℕ) (result : Result (Unit {0}) PutError) → Streams xs a page b rest (Ok tt) → Writes rest b c result → Writes (page ++ xs) a c result
streams_done xs page a b c rest result before next = Writes-same before.1 (Writes-then before.2 next)

-- ---- over a loop

module _ {A : Type 0} (text_of : A → List ℕ) (items : List A) (i : ℕ) (item : A) (below : i < length items) (is : item ≡ get_or items i item)
    (page : List ℕ) (a b : SinkState) (rest : List ℕ) (before : Streams (flat_map text_of (take i items)) a page b rest (Ok tt)) where
  -- the text at the place was gathered
  pub streams_turn : (c : SinkState) (last : List ℕ) → Streams (text_of item) b rest c last (Ok tt) → Streams (flat_map text_of (take (i + 1) items)) a page c last (Ok tt)
  streams_turn c last next = rw (flat_map_to text_of items i item below is) (streams_then page a (flat_map text_of (take i items)) b rest before (text_of item) c last next)

  -- the text at the place is cut
  pub streams_cut_at : (c : SinkState) (error : PutError) → Writes (rest ++ text_of item) b c (Err error) → Writes (page ++ flat_map text_of items) a c (Err error)
  streams_cut_at c error next =
      Writes-same (ap (λ (l : List ℕ). page ++ l) (sym (flat_map_at text_of items i item below is)))
      (streams_cut page a (flat_map text_of (take i items)) b rest before (text_of item) (flat_map text_of (drop (i + 1) items)) c error next)

  -- memory ran out before the text at the place
  pub streams_short_at : Writes (page ++ flat_map text_of items) a b (Err Memory)
  streams_short_at =
      Writes-same (ap (λ (l : List ℕ). page ++ l) (sym (flat_map_at text_of items i item below is)))
      (streams_short page a (flat_map text_of (take i items)) b rest before (text_of item ++ flat_map text_of (drop (i + 1) items)))
