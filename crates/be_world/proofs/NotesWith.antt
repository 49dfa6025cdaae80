-- The notes of parts in hand of which one takes a note.
use Rattle.std.proofs.Common.{◌≡◌, ℕ, ◌+◌, ◌<◌, ◌==◌, if◌then◌else◌, true, List, [], ◌∷◌}
use Rattle.std.proofs.Common.{◌++◌, ◌∙◌, Some, sym, refl, ap, arith}
use Rattle.be_facts.proofs.Truths.{and_first}
use Rattle.be_facts.proofs.Numbers.{nat_lt_tells}
use Rattle.be_hall.specs.Hands.{meant, part_at, places_of, rises_from, with_part}
use Rattle.be_hall.proofs.Holding.{past, later}
use Rattle.be_noting.specs.Noting.{noted_in}
use Rattle.be_steps.proofs.Making.{by_place_test}

module _ {T N : Type 0} (notes : T → List N) where
  noted_past : (low p : ℕ) (more : List N) (held : List (ℕ × T))
      → rises_from low (places_of held) ≡ true → p < low
      → noted_in p more (meant notes held) ≡ meant notes held
  noted_past low p more [] r l = refl
  noted_past low p more (x ∷ xs) r l =
      by_place_test (λ b. (x.0, if b then notes x.1 ++ more else notes x.1)
      ∷ noted_in p more (meant notes xs) ≡ meant notes (x ∷ xs)) x.0 p
      (λ is. absurd (past low p (places_of xs) x.0 r l is))
      (λ other. let first = nat_lt_tells low (x.0 + 1) (and_first _ _ r) in
      ap (λ (t : List (ℕ × List N)). (x.0, notes x.1) ∷ t)
      (noted_past (x.0 + 1) p more xs (later low (places_of xs) x.0 r) (omega arith)))

  -- the part at a place takes more behind its notes
  pub notes_with : (low : ℕ) (held : List (ℕ × T)) (p : ℕ) (x y : T) (more : List N)
      → rises_from low (places_of held) ≡ true → part_at held p ≡ Some x
      → notes y ≡ notes x ++ more
      → meant notes (with_part held p y) ≡ noted_in p more (meant notes held)
  notes_with low [] p x y more r e s = refl
  notes_with low (z ∷ zs) p x y more r e s =
      by_place_test (λ b. (if b then Some z.1 else part_at zs p) ≡ Some x
      → meant notes (if b then (z.0, y) ∷ zs else z ∷ with_part zs p y)
      ≡ (z.0, if b then notes z.1 ++ more else notes z.1) ∷ noted_in p more (meant notes zs)) z.0 p
      (λ is h. let same : z.1 ≡ x = cc in
      (λ i. (z.0, (s ∙ ap (λ (w : T). notes w ++ more) (sym same)) i)
      ∷ sym (noted_past (z.0 + 1) p more zs (later low (places_of zs) z.0 r) (omega arith)) i))
      (λ other h. ap (λ (t : List (ℕ × List N)). (z.0, notes z.1) ∷ t)
      (notes_with (z.0 + 1) zs p x y more (later low (places_of zs) z.0 r) h s)) e
