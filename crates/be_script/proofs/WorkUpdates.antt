-- The Draw bodies of all windows are those of each window in turn.
use Rattle.std.proofs.Common.{◌≡◌, ◌≢◌, ℕ, zero, suc, ◌+◌, ◌*◌, ◌<◌, ◌≤◌, ◌==◌, inl, inr, Bool, true, false, cond, List, [], ◌∷◌, length, filter, refl, ap, sym, ◌∙◌, arith, eq-eqb, ne_eqb, ltb-true}
use Rattle.std.specs.Prelude.{sum_by, flat_map, nat_lt}
use Rattle.std.specs.List.{range_with_len, list_all}
use Rattle.std.proofs.lemmas.Bool.{cases_eq}
use Rattle.std.proofs.lemmas.List.Sums.{sum_by-cons, sum_by-append}
use Rattle.be_facts.proofs.Truths.{and_second, and_first}
use Rattle.be_script.specs.declared.DrawLine.{DrawLine}
use Rattle.be_script.specs.Costs.{own_cost, all_updates}
use Rattle.be_script.specs.Limits.{is_window}
use Rattle.be_script.specs.Script.{Declared}
use Rattle.be_script.specs.Work.{update_cost, updates_cost}

-- a number's share of what one number of a range has
share : ℕ → ℕ → ℕ → ℕ
share k s w = cond (k == w) s 0

share-same : (k s w : ℕ) → k ≡ w → share k s w ≡ s
unfolding share
share-same k s w e = rw (eq-eqb k w e) refl

share-other : (k s w : ℕ) → k ≢ w → share k s w ≡ 0
unfolding share
share-other k s w ne = rw (ne_eqb k w ne) refl

no_share : (k s a n : ℕ) → k < a → sum_by (share k s) (range_with_len a n) ≡ 0
no_share k s a zero h = refl
no_share k s a (suc n) h =
    rw (sum_by-cons (share k s) a (range_with_len (a + 1) n), share-other k s a (omega arith), no_share k s (a + 1) n (omega arith)) refl

one_share : (k s a n : ℕ) → a ≤ k → k < a + n → sum_by (share k s) (range_with_len a n) ≡ s
one_share k s a zero h l = absurd (omega arith)
one_share k s a (suc n) h l =
    elim (cases_eq k a) [
      | inl e ↦ rw (sum_by-cons (share k s) a (range_with_len (a + 1) n), share-same k s a e, no_share k s (a + 1) n (omega arith)) (omega arith)
      | inr ne ↦ rw (sum_by-cons (share k s) a (range_with_len (a + 1) n), share-other k s a ne, one_share k s (a + 1) n (omega arith) (omega arith)) (omega arith)
    ]

sums_apart : (f g h : ℕ → ℕ) → ((w : ℕ) → f w ≡ g w + h w) → (xs : List ℕ) → sum_by f xs ≡ sum_by g xs + sum_by h xs
sums_apart f g h each [] = refl
sums_apart f g h each (x ∷ xs) =
    let here : f x ≡ g x + h x = each x in
    let rest : sum_by f xs ≡ sum_by g xs + sum_by h xs = sums_apart f g h each xs in
    rw (sum_by-cons f x xs, sum_by-cons g x xs, sum_by-cons h x xs) (omega arith)

zeros : (xs : List ℕ) → sum_by (λ w. 0) xs ≡ 0
zeros [] = refl
zeros (x ∷ xs) = rw (sum_by-cons (λ (w : ℕ). 0) x xs, zeros xs) refl

-- the cost of the Draw bodies of one window
abbrev drawn : List DrawLine → ℕ → ℕ
drawn lines w = sum_by (own_cost 0) (flat_map (λ line. line.program) (filter (λ line. line.window == w) lines))

abbrev line_cost : DrawLine → ℕ
line_cost line = sum_by (own_cost 0) line.program

one_line : (b : Bool) (line : DrawLine) (kept : List DrawLine) →
    sum_by (own_cost 0) (flat_map (λ line. line.program) (cond b (line ∷ kept) kept)) ≡ cond b (line_cost line) 0 + sum_by (own_cost 0) (flat_map (λ line. line.program) kept)
one_line true line kept = sum_by-append (own_cost 0) line.program (flat_map (λ line. line.program) kept)
one_line false line kept = omega arith

drawn-cons : (line : DrawLine) (lines : List DrawLine) (w : ℕ) → drawn (line ∷ lines) w ≡ share line.window (line_cost line) w + drawn lines w
unfolding share
drawn-cons line lines w = one_line (line.window == w) line (filter (λ line. line.window == w) lines)

drawn-all : (n : ℕ) (lines : List DrawLine) → list_all (λ line. nat_lt line.window n) lines ≡ true →
    sum_by (drawn lines) (range_with_len 0 n) ≡ sum_by line_cost lines
drawn-all n [] h = zeros (range_with_len 0 n)
drawn-all n (line ∷ lines) h =
    let first : nat_lt line.window n ≡ true = and_first (nat_lt line.window n) (list_all (λ line. nat_lt line.window n) lines) h in
    let below : line.window < n = ltb-true line.window n first in
    let rest : sum_by (drawn lines) (range_with_len 0 n) ≡ sum_by line_cost lines =
    drawn-all n lines (and_second (nat_lt line.window n) (list_all (λ line. nat_lt line.window n) lines) h) in
    let one : sum_by (share line.window (line_cost line)) (range_with_len 0 n) ≡ line_cost line =
    one_share line.window (line_cost line) 0 n (omega arith) (omega arith) in
    sums_apart (drawn (line ∷ lines)) (share line.window (line_cost line)) (drawn lines) (drawn-cons line lines) (range_with_len 0 n)
    ∙ rw (one, rest, sum_by-cons line_cost line lines) refl

eights : (f g : ℕ → ℕ) → ((w : ℕ) → f w ≡ 8 + g w) → (a n : ℕ) → sum_by f (range_with_len a n) ≡ 8 * n + sum_by g (range_with_len a n)
eights f g each a zero = refl
eights f g each a (suc n) =
    let here : f a ≡ 8 + g a = each a in
    let rest : sum_by f (range_with_len (a + 1) n) ≡ 8 * n + sum_by g (range_with_len (a + 1) n) = eights f g each (a + 1) n in
    rw (sum_by-cons f a (range_with_len (a + 1) n), sum_by-cons g a (range_with_len (a + 1) n)) (omega arith)

pub updates-all : (d : Declared) → list_all (λ line. is_window d line.window) d.draws ≡ true →
    all_updates d.windows d.draws ≡ updates_cost d
unfolding updates_cost
updates-all d h =
    sym (eights (update_cost d) (drawn d.draws) (λ w. refl) 0 (length d.windows)
    ∙ ap (λ n. 8 * length d.windows + n) (drawn-all (length d.windows) d.draws h))
