-- The places that a turn wants.
use Rattle.std.proofs.Common.{◌≡◌, ℕ, zero, suc, ◌+◌, ◌<◌, ◌≤◌, ◌-◌, inl, inr, Bool, true, false}
use Rattle.std.proofs.Common.{◌||◌}
use Rattle.std.proofs.Common.{◌==◌, nat_lt, cond, List, [], ◌∷◌, ◌++◌, length, filter, All}
use Rattle.std.proofs.Common.{Contains, get_or, refl, sym, ap, ◌∙◌, subst, append-nil, eq-eqb}
use Rattle.std.proofs.Common.{arith}
use Rattle.std.specs.Prelude.{insert}
use Rattle.std.proofs.lemmas.Bool.Decides.{nat_tests}
use Rattle.std.specs.List.{list_any}
use Rattle.std.proofs.lemmas.List.Elements.{All-nil, All-cons, All-head, All-tail, All-weaker, All-contains, All-filter}
use Rattle.std.proofs.lemmas.List.Elements.{Contains-push, Contains-append_left, filter-append}
use Rattle.std.proofs.lemmas.Bool.{or_right, and_from}
use mathlib.Core.Logic.{dite}
use native.Mathlib.Decide.{dec_le}
use Rattle.be_facts.proofs.Truths.{and_false_second, false_is_not_true, and_first, and_second}
use Rattle.be_facts.proofs.Numbers.{eq_false, nat_lt_from, nat_lt_tells}
use Rattle.be_facts.proofs.Lists.{length_push}
use Rattle.be_hall.proofs.UpFrom.{up_rises, up_below, up_snoc}
use Rattle.be_hall.specs.Hands.{rises_from, up_from, places_of, meant}
use Rattle.be_hall.specs.Machine.{IsHeld}
use Rattle.be_workers.specs.Wanted.{below, inserted, is_wanted, pushed}
use Rattle.be_workers.specs.Wanted.{stands_at, wanted_below}

or_more : (a b c : Bool) → (b ≡ true → c ≡ true) → (a || b) ≡ true → (a || c) ≡ true
or_more true b c f h = refl
or_more false b c f h = f h

-- a rising list with a number behind it that lies above all
pub rises_with : (low : ℕ) (ps : List ℕ) (p : ℕ) → rises_from low ps ≡ true
    → All (λ q. q < p) ps → low ≤ p → rises_from low (ps ++ p ∷ []) ≡ true
rises_with low [] p h above l = and_from (nat_lt low (p + 1)) true
    (nat_lt_from low (p + 1) (omega arith)) refl
rises_with low (q ∷ qs) p h above l =
    let less : q < p = All-head (λ q. q < p) q qs above in
    and_from (nat_lt low (q + 1)) _ (and_first (nat_lt low (q + 1)) _ h)
    (rises_with (q + 1) qs p (and_second (nat_lt low (q + 1)) _ h)
    (All-tail (λ q. q < p) q qs above) (omega arith))

-- a rising list without some of its numbers
rises_lower : (low high : ℕ) (ps : List ℕ) → low ≤ high → rises_from high ps ≡ true
    → rises_from low ps ≡ true
rises_lower low high [] h r = refl
rises_lower low high (p ∷ ps) h r =
    let above : high < p + 1 = nat_lt_tells high (p + 1) (and_first (nat_lt high (p + 1)) _ r) in
    and_from (nat_lt low (p + 1)) _ (nat_lt_from low (p + 1) (omega arith))
    (and_second (nat_lt high (p + 1)) _ r)

rises_kept : (low p : ℕ) (b : Bool) (ps : List ℕ) → nat_lt low (p + 1) ≡ true
    → rises_from (p + 1) ps ≡ true → rises_from low (cond b (p ∷ ps) ps) ≡ true
rises_kept low p true ps l r = and_from (nat_lt low (p + 1)) _ l r
rises_kept low p false ps l r =
    let above : low < p + 1 = nat_lt_tells low (p + 1) l in rises_lower low (p + 1) ps (omega arith) r

rises_filter : (test : ℕ → Bool) (low : ℕ) (ps : List ℕ) → rises_from low ps ≡ true
    → rises_from low (filter test ps) ≡ true
rises_filter test low [] r = refl
rises_filter test low (p ∷ ps) r =
    rises_kept low p (test p) (filter test ps) (and_first (nat_lt low (p + 1)) _ r)
    (rises_filter test (p + 1) ps (and_second (nat_lt low (p + 1)) _ r))

kept_short : (b : Bool) (x : ℕ) (xs : List ℕ) (n : ℕ) → length xs ≤ n
    → length (cond b (x ∷ xs) xs) ≤ suc n
kept_short true x xs n h = let l : length (x ∷ xs) ≡ suc (length xs) = refl in omega arith
kept_short false x xs n h = omega arith

-- one number more
kept_last : (b : Bool) (xs : List ℕ) (n : ℕ) → xs ++ cond b (n ∷ []) [] ≡ pushed b xs n
kept_last true xs n = refl
kept_last false xs n = append-nil xs

pushed_here : (b : Bool) (xs : List ℕ) (n p : ℕ) → n ≡ p → b ≡ true → Contains (pushed b xs n) p
pushed_here true xs n p e h = subst (λ (q : ℕ). Contains (xs ++ n ∷ []) q) e (Contains-push xs n)
pushed_here false xs n p e h = absurd (false_is_not_true h)

pushed_before : (b : Bool) (xs : List ℕ) (n p : ℕ) → Contains xs p → Contains (pushed b xs n) p
pushed_before true xs n p h = Contains-append_left xs (n ∷ []) p h
pushed_before false xs n p h = h

pub pushed_long : (b : Bool) (n : ℕ) (xs ys : List ℕ) → ys ≡ pushed b xs n → length xs ≤ n
    → length ys ≤ n + 1
pushed_long true n xs ys is h =
    let l : length ys ≡ length xs + 1 = ap length is ∙ length_push xs n in omega arith
pushed_long false n xs ys is h = let l : length ys ≡ length xs = ap length is in omega arith

pub last_any : (xs : List ℕ) (p : ℕ) → list_any (λ q. q == p) (xs ++ p ∷ []) ≡ true
last_any [] p = ap (λ (b : Bool). b || false) (eq-eqb p p refl)
last_any (x ∷ xs) p = or_right (x == p) _ (last_any xs p)

any_more : (xs : List ℕ) (p n : ℕ) → list_any (λ q. q == n) xs ≡ true
    → list_any (λ q. q == n) (xs ++ p ∷ []) ≡ true
any_more [] p n h = absurd (false_is_not_true h)
any_more (x ∷ xs) p n h = or_more (x == n) (list_any (λ q. q == n) xs) _ (any_more xs p n) h

-- lists that grow by one number
pushed_more : (a b : Bool) (xs ys : List ℕ) (n : ℕ) → (a ≡ true → b ≡ true) → length xs ≤ length ys
    → length (pushed a xs n) ≤ length (pushed b ys n)
pushed_more true true xs ys n f h = let l = length_push xs n in let k = length_push ys n in omega arith
pushed_more true false xs ys n f h = absurd (false_is_not_true (f refl))
pushed_more false true xs ys n f h = let k = length_push ys n in omega arith
pushed_more false false xs ys n f h = h

pushed_more_than : (a b : Bool) (xs ys : List ℕ) (n : ℕ) → (a ≡ true → b ≡ true)
    → length xs < length ys → length (pushed a xs n) < length (pushed b ys n)
pushed_more_than true true xs ys n f h = let l = length_push xs n in let k = length_push ys n in omega arith
pushed_more_than true false xs ys n f h = absurd (false_is_not_true (f refl))
pushed_more_than false true xs ys n f h = let k = length_push ys n in omega arith
pushed_more_than false false xs ys n f h = h

pushed_new : (a b : Bool) (xs ys : List ℕ) (n : ℕ) → (a ≡ true → ⊥) → b ≡ true
    → length xs ≤ length ys → length (pushed a xs n) < length (pushed b ys n)
pushed_new true b xs ys n f is h = absurd (f refl)
pushed_new false true xs ys n f is h = let k = length_push ys n in omega arith
pushed_new false false xs ys n f is h = absurd (false_is_not_true is)

pub filter_short : (test : ℕ → Bool) (xs : List ℕ) → length (filter test xs) ≤ length xs
filter_short test [] = omega arith
filter_short test (x ∷ xs) = kept_short (test x) x (filter test xs) (length xs)
    (filter_short test xs)

up_long : (k n : ℕ) → length (up_from k n) ≡ n
up_long k zero = refl
up_long k (suc n) = ap suc (up_long (suc k) n)

wanted_next : (owns : ℕ → Bool) (more : List ℕ) (n : ℕ)
    → wanted_below owns more (n + 1) ≡ pushed (is_wanted owns more n) (wanted_below owns more n) n
wanted_next owns more n =
    ap (filter (is_wanted owns more)) (up_snoc n)
    ∙ (filter-append (is_wanted owns more) (up_from 0 n) (n ∷ [])
    ∙ kept_last (is_wanted owns more n) (wanted_below owns more n) n)

long_next : (owns : ℕ → Bool) (more : List ℕ) (n : ℕ)
    → length (wanted_below owns more (suc n))
    ≡ length (pushed (is_wanted owns more n) (wanted_below owns more n) n)
long_next owns more n =
    let e : suc n ≡ n + 1 = omega arith in
    ap length (ap (wanted_below owns more) e ∙ wanted_next owns more n)

module _ (owns : ℕ → Bool) (more : List ℕ) where
  pub wanted_rises : (n : ℕ) → rises_from 0 (wanted_below owns more n) ≡ true
  wanted_rises n = rises_filter (is_wanted owns more) 0 (up_from 0 n) (up_rises 0 n)

  pub wanted_there : (n : ℕ) → All (λ p. p < n) (wanted_below owns more n)
  wanted_there n = All-filter (is_wanted owns more) (λ p. p < n) (up_from 0 n)
      (up_below n n 0 (omega arith))

  pub wanted_short : (n : ℕ) → length (wanted_below owns more n) ≤ n
  wanted_short n =
      let l = filter_short (is_wanted owns more) (up_from 0 n) in
      let k = up_long 0 n in omega arith

  wanted_has : (n p : ℕ) → p < n → is_wanted owns more p ≡ true
      → Contains (wanted_below owns more n) p
  wanted_has zero p below h = absurd (omega arith)
  wanted_has (suc n) p below h =
      let e : suc n ≡ n + 1 = omega arith in
      let b = is_wanted owns more n in
      let xs = wanted_below owns more n in
      let has : Contains (pushed b xs n) p = dite (dec_le n p)
      (λ last.
      let same : n ≡ p = omega arith in
      pushed_here b xs n p same (subst (λ (q : ℕ). is_wanted owns more q ≡ true) (sym same) h))
      (λ before. pushed_before b xs n p (wanted_has n p (omega arith) h)) in
      subst (λ (l : List ℕ). Contains l p)
      (sym (ap (wanted_below owns more) e ∙ wanted_next owns more n)) has

  pub owned : (n p : ℕ) → p < n → owns p ≡ true → Contains (wanted_below owns more n) p
  owned n p below own =
      wanted_has n p below (ap (λ (b : Bool). b || list_any (λ q. q == p) more) own)

  pub named : (n p : ℕ) → p < n → list_any (λ q. q == p) more ≡ true
      → Contains (wanted_below owns more n) p
  named n p below any = wanted_has n p below (or_right (owns p) _ any)

  -- with one place more that wasn't there before
  module _ (p : ℕ) where
    more_wanted : (n : ℕ) → is_wanted owns more n ≡ true → is_wanted owns (more ++ p ∷ []) n ≡ true
    more_wanted n h = or_more (owns n) (list_any (λ q. q == n) more) _ (any_more more p n) h

    no_shorter : (n : ℕ)
        → length (wanted_below owns more n) ≤ length (wanted_below owns (more ++ p ∷ []) n)
    no_shorter zero = omega arith
    no_shorter (suc n) =
        let old = long_next owns more n in
        let new = long_next owns (more ++ p ∷ []) n in
        let xs = wanted_below owns more n in
        let ys = wanted_below owns (more ++ p ∷ []) n in
        let step = pushed_more (is_wanted owns more n) (is_wanted owns (more ++ p ∷ []) n)
        xs ys n (more_wanted n) (no_shorter n) in omega arith

    pub longer_wanted : (n : ℕ) → p < n → (Contains (wanted_below owns more n) p → ⊥)
        → length (wanted_below owns more n) < length (wanted_below owns (more ++ p ∷ []) n)
    longer_wanted zero below not = absurd (omega arith)
    longer_wanted (suc n) below not =
        let e : suc n ≡ n + 1 = omega arith in
        let a = is_wanted owns more n in
        let b = is_wanted owns (more ++ p ∷ []) n in
        let xs = wanted_below owns more n in
        let ys = wanted_below owns (more ++ p ∷ []) n in
        let old = long_next owns more n in
        let new = long_next owns (more ++ p ∷ []) n in
        let next = ap (wanted_below owns more) e ∙ wanted_next owns more n in
        let absent : Contains (pushed a xs n) p → ⊥ =
        λ has. not (subst (λ (l : List ℕ). Contains l p) (sym next) has) in
        let any = λ (q : ℕ). list_any (λ r. r == q) (more ++ p ∷ []) ≡ true in
        let step : length (pushed a xs n) < length (pushed b ys n) = dite (dec_le n p)
        (λ last.
        let same : n ≡ p = omega arith in
        pushed_new a b xs ys n (λ h. absent (pushed_here a xs n p same h))
        (or_right (owns n) _ (subst any (sym same) (last_any more p))) (no_shorter n))
        (λ before. pushed_more_than a b xs ys n (more_wanted n)
        (longer_wanted n (omega arith) (λ has. absent (pushed_before a xs n p has)))) in
        omega arith

  -- one step of the choice
  pub chosen : (b : Bool) (n : ℕ) (xs ys : List ℕ) → ys ≡ pushed b xs n → b ≡ is_wanted owns more n
      → xs ≡ wanted_below owns more n → ys ≡ wanted_below owns more (n + 1)
  chosen b n xs ys is by so =
      is ∙ (ap (λ (t : Bool). pushed t xs n) by
      ∙ (ap (λ (l : List ℕ). pushed (is_wanted owns more n) l n) so
      ∙ sym (wanted_next owns more n)))

-- Where one place more was named, what is wanted grew. So the places that were named are fewer than
-- there are, those that aren't wanted are fewer than before, and those that are wanted are still at
-- least as many as those that were named.
pub record Grown (n : ℕ) (more ps : List ℕ) (p : ℕ) (ws : List ℕ) : Type 0 where
  pub few : length more < n
  pub less : n - length ws < n - length ps
  pub kept : length (more ++ p ∷ []) ≤ length ws

one_more : (k : ℕ) → 1 + k ≡ suc k
one_more k = omega arith

module _ (p : ℕ) where
  there_step : (b c : Bool) (q k : ℕ) (qs ys : List ℕ) → (q == p) ≡ c
      → (k < length qs → (get_or qs k 0 == p) ≡ true → qs ≡ ys)
      → cond b (1 + k) 0 < length (q ∷ qs)
      → (get_or (q ∷ qs) (cond b (1 + k) 0) 0 == p) ≡ true
      → q ∷ qs ≡ cond b (q ∷ ys) (cond c (q ∷ qs) (p ∷ q ∷ qs))
  there_step true c q k qs ys e rest l is =
      let s : 1 + k < suc (length qs) = l in
      ap (λ r. q ∷ r) (rest (omega arith)
      (subst (λ n. (get_or (q ∷ qs) n 0 == p) ≡ true) (one_more k) is))
  there_step false true q k qs ys e rest l is = refl
  there_step false false q k qs ys e rest l is = absurd (false_is_not_true (sym e ∙ is))

  before_there : (qs : List ℕ) → below p qs < length qs
      → (get_or qs (below p qs) 0 == p) ≡ true → qs ≡ inserted p qs
  before_there [] l is = let k : 0 < 0 = l in absurd (omega arith)
  before_there (q ∷ qs) l is = there_step (nat_lt q p) (q == p) q (below p qs) qs (inserted p qs)
      refl (before_there qs) l is

  pub inserted_there : (qs : List ℕ) → stands_at qs (below p qs) p ≡ true → qs ≡ inserted p qs
  inserted_there qs h = before_there qs (nat_lt_tells (below p qs) (length qs)
      (and_first (nat_lt (below p qs) (length qs)) _ h))
      (and_second (nat_lt (below p qs) (length qs)) _ h)

  new_step : (b c : Bool) (q k : ℕ) (qs ys : List ℕ) → (q == p) ≡ c
      → ((k < length qs → (get_or qs k 0 == p) ≡ false) → insert qs k p ≡ ys)
      → (cond b (1 + k) 0 < length (q ∷ qs)
      → (get_or (q ∷ qs) (cond b (1 + k) 0) 0 == p) ≡ false)
      → insert (q ∷ qs) (cond b (1 + k) 0) p ≡ cond b (q ∷ ys) (cond c (q ∷ qs) (p ∷ q ∷ qs))
  new_step true c q k qs ys e rest is =
      subst (λ n. insert (q ∷ qs) n p ≡ q ∷ ys) (sym (one_more k)) (ap (λ r. q ∷ r) (rest (λ l.
      let s : 1 + k < suc (length qs) = omega arith in
      subst (λ n. (get_or (q ∷ qs) n 0 == p) ≡ false) (one_more k) (is s))))
  new_step false true q k qs ys e rest is =
      let s : 0 < suc (length qs) = omega arith in absurd (false_is_not_true (sym (is s) ∙ e))
  new_step false false q k qs ys e rest is = refl

  before_new : (qs : List ℕ)
      → (below p qs < length qs → (get_or qs (below p qs) 0 == p) ≡ false)
      → insert qs (below p qs) p ≡ inserted p qs
  before_new [] is = refl
  before_new (q ∷ qs) is = new_step (nat_lt q p) (q == p) q (below p qs) qs (inserted p qs)
      refl (before_new qs) is

  pub inserted_new : (qs : List ℕ) → stands_at qs (below p qs) p ≡ false
      → insert qs (below p qs) p ≡ inserted p qs
  inserted_new qs h = before_new qs (λ l.
      and_false_second (nat_lt (below p qs) (length qs)) _ h (nat_lt_from (below p qs) (length qs) l))

any_other : (p n : ℕ) (xs : List ℕ) → (p == n) ≡ false
    → list_any (λ q. q == n) (xs ++ p ∷ []) ≡ list_any (λ q. q == n) xs
any_other p n [] e = ap (λ (b : Bool). b || false) e
any_other p n (x ∷ xs) e = ap (λ (b : Bool). (x == n) || b) (any_other p n xs e)

back_step : (b c : Bool) (p n q : ℕ) (qs ys zs : List ℕ) → zs ≡ ys ++ n ∷ []
    → cond b (q ∷ zs) (cond c (q ∷ qs ++ n ∷ []) (p ∷ q ∷ qs ++ n ∷ []))
    ≡ cond b (q ∷ ys) (cond c (q ∷ qs) (p ∷ q ∷ qs)) ++ n ∷ []
back_step true c p n q qs ys zs e = ap (λ r. q ∷ r) e
back_step false true p n q qs ys zs e = refl
back_step false false p n q qs ys zs e = refl

-- a greater number behind all
front_end : (b c : Bool) (p n : ℕ) → b ≡ false → c ≡ false
    → cond b (n ∷ p ∷ []) (cond c (n ∷ []) (p ∷ n ∷ [])) ≡ p ∷ n ∷ []
front_end true c p n e f = absurd (false_is_not_true (sym e))
front_end false true p n e f = absurd (false_is_not_true (sym f))
front_end false false p n e f = refl

less_not : (p n : ℕ) → p < n → nat_lt n p ≡ false
less_not p n h = grind (arith, nat_tests)

inserted_back : (p n : ℕ) (xs : List ℕ) → p < n → inserted p (xs ++ n ∷ []) ≡ inserted p xs ++ n ∷ []
inserted_back p n [] h = front_end (nat_lt n p) (n == p) p n (less_not p n h)
    (eq_false n p (λ e. omega (arith, e)))
inserted_back p n (x ∷ xs) h = back_step (nat_lt x p) (x == p) p n x xs (inserted p xs) _
    (inserted_back p n xs h)

-- a number that is greater than all
last_step : (b c : Bool) (n x : ℕ) (xs ys : List ℕ) → b ≡ true → ys ≡ xs ++ n ∷ []
    → cond b (x ∷ ys) (cond c (x ∷ xs) (n ∷ x ∷ xs)) ≡ x ∷ xs ++ n ∷ []
last_step true c n x xs ys e f = ap (λ r. x ∷ r) f
last_step false c n x xs ys e f = absurd (false_is_not_true e)

pub inserted_last : (n : ℕ) (xs : List ℕ) → All (λ p. p < n) xs → inserted n xs ≡ xs ++ n ∷ []
inserted_last n [] h = refl
inserted_last n (x ∷ xs) h = last_step (nat_lt x n) (x == n) n x xs (inserted n xs)
    (nat_lt_from x n (All-head (λ p. p < n) x xs h))
    (inserted_last n xs (All-tail (λ p. p < n) x xs h))

-- the greatest one, which is there
kept_step : (b c : Bool) (n x : ℕ) (xs ys : List ℕ) → b ≡ true → ys ≡ xs
    → cond b (x ∷ ys) (cond c (x ∷ xs) (n ∷ x ∷ xs)) ≡ x ∷ xs
kept_step true c n x xs ys e f = ap (λ r. x ∷ r) f
kept_step false c n x xs ys e f = absurd (false_is_not_true e)

same_end : (b c : Bool) (n : ℕ) → b ≡ false → c ≡ true
    → cond b (n ∷ n ∷ []) (cond c (n ∷ []) (n ∷ n ∷ [])) ≡ n ∷ []
same_end true c n e f = absurd (false_is_not_true (sym e))
same_end false true n e f = refl
same_end false false n e f = absurd (false_is_not_true f)

inserted_kept : (n : ℕ) (xs : List ℕ) → All (λ p. p < n) xs
    → inserted n (xs ++ n ∷ []) ≡ xs ++ n ∷ []
inserted_kept n [] h = same_end (nat_lt n n) (n == n) n (grind (arith, nat_tests)) (eq-eqb n n refl)
inserted_kept n (x ∷ xs) h = kept_step (nat_lt x n) (x == n) n x (xs ++ n ∷ []) _
    (nat_lt_from x n (All-head (λ p. p < n) x xs h))
    (inserted_kept n xs (All-tail (λ p. p < n) x xs h))

inserted_pushed : (b : Bool) (n : ℕ) (xs : List ℕ) → All (λ p. p < n) xs
    → pushed true xs n ≡ inserted n (pushed b xs n)
inserted_pushed true n xs h = sym (inserted_kept n xs h)
inserted_pushed false n xs h = sym (inserted_last n xs h)

pushed_inserted : (b : Bool) (p n : ℕ) (xs : List ℕ) → p < n
    → pushed b (inserted p xs) n ≡ inserted p (pushed b xs n)
pushed_inserted true p n xs h = sym (inserted_back p n xs h)
pushed_inserted false p n xs h = refl

module _ (owns : ℕ → Bool) (more : List ℕ) (p : ℕ) where
  is_other : (n : ℕ) → (p ≡ n → ⊥) → is_wanted owns (more ++ p ∷ []) n ≡ is_wanted owns more n
  is_other n h = ap (λ (b : Bool). owns n || b) (any_other p n more (eq_false p n h))

  next : (ms : List ℕ) (n : ℕ) → wanted_below owns ms (suc n)
      ≡ pushed (is_wanted owns ms n) (wanted_below owns ms n) n
  next ms n =
      let e : suc n ≡ n + 1 = omega arith in ap (wanted_below owns ms) e ∙ wanted_next owns ms n

  -- a number that isn't below adds nothing
  pub with_none : (n : ℕ) → n ≤ p → wanted_below owns (more ++ p ∷ []) n ≡ wanted_below owns more n
  with_none zero h = refl
  with_none (suc n) h =
      next (more ++ p ∷ []) n
      ∙ (ap (λ (b : Bool). pushed b (wanted_below owns (more ++ p ∷ []) n) n)
      (is_other n (λ e. omega (arith, e, h)))
      ∙ (ap (λ (l : List ℕ). pushed (is_wanted owns more n) l n) (with_none n (omega arith))
      ∙ sym (next more n)))

  -- and one that is below is added in its place
  pub with_one : (n : ℕ) → p < n
      → wanted_below owns (more ++ p ∷ []) n ≡ inserted p (wanted_below owns more n)
  with_one zero h = absurd (omega arith)
  with_one (suc n) h = dite (dec_le n p)
      (λ last.
      let same : n ≡ p = omega arith in
      let is : is_wanted owns (more ++ p ∷ []) n ≡ true =
      or_right (owns n) _ (subst (λ (q : ℕ). list_any (λ r. r == q) (more ++ p ∷ []) ≡ true)
      (sym same) (last_any more p)) in
      next (more ++ p ∷ []) n
      ∙ (ap (λ (b : Bool). pushed b (wanted_below owns (more ++ p ∷ []) n) n) is
      ∙ (ap (λ (l : List ℕ). pushed true l n) (with_none n last)
      ∙ (inserted_pushed (is_wanted owns more n) n (wanted_below owns more n)
      (wanted_there owns more n)
      ∙ (ap (λ (q : ℕ). inserted q (pushed (is_wanted owns more n) (wanted_below owns more n) n)) same
      ∙ ap (inserted p) (sym (next more n)))))))
      (λ before.
      let less : p < n = omega arith in
      next (more ++ p ∷ []) n
      ∙ (ap (λ (b : Bool). pushed b (wanted_below owns (more ++ p ∷ []) n) n)
      (is_other n (λ e. omega (arith, e, less)))
      ∙ (ap (λ (l : List ℕ). pushed (is_wanted owns more n) l n) (with_one n less)
      ∙ (pushed_inserted (is_wanted owns more n) p n (wanted_below owns more n) less
      ∙ ap (inserted p) (sym (next more n))))))

module _ {T M : Type 0} (f : T → M) where
  all_held : (held : List (ℕ × T)) → All (λ q. IsHeld (meant f held) q) (places_of held)
  all_held [] = All-nil _
  all_held (x ∷ xs) = All-cons (λ q. IsHeld (meant f (x ∷ xs)) q) x.0 (places_of xs) (inl refl)
      (All-weaker (λ q. IsHeld (meant f xs) q) (λ q. IsHeld (meant f (x ∷ xs)) q) (λ q h. inr h)
      (places_of xs) (all_held xs))

  -- a place that was wanted is in hand
  pub is_held : (held : List (ℕ × T)) (ps : List ℕ) (p : ℕ) → places_of held ≡ ps → Contains ps p
      → IsHeld (meant f held) p
  is_held held ps p same has = All-contains (λ q. IsHeld (meant f held) q) (places_of held) p
      (all_held held) (subst (λ l. Contains l p) (sym same) has)

  -- a place that isn't in hand, where all that were wanted are, makes what is wanted longer
  pub grown : (owns : ℕ → Bool) (more : List ℕ) (held : List (ℕ × T)) (ps : List ℕ) (n p : ℕ)
      → places_of held ≡ ps → ps ≡ wanted_below owns more n
      → (p < n) × (IsHeld (meant f held) p → ⊥) → length more ≤ length ps
      → Grown n more ps p (wanted_below owns (more ++ p ∷ []) n)
  grown owns more held ps n p in_hand is told few =
      let ws = wanted_below owns (more ++ p ∷ []) n in
      let absent : Contains (wanted_below owns more n) p → ⊥ =
      λ has. told.1 (is_held held ps p in_hand (subst (λ (l : List ℕ). Contains l p) (sym is) has))
      in
      let longer_by : length ps < length ws =
      subst (λ (l : List ℕ). length l < length ws) (sym is)
      (longer_wanted owns more p n told.0 absent) in
      let short : length ws ≤ n = wanted_short owns (more ++ p ∷ []) n in
      let one : length (more ++ p ∷ []) ≡ length more + 1 = length_push more p in
      record { few = omega arith; less = omega arith; kept = omega arith }
