-- What closing a hall owes.
use Rattle.std.proofs.Common.{◌≡◌, ℕ, zero, suc, ◌+◌, ◌≤◌, min, List, [], ◌∷◌, ◌++◌, map, length, length-append, sym, refl, ap, ◌∙◌, subst, arith}
use mathlib.Core.Option.{some, some-injective}
use lib.ListN.{get_elem?}
use Rattle.be_hall.specs.declared.view.View.{View}
use Rattle.be_hall.specs.declared.view.Commit.{Commit}
use Rattle.be_hall.specs.declared.view.About.{About}
use Rattle.be_hall.specs.Numbers.{one_if, once, total}
use Rattle.be_hall.specs.Hands.{places_of, up_from, meant}
use Rattle.be_hall.specs.Machine.{Machine, Fits, leads}
use Rattle.be_hall.specs.Views.{known, logs_of, times, gathered, counted}
use Rattle.be_hall.specs.Logs.{logged, flat, InHistory, AllInHistory}
use Rattle.be_hall.specs.History.{AllStand, EachStand}
use Rattle.be_hall.specs.Steps.{Sees}
use Rattle.be_hall.specs.Passes.{marks_of}
use Rattle.be_hall.specs.Closing.{Closes}
use Rattle.be_hall.proofs.Growth.{inside, assoc, longer, within, tail_of, head_or}
use Rattle.be_hall.proofs.Full.{occurs, Among, few, all_there}
use Rattle.be_hall.proofs.InHand.{known_of, logs_of_marks}

module _ {A : Type 0} where
  middle : (xs : List A) (y : A) (ys : List A) → get_elem? (xs ++ y ∷ ys) (length xs) ≡ some y
  middle [] y ys = refl
  middle (x ∷ xs) y ys = middle xs y ys

  -- a list that has what is held at each place from some place on
  fits_from : (front rest : List A) (held : List (ℕ × A)) → Fits (front ++ rest) held → map (λ x. x.0) held ≡ up_from (length front) (length rest) → rest ≡ map (λ x. x.1) held
  fits_from front [] [] f e = refl
  fits_from front [] (x ∷ xs) f e = let n : suc (length (map (λ (z : ℕ × A). z.0) xs)) ≡ 0 = ap length e in absurd (omega arith)
  fits_from front (y ∷ ys) [] f e = let n : 0 ≡ suc (length (up_from (suc (length front)) (length ys))) = ap length e in absurd (omega arith)
  fits_from front (y ∷ ys) (x ∷ xs) f e =
      let at : x.0 ≡ length front = ap (head_or 0) e in
      let same : y ≡ x.1 = some-injective y x.1 (sym (middle front y ys) ∙ (ap (get_elem? (front ++ y ∷ ys)) (sym at) ∙ f.0)) in
      let more : Fits ((front ++ y ∷ []) ++ ys) xs = subst (λ (l : List A). Fits l xs) (sym (assoc front (y ∷ []) ys)) f.1 in
      let r = fits_from (front ++ y ∷ []) ys xs more (ap tail_of e ∙ ap (λ (n : ℕ). up_from n (length ys)) (sym (longer front y))) in
      λ i. same i ∷ r i

  pub fits_whole : (slots : ℕ) (all : List A) (held : List (ℕ × A)) → length all ≡ slots → Fits all held → map (λ x. x.0) held ≡ up_from 0 slots → all ≡ map (λ x. x.1) held
  fits_whole slots all held long f e = fits_from [] all held f (e ∙ ap (up_from 0) (sym long))

  -- parts out of their places
  pub mapped_values : {B : Type 0} (f : A → B) (l : List (ℕ × A)) → map f (map (λ x. x.1) l) ≡ map (λ x. f x.1) l
  mapped_values f [] = refl
  mapped_values {B} f (x ∷ xs) = ap (λ (k : List B). f x.1 ∷ k) (mapped_values f xs)

  pub values_long : (slots : ℕ) (l : List (ℕ × A)) → places_of l ≡ up_from 0 slots → length (map (λ x. x.1) l) ≡ slots
  values_long slots l e = both l ∙ (ap length e ∙ up_long 0 slots) where
    both : (k : List (ℕ × A)) → length (map (λ x. x.1) k) ≡ length (places_of k)
    both [] = refl
    both (x ∷ xs) = ap suc (both xs)

    up_long : (k n : ℕ) → length (up_from k n) ≡ n
    up_long k zero = refl
    up_long k (suc n) = ap suc (up_long (suc k) n)

pub room_enough : (have more space bound : ℕ) → have ≡ 0 → more ≤ bound → bound ≤ space → have + more ≤ space
room_enough have more space bound z l m = omega arith

module _ {E : Type 0} where
  logged_append : (n : ℕ) (xs ys : List (ℕ × E)) → logged n (xs ++ ys) ≡ logged n xs + logged n ys
  logged_append n [] ys = omega arith
  logged_append n (x ∷ xs) ys = let r = logged_append n xs ys in omega arith

  pub logged_flat : (n : ℕ) (ls : List (List (ℕ × E))) → logged n (flat ls) ≡ total (logged n) ls
  logged_flat n [] = refl
  logged_flat n (l ∷ ls) = let r = logged_flat n ls in let s = logged_append n l (flat ls) in omega arith

  in_append : (h : List E) (xs ys : List (ℕ × E)) → InHistory h xs → InHistory h ys → InHistory h (xs ++ ys)
  in_append h [] ys s t = t
  in_append h (x ∷ xs) ys s t = (s.0, in_append h xs ys s.1 t)

  pub in_flat : (h : List E) (ls : List (List (ℕ × E))) → AllInHistory h ls → InHistory h (flat ls)
  in_flat h [] s = tt
  in_flat h (l ∷ ls) s = in_append h l (flat ls) s.0 (in_flat h ls s.1)

  all_in : (h : List E) (ls : List (List (ℕ × E))) → ((p : ℕ) (l : List (ℕ × E)) → get_elem? ls p ≡ some l → InHistory h l) → AllInHistory h ls
  all_in h [] s = tt
  all_in h (l ∷ ls) s = (s 0 l refl, all_in h ls (λ p m e. s (suc p) m e))

  abbrev numbers : List (ℕ × E) → List ℕ
  numbers xs = map (λ x. x.0) xs

  numbers_long : (xs : List (ℕ × E)) → length (numbers xs) ≡ length xs
  numbers_long [] = refl
  numbers_long (x ∷ xs) = ap suc (numbers_long xs)

  numbers_occur : (n : ℕ) (xs : List (ℕ × E)) → occurs n (numbers xs) ≡ logged n xs
  numbers_occur n [] = refl
  numbers_occur n (x ∷ xs) = ap (λ (m : ℕ). one_if x.0 n + m) (numbers_occur n xs)

  numbers_among : (h : List E) (xs : List (ℕ × E)) → InHistory h xs → Among (length h) (numbers xs)
  numbers_among h [] s = tt
  numbers_among h (x ∷ xs) s = let i = inside h s.0.0 x.1 s.0.2 in let e = s.0.1 in (omega arith, omega arith, numbers_among h xs s.1)

  -- pairs that have each number at most once are no more than the entries
  pub pairs_few : (h : List E) (xs : List (ℕ × E)) → InHistory h xs → ((n : ℕ) → logged n xs ≡ once (length h) n) → length xs ≤ length h
  pairs_few h xs s each =
      let l = few (length h) (numbers xs) (numbers_among h xs s) (λ n. let e = numbers_occur n xs in let f = each n in omega arith) in
      let m = numbers_long xs in omega arith

occurs_append : (n : ℕ) (xs ys : List ℕ) → occurs n (xs ++ ys) ≡ occurs n xs + occurs n ys
occurs_append n [] ys = omega arith
occurs_append n (x ∷ xs) ys = let r = occurs_append n xs ys in omega arith

among_append : (len : ℕ) (xs ys : List ℕ) → Among len xs → Among len ys → Among len (xs ++ ys)
among_append len [] ys s t = t
among_append len (x ∷ xs) ys s t = (s.0, s.1, among_append len xs ys s.2 t)

module _ {M E : Type 0} where
  abbrev made_by : List (Commit M E) → List ℕ
  made_by cs = map (λ c. c.number) cs

  abbrev made_in : List (List (Commit M E)) → List ℕ
  made_in [] = []
  made_in (cs ∷ ls) = made_by cs ++ made_in ls

  by_occurs : (n : ℕ) (cs : List (Commit M E)) → occurs n (made_by cs) ≡ times n cs
  by_occurs n [] = refl
  by_occurs n (c ∷ cs) = ap (λ (m : ℕ). one_if c.number n + m) (by_occurs n cs)

  in_occurs : (n : ℕ) (ls : List (List (Commit M E))) → occurs n (made_in ls) ≡ total (times n) ls
  in_occurs n [] = refl
  in_occurs n (cs ∷ ls) = let a = occurs_append n (made_by cs) (made_in ls) in let b = by_occurs n cs in let c = in_occurs n ls in omega arith

  by_long : (cs : List (Commit M E)) → length (made_by cs) ≡ length cs
  by_long [] = refl
  by_long (c ∷ cs) = ap suc (by_long cs)

  in_long : (ls : List (List (Commit M E))) → length (made_in ls) ≡ total length ls
  in_long [] = refl
  in_long (cs ∷ ls) = let a = length-append (made_by cs) (made_in ls) in let b = by_long cs in let c = in_long ls in omega arith

  module _ (x : Machine M E) (o : List M) (h : List E) where
    by_among : (cs : List (Commit M E)) → AllStand x o h cs → Among (length h) (made_by cs)
    by_among [] s = tt
    by_among (c ∷ cs) s = let w = within x o h c s.0 in let e = s.0.3 in (omega arith, w, by_among cs s.1)

    in_among : (ls : List (List (Commit M E))) → EachStand x o h ls → Among (length h) (made_in ls)
    in_among [] s = tt
    in_among (cs ∷ ls) s = among_append (length h) (made_by cs) (made_in ls) (by_among cs s.0) (in_among ls s.1)

module _ {P T M E : Type 0} (machine : P → Machine M E) (meaning : T → M) (log : T → List (ℕ × E)) (a : About P M) where
  abbrev made_all : View P M E → List ℕ
  made_all v = made_by v.own ++ made_in v.ended

  all_occurs : (n : ℕ) (v : View P M E) → occurs n (made_all v) ≡ counted n v
  all_occurs n v = let a = occurs_append n (made_by v.own) (made_in v.ended) in let b = by_occurs n v.own in let c = in_occurs n v.ended in omega arith

  all_long : (v : View P M E) → length (made_all v) ≡ gathered v
  all_long v = let a = length-append (made_by v.own) (made_in v.ended) in let b = by_long v.own in let c = in_long v.ended in omega arith

  all_among : (slots r : ℕ) (v : View P M E) (s : Sees machine slots a r v) → Among r (made_all v)
  all_among slots r v s = subst (λ (n : ℕ). Among n (made_all v)) s.count (among_append (length s.history) (made_by v.own) (made_in v.ended) (by_among (machine a.rules) a.opening s.history v.own s.suits.2) (in_among (machine a.rules) a.opening s.history v.ended s.suits.3))

  -- there are no more commits than the clock counts
  pub gathered_few : (slots r : ℕ) (v : View P M E) → Sees machine slots a r v → gathered v ≤ r
  gathered_few slots r v s = let l = few r (made_all v) (all_among slots r v s) (λ n. let e = all_occurs n v in let m = s.no_more n in omega arith) in let m = all_long v in omega arith

  -- so their count is exact
  pub made_exact : (slots r made : ℕ) (v : View P M E) → Sees machine slots a r v → made ≡ min (gathered v) 18446744073709551615 → made ≡ gathered v
  made_exact slots r made v s e = let f = gathered_few slots r v s in let small = s.small in omega arith

  -- where there are as many, each number is there once
  pub counted_once : (slots r : ℕ) (v : View P M E) → Sees machine slots a r v → gathered v ≡ r → (n : ℕ) → counted n v ≡ once r n
  counted_once slots r v s e n = sym (all_occurs n v) ∙ all_there r (made_all v) (all_among slots r v s) (λ k. let o = all_occurs k v in let m = s.no_more k in omega arith) (all_long v ∙ e) n

  module _ (slots r : ℕ) (v : View P M E) (held : List (ℕ × T)) (tied : v.marks ≡ marks_of meaning log held) (whole : places_of held ≡ up_from 0 slots) (s : Sees machine slots a r v) where
    meant_places : {B : Type 0} (f : T → B) (l : List (ℕ × T)) → map (λ x. x.0) (meant f l) ≡ places_of l
    meant_places f [] = refl
    meant_places f (x ∷ xs) = ap (λ (k : List ℕ). x.0 ∷ k) (meant_places f xs)

    meant_values : {B : Type 0} (f : T → B) (l : List (ℕ × T)) → map (λ x. x.1) (meant f l) ≡ map (λ x. f x.1) l
    meant_values f [] = refl
    meant_values {B} f (x ∷ xs) = ap (λ (k : List B). f x.1 ∷ k) (meant_values f xs)

    parts_now : leads (machine a.rules) a.opening s.history ≡ map (λ x. meaning x.1) held
    parts_now = let now : List M = leads (machine a.rules) a.opening s.history in
        fits_whole slots now (meant meaning held) s.long (subst (Fits now) (ap known tied ∙ known_of meaning log held) s.gives) (meant_places meaning held ∙ whole) ∙ meant_values meaning held

    logs_now : s.logged_once.0 ≡ map (λ x. log x.1) held
    logs_now = fits_whole slots s.logged_once.0 (meant log held) s.logged_once.1 (subst (Fits s.logged_once.0) (ap logs_of tied ∙ logs_of_marks meaning log held) s.logged_once.2) (meant_places log held ∙ whole) ∙ meant_values log held

    pub held_in : AllInHistory s.history (map (λ x. log x.1) held)
    held_in = subst (AllInHistory s.history) logs_now (all_in s.history s.logged_once.0 s.logged_once.3)

    pub held_once : (n : ℕ) → total (logged n) (map (λ x. log x.1) held) ≡ once (length s.history) n
    held_once n = ap (total (logged n)) (sym logs_now) ∙ s.logged_once.4 n

    -- all pairs of the logs
    pub pairs_in : InHistory s.history (flat (map (λ x. log x.1) held))
    pairs_in = in_flat s.history (map (λ x. log x.1) held) held_in

    pub pairs_once : (n : ℕ) → logged n (flat (map (λ x. log x.1) held)) ≡ once (length s.history) n
    pairs_once n = logged_flat n (map (λ x. log x.1) held) ∙ held_once n

    pub pairs_room : length (flat (map (λ x. log x.1) held)) ≤ r
    pairs_room = let l = pairs_few s.history (flat (map (λ x. log x.1) held)) pairs_in pairs_once in let c = s.count in omega arith

    pub closes : (parts : List T) → gathered v ≡ r → map meaning parts ≡ map (λ x. meaning x.1) held → Closes machine meaning log a v held parts s.history
    closes parts e same = record {
      suits = s.suits;
      each_once = λ n. counted_once slots r v s e n ∙ ap (λ (k : ℕ). once k n) (sym s.count);
      rises = s.rises;
      parts_after = same ∙ sym parts_now;
      parts_held = same;
      in_logs = held_in;
      in_one_log = held_once;
    }
