-- What stays and what comes where the history grows by one entry.
use Rattle.std.proofs.Common.{◌≡◌, ℕ, zero, suc, ◌+◌, ◌<◌, ◌≤◌, inl, inr, List, [], ◌∷◌, ◌++◌, map, length, length-append, set, sym, refl, ap, ◌∙◌, subst, ⊎_elim, arith, eq-eqb, ne_eqb, if◌then◌else◌}
use mathlib.Core.Option.{some, some-injective, some-ne-none}
use mathlib.Core.Logic.{dite}
use native.Mathlib.Decide.{ℕ_discrete}
use lib.ListN.{get_elem?}
use Rattle.atomic_table.proofs.Lists.{at_longer, at_last, set_here, set_else}
use Rattle.be_hall.specs.declared.view.Mark.{Mark}
use Rattle.be_hall.specs.declared.view.Commit.{Commit}
use Rattle.be_hall.specs.Numbers.{total, one_if}
use Rattle.be_hall.specs.Machine.{Machine, Fits, IsHeld, leads, Legal}
use Rattle.be_hall.specs.Views.{mark, commit, Has, HasPlace, known, logs_of, times}
use Rattle.be_hall.specs.Logs.{appended, logged, InHistory}
use Rattle.be_hall.specs.History.{Stands, AllStand, EachStand, RisesOver, EachRises}

module _ {A : Type 0} where
  pub there : (l : List A) (p : ℕ) → p < length l → (a : A) × (get_elem? l p ≡ some a)
  there [] p h = absurd (omega arith)
  there (x ∷ xs) zero h = (x, refl)
  there (x ∷ xs) (suc p) h = there xs p (omega arith)

  pub inside : (l : List A) (p : ℕ) (a : A) → get_elem? l p ≡ some a → p < length l
  inside [] p a e = absurd (some-ne-none a (sym e))
  inside (x ∷ xs) zero a e = omega arith
  inside (x ∷ xs) (suc p) a e = let h = inside xs p a e in omega arith

  pub total_set : (f : A → ℕ) (l : List A) (i : ℕ) (v w : A) → get_elem? l i ≡ some v → total f (set l i w) + f v ≡ total f l + f w
  total_set f [] i v w e = absurd (some-ne-none v (sym e))
  total_set f (x ∷ xs) zero v w e = let is : f x ≡ f v = ap f (some-injective x v e) in omega arith
  total_set f (x ∷ xs) (suc i) v w e = let r = total_set f xs i v w e in omega arith

  pub assoc : (xs ys zs : List A) → (xs ++ ys) ++ zs ≡ xs ++ (ys ++ zs)
  assoc [] ys zs = refl
  assoc (x ∷ xs) ys zs = ap (λ (l : List A). x ∷ l) (assoc xs ys zs)

  pub longer : (h : List A) (e : A) → length (h ++ e ∷ []) ≡ suc (length h)
  longer [] e = refl
  longer (x ∷ xs) e = ap suc (longer xs e)

module _ {M E : Type 0} (x : Machine M E) where
  pub leads_snoc : (o : List M) (h : List E) (e : E) → leads x o (h ++ e ∷ []) ≡ x.after (leads x o h) e
  leads_snoc o [] e = refl
  leads_snoc o (d ∷ ds) e = leads_snoc (x.after o d) ds e

  pub legal_snoc : (o : List M) (h : List E) (e : E) → Legal x o h → x.permits (leads x o h) e → Legal x o (h ++ e ∷ [])
  legal_snoc o [] e l p = (p, tt)
  legal_snoc o (d ∷ ds) e l p = (l.0, legal_snoc (x.after o d) ds e l.1 p)

  pub stands_longer : (o : List M) (h : List E) (e : E) (c : Commit M E) → Stands x o h c → Stands x o (h ++ e ∷ []) c
  stands_longer o h e c s = (s.0, s.1 ++ e ∷ [], ap (λ (l : List E). l ++ e ∷ []) s.2 ∙ assoc s.0 (c.entry ∷ s.1) (e ∷ []), s.3, s.4)

  pub all_longer : (o : List M) (h : List E) (e : E) (cs : List (Commit M E)) → AllStand x o h cs → AllStand x o (h ++ e ∷ []) cs
  all_longer o h e [] s = tt
  all_longer o h e (c ∷ cs) s = (stands_longer o h e c s.0, all_longer o h e cs s.1)

  pub each_longer : (o : List M) (h : List E) (e : E) (ls : List (List (Commit M E))) → EachStand x o h ls → EachStand x o (h ++ e ∷ []) ls
  each_longer o h e [] s = tt
  each_longer o h e (cs ∷ ls) s = (all_longer o h e cs s.0, each_longer o h e ls s.1)

  pub each_append : (o : List M) (h : List E) (ls : List (List (Commit M E))) (cs : List (Commit M E)) (ms : List (List (Commit M E))) → EachStand x o h ls → AllStand x o h cs → EachStand x o h ms → EachStand x o h (ls ++ cs ∷ ms)
  each_append o h [] cs ms s t u = (t, u)
  each_append o h (l ∷ ls) cs ms s t u = (s.0, each_append o h ls cs ms s.1 t u)

  pub all_snoc : (o : List M) (h : List E) (e : E) (b : List (ℕ × M)) (cs : List (Commit M E)) → Fits (leads x o h) b → AllStand x o h cs → AllStand x o (h ++ e ∷ []) (cs ++ commit (length h + 1) e b ∷ [])
  all_snoc o h e b [] f s = ((h, [], refl, refl, f), tt)
  all_snoc o h e b (c ∷ cs) f s = (stands_longer o h e c s.0, all_snoc o h e b cs f s.1)

  -- a commit's number is at most the length of the history
  pub within : (o : List M) (h : List E) (c : Commit M E) → Stands x o h c → c.number ≤ length h
  within o h c s = let n = s.3 in let e : length h ≡ length s.0 + suc (length s.1) = ap length s.2 ∙ length-append s.0 (c.entry ∷ s.1) in omega arith

  pub rises_snoc : (o : List M) (h : List E) (low : ℕ) (cs : List (Commit M E)) (c : Commit M E) → low ≤ length h → AllStand x o h cs → RisesOver low cs → length h < c.number → RisesOver low (cs ++ c ∷ [])
  rises_snoc o h low [] c l s r n = (omega arith, tt)
  rises_snoc o h low (d ∷ ds) c l s r n = (r.0, rises_snoc o h d.number ds c (within o h d s.0) s.1 r.1 n)

module _ {M E : Type 0} where
  pub rises_append : (ls : List (List (Commit M E))) (cs : List (Commit M E)) (ms : List (List (Commit M E))) → EachRises ls → RisesOver 0 cs → EachRises ms → EachRises (ls ++ cs ∷ ms)
  rises_append [] cs ms s t u = (t, u)
  rises_append (l ∷ ls) cs ms s t u = (s.0, rises_append ls cs ms s.1 t u)

module _ {E : Type 0} where
  pub logged_snoc : (n : ℕ) (l : List (ℕ × E)) (y : ℕ × E) → logged n (l ++ y ∷ []) ≡ logged n l + one_if y.0 n
  logged_snoc n [] y = omega arith
  logged_snoc n (z ∷ zs) y = let r = logged_snoc n zs y in omega arith

  pub in_longer : (h : List E) (e : E) (l : List (ℕ × E)) → InHistory h l → InHistory (h ++ e ∷ []) l
  in_longer h e [] s = tt
  in_longer h e (y ∷ ys) s = ((s.0.0, s.0.1, at_longer h (e ∷ []) s.0.0 y.1 s.0.2), in_longer h e ys s.1)

  pub in_snoc : (h : List E) (e : E) (l : List (ℕ × E)) → InHistory h l → InHistory (h ++ e ∷ []) (l ++ (length h + 1, e) ∷ [])
  in_snoc h e [] s = ((length h, refl, at_last h e (length h) refl), tt)
  in_snoc h e (y ∷ ys) s = ((s.0.0, s.0.1, at_longer h (e ∷ []) s.0.0 y.1 s.0.2), in_snoc h e ys s.1)

module _ {M E : Type 0} where
  pub times_snoc : (n : ℕ) (cs : List (Commit M E)) (c : Commit M E) → times n (cs ++ c ∷ []) ≡ times n cs + one_if c.number n
  times_snoc n [] c = omega arith
  times_snoc n (d ∷ ds) c = let r = times_snoc n ds c in omega arith

  pub fits_known : (now : List M) (ys : List (Mark M E)) → ((y : Mark M E) → Has ys y → get_elem? now y.place ≡ some y.meaning) → Fits now (known ys)
  fits_known now [] f = tt
  fits_known now (y ∷ ys) f = (f y (inl refl), fits_known now ys (λ z h. f z (inr h)))

  pub held_place : (ys : List (Mark M E)) (p : ℕ) → IsHeld (known ys) p → HasPlace ys p
  held_place [] p h = absurd h
  held_place (y ∷ ys) p h = ⊎_elim (λ t. (y, inl refl, t)) (λ t. let r = held_place ys p t in (r.0, inr r.1, r.2)) h

  -- the marks of the same places, with what is there now
  pub renew : (now : List M) (logs : List (List (ℕ × E))) (ys : List (Mark M E)) → ((y : Mark M E) → Has ys y → (y.place < length now) × (y.place < length logs))
      → (zs : List (Mark M E)) × (map (λ y. y.place) zs ≡ map (λ y. y.place) ys) × ((z : Mark M E) → Has zs z → HasPlace ys z.place × (get_elem? now z.place ≡ some z.meaning) × (get_elem? logs z.place ≡ some z.log))
  renew now logs [] f = ([], refl, λ z h. absurd h)
  renew now logs (y ∷ ys) f = let i = f y (inl refl) in let m = there now y.place i.0 in let l = there logs y.place i.1 in let r = renew now logs ys (λ z h. f z (inr h)) in let w : Mark M E = mark y.place m.0 l.0 in (
    w ∷ r.0,
    ap (λ (k : List ℕ). y.place ∷ k) r.1,
    λ z h. ⊎_elim
        (λ (t : w ≡ z). subst (λ (u : Mark M E). HasPlace (y ∷ ys) u.place × (get_elem? now u.place ≡ some u.meaning) × (get_elem? logs u.place ≡ some u.log)) t ((y, inl refl, refl), m.1, l.1))
        (λ t. let s = r.2 z t in ((s.0.0, inr s.0.1, s.0.2), s.1, s.2))
        h,
  )

abbrev pub tail_of : {A : Type 0} → List A → List A
tail_of [] = []
tail_of (x ∷ xs) = xs

abbrev pub head_or : ℕ → List ℕ → ℕ
head_or d [] = d
head_or d (x ∷ xs) = x

module _ {M : Type 0} where
  abbrev firsts : List (ℕ × M) → List ℕ
  firsts xs = map (λ x. x.0) xs

  -- a list says at most one thing of each place
  pub fits_once : (all : List M) (xs ys : List (ℕ × M)) → Fits all xs → Fits all ys → firsts xs ≡ firsts ys → xs ≡ ys
  fits_once all [] [] f g e = refl
  fits_once all [] (y ∷ ys) f g e = let n : 0 ≡ suc (length (firsts ys)) = ap length e in absurd (omega arith)
  fits_once all (x ∷ xs) [] f g e = let n : suc (length (firsts xs)) ≡ 0 = ap length e in absurd (omega arith)
  fits_once all (x ∷ xs) (y ∷ ys) f g e =
      let p : x.0 ≡ y.0 = ap (head_or 0) e in
      let m : x.1 ≡ y.1 = some-injective x.1 y.1 (sym f.0 ∙ (ap (get_elem? all) p ∙ g.0)) in
      let r : xs ≡ ys = fits_once all xs ys f.1 g.1 (ap tail_of e) in
      λ i. (p i, m i) ∷ r i

module _ {E : Type 0} where
  pub appended_places : (k : ℕ) (y : ℕ × E) (xs : List (ℕ × List (ℕ × E))) → map (λ x. x.0) (appended k y xs) ≡ map (λ x. x.0) xs
  appended_places k y [] = refl
  appended_places k y (x ∷ xs) = ap (λ (l : List ℕ). x.0 ∷ l) (appended_places k y xs)

  pub appended_fits : (logs : List (List (ℕ × E))) (k : ℕ) (old : List (ℕ × E)) (y : ℕ × E) (xs : List (ℕ × List (ℕ × E))) → get_elem? logs k ≡ some old → Fits logs xs → Fits (set logs k (old ++ y ∷ [])) (appended k y xs)
  appended_fits logs k old y [] at f = tt
  appended_fits logs k old y (x ∷ xs) at f = (
    dite (ℕ_discrete x.0 k)
        (λ is. let same : x.1 ≡ old = some-injective x.1 old (sym f.0 ∙ (ap (get_elem? logs) is ∙ at)) in
        subst (λ b. get_elem? (set logs k (old ++ y ∷ [])) x.0 ≡ some (if b then x.1 ++ y ∷ [] else x.1)) (sym (eq-eqb x.0 k is))
        (ap (get_elem? (set logs k (old ++ y ∷ []))) is ∙ (set_here logs k (old ++ y ∷ []) (inside logs k old at) ∙ ap (λ (l : List (ℕ × E)). some (l ++ y ∷ [])) (sym same))))
        (λ other. subst (λ b. get_elem? (set logs k (old ++ y ∷ [])) x.0 ≡ some (if b then x.1 ++ y ∷ [] else x.1)) (sym (ne_eqb x.0 k other)) (set_else logs k x.0 (old ++ y ∷ []) other ∙ f.0)),
    appended_fits logs k old y xs at f.1,
  )

module _ {M E : Type 0} where
  pub fits_logs : (logs : List (List (ℕ × E))) (ys : List (Mark M E)) → ((y : Mark M E) → Has ys y → get_elem? logs y.place ≡ some y.log) → Fits logs (logs_of ys)
  fits_logs logs [] f = tt
  fits_logs logs (y ∷ ys) f = (f y (inl refl), fits_logs logs ys (λ z h. f z (inr h)))

  pub log_places : (ys : List (Mark M E)) → map (λ x. x.0) (logs_of ys) ≡ map (λ y. y.place) ys
  log_places [] = refl
  log_places (y ∷ ys) = ap (λ (l : List ℕ). y.place ∷ l) (log_places ys)

  pub known_places : (ys : List (Mark M E)) → map (λ x. x.0) (known ys) ≡ map (λ y. y.place) ys
  known_places [] = refl
  known_places (y ∷ ys) = ap (λ (l : List ℕ). y.place ∷ l) (known_places ys)
