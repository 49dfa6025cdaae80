-- Pairs that are taken out of logs, part by part.
use Rattle.std.proofs.Common.{◌≡◌, ℕ, ◌+◌, ◌<◌, ◌≤◌, List, [], ◌∷◌, ◌++◌, map, length, length-append, sym, refl, ap, ◌∙◌, arith}
use Rattle.be_facts.proofs.Lists.{append_none}
use Rattle.be_hall.specs.Logs.{flat}
use Rattle.be_hall.proofs.Growth.{assoc}

module _ {A : Type 0} where
  flat_append : (xs ys : List (List A)) → flat (xs ++ ys) ≡ flat xs ++ flat ys
  flat_append [] ys = refl
  flat_append (x ∷ xs) ys = ap (λ (l : List A). x ++ l) (flat_append xs ys) ∙ sym (assoc x (flat xs) (flat ys))

  pub one_more : (many room room' many' : ℕ) (old now log rest log' : List A) (x : A) → many ≡ length now → many' ≡ length old → now ++ log' ≡ old ++ log → log' ≡ x ∷ rest → room ≡ room' → many' + length log ≤ room' → many < room
  one_more many room room' many' old now log rest log' x a b e is same fits =
      let l = ap length e in let m = length-append now log' in let n = length-append old log in let k : length log' ≡ length (x ∷ rest) = ap length is in omega arith

module _ {A B : Type 0} (f : A → B) where
  pub mapped_append : (xs ys : List A) → map f (xs ++ ys) ≡ map f xs ++ map f ys
  mapped_append [] ys = refl
  mapped_append (x ∷ xs) ys = ap (λ (l : List B). f x ∷ l) (mapped_append xs ys)

  pub mapped_long : (xs : List A) → length (map f xs) ≡ length xs
  mapped_long [] = refl
  mapped_long (x ∷ xs) = let r = mapped_long xs in omega arith

  pub mapped_next : (now init seen : List A) (x y : A) → map f now ≡ map f init ++ map f seen → f y ≡ f x → map f (now ++ y ∷ []) ≡ map f init ++ map f (seen ++ x ∷ [])
  mapped_next now init seen x y e is = mapped_append now (y ∷ []) ∙ ((λ i. e i ++ is i ∷ []) ∙ (assoc (map f init) (map f seen) (f x ∷ []) ∙ ap (λ (l : List B). map f init ++ l) (sym (mapped_append seen (x ∷ [])))))

  -- there is room for one part more
  pub part_fits : (many room room' many' all : ℕ) (now init seen rest old left : List A) (x : A) → many ≡ length now → many' ≡ length init → all ≡ length old → map f now ≡ map f init ++ map f seen → seen ++ left ≡ old → left ≡ x ∷ rest → room ≡ room' → many' + all ≤ room' → many < room
  part_fits many room room' many' all now init seen rest old left x a b c e is l same fits =
      let p = ap length e in let q = length-append (map f init) (map f seen) in let r = mapped_long now in let s = mapped_long init in let t = mapped_long seen in
      let u = ap length is in let w = length-append seen left in let y : length left ≡ length (x ∷ rest) = ap length l in omega arith

module _ {A B : Type 0} (log : A → List B) where
  pub flat_next : (now init : List B) (seen : List A) (x : A) → now ≡ init ++ flat (map log seen) → now ++ log x ≡ init ++ flat (map log (seen ++ x ∷ []))
  flat_next now init seen x e = ap (λ (l : List B). l ++ log x) e ∙ (assoc init (flat (map log seen)) (log x)
      ∙ ap (λ (l : List B). init ++ l) (ap (λ (l : List B). flat (map log seen) ++ l) (sym (append_none (log x))) ∙ (sym (flat_append (map log seen) (log x ∷ [])) ∙ ap flat (sym (mapped_append log seen (x ∷ []))))))

  -- there is room for the log of one part more
  pub log_fits : (many room room' many' : ℕ) (now init : List B) (seen rest old left : List A) (x : A) → many ≡ length now → many' ≡ length init → now ≡ init ++ flat (map log seen) → seen ++ left ≡ old → left ≡ x ∷ rest → room ≡ room' → many' + length (flat (map log old)) ≤ room' → many + length (log x) ≤ room
  log_fits many room room' many' now init seen rest old left x a b e is l same fits =
      let p = ap length e in let q = length-append init (flat (map log seen)) in
      let whole : flat (map log old) ≡ flat (map log seen) ++ (log x ++ flat (map log rest)) = ap (λ (k : List A). flat (map log k)) (sym is ∙ ap (λ (k : List A). seen ++ k) l) ∙ (ap flat (mapped_append log seen (x ∷ rest)) ∙ flat_append (map log seen) (map log (x ∷ rest))) in
      let r = ap length whole in let s = length-append (flat (map log seen)) (log x ++ flat (map log rest)) in let t = length-append (log x) (flat (map log rest)) in omega arith

pub next_seen : {A : Type 0} (seen left rest old : List A) (x : A) → seen ++ left ≡ old → left ≡ x ∷ rest → (seen ++ x ∷ []) ++ rest ≡ old
next_seen seen left rest old x e is = assoc seen (x ∷ []) rest ∙ (ap (λ (k : List _). seen ++ k) (sym is) ∙ e)
