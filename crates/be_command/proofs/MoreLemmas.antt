-- The rectangles of a clip, which are read one behind the other.
use Rattle.std.proofs.Common.{◌≡◌, ℕ, suc, Bool, true, false, cond, refl, List, [], ◌∷◌, ◌++◌, append_assoc, Option, Some, None, is_some, OnOk, Result, Ok, Err, ap, ◌∙◌, sym, subst}
use Rattle.std.specs.Option.{option_map}
use Rattle.std.specs.Result.{result_err}
use Rattle.be_geom.specs.declared.rect.Rect.{Rect}
use Rattle.be_command.specs.declared.fault.Fault.{Fault}
use Rattle.be_command.specs.Faults.{first_fault, both, said_as}
use Rattle.be_command.specs.Places.{At, word_at, after_word}
use Rattle.be_command.specs.Kinds.{rect_at, after_rect, rects_at, after_rects, is_none_word, clip_at, after_clip}
use Rattle.be_command.specs.Progress.{Progress, Takes, TakesMore}
use Rattle.be_command.proofs.FaultLemmas.{first_fault-assoc, err-both, err-said_as, ok-both, ok-said_as}
use Rattle.be_command.proofs.TakesLemmas.{none_later}

abbrev more : {A : Type 0} → A × List A → List A
more x = x.0 ∷ x.1

-- one, and those behind it
more_cons : {A : Type 0} (p q r : Progress) (s : Result A Fault) (l : At) (t : At → Result (List A) Fault) (m : At → At) (v : A) (before after : List A) →
    Takes s l p q v → TakesMore (t q.at) (m q.at) q r (before ++ v ∷ []) after → TakesMore (said_as more (both s (t l))) (m l) p r before after
more_cons {A} p q r s l t m v before after first rest = record {
  at = rest.at ∙ ap m first.at;
  fault =
      rest.fault
      ∙ ap (λ (f : Option Fault). first_fault f (result_err (t q.at))) first.fault
      ∙ first_fault-assoc p.fault (result_err s) (result_err (t q.at))
      ∙ ap (λ (g : At). first_fault p.fault (first_fault (result_err s) (result_err (t g)))) first.at
      ∙ ap (first_fault p.fault) (sym (err-both s (t l)))
      ∙ ap (first_fault p.fault) (sym (err-said_as more (both s (t l))));
  value_is = λ (xs : List A) (e : said_as more (both s (t l)) ≡ Ok xs).
      let x = ok-said_as more (both s (t l)) xs e in
      let parts = ok-both s (t l) x.0 x.1.0 in
      let v_is : v ≡ x.0.0 = first.value_is x.0.0 parts.0 in
      let all : after ≡ (before ++ v ∷ []) ++ x.0.1 = rest.value_is x.0.1 (ap t first.at ∙ parts.1) in
      all ∙ append_assoc before (v ∷ []) x.0.1 ∙ ap (λ (y : A). before ++ (y ∷ x.0.1)) v_is ∙ ap (λ (ys : List A). before ++ ys) x.1.1;
}

nothing_behind : (xs : List Rect) → xs ≡ xs ++ []
nothing_behind [] = refl
nothing_behind (x ∷ xs) = ap (λ (ys : List Rect). x ∷ ys) (nothing_behind xs)

none_more : (p : Progress) (before : List Rect) → TakesMore {A = Rect} (Ok []) p.at p p before before
none_more p before = record {
  at = refl;
  fault = none_later p.fault;
  value_is = λ (xs : List Rect) (e : Ok [] ≡ Ok xs). let h : [] ≡ xs = (cc) in nothing_behind before ∙ ap (λ (ys : List Rect). before ++ ys) h;
}

abbrev rest_at : ℕ → At → Result (List Rect) Fault
rest_at less at = cond (is_some (word_at at)) (rects_at less at) (Ok [])

abbrev after_rest : ℕ → At → At
after_rest less at = cond (is_some (word_at at)) (after_rects less at) at

rest_none : (b : Bool) (less : ℕ) (q : Progress) (before : List Rect) → b ≡ false → TakesMore (cond b (rects_at less q.at) (Ok [])) (cond b (after_rects less q.at) q.at) q q before before
rest_none true less q before e = (cc)
rest_none false less q before e = none_more q before

rest_some : (b : Bool) (less : ℕ) (q r : Progress) (before after : List Rect) → b ≡ true → TakesMore (rects_at less q.at) (after_rects less q.at) q r before after → TakesMore (cond b (rects_at less q.at) (Ok [])) (cond b (after_rects less q.at) q.at) q r before after
rest_some true less q r before after e t = t
rest_some false less q r before after e t = (cc)

-- the last rectangle
pub more_last : (most less : ℕ) (p q : Progress) (v : Rect) (before : List Rect) → most ≡ suc less → Takes (rect_at p.at) (after_rect p.at) p q v → is_some (word_at q.at) ≡ false →
    TakesMore (rects_at most p.at) (after_rects most p.at) p q before (before ++ v ∷ [])
more_last most less p q v before e first none =
    subst (λ (n : ℕ). TakesMore (rects_at n p.at) (after_rects n p.at) p q before (before ++ v ∷ [])) (sym e)
    (more_cons p q q (rect_at p.at) (after_rect p.at) (rest_at less) (after_rest less) v before (before ++ v ∷ []) first (rest_none _ less q (before ++ v ∷ []) none))

-- a rectangle, and more behind it
pub more_rest : (most less : ℕ) (p q r : Progress) (v : Rect) (before after : List Rect) → most ≡ suc less → Takes (rect_at p.at) (after_rect p.at) p q v → is_some (word_at q.at) ≡ true →
    TakesMore (rects_at less q.at) (after_rects less q.at) q r (before ++ v ∷ []) after → TakesMore (rects_at most p.at) (after_rects most p.at) p r before after
more_rest most less p q r v before after e first some rest =
    subst (λ (n : ℕ). TakesMore (rects_at n p.at) (after_rects n p.at) p r before after) (sym e)
    (more_cons p q r (rect_at p.at) (after_rect p.at) (rest_at less) (after_rest less) v before after first (rest_some _ less q r (before ++ v ∷ []) after some rest))

-- ---- the clip itself

-- rectangles
pub clip_rects : (p q : Progress) (rects : List Rect) → is_none_word (word_at p.at) ≡ false → TakesMore (rects_at 16 p.at) (after_rects 16 p.at) p q [] rects → Takes (clip_at p.at) (after_clip p.at) p q (Some rects)
clip_rects p q rects e t = by (is_none_word (word_at p.at)) e
  where
    by : (b : Bool) → b ≡ false → Takes {A = Option (List Rect)} (cond b (Ok None) (said_as Some (rects_at 16 p.at))) (cond b (after_word p.at) (after_rects 16 p.at)) p q (Some rects)
    by true e = (cc)
    by false e = record {
      at = t.at;
      fault = t.fault ∙ ap (first_fault p.fault) (sym (err-said_as Some (rects_at 16 p.at)));
      value_is = λ (y : Option (List Rect)) (e : said_as Some (rects_at 16 p.at) ≡ Ok y). let x = ok-said_as Some (rects_at 16 p.at) y e in ap Some (t.value_is x.0 x.1.0) ∙ x.1.1;
    }

-- whether a word is left
pub is_left : {X : Type 0} (f : X → List ℕ) (o : Option X) (w : Option (List ℕ)) → option_map f o ≡ w → is_some w ≡ is_some o
is_left f None w e = ap is_some (sym e)
is_left f (Some x) w e = ap is_some (sym e)

-- a rectangle, and where the rest was read more behind it
pub more_ok : {E : Type 0} (result : Result (Unit {0}) E) (most less : ℕ) (p q r : Progress) (v : Rect) (before next after : List Rect) → most ≡ suc less → Takes (rect_at p.at) (after_rect p.at) p q v → is_some (word_at q.at) ≡ true →
    next ≡ before ++ v ∷ [] → OnOk result (TakesMore (rects_at less q.at) (after_rects less q.at) q r next after) → OnOk result (TakesMore (rects_at most p.at) (after_rects most p.at) p r before after)
more_ok (Ok u) most less p q r v before next after e first some n rest =
    more_rest most less p q r v before after e first some (subst (λ (xs : List Rect). TakesMore (rects_at less q.at) (after_rects less q.at) q r xs after) n rest)
more_ok (Err f) most less p q r v before next after e first some n rest = rest
