-- The history that closes is finished.
use Rattle.std.proofs.Common.{◌≡◌, ℕ, ◌⊎◌, inl, inr, ⊎_elim, Bool, true, List, [], ◌∷◌, ◌++◌, map}
use Rattle.std.proofs.Common.{Any, Option, refl, ap, ◌∙◌, subst}
use Rattle.be_hall.specs.declared.view.Commit.{Commit}
use Rattle.be_hall.specs.declared.view.About.{About}
use Rattle.be_hall.specs.declared.view.View.{View}
use Rattle.be_hall.specs.Machine.{Machine, Lawful, Legal, leads}
use Rattle.be_hall.specs.History.{AllStand, EachStand}
use Rattle.be_hall.specs.Closing.{Closes}
use Rattle.be_turns.specs.Turning.{Turning, IsFinished}
use Rattle.be_workers.specs.Turned.{HasStop}
use Rattle.be_workers.proofs.Some.{any_none, any_split, any_here, any_front, any_back}

module _ {M E : Type 0} (stops : E → Bool) where
  -- a list of commits more, of which one stops, or one of those that there were
  pub joined_stop : (ls ks : List (List (Commit M E))) (cs : List (Commit M E))
      → Any (HasStop stops) ls ⊎ HasStop stops cs → Any (HasStop stops) (ls ++ cs ∷ ks)
  joined_stop ls ks cs s =
      ⊎_elim (λ old. any_front (HasStop stops) ls (cs ∷ ks) old)
      (λ new. any_back (HasStop stops) ls (cs ∷ ks) (any_here (HasStop stops) cs ks new)) s

  -- the commits of one more, which has one that stops where it is closed
  pub joins_one : {X : Type 0} (closed : X → Type 0) (ended more : List (List (Commit M E)))
      (own : List (Commit M E)) (y : X) (ys xs : List X)
      → xs ≡ y ∷ ys → (closed y → HasStop stops own) → Any (HasStop stops) ended ⊎ Any closed xs
      → Any (HasStop stops) (ended ++ own ∷ more) ⊎ Any closed ys
  joins_one closed ended more own y ys xs is stop some =
      ⊎_elim (λ old. inl (joined_stop ended more own (inl old)))
      (λ one. ⊎_elim (λ here. inl (joined_stop ended more own (inr (stop here))))
      (λ there. inr there) (any_split closed y ys (subst (Any closed) is one))) some

  module _ (x : Machine M E) (o : List M) (h : List E) where
    abbrev Stopped : Type 0
    Stopped = (front : List E) × (back : List E) × (e : E) × (h ≡ front ++ e ∷ back)
        × (stops e ≡ true)

    in_stands : (cs : List (Commit M E)) → HasStop stops cs → AllStand x o h cs → Stopped
    in_stands [] s a = absurd (any_none (λ (c : Commit M E). stops c.entry ≡ true) s)
    in_stands (c ∷ cs) s a =
        ⊎_elim (λ here. (a.0.0, a.0.1, c.entry, a.0.2, here)) (λ there. in_stands cs there a.1)
        (any_split (λ (c : Commit M E). stops c.entry ≡ true) c cs s)

    pub each_stands : (ls : List (List (Commit M E))) → Any (HasStop stops) ls → EachStand x o h ls
        → Stopped
    each_stands [] s a = absurd (any_none (HasStop stops) s)
    each_stands (cs ∷ ls) s a =
        ⊎_elim (λ here. in_stands cs here a.0) (λ there. each_stands ls there a.1)
        (any_split (HasStop stops) cs ls s)

  module _ (x : Machine M E) (many : ℕ) (legal : List M → ℕ → Option E) (lawful : Lawful x)
      (turning : Turning x legal stops many) where
    last : (o : List M) (front back : List E) (s : E) → x.sound o → Legal x o (front ++ s ∷ back)
        → stops s ≡ true → back ≡ []
    last o [] [] s sound l h = refl
    last o [] (e ∷ es) s sound l h = absurd (turning.none_follows o s e sound l.0 h l.1.0)
    last o (f ∷ fs) back s sound l h =
        last (x.after o f) fs back s (lawful.stays_sound o f sound l.0) l.1 h

    pub ended : (o : List M) (h : List E) (parts : List M) → x.sound o → Legal x o h → Stopped x o h
        → parts ≡ leads x o h → IsFinished x stops o h parts
    ended o h parts sound l s p =
        let none = last o s.0 s.1 s.2 sound (subst (Legal x o) s.3 l) s.4 in
        let ends : (front : List E) × (e : E) × (h ≡ front ++ e ∷ []) × (stops e ≡ true) =
        (s.0, s.2, s.3 ∙ ap (λ b. s.0 ++ s.2 ∷ b) none, s.4) in
        record { legal = l; ends = ends; leads_to = p }

pub finished : {P T M E : Type 0} (machine : P → Machine M E) (meaning : T → M)
    (log : T → List (ℕ × E)) (stops : E → Bool) (many : ℕ) (legal : List M → ℕ → Option E)
    (a : About P M) (v : View P M E) (held : List (ℕ × T)) (parts : List T) (history : List E)
    → Closes machine meaning log a v held parts history → Lawful (machine a.rules)
    → Turning (machine a.rules) legal stops many → (machine a.rules).sound a.opening
    → Any (HasStop stops) v.ended
    → IsFinished (machine a.rules) stops a.opening history (map meaning parts)
finished machine meaning log stops many legal a v held parts history c lawful turning sound s =
    ended stops (machine a.rules) many legal lawful turning a.opening history
    (map meaning parts) sound c.suits.0
    (each_stands stops (machine a.rules) a.opening history v.ended s c.suits.3) c.parts_after
