-- What a turn makes of the commits.
use Rattle.std.proofs.Common.{◌≡◌, ℕ, ◌+◌, ◌==◌, Bool, true, false, List, [], ◌∷◌, ◌++◌, Option}
use Rattle.std.proofs.Common.{refl, sym, ap, ◌∙◌, subst, arith}
use Rattle.std.proofs.lemmas.Bool.Decides.{nat_tests}
use Rattle.std.proofs.lemmas.List.Quantifiers.{Any-push}
use Rattle.be_hall.specs.declared.view.Commit.{Commit}
use Rattle.be_hall.specs.declared.view.View.{View}
use Rattle.be_hall.specs.declared.parts.Verdict.{Verdict}
use Rattle.be_hall.specs.declared.parts.Verdict.TheVariants as verdict
use Rattle.be_hall.specs.Machine.{Machine, SomeFits}
use Rattle.be_hall.specs.Answers.{Answers}
use Rattle.be_hall.specs.Views.{commit}
use Rattle.be_turns.specs.declared.turns.Turn.{Turn}
use Rattle.be_turns.specs.declared.turns.Turn.TheVariants as turn
use Rattle.be_turns.specs.Turning.{Tells, Turning}
use Rattle.be_workers.specs.declared.turn.Did.{Did}
use Rattle.be_workers.specs.declared.turn.Did.TheVariants as did
use Rattle.be_workers.specs.Turned.{CommitsBy, HasStop, IsLegalOf, OneMore, SameCommits, made_by}

-- the entry that was prepared is the one that was asked for
pub prepared : {M E R : Type 0} (x : Machine M E) (held : List (ℕ × M)) (spare : List (ℕ × ℕ))
    (entry_of : R → E) (seen_by : R → List (ℕ × M)) (fact : R → Type 0) (e : E) (v : Verdict R)
    (r : R)
    → Answers x held spare entry_of seen_by fact e v → v ≡ verdict.Ready r → entry_of r ≡ e
prepared x held spare entry_of seen_by fact e v r a is =
    (subst (Answers x held spare entry_of seen_by fact e) is a).0

module _ {M E : Type 0} (x : Machine M E) (legal : List M → ℕ → Option E) (who : ℕ) where
  -- a commit of the entry that was told, from the parts for which it was told
  pub legal_commit : (n : ℕ) (held now : List (ℕ × M)) (t : Turn E) (e f : E) → SomeFits x held
      → Tells x legal who held t → t ≡ turn.Entry e → f ≡ e → now ≡ held
      → IsLegalOf x legal who (commit n f now)
  legal_commit n held now t e f some tells is same parts =
      subst (λ (g : E). IsLegalOf x legal who (commit n g now)) (sym same)
      (subst (λ (h : List (ℕ × M)). IsLegalOf x legal who (commit n e h)) (sym parts)
      (some, subst (Tells x legal who held) is tells))

  -- what the last activity makes stops
  last_stops : (stops : E → Bool) (many : ℕ) (c : Commit M E) → Turning x legal stops many
      → who + 1 ≡ many → IsLegalOf x legal who c → stops c.entry ≡ true
  last_stops stops many c laws last l = laws.closes l.0.0 who c.entry last l.0.1
      (l.1 l.0.0 l.0.1 l.0.2)

  module _ {P : Type 0} (stops : E → Bool) where
    by_last : (many : ℕ) (v w : View P M E) (b : Bool) → Turning x legal stops many
        → (b ≡ true → who + 1 ≡ many) → OneMore x legal who v w
        → CommitsBy x legal stops who v w (made_by b)
    by_last many v w true laws last one = (
      one,
      subst (HasStop stops) (sym one.1)
          (Any-push (λ (c : Commit M E). stops c.entry ≡ true) v.own one.0
          (last_stops stops many one.0 laws (last refl) one.3)),
    )
    by_last many v w false laws last one = one

    -- where an entry was made
    pub after_entry : (many : ℕ) (v w : View P M E) (d : Did) → Turning x legal stops many
        → d ≡ made_by (who + 1 == many) → OneMore x legal who v w
        → CommitsBy x legal stops who v w d
    after_entry many v w d laws is one =
        subst (CommitsBy x legal stops who v w) (sym is)
        (by_last many v w (who + 1 == many) laws (λ h. grind (arith, nat_tests)) one)

    carried_one : (u v w z : View P M E) → SameCommits u v → OneMore x legal who v w
        → SameCommits w z → OneMore x legal who u z
    carried_one u v w z a b c =
        (b.0, c.0 ∙ (b.1 ∙ ap (λ l. l ++ b.0 ∷ []) a.0), c.1 ∙ (b.2 ∙ a.1), b.3)

    -- the same, where the commits stay before and after it
    pub carried : (u v w z : View P M E) (d : Did) → SameCommits u v
        → CommitsBy x legal stops who v w d → SameCommits w z → CommitsBy x legal stops who u z d
    carried u v w z did.Made a b c = carried_one u v w z a b c
    carried u v w z did.Closed a b c =
        (carried_one u v w z a b.0 c, subst (HasStop stops) (sym c.0) b.1)
    carried u v w z did.Nothing a b c = (c.0 ∙ (b.0 ∙ a.0), c.1 ∙ (b.1 ∙ a.1))
    carried u v w z did.Over a b c = (c.0 ∙ (b.0 ∙ a.0), c.1 ∙ (b.1 ∙ a.1))
