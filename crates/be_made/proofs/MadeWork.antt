-- How much work a made script is at most.
use Rattle.std.proofs.Common.{◌≡◌, ℕ, ◌+◌, ◌*◌, ◌≤◌, min, List, [], ◌∷◌}
use Rattle.std.proofs.Common.{length, refl, ap, ◌∙◌, subst, arith}
use Rattle.std.specs.Prelude.{sum_by}
use Rattle.std.specs.List.{range_with_len}
use Rattle.be_geom.specs.declared.rect.Rect.{Rect}
use Rattle.be_handler.specs.declared.Route.{Route}
use Rattle.be_handler.specs.declared.Route.TheVariants.{Skipped, Handler, Unknown}
use Rattle.be_handler.specs.Routes.{route_of}
use Rattle.be_message.specs.declared.target.Target.{Target}
use Rattle.be_message.specs.Words.{mouse_down}
use Rattle.be_said.specs.SoFar.{declared_in, nothing}
use Rattle.be_script.specs.declared.AppLine.{AppLine}
use Rattle.be_script.specs.declared.DrawLine.{DrawLine}
use Rattle.be_script.specs.declared.InputLine.{InputLine}
use Rattle.be_script.specs.declared.WindowLine.{WindowLine}
use Rattle.be_script.specs.Script.{Declared}
use Rattle.be_script.specs.Windows.{body_program, chain_of}
use Rattle.be_script.specs.Work.{input_cost, message_cost, most_cost, post_cost, program_cost}
use Rattle.be_script.specs.Work.{update_cost, updates_cost, work_of}
use Rattle.be_made.proofs.MadeStates.{state}
use Rattle.be_made.proofs.MadeBodies.{AreBodies, bodies_made}
use Rattle.be_made.proofs.MadeApps.{AreApps, ArePresses}

-- ---- updates

module _ (windows : List WindowLine) (apps : List AppLine) (input : List InputLine) where
  abbrev with_draws : List DrawLine → Declared
  with_draws draws = declared_in (state windows draws apps input nothing) (640, 480)

  each_update : (rects : List Rect) → length rects ≡ 8 →
      sum_by (update_cost (with_draws (bodies_made 0 rects))) (range_with_len 0 8) ≡ 88
  each_update [] h = absurd (omega arith)
  each_update (a ∷ []) h = absurd (omega arith)
  each_update (a ∷ b ∷ []) h = absurd (omega arith)
  each_update (a ∷ b ∷ c ∷ []) h = absurd (omega arith)
  each_update (a ∷ b ∷ c ∷ d ∷ []) h = absurd (omega arith)
  each_update (a ∷ b ∷ c ∷ d ∷ e ∷ []) h = absurd (omega arith)
  each_update (a ∷ b ∷ c ∷ d ∷ e ∷ f ∷ []) h = absurd (omega arith)
  each_update (a ∷ b ∷ c ∷ d ∷ e ∷ f ∷ g ∷ []) h = absurd (omega arith)
  each_update (a ∷ b ∷ c ∷ d ∷ e ∷ f ∷ g ∷ i ∷ []) h = refl
  each_update (a ∷ b ∷ c ∷ d ∷ e ∷ f ∷ g ∷ i ∷ j ∷ rects) h = absurd (omega arith)

  pub updates_are : (draws : List DrawLine) → length windows ≡ 8 → AreBodies 8 draws →
      updates_cost (with_draws draws) ≡ 88
  unfolding updates_cost
  updates_are draws count all =
      ap (λ (n : ℕ). sum_by (update_cost (with_draws draws)) (range_with_len 0 n)) count
      ∙ ap (λ (lines : List DrawLine). sum_by (update_cost (with_draws lines)) (range_with_len 0 8))
      all.are
      ∙ each_update all.rects all.count

  -- ---- messages run no body

  module _ (draws : List DrawLine) where
    abbrev d : Declared
    d = with_draws draws

    no_body : (w what : ℕ) (r : Route) → body_program d w what r ≡ []
    unfolding body_program
    no_body w what Skipped = refl
    no_body w what (Handler t) = refl
    no_body w what Unknown = refl

    message_is : (updates w : ℕ) (t : Target) (what : ℕ) → message_cost d updates w t what ≡ 3
    unfolding message_cost
    message_is updates w t what = rw (no_body w what (route_of (chain_of d w) what t)) refl

    pub most_is : (updates what : ℕ) → length windows ≡ 8 → most_cost d updates what ≡ 3
    unfolding most_cost
    most_is updates what count = rw count (simp message_is)

    -- ---- all work

    within : (a i u : ℕ) → u ≡ 88 → a ≤ 4 * (40 * (6 + u)) → i ≤ 20 * (1 + u + 3) →
        min (a + i + 1) 18446744073709551615 ≤ 16881
    within a i u is ha hi = omega arith

    pub work_is : length windows ≡ 8 → AreBodies 8 draws → AreApps 4 apps → ArePresses 20 input →
        work_of d ≤ 16881
    unfolding work_of
    work_is count bodies programs presses =
        let u : ℕ = updates_cost d in
        let most = most_is u mouse_down count in
        let pressed : sum_by (input_cost d u) input ≤ 20 * (1 + u + 3) =
        subst (λ (n : ℕ). sum_by (input_cost d u) input ≤ 20 * (1 + u + n)) most (presses.cost d u)
        in
        within (sum_by (λ (app : AppLine). program_cost d u app.program) apps)
        (sum_by (input_cost d u) input) u (updates_are draws count bodies)
        (programs.cost u (post_cost 8 d u) (message_cost d u)) pressed
