-- The applications and the presses of a made script are read, and what they cost.
use Rattle.std.proofs.Common.{◌≡◌, ℕ, ◌+◌, ◌*◌, ◌<◌, ◌≤◌, pos, false, nat_le, List, []}
use Rattle.std.proofs.Common.{◌∷◌, ◌++◌, length, map, take, codes, Some, None, Ok, refl}
use Rattle.std.proofs.Common.{sym, ap, ◌∙◌, subst, arith, length-append}
use Rattle.std.specs.Fmt.{decimal}
use Rattle.std.specs.Prelude.{sum_by}
use Rattle.std.proofs.lemmas.Bool.Decides.{nat_tests}
use Rattle.std.proofs.lemmas.List.{map-append}
use Rattle.std.proofs.lemmas.List.Sums.{sum_by-append}
use Rattle.be_actor.specs.declared.Instruction.{Instruction}
use Rattle.be_command.specs.Kinds.{numbered}
use Rattle.be_line.specs.declared.statement.Statement.TheVariants as statement
use Rattle.be_line.specs.FirstWords.{statement_of}
use Rattle.be_machine.specs.Schedule.{next_random, chosen_place}
use Rattle.be_message.specs.declared.target.Target.{Target}
use Rattle.be_message.specs.Words.{mouse_down}
use Rattle.be_reader.specs.Forms.{form_of}
use Rattle.be_reader.specs.LineDeeds.{deed_said}
use Rattle.be_said.specs.Deeds.{adds_input, begins_program, closes}
use Rattle.be_said.specs.Judging.{done}
use Rattle.be_said.specs.Names.{new_name}
use Rattle.be_said.specs.SoFar.{SoFar, nothing, program}
use Rattle.be_script.specs.declared.AppLine.{AppLine}
use Rattle.be_script.specs.declared.DrawLine.{DrawLine}
use Rattle.be_script.specs.declared.InputLine.{InputLine}
use Rattle.be_script.specs.declared.InputLine.TheVariants as input
use Rattle.be_script.specs.declared.WindowLine.{WindowLine}
use Rattle.be_script.specs.Script.{Declared}
use Rattle.be_script.specs.Work.{input_cost, most_cost, step_cost}
use Rattle.be_written.specs.Lines.{line_of}
use Rattle.be_made.specs.Drawing.{texts_from}
use Rattle.be_made.specs.Made.{name, app_text, locked_text, press_text}
use Rattle.be_made.proofs.PlainWords.{plain-decimal, joined}
use Rattle.be_made.proofs.MadeReading.{Reads, reads_both, reads_line, reads_all}
use Rattle.be_made.proofs.MadeStates.{state, known_read, number_read, w_names, a_names, a_new}
use Rattle.be_made.proofs.MadeStates.{a_more}
use Rattle.be_made.proofs.MadeWindows.{plain_all, plain-name, drawn_below}
use Rattle.be_made.proofs.MadeBodies.{an_end, end_deed}
use Rattle.be_made.proofs.MadeSteps.{AreSteps, each_locked, at_program}

-- ---- first words

an_app : statement_of (codes "app") ≡ Some statement.App
unfolding statement_of
an_app = refl

a_press : statement_of (codes "press") ≡ Some statement.Press
unfolding statement_of
a_press = refl

-- ---- applications

abbrev pub app_made : List ℕ → List Instruction → AppLine
app_made word steps = record { name = word; program = steps }

pub record AreApps (j : ℕ) (apps : List AppLine) : Type 0 where
  pub names : map (λ line. line.name) apps ≡ take j a_names
  pub count : length apps ≡ j
  pub cost : (updates : ℕ) (post send : ℕ → Target → ℕ → ℕ) →
      sum_by (λ (app : AppLine). sum_by (step_cost updates post send 0) app.program) apps ≤ j *
      (40 * (6 + updates))

sum_more : {X : Type 0} (f : X → ℕ) (xs : List X) (x : X) →
    sum_by f (xs ++ x ∷ []) ≡ sum_by f xs + f x
sum_more {X} f xs x =
    let all : sum_by f (xs ++ x ∷ []) ≡ sum_by f xs + (0 + f x) = sum_by-append f xs (x ∷ []) in
    omega arith

cost_more : (now before more j each : ℕ) → now ≡ before + more → before ≤ j * each → more ≤ each →
    now ≤ (j + 1) * each
cost_more now before more j each is low cheap = omega arith

no_steps : AreSteps 0 []
no_steps = record { count = omega arith; cost = λ updates post send. omega arith }

apps_more : (j : ℕ) (apps : List AppLine) (word : List ℕ) (steps : List Instruction) → j < 4 →
    word ≡ name (codes "a") j → AreSteps 40 steps → AreApps j apps →
    AreApps (j + 1) (apps ++ app_made word steps ∷ [])
apps_more j apps word steps lt is all before = record {
  names =
      map-append (λ (line : AppLine). line.name) apps (app_made word steps ∷ [])
      ∙ ap (λ (names : List (List ℕ)). names ++ word ∷ []) before.names
      ∙ ap (λ (w : List ℕ). take j a_names ++ w ∷ []) is
      ∙ a_more j lt;
  count = let many = length-append apps (app_made word steps ∷ []) in let now = before.count in
      omega arith;
  cost = λ updates post send.
      cost_more (sum_by (λ (app : AppLine). sum_by (step_cost updates post send 0) app.program)
      (apps ++ app_made word steps ∷ []))
      (sum_by (λ (app : AppLine). sum_by (step_cost updates post send 0) app.program) apps)
      (sum_by (step_cost updates post send 0) steps) j (40 * (6 + updates))
      (sum_more (λ (app : AppLine). sum_by (step_cost updates post send 0) app.program) apps
      (app_made word steps)) (before.cost updates post send) (all.cost updates post send);
}

module _ (windows : List WindowLine) (names : map (λ line. line.name) windows ≡ w_names)
    (draws : List DrawLine) where
  app_deed : (apps : List AppLine) (word text : List ℕ) →
      new_name (map (λ line. line.name) apps) word ≡ Ok word →
      deed_said (state windows draws apps [] nothing) statement.App
      (record { words = word ∷ []; window = None; text = text }) ≡ Ok (begins_program word)
  unfolding deed_said form_of
  app_deed apps word text new = rw new refl

  few_apps : (n : ℕ) → n < 16 → nat_le 16 n ≡ false
  few_apps n h = grind (arith, nat_tests)

  app_begun : (apps : List AppLine) (word : List ℕ) → length apps < 16 →
      done (state windows draws apps [] nothing) (begins_program word) ≡
      Ok (state windows draws apps [] (program word None []))
  unfolding done
  app_begun apps word few = rw (few_apps (length apps) few) refl

  app_closed : (apps : List AppLine) (word : List ℕ) (steps : List Instruction) →
      done (state windows draws apps [] (program word None steps)) closes ≡
      Ok (state windows draws (apps ++ app_made word steps ∷ []) [] nothing)
  unfolding done
  app_closed apps word steps = refl

  app_reads : (apps : List AppLine) (j : ℕ) (text : List ℕ) (steps : List Instruction) → j < 4 →
      AreApps j apps →
      Reads 24000 text (state windows draws apps [] (program (name (codes "a") j) None []))
      (state windows draws apps [] (program (name (codes "a") j) None steps)) →
      Reads 24400 (line_of (codes "app" ∷ name (codes "a") j ∷ []) ++ text ++ line_of
      (codes "end" ∷ [])) (state windows draws apps [] nothing)
      (state windows draws (apps ++ app_made (name (codes "a") j) steps ∷ []) [] nothing)
  app_reads apps j text steps lt all reads =
      let word : List ℕ = name (codes "a") j in
      let old : SoFar = state windows draws apps [] nothing in
      let one : SoFar = state windows draws apps [] (program word None []) in
      let two : SoFar = state windows draws apps [] (program word None steps) in
      let new : SoFar = state windows draws (apps ++ app_made word steps ∷ []) [] nothing in
      let count = all.count in
      let is_new : new_name (map (λ line. line.name) apps) word ≡ Ok word = subst
      (λ (there : List (List ℕ)). new_name there word ≡ Ok word) (sym all.names) (a_new j lt) in
      let first_line = reads_line (codes "app") (word ∷ []) old one
      refl (plain_all (word ∷ []) (plain-name 97 j refl (omega arith), tt)) (omega arith) refl
      (known_read old one (codes "app") statement.App
      (record { words = word ∷ []; window = None; text = joined (codes "app" ∷ word ∷ []) })
      (begins_program word) an_app refl
      (app_deed apps word (joined (codes "app" ∷ word ∷ [])) is_new)
      (app_begun apps word (omega arith))) in
      let last_line = reads_line (codes "end") [] two new refl refl (omega arith) refl
      (known_read two new (codes "end") statement.End
      (record { words = []; window = None; text = codes "end" }) closes an_end
      refl (end_deed two (codes "end")) (app_closed apps word steps)) in
      reads_both 24200 200 (line_of (codes "app" ∷ word ∷ []) ++ text) (line_of (codes "end" ∷ []))
      old two new
      (reads_both 200 24000 (line_of (codes "app" ∷ word ∷ [])) text old one two first_line reads)
      last_line

  pub each_app : (j x : ℕ) (apps : List AppLine) → j < 4 → AreApps j apps →
      (next : List AppLine) × AreApps (j + 1) next
      × Reads 24400 (app_text j x).0 (state windows draws apps [] nothing)
      (state windows draws next [] nothing)
  each_app j x apps lt all =
      let word : List ℕ = name (codes "a") j in
      let steps = reads_all locked_text 600 40 (List Instruction)
      (at_program windows names draws apps word None) AreSteps
      (each_locked windows names draws apps word) 40 0 x [] (omega arith) no_steps in (
        apps ++ app_made word steps.0 ∷ [],
        apps_more j apps word steps.0 lt refl steps.1 all,
        app_reads apps j (texts_from locked_text 0 40 x).0 steps.0 lt all steps.2,
      )

-- ---- presses

abbrev pub press_made : ℕ → ℕ → InputLine
press_made x y = input.Press (record { x = pos x; y = pos y })

pub record ArePresses (i : ℕ) (input : List InputLine) : Type 0 where
  pub count : length input ≡ i
  pub cost : (d : Declared) (updates : ℕ) →
      sum_by (input_cost d updates) input ≤ i * (1 + updates + most_cost d updates mouse_down)

module _ (windows : List WindowLine) (draws : List DrawLine) (apps : List AppLine) where
  press_deed : (input : List InputLine) (xw yw text : List ℕ) (x y : ℕ) →
      numbered (pos 0) (pos 639) xw ≡ Ok (pos x) → numbered (pos 0) (pos 479) yw ≡ Ok (pos y) →
      deed_said (state windows draws apps input nothing) statement.Press
      (record { words = xw ∷ yw ∷ []; window = None; text = text }) ≡
      Ok (adds_input (press_made x y))
  unfolding deed_said form_of
  press_deed input xw yw text x y across down = rw (across, down) refl

  few_input : (n : ℕ) → n < 4096 → nat_le 4096 n ≡ false
  few_input n h = grind (arith, nat_tests)

  press_done : (input : List InputLine) (line : InputLine) → length input < 4096 →
      done (state windows draws apps input nothing) (adds_input line) ≡
      Ok (state windows draws apps (input ++ line ∷ []) nothing)
  unfolding done
  press_done input line few = rw (few_input (length input) few) refl

  press_reads : (input : List InputLine) (x y : ℕ) → x < 640 → y < 480 → length input < 4096 →
      Reads 200 (line_of (codes "press" ∷ decimal x ∷ decimal y ∷ []))
      (state windows draws apps input nothing)
      (state windows draws apps (input ++ press_made x y ∷ []) nothing)
  press_reads input x y hx hy few =
      let words : List (List ℕ) = decimal x ∷ decimal y ∷ [] in
      let old : SoFar = state windows draws apps input nothing in
      let new : SoFar = state windows draws apps (input ++ press_made x y ∷ []) nothing in
      reads_line (codes "press") words old new
      refl (plain_all words (plain-decimal x (omega arith), (plain-decimal y (omega arith), tt)))
      (omega arith) refl
      (known_read old new (codes "press") statement.Press
      (record { words = words; window = None; text = joined (codes "press" ∷ words) })
      (adds_input (press_made x y)) a_press refl
      (press_deed input (decimal x) (decimal y) (joined (codes "press" ∷ words)) x y
      (number_read 639 x (omega arith) (omega arith))
      (number_read 479 y (omega arith) (omega arith)))
      (press_done input (press_made x y) few))

  some_press : (input : List InputLine) (i x y : ℕ) → i < 20 → x < 640 → y < 480 →
      ArePresses i input →
      (next : List InputLine) × ArePresses (i + 1) next
      × Reads 200 (line_of (codes "press" ∷ decimal x ∷ decimal y ∷ []))
      (state windows draws apps input nothing) (state windows draws apps next nothing)
  some_press input i x y lt hx hy all =
      let count = all.count in (
        input ++ press_made x y ∷ [],
        record {
          count = let many = length-append input (press_made x y ∷ []) in omega arith;
          cost = λ d updates.
              cost_more (sum_by (input_cost d updates) (input ++ press_made x y ∷ []))
              (sum_by (input_cost d updates) input) (1 + updates + most_cost d updates mouse_down) i
              (1 + updates + most_cost d updates mouse_down)
              (sum_more (input_cost d updates) input (press_made x y)) (all.cost d updates)
              (omega arith);
        },
        press_reads input x y hx hy (omega arith),
      )

  pub each_press : (i x : ℕ) (input : List InputLine) → i < 20 → ArePresses i input →
      (next : List InputLine) × ArePresses (i + 1) next
      × Reads 200 (press_text i x).0 (state windows draws apps input nothing)
      (state windows draws apps next nothing)
  each_press i x input lt all =
      let a : ℕ = next_random x in
      let b : ℕ = next_random a in
      some_press input i (chosen_place a 640) (chosen_place b 480) lt
      (drawn_below a 640 (omega arith)) (drawn_below b 480 (omega arith)) all
