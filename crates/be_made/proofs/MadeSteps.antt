-- The instructions of a made script's programs are read, and what they cost.
use Rattle.std.proofs.Common.{◌≡◌, ℕ, zero, suc, ◌+◌, ◌*◌, ◌/◌, ◌%◌, ◌<◌, ◌≤◌, true}
use Rattle.std.proofs.Common.{false, eqb, get_or, List, [], ◌∷◌, ◌++◌, length, map, codes, Option}
use Rattle.std.proofs.Common.{Some, None, Ok, refl, sym, subst, arith, length-append}
use Rattle.std.specs.Fmt.{decimal}
use Rattle.std.specs.Prelude.{sum_by}
use Rattle.std.proofs.lemmas.List.Sums.{sum_by-append}
use Rattle.be_actor.specs.declared.Instruction.{Instruction}
use Rattle.be_actor.specs.declared.Instruction.TheVariants as instruction
use Rattle.be_color.specs.declared.colors.Color.TheVariants.{Solid}
use Rattle.be_command.specs.declared.Command.{Command}
use Rattle.be_command.specs.declared.Command.TheVariants as command
use Rattle.be_command.specs.declared.first_word.FirstWord.{FirstWord}
use Rattle.be_command.specs.declared.first_word.FirstWord.TheVariants as first
use Rattle.be_command.specs.Effects.{effect_of}
use Rattle.be_command.specs.Forms.{first_word_of}
use Rattle.be_command.specs.Kinds.{named}
use Rattle.be_command.specs.Reading.{command_or_reason}
use Rattle.be_geom.specs.declared.change.Change.TheVariants as change
use Rattle.be_lex.proofs.HexSpelling.{are_bytes_each}
use Rattle.be_line.specs.declared.statement.Statement.TheVariants as statement
use Rattle.be_line.specs.FirstWords.{statement_of}
use Rattle.be_machine.specs.Schedule.{next_random, chosen_place}
use Rattle.be_message.specs.declared.target.Target.{Target}
use Rattle.be_reader.specs.Forms.{form_of}
use Rattle.be_reader.specs.LineDeeds.{deed_said}
use Rattle.be_said.specs.Deeds.{adds_step}
use Rattle.be_said.specs.SoFar.{SoFar, program}
use Rattle.be_script.specs.declared.AppLine.{AppLine}
use Rattle.be_script.specs.declared.DrawLine.{DrawLine}
use Rattle.be_script.specs.declared.WindowLine.{WindowLine}
use Rattle.be_script.specs.Work.{effect_cost, step_cost}
use Rattle.be_written.specs.Lines.{line_of}
use Rattle.be_made.specs.Made.{name, color_word, step_word, command_text, command_words}
use Rattle.be_made.specs.Made.{locked_text}
use Rattle.be_made.proofs.PlainWords.{is_plain, are_plain, plain-decimal, plain-hex, plain-signed}
use Rattle.be_made.proofs.PlainWords.{joined}
use Rattle.be_made.proofs.MadeReading.{Reads, reads_both, reads_line}
use Rattle.be_made.proofs.MadeStates.{state, known_read, command_deed, program_step, w_names}
use Rattle.be_made.proofs.MadeStates.{w_named}
use Rattle.be_made.proofs.MadeWindows.{plain_all, plain-name, drawn_below, rgb_made, bytes_made}
use Rattle.be_made.proofs.MadeBodies.{a_fill}
use Rattle.be_made.proofs.MadeCommands.{known_root, rect_made, high_pattern, high_fill_read}
use Rattle.be_made.proofs.MadeCommands.{show_read, activate_read, move_read, color_command_read}
use Rattle.be_made.proofs.MadeCommands.{distance_made, distance_small}

-- ---- first words

a_show : statement_of (codes "show") ≡ Some (statement.Command first.Show)
unfolding statement_of first_word_of
a_show = refl

a_move : statement_of (codes "moveby") ≡ Some (statement.Command first.MoveBy)
unfolding statement_of first_word_of
a_move = refl

an_activate : statement_of (codes "activate") ≡ Some (statement.Command first.Activate)
unfolding statement_of first_word_of
an_activate = refl

a_high : statement_of (codes "high") ≡ Some (statement.Command first.High)
unfolding statement_of first_word_of
a_high = refl

a_lock : statement_of (codes "lock") ≡ Some statement.Lock
unfolding statement_of
a_lock = refl

an_unlock : statement_of (codes "unlock") ≡ Some statement.Unlock
unfolding statement_of
an_unlock = refl

-- ---- what they cost

-- a command costs 3, and an update of all windows at most
abbrev pub IsCheap : Command → Type 0
IsCheap c = (updates : ℕ) → effect_cost updates (effect_of c) ≤ 3 + updates

pub record AreSteps (i : ℕ) (steps : List Instruction) : Type 0 where
  pub count : length steps ≡ 3 * i
  pub cost : (updates : ℕ) (post send : ℕ → Target → ℕ → ℕ) →
      sum_by (step_cost updates post send 0) steps ≤ i * (6 + updates)

three_more : (f : Instruction → ℕ) (steps : List Instruction) (a b c : Instruction) →
    sum_by f (((steps ++ a ∷ []) ++ b ∷ []) ++ c ∷ []) ≡ sum_by f steps + (f a + f b + f c)
three_more f steps a b c =
    let one : sum_by f (steps ++ a ∷ []) ≡ sum_by f steps + (0 + f a) = sum_by-append f steps
    (a ∷ []) in
    let two : sum_by f ((steps ++ a ∷ []) ++ b ∷ []) ≡ sum_by f (steps ++ a ∷ []) + (0 + f b) =
    sum_by-append f (steps ++ a ∷ []) (b ∷ []) in
    let all : sum_by f (((steps ++ a ∷ []) ++ b ∷ []) ++ c ∷ []) ≡ sum_by f
    ((steps ++ a ∷ []) ++ b ∷ []) + (0 + f c) = sum_by-append f ((steps ++ a ∷ []) ++ b ∷ [])
    (c ∷ []) in
    omega arith

three_longer : (steps : List Instruction) (a b c : Instruction) →
    length (((steps ++ a ∷ []) ++ b ∷ []) ++ c ∷ []) ≡ length steps + 3
three_longer steps a b c =
    let one = length-append steps (a ∷ []) in
    let two = length-append (steps ++ a ∷ []) (b ∷ []) in
    let all = length-append ((steps ++ a ∷ []) ++ b ∷ []) (c ∷ []) in
    omega arith

sum_within : (now before more i updates : ℕ) → now ≡ before + (1 + more + 2) →
    before ≤ i * (6 + updates) → more ≤ 3 + updates → now ≤ (i + 1) * (6 + updates)
sum_within now before more i updates is low cheap = omega arith

steps_more : (i w : ℕ) (steps : List Instruction) (c : Command) → IsCheap c → AreSteps i steps →
    AreSteps (i + 1) (((steps ++ instruction.Lock w ∷ []) ++ instruction.Draw c ∷ []) ++
    instruction.Unlock ∷ [])
steps_more i w steps c cheap all = record {
  count = let longer = three_longer steps (instruction.Lock w) (instruction.Draw c)
      instruction.Unlock in let now = all.count in omega arith;
  cost = λ updates post send.
      sum_within (sum_by (step_cost updates post send 0)
      (((steps ++ instruction.Lock w ∷ []) ++ instruction.Draw c ∷ []) ++ instruction.Unlock ∷ []))
      (sum_by (step_cost updates post send 0) steps) (effect_cost updates (effect_of c)) i updates
      (three_more (step_cost updates post send 0) steps (instruction.Lock w) (instruction.Draw c)
      instruction.Unlock) (all.cost updates post send) (cheap updates);
}

module _ (windows : List WindowLine) (names : map (λ line. line.name) windows ≡ w_names)
    (draws : List DrawLine) (apps : List AppLine) (app : List ℕ) where
  abbrev pub at_program : Option ℕ → List Instruction → SoFar
  at_program lock steps = state windows draws apps [] (program app lock steps)

  -- ---- a command

  one_command : (w : ℕ) (steps : List Instruction) (word : List ℕ) (words : List (List ℕ))
      (first_word : FirstWord) (c : Command) → length steps < 1024 →
      is_plain word ≡ true → are_plain words ≡ true → length words ≤ 8 →
      eqb (get_or word 0 0) 35 ≡ false → statement_of word ≡ Some (statement.Command first_word) →
      command_or_reason (known_root w_names) (joined (word ∷ words)) ≡ Ok c →
      Reads 200 (line_of (word ∷ words)) (at_program (Some w) steps)
      (at_program (Some w) (steps ++ instruction.Draw c ∷ []))
  one_command w steps word words first_word c few h hs short begins known spelt =
      let old : SoFar = at_program (Some w) steps in
      let new : SoFar = at_program (Some w) (steps ++ instruction.Draw c ∷ []) in
      let text : List ℕ = joined (word ∷ words) in
      let read : command_or_reason (known_root (map (λ line. line.name) windows)) text ≡ Ok c =
      subst (λ (there : List (List ℕ)). command_or_reason (known_root there) text ≡ Ok c)
      (sym names) spelt in
      reads_line word words old new h hs short begins
      (known_read old new word (statement.Command first_word)
      (record { words = words; window = None; text = text }) (adds_step (instruction.Draw c)) known
      refl
      (command_deed old first_word (record { words = words; window = None; text = text }) c read)
      (program_step windows draws apps [] app (Some w) steps (instruction.Draw c) few refl))

  move_command : (w m n : ℕ) (steps : List Instruction) → length steps < 1024 → m < 41 → n < 41 →
      (c : Command) × IsCheap c × Reads 200
      (line_of (codes "moveby" ∷ step_word m ∷ step_word n ∷ [])) (at_program (Some w) steps)
      (at_program (Some w) (steps ++ instruction.Draw c ∷ []))
  move_command w m n steps few hm hn = (
    command.Change (change.MoveBy (distance_made m) (distance_made n)),
    λ updates. omega arith,
    one_command w steps (codes "moveby") (step_word m ∷ step_word n ∷ []) first.MoveBy
        (command.Change (change.MoveBy (distance_made m) (distance_made n))) few refl
        (plain_all (step_word m ∷ step_word n ∷ []) (
          plain-signed (distance_made m) (distance_small m hm),
          (plain-signed (distance_made n) (distance_small n hn), tt),
        ))
        (omega arith) refl a_move (move_read m n hm hn),
  )

  fill_command : (w p q : ℕ) (steps : List Instruction) → length steps < 1024 → p < 100 → q < 80 →
      (c : Command) × IsCheap c
      × Reads 200 (line_of (codes "fill" ∷ codes "root" ∷ decimal p ∷ decimal q ∷ decimal (p + 30) ∷
      decimal (q + 20) ∷ codes "high" ∷ [])) (at_program (Some w) steps)
      (at_program (Some w) (steps ++ instruction.Draw c ∷ []))
  fill_command w p q steps few hp hq = (
    command.Fill 0 (rect_made p q (p + 30) (q + 20)) high_pattern,
    λ updates. omega arith,
    one_command w steps (codes "fill") (codes "root" ∷ decimal p ∷ decimal q ∷ decimal (p + 30) ∷
        decimal (q + 20) ∷ codes "high" ∷ []) first.Fill
        (command.Fill 0 (rect_made p q (p + 30) (q + 20)) high_pattern) few refl
        (plain_all (codes "root" ∷ decimal p ∷ decimal q ∷ decimal (p + 30) ∷ decimal (q + 20) ∷
        codes "high" ∷ []) (
          refl,
          (
            plain-decimal p (omega arith),
            (
              plain-decimal q (omega arith),
              (
                plain-decimal (p + 30) (omega arith),
                (plain-decimal (q + 20) (omega arith), (refl, tt)),
              ),
            ),
          ),
        ))
        (omega arith) refl a_fill (high_fill_read p q (p + 30) (q + 20) (omega arith) (omega arith)
        (omega arith) (omega arith)),
  )

  high_command : (w color : ℕ) (steps : List Instruction) → length steps < 1024 → color < 16777216 →
      (c : Command) × IsCheap c × Reads 200
      (line_of (codes "high" ∷ codes "root" ∷ color_word color ∷ [])) (at_program (Some w) steps)
      (at_program (Some w) (steps ++ instruction.Draw c ∷ []))
  high_command w color steps few h = (
    command.High 0 (Solid (rgb_made color)),
    λ updates. omega arith,
    one_command w steps (codes "high") (codes "root" ∷ color_word color ∷ []) first.High
        (command.High 0 (Solid (rgb_made color))) few refl
        (plain_all (codes "root" ∷ color_word color ∷ []) (
          refl,
          (
            plain-hex [] (color / 65536 ∷ color / 256 % 256 ∷ color % 256 ∷ []) refl (omega arith)
                refl (are_bytes_each (color / 65536 ∷ color / 256 % 256 ∷ color % 256 ∷ [])
                (bytes_made color h)),
            tt,
          ),
        ))
        (omega arith) refl a_high (color_command_read color h),
  )

  any_command : (w j x : ℕ) (steps : List Instruction) → length steps < 1024 →
      (c : Command) × IsCheap c × Reads 200 (command_text j x).0 (at_program (Some w) steps)
      (at_program (Some w) (steps ++ instruction.Draw c ∷ []))
  unfolding command_words
  any_command w zero x steps few = (
    command.Change change.Show,
    λ updates. omega arith,
    one_command w steps (codes "show") [] first.Show (command.Change change.Show) few
        refl refl (omega arith) refl a_show show_read,
  )
  any_command w (suc zero) x steps few =
      let a : ℕ = next_random x in
      let b : ℕ = next_random a in
      move_command w (chosen_place a 41) (chosen_place b 41) steps few
      (drawn_below a 41 (omega arith)) (drawn_below b 41 (omega arith))
  any_command w (suc (suc zero)) x steps few =
      let a : ℕ = next_random x in
      let b : ℕ = next_random a in
      fill_command w (chosen_place a 100) (chosen_place b 80) steps few
      (drawn_below a 100 (omega arith)) (drawn_below b 80 (omega arith))
  any_command w (suc (suc (suc zero))) x steps few = (
    command.Change change.Activate,
    λ updates. omega arith,
    one_command w steps (codes "activate") [] first.Activate (command.Change change.Activate) few
        refl refl (omega arith) refl an_activate activate_read,
  )
  any_command w (suc (suc (suc (suc j)))) x steps few =
      let a : ℕ = next_random x in
      high_command w (chosen_place a 16777216) steps few (drawn_below a 16777216 (omega arith))

  -- ---- under a lock

  lock_deed : (steps : List Instruction) (word text : List ℕ) (w : ℕ) →
      named (map (λ line. line.name) windows) word ≡ Ok w →
      deed_said (at_program None steps) statement.Lock
      (record { words = word ∷ []; window = None; text = text }) ≡
      Ok (adds_step (instruction.Lock w))
  unfolding deed_said form_of
  lock_deed steps word text w found = rw found refl

  unlock_deed : (said : SoFar) (text : List ℕ) →
      deed_said said statement.Unlock (record { words = []; window = None; text = text }) ≡
      Ok (adds_step instruction.Unlock)
  unfolding deed_said form_of
  unlock_deed said text = refl

  locked_reads : (w : ℕ) (steps : List Instruction) (text : List ℕ) (c : Command) → w < 8 →
      length steps + 3 ≤ 1024 →
      Reads 200 text (at_program (Some w) (steps ++ instruction.Lock w ∷ []))
      (at_program (Some w) ((steps ++ instruction.Lock w ∷ []) ++ instruction.Draw c ∷ [])) →
      Reads 600 (line_of (codes "lock" ∷ name (codes "w") w ∷ []) ++ text ++ line_of
      (codes "unlock" ∷ [])) (at_program None steps)
      (at_program None (((steps ++ instruction.Lock w ∷ []) ++ instruction.Draw c ∷ []) ++
      instruction.Unlock ∷ []))
  locked_reads w steps text c lt few reads =
      let word : List ℕ = name (codes "w") w in
      let locked : List Instruction = steps ++ instruction.Lock w ∷ [] in
      let done : List Instruction = locked ++ instruction.Draw c ∷ [] in
      let old : SoFar = at_program None steps in
      let one : SoFar = at_program (Some w) locked in
      let two : SoFar = at_program (Some w) done in
      let new : SoFar = at_program None (done ++ instruction.Unlock ∷ []) in
      let longer = length-append steps (instruction.Lock w ∷ []) in
      let longest = length-append locked (instruction.Draw c ∷ []) in
      let found : named (map (λ line. line.name) windows) word ≡ Ok w = subst
      (λ (there : List (List ℕ)). named there word ≡ Ok w) (sym names) (w_named w lt) in
      let first_line = reads_line (codes "lock") (word ∷ []) old one
      refl (plain_all (word ∷ []) (plain-name 119 w refl (omega arith), tt)) (omega arith) refl
      (known_read old one (codes "lock") statement.Lock
      (record { words = word ∷ []; window = None; text = joined (codes "lock" ∷ word ∷ []) })
      (adds_step (instruction.Lock w)) a_lock refl
      (lock_deed steps word (joined (codes "lock" ∷ word ∷ [])) w found)
      (program_step windows draws apps [] app None steps (instruction.Lock w) (omega arith) refl))
      in
      let third_line = reads_line (codes "unlock") [] two new refl refl (omega arith) refl
      (known_read two new (codes "unlock") statement.Unlock
      (record { words = []; window = None; text = codes "unlock" }) (adds_step instruction.Unlock)
      an_unlock refl
      (unlock_deed two (codes "unlock")) (program_step windows draws apps [] app (Some w) done
      instruction.Unlock (omega arith) refl)) in
      reads_both 400 200 (line_of (codes "lock" ∷ word ∷ []) ++ text)
      (line_of (codes "unlock" ∷ [])) old two new
      (reads_both 200 200 (line_of (codes "lock" ∷ word ∷ [])) text old one two first_line reads)
      third_line

  some_locked : (w i j x : ℕ) (steps : List Instruction) → w < 8 → i < 40 → AreSteps i steps →
      (next : List Instruction) × AreSteps (i + 1) next
      × Reads 600 (line_of (codes "lock" ∷ name (codes "w") w ∷ []) ++ (command_text j x).0 ++
      line_of (codes "unlock" ∷ [])) (at_program None steps) (at_program None next)
  some_locked w i j x steps lt few all =
      let count = all.count in
      let longer = length-append steps (instruction.Lock w ∷ []) in
      let drawn = any_command w j x (steps ++ instruction.Lock w ∷ []) (omega arith) in (
        ((steps ++ instruction.Lock w ∷ []) ++ instruction.Draw drawn.0 ∷ []) ++
            instruction.Unlock ∷ [],
        steps_more i w steps drawn.0 drawn.1 all,
        locked_reads w steps (command_text j x).0 drawn.0 lt (omega arith) drawn.2,
      )

  pub each_locked : (i x : ℕ) (steps : List Instruction) → i < 40 → AreSteps i steps →
      (next : List Instruction) × AreSteps (i + 1) next
      × Reads 600 (locked_text i x).0 (at_program None steps) (at_program None next)
  each_locked i x steps few all =
      let a : ℕ = next_random x in
      let b : ℕ = next_random a in
      some_locked (chosen_place a 8) i (chosen_place b 5) b steps (drawn_below a 8 (omega arith))
      few all
