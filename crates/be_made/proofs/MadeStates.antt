-- What the lines of a made script have said, and how one of them is read.
use Rattle.std.proofs.Common.{◌≡◌, ℕ, zero, suc, ◌+◌, ◌<◌, ◌≤◌, pos, negsuc}
use Rattle.std.proofs.Common.{true, false, nat_le, List, [], ◌∷◌, ◌++◌, length}
use Rattle.std.proofs.Common.{take, codes, Option, Some, None, Ok, refl, sym, ap}
use Rattle.std.proofs.Common.{subst, arith}
use Rattle.std.specs.Fmt.{decimal}
use Rattle.std.proofs.lemmas.Bool.Decides.{nat_tests}
use Rattle.std.proofs.lemmas.Fmt.{decimal_digit}
use Rattle.std.proofs.lemmas.Int.{ints}
use Rattle.be_actor.specs.declared.Instruction.{Instruction}
use Rattle.be_actor.specs.declared.Instruction.TheVariants as instruction
use Rattle.be_command.specs.declared.Command.{Command}
use Rattle.be_command.specs.declared.first_word.FirstWord.{FirstWord}
use Rattle.be_command.specs.Kinds.{named, numbered, coordinate}
use Rattle.be_command.specs.Reading.{command_or_reason}
use Rattle.be_command.proofs.BackLemmas.{numbered_back}
use Rattle.be_geom.specs.Points.{between}
use Rattle.be_lex.specs.Names.{is_name_within, is_reserved_name}
use Rattle.be_line.specs.declared.statement.Statement.{Statement}
use Rattle.be_line.specs.declared.statement.Statement.TheVariants as statement
use Rattle.be_line.specs.FirstWords.{meant, misplaced, seat_of, statement_of}
use Rattle.be_reader.specs.Forms.{form_of}
use Rattle.be_reader.specs.Grammar.{read_known}
use Rattle.be_reader.specs.Kinds.{At}
use Rattle.be_reader.specs.LineDeeds.{deed_said}
use Rattle.be_said.specs.Deeds.{Deed, adds_step}
use Rattle.be_said.specs.Judging.{done, is_long_step}
use Rattle.be_said.specs.Names.{new_name}
use Rattle.be_said.specs.SoFar.{SoFar, Begun, draw_body, program, known_in, site_of}
use Rattle.be_said.specs.SoFar.{window_of}
use Rattle.be_script.specs.declared.AppLine.{AppLine}
use Rattle.be_script.specs.declared.DrawLine.{DrawLine}
use Rattle.be_script.specs.declared.InputLine.{InputLine}
use Rattle.be_script.specs.declared.WindowLine.{WindowLine}
use Rattle.be_script.specs.Programs.{lock_behind}
use Rattle.be_made.specs.Made.{name}

-- ---- states

abbrev pub state : List WindowLine → List DrawLine → List AppLine → List InputLine → Begun → SoFar
state windows draws apps input begun = record {
  screen = Some (640, 480);
  bitmaps = [];
  windows = windows;
  views = [];
  handlers = [];
  filters = [];
  bodies = [];
  draws = draws;
  apps = apps;
  input = input;
  begun = begun;
}

-- ---- a line by its parts

pub known_read : (said new : SoFar) (word : List ℕ) (st : Statement) (at : At) (deed : Deed) →
    statement_of word ≡ Some st → misplaced (site_of said) (seat_of (meant (site_of said) st)) ≡
    None →
    deed_said said (meant (site_of said) st) at ≡ Ok deed → done said deed ≡ Ok new →
    read_known said (statement_of word) at ≡ Ok new
known_read said new word st at deed is here says does = rw (is, here, says) does

pub command_deed : (said : SoFar) (word : FirstWord) (at : At) (c : Command) →
    command_or_reason (known_in said (window_of said.begun)) at.text ≡ Ok c →
    deed_said said (statement.Command word) at ≡ Ok (adds_step (instruction.Draw c))
unfolding deed_said form_of
command_deed said word at c read = rw read refl

-- ---- steps

few_steps : (n : ℕ) → n < 1024 → nat_le 1024 n ≡ false
few_steps n h = grind (arith, nat_tests)

pub program_step : (windows : List WindowLine) (draws : List DrawLine) (apps : List AppLine)
    (input : List InputLine) (name : List ℕ) (lock : Option ℕ) (steps : List Instruction)
    (step : Instruction) →
    length steps < 1024 → is_long_step step ≡ false →
    done (state windows draws apps input (program name lock steps)) (adds_step step) ≡
    Ok (state windows draws apps input (program name (lock_behind lock step) (steps ++ step ∷ [])))
unfolding done
program_step windows draws apps input name lock steps step few short = rw
    (few_steps (length steps) few, short) refl

pub draw_step : (windows : List WindowLine) (draws : List DrawLine) (apps : List AppLine)
    (input : List InputLine) (w v : ℕ) (steps : List Instruction) (step : Instruction) →
    length steps < 1024 → is_long_step step ≡ false →
    done (state windows draws apps input (draw_body w v steps)) (adds_step step) ≡
    Ok (state windows draws apps input (draw_body w v (steps ++ step ∷ [])))
unfolding done
draw_step windows draws apps input w v steps step few short = rw
    (few_steps (length steps) few, short) refl

-- ---- numbers

between_0 : (high n : ℕ) → n ≤ high → between (pos 0) (pos n) (pos high) ≡ true
unfolding between
between_0 high n h = grind (arith, ints)

between_low : (low high n : ℕ) → n ≤ high → between (negsuc low) (pos n) (pos high) ≡ true
unfolding between
between_low low high n h = grind (arith, ints)

pub number_read : (high n : ℕ) → n ≤ high → high ≤ 65535 →
    numbered (pos 0) (pos high) (decimal n) ≡ Ok (pos n)
number_read high n h few = numbered_back (pos 0) (pos high) (pos n) (between_0 high n h)
    (omega arith) few

pub coordinate_read : (n : ℕ) → n ≤ 32767 → coordinate (decimal n) ≡ Ok (pos n)
coordinate_read n h = numbered_back (negsuc 32767) (pos 32767) (pos n) (between_low 32767 32767 n h)
    (omega arith) (omega arith)

pub coordinate_in : (n : ℕ) → n ≤ 32767 → between (negsuc 32767) (pos n) (pos 32767) ≡ true
coordinate_in n h = between_low 32767 32767 n h

-- ---- names of a letter and a digit

abbrev pub numbered_name : ℕ → ℕ → List ℕ
numbered_name letter i = letter ∷ (48 + i) ∷ []

pub name_is : (letter i : ℕ) → i < 10 → name (letter ∷ []) i ≡ numbered_name letter i
name_is letter i h = ap (λ (digits : List ℕ). letter ∷ digits) (decimal_digit i h)

abbrev pub w_names : List (List ℕ)
w_names = codes "w0" ∷ codes "w1" ∷ codes "w2" ∷ codes "w3" ∷ codes "w4" ∷ codes "w5" ∷ codes "w6" ∷
    codes "w7" ∷ []

abbrev pub a_names : List (List ℕ)
a_names = codes "a0" ∷ codes "a1" ∷ codes "a2" ∷ codes "a3" ∷ []

-- what holds of each number below eight, or below four
each_eight : (P : ℕ → Type 0) → P 0 → P 1 → P 2 → P 3 → P 4 → P 5 → P 6 → P 7 → (i : ℕ) → i < 8 →
    P i
each_eight P a b c d e f g h zero lt = a
each_eight P a b c d e f g h (suc zero) lt = b
each_eight P a b c d e f g h (suc (suc zero)) lt = c
each_eight P a b c d e f g h (suc (suc (suc zero))) lt = d
each_eight P a b c d e f g h (suc (suc (suc (suc zero)))) lt = e
each_eight P a b c d e f g h (suc (suc (suc (suc (suc zero))))) lt = f
each_eight P a b c d e f g h (suc (suc (suc (suc (suc (suc zero)))))) lt = g
each_eight P a b c d e f g h (suc (suc (suc (suc (suc (suc (suc zero))))))) lt = h
each_eight P a b c d e f g h (suc (suc (suc (suc (suc (suc (suc (suc n)))))))) lt =
    absurd (omega arith)

each_four : (P : ℕ → Type 0) → P 0 → P 1 → P 2 → P 3 → (i : ℕ) → i < 4 → P i
each_four P a b c d zero lt = a
each_four P a b c d (suc zero) lt = b
each_four P a b c d (suc (suc zero)) lt = c
each_four P a b c d (suc (suc (suc zero))) lt = d
each_four P a b c d (suc (suc (suc (suc n)))) lt = absurd (omega arith)

pub w_new : (i : ℕ) → i < 8 → new_name (take i w_names) (name (codes "w") i) ≡
    Ok (name (codes "w") i)
unfolding is_name_within is_reserved_name
w_new i lt =
    subst (λ (word : List ℕ). new_name (take i w_names) word ≡ Ok word)
    (sym (name_is 119 i (omega arith)))
    (each_eight (λ k. new_name (take k w_names) (numbered_name 119 k) ≡ Ok (numbered_name 119 k))
    refl refl refl refl refl refl refl refl i lt)

pub w_named : (i : ℕ) → i < 8 → named w_names (name (codes "w") i) ≡ Ok i
unfolding is_name_within
w_named i lt =
    subst (λ (word : List ℕ). named w_names word ≡ Ok i) (sym (name_is 119 i (omega arith)))
    (each_eight (λ k. named w_names (numbered_name 119 k) ≡ Ok k)
    refl refl refl refl refl refl refl refl i lt)

pub w_more : (i : ℕ) → i < 8 → take i w_names ++ name (codes "w") i ∷ [] ≡ take (i + 1) w_names
w_more i lt =
    subst (λ (word : List ℕ). take i w_names ++ word ∷ [] ≡ take (i + 1) w_names)
    (sym (name_is 119 i (omega arith)))
    (each_eight (λ k. take k w_names ++ numbered_name 119 k ∷ [] ≡ take (k + 1) w_names)
    refl refl refl refl refl refl refl refl i lt)

pub a_new : (i : ℕ) → i < 4 → new_name (take i a_names) (name (codes "a") i) ≡
    Ok (name (codes "a") i)
unfolding is_name_within is_reserved_name
a_new i lt =
    subst (λ (word : List ℕ). new_name (take i a_names) word ≡ Ok word)
    (sym (name_is 97 i (omega arith)))
    (each_four (λ k. new_name (take k a_names) (numbered_name 97 k) ≡ Ok (numbered_name 97 k))
    refl refl refl refl i lt)

pub a_more : (i : ℕ) → i < 4 → take i a_names ++ name (codes "a") i ∷ [] ≡ take (i + 1) a_names
a_more i lt =
    subst (λ (word : List ℕ). take i a_names ++ word ∷ [] ≡ take (i + 1) a_names)
    (sym (name_is 97 i (omega arith)))
    (each_four (λ k. take k a_names ++ numbered_name 97 k ∷ [] ≡ take (k + 1) a_names)
    refl refl refl refl i lt)

pub root_named : named (codes "root" ∷ []) (codes "root") ≡ Ok 0
unfolding is_name_within
root_named = refl
