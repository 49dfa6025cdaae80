-- The text that is made of a number is a script, and a small one.
use Rattle.std.proofs.Common.{◌≡◌, ℕ, ◌≤◌, false, nat_lt, List, [], ◌∷◌, ◌++◌}
use Rattle.std.proofs.Common.{map, codes, Ok, refl, sym, ap, ◌∙◌, arith, append-nil}
use Rattle.std.proofs.lemmas.Bool.Decides.{nat_tests}
use Rattle.be_lex.specs.Lines.{Line, lines_of}
use Rattle.be_lex.proofs.LineLemmas.{lines_of-none}
use Rattle.be_reader.specs.Grammar.{finished, read_lines, script_of}
use Rattle.be_reader.proofs.KeepsLemmas.{script-keeps}
use Rattle.be_reader.proofs.LineLemmas.{short_enough}
use Rattle.be_said.specs.SoFar.{SoFar, declared_in, nothing, nothing_said}
use Rattle.be_script.specs.declared.AppLine.{AppLine}
use Rattle.be_script.specs.declared.DrawLine.{DrawLine}
use Rattle.be_script.specs.declared.InputLine.{InputLine}
use Rattle.be_script.specs.declared.WindowLine.{WindowLine}
use Rattle.be_script.specs.Work.{work_of}
use Rattle.be_written.specs.Lines.{line_of}
use Rattle.be_made.specs.Drawing.{texts_from}
use Rattle.be_made.specs.Laws.{MadeIsScript}
use Rattle.be_made.specs.Made.{app_text, body_text, made, press_text, window_text}
use Rattle.be_made.proofs.MadeReading.{Reads, reads_both, reads_all}
use Rattle.be_made.proofs.MadeStates.{state, w_names}
use Rattle.be_made.proofs.MadeWindows.{AreWindows, each_window, screen_reads}
use Rattle.be_made.proofs.MadeBodies.{AreBodies, each_body}
use Rattle.be_made.proofs.MadeApps.{AreApps, ArePresses, each_app, each_press}
use Rattle.be_made.proofs.MadeWork.{work_is}

-- ---- before the first of each sort

no_windows : AreWindows 0 []
no_windows = record { names = refl; count = refl }

no_bodies : AreBodies 0 []
no_bodies = record { rects = []; count = refl; are = refl }

no_apps : AreApps 0 []
no_apps = record { names = refl; count = refl; cost = λ updates post send. omega arith }

no_presses : ArePresses 0 []
no_presses = record { count = refl; cost = λ d updates. omega arith }

-- ---- the whole text

pub record IsMade (text : List ℕ) : Type 0 where
  pub windows : List WindowLine
  pub draws : List DrawLine
  pub apps : List AppLine
  pub input : List InputLine
  pub are_windows : AreWindows 8 windows
  pub are_bodies : AreBodies 8 draws
  pub are_apps : AreApps 4 apps
  pub are_presses : ArePresses 20 input
  pub reads : Reads 108200 text nothing_said (state windows draws apps input nothing)

whole : (n : ℕ) → IsMade (made n)
unfolding made
whole n =
    let windows = reads_all window_text 200 8 (List WindowLine)
    (λ (lines : List WindowLine). state lines [] [] [] nothing) AreWindows each_window 8 0 n []
    (omega arith) no_windows in
    let a : ℕ = (texts_from window_text 0 8 n).1 in
    let names : map (λ (line : WindowLine). line.name) windows.0 ≡ w_names = windows.1.names in
    let bodies = reads_all body_text 600 8 (List DrawLine)
    (λ (lines : List DrawLine). state windows.0 lines [] [] nothing) AreBodies
    (each_body windows.0 names) 8 0 a [] (omega arith) no_bodies in
    let b : ℕ = (texts_from body_text 0 8 a).1 in
    let apps = reads_all app_text 24400 4 (List AppLine)
    (λ (lines : List AppLine). state windows.0 bodies.0 lines [] nothing) AreApps
    (each_app windows.0 names bodies.0) 4 0 b [] (omega arith) no_apps in
    let c : ℕ = (texts_from app_text 0 4 b).1 in
    let presses = reads_all press_text 200 20 (List InputLine)
    (λ (lines : List InputLine). state windows.0 bodies.0 apps.0 lines nothing) ArePresses
    (each_press windows.0 bodies.0 apps.0) 20 0 c [] (omega arith) no_presses in
    let screen : List ℕ = line_of (codes "screen" ∷ codes "640" ∷ codes "480" ∷ []) in
    let first : List ℕ = (texts_from window_text 0 8 n).0 in
    let second : List ℕ = (texts_from body_text 0 8 a).0 in
    let third : List ℕ = (texts_from app_text 0 4 b).0 in
    let last : List ℕ = (texts_from press_text 0 20 c).0 in
    let one : SoFar = state windows.0 [] [] [] nothing in
    let two : SoFar = state windows.0 bodies.0 [] [] nothing in
    let three : SoFar = state windows.0 bodies.0 apps.0 [] nothing in
    let four : SoFar = state windows.0 bodies.0 apps.0 presses.0 nothing in
    let to_one = reads_both 200 1600 screen first nothing_said (state [] [] [] [] nothing) one
    screen_reads windows.2 in
    let to_two = reads_both 1800 4800 (screen ++ first) second nothing_said one two to_one bodies.2
    in
    let to_three = reads_both 6600 97600 (screen ++ first ++ second) third nothing_said two three
    to_two apps.2 in
    record {
      windows = windows.0;
      draws = bodies.0;
      apps = apps.0;
      input = presses.0;
      are_windows = windows.1;
      are_bodies = bodies.1;
      are_apps = apps.1;
      are_presses = presses.1;
      reads = reads_both 104200 4000 (screen ++ first ++ second ++ third) last nothing_said three
          four to_three presses.2;
    }

-- ---- to its end

little : (work : ℕ) → work ≤ 16881 → nat_lt 262144 work ≡ false
little work h = grind (arith, nat_tests)

at_end : (number : ℕ) (windows : List WindowLine) (draws : List DrawLine) (apps : List AppLine)
    (input : List InputLine) → work_of (declared_in
    (state windows draws apps input nothing) (640, 480)) ≤ 16881 →
    read_lines number (state windows draws apps input nothing) [] ≡
    Ok (state windows draws apps input nothing)
unfolding read_lines finished
at_end number windows draws apps input small = rw
    (little (work_of (declared_in (state windows draws apps input nothing) (640, 480))) small) refl

is_script : (text : List ℕ) (windows : List WindowLine) (draws : List DrawLine)
    (apps : List AppLine) (input : List InputLine) →
    Reads 108200 text nothing_said (state windows draws apps input nothing) →
    work_of (declared_in (state windows draws apps input nothing) (640, 480)) ≤ 16881 →
    script_of text ≡ Ok (state windows draws apps input nothing)
is_script text windows draws apps input reads small =
    let few = reads.few in
    let read = reads.goes 1 [] in
    short_enough text (omega arith)
    ∙ ap (λ (t : List ℕ). read_lines 1 nothing_said (lines_of t)) (sym (append-nil text))
    ∙ read.1
    ∙ ap (λ (ls : List Line). read_lines read.0 (state windows draws apps input nothing) ls)
    (lines_of-none [] refl)
    ∙ at_end read.0 windows draws apps input small

pub made_is_script : MadeIsScript
made_is_script n low =
    let all = whole n in
    let said : SoFar = state all.windows all.draws all.apps all.input nothing in
    let small : work_of (declared_in said (640, 480)) ≤ 16881 = work_is all.windows all.apps
    all.input all.draws all.are_windows.count all.are_bodies all.are_apps all.are_presses in
    let read = is_script (made n) all.windows all.draws all.apps all.input all.reads small in
    (said, (read, refl, script-keeps (made n) said (640, 480) read refl, small))
