-- A script that was read keeps its limits.
use Rattle.std.proofs.Common.{◌≡◌, ℕ, ◌+◌, Bool, true, false, cond, List, [], ◌∷◌}
use Rattle.std.proofs.Common.{Option, Some, None, Result, Ok, Err, refl, sym, ap, subst, ◌∙◌}
use Rattle.std.specs.Prelude.{nat_lt, unwrap_or, length}
use Rattle.app_server.specs.Inputs.{all_declared, as_declared, script_in}
use Rattle.be_command.specs.declared.fault.Reason.{Reason}
use Rattle.be_command.specs.declared.fault.Reason.TheVariants.{TooLong, TooMuchWork, Unfinished}
use Rattle.be_lex.specs.Lines.{Line, lines_of}
use Rattle.be_reader.proofs.KeepsLemmas.{script-keeps}
use Rattle.be_reader.specs.Grammar.{Fault, fault, finished, read_line, read_lines, script_of}
use Rattle.be_said.specs.SoFar.{SoFar, declared_in, is_closed, nothing_said}
use Rattle.be_script.specs.Limits.{IsWithinLimits}
use Rattle.be_script.specs.Script.{Declared}
use Rattle.be_script.specs.Work.{work_of}

abbrev HasScreen : SoFar → Type 0
HasScreen out = (size : ℕ × ℕ) × (out.screen ≡ Some size)

within : (over closed : Bool) (line : ℕ) (said out : SoFar) (size : ℕ × ℕ) → said.screen ≡ Some size
    → cond closed (cond over (fault {A = SoFar} line TooMuchWork) (Ok said))
    (fault {A = SoFar} line Unfinished) ≡ Ok out → HasScreen out
within false true line said out size is e =
    let same : said ≡ out = (cc) in
    (size, subst (λ (it : SoFar). it.screen ≡ Some size) same is)
within true true line said out size is e = absurd ((cc))
within over false line said out size is e = absurd ((cc))

at_end : (line : ℕ) (said out : SoFar) (screen : Option (ℕ × ℕ)) → said.screen ≡ screen
    → finished line said screen ≡ Ok out → HasScreen out
unfolding finished
at_end line said out None is e = absurd ((cc))
at_end line said out (Some size) is e =
    within (nat_lt 262144 (work_of (declared_in said size))) (is_closed said.begun) line said out size is e

line_more : (number : ℕ) (said out : SoFar) (line : Line) (lines : List Line)
    → ((new : SoFar) → read_lines (number + 1) new lines ≡ Ok out → HasScreen out)
    → read_lines number said (line ∷ lines) ≡ Ok out
    → (r : Result SoFar Reason) → read_line said line ≡ r → HasScreen out
unfolding read_lines
line_more number said out line lines more e (Ok new) is =
    let rest = rw is at e in
    more new rest
line_more number said out line lines more e (Err reason) is =
    let failed = rw is at e in
    absurd ((cc))

all_lines : (number : ℕ) (said out : SoFar) (lines : List Line) → read_lines number said lines ≡ Ok out
    → HasScreen out
unfolding read_lines
all_lines number said out [] e = at_end number said out said.screen refl e
all_lines number said out (line ∷ lines) e =
    line_more number said out line lines (λ new rest. all_lines (number + 1) new out lines rest) e
    (read_line said line) refl

of_script : (long : Bool) (bytes : List ℕ) (out : SoFar)
    → cond long (fault {A = SoFar} 0 TooLong) (read_lines 1 nothing_said (lines_of bytes)) ≡ Ok out
    → HasScreen out
of_script true bytes out e = absurd ((cc))
of_script false bytes out e = all_lines 1 nothing_said out (lines_of bytes) e

has_screen : (bytes : List ℕ) (out : SoFar) → script_of bytes ≡ Ok out → HasScreen out
unfolding script_of
has_screen bytes out e = of_script (nat_lt 1048576 (length bytes)) bytes out e

said_within : (bytes : List ℕ) (d : Declared) (r : Result SoFar Fault) → script_of bytes ≡ r
    → as_declared r ≡ Ok d → IsWithinLimits d
said_within bytes d (Ok said) is e =
    let screen = has_screen bytes said is in
    let declared : declared_in said screen.0 ≡ all_declared said =
    ap (λ (o : Option (ℕ × ℕ)). declared_in said (unwrap_or o (0, 0))) (sym screen.1) in
    let same : all_declared said ≡ d = (cc) in
    subst IsWithinLimits (declared ∙ same) (script-keeps bytes said screen.0 is screen.1)
said_within bytes d (Err why) is e = absurd ((cc))

pub read_within : (bytes : List ℕ) (d : Declared) → script_in bytes ≡ Ok d → IsWithinLimits d
read_within bytes d e = said_within bytes d (script_of bytes) refl e
