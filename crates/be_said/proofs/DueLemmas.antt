-- When a deed may be done, and what is wrong with it where it may not.
use Rattle.std.proofs.Common.{◌≡◌, ℕ, ◌<◌, ◌≤◌, Bool, true, false, cond, ◌||◌, List, length, Result, Ok, Err, refl, ap, ◌∙◌}
use Rattle.std.proofs.lemmas.Bool.{le-leb, lt-leb}
use Rattle.std.specs.Prelude.{nat_le}
use Rattle.be_facts.proofs.Truths.{or_true}
use Rattle.be_actor.specs.declared.Instruction.{Instruction}
use Rattle.be_color.specs.declared.colors.Color.{Color}
use Rattle.be_command.specs.declared.fault.Reason.{Reason}
use Rattle.be_command.specs.declared.fault.Reason.TheVariants.{NameTaken, TooMany}
use Rattle.be_script.specs.declared.InputLine.{InputLine}
use Rattle.be_said.specs.Deeds.{Deed, sizes_screen, begins_bitmap, adds_row, begins_program, adds_input, adds_step, closes}
use Rattle.be_said.specs.Judging.{closed, done, is_long_step, is_taken, is_too_many, said_then}
use Rattle.be_said.specs.SoFar.{SoFar, Begun, steps_begun}

pub taken-before : (said : SoFar) (deed : Deed) → is_taken said deed ≡ true → done said deed ≡ Err NameTaken
unfolding done
taken-before said deed taken =
    let judge : Bool → Result SoFar Reason = λ b. cond b (Err NameTaken) (cond (is_too_many said deed) (Err TooMany) (Ok (said_then said deed))) in
    ap judge taken

not-taken : (said : SoFar) (deed : Deed) → is_taken said deed ≡ false → done said deed ≡ cond (is_too_many said deed) (Err TooMany) (Ok (said_then said deed))
unfolding done
not-taken said deed free =
    let judge : Bool → Result SoFar Reason = λ b. cond b (Err NameTaken) (cond (is_too_many said deed) (Err TooMany) (Ok (said_then said deed))) in
    ap judge free

pub too-many : (said : SoFar) (deed : Deed) → is_taken said deed ≡ false → is_too_many said deed ≡ true → done said deed ≡ Err TooMany
too-many said deed free many =
    let judge : Bool → Result SoFar Reason = λ b. cond b (Err TooMany) (Ok (said_then said deed)) in
    not-taken said deed free ∙ ap judge many

pub may-be-done : (said : SoFar) (deed : Deed) → is_taken said deed ≡ false → is_too_many said deed ≡ false → done said deed ≡ Ok (said_then said deed)
may-be-done said deed free few =
    let judge : Bool → Result SoFar Reason = λ b. cond b (Err TooMany) (Ok (said_then said deed)) in
    not-taken said deed free ∙ ap judge few

-- ---- by deed

pub screen-done : (said : SoFar) (width height : ℕ) → done said (sizes_screen width height) ≡ Ok (said_then said (sizes_screen width height))
screen-done said width height = may-be-done said (sizes_screen width height) refl refl

pub input-many : (said : SoFar) (event : InputLine) → 4096 ≤ length said.input → done said (adds_input event) ≡ Err TooMany
input-many said event many = too-many said (adds_input event) refl (le-leb 4096 (length said.input) many)

pub input-done : (said : SoFar) (event : InputLine) → length said.input < 4096 → done said (adds_input event) ≡ Ok (said_then said (adds_input event))
input-done said event few = may-be-done said (adds_input event) refl (lt-leb 4096 (length said.input) few)

pub program-many : (said : SoFar) (name : List ℕ) → 16 ≤ length said.apps → done said (begins_program name) ≡ Err TooMany
program-many said name many = too-many said (begins_program name) refl (le-leb 16 (length said.apps) many)

pub program-done : (said : SoFar) (name : List ℕ) → length said.apps < 16 → done said (begins_program name) ≡ Ok (said_then said (begins_program name))
program-done said name few = may-be-done said (begins_program name) refl (lt-leb 16 (length said.apps) few)

pub bitmap-many : (said : SoFar) (name : List ℕ) (width height : ℕ) → 64 ≤ length said.bitmaps → done said (begins_bitmap name width height) ≡ Err TooMany
bitmap-many said name width height many = too-many said (begins_bitmap name width height) refl (le-leb 64 (length said.bitmaps) many)

pub bitmap-done : (said : SoFar) (name : List ℕ) (width height : ℕ) → length said.bitmaps < 64 →
    done said (begins_bitmap name width height) ≡ Ok (said_then said (begins_bitmap name width height))
bitmap-done said name width height few = may-be-done said (begins_bitmap name width height) refl (lt-leb 64 (length said.bitmaps) few)

pub close-done : (said : SoFar) → done said closes ≡ Ok (said_then said closes)
close-done said = may-be-done said closes refl refl

pub row-done : (said : SoFar) (colors : List Color) → done said (adds_row colors) ≡ Ok (said_then said (adds_row colors))
row-done said colors = may-be-done said (adds_row colors) refl refl

pub close-as : (said : SoFar) (begun : Begun) → said.begun ≡ begun → done said closes ≡ Ok (closed said begun)
close-as said begun is =
    let then : Begun → Result SoFar Reason = λ b. Ok (closed said b) in
    close-done said ∙ ap then is

pub step-many : (said : SoFar) (step : Instruction) → 1024 ≤ length (steps_begun said.begun) → done said (adds_step step) ≡ Err TooMany
step-many said step many =
    let either : Bool → Bool = λ b. b || is_long_step step in
    too-many said (adds_step step) refl (ap either (le-leb 1024 (length (steps_begun said.begun)) many))

pub step-long : (said : SoFar) (step : Instruction) → is_long_step step ≡ true → done said (adds_step step) ≡ Err TooMany
step-long said step long =
    let full : Bool = nat_le 1024 (length (steps_begun said.begun)) in
    let either : Bool → Bool = λ b. full || b in
    too-many said (adds_step step) refl (ap either long ∙ or_true full)

pub step-done : (said : SoFar) (step : Instruction) → length (steps_begun said.begun) < 1024 → is_long_step step ≡ false → done said (adds_step step) ≡ Ok (said_then said (adds_step step))
step-done said step few short =
    let either : Bool → Bool = λ b. b || is_long_step step in
    may-be-done said (adds_step step) refl (ap either (lt-leb 1024 (length (steps_begun said.begun)) few) ∙ short)
