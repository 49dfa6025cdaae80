use Rattle.std.proofs.Common.{◌≡◌, ◌<◌, ◌≤◌, [], false, All, Global, Vec, IfOk, arith, map, subst, vec_len}
use Rattle.std.proofs.lemmas.Result.{IfOk-weaker}
use Rattle.be_hall.specs.Machine.{AllFit}
use Rattle.be_hall.specs.Numbers.{total}
use Rattle.be_machine.specs.State.{opening_state}
use Rattle.be_parts.specs.Parts.{IsBlank, log_of, meaning_of, notes_of}
use Rattle.be_parts.specs.declared.part.Part.{Part}
use Rattle.be_rules.specs.Rules.{SliceFits}
use Rattle.be_rules.specs.Shares.{share}
use Rattle.be_rules.specs.Slices.{slices}
use Rattle.be_script.specs.Script.{Declared, declared_by}
use Rattle.be_script.specs.Work.{work_of}
use Rattle.be_world.specs.Turns.{has_stopped}
use Rattle.be_world.proofs.Openings.{few, fit, unclosed, within_work}
use Rattle.be_world.proofs.world.World.opening.Goals as goal

-- the parts mean those of the opening
abbrev Mean : Declared → Vec Part Global → Type 0
Mean d parts = map meaning_of parts.items ≡ slices d (opening_state d)

-- they can bring no more entries than the work
abbrev IsWithinWork : Declared → Vec Part Global → Type 0
IsWithinWork d parts = total (share d) (map meaning_of parts.items) ≤ work_of d

pub returns-clause-few : goal.returns-clause-few
returns-clause-few c =
    let d = declared_by c.self.inside.script in
    IfOk-weaker c.opening.result (Mean d) (λ (parts : Vec Part Global). vec_len parts < 4294967296)
    (λ parts mean. omega (arith, parts.ok.0, few d c.self.invariant.limits parts.items mean))
    c.opening.ensures.meant

pub returns-clause-budgets : goal.returns-clause-budgets
returns-clause-budgets c =
    let d = declared_by c.self.inside.script in
    subst (λ (d : Declared). IfOk c.opening.result (IsWithinWork d)) c.self.view_is
    (IfOk-weaker c.opening.result (Mean d) (IsWithinWork d)
    (λ parts mean. within_work d c.self.invariant.limits parts.items mean
    (c.the_opening_is_sound.ensures.work d c.self.invariant.limits)) c.opening.ensures.meant)

pub returns-clause-fits : goal.returns-clause-fits
returns-clause-fits c =
    let d = declared_by c.self.inside.script in
    IfOk-weaker c.opening.result (Mean d)
    (λ (parts : Vec Part Global). AllFit SliceFits 0 (map meaning_of parts.items))
    (λ parts mean. fit d c.self.invariant.limits parts.items mean) c.opening.ensures.meant

-- the run goes on
abbrev IsUnclosed : Declared → Vec Part Global → Type 0
IsUnclosed d parts = has_stopped d (map meaning_of parts.items) ≡ false

pub returns-clause-unclosed : goal.returns-clause-unclosed
returns-clause-unclosed c =
    let d = declared_by c.self.inside.script in
    subst (λ (d : Declared). IfOk c.opening.result (IsUnclosed d)) c.self.view_is
    (IfOk-weaker c.opening.result (Mean d) (IsUnclosed d)
    (λ parts mean. unclosed d c.self.invariant.limits parts.items mean) c.opening.ensures.meant)

pub returns-clause-logs : goal.returns-clause-logs
returns-clause-logs c =
    IfOk-weaker c.opening.result (λ (parts : Vec Part Global). All IsBlank parts.items)
    (λ (parts : Vec Part Global). All (λ part. log_of part ≡ []) parts.items)
    (λ parts blank. λ k x less. (blank k x less).0) c.opening.ensures.blank

pub returns-clause-notes : goal.returns-clause-notes
returns-clause-notes c =
    IfOk-weaker c.opening.result (λ (parts : Vec Part Global). All IsBlank parts.items)
    (λ (parts : Vec Part Global). All (λ part. notes_of part ≡ []) parts.items)
    (λ parts blank. λ k x less. (blank k x less).1) c.opening.ensures.blank
