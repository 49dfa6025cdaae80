use Rattle.std.proofs.Common.{◌≡◌, ◌≤◌, false, IfOk, map, sym, ap, subst, ◌∙◌}
use Rattle.std.proofs.lemmas.Result.{IfOk-weaker}
use Rattle.be_hall.specs.Machine.{AllFit}
use Rattle.be_hall.specs.Numbers.{total}
use Rattle.be_noted.proofs.Lawful.{budgets_of, fits_of, means_of}
use Rattle.be_noted.specs.Noting.{noted_of, noted_stopped}
use Rattle.be_parts.specs.Parts.{meaning_of}
use Rattle.be_rules.specs.Rules.{IsSound, SliceFits}
use Rattle.be_rules.specs.Shares.{share}
use Rattle.be_script.specs.Script.{Declared}
use Rattle.be_script.specs.Work.{work_of}
use Rattle.be_world.specs.Turns.{has_stopped}
use Rattle.be_jotted.specs.Jotting.{noted_machine}
use Rattle.be_noted.proofs.noting.Noting.opening.Goals as goal

pub returns-clause-sound : goal.returns-clause-sound
returns-clause-sound c =
    subst (λ (d : Declared). IfOk c.opening.result
    (λ parts. (noted_machine d).sound (map noted_of parts.items))) c.self.view_is
    (let d = c.self.inside.world in
    IfOk-weaker c.opening.result (λ parts. IsSound d (map meaning_of parts.items))
    (λ parts. (noted_machine d).sound (map noted_of parts.items))
    (λ parts sound. subst (IsSound d) (sym (means_of parts.items)) sound) c.opening.ensures.sound)

pub returns-clause-unclosed : goal.returns-clause-unclosed
returns-clause-unclosed c =
    subst (λ (d : Declared). IfOk c.opening.result
    (λ parts. noted_stopped d (map noted_of parts.items) ≡ false)) c.self.view_is
    (let d = c.self.inside.world in
    IfOk-weaker c.opening.result (λ parts. has_stopped d (map meaning_of parts.items) ≡ false)
    (λ parts. noted_stopped d (map noted_of parts.items) ≡ false)
    (λ parts goes. ap (has_stopped d) (means_of parts.items) ∙ goes) c.opening.ensures.unclosed)

pub returns-clause-budgets : goal.returns-clause-budgets
returns-clause-budgets c =
    subst (λ (d : Declared). IfOk c.opening.result
    (λ parts. total (noted_machine d).budget (map noted_of parts.items) ≤ work_of d))
    c.self.view_is
    (let d = c.self.inside.world in
    IfOk-weaker c.opening.result
    (λ parts. total (share d) (map meaning_of parts.items) ≤ work_of d)
    (λ parts. total (noted_machine d).budget (map noted_of parts.items) ≤ work_of d)
    (λ parts less. subst (λ n. n ≤ work_of d) (sym (budgets_of d parts.items)) less)
    c.opening.ensures.budgets)

pub returns-clause-fits : goal.returns-clause-fits
returns-clause-fits c =
    let d = c.args.self.now in
    IfOk-weaker c.opening.result
    (λ parts. AllFit SliceFits 0 (map meaning_of parts.items))
    (λ parts. AllFit (noted_machine d).fits 0 (map noted_of parts.items))
    (λ parts fits. fits_of d 0 parts.items fits) c.opening.ensures.fits
