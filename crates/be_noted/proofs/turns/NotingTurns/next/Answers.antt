use Rattle.std.proofs.Common.{◌≡◌, ◌<◌, ℕ, true, IfOk, subst, sym}
use Rattle.std.proofs.lemmas.Result.{IfOk-weaker}
use Rattle.be_hall.specs.Hands.{meant}
use Rattle.be_hall.specs.Machine.{IsHeld, SomeFits}
use Rattle.be_noting.proofs.InHand.{tells_noted}
use Rattle.be_parts.specs.Parts.{meaning_of}
use Rattle.be_rules.specs.Rules.{world_machine}
use Rattle.be_script.specs.Script.{Declared}
use Rattle.be_turns.specs.Turning.{Tells}
use Rattle.be_world.specs.Turns.{is_own, legal_entry}
use Rattle.be_jotted.specs.Jotting.{noted_machine, told_of}
use Rattle.be_noted.proofs.Both.{fit_alone, held_alone, seen_is, some_alone}
use Rattle.be_noted.specs.Noting.{noted_legal, noted_of}
use Rattle.be_noted.proofs.turns.NotingTurns.next.Goals as goal

pub next-requires-clause-own : goal.next-requires-clause-own
next-requires-clause-own c =
    let d = c.args.self.now in
    let parts = c.args.held.now.parts in
    subst (λ (x : Declared). (p : ℕ) → p < (world_machine x).places
    → is_own x c.args.activity p ≡ true → IsHeld (meant meaning_of parts) p) (sym c.self.view_is)
    (λ p less own. held_alone d parts p (c.requires.own p less own))

pub next-requires-clause-fitting : goal.next-requires-clause-fitting
next-requires-clause-fitting c =
    let parts = c.args.held.now.parts in
    subst (λ (x : Declared). SomeFits (world_machine x) (meant meaning_of parts))
    (sym c.self.view_is) (some_alone c.args.self.now parts c.requires.fitting)

pub next-requires-clause-fits : goal.next-requires-clause-fits
next-requires-clause-fits c =
    fit_alone c.args.self.now c.args.held.now.parts 4611686018427387904 c.requires.fits

pub returns : goal.returns
returns c =
    let d = c.args.self.now in
    let parts = c.args.held.now.parts in
    let a = c.args.activity in
    IfOk-weaker c.next.result
    (Tells (world_machine d) (legal_entry d) a (meant meaning_of parts))
    (Tells (noted_machine d) (noted_legal d) a (meant noted_of parts))
    (λ turn tells. tells_noted (world_machine d) (told_of d) (meant noted_of parts) (legal_entry d)
    a turn (subst (λ h. Tells (world_machine d) (legal_entry d) a h turn) (sym (seen_is parts))
    tells)) (subst (λ (x : Declared). IfOk c.next.result
    (Tells (world_machine x) (legal_entry x) a (meant meaning_of parts))) c.self.view_is
    c.next.ensures)
