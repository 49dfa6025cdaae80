use Rattle.std.proofs.Common.{◌∙◌, subst, sym}
use Rattle.be_asking.specs.Deeds.{IsAnswer, act_in}
use Rattle.be_asking.specs.declared.deed.Answer.{Answer}
use Rattle.be_hall.specs.Hands.{meant}
use Rattle.be_hall.specs.Machine.{IsReady}
use Rattle.be_machine.specs.declared.Entry.{Entry}
use Rattle.be_parts.specs.Parts.{meaning_of}
use Rattle.be_rules.specs.Rules.{world_machine}
use Rattle.be_script.specs.Script.{declared_by}
use Rattle.be_world.proofs.WorkMade.{may_make, prepared_by, same_entry}
use Rattle.be_world.proofs.judging.judge_want.Goals as goal

pub make-requires-clause-allowed : goal.make-requires-clause-allowed
make-requires-clause-allowed c =
    let d = declared_by c.args.script.now in
    let parts = c.args.held.now.parts in
    may_make d parts c.args.entry.now c.args.who c.args.want (act_in c.in-May.deed) c.requires.asked
    (subst (λ (x : Answer). IsAnswer d (meant meaning_of parts) c.args.entry.now.actor x)
    c.in-May.is
    c.in_ok-may.ensures) c.ascends.ensures

pub returns : goal.returns
returns c =
    let d = declared_by c.args.script.now in
    let parts = c.args.held.now.parts in
    let e = c.args.entry.now in
    let may =
    subst (λ (x : Answer). IsAnswer d (meant meaning_of parts) e.actor x) c.in-May.is
    c.in_ok-may.ensures in
    let same =
    same_entry d parts e c.in_ok-own.own (act_in c.in-May.deed) c.in_ok-own.ensures
    (c.is_same.ensures.0 c.if-not-is_same.false) in (
      same,
      subst (λ (x : Entry). IsReady (world_machine d) (meant meaning_of parts) x)
          (sym c.in_ok-own.ensures ∙ same) may,
      prepared_by d parts c.args.who c.args.want (may_make d parts e c.args.who c.args.want (act_in
          c.in-May.deed) c.requires.asked may c.ascends.ensures) c.in_ok-made.made
          c.in_ok-made.ensures,
    )
