use Rattle.std.proofs.Common.{arith, sym, ap, ◌∙◌, subst, ◌+◌, List, ℕ}
use Rattle.std.proofs.lemmas.Bool.{false≢true}
use Rattle.be_desk.proofs.AffectedLemmas.{AreListed, none_listed, one_listed, one_passed, all_listed}
use Rattle.be_desk.proofs.altered.altered.Goals as goal
use Rattle.be_desk.proofs.altered.altered.Goals.{then-branch+in_ok-push, else-branch}

pub loop-u-init : goal.loop-u-init
loop-u-init c = rw c.new-names.ensures.items (none_listed c.args.before.now c.args.after.now c.args.w)

pub loop-u-preserved : goal.loop-u-preserved
loop-u-preserved c =
    let before = c.args.before.now in
    let after = c.args.after.now in
    let u = c.loop-u.u in
    let names = c.loop-u.names.items in
    elim c.if-branch.branch [
      | then-branch+in_ok-push w ↦
          subst (λ (l : List ℕ). AreListed before after c.args.w (u + 1) l) (sym (ap (λ (v : _). v.items) w.names-is ∙ w.in_ok-push.ensures.items))
          (one_listed before after c.args.w u names c.loop-u.invariant (c.in_ok-is_altered.ensures.0 w.if-branch.true))
      | else-branch w ↦
          subst (λ (l : List ℕ). AreListed before after c.args.w (u + 1) l) (sym (ap (λ (v : _). v.items) w.names-is))
          (one_passed before after c.args.w u names c.loop-u.invariant (λ is. false≢true (sym w.if-branch.false ∙ c.in_ok-is_altered.ensures.1 is)))
    ]

pub returns : goal.returns
returns c =
    all_listed c.args.before.now c.args.after.now c.args.w c.loop-u.u c.loop-u.names.items (omega arith) (omega arith) (omega (arith, c.requires.others.many)) c.loop-u.invariant
