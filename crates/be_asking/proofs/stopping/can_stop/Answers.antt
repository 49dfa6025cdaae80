use Rattle.std.proofs.Common.{◌≡◌, true, Some, sym, ap, subst, ◌∙◌}
use Rattle.std.specs.Prelude.{◌==◌, length}
use Rattle.std.proofs.lemmas.Result.{IfOk-weaker, err_from_is_err_and}
use Rattle.std.specs.List.{list_all, range_with_len}
use Rattle.be_facts.proofs.Numbers.{eq_false, eq_self}
use Rattle.be_machine.specs.Closing.{all_quiet}
use Rattle.be_machine.specs.Program.{has_ended}
use Rattle.be_machine.specs.Touched as part
use Rattle.be_parts.specs.declared.part.Part.TheVariants as kinds
use Rattle.be_script.specs.Script.{declared_by}
use Rattle.be_asking.specs.Stopping.{HasAll, HasWindows, Tells, can_stop}
use Rattle.be_asking.proofs.StopAnswered.{all_told, going_on, has_all, has_stopped, not_used}
use Rattle.be_asking.proofs.stopping.can_stop.Goals as goal

pub returns-in_err-_desk-clause-lost : goal.returns-in_err-_desk-clause-lost
returns-in_err-_desk-clause-lost c =
    let p = err_from_is_err_and c.from_residual.result c.from_residual.ensures.1 in
    rw (p.1, p.2) (record { of = part.desk; there = tt; missing = c.in_err-_desk.ensures.missing })

pub returns-in_err-input-clause-lost : goal.returns-in_err-input-clause-lost
returns-in_err-input-clause-lost c =
    let p = err_from_is_err_and c.from_residual-in_err-input.result c.from_residual-in_err-input.ensures.1 in
    rw (p.1, p.2) (record { of = part.input; there = tt; missing = c.in_err-input.ensures.missing })

pub returns-then-has_stopped-clause-told : goal.returns-then-has_stopped-clause-told
returns-then-has_stopped-clause-told c =
    has_stopped (declared_by c.args.script.now) c.args.held.now.parts (kinds.Input c.in_ok-input.input.now) c.in_ok-input.ensures.there
    (c.has_stopped.ensures ∙ ap Some c.if-has_stopped.true)

pub returns-then-used-len-clause-told : goal.returns-then-used-len-clause-told
returns-then-used-len-clause-told c =
    let long : c.len.result ≡ length (declared_by c.args.script.now).input = c.len.ensures ∙ c.args.script.now.input.ok.0 in
    not_used (declared_by c.args.script.now) c.args.held.now.parts (kinds.Input c.in_ok-input.input.now) c.in_ok-input.ensures.there c.used.result c.used.ensures
    (eq_false c.used.result (length (declared_by c.args.script.now).input) (λ same. c.if-used-len.true (same ∙ sym long)))

pub returns-then-not-branch-clause-told : goal.returns-then-not-branch-clause-told
returns-then-not-branch-clause-told c =
    going_on (declared_by c.args.script.now) c.args.held.now.parts
    (subst (Tells (declared_by c.args.script.now) c.args.held.now.parts (λ s. list_all (has_ended (declared_by c.args.script.now) s) (range_with_len 0 (length s.apps)))) c.if-not-branch.true c.in_ok-all_ended.ensures.told)

pub returns-clause-told : goal.returns-clause-told
returns-clause-told c =
    let long : c.len.result ≡ length (declared_by c.args.script.now).input = c.len.ensures ∙ c.args.script.now.input.ok.0 in
    let used : (c.used.result == length (declared_by c.args.script.now).input) ≡ true = ap (λ k. k == length (declared_by c.args.script.now).input) (c.if-used-len.false ∙ long) ∙ eq_self (length (declared_by c.args.script.now).input) in
    IfOk-weaker c.all_quiet.result (Tells (declared_by c.args.script.now) c.args.held.now.parts all_quiet) (Tells (declared_by c.args.script.now) c.args.held.now.parts (can_stop (declared_by c.args.script.now)))
    (λ quiet told. all_told (declared_by c.args.script.now) c.args.held.now.parts (kinds.Input c.in_ok-input.input.now) c.in_ok-input.ensures.there c.used.result c.used.ensures (c.has_stopped.ensures ∙ ap Some c.if-has_stopped.false) used true quiet
    (subst (Tells (declared_by c.args.script.now) c.args.held.now.parts (λ s. list_all (has_ended (declared_by c.args.script.now) s) (range_with_len 0 (length s.apps)))) c.if-not-branch.false c.in_ok-all_ended.ensures.told) told)
    c.all_quiet.ensures.told

pub returns-clause-there : goal.returns-clause-there
returns-clause-there c =
    IfOk-weaker c.all_quiet.result (λ quiet. quiet ≡ true → HasWindows (declared_by c.args.script.now) c.args.held.now.parts) (λ over. over ≡ true → HasAll (declared_by c.args.script.now) c.args.held.now.parts)
    (λ quiet there is. has_all (declared_by c.args.script.now) c.args.held.now.parts (kinds.Desk c.in_ok-_desk._desk.now, c.in_ok-_desk.ensures.there) (kinds.Input c.in_ok-input.input.now, c.in_ok-input.ensures.there)
    (c.in_ok-all_ended.ensures.there c.if-not-branch.false) (there is))
    c.all_quiet.ensures.there
