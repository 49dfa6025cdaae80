use Rattle.std.proofs.Common.{sym, ap, ◌∙◌, subst}
use Rattle.std.proofs.lemmas.Result.{err_from_is_err_and}
use Rattle.be_stack.specs.Changes.{windows_after}
use Rattle.be_desk.specs.Changes.{desk_after, desk_unless}
use Rattle.be_desk.specs.Desks.{desk_of, IsRefusedFor}
use Rattle.be_desk.proofs.next.next_of.Goals as goal

pub returns-in-Err-clause-refused : goal.returns-in-Err-clause-refused
unfolding desk_after
returns-in-Err-clause-refused c =
    let desk = desk_of c.args.desk.now in
    let e = ap (λ (s : _). windows_after s c.args.w c.args.change.now) (sym c.in_ok-stack.ensures) ∙ c.in-Err.ensures.changed in
    subst (λ (r : _). IsRefusedFor (desk_unless desk c.args.w c.args.change.now r) c.fault_of.result) (sym e) c.fault_of.ensures

pub returns-clause-next : goal.returns-clause-next
unfolding desk_after
returns-clause-next c =
    let desk = desk_of c.args.desk.now in
    let e = ap (λ (s : _). windows_after s c.args.w c.args.change.now) (sym c.in_ok-stack.ensures) ∙ c.in_default.ensures.changed in
    ap (desk_unless desk c.args.w c.args.change.now) e ∙ c.in_ok-tree.ensures.tree c.apply.new.self

pub returns-in_err-tree-clause-refused : goal.returns-in_err-tree-clause-refused
unfolding desk_after
returns-in_err-tree-clause-refused c =
    let desk = desk_of c.args.desk.now in
    let e = ap (λ (s : _). windows_after s c.args.w c.args.change.now) (sym c.in_ok-stack.ensures) ∙ c.in_default.ensures.changed in
    let p = err_from_is_err_and c.from_residual-in_err-tree.result c.from_residual-in_err-tree.ensures.1 in
    rw p.1 (subst (λ (fault : _). IsRefusedFor (desk_unless desk c.args.w c.args.change.now (windows_after desk.windows c.args.w c.args.change.now)) fault) (sym p.2) (subst (λ (r : _). IsRefusedFor (desk_unless desk c.args.w c.args.change.now r) c.in_err-tree.field-0.0) (sym e) (c.in_err-tree.ensures.refused c.apply.new.self)))
