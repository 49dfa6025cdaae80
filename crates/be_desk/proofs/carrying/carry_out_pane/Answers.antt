use Rattle.std.proofs.Common.{◌≡◌, ◌<◌, Option, length, arith, refl, sym, ap, ◌∙◌, subst}
use Rattle.std.specs.Prelude.{slice_get, slice_set}
use Rattle.std.proofs.lemmas.Option.{same_Some, slice_get_read}
use Rattle.be_desk.specs.declared.planned.Renewed.{Renewed}
use Rattle.be_desk.specs.Carrying.{IsCarriedOver}
use Rattle.be_desk.specs.Plans.{CarriesOver, Planned}
use Rattle.be_desk.proofs.CarryLemmas.{carries_over}
use Rattle.be_desk.proofs.carrying.carry_out_pane.Goals as goal

pub returns-clause-carried : goal.returns-clause-carried
returns-clause-carried c these got =
    let p : Planned = record { window = c.plan.inside.window; change = c.plan.inside.change; windows = c.plan.inside.stack; spans = c.plan.inside.spans.items } in
    let within : c.args.number < length p.spans = subst (λ (r : Planned). c.args.number < length r.spans) (sym c.plan.view_is) c.requires.there in
    let read = slice_get_read p.spans (length p.spans) c.args.number c.index_mut.result.now refl (omega arith) c.index_mut.ensures.value in
    let same : c.take-renewed.result ≡ these = c.take-renewed.ensures.value ∙ same_Some c.index_mut.result.now these (sym read ∙ ap (λ (r : Planned). slice_get r.spans c.args.number) c.plan.view_is ∙ got) in
    subst (λ (r : Planned). CarriesOver r these c.args.pane.now c.carry_over.new.pane) c.plan.view_is
    (carries_over p these c.args.pane.now c.carry_over.new.pane (subst (λ (o : Option Renewed). IsCarriedOver o p.windows p.window p.change c.args.pane.now c.carry_over.new.pane) same c.carry_over.ensures))

pub returns-clause-plan : goal.returns-clause-plan
returns-clause-plan c = (c.take-renewed.new.self, ap (λ (r : Planned). record r { spans = slice_set r.spans c.args.number c.take-renewed.new.self }) c.plan.view_is)
