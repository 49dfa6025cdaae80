use Rattle.std.proofs.Common.{rules, sym, ap, ◌∙◌, subst}
use Rattle.be_archive.specs.Faults.{IsFault, IsRefusal}
use Rattle.be_archive.specs.Reading.{tree_in, views_in}
use Rattle.be_archive.proofs.Read.{behind, no_tree, no_views}
use Rattle.be_archive.proofs.reading.unarchive.Goals as goal

pub returns-in_err-size-clause-fault : goal.returns-in_err-size-clause-fault
returns-in_err-size-clause-fault c =
    let fault : IsFault c.in_err-size.field-0.0 (tree_in c.args.message.now) =
    no_tree c.in_err-size.field-0.0 c.args.message.now c.in_err-size.ensures.fault in
    search rules

pub returns-in_err-check_views-clause-fault : goal.returns-in_err-check_views-clause-fault
returns-in_err-check_views-clause-fault c =
    let m = c.args.message.now in
    let size = c.in_ok-size.size in
    let fault : IsFault c.in_err-check_views.field-0.0 (tree_in m) =
    no_views c.in_err-check_views.field-0.0 (views_in m.fields size) (tree_in m)
    (behind m size c.in_ok-size.ensures.size)
    (subst (λ fs. IsRefusal c.in_err-check_views.field-0.0 (views_in fs size))
    c.fields-fields.ensures c.in_err-check_views.ensures.fault) in
    search rules

pub returns-in-Ok-clause-tree : goal.returns-in-Ok-clause-tree
returns-in-Ok-clause-tree c =
    let m = c.args.message.now in
    let size = c.in_ok-size.size in
    behind m size c.in_ok-size.ensures.size
    ∙ (ap (λ fs. views_in fs size) (sym c.fields-fields.ensures) ∙ c.in-Ok.ensures)

pub returns-in-Err-clause-fault : goal.returns-in-Err-clause-fault
returns-in-Err-clause-fault c =
    let m = c.args.message.now in
    let size = c.in_ok-size.size in
    let ok = c.in_ok-check_views.ensures.ok in (
      ok.0,
      behind m size c.in_ok-size.ensures.size
          ∙ (ap (λ fs. views_in fs size) (sym c.fields-fields.ensures) ∙ ok.1),
    )
