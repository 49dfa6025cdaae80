use Rattle.std.proofs.Common.{◌≡◌, ◌∙◌, [], arith, eqb-true, subst, sym}
use Rattle.std.proofs.lemmas.List.{nil_from_length}
use Rattle.be_asking.specs.declared.activity.Runner.TheVariants as by
use Rattle.be_script.specs.Script.{declared_by}
use Rattle.be_written.specs.declared.note.Note.TheVariants as note
use Rattle.be_noted.proofs.Makers.{noted_as}
use Rattle.be_noted.proofs.Updates.{none_listed, says_listed}
use Rattle.be_noted.specs.Listed.{IsListed}
use Rattle.be_noted.proofs.listing.note_listing.Goals as goal

pub returns-then-is_empty : goal.returns-then-is_empty
returns-then-is_empty c =
    let d = declared_by c.args.script.now in
    let parts = c.args.held.now.parts in
    let views = c.in_ok-views.views in
    let few = eqb-true _ 0 (sym c.is_empty.ensures ∙ c.if-is_empty.true) in
    let none : views.items ≡ [] = nil_from_length views.items (omega (arith, views.ok.0, few)) in
    none_listed d parts c.args.w c.requires
    (subst (IsListed d parts c.args.w) none c.in_ok-views.ensures)

pub returns : goal.returns
returns c =
    let d = declared_by c.args.script.now in
    let parts = c.args.held.now.parts in
    noted_as d parts (by.Looper c.args.w) (note.Listed c.as_slice.result)
    c.in_ok-text_of.field-0.items c.in_ok-text_of.ensures
    (says_listed d parts c.args.w c.requires c.as_slice.result
    (subst (IsListed d parts c.args.w) (sym c.as_slice.ensures.value) c.in_ok-views.ensures))
