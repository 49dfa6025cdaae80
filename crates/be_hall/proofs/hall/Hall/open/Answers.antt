use Rattle.std.proofs.Common.{sym, ap, ◌∙◌, subst, map, length, Some, ◌≤◌, ◌+◌, ◌*◌, ◌≡◌}
use Rattle.atomic_table.specs.Table.{opening}
use Rattle.be_hall.specs.Numbers.{total}
use Rattle.be_hall.specs.Machine.{AllFit}
use Rattle.be_hall.specs.Views.{blank}
use Rattle.be_hall.specs.Rule.{Kept}
use Rattle.be_hall.specs.Passes.{about_of}
use Rattle.be_hall.proofs.KeepOpen.{opens, zeros_of, zeros_long, map_long}
use Rattle.be_hall.proofs.hall.Hall.open.Goals as goal

pub new-requires : goal.new-requires
new-requires g c =
    let parts = c.args.parts.items in
    let rules_are = c.of.ensures in
    let parts_are = c.of-2.ensures in
    let a = about_of g.P.Parts.meaning record { rules = c.of.result; opening = c.of-2.result; limit = c.args.limit } in
    let is : a.opening ≡ map g.P.Parts.meaning parts = λ i. map g.P.Parts.meaning (parts_are i).items in
    let count = c.places-places.ensures ∙ (sym ((g.met.P.Parts.lawful c.args.rules).as_many _ c.requires.sound) ∙ map_long g.P.Parts.meaning parts) in
    subst (λ xs. Kept g.P.Parts.machine g.P.Parts.meaning g.P.Parts.log a (opening c.as_slice.result.now xs (blank a))) (sym c.in_ok-slots.ensures)
    (opens g.P.Parts.machine g.P.Parts.meaning g.P.Parts.log a c.as_slice.result.now parts (c.as_slice.ensures.value ∙ (c.in_ok-words.ensures ∙ ap zeros_of (c.lock_of.ensures ∙ ap (λ n. 8 * n + 16) count))) is
    (subst (λ r. (g.P.Parts.machine r).sound a.opening) (sym rules_are) (subst (λ l. (g.P.Parts.machine c.args.rules).sound l) (sym is) c.requires.sound))
    (subst (λ r. total (g.P.Parts.machine r).budget a.opening ≤ c.args.limit) (sym rules_are) (subst (λ l. total (g.P.Parts.machine c.args.rules).budget l ≤ c.args.limit) (sym is) c.requires.budgets))
    c.requires.limit
    (subst (λ r. AllFit (g.P.Parts.machine r).fits 0 a.opening) (sym rules_are) (subst (λ l. AllFit (g.P.Parts.machine c.args.rules).fits 0 l) (sym is) c.requires.fits))
    c.requires.logs)

pub invariant_of-hall-in-Ok : goal.invariant_of-hall-in-Ok
invariant_of-hall-in-Ok g c =
    let ok = c.in-Ok.ensures.ok in
    let parts = c.args.parts.items in
    let many = map_long g.P.Parts.meaning parts in
    let count = sym many ∙ ((g.met.P.Parts.lawful c.args.rules).as_many _ c.requires.sound ∙ sym c.places-places.ensures) in
    record {
      same_rules = ap (λ k. k.rules.value) ok.5 ∙ c.of.ensures;
      sized = (ok.1 ∙ (ap length c.in_ok-slots.ensures ∙ (map_long Some parts ∙ count)), ok.0 ∙ (ap length (c.as_slice.ensures.value ∙ c.in_ok-words.ensures) ∙ (zeros_long c.lock_of.result ∙ c.lock_of.ensures)));
    }

pub returns-in-Ok-clause-opened : goal.returns-in-Ok-clause-opened
returns-in-Ok-clause-opened g c =
    let meaning = g.P.Parts.meaning in
    ap (about_of meaning) c.in-Ok.ensures.ok.5 ∙ (λ i. record { rules = c.of.ensures i; opening = map meaning (c.of-2.ensures i).items; limit = c.args.limit })
