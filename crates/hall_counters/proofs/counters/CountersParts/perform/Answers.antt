use Rattle.std.proofs.Common.{◌≡◌, ◌<◌, ◌-◌, ℕ, List, sym, ap, ◌∙◌, subst, arith, deque_len, deque_capacity}
use lib.ListN.{get_elem?}
use Rattle.be_hall.specs.Hands.{meant, part_at, with_part, places_of}
use Rattle.be_hall.specs.Machine.{Fits, HeldFit, IsReady}
use Rattle.be_hall.proofs.Holding.{with_other, same_places, spare_of, meant_with, logs_with}
use Rattle.hall_counters.specs.declared.counters.Counter.{Counter}
use Rattle.hall_counters.specs.declared.transfer.Count.{Count}
use Rattle.hall_counters.specs.declared.transfer.Transfer.{Transfer}
use Rattle.hall_counters.specs.Counting.{counting, moved}
use Rattle.hall_counters.proofs.Moving.{Fit, two, goes, fit_then, room_left}
use Rattle.hall_counters.proofs.counters.CountersParts.perform.Goals as goal

some_room : (n k : ℕ) → 0 < k - n → n < k
some_room n k h = omega arith

pub give_one-requires : goal.give_one-requires
give_one-requires c =
    let m : Counter → Count = λ x. x.count in
    let held = c.args.held.now.parts in
    let e = c.args.ready.transfer in
    let places = c.args.self.now.places in
    let t = two m places held e c.requires.fitting (subst (λ k. IsReady (counting places) k e) c.requires.seen c.requires.permitted) in
    (t.0, t.2, t.5, t.6, some_room _ _ (spare_of (λ x. deque_capacity x.log - deque_len x.log) 0 held e.source t.0 c.ascends.ensures t.2 c.requires.spare))

pub get_one-requires : goal.get_one-requires
get_one-requires c =
    let m : Counter → Count = λ x. x.count in
    let held = c.args.held.now.parts in
    let e = c.args.ready.transfer in
    let places = c.args.self.now.places in
    let t = two m places held e c.requires.fitting (subst (λ k. IsReady (counting places) k e) c.requires.seen c.requires.permitted) in
    let g = c.give_one.ensures.given in
    let apart = λ (is : e.target ≡ e.source). t.4 (sym is) in
    (t.1, ap (λ l. part_at l e.target) g.3 ∙ (with_other held e.source e.target g.1 apart ∙ t.3), room_left m c.args.number held e.target t.1 c.requires.number.1 t.3 c.requires.fits)

pub returns-clause-places : goal.returns-clause-places
returns-clause-places c =
    let m : Counter → Count = λ x. x.count in
    let held = c.args.held.now.parts in
    let e = c.args.ready.transfer in
    let places = c.args.self.now.places in
    let t = two m places held e c.requires.fitting (subst (λ k. IsReady (counting places) k e) c.requires.seen c.requires.permitted) in
    let g = c.give_one.ensures.given in
    let apart = λ (is : e.target ≡ e.source). t.4 (sym is) in
    let h = c.get_one.ensures.got in
    let mid = ap (λ l. part_at l e.target) (sym g.3) ∙ h.2 in
    let at_z = sym (with_other held e.source e.target g.1 apart) ∙ mid in
    let whole = h.3 ∙ ap (λ l. with_part l e.target h.1) g.3 in
    ap places_of whole ∙ (same_places (with_part held e.source g.1) e.target h.1 ∙ same_places held e.source g.1)

pub returns-clause-after : goal.returns-clause-after
returns-clause-after c = λ all s f.
    let m : Counter → Count = λ x. x.count in
    let held = c.args.held.now.parts in
    let e = c.args.ready.transfer in
    let places = c.args.self.now.places in
    let t = two m places held e c.requires.fitting (subst (λ k. IsReady (counting places) k e) c.requires.seen c.requires.permitted) in
    let g = c.give_one.ensures.given in
    let apart = λ (is : e.target ≡ e.source). t.4 (sym is) in
    let h = c.get_one.ensures.got in
    let mid = ap (λ l. part_at l e.target) (sym g.3) ∙ h.2 in
    let at_z = sym (with_other held e.source e.target g.1 apart) ∙ mid in
    let whole = h.3 ∙ ap (λ l. with_part l e.target h.1) g.3 in
    subst (λ l. Fits (moved all e (get_elem? all e.source) (get_elem? all e.target)) (meant m l)) (sym whole) (goes m all held e g.0 g.1 h.0 h.1 c.ascends.ensures g.2 at_z g.4 h.4 f)

pub returns-clause-fits : goal.returns-clause-fits
returns-clause-fits c =
    let m : Counter → Count = λ x. x.count in
    let held = c.args.held.now.parts in
    let e = c.args.ready.transfer in
    let places = c.args.self.now.places in
    let t = two m places held e c.requires.fitting (subst (λ k. IsReady (counting places) k e) c.requires.seen c.requires.permitted) in
    let g = c.give_one.ensures.given in
    let apart = λ (is : e.target ≡ e.source). t.4 (sym is) in
    let h = c.get_one.ensures.got in
    let mid = ap (λ l. part_at l e.target) (sym g.3) ∙ h.2 in
    let at_z = sym (with_other held e.source e.target g.1 apart) ∙ mid in
    let whole = h.3 ∙ ap (λ l. with_part l e.target h.1) g.3 in
    subst (λ l. HeldFit Fit c.args.number (meant m l)) (sym whole) (fit_then m c.args.number held e g.0 g.1 h.0 h.1 c.requires.number.0 g.2 at_z g.4 h.4 c.requires.fits)

pub returns-clause-logs : goal.returns-clause-logs
returns-clause-logs c =
    let m : Counter → Count = λ x. x.count in
    let held = c.args.held.now.parts in
    let e = c.args.ready.transfer in
    let places = c.args.self.now.places in
    let t = two m places held e c.requires.fitting (subst (λ k. IsReady (counting places) k e) c.requires.seen c.requires.permitted) in
    let g = c.give_one.ensures.given in
    let apart = λ (is : e.target ≡ e.source). t.4 (sym is) in
    let h = c.get_one.ensures.got in
    let mid = ap (λ l. part_at l e.target) (sym g.3) ∙ h.2 in
    let at_z = sym (with_other held e.source e.target g.1 apart) ∙ mid in
    let whole = h.3 ∙ ap (λ l. with_part l e.target h.1) g.3 in
    let log : Counter → List (ℕ × Transfer) = λ x. x.log.items in
    ap (meant log) whole ∙ (meant_with log (with_part held e.source g.1) e.target h.0 h.1 mid h.5 ∙ logs_with log 0 held e.source g.0 g.1 (c.args.number, e) c.ascends.ensures g.2 g.5)
