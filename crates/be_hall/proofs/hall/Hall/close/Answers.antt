use Rattle.std.proofs.Common.{◌≤◌, map, length, ◌++◌, refl, sym, ap, ◌∙◌, subst, arith}
use Rattle.be_hall.specs.Hands.{up_from}
use Rattle.be_hall.specs.Views.{gathered}
use Rattle.be_hall.specs.Logs.{flat, logged, InHistory}
use Rattle.be_hall.specs.Steps.{Sees}
use Rattle.be_hall.specs.Passes.{about_of}
use Rattle.be_hall.specs.Closing.{Closes}
use Rattle.be_hall.proofs.Closing.{mapped_values, values_long, room_enough, made_exact, pairs_in, pairs_once, pairs_room, closes}
use Rattle.be_hall.proofs.hall.Hall.close.Goals as goal

pub returns-then-clock-pass-clause-refused : goal.returns-then-clock-pass-clause-refused
returns-then-clock-pass-clause-refused g c =
    let it = c.args.pass in
    let counted = c.args.self.book.counted in
    let all = c.requires.all ∙ ap (up_from 0) (sym counted) in
    let a = about_of g.P.Parts.meaning c.args.self.table.shared.key in
    let s = c.look-clock.ensures.sees a c.requires.hall.1 in
    let same = c.look-clock.ensures.same in
    let view = ap (λ m. m.0) same.2 in (
      made_exact g.P.Parts.machine g.P.Parts.meaning g.P.Parts.log a _ _ _ it.seat.me.0 s it.counts,
      c.if-clock-pass.true,
      subst (λ n. Sees g.P.Parts.machine n a c.look-clock.result it.seat.me.0) counted s,
      refl,
      refl,
      view,
      (same.0 ∙ c.requires.hall.0, ap (λ v. v.about) view ∙ c.requires.hall.1),
    )

pub returns-in_default-clause-refused : goal.returns-in_default-clause-refused
returns-in_default-clause-refused g c =
    let it = c.args.pass in
    let counted = c.args.self.book.counted in
    let all = c.requires.all ∙ ap (up_from 0) (sym counted) in
    let a = about_of g.P.Parts.meaning c.args.self.table.shared.key in
    let s = c.look-clock.ensures.sees a c.requires.hall.1 in
    let same = c.look-clock.ensures.same in
    let view = ap (λ m. m.0) same.2 in
    let exact = made_exact g.P.Parts.machine g.P.Parts.meaning g.P.Parts.log a _ _ _ it.seat.me.0 s it.counts in (
      subst (λ n. Sees g.P.Parts.machine n a (gathered it.seat.me.0) it.seat.me.0) counted (subst (λ n. Sees g.P.Parts.machine c.args.self.book.places a n it.seat.me.0) (c.if-clock-pass.false ∙ exact) s),
      refl,
      refl,
      view,
      (same.0 ∙ c.requires.hall.0, ap (λ v. v.about) view ∙ c.requires.hall.1),
    )

pub unlog_parts-requires-clause-pairs : goal.unlog_parts-requires-clause-pairs
unlog_parts-requires-clause-pairs g c =
    let it = c.args.pass in
    let counted = c.args.self.book.counted in
    let all = c.requires.all ∙ ap (up_from 0) (sym counted) in
    let a = about_of g.P.Parts.meaning c.args.self.table.shared.key in
    let s = c.look-clock.ensures.sees a c.requires.hall.1 in
    let out = ap (λ l. flat (map g.P.Parts.log l)) c.into_parts.ensures ∙ ap flat (mapped_values g.P.Parts.log it.held.parts) in
    let few = subst (λ l. length l ≤ c.look-clock.result) (sym out) (pairs_room g.P.Parts.machine g.P.Parts.meaning g.P.Parts.log a _ _ it.seat.me.0 it.held.parts it.tied all s) in
    room_enough _ _ _ c.look-clock.result (c.in-Ok.pairs.ok.0 ∙ ap length c.in-Ok.ensures.empty.1) few c.in-Ok.ensures.room.1

pub unlog_parts-requires-clause-parts : goal.unlog_parts-requires-clause-parts
unlog_parts-requires-clause-parts g c =
    let it = c.args.pass in
    let counted = c.args.self.book.counted in
    let all = c.requires.all ∙ ap (up_from 0) (sym counted) in
    let many = c.into_parts.result.ok.0 ∙ (ap length c.into_parts.ensures ∙ values_long c.args.self.book.places it.held.parts all) in
    room_enough _ _ _ c.args.self.book.places (c.in-Ok.parts.ok.0 ∙ ap length c.in-Ok.ensures.empty.0) (omega arith) c.in-Ok.ensures.room.0

pub in_order-requires-clause-room : goal.in_order-requires-clause-room
in_order-requires-clause-room g c =
    let it = c.args.pass in
    let counted = c.args.self.book.counted in
    let all = c.requires.all ∙ ap (up_from 0) (sym counted) in
    let a = about_of g.P.Parts.meaning c.args.self.table.shared.key in
    let s = c.look-clock.ensures.sees a c.requires.hall.1 in
    let out = ap (λ l. flat (map g.P.Parts.log l)) c.into_parts.ensures ∙ ap flat (mapped_values g.P.Parts.log it.held.parts) in
    let pairs = c.unlog_parts.ensures.pairs ∙ (ap (λ l. l ++ flat (map g.P.Parts.log c.into_parts.result.items)) c.in-Ok.ensures.empty.1 ∙ out) in
    let few = subst (λ l. length l ≤ c.look-clock.result) (sym pairs) (pairs_room g.P.Parts.machine g.P.Parts.meaning g.P.Parts.log a _ _ it.seat.me.0 it.held.parts it.tied all s) in
    room_enough _ _ _ c.look-clock.result (c.in-Ok.history.ok.0 ∙ ap length c.in-Ok.ensures.empty.2) (subst (λ n. n ≤ c.look-clock.result) (sym c.unlog_parts.new.pairs.ok.0) few) c.in-Ok.ensures.room.2

pub returns-clause-closed : goal.returns-clause-closed
returns-clause-closed g c =
    let it = c.args.pass in
    let counted = c.args.self.book.counted in
    let all = c.requires.all ∙ ap (up_from 0) (sym counted) in
    let a = about_of g.P.Parts.meaning c.args.self.table.shared.key in
    let s = c.look-clock.ensures.sees a c.requires.hall.1 in
    let exact = made_exact g.P.Parts.machine g.P.Parts.meaning g.P.Parts.log a _ _ _ it.seat.me.0 s it.counts in
    let out = ap (λ l. flat (map g.P.Parts.log l)) c.into_parts.ensures ∙ ap flat (mapped_values g.P.Parts.log it.held.parts) in
    let pairs = c.unlog_parts.ensures.pairs ∙ (ap (λ l. l ++ flat (map g.P.Parts.log c.into_parts.result.items)) c.in-Ok.ensures.empty.1 ∙ out) in
    let means = c.unlog_parts.ensures.parts ∙ (ap (λ l. map g.P.Parts.meaning l ++ map g.P.Parts.meaning c.into_parts.result.items) c.in-Ok.ensures.empty.0 ∙ (ap (map g.P.Parts.meaning) c.into_parts.ensures ∙ mapped_values g.P.Parts.meaning it.held.parts)) in
    let same = c.in_order.ensures s.history
    (subst (InHistory s.history) (sym pairs) (pairs_in g.P.Parts.machine g.P.Parts.meaning g.P.Parts.log a _ _ it.seat.me.0 it.held.parts it.tied all s))
    (λ n. ap (logged n) pairs ∙ pairs_once g.P.Parts.machine g.P.Parts.meaning g.P.Parts.log a _ _ it.seat.me.0 it.held.parts it.tied all s n) in
    subst (Closes g.P.Parts.machine g.P.Parts.meaning g.P.Parts.log a it.seat.me.0 it.held.parts c.unlog_parts.new.parts.items) (sym same)
    (closes g.P.Parts.machine g.P.Parts.meaning g.P.Parts.log a _ _ it.seat.me.0 it.held.parts it.tied all s c.unlog_parts.new.parts.items (sym (c.if-clock-pass.false ∙ exact)) means)
