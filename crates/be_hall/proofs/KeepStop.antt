-- Raising stop, and asking for it, keep the rule.
use Rattle.std.proofs.Common.{◌≡◌, ℕ, ◌+◌, ◌*◌, ◌<◌, ◌≤◌, ◌≢◌, ◌⊎◌, inl, inr, true, List, [], ◌∷◌, length, get_or, set, Option, sym, refl, ap, ◌∙◌, subst, ⊎_elim, arith, length-set, get_or-set_other, get_or-set_same}
use mathlib.Core.Option.{none, some}
use lib.ListN.{get_elem?}
use Rattle.atomic_table.specs.Table.{State, Me, step, keeps, stepped, Allows}
use Rattle.atomic_table.proofs.Lists.{at_set}
use Rattle.be_facts.proofs.Truths.{true_or_false}
use Rattle.be_hall.specs.declared.view.View.{View}
use Rattle.be_hall.specs.declared.view.Mark.{Mark}
use Rattle.be_hall.specs.declared.view.About.{About}
use Rattle.be_hall.specs.Numbers.{total}
use Rattle.be_hall.specs.Machine.{Machine, leads}
use Rattle.be_hall.specs.Views.{HasPlace, Has, times, counted, raising, hearing, unheard}
use Rattle.be_hall.specs.History.{Knows, RisesOver, EachRises, AllStand, EachStand}
use Rattle.be_hall.specs.Stop.{Stops}
use Rattle.be_hall.specs.Rule.{Tied, Kept}
use Rattle.be_hall.specs.Steps.{raises, asks}
use Rattle.be_hall.proofs.Growth.{total_set}
use Rattle.be_hall.specs.Misses.{Misses}
use Rattle.be_hall.proofs.Marked.{held_renewed}
use Rattle.be_hall.proofs.MissLemmas.{still_missed}
use Rattle.be_hall.proofs.Families.{family_kept}
use Rattle.be_hall.proofs.Stopping.{stop_set, stop_raised, stop_heard}

module _ {P M E T : Type 0} (machine : P → Machine M E) (meaning : T → M) (log : T → List (ℕ × E)) (a : About P M) where
  abbrev V : Type 0
  V = View P M E

  abbrev St : Type 0
  St = State (Option T) V

  abbrev Own : Type 0
  Own = Me (Option T) V

  abbrev Rule : St → Type 0
  Rule = Kept machine meaning log a

  abbrev x : Machine M E
  x = machine a.rules

  -- all that a view says but for stop
  pub record Near (v w : V) : Type 0 where
    pub about : w.about ≡ v.about
    pub seen : w.seen ≡ v.seen
    pub own : w.own ≡ v.own
    pub ended : w.ended ≡ v.ended
    pub marks : w.marks ≡ v.marks
    pub branches : w.branches ≡ v.branches

  rung : (s : St) (r : Rule s) (n id : ℕ) (me : Own) (w : V) → get_elem? s.views id ≡ some me.0 → Near me.0 w → Misses (set s.views id w) → Stops (get_or (set s.words 8 n) 8 0) (set s.views id w) → Rule (stepped s 8 n id me.1 w keeps)
  rung s r n id me w at near misses stops =
      let wide = r.wide in
      let by : (Q : ℕ → V → Type 0) → Q id w → ((j : ℕ) (u : V) → get_elem? s.views j ≡ some u → Q j u) → (j : ℕ) (u : V) → get_elem? (set s.views id w) j ≡ some u → Q j u = λ Q mine rest j u e. ⊎_elim
      (λ (t : (j ≡ id) × (w ≡ u)). subst (λ (z : ℕ × V). Q z.0 z.1) (λ i. (sym t.0 i, t.1 i)) mine)
      (λ (t : (j ≢ id) × (get_elem? s.views j ≡ some u)). rest j u t.1)
      (at_set s.views id j w u e) in
      let k = r.knows id me.0 at in
      record {
        history = r.history;
        holders = r.holders;
        logs = r.logs;
        wide = length-set s.words 8 n ∙ wide;
        long = r.long;
        all = r.all;
        all_logs = r.all_logs;
        home = λ p e. let h = r.home p e in (get_or-set_other s.words 8 (8 * p + 16) n 0 (λ z. omega arith) ∙ h.0, h.1);
        out = λ p j e. let h = r.out p j e in (subst (λ (k : ℕ). 0 < k) (sym (get_or-set_other s.words 8 (8 * p + 16) n 0 (λ z. omega arith))) h.0, h.1);
        held = λ p j e. held_renewed s.views id me.0 w p j at (subst (λ (l : List (Mark M E)). HasPlace l p) (sym near.marks)) (r.held p j e);
        marked = by (λ j u. (y : Mark M E) → Has u.marks y → (get_elem? r.holders y.place ≡ some (some j)) × Tied (leads x a.opening r.history) r.logs y) (λ y h. r.marked id me.0 at y (subst (λ (l : List (Mark M E)). Has l y) near.marks h)) r.marked;
        clock = get_or-set_other s.words 8 0 n 0 (λ z. omega arith) ∙ r.clock;
        knows = by (λ j u. Knows x a.opening r.history u) (
          subst (λ (z : ℕ). z ≤ length r.history) (sym near.seen) k.0,
          subst (AllStand x a.opening r.history) (sym near.own) k.1,
          subst (EachStand x a.opening r.history) (sym near.ended) k.2,
          subst (RisesOver 0) (sym near.own) k.3,
          subst EachRises (sym near.ended) k.4,
        ) r.knows;
        each_once = λ c. let t = total_set (counted c) s.views id me.0 w at in let e : times c w.own ≡ times c me.0.own = ap (times c) near.own in let f : total (times c) w.ended ≡ total (times c) me.0.ended = ap (total (times c)) near.ended in let was = r.each_once c in omega arith;
        bound = r.bound;
        room = r.room;
        legal = r.legal;
        fit = r.fit;
        sound = r.sound;
        in_logs = r.in_logs;
        in_one_log = r.in_one_log;
        misses = misses;
        family = family_kept s.views id me.0 w at r.family near.branches (λ p h. subst (λ (l : List (Mark M E)). HasPlace l p) near.marks h);
        stops = stops;
        about = λ j u b e. by (λ i v. v.about ≡ b ∷ [] → b ≡ a) (λ is. r.about id me.0 b at (sym near.about ∙ is)) (λ i v. r.about i v b) j u e;
      }

  pub raises_keep : (slots id : ℕ) (me : Own) → Allows Rule slots id me 8 (λ _. 1) (λ _. raises (step slots 8 1 0 none) me 1)
  raises_keep slots id me s r _ at _ = let wide = r.wide in (
    raising me.0,
    keeps,
    tt,
    rung s r 1 id me (raising me.0) at record { about = refl; seen = refl; own = refl; ended = refl; marks = refl; branches = refl } (still_missed s.views id me.0 at r.misses (raising me.0) refl refl refl refl) (stop_raised (get_or s.words 8 0) (get_or (set s.words 8 1) 8 0) s.views id me.0 (get_or-set_same s.words 8 1 0 (omega arith)) at),
    (refl, refl),
  )

  pub asks_keep : (slots id : ℕ) (me : Own) → Allows Rule slots id me 8 (λ n. n) (asks (step slots 8 0 0 none) me)
  asks_keep slots id me s r _ at _ =
      let wide = r.wide in
      let n : ℕ = get_or s.words 8 0 in
      let same : get_or (set s.words 8 n) 8 0 ≡ n = get_or-set_same s.words 8 n 0 (omega arith) in
      ⊎_elim
      (λ (z : n ≡ 0).
      let silent : (me.0.raised ≡ true) ⊎ (me.0.knows ≡ true) → ⊥ = λ says. let one = r.stops.told id me.0 at says in absurd (omega arith) in (
        unheard me.0,
        keeps,
        tt,
        rung s r n id me (unheard me.0) at record { about = refl; seen = refl; own = refl; ended = refl; marks = refl; branches = refl } (still_missed s.views id me.0 at r.misses (unheard me.0) refl refl refl refl) (stop_set n (get_or (set s.words 8 n) 8 0) s.views id me.0 (unheard me.0) same at refl refl r.stops),
        (refl, inr (z, ⊎_elim (λ k. absurd (silent (inr k))) (λ k. k) (true_or_false me.0.knows), ⊎_elim (λ k. absurd (silent (inl k))) (λ k. k) (true_or_false me.0.raised), refl)),
      ))
      (λ (one : n ≡ 1). (
        hearing me.0,
        keeps,
        tt,
        rung s r n id me (hearing me.0) at record { about = refl; seen = refl; own = refl; ended = refl; marks = refl; branches = refl } (still_missed s.views id me.0 at r.misses (hearing me.0) refl refl refl refl) (stop_heard n (get_or (set s.words 8 n) 8 0) s.views id me.0 same one at r.stops),
        (refl, inl (one, refl)),
      ))
      r.stops.bit
