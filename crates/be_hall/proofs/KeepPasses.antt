-- Splitting and joining passes keep the rule.
use Rattle.std.proofs.Common.{◌≡◌, ℕ, ◌+◌, ◌≢◌, List, [], ◌∷◌, ◌++◌, length, slice_index, set, Option, sym, ap, ◌∙◌, subst, ⊎_elim, arith}
use mathlib.Core.Option.{some}
use lib.ListN.{get_elem?}
use Rattle.atomic_table.specs.Table.{State, Splits, Joins}
use Rattle.atomic_table.proofs.Lists.{at_set, at_snoc, at_longer}
use Rattle.be_hall.specs.declared.view.View.{View}
use Rattle.be_hall.specs.declared.view.Mark.{Mark}
use Rattle.be_hall.specs.declared.view.Commit.{Commit}
use Rattle.be_hall.specs.declared.view.About.{About}
use Rattle.be_hall.specs.Numbers.{total}
use Rattle.be_hall.specs.Machine.{Machine, leads}
use Rattle.be_hall.specs.Views.{gathered, HasPlace, Has, times, counted, parted, parting, joined, spent}
use Rattle.be_hall.specs.History.{Knows}
use Rattle.be_hall.specs.Stop.{Stops}
use Rattle.be_hall.specs.Rule.{HoldsMark, Tied, Kept}
use Rattle.be_hall.proofs.Stopping.{stop_parted, stop_joined}
use Rattle.be_hall.proofs.Growth.{total_set, each_append, rises_append}
use Rattle.be_hall.specs.Misses.{Family, Misses}
use Rattle.be_hall.proofs.Marked.{held_renewed}
use Rattle.be_hall.proofs.MissLemmas.{missed_parted, missed_joined}
use Rattle.be_hall.proofs.Families.{family_parted, family_joined}
use Rattle.be_hall.proofs.Sums.{total_append}

pub gathered_joined : {P M E : Type 0} (v w : View P M E) → gathered (joined v w) ≡ gathered v + gathered w
gathered_joined {M = M} {E = E} v w = let t = total_append {A = List (Commit M E)} length v.ended (w.own ∷ w.ended) in omega arith

module _ {P M E T : Type 0} (machine : P → Machine M E) (meaning : T → M) (log : T → List (ℕ × E)) (a : About P M) where
  abbrev V : Type 0
  V = View P M E

  abbrev St : Type 0
  St = State (Option T) V

  abbrev Rule : St → Type 0
  Rule = Kept machine meaning log a

  abbrev x : Machine M E
  x = machine a.rules

  -- what the rule asks of one view
  abbrev Good : (s : St) → Rule s → ℕ → V → Type 0
  Good s r j v = ((y : Mark M E) → Has v.marks y → (get_elem? r.holders y.place ≡ some (some j)) × Tied (leads x a.opening r.history) r.logs y)
      × Knows x a.opening r.history v
      × ((b : About P M) → v.about ≡ b ∷ [] → b ≡ a)

  good : (s : St) (r : Rule s) (j : ℕ) (v : V) → get_elem? s.views j ≡ some v → Good s r j v
  good s r j v at = (r.marked j v at, r.knows j v at, λ b is. r.about j v b at is)

  -- other views, in which each number stands as often
  viewed : (s : St) (r : Rule s) (views : List V) → ((j : ℕ) (v : V) → get_elem? views j ≡ some v → Good s r j v) → ((p j : ℕ) → get_elem? r.holders p ≡ some (some j) → HoldsMark views j p) → ((n : ℕ) → total (counted n) views ≡ total (counted n) s.views) → Misses views → Family views → Stops (slice_index s.words 8) views
      → Rule record { words = s.words; homes = s.homes; views = views }
  viewed s r views all has same misses family stops = record {
    history = r.history;
    holders = r.holders;
    logs = r.logs;
    wide = r.wide;
    long = r.long;
    all = r.all;
    all_logs = r.all_logs;
    home = r.home;
    out = r.out;
    held = has;
    marked = λ j v at. (all j v at).0;
    clock = r.clock;
    knows = λ j v at. (all j v at).1;
    each_once = λ n. same n ∙ r.each_once n;
    bound = r.bound;
    room = r.room;
    legal = r.legal;
    fit = r.fit;
    sound = r.sound;
    in_logs = r.in_logs;
    in_one_log = r.in_one_log;
    misses = misses;
    family = family;
    stops = stops;
    about = λ j v b at. (all j v at).2 b;
  }

  pub splits : (id : ℕ) (v : V) → Splits Rule id v (parting v) (parted v)
  splits id v s r at =
      let vs : List V = set s.views id (parting v) in
      let k = r.knows id v at in
      let mine : Good s r id (parting v) = ((λ y h. r.marked id v at y h), k, λ b is. r.about id v b at is) in
      viewed s r (vs ++ parted v ∷ [])
      (λ j u e. ⊎_elim
      (λ old. ⊎_elim
      (λ (t : (j ≡ id) × (parting v ≡ u)). subst (λ (z : ℕ × V). Good s r z.0 z.1) (λ i. (sym t.0 i, t.1 i)) mine)
      (λ (t : (j ≢ id) × (get_elem? s.views j ≡ some u)). good s r j u t.1)
      (at_set s.views id j (parting v) u old))
      (λ (t : parted v ≡ u). subst (Good s r j) t ((λ y h. absurd h), (k.0, tt, tt, tt, tt), λ b is. r.about id v b at is))
      (at_snoc vs (parted v) u j e))
      (λ p j e. let h = held_renewed s.views id v (parting v) p j at (λ h. h) (r.held p j e) in (h.0, at_longer vs (parted v ∷ []) j h.0 h.1, h.2))
      (λ n. let t = total_append (counted n) vs (parted v ∷ []) in let one = total_set (counted n) s.views id v (parting v) at in omega arith)
      (missed_parted s.views id v at r.misses)
      (family_parted s.views id v at r.family)
      (stop_parted (slice_index s.words 8) s.views id v at r.stops)

  pub joins : (id : ℕ) (v : V) (other : ℕ) (w : V) → w.marks ≡ [] → Joins Rule id v other w (joined v w) spent
  joins id v other w bare s r at apart there =
      let vs : List V = set s.views id (joined v w) in
      let w_at : get_elem? s.views other ≡ some w = ⊎_elim (λ (t : (other ≡ id) × (joined v w ≡ w)). absurd (apart t.0)) (λ (t : (other ≢ id) × (get_elem? s.views other ≡ some w)). t.1) (at_set s.views id other (joined v w) w there) in
      let k = r.knows id v at in
      let l = r.knows other w w_at in
      viewed s r (set vs other spent)
      (λ j u e. ⊎_elim
      (λ (t : (j ≡ other) × (spent ≡ u)). subst (Good s r j) t.1 ((λ y h. absurd h), (omega arith, tt, tt, tt, tt), λ b is. let no : 0 ≡ 1 = ap length is in absurd (omega arith)))
      (λ (t : (j ≢ other) × (get_elem? vs j ≡ some u)). ⊎_elim
      (λ (q : (j ≡ id) × (joined v w ≡ u)). subst (Good s r j) q.1 (
        (λ y h. subst (λ (i : ℕ). (get_elem? r.holders y.place ≡ some (some i)) × Tied (leads x a.opening r.history) r.logs y) (sym q.0) (r.marked id v at y h)),
        (omega arith, k.1, each_append x a.opening r.history v.ended w.own w.ended k.2 l.1 l.2, k.3, rises_append v.ended w.own w.ended k.4 l.3 l.4),
        λ b is. r.about id v b at is,
      ))
      (λ (q : (j ≢ id) × (get_elem? s.views j ≡ some u)). good s r j u q.1)
      (at_set s.views id j (joined v w) u t.1))
      (at_set vs other j spent u e))
      (λ p j e. held_renewed vs other w spent p j there (λ h. absurd (subst (λ (l : List (Mark M E)). HasPlace l p) bare h).1) (held_renewed s.views id v (joined v w) p j at (λ h. h) (r.held p j e)))
      (λ n. let one = total_set (counted n) s.views id v (joined v w) at in let two = total_set (counted n) vs other w spent there in let three = total_append (times n) v.ended (w.own ∷ w.ended) in omega arith)
      (missed_joined s.views id other v w at apart w_at r.misses)
      (family_joined s.views id other v w at apart w_at r.family)
      (stop_joined (slice_index s.words 8) s.views id other v w at apart w_at r.stops)
