-- Marking a place and giving it back keep the rule.
use Rattle.std.proofs.Common.{◌≡◌, inl, ℕ, ◌+◌, ◌*◌, ◌-◌, ◌/◌, ◌<◌, ◌≤◌, ◌≢◌, eqb, List, [], ◌∷◌, ◌++◌, length, get_or, set, Option, Some, sym, refl, ap, ◌∙◌, subst, ⊎_elim, arith, length-set, get_or-set_other, get_or-set_same, eq-eqb, ne_eqb}
use mathlib.Core.Logic.{dite}
use mathlib.Core.Option.{none, some, some-injective, some-ne-none}
use mathlib.Core.Option as opt
use native.Mathlib.Decide.{ℕ_discrete}
use lib.ListN.{get_elem?}
use lib.Seq.{set-get_or}
use prog.Atomic.{either}
use Rattle.atomic_table.specs.Table.{State, Me, step, keeps, takes, gives, stepped, Allows}
use Rattle.atomic_table.proofs.Lists.{at_set, set_here, set_else}
use Rattle.be_hall.specs.declared.view.View.{View}
use Rattle.be_hall.specs.declared.view.Mark.{Mark}
use Rattle.be_hall.specs.declared.view.About.{About}
use Rattle.be_hall.specs.Numbers.{total, once}
use Rattle.be_hall.specs.Machine.{AllFit, Machine, leads}
use Rattle.be_hall.specs.Views.{HasPlace, mark, Has, but_last, times, counted, marking, missing, letting_go, spent}
use Rattle.be_hall.specs.History.{Knows, RisesOver, EachRises, AllStand, EachStand}
use Rattle.be_hall.specs.Rule.{HoldsMark, Tied, AtHome, Kept}
use Rattle.be_hall.specs.Steps.{tries, lets_go, looks, glances, Sees}
use Rattle.be_hall.proofs.Stopping.{stop_set}
use Rattle.be_hall.specs.Misses.{IsAlone, IsHadElsewhere, Misses}
use Rattle.be_hall.proofs.MissLemmas.{still_missed, marked_more, missed_more, marked_less, has_before}
use Rattle.be_hall.proofs.Families.{family_stays, family_kept, not_alone}
use Rattle.be_hall.proofs.Marked.{has_snoc, has_left, has_last, but_last_snoc, place_before, held_renewed}
use Rattle.be_hall.proofs.Growth.{there, inside, total_set, fits_known, fits_logs}

module _ {A : Type 0} where
  pub by_option : (Q : opt.Option A → Type 0) → Q none → ((a : A) → Q (some a)) → (o : opt.Option A) → Q o
  by_option Q n s none = n
  by_option Q n s (some a) = s a

module _ {P M E T : Type 0} (machine : P → Machine M E) (meaning : T → M) (log : T → List (ℕ × E)) (a : About P M) where
  abbrev V : Type 0
  V = View P M E

  abbrev St : Type 0
  St = State (Option T) V

  abbrev Own : Type 0
  Own = Me (Option T) V

  abbrev Rule : St → Type 0
  Rule = Kept machine meaning log a

  abbrev x : Machine M E
  x = machine a.rules

  abbrev Spot : Type 0
  Spot = opt.Option ℕ

  -- the view w knows of the history what the view v knew
  pub record Alike (v w : V) : Type 0 where
    pub about : w.about ≡ v.about
    pub seen : w.seen ≡ v.seen
    pub own : w.own ≡ v.own
    pub ended : w.ended ≡ v.ended
    pub branches : w.branches ≡ v.branches
    pub raised : w.raised ≡ v.raised
    pub knows : w.knows ≡ v.knows

  -- what the clauses on views ask, after a step of the seat id that adds nothing to the history
  same_total : (s : St) (r : Rule s) (id : ℕ) (v w : V) → get_elem? s.views id ≡ some v → Alike v w → (n : ℕ) → total (counted n) (set s.views id w) ≡ once (length r.history) n
  same_total s r id v w at same n = let t = total_set (counted n) s.views id v w at in let e : times n w.own ≡ times n v.own = ap (times n) same.own in let f : total (times n) w.ended ≡ total (times n) v.ended = ap (total (times n)) same.ended in let was = r.each_once n in omega arith

  still_knows : (s : St) (r : Rule s) (id : ℕ) (v w : V) → get_elem? s.views id ≡ some v → Alike v w
      → (j : ℕ) (u : V) → get_elem? (set s.views id w) j ≡ some u → Knows x a.opening r.history u
  still_knows s r id v w at same j u e = ⊎_elim
      (λ (t : (j ≡ id) × (w ≡ u)). let k = r.knows id v at in subst (Knows x a.opening r.history) t.1 (
        subst (λ (n : ℕ). n ≤ length r.history) (sym same.seen) k.0,
        subst (AllStand x a.opening r.history) (sym same.own) k.1,
        subst (EachStand x a.opening r.history) (sym same.ended) k.2,
        subst (RisesOver 0) (sym same.own) k.3,
        subst EachRises (sym same.ended) k.4,
      ))
      (λ (t : (j ≢ id) × (get_elem? s.views j ≡ some u)). r.knows j u t.1)
      (at_set s.views id j w u e)

  still_about : (s : St) (r : Rule s) (id : ℕ) (v w : V) → get_elem? s.views id ≡ some v → Alike v w → (j : ℕ) (u : V) (b : About P M) → get_elem? (set s.views id w) j ≡ some u → u.about ≡ b ∷ [] → b ≡ a
  still_about s r id v w at same j u b e is = ⊎_elim
      (λ (t : (j ≡ id) × (w ≡ u)). r.about id v b at (sym same.about ∙ (ap (λ (z : V). z.about) t.1 ∙ is)))
      (λ (t : (j ≢ id) × (get_elem? s.views j ≡ some u)). r.about j u b t.1 is)
      (at_set s.views id j w u e)

  -- a step that changes no lock word, no home and no mark
  unmoved : (s : St) (r : Rule s) (i id : ℕ) (me : Own) (w : V) → get_elem? s.views id ≡ some me.0 → Alike me.0 w → w.marks ≡ me.0.marks → Misses (set s.views id w) → Rule (stepped s i (get_or s.words i 0) id me.1 w keeps)
  unmoved s r i id me w at same marks misses = subst (λ (ws : List ℕ). Rule record { words = ws; homes = s.homes; views = set s.views id w }) (sym (set-get_or s.words i 0)) record {
    history = r.history;
    holders = r.holders;
    logs = r.logs;
    wide = r.wide;
    long = r.long;
    all = r.all;
    all_logs = r.all_logs;
    home = r.home;
    out = r.out;
    held = λ p j e. held_renewed s.views id me.0 w p j at (subst (λ (l : List (Mark M E)). HasPlace l p) (sym marks)) (r.held p j e);
    marked = λ j v e y h. ⊎_elim
        (λ (t : (j ≡ id) × (w ≡ v)). r.marked j me.0 (ap (get_elem? s.views) t.0 ∙ at) y (subst (λ (l : List (Mark M E)). Has l y) (ap (λ (u : V). u.marks) (sym t.1) ∙ marks) h))
        (λ (t : (j ≢ id) × (get_elem? s.views j ≡ some v)). r.marked j v t.1 y h)
        (at_set s.views id j w v e);
    clock = r.clock;
    knows = still_knows s r id me.0 w at same;
    each_once = same_total s r id me.0 w at same;
    bound = r.bound;
    room = r.room;
    legal = r.legal;
    fit = r.fit;
    sound = r.sound;
    in_logs = r.in_logs;
    in_one_log = r.in_one_log;
    misses = misses;
    family = family_kept s.views id me.0 w at r.family same.branches (λ p h. subst (λ (l : List (Mark M E)). HasPlace l p) marks h);
    stops = stop_set (get_or s.words 8 0) (get_or s.words 8 0) s.views id me.0 w refl at same.raised same.knows r.stops;
    about = still_about s r id me.0 w at same;
  }

  -- the place p, which was free, goes to the seat id, and its lock word is b
  takes_it : (s : St) (r : Rule s) (p b id : ℕ) (me : Own) (y : T) → 0 < b → 0 < length me.0.branches → get_elem? s.views id ≡ some me.0 → get_elem? r.holders p ≡ some none → get_elem? s.homes p ≡ some (some (Some y))
      → Tied (leads x a.opening r.history) r.logs (mark p (meaning y) (log y)) → Rule (stepped s (8 * p + 16) b id me.1 (marking me.0 (mark p (meaning y) (log y))) (takes p (Some y)))
  takes_it s r p b id me y above real at free here tied =
      let long = r.long in
      let wide = r.wide in
      let w : V = marking me.0 (mark p (meaning y) (log y)) in
      let inn : p < length r.holders = inside r.holders p none free in
      let same : Alike me.0 w = record { about = refl; seen = refl; own = refl; ended = refl; branches = refl; raised = refl; knows = refl } in
      let homes_long = length-set s.homes p none in
      let other : (q j : ℕ) → get_elem? r.holders q ≡ some (some j) → q ≢ p = λ q j e is. some-ne-none j (some-injective (some j) none (sym e ∙ (ap (get_elem? r.holders) is ∙ free))) in
      record {
        history = r.history;
        holders = set r.holders p (some id);
        logs = r.logs;
        wide = length-set s.words (8 * p + 16) b ∙ (wide ∙ ap (λ (n : ℕ). 8 * n + 16) (sym homes_long));
        long = length-set r.holders p (some id) ∙ (long ∙ sym homes_long);
        all = r.all ∙ sym homes_long;
        all_logs = r.all_logs ∙ sym homes_long;
        home = λ q e. ⊎_elim
            (λ (t : (q ≡ p) × (some id ≡ none)). absurd (some-ne-none id t.1))
            (λ (t : (q ≢ p) × (get_elem? r.holders q ≡ some none)). let h = r.home q t.1 in
            (get_or-set_other s.words (8 * p + 16) (8 * q + 16) b 0 (λ z. t.0 (omega arith)) ∙ h.0, (h.1.0, set_else s.homes p q none t.0 ∙ h.1.1, h.1.2, h.1.3)))
            (at_set r.holders p q (some id) none e);
        out = λ q j e. ⊎_elim
            (λ (t : (q ≡ p) × (some id ≡ some j)). (
              subst (λ (n : ℕ). 0 < n) (sym (ap (λ (n : ℕ). get_or (set s.words (8 * p + 16) b) (8 * n + 16) 0) t.0 ∙ get_or-set_same s.words (8 * p + 16) b 0 (omega arith))) above,
              ap (get_elem? (set s.homes p none)) t.0 ∙ set_here s.homes p none (omega arith),
            ))
            (λ (t : (q ≢ p) × (get_elem? r.holders q ≡ some (some j))). let h = r.out q j t.1 in
            (subst (λ (n : ℕ). 0 < n) (sym (get_or-set_other s.words (8 * p + 16) (8 * q + 16) b 0 (λ z. t.0 (omega arith)))) h.0, set_else s.homes p q none t.0 ∙ h.1))
            (at_set r.holders p q (some id) (some j) e);
        held = λ q j e. ⊎_elim
            (λ (t : (q ≡ p) × (some id ≡ some j)).
            let mk : Mark M E = mark p (meaning y) (log y) in
            subst (λ (z : ℕ × ℕ). HoldsMark (set s.views id w) z.0 z.1) (λ i. (some-injective id j t.1 i, sym t.0 i)) (w, set_here s.views id w (inside s.views id me.0 at), (mk, has_last me.0.marks mk, refl)))
            (λ (t : (q ≢ p) × (get_elem? r.holders q ≡ some (some j))). held_renewed s.views id me.0 w q j at (λ h. (h.0, has_left me.0.marks (mark p (meaning y) (log y)) h.0 h.1, h.2)) (r.held q j t.1))
            (at_set r.holders p q (some id) (some j) e);
        marked = λ j v e z h. ⊎_elim
            (λ (t : (j ≡ id) × (w ≡ v)). ⊎_elim
            (λ old. let o = r.marked id me.0 at z old in
            (set_else r.holders p z.place (some id) (other z.place id o.0) ∙ (o.0 ∙ ap (λ (n : ℕ). some (some n)) (sym t.0)), o.1))
            (λ (new : mark p (meaning y) (log y) ≡ z). subst (λ (u : Mark M E). (get_elem? (set r.holders p (some id)) u.place ≡ some (some j)) × Tied (leads x a.opening r.history) r.logs u) new
            (set_here r.holders p (some id) inn ∙ ap (λ (n : ℕ). some (some n)) (sym t.0), tied))
            (has_snoc me.0.marks (mark p (meaning y) (log y)) z (subst (λ (u : V). Has u.marks z) (sym t.1) h)))
            (λ (t : (j ≢ id) × (get_elem? s.views j ≡ some v)). let o = r.marked j v t.1 z h in
            (set_else r.holders p z.place (some id) (other z.place j o.0) ∙ o.0, o.1))
            (at_set s.views id j w v e);
        clock = get_or-set_other s.words (8 * p + 16) 0 b 0 (λ z. omega arith) ∙ r.clock;
        knows = still_knows s r id me.0 w at same;
        each_once = same_total s r id me.0 w at same;
        bound = r.bound;
        room = r.room;
        legal = r.legal;
        fit = r.fit;
        sound = r.sound;
        in_logs = r.in_logs;
        in_one_log = r.in_one_log;
        misses = marked_more s.views id me.0 at r.misses (mark p (meaning y) (log y));
        family = family_stays s.views id me.0 w at r.family refl (λ q h. real);
        stops = stop_set (get_or s.words 8 0) (get_or (set s.words (8 * p + 16) b) 8 0) s.views id me.0 w (get_or-set_other s.words (8 * p + 16) 8 b 0 (λ z. omega arith)) at same.raised same.knows r.stops;
        about = still_about s r id me.0 w at same;
      }

  -- a marked place stays so, and its lock word is b
  slept : (s : St) (r : Rule s) (p b id : ℕ) (me : Own) (w : V) → 0 < b → p < length s.homes → 0 < get_or s.words (8 * p + 16) 0 → get_elem? s.views id ≡ some me.0 → Alike me.0 w → w.marks ≡ me.0.marks → Misses (set s.views id w)
      → Rule (stepped s (8 * p + 16) b id me.1 w keeps)
  slept s r p b id me w above inn busy at same marks misses =
      let wide = r.wide in
      record {
        history = r.history;
        holders = r.holders;
        logs = r.logs;
        wide = length-set s.words (8 * p + 16) b ∙ wide;
        long = r.long;
        all = r.all;
        all_logs = r.all_logs;
        home = λ q e. let h = r.home q e in
            (get_or-set_other s.words (8 * p + 16) (8 * q + 16) b 0 (λ z. let same : p ≡ q = omega arith in let zero_word : get_or s.words (8 * p + 16) 0 ≡ 0 = ap (λ (n : ℕ). get_or s.words (8 * n + 16) 0) same ∙ h.0 in absurd (omega arith)) ∙ h.0, h.1);
        out = λ q j e. let h = r.out q j e in (
          dite (ℕ_discrete q p)
              (λ here. subst (λ (n : ℕ). 0 < n) (sym (ap (λ (n : ℕ). get_or (set s.words (8 * p + 16) b) (8 * n + 16) 0) here ∙ get_or-set_same s.words (8 * p + 16) b 0 (omega arith))) above)
              (λ else. subst (λ (n : ℕ). 0 < n) (sym (get_or-set_other s.words (8 * p + 16) (8 * q + 16) b 0 (λ z. else (omega arith)))) h.0),
          h.1,
        );
        held = λ q j e. held_renewed s.views id me.0 w q j at (subst (λ (l : List (Mark M E)). HasPlace l q) (sym marks)) (r.held q j e);
        marked = λ j v e y h. ⊎_elim
            (λ (t : (j ≡ id) × (w ≡ v)). r.marked j me.0 (ap (get_elem? s.views) t.0 ∙ at) y (subst (λ (l : List (Mark M E)). Has l y) (ap (λ (u : V). u.marks) (sym t.1) ∙ marks) h))
            (λ (t : (j ≢ id) × (get_elem? s.views j ≡ some v)). r.marked j v t.1 y h)
            (at_set s.views id j w v e);
        clock = get_or-set_other s.words (8 * p + 16) 0 b 0 (λ z. omega arith) ∙ r.clock;
        knows = still_knows s r id me.0 w at same;
        each_once = same_total s r id me.0 w at same;
        bound = r.bound;
        room = r.room;
        legal = r.legal;
        fit = r.fit;
        sound = r.sound;
        in_logs = r.in_logs;
        in_one_log = r.in_one_log;
        misses = misses;
        family = family_kept s.views id me.0 w at r.family same.branches (λ q h. subst (λ (l : List (Mark M E)). HasPlace l q) marks h);
        stops = stop_set (get_or s.words 8 0) (get_or (set s.words (8 * p + 16) b) 8 0) s.views id me.0 w (get_or-set_other s.words (8 * p + 16) 8 b 0 (λ z. omega arith)) at same.raised same.knows r.stops;
        about = still_about s r id me.0 w at same;
      }

  -- a free place has the lock word 0, and a marked one has not
  free_if : (s : St) (r : Rule s) (p : ℕ) → p < length s.homes → get_or s.words (8 * p + 16) 0 ≡ 0 → get_elem? r.holders p ≡ some none
  free_if s r p h zero_word = let long = r.long in let t = there r.holders p (omega arith) in
      by_option (λ o. get_elem? r.holders p ≡ some o → get_elem? r.holders p ≡ some none) (λ e. e) (λ id e. let o = r.out p id e in absurd (omega arith)) t.0 t.1

  -- another pass has a place whose lock word isn't 0, where this one hasn't marked it
  missed_by : (s : St) (r : Rule s) (p id : ℕ) (me : Own) → p < length s.homes → get_or s.words (8 * p + 16) 0 ≢ 0 → get_elem? s.views id ≡ some me.0 → (HasPlace me.0.marks p → ⊥) → IsHadElsewhere s.views id p
  missed_by s r p id me within busy at apart = let long = r.long in let t = there r.holders p (omega arith) in
      by_option (λ (o : Spot). get_elem? r.holders p ≡ some o → IsHadElsewhere s.views id p)
      (λ free. absurd (busy (r.home p free).0))
      (λ j out.
      let h = r.held p j out in
      (j, h.0, (λ is. apart (subst (λ (z : V). HasPlace z.marks p) (some-injective h.0 me.0 (sym h.1 ∙ (ap (get_elem? s.views) is ∙ at))) h.2)), h.1, inl (r.misses.had j h.0 h.1 p h.2)))
      t.0 t.1

  -- so this one isn't alone
  isnt_alone : (s : St) (r : Rule s) (p id : ℕ) (me : Own) → p < length s.homes → get_or s.words (8 * p + 16) 0 ≢ 0 → get_elem? s.views id ≡ some me.0 → (HasPlace me.0.marks p → ⊥) → IsAlone me.0 → ⊥
  isnt_alone s r p id me within busy at apart = let long = r.long in let t = there r.holders p (omega arith) in
      by_option (λ (o : Spot). get_elem? r.holders p ≡ some o → IsAlone me.0 → ⊥)
      (λ free. absurd (busy (r.home p free).0))
      (λ j out.
      let h = r.held p j out in
      let other : j ≢ id = λ is. apart (subst (λ (z : V). HasPlace z.marks p) (some-injective h.0 me.0 (sym h.1 ∙ (ap (get_elem? s.views) is ∙ at))) h.2) in
      not_alone s.views id me.0 at r.family j h.0 other h.1 (r.family.real j h.0 h.1 p h.2))
      t.0 t.1

  tries_keep : (slots id : ℕ) (me : Own) (p : ℕ) → p < slots → 0 < length me.0.branches → (HasPlace me.0.marks p → ⊥) → Allows Rule slots id me (8 * p + 16) (λ n. either (eqb n 0) 1 n) (tries meaning log (step slots (8 * p + 16) 0 1 none) me)
  tries_keep slots id me p fits real apart s r count at _ =
      let n : ℕ = get_or s.words (8 * p + 16) 0 in
      let back : p ≡ ((8 * p + 16) - 16) / 8 = omega arith in
      let now : List M = leads x a.opening r.history in
      dite (ℕ_discrete n 0)
      (λ hit.
      let free = free_if s r p (omega arith) hit in
      let h = (r.home p free).1 in
      let y : T = h.0 in
      let mk : Mark M E = mark p (meaning y) (log y) in (
        marking me.0 mk,
        takes p (Some y),
        h.1,
        subst (λ b. Rule (stepped s (8 * p + 16) (either b 1 n) id me.1 (marking me.0 mk) (takes p (Some y)))) (sym (eq-eqb n 0 hit)) (takes_it s r p 1 id me y (omega arith) real at free h.1 (h.2, h.3)),
        (
          (λ _. (y, ap (λ (k : ℕ). (k, Some y) ∷ me.1) back, ap (λ (k : ℕ). marking me.0 (mark k (meaning y) (log y))) back)),
          λ no. absurd (no hit),
        ),
      ))
      (λ miss. (
        missing me.0 p,
        keeps,
        tt,
        subst (λ b. Rule (stepped s (8 * p + 16) (either b 1 n) id me.1 (missing me.0 p) keeps)) (sym (ne_eqb n 0 miss)) (unmoved s r (8 * p + 16) id me (missing me.0 p) at record { about = refl; seen = refl; own = refl; ended = refl; branches = refl; raised = refl; knows = refl } refl (missed_more s.views id me.0 at r.misses p (missed_by s r p id me (omega arith) miss at apart))),
        ((λ hit. absurd (miss hit)), λ _. (refl, ap (missing me.0) back, isnt_alone s r p id me (omega arith) miss at apart)),
      ))

  pub tries_keep_at : (slots id : ℕ) (me : Own) (p word : ℕ) → word ≡ 8 * p + 16 → p < slots → 0 < length me.0.branches → (HasPlace me.0.marks p → ⊥) → Allows Rule slots id me word (λ n. either (eqb n 0) 1 n) (tries meaning log (step slots word 0 1 none) me)
  tries_keep_at slots id me p word is fits real apart = subst (λ (w : ℕ). Allows Rule slots id me w (λ n. either (eqb n 0) 1 n) (tries meaning log (step slots w 0 1 none) me)) (sym is) (tries_keep slots id me p fits real apart)

  -- the same where the lock word becomes 2 in any case
  waits_keep : (slots id : ℕ) (me : Own) (p : ℕ) → p < slots → 0 < length me.0.branches → (HasPlace me.0.marks p → ⊥) → Allows Rule slots id me (8 * p + 16) (λ _. 2) (tries meaning log (step slots (8 * p + 16) 2 0 none) me)
  waits_keep slots id me p fits real apart s r count at _ =
      let n : ℕ = get_or s.words (8 * p + 16) 0 in
      let back : p ≡ ((8 * p + 16) - 16) / 8 = omega arith in
      dite (ℕ_discrete n 0)
      (λ hit.
      let free = free_if s r p (omega arith) hit in
      let h = (r.home p free).1 in
      let y : T = h.0 in
      let mk : Mark M E = mark p (meaning y) (log y) in (
        marking me.0 mk,
        takes p (Some y),
        h.1,
        takes_it s r p 2 id me y (omega arith) real at free h.1 (h.2, h.3),
        (
          (λ _. (y, ap (λ (k : ℕ). (k, Some y) ∷ me.1) back, ap (λ (k : ℕ). marking me.0 (mark k (meaning y) (log y))) back)),
          λ no. absurd (no hit),
        ),
      ))
      (λ miss. (
        missing me.0 p,
        keeps,
        tt,
        slept s r p 2 id me (missing me.0 p) (omega arith) (omega arith) (omega arith) at record { about = refl; seen = refl; own = refl; ended = refl; branches = refl; raised = refl; knows = refl } refl (missed_more s.views id me.0 at r.misses p (missed_by s r p id me (omega arith) miss at apart)),
        ((λ hit. absurd (miss hit)), λ _. (refl, ap (missing me.0) back, isnt_alone s r p id me (omega arith) miss at apart)),
      ))

  pub waits_keep_at : (slots id : ℕ) (me : Own) (p word : ℕ) → word ≡ 8 * p + 16 → p < slots → 0 < length me.0.branches → (HasPlace me.0.marks p → ⊥) → Allows Rule slots id me word (λ _. 2) (tries meaning log (step slots word 2 0 none) me)
  waits_keep_at slots id me p word is fits real apart = subst (λ (w : ℕ). Allows Rule slots id me w (λ _. 2) (tries meaning log (step slots w 2 0 none) me)) (sym is) (waits_keep slots id me p fits real apart)

  -- the seat id gives back the place that it marked last
  lets_it_go : (s : St) (r : Rule s) (p id : ℕ) (me : Own) (y : T) (carried : List (ℕ × Option T)) (init : List (Mark M E)) → get_elem? s.views id ≡ some me.0
      → me.0.marks ≡ init ++ mark p (meaning y) (log y) ∷ [] → ((z : Mark M E) → Has init z → z.place ≢ p) → Rule (stepped s (8 * p + 16) 0 id ((p, Some y) ∷ carried) (letting_go me.0) gives)
  lets_it_go s r p id me y carried init at is apart =
      let long = r.long in
      let wide = r.wide in
      let all = r.all in
      let w : V = letting_go me.0 in
      let now : List M = leads x a.opening r.history in
      let left : w.marks ≡ init = ap but_last is ∙ but_last_snoc init (mark p (meaning y) (log y)) in
      let mine = r.marked id me.0 at (mark p (meaning y) (log y)) (subst (λ (l : List (Mark M E)). Has l (mark p (meaning y) (log y))) (sym is) (has_last init (mark p (meaning y) (log y)))) in
      let inn : p < length r.holders = inside r.holders p (some id) mine.0 in
      let same : Alike me.0 w = record { about = refl; seen = refl; own = refl; ended = refl; branches = refl; raised = refl; knows = refl } in
      let homes_long = length-set s.homes p (some (Some y)) in
      record {
        history = r.history;
        holders = set r.holders p none;
        logs = r.logs;
        wide = length-set s.words (8 * p + 16) 0 ∙ (wide ∙ ap (λ (n : ℕ). 8 * n + 16) (sym homes_long));
        long = length-set r.holders p none ∙ (long ∙ sym homes_long);
        all = all ∙ sym homes_long;
        all_logs = r.all_logs ∙ sym homes_long;
        home = λ q e. ⊎_elim
            (λ (t : (q ≡ p) × (none ≡ none)). subst (λ (k : ℕ). (get_or (set s.words (8 * p + 16) 0) (8 * k + 16) 0 ≡ 0) × AtHome meaning log now r.logs (set s.homes p (some (Some y))) k) (sym t.0)
            (get_or-set_same s.words (8 * p + 16) 0 0 (omega arith), (y, set_here s.homes p (some (Some y)) (omega arith), mine.1.0, mine.1.1)))
            (λ (t : (q ≢ p) × (get_elem? r.holders q ≡ some none)). let h = r.home q t.1 in
            (get_or-set_other s.words (8 * p + 16) (8 * q + 16) 0 0 (λ z. t.0 (omega arith)) ∙ h.0, (h.1.0, set_else s.homes p q (some (Some y)) t.0 ∙ h.1.1, h.1.2, h.1.3)))
            (at_set r.holders p q none none e);
        out = λ q j e. ⊎_elim
            (λ (t : (q ≡ p) × (none ≡ some j)). absurd (some-ne-none j (sym t.1)))
            (λ (t : (q ≢ p) × (get_elem? r.holders q ≡ some (some j))). let h = r.out q j t.1 in
            (subst (λ (n : ℕ). 0 < n) (sym (get_or-set_other s.words (8 * p + 16) (8 * q + 16) 0 0 (λ z. t.0 (omega arith)))) h.0, set_else s.homes p q (some (Some y)) t.0 ∙ h.1))
            (at_set r.holders p q none (some j) e);
        held = λ q j e. ⊎_elim
            (λ (t : (q ≡ p) × (none ≡ some j)). absurd (some-ne-none j (sym t.1)))
            (λ (t : (q ≢ p) × (get_elem? r.holders q ≡ some (some j))). held_renewed s.views id me.0 w q j at
            (λ h. subst (λ (l : List (Mark M E)). HasPlace l q) (sym left) (place_before init (mark p (meaning y) (log y)) q t.0 (subst (λ (l : List (Mark M E)). HasPlace l q) is h)))
            (r.held q j t.1))
            (at_set r.holders p q none (some j) e);
        marked = λ j v e z h. ⊎_elim
            (λ (t : (j ≡ id) × (w ≡ v)).
            let old : Has init z = subst (λ (l : List (Mark M E)). Has l z) (ap (λ (u : V). u.marks) (sym t.1) ∙ left) h in
            let o = r.marked id me.0 at z (subst (λ (l : List (Mark M E)). Has l z) (sym is) (has_left init (mark p (meaning y) (log y)) z old)) in
            (set_else r.holders p z.place none (apart z old) ∙ (o.0 ∙ ap (λ (n : ℕ). some (some n)) (sym t.0)), o.1))
            (λ (t : (j ≢ id) × (get_elem? s.views j ≡ some v)). let o = r.marked j v t.1 z h in
            (set_else r.holders p z.place none (λ here. t.0 (some-injective j id (some-injective (some j) (some id) (sym o.0 ∙ (ap (get_elem? r.holders) here ∙ mine.0))))) ∙ o.0, o.1))
            (at_set s.views id j w v e);
        clock = get_or-set_other s.words (8 * p + 16) 0 0 0 (λ z. omega arith) ∙ r.clock;
        knows = still_knows s r id me.0 w at same;
        each_once = same_total s r id me.0 w at same;
        bound = r.bound;
        room = r.room;
        legal = r.legal;
        fit = r.fit;
        sound = r.sound;
        in_logs = r.in_logs;
        in_one_log = r.in_one_log;
        misses = marked_less s.views id me.0 at r.misses;
        family = family_kept s.views id me.0 w at r.family refl (λ q h. (h.0, has_before me.0.marks h.0 h.1, h.2));
        stops = stop_set (get_or s.words 8 0) (get_or (set s.words (8 * p + 16) 0) 8 0) s.views id me.0 w (get_or-set_other s.words (8 * p + 16) 8 0 0 (λ z. omega arith)) at same.raised same.knows r.stops;
        about = still_about s r id me.0 w at same;
      }

  lets_go_keeps : (slots id : ℕ) (me : Own) (p : ℕ) (y : T) (carried : List (ℕ × Option T)) (init : List (Mark M E)) → me.1 ≡ (p, Some y) ∷ carried → me.0.marks ≡ init ++ mark p (meaning y) (log y) ∷ []
      → ((z : Mark M E) → Has init z → z.place ≢ p) → Allows Rule slots id me (8 * p + 16) (λ _. 0) (lets_go (step slots (8 * p + 16) 0 0 none) me)
  lets_go_keeps slots id me p y carried init out is apart s r _ at _ = (
    letting_go me.0,
    gives,
    tt,
    subst (λ (c : List (ℕ × Option T)). Rule (stepped s (8 * p + 16) 0 id c (letting_go me.0) gives)) (sym out) (lets_it_go s r p id me y carried init at is apart),
    (refl, refl),
  )

  pub lets_go_keeps_at : (slots id : ℕ) (me : Own) (p word : ℕ) (y : T) (carried : List (ℕ × Option T)) (init : List (Mark M E)) → word ≡ 8 * p + 16 → me.1 ≡ (p, Some y) ∷ carried → me.0.marks ≡ init ++ mark p (meaning y) (log y) ∷ []
      → ((z : Mark M E) → Has init z → z.place ≢ p) → Allows Rule slots id me word (λ _. 0) (lets_go (step slots word 0 0 none) me)
  lets_go_keeps_at slots id me p word y carried init is out marks apart =
      subst (λ (w : ℕ). Allows Rule slots id me w (λ _. 0) (lets_go (step slots w 0 0 none) me)) (sym is) (lets_go_keeps slots id me p y carried init out marks apart)

  -- what the history so far tells a view
  unfoldable pub sees : (s : St) (r : Rule s) (slots id : ℕ) (v : V) → get_elem? s.views id ≡ some v → length s.homes ≡ slots → Sees machine slots a (get_or s.words 0 0) v
  sees s r slots id v at count =
      let now : List M = leads x a.opening r.history in
      let k = r.knows id v at in
      let clock = r.clock in
      let room = r.room in
      let bound = r.bound in
      record {
        history = r.history;
        count = sym clock;
        small = omega arith;
        suits = (r.legal, k.0, k.1, k.2);
        sound = r.sound;
        long = r.all ∙ count;
        gives = fits_known now v.marks (λ y has. (r.marked id v at y has).1.0);
        fit = subst (λ (n : ℕ). AllFit x.fits n now) (sym clock) r.fit;
        rises = (k.3, k.4);
        no_more = λ c. let each = r.each_once c in let e : once (get_or s.words 0 0) c ≡ once (length r.history) c = ap (λ (z : ℕ). once z c) clock in let t = total_set (counted c) s.views id v (spent {P = P} {M = M} {E = E}) at in let z : counted c (spent {P = P} {M = M} {E = E}) ≡ 0 = refl in omega arith;
        logged_once = (r.logs, r.all_logs ∙ count, fits_logs r.logs v.marks (λ y has. (r.marked id v at y has).1.1), r.in_logs, r.in_one_log);
      }

  pub looks_keeps : (slots id : ℕ) (me : Own) → Allows Rule slots id me 0 (λ n. n) (looks machine (step slots 0 0 0 none) me)
  looks_keeps slots id me s r count at _ = (
    me.0,
    keeps,
    tt,
    unmoved s r 0 id me me.0 at record { about = refl; seen = refl; own = refl; ended = refl; branches = refl; raised = refl; knows = refl } refl (still_missed s.views id me.0 at r.misses me.0 refl refl refl refl),
    (
      refl,
      λ b about_b. let same : b ≡ a = r.about id me.0 b at about_b in subst (λ (z : About P M). Sees machine slots z (get_or s.words 0 0) me.0) (sym same) (sees s r slots id me.0 at count),
    ),
  )

  pub glances_keeps : (slots id : ℕ) (me : Own) → Allows Rule slots id me 8 (λ n. n) (glances machine (step slots 8 0 0 none) me)
  glances_keeps slots id me s r count at _ = (
    me.0,
    keeps,
    tt,
    unmoved s r 8 id me me.0 at record { about = refl; seen = refl; own = refl; ended = refl; branches = refl; raised = refl; knows = refl } refl (still_missed s.views id me.0 at r.misses me.0 refl refl refl refl),
    (
      refl,
      λ b about_b. (
        get_or s.words 0 0,
        let same : b ≡ a = r.about id me.0 b at about_b in subst (λ (z : About P M). Sees machine slots z (get_or s.words 0 0) me.0) (sym same) (sees s r slots id me.0 at count),
      ),
    ),
  )
