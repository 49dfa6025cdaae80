-- A commit keeps the rule.
use Rattle.std.proofs.Common.{◌≡◌, ℕ, suc, ◌+◌, ◌*◌, ◌%◌, ◌^◌, ◌<◌, ◌≢◌, List, [], ◌∷◌, ◌++◌, map, length, get_or, set, Option, sym, refl, ap, ◌∙◌, subst, ⊎_elim, arith, length-set, get_or-set_other, get_or-set_same}
use mathlib.Core.Option.{none, some, some-injective, some-ne-none}
use mathlib.Core.Option as opt
use lib.ListN.{get_elem?}
use Rattle.atomic_table.specs.Table.{State, Me, step, keeps, stepped, Allows}
use Rattle.atomic_table.proofs.Lists.{at_set, set_else}
use Rattle.be_hall.specs.declared.view.View.{View}
use Rattle.be_hall.specs.declared.view.Mark.{Mark}
use Rattle.be_hall.specs.declared.view.About.{About}
use Rattle.be_hall.specs.Numbers.{total, one_if, once}
use Rattle.be_hall.specs.Machine.{AllFit, Machine, Lawful, Fits, IsReady, leads}
use Rattle.be_hall.specs.Views.{commit, Has, known, logs_of, counted, committing}
use Rattle.be_hall.specs.Logs.{appended, logged, InHistory}
use Rattle.be_hall.specs.History.{Knows}
use Rattle.be_hall.specs.Rule.{Tied, Kept}
use Rattle.be_hall.specs.Steps.{Committed, commits}
use Rattle.be_hall.proofs.Marked.{has_by_places, held_renewed}
use Rattle.be_hall.proofs.MissLemmas.{same_marked}
use Rattle.be_hall.proofs.Families.{family_kept}
use Rattle.be_hall.proofs.KeepPlaces.{sees}
use Rattle.be_hall.proofs.Stopping.{stop_set}
use Rattle.be_hall.proofs.Growth.{inside, total_set, longer, leads_snoc, legal_snoc, all_longer, each_longer, all_snoc, rises_snoc, times_snoc, logged_snoc, in_longer, in_snoc, fits_known, held_place, renew, fits_once, appended_places, appended_fits, fits_logs, log_places}

module _ {P M E T : Type 0} (machine : P → Machine M E) (meaning : T → M) (log : T → List (ℕ × E)) (a : About P M) (lawful : Lawful (machine a.rules)) where
  abbrev V : Type 0
  V = View P M E

  abbrev St : Type 0
  St = State (Option T) V

  abbrev Own : Type 0
  Own = Me (Option T) V

  abbrev Rule : St → Type 0
  Rule = Kept machine meaning log a

  abbrev x : Machine M E
  x = machine a.rules

  abbrev Spot : Type 0
  Spot = opt.Option ℕ

  as_long : (now : List M) (e : E) → x.sound now → x.permits now e → length (x.after now e) ≡ length now
  as_long now e s p = lawful.as_many (x.after now e) (lawful.stays_sound now e s p) ∙ sym (lawful.as_many now s)

  -- after an entry, as plain facts: the list, the logs, and the marks
  pub record Next (now : List M) (logs : List (List (ℕ × E))) (h : List E) (holders : List Spot) (id : ℕ) (ys : List (Mark M E)) (e : E) : Type 0 where
    pub logs' : List (List (ℕ × E))
    pub zs : List (Mark M E)
    pub as_many : length logs' ≡ length logs
    pub same_places : map (λ y. y.place) zs ≡ map (λ y. y.place) ys
    pub ties : (z : Mark M E) → Has zs z → (get_elem? holders z.place ≡ some (some id)) × Tied (x.after now e) logs' z
    -- what isn't marked by this pass stays
    pub stays : (p : ℕ) (o : Spot) → get_elem? holders p ≡ some o → (o ≡ some id → ⊥) → (get_elem? (x.after now e) p ≡ get_elem? now p) × (get_elem? logs' p ≡ get_elem? logs p)
    pub in_logs : (p : ℕ) (l : List (ℕ × E)) → get_elem? logs' p ≡ some l → InHistory (h ++ e ∷ []) l
    pub their_logs : logs_of zs ≡ appended (x.keeper e) (length h + 1, e) (logs_of ys)
    pub in_one_log : (n : ℕ) → total (logged n) logs' ≡ total (logged n) logs + one_if (length h + 1) n

  next : (now : List M) (logs : List (List (ℕ × E))) (h : List E) (holders : List Spot) (id : ℕ) (ys : List (Mark M E)) (e : E) → x.sound now → length logs ≡ length now
      → ((y : Mark M E) → Has ys y → (get_elem? holders y.place ≡ some (some id)) × Tied now logs y)
      → ((p : ℕ) (l : List (ℕ × E)) → get_elem? logs p ≡ some l → InHistory h l) → IsReady x (known ys) e → Next now logs h holders id ys e
  next now logs h holders id ys e sound even tied in_logs ready =
      let go = ready now sound (fits_known now ys (λ y has. (tied y has).1.0)) in
      let k : ℕ = x.keeper e in
      let at_k = held_place ys k (go.1 k (lawful.keeper_touched now e sound go.0)) in
      let k_is : get_elem? holders k ≡ some (some id) = ap (get_elem? holders) (sym at_k.2) ∙ (tied at_k.0 at_k.1).0 in
      let old : get_elem? logs k ≡ some at_k.0.log = ap (get_elem? logs) (sym at_k.2) ∙ (tied at_k.0 at_k.1).1.1 in
      let grown : List (ℕ × E) = at_k.0.log ++ (length h + 1, e) ∷ [] in
      let more : List (List (ℕ × E)) = set logs k grown in
      let size : length more ≡ length logs = length-set logs k grown in
      let wide : length (x.after now e) ≡ length now = as_long now e sound go.0 in
      let new = renew (x.after now e) more ys (λ y has. let i : y.place < length now = inside now y.place y.meaning (tied y has).1.0 in (omega arith, omega arith)) in record {
        logs' = more;
        zs = new.0;
        as_many = size;
        same_places = new.1;
        ties = λ z has. let t = new.2 z has in let mine = t.0 in (ap (get_elem? holders) (sym mine.2) ∙ (tied mine.0 mine.1).0, (t.1, t.2));
        stays = λ p o there_o other.
            let apart : p ≢ k = λ is. other (some-injective o (some id) (sym there_o ∙ (ap (get_elem? holders) is ∙ k_is))) in
            let untouched : x.touches now e p → ⊥ = λ touch. let m = held_place ys p (go.1 p touch) in
            other (some-injective o (some id) (sym there_o ∙ (ap (get_elem? holders) (sym m.2) ∙ (tied m.0 m.1).0))) in
            (lawful.elsewhere now e p sound go.0 untouched, set_else logs k p grown apart);
        in_logs = λ p l at. ⊎_elim
            (λ (t : (p ≡ k) × (grown ≡ l)). subst (InHistory (h ++ e ∷ [])) t.1 (in_snoc h e at_k.0.log (in_logs k at_k.0.log old)))
            (λ (t : (p ≢ k) × (get_elem? logs p ≡ some l)). in_longer h e l (in_logs p l t.1))
            (at_set logs k p grown l at);
        their_logs = fits_once more (logs_of new.0) (appended k (length h + 1, e) (logs_of ys)) (fits_logs more new.0 (λ z has. (new.2 z has).2)) (appended_fits logs k at_k.0.log (length h + 1, e) (logs_of ys) old (fits_logs logs ys (λ y has. (tied y has).1.1)))
            (log_places new.0 ∙ (new.1 ∙ sym (appended_places k (length h + 1, e) (logs_of ys) ∙ log_places ys)));
        in_one_log = λ n. let s = total_set (logged n) logs k at_k.0.log grown old in let g = logged_snoc n at_k.0.log (length h + 1, e) in omega arith;
      }

  -- the table with one entry more
  longer_by : (s : St) (r : Rule s) (id : ℕ) (me : Own) (e : E) (n : ℕ) → get_elem? s.views id ≡ some me.0 → n ≡ suc (length r.history)
      → x.permits (leads x a.opening r.history) e → Fits (leads x a.opening r.history) (known me.0.marks)
      → (t : Next (leads x a.opening r.history) r.logs r.history r.holders id me.0.marks e) → Rule (stepped s 0 n id me.1 (committing me.0 (length r.history + 1) e t.zs) keeps)
  longer_by s r id me e n at count permits fits t =
      let h : List E = r.history in
      let o : List M = a.opening in
      let now : List M = leads x o h in
      let h' : List E = h ++ e ∷ [] in
      let w : V = committing me.0 (length h + 1) e t.zs in
      let lead : leads x o h' ≡ x.after now e = leads_snoc x o h e in
      let long : length h' ≡ suc (length h) = longer h e in
      let wide = r.wide in
      let sum = total_set x.budget in
      let falls = lawful.falls now e r.sound permits in
      let room = r.room in
      let mine_not : (p : ℕ) → get_elem? r.holders p ≡ some none → (get_elem? (x.after now e) p ≡ get_elem? now p) × (get_elem? t.logs' p ≡ get_elem? r.logs p) = λ p free. t.stays p none free (λ is. some-ne-none id (sym is)) in
      record {
        history = h';
        holders = r.holders;
        logs = t.logs';
        wide = length-set s.words 0 n ∙ wide;
        long = r.long;
        all = ap length lead ∙ (as_long now e r.sound permits ∙ r.all);
        all_logs = t.as_many ∙ r.all_logs;
        home = λ p free. let k = r.home p free in let same = mine_not p free in
            (get_or-set_other s.words 0 (8 * p + 16) n 0 (λ z. omega arith) ∙ k.0, (k.1.0, k.1.1, ap (λ (l : List M). get_elem? l p) lead ∙ (same.0 ∙ k.1.2), same.1 ∙ k.1.3));
        out = λ p j taken. let k = r.out p j taken in (subst (λ (m : ℕ). 0 < m) (sym (get_or-set_other s.words 0 (8 * p + 16) n 0 (λ z. omega arith))) k.0, k.1);
        held = λ p j taken. held_renewed s.views id me.0 w p j at (has_by_places me.0.marks t.zs p t.same_places) (r.held p j taken);
        marked = λ j v there_v y has. ⊎_elim
            (λ (q : (j ≡ id) × (w ≡ v)). let k = t.ties y (subst (λ (u : V). Has u.marks y) (sym q.1) has) in
            (k.0 ∙ ap (λ (i : ℕ). some (some i)) (sym q.0), (ap (λ (l : List M). get_elem? l y.place) lead ∙ k.1.0, k.1.1)))
            (λ (q : (j ≢ id) × (get_elem? s.views j ≡ some v)). let k = r.marked j v q.1 y has in let same = t.stays y.place (some j) k.0 (λ is. q.0 (some-injective j id is)) in
            (k.0, (ap (λ (l : List M). get_elem? l y.place) lead ∙ (same.0 ∙ k.1.0), same.1 ∙ k.1.1)))
            (at_set s.views id j w v there_v);
        clock = get_or-set_same s.words 0 n 0 (omega arith) ∙ (count ∙ sym long);
        knows = λ j v there_v. ⊎_elim
            (λ (q : (j ≡ id) × (w ≡ v)). let k = r.knows id me.0 at in subst (Knows x o h') q.1 (
              omega arith,
              all_snoc x o h e (known me.0.marks) me.0.own fits k.1,
              each_longer x o h e me.0.ended k.2,
              rises_snoc x o h 0 me.0.own (commit (length h + 1) e (known me.0.marks)) (omega arith) k.1 k.3 (omega arith),
              k.4,
            ))
            (λ (q : (j ≢ id) × (get_elem? s.views j ≡ some v)). let k = r.knows j v q.1 in (omega arith, all_longer x o h e v.own k.1, each_longer x o h e v.ended k.2, k.3, k.4))
            (at_set s.views id j w v there_v);
        each_once = λ k. let was = r.each_once k in let set_it = total_set (counted k) s.views id me.0 w at in let one = times_snoc k me.0.own (commit (length h + 1) e (known me.0.marks)) in
            let more : once (length h') k ≡ once (length h) k + one_if (suc (length h)) k = ap (λ (c : ℕ). once c k) long in let same : one_if (length h + 1) k ≡ one_if (suc (length h)) k = ap (λ (c : ℕ). one_if c k) (omega arith) in omega arith;
        bound = r.bound;
        room = let less : total x.budget (leads x o h') ≡ total x.budget (x.after now e) = ap (total x.budget) lead in omega arith;
        fit = let next_one : length h + 1 ≡ length h' = omega arith in subst (λ (z : ℕ × List M). AllFit x.fits z.0 z.1) (λ i. (next_one i, sym lead i)) (lawful.fits_after (length h) now e r.sound permits r.fit);
        legal = legal_snoc x o h e r.legal permits;
        sound = subst x.sound (sym lead) (lawful.stays_sound now e r.sound permits);
        in_logs = t.in_logs;
        in_one_log = λ k. let was = r.in_one_log k in let now_one = t.in_one_log k in let more : once (length h') k ≡ once (length h) k + one_if (suc (length h)) k = ap (λ (c : ℕ). once c k) long in let same : one_if (length h + 1) k ≡ one_if (suc (length h)) k = ap (λ (c : ℕ). one_if c k) (omega arith) in omega arith;
        misses = same_marked s.views id me.0 at r.misses (length h + 1) e t.zs t.same_places;
        family = family_kept s.views id me.0 w at r.family refl (λ p has. has_by_places t.zs me.0.marks p (sym t.same_places) has);
        stops = stop_set (get_or s.words 8 0) (get_or (set s.words 0 n) 8 0) s.views id me.0 w (get_or-set_other s.words 0 8 n 0 (λ z. omega arith)) at refl refl r.stops;
        about = λ j v b there_v is. ⊎_elim
            (λ (q : (j ≡ id) × (w ≡ v)). r.about id me.0 b at (ap (λ (u : V). u.about) q.1 ∙ is))
            (λ (q : (j ≢ id) × (get_elem? s.views j ≡ some v)). r.about j v b q.1 is)
            (at_set s.views id j w v there_v);
      }

  abbrev first_of : E → List E → E
  first_of d [] = d
  first_of d (y ∷ ys) = y

  pub makes : (slots id : ℕ) (me : Own) (e : E) (es : List E) → es ≡ e ∷ [] → IsReady x (known me.0.marks) e
      → Allows Rule slots id me 0 (λ n. (n + 1) % 2 ^ 64) (commits machine es (step slots 0 1 0 none) me)
  unfolding sees
  makes slots id me e es is ready s r count_homes at _ =
      let h : List E = r.history in
      let now : List M = leads x a.opening h in
      let clock = r.clock in
      let room = r.room in
      let bound = r.bound in
      let mine : (y : Mark M E) → Has me.0.marks y → (get_elem? r.holders y.place ≡ some (some id)) × Tied now r.logs y = r.marked id me.0 at in
      let fits = fits_known now me.0.marks (λ y has. (mine y has).1.0) in
      let go = ready now r.sound fits in
      let falls = lawful.falls now e r.sound go.0 in
      let even : length r.logs ≡ length now = r.all_logs ∙ sym r.all in
      let t = next now r.logs h r.holders id me.0.marks e r.sound even mine r.in_logs ready in
      let n : ℕ = get_or s.words 0 0 in
      let count : (n + 1) % 18446744073709551616 ≡ suc (length h) = omega arith in
      let told : Committed machine slots a e n me.0 (committing me.0 (length h + 1) e t.zs) = record {
        sees = sees machine meaning log a s r slots id me.0 at count_homes;
        below = omega arith;
        marks = t.zs;
        is = λ i. committing me.0 (sym clock i + 1) e t.zs;
        places = t.same_places;
        gives = fits_known (x.after now e) t.zs (λ y has. (t.ties y has).1.0);
        logs = t.their_logs ∙ (λ i. appended (x.keeper e) (sym clock i + 1, e) (logs_of me.0.marks));
      } in (
        committing me.0 (length h + 1) e t.zs,
        keeps,
        tt,
        longer_by s r id me e ((n + 1) % 2 ^ 64) at count go.0 fits t,
        λ b e' about_b is'.
            let same : b ≡ a = r.about id me.0 b at about_b in
            let this : e ≡ e' = ap (first_of e) (sym is ∙ is') in
            (refl, subst (λ (z : About P M × E). Committed machine slots z.0 z.1 n me.0 (committing me.0 (length h + 1) e t.zs)) (λ i. (sym same i, this i)) told),
      )
