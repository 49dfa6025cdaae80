-- A run on one thread goes on.
use Rattle.std.proofs.Common.{◌≡◌, ℕ, zero, suc, ◌+◌, ◌<◌, ◌≤◌, inl, inr, Bool, true, false, List, [], ◌∷◌, ◌++◌, length, set, length-set, map, All, Option, Some, None, if◌then◌else◌, ◌==◌, refl, sym, ap, ◌∙◌, subst, arith}
use Rattle.std.proofs.lemmas.List.Elements.{All-nil, All-head, All-tail, All-weaker, All-push}
use mathlib.Core.Logic.{dite}
use mathlib.Core.Option.{some, some-injective}
use native.Mathlib.Decide.{ℕ_discrete, dec_le}
use lib.ListN.{get_elem?}
use Rattle.std.proofs.Math.ListN.{get_or}
use Rattle.be_hall.specs.Numbers.{total}
use Rattle.be_hall.specs.Hands.{places_of, up_from, meant, numbered}
use Rattle.be_hall.specs.Machine.{Machine, Lawful, Fits, IsHeld, AllFit, HeldFit, SomeFits, Legal, leads}
use Rattle.be_hall.specs.Logs.{AllBefore, appended, IsAbove}
use Rattle.be_hall.specs.Answers.{Answers}
use Rattle.be_hall.specs.declared.parts.Verdict.{Verdict}
use Rattle.be_hall.specs.declared.parts.Verdict.TheVariants as verdict
use Rattle.be_turns.specs.declared.turns.Turn.{Turn}
use Rattle.be_turns.specs.declared.turns.Turn.TheVariants as turn
use Rattle.be_turns.specs.Turning.{Tells, is_some}
use Rattle.be_serial.specs.Scheduled.{pushed_if, next_draw, draws, place_of, ready_below, Picked}
use Rattle.be_serial.specs.Running.{EachBefore, NeverStuck, Runs}
use Rattle.be_serial.specs.Known.{AllStale, Knows, Stirs}
use Rattle.std.proofs.lemmas.List.{get_or-set_same, get_or-set_other}

-- logs
module _ {E : Type 0} where
  pub numbered_logs : {T : Type 0} (log : T → List (ℕ × E)) (n k : ℕ) (xs : List T) → All (λ x. log x ≡ []) xs → EachBefore n (meant log (numbered k xs))
  numbered_logs log n k [] a = tt
  numbered_logs log n k (x ∷ xs) a = (subst (AllBefore n) (sym (All-head (λ x. log x ≡ []) x xs a)) tt, numbered_logs log n (suc k) xs (All-tail (λ x. log x ≡ []) x xs a))

  before_more : (n k : ℕ) (l : List (ℕ × E)) → n ≤ k → AllBefore n l → AllBefore k l
  before_more n k [] h a = tt
  before_more n k (x ∷ xs) h a = (let b = a.0 in omega arith, before_more n k xs h a.1)

  before_snoc : (n : ℕ) (l : List (ℕ × E)) (y : ℕ × E) → y.0 < n → AllBefore n l → AllBefore n (l ++ y ∷ [])
  before_snoc n [] y h a = (h, tt)
  before_snoc n (x ∷ xs) y h a = (a.0, before_snoc n xs y h a.1)

  pub each_appended : (n k : ℕ) (e : E) (ls : List (ℕ × List (ℕ × E))) → EachBefore n ls → EachBefore (n + 1) (appended k (n, e) ls)
  each_appended n k e [] a = tt
  each_appended n k e (l ∷ ls) a = (by_test (l.0 == k), each_appended n k e ls a.1) where
    by_test : (b : Bool) → AllBefore (n + 1) (if b then l.1 ++ (n, e) ∷ [] else l.1)
    by_test true = before_snoc (n + 1) l.1 (n, e) (omega arith) (before_more n (n + 1) l.1 (omega arith) a.0)
    by_test false = before_more n (n + 1) l.1 (omega arith) a.0

  pub is_above : (n k : ℕ) (ls : List (ℕ × List (ℕ × E))) → EachBefore n ls → IsAbove n k ls
  is_above n k [] a = tt
  is_above n k (l ∷ ls) a = (λ is. a.0, is_above n k ls a.1)

-- the entry that is made
module _ {T M E : Type 0} (x : Machine M E) (meaning : T → M) (log : T → List (ℕ × E)) (o : List M) (limit : ℕ) where
  pub some_fits : (held : List (ℕ × T)) (h : List E) → Runs x meaning log o limit held h → SomeFits x (meant meaning held)
  some_fits held h r = (leads x o h, r.sound, r.gives)

  pub leads_snoc : (now : List M) (h : List E) (e : E) → leads x now (h ++ e ∷ []) ≡ x.after (leads x now h) e
  leads_snoc now [] e = refl
  leads_snoc now (f ∷ fs) e = leads_snoc (x.after now f) fs e

  legal_snoc : (now : List M) (h : List E) (e : E) → Legal x now h → x.permits (leads x now h) e → Legal x now (h ++ e ∷ [])
  legal_snoc now [] e l p = (p, tt)
  legal_snoc now (f ∷ fs) e l p = (l.0, legal_snoc (x.after now f) fs e l.1 p)

  pub more_long : (h : List E) (e : E) → length (h ++ e ∷ []) ≡ length h + 1
  more_long [] e = refl
  more_long (f ∷ fs) e = let r = more_long fs e in omega arith

  pub goes_on : (held held' : List (ℕ × T)) (h : List E) (e : E) → Lawful x → Runs x meaning log o limit held h → x.permits (leads x o h) e
      → Fits (x.after (leads x o h) e) (meant meaning held') → places_of held' ≡ places_of held → HeldFit x.fits (length h + 1) (meant meaning held') → meant log held' ≡ appended (x.keeper e) (length h + 1, e) (meant log held)
      → Runs x meaning log o limit held' (h ++ e ∷ [])
  goes_on held held' h e lawful r p gives places fits logs =
      let now : List M = leads x o h in
      let less = lawful.falls now e r.sound p in
      let room = r.room in
      let l = more_long h e in
      record {
        legal = legal_snoc o h e r.legal p;
        sound = subst x.sound (sym (leads_snoc o h e)) (lawful.stays_sound now e r.sound p);
        gives = subst (λ a. Fits a (meant meaning held')) (sym (leads_snoc o h e)) gives;
        all = places ∙ r.all;
        fits = subst (λ n. HeldFit x.fits n (meant meaning held')) (sym l) fits;
        room = subst (λ a. length (h ++ e ∷ []) + total x.budget a ≤ limit) (sym (leads_snoc o h e)) (subst (λ n. n + total x.budget (x.after now e) ≤ limit) (sym l) (omega arith));
        logs = subst (λ n. EachBefore (n + 1) (meant log held')) (sym l) (subst (EachBefore (length h + 1 + 1)) (sym logs) (each_appended (length h + 1) (x.keeper e) e (meant log held) r.logs));
      }

  -- the last entry of a run in which nobody has a legal entry
  pub closes : (legal : List M → ℕ → Option E) (stops : E → Bool) (many : ℕ) (closed : List M → Bool) (h : List E) → Lawful x → NeverStuck x legal stops many closed → x.sound o → closed o ≡ false → Legal x o h → closed (leads x o h) ≡ true → (front : List E) × (e : E) × (h ≡ front ++ e ∷ []) × (stops e ≡ true)
  closes legal stops many closed [] lawful never sound opened l c = absurd (not_both (closed o) opened c) where
    not_both : (b : Bool) → b ≡ false → b ≡ true → ⊥
    not_both b f t = cc
  closes legal stops many closed (e ∷ es) lawful never sound opened l c = go o e es sound l c where
    go : (now : List M) (e : E) (es : List E) → x.sound now → Legal x now (e ∷ es) → closed (leads x now (e ∷ es)) ≡ true → (front : List E) × (f : E) × (e ∷ es ≡ front ++ f ∷ []) × (stops f ≡ true)
    go now e [] s k c = ([], e, refl, never.closing now e s k.0 c)
    go now e (f ∷ fs) s k c = let r = go (x.after now e) f fs (lawful.stays_sound now e s k.0) k.1 c in (e ∷ r.0, r.1, ap (λ ks. e ∷ ks) r.2, r.3)

-- what is told where all parts are in hand
module _ {M E : Type 0} (x : Machine M E) (held : List (ℕ × M)) (all : (p : ℕ) → p < x.places → IsHeld held p) where
  pub is_entry : (legal : List M → ℕ → Option E) (who : ℕ) (t : Turn E) (e : E) (now : List M) → x.sound now → Fits now held → Tells x legal who held t → t ≡ turn.Entry e → legal now who ≡ Some e
  is_entry legal who t e now s f tells is = subst (Tells x legal who held) is tells now s f

  none_is : (o : Option E) → o ≡ None → is_some o ≡ true → ⊥
  none_is None h t = false_true t where
    false_true : false ≡ true → ⊥
    false_true k = cc
  none_is (Some e) h t = cc

  pub an_entry : (legal : List M → ℕ → Option E) (who : ℕ) (t : Turn E) (now : List M) → x.sound now → Fits now held → is_some (legal now who) ≡ true → Tells x legal who held t → ((e : E) → t ≡ turn.Entry e → ⊥) → ⊥
  an_entry legal who (turn.Entry e) now s f any tells nope = nope e refl
  an_entry legal who turn.NotYet now s f any tells nope = none_is (legal now who) (tells now s f) any
  an_entry legal who (turn.Needs p) now s f any tells nope = tells.1 (all p tells.0)
  an_entry legal who turn.Ended now s f any tells nope = none_is (legal now who) (tells now s f) any

  pub a_ready : {R : Type 0} (spare : List (ℕ × ℕ)) (entry_of : R → E) (seen_by : R → List (ℕ × M)) (prepared : R → Type 0) (e : E) (v : Verdict R) (now : List M) → Lawful x → x.sound now → Fits now held → x.permits now e → Answers x held spare entry_of seen_by prepared e v → ((r : R) → v ≡ verdict.Ready r → ⊥) → ⊥
  a_ready spare entry_of seen_by prepared e (verdict.Ready r) now lawful s f p a nope = nope r refl
  a_ready spare entry_of seen_by prepared e verdict.NotLegal now lawful s f p a nope = a now s f p
  a_ready spare entry_of seen_by prepared e (verdict.Needs q) now lawful s f p a nope = a.0 (all q (lawful.touched_below now e q s p (a.1 now s f)))

  pub entry_is : {R : Type 0} (spare : List (ℕ × ℕ)) (entry_of : R → E) (seen_by : R → List (ℕ × M)) (prepared : R → Type 0) (e : E) (v : Verdict R) (r : R) → Answers x held spare entry_of seen_by prepared e v → v ≡ verdict.Ready r → entry_of r ≡ e
  entry_is spare entry_of seen_by prepared e v r a is = (subst (Answers x held spare entry_of seen_by prepared e) is a).0

-- what the seed picked so far
module _ {M E : Type 0} (x : Machine M E) (legal : List M → ℕ → Option E) (many seed : ℕ) where
  pub draws_next : (d n : ℕ) → draws seed d (suc n) ≡ next_draw seed (draws seed d n)
  draws_next d zero = refl
  draws_next d (suc n) = draws_next (next_draw seed d) n

  pub picked_snoc : (d : ℕ) (now : List M) (h : List E) (e : E) → Picked x legal many seed d now h
      → 0 < length (ready_below legal (leads x now h) many) → legal (leads x now h) (get_or (ready_below legal (leads x now h) many) (place_of seed (next_draw seed (draws seed d (length h))) (length (ready_below legal (leads x now h) many))) 0) ≡ Some e
      → Picked x legal many seed d now (h ++ e ∷ [])
  picked_snoc d now [] e p any is = (any, is, tt)
  picked_snoc d now (f ∷ fs) e p any is = (p.0, p.1, picked_snoc (next_draw seed d) (x.after now f) fs e p.2 any is)

-- the list of those that have a legal entry
module _ {M E : Type 0} (legal : List M → ℕ → Option E) (now : List M) where
  pub one_more : (k : ℕ) (ps qs : List ℕ) (b : Bool) → ps ≡ ready_below legal now k → qs ≡ pushed_if b ps k → b ≡ is_some (legal now k) → qs ≡ ready_below legal now (k + 1)
  one_more k ps qs b before is has =
      let next : suc k ≡ k + 1 = omega arith in
      is ∙ ((λ i. pushed_if (has i) (before i) k) ∙ ap (ready_below legal now) next)

  pub pushed_long : (b : Bool) (ps : List ℕ) (p : ℕ) → length (pushed_if b ps p) ≤ length ps + 1
  pushed_long true [] p = omega arith
  pushed_long true (q ∷ qs) p = let r = pushed_long true qs p in omega arith
  pushed_long false ps p = omega arith

  pub all_ready : (k : ℕ) → All (λ a. (a < k) × (is_some (legal now a) ≡ true)) (ready_below legal now k)
  all_ready zero = All-nil _
  all_ready (suc k) = by_test (All-weaker (λ a. (a < k) × (is_some (legal now a) ≡ true)) (λ a. (a < suc k) × (is_some (legal now a) ≡ true)) (λ a h. (let b = h.0 in omega arith, h.1)) (ready_below legal now k) (all_ready k)) (is_some (legal now k)) refl where
    by_test : All (λ a. (a < suc k) × (is_some (legal now a) ≡ true)) (ready_below legal now k) → (b : Bool) → is_some (legal now k) ≡ b → All (λ a. (a < suc k) × (is_some (legal now a) ≡ true)) (pushed_if b (ready_below legal now k) k)
    by_test more true h = All-push (λ a. (a < suc k) × (is_some (legal now a) ≡ true)) (ready_below legal now k) k more (omega arith, h)
    by_test more false h = more

  -- where the list is empty nobody has one
  pub none_ready : (k : ℕ) → ready_below legal now k ≡ [] → (who : ℕ) → who < k → legal now who ≡ None
  none_ready zero e who b = absurd (omega arith)
  none_ready (suc k) e who b = by_test (λ e b. none_ready k e who b) (is_some (legal now k)) refl e where
    never : (ps : List ℕ) (p : ℕ) → ps ++ p ∷ [] ≡ [] → ⊥
    never [] p h = cc
    never (q ∷ qs) p h = cc

    is_none : (o : Option E) → is_some o ≡ false → o ≡ None
    is_none None h = refl
    is_none (Some x) h = absurd (cc)

    by_test : (ready_below legal now k ≡ [] → who < k → legal now who ≡ None) → (b : Bool) → is_some (legal now k) ≡ b → pushed_if b (ready_below legal now k) k ≡ [] → legal now who ≡ None
    by_test more true h none = absurd (never (ready_below legal now k) k none)
    by_test more false h none = dite (dec_le k who) (λ at. let same : who ≡ k = omega arith in ap (legal now) same ∙ is_none (legal now k) h) (λ below. more none (omega arith))

pub no_items : {A : Type 0} (xs : List A) → length xs ≡ 0 → xs ≡ []
no_items [] h = refl
no_items (x ∷ xs) h = absurd (omega arith)

-- what is known of the activities without asking them
module _ {M E : Type 0} (legal : List M → ℕ → Option E) (many : ℕ) where
  true_false : true ≡ false → ⊥
  true_false h = cc

  pub knows_none : (now : List M) (can stale : List Bool) → AllStale many can stale
      → Knows legal many now can stale
  knows_none now can stale all = record {
    long = all.0;
    marked = all.1;
    fresh = λ a l f. absurd (true_false (sym (all.2 a l) ∙ f));
  }

  pub knows_asked : (now : List M) (can stale : List Bool) (who : ℕ) (b : Bool) → who < many
      → b ≡ is_some (legal now who) → Knows legal many now can stale
      → Knows legal many now (set can who b) (set stale who false)
  knows_asked now can stale who b there is k = record {
    long = length-set can who b ∙ k.long;
    marked = length-set stale who false ∙ k.marked;
    fresh = λ a l f. dite (ℕ_discrete a who)
        (λ same. ap (λ z. get_or (set can who b) z false) same
        ∙ (get_or-set_same can who b false (subst (λ n. who < n) (sym k.long) there)
        ∙ (is ∙ ap (λ z. is_some (legal now z)) (sym same))))
        (λ other. get_or-set_other can who a b false other
        ∙ k.fresh a l (sym (get_or-set_other stale who a false false other) ∙ f));
  }

module _ {M E : Type 0} (x : Machine M E) (legal : List M → ℕ → Option E) (many : ℕ) where
  pub knows_after : (now : List M) (e : E) (can stale new : List Bool) → x.sound now
      → x.permits now e → length new ≡ length stale → Stirs x legal many e stale new
      → Knows legal many now can stale → Knows legal many (x.after now e) can new
  knows_after now e can stale new sound permits long stirs k = record {
    long = k.long;
    marked = long ∙ k.marked;
    fresh = λ a l f. let s = stirs a l f in k.fresh a l s.0 ∙ sym (s.1 now sound permits);
  }
