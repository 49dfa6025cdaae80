-- What a pass knows, and how each step changes it.
use Rattle.std.specs.Prelude.{◌≡◌, ℕ, ◌+◌, ◌⊎◌, List, [], ◌∷◌, ◌++◌, map, length, max, true, false}
use Rattle.std.specs.Prelude.{◌||◌}
use Rattle.be_hall.specs.declared.view.View.{View}
use Rattle.be_hall.specs.declared.view.Mark.{Mark}
use Rattle.be_hall.specs.declared.view.Commit.{Commit}
use Rattle.be_hall.specs.declared.view.About.{About}
use Rattle.be_hall.specs.Branches.{branch, parting_branches, parted_branches}
use Rattle.be_hall.specs.Numbers.{one_if, total}

module _ {M E : Type 0} where
  abbrev pub mark : ℕ → M → List (ℕ × E) → Mark M E
  mark p m l = record { place = p; meaning = m; log = l }

  abbrev pub commit : ℕ → E → List (ℕ × M) → Commit M E
  commit n e b = record { number = n; entry = e; before = b }

  abbrev pub Has : List (Mark M E) → Mark M E → Type 0
  Has [] y = ⊥
  Has (x ∷ xs) y = (x ≡ y) ⊎ Has xs y

  abbrev pub HasPlace : List (Mark M E) → ℕ → Type 0
  HasPlace xs p = (y : Mark M E) × Has xs y × (y.place ≡ p)

  abbrev pub but_last : List (Mark M E) → List (Mark M E)
  but_last [] = []
  but_last (x ∷ []) = []
  but_last (x ∷ y ∷ ys) = x ∷ but_last (y ∷ ys)

  -- what the marked parts mean
  abbrev pub known : List (Mark M E) → List (ℕ × M)
  known xs = map (λ x. (x.place, x.meaning)) xs

  -- their logs
  abbrev pub logs_of : List (Mark M E) → List (ℕ × List (ℕ × E))
  logs_of xs = map (λ x. (x.place, x.log)) xs

  -- how often the number stands in commits
  abbrev pub times : ℕ → List (Commit M E) → ℕ
  times n [] = 0
  times n (c ∷ cs) = one_if c.number n + times n cs

module _ {P M E : Type 0} where
  abbrev pub blank : About P M → View P M E
  blank a =
      record {
        about = a ∷ [];
        seen = 0;
        own = [];
        ended = [];
        marks = [];
        missed = [];
        had = [];
        met = [];
        branches = branch 0 0 ∷ [];
        raised = false;
        knows = false;
        quiet = 0;
      }

  abbrev pub marking : View P M E → Mark M E → View P M E
  marking v y =
      record {
        about = v.about;
        seen = v.seen;
        own = v.own;
        ended = v.ended;
        marks = v.marks ++ y ∷ [];
        missed = v.missed;
        had = v.had ++ y.place ∷ [];
        met = v.met;
        branches = v.branches;
        raised = v.raised;
        knows = v.knows;
        quiet = v.quiet;
      }

  abbrev pub missing : View P M E → ℕ → View P M E
  missing v p =
      record {
        about = v.about;
        seen = v.seen;
        own = v.own;
        ended = v.ended;
        marks = v.marks;
        missed = v.missed ++ p ∷ [];
        had = v.had;
        met = v.met;
        branches = v.branches;
        raised = v.raised;
        knows = v.knows;
        quiet = v.quiet;
      }

  abbrev pub letting_go : View P M E → View P M E
  letting_go v =
      record {
        about = v.about;
        seen = v.seen;
        own = v.own;
        ended = v.ended;
        marks = but_last v.marks;
        missed = v.missed;
        had = v.had;
        met = v.met;
        branches = v.branches;
        raised = v.raised;
        knows = v.knows;
        quiet = v.quiet;
      }

  abbrev pub committing : View P M E → ℕ → E → List (Mark M E) → View P M E
  committing v n e ys =
      record {
        about = v.about;
        seen = n;
        own = v.own ++ commit n e (known v.marks) ∷ [];
        ended = v.ended;
        marks = ys;
        missed = v.missed;
        had = v.had;
        met = v.met;
        branches = v.branches;
        raised = v.raised;
        knows = v.knows;
        quiet = v.quiet;
      }

  -- a pass from which another is split off
  abbrev pub parting : View P M E → View P M E
  parting v =
      record {
        about = v.about;
        seen = v.seen;
        own = v.own;
        ended = v.ended;
        marks = v.marks;
        missed = v.missed;
        had = v.had;
        met = v.met;
        branches = parting_branches v.branches;
        raised = v.raised;
        knows = v.knows;
        quiet = v.quiet;
      }

  -- the new pass has seen as much, and nothing else
  abbrev pub parted : View P M E → View P M E
  parted v =
      record {
        about = v.about;
        seen = v.seen;
        own = [];
        ended = [];
        marks = [];
        missed = [];
        had = [];
        met = [];
        branches = parted_branches v.branches;
        raised = false;
        knows = false;
        quiet = 0;
      }

  abbrev pub joined : View P M E → View P M E → View P M E
  joined v w =
      record {
        about = v.about;
        seen = max v.seen w.seen;
        own = v.own;
        ended = v.ended ++ w.own ∷ w.ended;
        marks = v.marks;
        missed = v.missed;
        had = v.had;
        met = v.met ++ (w.had ++ w.met);
        branches = v.branches ++ w.branches;
        raised = v.raised || w.raised;
        knows = v.knows || w.knows;
        quiet = v.quiet;
      }

  -- what is left of a pass that was joined into another
  abbrev pub spent : View P M E
  spent =
      record {
        about = [];
        seen = 0;
        own = [];
        ended = [];
        marks = [];
        missed = [];
        had = [];
        met = [];
        branches = [];
        raised = false;
        knows = false;
        quiet = 0;
      }

  abbrev pub raising : View P M E → View P M E
  raising v =
      record {
        about = v.about;
        seen = v.seen;
        own = v.own;
        ended = v.ended;
        marks = v.marks;
        missed = v.missed;
        had = v.had;
        met = v.met;
        branches = v.branches;
        raised = true;
        knows = true;
        quiet = v.quiet;
      }

  abbrev pub hearing : View P M E → View P M E
  hearing v =
      record {
        about = v.about;
        seen = v.seen;
        own = v.own;
        ended = v.ended;
        marks = v.marks;
        missed = v.missed;
        had = v.had;
        met = v.met;
        branches = v.branches;
        raised = v.raised;
        knows = true;
        quiet = v.quiet;
      }

  abbrev pub unheard : View P M E → View P M E
  unheard v =
      record {
        about = v.about;
        seen = v.seen;
        own = v.own;
        ended = v.ended;
        marks = v.marks;
        missed = v.missed;
        had = v.had;
        met = v.met;
        branches = v.branches;
        raised = v.raised;
        knows = v.knows;
        quiet = v.quiet + 1;
      }

  -- how many commits a pass has, and those that were joined into it
  abbrev pub gathered : View P M E → ℕ
  gathered v = length v.own + total length v.ended

  -- how often the number stands in them
  abbrev pub counted : ℕ → View P M E → ℕ
  counted n v = times n v.own + total (times n) v.ended
