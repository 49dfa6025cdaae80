-- What one view hears of the pointer while it moves: visits, from an entry to an exit.
use Rattle.std.specs.Prelude.{◌≡◌, ℕ, pos, Bool, true, false, ◌==◌, ◌&&◌, List, [], ◌∷◌, ◌++◌}
use Rattle.std.specs.Prelude.{filter, map, option_to_list, Option, Some, None, Ok, slice_get, codes}
use Rattle.be_geom.specs.declared.point.Point.{Point}
use Rattle.be_message.specs.declared.kind.Kind.TheVariants as kind
use Rattle.be_message.specs.declared.target.Target.{Target}
use Rattle.be_message.specs.declared.target.Target.TheVariants as target
use Rattle.be_message.specs.Fields.{found}
use Rattle.be_message.specs.Messages.{Message, int}
use Rattle.be_message.specs.Words.{mouse_moved}
use Rattle.be_stack.specs.Windows.{Windows}
use Rattle.be_views.specs.Trees.{Tree}
use Rattle.be_views.specs.Whole.{AreParentsFirst}
use Rattle.be_input.specs.declared.Event.TheVariants.{Move}
use Rattle.be_input.specs.Deliveries.{Post, Delivery, delivered, place_in}
use Rattle.be_input.specs.Pointing.{Pointing, corner_of, under_pointer}

-- ---- what is heard

-- the post goes to this view of this window
abbrev pub is_view : ℕ → Target → Bool
is_view v target.Window = false
is_view v (target.View u) = u == v
is_view v (target.Plain h) = false

abbrev pub is_for : ℕ × ℕ → Post → Bool
is_for at post = post.window == at.0 && is_view at.1 post.target

abbrev pub posts_of : Delivery → List Post
posts_of d = option_to_list d.first ++ option_to_list d.second

-- the messages to a view, in order
abbrev pub told_to : ℕ × ℕ → List Post → List Message
told_to at posts = map (λ post. post.message) (filter (is_for at) posts)

-- The messages to a view while the pointer moves to these places in a row. Each move is delivered
-- with what is remembered of the one before; windows and views stay.
abbrev pub heard_by : ℕ × ℕ → Windows → Pointing → List Point → List Message
heard_by at windows pointing [] = []
heard_by at windows pointing (p ∷ places) =
    let d = delivered windows pointing (Move p) in
    told_to at (posts_of d) ++ heard_by at windows (record pointing { under = d.under }) places

-- ---- visits

-- a message that the mouse moved, in which a program finds this transit: 0 where the pointer
-- entered, 1 where it is inside, 2 where it exited
pub record HasTransit (transit : ℕ) (m : Message) : Type 0 where
  pub what : m.what ≡ mouse_moved
  pub transit_is : found m (codes "transit") kind.Int 0 ≡ Ok (int (pos transit))

-- Messages in a row are visits: from without, the pointer enters; from within, it is inside again,
-- or exits. First whether it is in the view before them, last whether it is afterwards.
pub data AreVisits : Bool → List Message → Bool → Type 0 where
  ended : (within : Bool) → AreVisits within [] within
  entered : (m : Message) (rest : List Message) (last : Bool) → HasTransit 0 m
      → AreVisits true rest last → AreVisits false (m ∷ rest) last
  inside : (m : Message) (rest : List Message) (last : Bool) → HasTransit 1 m
      → AreVisits true rest last → AreVisits true (m ∷ rest) last
  exited : (m : Message) (rest : List Message) (last : Bool) → HasTransit 2 m
      → AreVisits false rest last → AreVisits true (m ∷ rest) last

-- ---- where the pointer is

-- it is over this view
abbrev pub is_over : ℕ × ℕ → Option (ℕ × ℕ) → Bool
is_over at (Some under) = under.0 == at.0 && under.1 == at.1
is_over at None = false

-- the view under the last of these places; where there is none, the one before
abbrev pub under_last : Windows → List Tree → Option (ℕ × ℕ) → List Point → Option (ℕ × ℕ)
under_last windows trees before [] = before
under_last windows trees before (p ∷ places) =
    under_last windows trees (under_pointer windows trees p) places

-- the view is there: its window has a corner, and it a place in the window
pub record IsThere (windows : Windows) (trees : List Tree) (at : ℕ × ℕ) : Type 0 where
  pub corner : Point
  pub corner_is : corner_of windows at.0 ≡ Some corner
  pub place : Point
  pub place_is : place_in trees at ≡ Some place

-- in each window parents stand before their children
abbrev pub AreAllParentsFirst : List Tree → Type 0
AreAllParentsFirst trees =
    (w : ℕ) (tree : Tree) → slice_get trees w ≡ Some tree → AreParentsFirst tree

-- Whatever the moves, each view hears visits alone: they begin within exactly where it is the one
-- that was remembered, and end within exactly where it is under the last place. A view that was
-- remembered has to be there.
abbrev pub HearsOfVisits : Type 0
HearsOfVisits =
    (windows : Windows) (pointing : Pointing) → AreAllParentsFirst pointing.trees →
    (at : ℕ × ℕ) → (pointing.under ≡ Some at → IsThere windows pointing.trees at) →
    (places : List Point) →
    AreVisits (is_over at pointing.under) (heard_by at windows pointing places)
    (is_over at (under_last windows pointing.trees pointing.under places))
