-- How a window gets handlers, filters and bodies.
use Rattle.std.specs.Prelude.{ℕ, ◌==◌, Bool, true, ◌&&◌, nat_lt, List, [], ◌∷◌, ◌++◌, length}
use Rattle.std.specs.Prelude.{filter, Option, Some, None, if◌then◌else◌}
use Rattle.be_message.specs.declared.target.Target.{Target}
use Rattle.be_message.specs.declared.target.Target.TheVariants.{Window, View, Plain}
use Rattle.be_handler.specs.declared.Rule.{Rule}
use Rattle.be_handler.specs.declared.Rule.TheVariants.{Skip, Pass, Redirect}
use Rattle.be_handler.specs.Routes.{Chain, Filter, has_body}
use Rattle.be_handler.specs.Lists.{is_in_list}

-- no view yet
abbrev pub empty_chain : Chain
empty_chain = record { parents = []; nexts = []; filters = []; bodies = [] }

-- the window has this handler
abbrev pub is_there : Chain → Target → Bool
is_there c Window = true
is_there c (View v) = nat_lt v (length c.parents)
is_there c (Plain h) = nat_lt h (length c.nexts)

-- a new view may be put there: the first one has no parent, and each later one has a parent that is
-- there
abbrev pub is_parent : Chain → Option ℕ → Bool
is_parent c (Some parent) = nat_lt parent (length c.parents)
is_parent c None = length c.parents == 0

-- the handler whose list a filter is put in is there
abbrev pub has_owner : Chain → Option Target → Bool
has_owner c (Some owner) = is_there c owner
has_owner c None = true

-- the handler that a filter redirects to is there
abbrev pub has_end : Chain → Rule → Bool
has_end c (Redirect target) = is_there c target
has_end c Skip = true
has_end c Pass = true

-- a filter may be put there
abbrev pub is_place : Chain → Option Target → Rule → Bool
is_place c list rule = has_owner c list && has_end c rule

-- the filters of one list
abbrev pub listed : Chain → Option Target → List Filter
listed c list = filter (λ f. is_in_list list f.list) c.filters

abbrev pub with_view : Chain → Option ℕ → Chain
with_view c parent = record c { parents = c.parents ++ parent ∷ [] }

abbrev pub with_plain : Chain → Target → Chain
with_plain c next = record c { nexts = c.nexts ++ next ∷ [] }

abbrev pub with_filter : Chain → Filter → Chain
with_filter c f = record c { filters = c.filters ++ f ∷ [] }

abbrev pub with_new_body : Chain → Target → ℕ → Chain
with_new_body c target what =
    record c { bodies = c.bodies ++ record { target = target; what = what } ∷ [] }

-- a body that is there already changes nothing
abbrev pub with_body : Chain → Target → ℕ → Chain
with_body c target what = if has_body c what target then c else with_new_body c target what
