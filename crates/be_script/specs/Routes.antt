-- What is looked up of a script's windows and bodies, and that it is the script's.
use Rattle.std.specs.Prelude.{◌≡◌, ℕ, ◌<◌, ◌==◌, Bool, ◌&&◌, List, length, Option, None, slice_get}
use Rattle.std.specs.Prelude.{slice_index_or, option_and_then}
use Rattle.std.specs.List.{position_from}
use Rattle.be_handler.specs.declared.Route.{Route}
use Rattle.be_handler.specs.declared.Route.TheVariants.{Skipped, Handler, Unknown}
use Rattle.be_handler.specs.Routes.{Chain, same_target, route_of}
use Rattle.be_message.specs.declared.target.Target.{Target}
use Rattle.be_script.specs.declared.BodyLine.{BodyLine}
use Rattle.be_script.specs.declared.costs.body_numbers.BodyNumbers.{BodyNumbers}
use Rattle.be_script.specs.declared.costs.routes.Handlers.{Handlers}
use Rattle.be_script.specs.declared.costs.routes.Routes as declared
use Rattle.be_script.specs.BodyNumbers.{number_of}
use Rattle.be_script.specs.Script.{Declared}
use Rattle.be_script.specs.Windows.{chain_of}

-- a window's chain, with the count of its views
abbrev pub handlers_with : Chain → Handlers
handlers_with c = record { chain = c; views = length c.parents }

-- each window that is declared has its chain
pub record HasChains (d : Declared) (windows : List Handlers) : Type 0 where
  pub count : length windows ≡ length d.windows
  pub chains : (w : ℕ) (any : Handlers) → w < length windows
      → slice_index_or windows w any ≡ handlers_with (chain_of d w)

-- the body of this handler for this word
abbrev pub is_body_at : ℕ → Target → ℕ → BodyLine → Bool
is_body_at w target what line =
    line.window == w && same_target line.target target && line.what == what

-- a body's number is its place
abbrev pub HasNumbers : List BodyLine → BodyNumbers → Type 0
HasNumbers bodies numbers =
    (w : ℕ) (target : Target) (what : ℕ)
    → number_of numbers w target what ≡ position_from (is_body_at w target what) 0 bodies

pub record HasRoutes (d : Declared) (routes : declared.Routes) : Type 0 where
  pub windows : HasChains d routes.windows.items
  pub bodies : HasNumbers d.bodies routes.bodies

-- ---- where a message goes

abbrev pub handled_number : BodyNumbers → ℕ → ℕ → Route → Option ℕ
handled_number numbers w what (Handler target) = number_of numbers w target what
handled_number numbers w what Skipped = None
handled_number numbers w what Unknown = None

-- the number of the body to which a message is routed
abbrev pub routed_number : declared.Routes → ℕ → Target → ℕ → Option ℕ
routed_number routes w target what =
    option_and_then (λ h. handled_number routes.bodies w what (route_of h.chain what target))
    (slice_get routes.windows.items w)
