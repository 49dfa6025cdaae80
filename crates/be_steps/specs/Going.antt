-- Where a runner goes on to.
use Rattle.std.specs.Prelude.{◌≡◌, ℕ, Bool, true, false, List, Some}
use Rattle.be_actor.specs.declared.Place.{Place}
use Rattle.be_actor.specs.declared.Wish.{Wish}
use Rattle.be_asking.specs.Wants.{runner_in}
use Rattle.be_asking.specs.declared.activity.Runner.{Runner}
use Rattle.be_asking.specs.declared.activity.Runner.TheVariants.{App, Looper}
use Rattle.be_asking.specs.declared.want.Request.{Request}
use Rattle.be_asking.specs.declared.want.Request.TheVariants as request
use Rattle.be_hall.specs.Hands.{Hand, part_at}
use Rattle.be_machine.specs.Program.{app_gone_on, looper_gone_on}
use Rattle.be_machine.specs.Touched.{own_part}
use Rattle.be_looper.specs.Duties.{duty_after_forward}
use Rattle.be_machine.specs.Looper.{with_duty_by}
use Rattle.be_parts.specs.Effects.{app_at, app_told, app_with, looper_with}
use Rattle.be_reply.specs.Cells.{waiting}
use Rattle.be_parts.specs.Kept.{Kept}
use Rattle.be_parts.specs.Loopers.{at_place}
use Rattle.be_parts.specs.Parts.{hand_with}
use Rattle.be_parts.specs.declared.part.Part.{Part}
use Rattle.be_parts.specs.declared.part.Part.TheVariants as kinds
use Rattle.be_rules.specs.Places.{place_of}
use Rattle.be_rules.specs.Slices.{Slice}
use Rattle.be_script.specs.Script.{Declared}

-- a runner's part, as it is stored
abbrev pub own_kind : Runner → Kept → Part
own_kind (App m) = kinds.Cell
own_kind (Looper w) = kinds.Looper

-- it is in hand
abbrev pub HasOwn : Declared → List (ℕ × Part) → Runner → Type 0
HasOwn d parts runner =
    (k : Kept)
    × (part_at parts (place_of d (own_part (runner_in runner))) ≡ Some (own_kind runner k))

-- the runner is at this place of its program, which the code computes before the part is lent to be
-- changed
abbrev pub gone_to : Runner → Place → Slice → Slice
gone_to (App m) place = app_at place
gone_to (Looper w) place = looper_with (at_place place)

-- the runner was granted what it asked for, and is past it
abbrev pub gone_past : Declared → Runner → Bool → Wish → Slice → Slice
gone_past d (App m) accepted wish = app_with (app_gone_on d m accepted wish)
gone_past d (Looper w) accepted wish = looper_with (looper_gone_on d w accepted wish)

-- at this place it is
abbrev pub IsPast : Declared → Runner → Slice → Bool → Wish → Place → Type 0
IsPast d runner slice accepted wish place =
    gone_to runner place slice ≡ gone_past d runner accepted wish slice

-- The runner's part was changed so, and then is at this place of its program. All else is as it
-- was.
abbrev pub HasGoneFrom :
    Declared → Runner → (Slice → Slice) → Place → Hand Part → Hand Part → Type 0
HasGoneFrom d runner f place old new =
    (was is : Kept)
    × (part_at old.parts (place_of d (own_part (runner_in runner))) ≡ Some (own_kind runner was))
    × (new ≡ hand_with old (place_of d (own_part (runner_in runner))) (own_kind runner is))
    × (is.slice ≡ gone_to runner place (f was.slice)) × (is.log ≡ was.log)

abbrev pub HasGone : Declared → Runner → Place → Hand Part → Hand Part → Type 0
HasGone d runner = HasGoneFrom d runner (λ slice. slice)

-- an application waits for the reply to what it sent
abbrev pub waiting_in : Runner → Slice → Slice
waiting_in (App m) = app_told (λ _. waiting)
waiting_in (Looper w) = λ slice. slice

-- the duty of the letter in a looper's hand went along with what was forwarded
abbrev pub handed_on_in : Runner → Slice → Slice
handed_on_in (App m) = λ slice. slice
handed_on_in (Looper w) = looper_with (with_duty_by duty_after_forward)

-- what a post makes of its runner's part before that goes on, where the port took the letter or
-- didn't
abbrev pub settled_in : Request → Bool → Runner → Slice → Slice
settled_in (request.Send w target draft) true runner = waiting_in runner
settled_in (request.Send w target draft) false runner = λ slice. slice
settled_in (request.Forward w target) true runner = handed_on_in runner
settled_in (request.Forward w target) false runner = λ slice. slice
settled_in (request.Post w target draft) accepted runner = λ slice. slice
settled_in (request.Note text) accepted runner = λ slice. slice
settled_in (request.Reply draft) accepted runner = λ slice. slice
settled_in request.Claim accepted runner = λ slice. slice
settled_in (request.Lock w) accepted runner = λ slice. slice
settled_in request.Unlock accepted runner = λ slice. slice
settled_in request.Flush accepted runner = λ slice. slice
settled_in request.SyncDone accepted runner = λ slice. slice
settled_in (request.Draw command) accepted runner = λ slice. slice
