-- The opening state has all parts, and the tally of each window in it is the first one.
use Rattle.std.proofs.Common.{◌≡◌, ℕ, zero, suc, List, [], length, map, ◌*◌, Some, refl, sym, subst, ◌∙◌, arith}
use Rattle.std.specs.Prelude.{slice_get, replicate}
use Rattle.std.specs.List.{enumerate_from}
use Rattle.std.proofs.lemmas.List.{length-map, length-replicate}
use Rattle.std.proofs.lemmas.List.FromFn.{length-enumerate_from}
use Rattle.std.proofs.lemmas.Option.{same_Some, slice_get-map}
use Rattle.be_link.specs.Queues.{empty_buffer}
use Rattle.be_port.specs.Ports.{empty_port}
use Rattle.be_script.specs.Script.{Declared}
use Rattle.be_script.specs.declared.WindowLine.{WindowLine}
use Rattle.be_machine.specs.Orderly.{first_tally}
use Rattle.be_machine.specs.State.{free, opening_state}
use Rattle.be_machine.proofs.Found.{IsMapped, mapped}
use Rattle.be_machine.proofs.HasParts.{HasParts}
use Rattle.be_machine.proofs.Lists.{AtPlace}
use Rattle.be_machine.proofs.Tallied.{OfPort, OfLooper, OfBuffer, OfLink, IsTallied}

pub repeated : {X : Type 0} (n w : ℕ) (x y : X) → slice_get (replicate n x) w ≡ Some y → x ≡ y
repeated zero w x y e = cc
repeated (suc n) zero x y e = same_Some x y e
repeated (suc n) (suc w) x y e = repeated n w x y e

at_repeated : {X : Type 0} (P : X → Type 0) (n w : ℕ) (x : X) → P x → AtPlace P (replicate n x) w
at_repeated P n w x h y e = subst P (repeated n w x y e) h

pub at_mapped : {X Y : Type 0} (P : Y → Type 0) (f : X → Y) (xs : List X) (w : ℕ) → ((x : X) → P (f x)) → AtPlace P (map f xs) w
at_mapped P f xs w h y e =
    let at : IsMapped f (slice_get xs w) y = mapped f (slice_get xs w) y (sym (slice_get-map f xs w) ∙ e) in
    subst P at.is (h at.from)

pub parts_opening : (d : Declared) → HasParts d (opening_state d)
unfolding opening_state
parts_opening d = record {
  ports = length-map d.windows _;
  loopers = length-replicate (length d.windows) _;
  buffers = length-replicate (length d.windows) _;
  links = length-replicate (length d.windows) _;
  panes = length-map (enumerate_from 0 d.windows) _ ∙ length-enumerate_from 0 d.windows;
  apps = length-replicate (length d.apps) _;
  windows = length-map d.windows _;
  trees = length-map (enumerate_from 0 d.windows) _ ∙ length-enumerate_from 0 d.windows;
  focus = length-replicate (length d.windows) _;
  width = refl;
  height = refl;
  screen = length-replicate (d.width * d.height) _;
}

pub tallied_opening : (d : Declared) (w : ℕ) → IsTallied (opening_state d) w first_tally
unfolding opening_state
tallied_opening d w = record {
  port = at_mapped (OfPort first_tally) (λ (line : WindowLine). empty_port line.port) d.windows w (λ line. record { arrived_are = refl; taken_are = refl; within = omega arith });
  looper = at_repeated (OfLooper first_tally) (length d.windows) w free (record { handles = refl; locks = refl; replied = λ e. refl });
  buffer = at_repeated (OfBuffer first_tally) (length d.windows) w empty_buffer (record { made = refl; waiting = refl; numbers = tt });
  link = at_repeated (OfLink first_tally) (length d.windows) w [] (record { waiting = refl; numbers = tt });
}
