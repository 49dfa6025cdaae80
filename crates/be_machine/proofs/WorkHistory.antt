-- No history is longer than the work.
use Rattle.std.proofs.Common.{◌≡◌, ℕ, zero, suc, ◌+◌, ◌<◌, ◌≤◌, List, [], ◌∷◌, map, length, refl, ap, subst, ◌∙◌, arith}
use Rattle.std.specs.List.{enumerate_from}
use Rattle.std.proofs.lemmas.List.{length-map}
use Rattle.std.proofs.lemmas.Option.{same_Some}
use Rattle.be_script.specs.declared.WindowLine.{WindowLine}
use Rattle.be_script.specs.Limits.{IsWithinLimits}
use Rattle.be_script.specs.Script.{Declared}
use Rattle.be_script.specs.Windows.{tree_of}
use Rattle.be_script.specs.Work.{work_of}
use Rattle.be_machine.specs.declared.Entry.{Entry}
use Rattle.be_machine.specs.History.{AreLegalFrom, IsLegalHistory, state_from, state_after}
use Rattle.be_machine.specs.State.{State, opening_state}
use Rattle.be_machine.specs.Step.{step}
use Rattle.be_machine.proofs.Lists.{AtPlace}
use Rattle.be_machine.proofs.NumbersGrow.{Grows, IsRooted}
use Rattle.be_machine.proofs.NumbersSteps.{grows_step}
use Rattle.be_machine.proofs.WorkFalls.{HasShape, potential_falls}
use Rattle.be_machine.proofs.WorkOpening.{opening_potential}
use Rattle.be_machine.specs.Shares.{potential}

-- ---- the shape

pub shape_step : (d : Declared) (s : State) (e : Entry) → HasShape d s → HasShape d (step d s e)
shape_step d s e shape =
    let g : Grows 2 1 1 s (step d s e) = grows_step d s e in
    record { panes = g.panes ∙ shape.panes; ports = g.ports ∙ shape.ports; rooted = g.rooted shape.rooted }

each_mapped : {X Y : Type 0} (P : Y → Type 0) (f : X → Y) (xs : List X) → ((x : X) → P (f x)) → (w : ℕ) → AtPlace P (map f xs) w
each_mapped P f [] h w y e = cc
each_mapped P f (x ∷ xs) h zero y e = subst P (same_Some (f x) y e) (h x)
each_mapped P f (x ∷ xs) h (suc w) y e = each_mapped P f xs h w y e

enumerated : {X : Type 0} (k : ℕ) (xs : List X) → length (enumerate_from k xs) ≡ length xs
enumerated k [] = refl
enumerated k (x ∷ xs) = ap suc (enumerated (k + 1) xs)

tree_rooted : (d : Declared) (p : ℕ × WindowLine) → IsRooted (tree_of d p.0 p.1)
unfolding tree_of
tree_rooted d p = refl

pub shape_opening : (d : Declared) → HasShape d (opening_state d)
unfolding opening_state
shape_opening d = record {
  panes = length-map (enumerate_from 0 d.windows) _ ∙ enumerated 0 d.windows;
  ports = length-map d.windows _;
  rooted = each_mapped IsRooted (λ (p : ℕ × WindowLine). tree_of d p.0 p.1) (enumerate_from 0 d.windows) (tree_rooted d);
}

pub shape_from : (d : Declared) (s : State) (h : List Entry) → HasShape d s → HasShape d (state_from d s h)
unfolding state_from
shape_from d s [] shape = shape
shape_from d s (e ∷ es) shape = shape_from d (step d s e) es (shape_step d s e shape)

pub shape_after : (d : Declared) (h : List Entry) → HasShape d (state_after d h)
shape_after d h = shape_from d (opening_state d) h (shape_opening d)

-- ---- histories

-- every entry of a legal history costs one of the potential
pub history_pays : (d : Declared) (s : State) (h : List Entry) → IsWithinLimits d → HasShape d s → AreLegalFrom d s h → length h + potential d (state_from d s h) ≤ potential d s
unfolding AreLegalFrom state_from
history_pays d s [] limits shape legal = omega arith
history_pays d s (e ∷ es) limits shape legal =
    let falls : potential d (step d s e) < potential d s = potential_falls d s e limits shape legal.0 in
    let rest : length es + potential d (state_from d (step d s e) es) ≤ potential d (step d s e) = history_pays d (step d s e) es limits (shape_step d s e shape) legal.1 in
    omega (arith, falls, rest)

pub history_bound : (d : Declared) (h : List Entry) → IsWithinLimits d → IsLegalHistory d h → length h ≤ work_of d
history_bound d h limits legal = omega (arith, history_pays d (opening_state d) h limits (shape_opening d) legal, opening_potential d limits)
