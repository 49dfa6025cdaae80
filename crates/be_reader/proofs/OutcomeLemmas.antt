-- What a script says that is whole.
use Rattle.std.proofs.Common.{◌≡◌, ℕ, Bool, true, false, cond, Option, Some, None, option_map, refl, ap, sym, subst}
use Rattle.be_said.specs.SoFar.{is_closed, SoFar, declared_in}
use Rattle.be_said.specs.Whole.{said_by, whole}
use Rattle.be_script.specs.declared.Script.{Script}
use Rattle.be_script.specs.Routable.{IsRoutable}
use Rattle.be_script.specs.Script.{declared_by}

whole_is : (closed : Bool) (screen : Option (ℕ × ℕ)) (said x : SoFar) → Some x ≡ cond closed (option_map (λ size. said) screen) None → (closed ≡ true) × (x ≡ said)
whole_is true (Some size) said x e = (refl, (cc))
whole_is true None said x e = (cc)
whole_is false screen said x e = (cc)

pub whole_routable : (said : SoFar) (script : Script) → Some (said_by script) ≡ whole said →
    ((size : ℕ × ℕ) → said.screen ≡ Some size → is_closed said.begun ≡ true → IsRoutable (declared_in said size)) → IsRoutable (declared_by script)
whole_routable said script e routable =
    let parts = whole_is (is_closed said.begun) said.screen said (said_by script) e in
    subst (λ (s : SoFar). IsRoutable (declared_in s script.screen)) (sym parts.1)
    (routable script.screen (ap (λ (s : SoFar). s.screen) (sym parts.1)) parts.0)
