use Rattle.std.proofs.Common.{◌≡◌, ℕ, ◌≤◌, List, Err, subst, arith, ◌∙◌}
use Rattle.be_made.specs.Made.{made}
use Rattle.be_reader.specs.Grammar.{script_of}
use Rattle.be_said.specs.SoFar.{SoFar}
use Rattle.app_server.proofs.drill.made_script.Goals as goal

pub unreachable-requires : goal.unreachable-requires
unreachable-requires c =
    let n = c.args.number in
    let fits = c.ranges.number.fits in
    let low : n ≤ 65535 = omega arith in
    let is = c.what_is_made_is_a_script.ensures n low in
    let bytes : c.as_slice.result.now ≡ made n = c.as_slice.ensures.value ∙ c.in_ok-text.ensures in
    let bad = rw c.in-Err-At.field-0-is at (c.in-Err-At.ensures {u = tt}).said in
    let fails =
    subst (λ (b : List ℕ). script_of b ≡ Err (record {
      line = c.in-Err-At.field-0-0;
      reason = c.in-Err-At.field-0-1;
    })) bytes bad in
    let reads = is.1.0 in
    absurd ((cc))
