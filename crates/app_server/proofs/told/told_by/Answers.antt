use Rattle.std.proofs.Common.{◌+◌, ◌≤◌, ℕ, List, Err, arith, length, subst}
use Rattle.app_server.proofs.Parted.{fault_within, too_long}
use Rattle.be_reader.specs.declared.fault.ScriptFault.{ScriptFault}
use Rattle.be_reader.specs.declared.fault.ScriptFault.TheVariants.{At}
use Rattle.be_report.specs.Outcomes.{IsHistory}
use Rattle.be_report.specs.Told.{entries_of}
use Rattle.be_script.specs.Script.{declared_by}
use Rattle.app_server.proofs.told.told_by.Goals as goal

pub returns-then-bytes-gt-MOST-clause-told : goal.returns-then-bytes-gt-MOST-clause-told
returns-then-bytes-gt-MOST-clause-told c = too_long c.args.bytes.now c.if-bytes-gt-MOST.true

pub overflow_add-result : goal.overflow_add-result
overflow_add-result c =
    let d = declared_by c.in_ok-script.script in
    let report : List ℕ = c.split_at.result.1.now in
    let both : IsHistory (entries_of d report) (Err (At c.in-Err-At.line c.in-Err-At.reason)) =
    subst (λ (f : ScriptFault). IsHistory (entries_of d report) (Err f)) c.in-Err-At.field-0-is
    c.in-Err-At.ensures in
    let le : c.in-Err-At.line ≤ length report + 2 =
    fault_within d report c.in-Err-At.line both.0 in
    let few : c.parts-before.result.0 ≤ length c.args.bytes.now = c.parts-before.ensures.few in
    let most : length c.args.bytes.now ≤ 67108864 = omega (arith, c.if-bytes-gt-MOST.false) in
    let part = c.split_at.ensures.back_len in
    omega arith
