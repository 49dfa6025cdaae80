use Rattle.std.proofs.Common.{◌≤◌, ◌*◌, sym, subst, arith}
use Rattle.be_hall.specs.Hands.{meant}
use Rattle.be_machine.specs.declared.Act.TheVariants as act
use Rattle.be_parts.specs.Parts.{meaning_of}
use Rattle.be_script.specs.Script.{declared_by}
use Rattle.be_asking.specs.Deeds.{MayAct}
use Rattle.be_asking.proofs.PostsAnswered.{few_arrived, needs_own_part, needs_port, posts, reach_own, reach_port}
use Rattle.be_asking.proofs.posting.may_post.Goals as goal

pub hop_of-requires : goal.hop_of-requires
hop_of-requires c = reach_own (declared_by c.args.script.now) c.args.held.now.parts c.args.number c.args.runner c.args.request c.args.w c.requires.asked c.requires.window

pub returns-in-Err : goal.returns-in-Err
returns-in-Err c = needs_own_part (declared_by c.args.script.now) c.args.held.now.parts c.args.number c.args.runner c.args.request c.args.w c.requires.asked c.requires.window c.in-Err.place c.in-Err.ensures.missing

pub find_port-requires : goal.find_port-requires
find_port-requires c = reach_port (declared_by c.args.script.now) c.args.held.now.parts c.args.number c.args.runner c.args.request c.args.w c.requires.asked c.requires.window

pub judge-requires : goal.judge-requires
judge-requires c =
    let few : c.port.result.now.last ≤ 2 * 4611686018427387904 =
    few_arrived (declared_by c.args.script.now) c.args.held.now.parts c.args.number c.args.runner c.args.request c.args.w c.requires.asked c.requires.window
    c.in-Ok-find_port.port.now c.in-Ok-find_port.ensures.there c.port.result.now c.port.ensures in
    omega arith

pub returns-in-Err-find_port : goal.returns-in-Err-find_port
returns-in-Err-find_port c = needs_port (declared_by c.args.script.now) c.args.held.now.parts c.args.number c.args.runner c.args.request c.args.w c.requires.asked c.requires.window c.in-Err-find_port.place c.in-Err-find_port.ensures.missing

pub returns-in-Ok-find_port : goal.returns-in-Ok-find_port
returns-in-Ok-find_port c =
    subst (λ n. MayAct (declared_by c.args.script.now) (meant meaning_of c.args.held.now.parts) c.args.number (act.Post c.args.w n)) (sym c.judge.ensures)
    (posts (declared_by c.args.script.now) c.args.held.now.parts c.args.number c.args.runner c.args.request c.args.w c.requires.asked c.requires.window
    c.in-Ok-find_port.port.now c.in-Ok-find_port.ensures.there c.port.result.now c.port.ensures c.queues_are_ports.ensures.answers c.in-Ok.hop
    c.in-Ok.ensures.hop)
